-- The generated session of a seed and a number of exchanges.
use Rattle.std.specs.Prelude.{ℕ, ◌+◌, List, [], ◌∷◌, ◌++◌, map, replicate, codes, decimal, Option, Some, None}
use Rattle.http_model.specs.declared.Ending.TheVariants.{Closed}
use Rattle.rec_format.specs.Entries.{ServerEntry}
use Rattle.rec_format.specs.Recorded.{Visit}
use Rattle.htx_drive.specs.Drill.Plan.{Plan, plans_of}

-- the configuration: a rule that counts the values of a field of the request, and one that removes a field of the response
unfoldable pub configuration : List ℕ
configuration =
    codes "listen p\n  bind 127.0.0.1:8080\n  server s 127.0.0.1:8081\n  http-request set-header x-drill %[req.hdr_cnt(f0)]\n  http-response del-header server\n"

-- the lines of fields whose values have these lengths, which are numbered on from this number
abbrev pub field_lines : ℕ → List ℕ → List ℕ
field_lines number [] = []
field_lines number (length ∷ lengths) =
    (codes "f" ++ (decimal number ++ (codes ": " ++ (replicate length 97 ++ codes "\r\n")))) ++ field_lines (number + 1) lengths

-- a body of so many bytes, and in front of it the line that says so
abbrev pub body_lines : ℕ → ℕ → List ℕ
body_lines length byte = codes "Content-Length: " ++ (decimal length ++ (codes "\r\n\r\n" ++ replicate length byte))

-- the request of the exchange of this number
abbrev pub request_text : ℕ → Plan → List ℕ
request_text number plan =
    (codes "POST /d/" ++ (decimal number ++ codes " HTTP/1.1\r\nHost: d\r\n")) ++ (field_lines 0 plan.fields ++ body_lines plan.request 120)

-- the requests of exchanges, which are numbered on from this number
abbrev pub requests_text : ℕ → List Plan → List ℕ
requests_text number [] = []
requests_text number (plan ∷ plans) = request_text number plan ++ requests_text (number + 1) plans

-- the response of an exchange
abbrev pub response_text : Plan → List ℕ
response_text plan = codes "HTTP/1.1 200 OK\r\nServer: d\r\n" ++ body_lines plan.response 121

-- the server of an exchange, which takes all that it is sent
abbrev pub server_of : Plan → Option ServerEntry
server_of plan = Some (record { stream = record { bytes = response_text plan; ending = Closed }; takes = None })

-- The session: all requests are one client's stream, and each response is a server's.
unfoldable pub drill_of : (seed exchanges : ℕ) → Visit
drill_of seed exchanges =
    let plans = plans_of exchanges seed in
    record { client = record { bytes = requests_text 1 plans; ending = Closed }; servers = map server_of plans }
