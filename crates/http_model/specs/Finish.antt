-- What becomes of the fields that frame a message and keep its connection before it is sent (RFC 9110 section 7.6.1, RFC 9112 section 6).
use Rattle.std.specs.Prelude.{ℕ, List, [], ◌∷◌, ◌++◌, Bool, true, false, Option, Some, None, codes, decimal}
use Rattle.http_model.specs.declared.Framing.{Framing}
use Rattle.http_model.specs.declared.Framing.TheVariants.{Absent, Length, Chunked, ToClose}
use Rattle.http_model.specs.Head.{Field, Head}
use Rattle.http_model.specs.Fields.{without_each}

-- the fields that frame a message or speak of its connection: no rule makes them, and each hop writes its own
abbrev pub framing_names : List (List ℕ)
framing_names =
    codes "connection" ∷ codes "keep-alive" ∷ codes "proxy-connection" ∷ codes "te" ∷ codes "upgrade"
    ∷ codes "transfer-encoding" ∷ codes "content-length" ∷ []

-- the names that no element of Connection takes away, and that no trailer brings
abbrev pub own_names : List (List ℕ)
own_names = codes "host" ∷ framing_names

abbrev pub length_field : ℕ → Field
length_field n = (codes "content-length", decimal n)

abbrev pub chunked_field : Field
chunked_field = (codes "transfer-encoding", codes "chunked")

abbrev pub close_field : Field
close_field = (codes "connection", codes "close")

-- the field that tells a framing; an absent body of a response may still have its length declared
abbrev pub framing_fields : Framing → Option ℕ → List Field
framing_fields Absent None = []
framing_fields Absent (Some n) = length_field n ∷ []
framing_fields (Length n) declared = length_field n ∷ []
framing_fields Chunked declared = chunked_field ∷ []
framing_fields ToClose declared = []

-- `connection: close`, where the connection isn't kept
abbrev pub close_fields : Bool → List Field
close_fields true = close_field ∷ []
close_fields false = []

-- the head as a server is sent it: each server connection carries one request
abbrev pub finish_request : Head → Framing → Head
finish_request head framing =
    record { line = head.line; fields = without_each framing_names head.fields ++ (framing_fields framing None ++ close_field ∷ []) }

-- the head as a client is sent it
abbrev pub finish_response : Head → Framing → Option ℕ → Bool → Head
finish_response head framing declared close =
    record { line = head.line; fields = without_each framing_names head.fields ++ (framing_fields framing declared ++ close_fields close) }

-- an interim response as a client is sent it (RFC 9110 section 15.2)
abbrev pub finish_interim : Head → Head
finish_interim head = record { line = head.line; fields = without_each framing_names head.fields }

-- ---- the framing in which a body is sent

-- a body whose bytes are replaced has no length that is known before its end
abbrev pub request_framing : (replaces : Bool) → Framing → Framing
request_framing true (Length n) = Chunked
request_framing replaces framing = framing

-- An HTTP/1.1 client is sent chunks where the length isn't known, an HTTP/1.0 client is sent bytes up to the close.
abbrev pub response_framing : (replaces knows_chunks : Bool) → Framing → Framing
response_framing replaces knows_chunks framing = for_client knows_chunks (request_framing replaces framing)
  where
    for_client : Bool → Framing → Framing
    for_client true ToClose = Chunked
    for_client false Chunked = ToClose
    for_client knows other = other
