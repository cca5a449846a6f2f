-- Reasons of status codes (RFC 9110 section 15), and what the client gets in place of an answer.
use Rattle.std.specs.Prelude.{ℕ, List, [], ◌∷◌, ◌++◌, if◌then◌else◌, ◌==◌, codes, decimal, length}
use Rattle.http_model.specs.declared.Framing.TheVariants.{Length}
use Rattle.http_model.specs.Head.{Message, StatusLine}
use Rattle.http_model.specs.Finish.{length_field, close_field}

abbrev pub reasons : List (ℕ × List ℕ)
reasons =
    (200, codes "OK") ∷ (201, codes "Created") ∷ (202, codes "Accepted") ∷ (204, codes "No Content")
    ∷ (301, codes "Moved Permanently") ∷ (302, codes "Found") ∷ (303, codes "See Other") ∷ (304, codes "Not Modified")
    ∷ (307, codes "Temporary Redirect") ∷ (308, codes "Permanent Redirect")
    ∷ (400, codes "Bad Request") ∷ (401, codes "Unauthorized") ∷ (403, codes "Forbidden") ∷ (404, codes "Not Found")
    ∷ (405, codes "Method Not Allowed") ∷ (408, codes "Request Timeout") ∷ (410, codes "Gone")
    ∷ (413, codes "Payload Too Large") ∷ (429, codes "Too Many Requests")
    ∷ (500, codes "Internal Server Error") ∷ (501, codes "Not Implemented") ∷ (502, codes "Bad Gateway")
    ∷ (503, codes "Service Unavailable") ∷ (504, codes "Gateway Timeout") ∷ []

-- the reason that a table has for a code
abbrev pub reason_in : List (ℕ × List ℕ) → ℕ → List ℕ
reason_in [] code = codes "Other"
reason_in (row ∷ rows) code = if row.0 == code then row.1 else reason_in rows code

unfoldable pub reason_of : ℕ → List ℕ
reason_of code = reason_in reasons code

-- the text that a refusal shows a person
unfoldable pub refusal_body : ℕ → List ℕ
refusal_body code =
    codes "<html><body><h1>" ++ decimal code ++ 32 ∷ reason_of code ++ codes "</h1></body></html>\n"

-- what stands in place of an answer, before `connection: close` is added
abbrev pub refusal : ℕ → Message
refusal code =
    record {
      head = record {
        line = StatusLine (codes "HTTP/1.1") (decimal code) (reason_of code);
        fields = length_field (length (refusal_body code)) ∷ (codes "cache-control", codes "no-cache") ∷ (codes "content-type", codes "text/html") ∷ [];
      };
      framing = Length (length (refusal_body code));
      body = refusal_body code;
      trailers = [];
    }

-- the message with `connection: close` behind its fields
abbrev pub closing : Message → Message
closing m =
    record {
      head = record { line = m.head.line; fields = m.head.fields ++ close_field ∷ [] };
      framing = m.framing;
      body = m.body;
      trailers = m.trailers;
    }
