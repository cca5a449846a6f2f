-- The parts of a refusal.
use Rattle.std.specs.Prelude.{ℕ, [], ◌∷◌, codes, decimal}
use Rattle.http_model.specs.Head.{Head, StatusLine}
use Rattle.http_model.specs.Finish.{length_field}
use Rattle.http_model.specs.Refusal.{reason_of}

-- the head of a refusal whose body has so many bytes
abbrev pub refusal_head : (code body_len : ℕ) → Head
refusal_head code body_len =
    record {
      line = StatusLine (codes "HTTP/1.1") (decimal code) (reason_of code);
      fields = length_field body_len ∷ (codes "cache-control", codes "no-cache") ∷ (codes "content-type", codes "text/html") ∷ [];
    }

-- what such a head weighs at most
abbrev pub most_refusal_head : ℕ
most_refusal_head = 200
