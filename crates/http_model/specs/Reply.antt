-- What a reply of the rules begins with, and a redirect (RFC 9110 section 15.4).
use Rattle.std.specs.Prelude.{ℕ, List, [], ◌∷◌, ◌++◌, Option, Some, None, codes, decimal}
use Rattle.http_model.specs.declared.Framing.TheVariants.{Length}
use Rattle.http_model.specs.Head.{Field, Head, StatusLine, Message}
use Rattle.http_model.specs.Finish.{length_field}
use Rattle.http_model.specs.Refusal.{reason_of}

-- the length, where it is told
abbrev pub told_length : Option ℕ → List Field
told_length None = []
told_length (Some n) = length_field n ∷ []

-- the type of a payload, where there is one
abbrev pub told_type : Option (List ℕ) → List Field
told_type None = []
told_type (Some content_type) = (codes "content-type", content_type) ∷ []

-- what a reply begins with: its status with the reason of the table, its length and its type where they are told
abbrev pub reply_head : (code : ℕ) → (content_type : Option (List ℕ)) → Option ℕ → Head
reply_head code content_type size =
    record {
      line = StatusLine (codes "HTTP/1.1") (decimal code) (reason_of code);
      fields = told_length size ++ told_type content_type;
    }

-- the head with more fields behind its own
abbrev pub with_fields : List Field → Head → Head
with_fields fields head = record { line = head.line; fields = head.fields ++ fields }

-- the redirect to a location
abbrev pub redirect_reply : (code : ℕ) → (location : List ℕ) → Message
redirect_reply code location =
    record {
      head = with_fields ((codes "location", location) ∷ []) (reply_head code None (Some 0));
      framing = Length 0;
      body = [];
      trailers = [];
    }
