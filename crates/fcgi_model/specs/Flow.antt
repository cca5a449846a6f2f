-- A request byte by byte: what the bytes so far ask of an application.
use Rattle.std.specs.Prelude.{◌≡◌, ℕ, if◌then◌else◌, List, [], ◌∷◌, ◌++◌, Option, Some, None}
use Rattle.std.specs.List.{fold}
use Rattle.http_model.specs.declared.Framing.{Framing}
use Rattle.fcgi_record.specs.declared.record_kind.RecordKind.TheVariants.{Stdin}
use Rattle.fcgi_model.specs.declared.refusal.Refusal.{Refusal}
use Rattle.fcgi_model.specs.declared.refusal.Refusal.TheVariants.{BadHead, LongPair}
use Rattle.fcgi_model.specs.Application.{Application}
use Rattle.fcgi_model.specs.Head.{RequestHead, head_of, ends_head, framing_of}
use Rattle.fcgi_model.specs.Pairs.{pairs_of}
use Rattle.fcgi_model.specs.Records.{begin_record, record_bytes, params_of, CarriesBody}
use Rattle.fcgi_model.specs.Body.{Place, body_at, leads, adds, is_whole}

-- what is asked
pub data Asked : Type 0 where
  -- nothing yet: the head isn't whole behind these bytes of it
  InHead : (text : List ℕ) → Asked
  -- these records in front of the body, and so much of the body, which stands there
  Behind : (front body : List ℕ) → (place : Place) → Asked
  -- nothing, for this reason
  Refused : Refusal → Asked

-- behind a head whose pairs were packed
abbrev pub asked_with : Place → Option (List ℕ) → Asked
asked_with place None = Refused LongPair
asked_with place (Some params) = Behind (begin_record ++ params) [] place

abbrev pub asked_framed : Application → RequestHead → Option Framing → Asked
asked_framed application head None = Refused BadHead
asked_framed application head (Some framing) = asked_with (body_at framing) (params_of (pairs_of application head framing))

abbrev pub asked_headed : Application → Option RequestHead → Asked
asked_headed application None = Refused BadHead
asked_headed application (Some head) = asked_framed application head (framing_of head.fields)

-- behind the text of a head
abbrev pub asked_behind : Application → (text : List ℕ) → Asked
asked_behind application text = asked_headed application (head_of text)

-- behind one more byte
abbrev pub next : Application → Asked → ℕ → Asked
next application (InHead text) b = if ends_head (text ++ b ∷ []) then asked_behind application (text ++ b ∷ []) else InHead (text ++ b ∷ [])
next application (Behind front body place) b = Behind front (body ++ (if adds place then b ∷ [] else [])) (leads place b)
next application (Refused why) b = Refused why

-- what the bytes of a request ask, of this application
abbrev pub asked_of : Application → List ℕ → Asked
asked_of application bytes = fold (next application) (InHead []) bytes

-- the last record of a body, once it is whole
abbrev pub body_end : Place → List ℕ
body_end place = if is_whole place then record_bytes Stdin [] else []

-- Records that ask this: none in front of the end of the head. The cuts of the body are free.
abbrev pub IsSent : Asked → List ℕ → Type 0
IsSent (InHead text) sent = sent ≡ []
IsSent (Behind front body place) sent = (stdin : List ℕ) × CarriesBody body stdin × (sent ≡ front ++ (stdin ++ body_end place))
IsSent (Refused why) sent = sent ≡ []
