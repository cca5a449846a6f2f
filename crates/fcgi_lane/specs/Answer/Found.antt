-- What a look at the text in front of an application's output tells.
use Rattle.std.specs.Prelude.{◌≡◌, ◌≤◌, ℕ, List, ◌++◌, length, Some, None}
use Rattle.http_model.specs.Head.{Field}
use Rattle.fcgi_lane.specs.Answer.Head.{Headed, with_status, status_of, head_at}
use Rattle.fcgi_lane.specs.declared.answer.head_reading.HeadRead.{HeadRead}
use Rattle.fcgi_lane.specs.declared.answer.head_reading.HeadRead.TheVariants as read

-- The text has no head yet, and one may still come; it has one, which was made with what follows it; or it has none, whatever follows.
abbrev pub TellsHead : (limit : ℕ) → (text http : List ℕ) → HeadRead → Type 0
TellsHead limit text http read.More = (head_at limit text ≡ None) × (length text ≤ limit)
TellsHead limit text http read.Whole = (h : Headed) × (head_at limit text ≡ Some h) × (http ≡ h.0 ++ h.1)
TellsHead limit text http read.Bad = (rest : List ℕ) → head_at limit (text ++ rest) ≡ None

-- the head of a section with these fields was made in front of this rest, or its status is none
abbrev pub TellsWhole : (fields : List Field) → (rest http : List ℕ) → HeadRead → Type 0
TellsWhole fields rest http read.More = ⊥
TellsWhole fields rest http read.Whole = (h : Headed) × (with_status fields rest (status_of fields) ≡ Some h) × (http ≡ h.0 ++ h.1)
TellsWhole fields rest http read.Bad = with_status fields rest (status_of fields) ≡ None
