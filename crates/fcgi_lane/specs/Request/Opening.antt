-- What the text of a head becomes, and how far a translator has come by its fields.
use Rattle.std.specs.Prelude.{◌≡◌, ℕ, List, [], ◌++◌, Option, Some, None, ⊤}
use Rattle.fcgi_lane.specs.declared.request.opening.Opened.{Opened}
use Rattle.fcgi_lane.specs.declared.request.opening.Opened.TheVariants as opened
use Rattle.fcgi_lane.specs.declared.request.translator.Progress.{Progress}
use Rattle.fcgi_lane.specs.declared.request.translator.Progress.TheVariants as progress
use Rattle.fcgi_model.specs.Application.{Application}
use Rattle.fcgi_model.specs.Records.{begin_record, CarriesBody}
use Rattle.fcgi_model.specs.Body.{Place, Goes}
use Rattle.fcgi_model.specs.Flow.{Asked, Behind, Refused, asked_behind, body_end}
use Rattle.fcgi_lane.specs.Request.Stages.{place_of, IsStage}
use Rattle.fcgi_lane.specs.Request.Stands.{Reading, AtHead, AtBody, Stopped, IsNow}

-- these records in front of a body, and those of its bytes that follow the head
pub record Opens (front : List ℕ) (from : Place) (rest : List ℕ) (to : Place) (left : List ℕ) : Type 0 where
  pub found : List ℕ
  pub text : List ℕ
  pub goes : Goes from rest to found
  pub carries : CarriesBody found text
  pub is : left ≡ front ++ (text ++ body_end to)

-- a body is opened behind these pairs
abbrev pub IsBodyOpened : (from : Place) → (params rest : List ℕ) → Opened → Type 0
IsBodyOpened from params rest (opened.Body stage left) = IsStage stage × Opens (begin_record ++ params) from rest (place_of stage) left.items
IsBodyOpened from params rest (opened.Refused why) = ⊥

-- what is asked behind the text of a head and these bytes is open, or refused
abbrev pub IsOpened : Application → (text rest : List ℕ) → Opened → Type 0
IsOpened application text rest (opened.Body stage left) =
    (front : List ℕ) × (from : Place) × (asked_behind application text ≡ Behind front [] from) × IsStage stage × Opens front from rest (place_of stage) left.items
IsOpened application text rest (opened.Refused why) = asked_behind application text ≡ Refused why

-- what a head becomes: it isn't whole, or what it asks is open, or refused
abbrev pub IsHeadFed : Asked → (head : List ℕ) → Option Opened → Type 0
IsHeadFed asked head None = IsNow asked (AtHead head) []
IsHeadFed asked head (Some (opened.Body stage left)) = IsStage stage × IsNow asked (AtBody (place_of stage)) left.items
IsHeadFed asked head (Some (opened.Refused why)) = IsNow asked (Stopped why) []

-- how far a translator has come, by its fields
abbrev pub reading_at : Progress → (head : List ℕ) → Reading
reading_at progress.Head head = AtHead head
reading_at (progress.Body stage) head = AtBody (place_of stage)
reading_at (progress.Stopped why) head = Stopped why

abbrev pub IsProgress : Progress → Type 0
IsProgress progress.Head = ⊤
IsProgress (progress.Body stage) = IsStage stage
IsProgress (progress.Stopped why) = ⊤
