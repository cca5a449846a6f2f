-- What the files tell, and the builder of patterns.
use Rattle.std.specs.Prelude.{◌≡◌, ℕ, ◌<◌, List, ◌∷◌, length, ⊤, Option, Some, None, Result, Ok, Err}
use Rattle.px_link.specs.Told.{NamedBytes, content_of}
use Rattle.http_rules.specs.declared.config.Config.{Config}
use Rattle.px_pattern.specs.Refusals.{Kept}
use Rattle.cfg_parse.specs.Whole.{config_of, Refusal, Builds}
use Rattle.cfg_parse.specs.Judged.{Answer, Counted, IsNamed, refused_of, unbuilt_of}
use Rattle.cfg_parse.specs.declared.refused.RefusedLine.{RefusedLine}
use Rattle.rec_format.specs.Recorded as records
use Rattle.rec_format.specs.Recorded.{Recorded, record_of}

-- what the files are, where they are told
abbrev pub IfTold : Option (List NamedBytes) → (List NamedBytes → Type 0) → Type 0
IfTold None P = ⊤
IfTold (Some files) P = P files

-- the property holds of what is in the file of this name
abbrev pub Holds : List NamedBytes → (name : List ℕ) → (List ℕ → Type 0) → Type 0
Holds files name P = (text : List ℕ) × (content_of files name ≡ Some text) × P text

-- what the builder of patterns tells: how many builds it refused before and now, and the last refused one
pub record Builder : Type 0 where
  pub before : ℕ
  pub now : ℕ
  pub kept : Kept

abbrev pub told_by : (before now : ℕ) → Kept → Builder
told_by before now kept = record { before = before; now = now; kept = kept }

-- it refused none in this call
abbrev pub IsBuilt : Builder → Type 0
IsBuilt builder = builder.now ≡ builder.before

-- the text of this file comes to this as a configuration where each of its patterns is built
abbrev pub Configured : List NamedBytes → (cfg_name : List ℕ) → Result Config Refusal → Type 0
Configured files cfg_name result = Holds files cfg_name (λ text. config_of text None ≡ result)

-- the text of this file comes to this as a record
abbrev pub RecordIs : List NamedBytes → (rec_name : List ℕ) → Result Recorded records.Refusal → Type 0
RecordIs files rec_name result = Holds files rec_name (λ text. record_of text ≡ result)

-- it is refused so; r is none, or the number of the pattern that the builder refused, and then refused last
abbrev pub Refuses : List NamedBytes → Builder → (cfg_name : List ℕ) → (r : Option ℕ) → Refusal → Type 0
Refuses files builder cfg_name r refusal =
    Holds files cfg_name (λ text. (config_of text r ≡ Err refusal) × Builds text r builder.before builder.now builder.kept)

-- These are the refused lines of a text, one at least, for some answers of the builder. Its count rose by at least as many as it refused, and the first line
-- is one that a load of the text names.
pub record AreRefused (text : List ℕ) (builder : Builder) (all : List RefusedLine) : Type 0 where
  pub answers : List Answer
  pub lines : refused_of text answers ≡ all
  pub some : 0 < length all
  pub counted : Counted (length (unbuilt_of text answers)) builder.before builder.now
  pub first : (line : RefusedLine) (others : List RefusedLine) → all ≡ line ∷ others → IsNamed text builder.before builder.now line

-- these are the refused lines of this file
abbrev pub RefusesAll : List NamedBytes → Builder → (cfg_name : List ℕ) → (all : List RefusedLine) → Type 0
RefusesAll files builder cfg_name all = Holds files cfg_name (λ text. AreRefused text builder all)

-- the two files say this: a configuration that is accepted, and a record that is
pub record Say (files : List NamedBytes) (cfg_name rec_name : List ℕ) (cfg : Config) (rec : Recorded) : Type 0 where
  pub configuration : Configured files cfg_name (Ok cfg)
  pub accepted : RecordIs files rec_name (Ok rec)
