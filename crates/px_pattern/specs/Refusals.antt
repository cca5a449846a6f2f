-- What a builder of patterns tells of the texts that it refused.
use Rattle.std.specs.Prelude.{◌≡◌, ◌≢◌, ℕ, ◌-◌, ◌<◌, ◌≤◌, ◌^◌, ◌⊎◌, Bool, List, Option, Some, Result, Ok, Err, IsErrOf, IsUtf8}
use Rattle.regex.specs.Sources.{IsRefusal}
use Rattle.regex.specs.Failures.{IsRightKind}
use Rattle.regex.specs.declared.error.Error.{Error}
use Rattle.regex.specs.declared.error.Error.TheVariants as errors
use Rattle.px_pattern.specs.Meaning.{options}
use Rattle.px_pattern.specs.declared.fault.PatFault.{PatFault}
use Rattle.px_pattern.specs.declared.fault.PatFault.TheVariants.{Refused, OutOfMemory}

-- the count rose, or stands at its last value
abbrev pub Rose : ℕ → ℕ → Type 0
Rose before now = (before < now) ⊎ (2 ^ 64 - 1 ≤ now)

-- the count never falls; a refusal raises it, and nothing else does
pub record CountsRefusals {T : Type 0} (before now : ℕ) (result : Result T PatFault) : Type 0 where
  pub never_falls : before ≤ now
  pub refused : IsErrOf result Refused → Rose before now
  pub otherwise : (IsErrOf result Refused → ⊥) → now ≡ before

-- the text of the last refused build, and whether it was to ignore case
abbrev pub Kept : Type 0
Kept = Option (List ℕ × Bool)

-- what is kept after a build
abbrev pub kept_after : {T : Type 0} → Result T PatFault → List ℕ → Bool → Kept → Kept
kept_after (Ok x) text icase kept = kept
kept_after (Err Refused) text icase kept = Some (text, icase)
kept_after (Err OutOfMemory) text icase kept = kept

-- `regex` may give this error for the text by what it says of its errors, and the error is none of memory
pub record IsErrorFor (icase : Bool) (text : List ℕ) (error : Error) : Type 0 where
  pub by_grammar : IsRefusal (options icase) text error
  pub kind : IsRightKind (options icase) text error
  pub no_internal : error ≢ errors.Internal
  pub no_memory : error ≢ errors.OutOfMemory

-- the text is no UTF-8, or `regex` gives such an error for it
abbrev pub IsRefusable : Bool → List ℕ → Type 0
IsRefusable icase text = ¬ IsUtf8 text ⊎ ((error : Error) × IsErrorFor icase text error)
