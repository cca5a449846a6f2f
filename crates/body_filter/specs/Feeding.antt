-- What a call of `feed` does, told by what a machine would still make of all that may come.
use Rattle.std.specs.Prelude.{◌≡◌, ℕ, ◌<◌, ◌≤◌, Bool, true, false, List, [], ◌++◌, length, take}
use Rattle.body_filter.specs.Filter.{Filtered, ended, behind, is_over}
use Rattle.body_filter.specs.declared.filter_spec.FedState.TheVariants.{Going}
use Rattle.body_filter.specs.declared.filter_spec.Fed.{Fed}

-- what a machine makes of the bytes that may still come, whether the body is whole behind them or not
abbrev pub Meaning : Type 0
Meaning = Bool → List ℕ → Filtered

pub record Feeds (old : Meaning) (piece : List ℕ) (last : Bool) (fed : Fed) (out : List ℕ) (new : Meaning) : Type 0 where
  pub used : fed.used ≤ length piece
  pub given : fed.given ≤ length out
  -- whatever follows the bytes used, these bytes are given in front of what the machine makes of it now
  pub goes_on : (last ≡ true → fed.used < length piece) → (whole : Bool) (rest : List ℕ) → old whole (take fed.used piece ++ rest) ≡ behind (take fed.given out) (new whole rest)
  -- the same of the whole body, once its last byte is used
  pub ends : last ≡ true → fed.used ≡ length piece → old true piece ≡ behind (take fed.given out) (new true [])
  -- an end that is told is that of each continuation, and nothing more is given
  pub told : is_over fed.state ≡ true → (whole : Bool) (rest : List ℕ) → new whole rest ≡ ended fed.state
  -- nothing is done only where nothing came, and then nothing is held but what the definition keeps back
  pub idle : fed.state ≡ Going → fed.used ≡ 0 → fed.given ≡ 0 → (piece ≡ []) × (last ≡ false) × (new false [] ≡ ended Going)
