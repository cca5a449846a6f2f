-- What a chain of filters does with a text, and what of it comes into an empty array.
use Rattle.std.specs.Prelude.{◌≡◌, ℕ, ◌<◌, ◌≤◌, Bool, true, false, List, [], ◌++◌, length, take}
use Rattle.body_filter.specs.declared.filter_spec.FilterSpec.{FilterSpec}
use Rattle.body_filter.specs.declared.filter_spec.FedState.TheVariants.{Going, Over}
use Rattle.body_filter.specs.declared.filter_spec.Fed.{Fed}
use Rattle.body_filter.specs.declared.chain.Chain.{Chain}
use Rattle.body_filter.specs.Chain.{HasFiltered, HasFilteredAll}
use Rattle.body_filter.specs.Filter.{filtered, is_over}

-- the clauses of a chain's call, of the bytes that it gave
pub record Feeds (old new : Chain) (text : List ℕ) (last : Bool) (fed : Fed) (piece : List ℕ) : Type 0 where
  pub count : length piece ≡ fed.given
  pub used : fed.used ≤ length text
  pub goes_on : (filters : List FilterSpec) (used given : List ℕ) → HasFiltered filters used given old → (last ≡ true → fed.used < length text)
      → HasFiltered filters (used ++ take fed.used text) (given ++ piece) new
  pub ends : (filters : List FilterSpec) (used given : List ℕ) → HasFiltered filters used given old → last ≡ true → fed.used ≡ length text
      → HasFilteredAll filters (used ++ text) (given ++ piece) new
  pub flushes : (filters : List FilterSpec) (body given : List ℕ) → HasFilteredAll filters body given old → last ≡ true → length text ≡ 0
      → HasFilteredAll filters body (given ++ piece) new
  pub decided : (filters : List FilterSpec) (used given : List ℕ) → HasFiltered filters used given new → is_over fed.state ≡ true
      → (whole : Bool) (rest : List ℕ) → filtered filters whole (used ++ rest) ≡ record { output = given; state = fed.state }
  pub early : (filters : List FilterSpec) (used given : List ℕ) → HasFiltered filters used given new → fed.state ≡ Over → ⊥
  pub over : (filters : List FilterSpec) (body given : List ℕ) → HasFilteredAll filters body given new → is_over fed.state ≡ true
      → filtered filters true body ≡ record { output = given; state = fed.state }
  pub idle : fed.state ≡ Going → fed.used ≡ 0 → fed.given ≡ 0 → (text ≡ []) × (last ≡ false)
  pub all : fed.state ≡ Going → fed.used ≡ 0 → fed.given ≡ 0 → (filters : List FilterSpec) (used given : List ℕ) → HasFiltered filters used given new
      → filtered filters false used ≡ record { output = given; state = Going }
