-- What the filters made of a body so far is a front of what they make of it.
use Rattle.std.proofs.Common.{◌≡◌, ℕ, inl, inr, List, [], ◌++◌, Bool, true, refl, sym, ap, ◌∙◌, append_assoc}
use Rattle.std.specs.Prelude.{Option, Some, None}
use Rattle.std.proofs.lemmas.List.{append-nil}
use Rattle.http_model.specs.declared.Ending.{Ending}
use Rattle.h1_body.specs.declared.reader.BodyReader.{BodyReader}
use Rattle.body_filter.specs.declared.chain.Chain.{Chain}
use Rattle.body_filter.specs.declared.filter_spec.FilterSpec.{FilterSpec}
use Rattle.body_filter.specs.Chain.{HasFilteredAll, chain_meaning}
use Rattle.body_filter.specs.Filter.{Filtered, filtered}
use Rattle.lane.specs.Sieve.Sieved.{Uses, SievedAt}
use Rattle.lane.specs.declared.sieve.sieve.BodyEnd.{BodyEnd}
use Rattle.lane.specs.declared.sieve.sieve.BodyEnd.TheVariants as body_end
use Rattle.lane.specs.declared.sieve.sieve.Sieve.{Sieve}
use Rattle.lane.specs.Direction.Filtering.{HasPassed, IsWholeAt, IsCutAt, EndsAt, GoesOnBy}

-- what passed is a front of what passes, however the body goes on
pub record Passes (filters : List FilterSpec) (found passed : List ℕ) : Type 0 where
  pub on : (whole : Bool) (more : List ℕ) → (rest : List ℕ) × ((filtered filters whole (found ++ more)).output ≡ passed ++ rest)

-- of a body whose end has come
pub record PassesAll (filters : List FilterSpec) (found passed : List ℕ) : Type 0 where
  pub all : (rest : List ℕ) × ((filtered filters true found).output ≡ passed ++ rest)

uses_passes : (filters : List FilterSpec) (found passed : List ℕ) (chain : Chain) (held : List ℕ) → Uses filters found passed chain held → Passes filters found passed
uses_passes filters found passed chain held u = record {
  on = λ whole more. (
    (chain_meaning chain whole (held ++ more)).output,
    ap (λ (b : List ℕ). (filtered filters whole (b ++ more)).output) u.found_is ∙ ap (λ (b : List ℕ). (filtered filters whole b).output) (append_assoc u.used held more)
        ∙ ap (λ (f : Filtered). f.output) (u.has.goes_on whole (held ++ more)),
  );
}

passes_all : (filters : List FilterSpec) (found passed : List ℕ) → Passes filters found passed → PassesAll filters found passed
passes_all filters found passed p =
    let h = p.on true [] in
    record { all = (h.0, ap (λ (b : List ℕ). (filtered filters true b).output) (sym (append-nil found)) ∙ h.1) }

at_end : (filters : List FilterSpec) (found passed : List ℕ) (chain : Chain) → HasFilteredAll filters found passed chain → PassesAll filters found passed
at_end filters found passed chain h = record { all = ((chain_meaning chain true []).output, ap (λ (f : Filtered). f.output) h.ends) }

all_passes : (whole : Bool) (body more : List ℕ) → (filtered [] whole (body ++ more)).output ≡ body ++ more
unfolding filtered
all_passes whole body more = refl

-- the filters' state, with what it tells of the body: while the body may go on, or once its end has come
pub data Came (filters : List FilterSpec) (reader : BodyReader) (ended : Option Ending) (input section found passed : List ℕ) : Type 0 where
  GoesOn : Passes filters found passed → Came filters reader ended input section found passed
  CutHere : IsCutAt reader ended input → PassesAll filters found passed → Came filters reader ended input section found passed
  WholeHere : IsWholeAt reader ended input section → PassesAll filters found passed → Came filters reader ended input section found passed

came_at : (at : BodyEnd) (filters : List FilterSpec) (reader : BodyReader) (ended : Option Ending) (input section found passed : List ℕ) (chain : Chain) (held : List ℕ) → EndsAt at reader ended input section → SievedAt at filters found passed chain held
    → Came filters reader ended input section found passed
came_at body_end.Open filters reader ended input section found passed chain held e s = GoesOn (uses_passes filters found passed chain held s)
came_at body_end.Cut filters reader ended input section found passed chain held e (inl u) = CutHere e (passes_all filters found passed (uses_passes filters found passed chain held u))
came_at body_end.Cut filters reader ended input section found passed chain held e (inr all) = CutHere e (at_end filters found passed chain all.1)
came_at body_end.Whole filters reader ended input section found passed chain held e (inl u) = WholeHere e (passes_all filters found passed (uses_passes filters found passed chain held u))
came_at body_end.Whole filters reader ended input section found passed chain held e (inr all) = WholeHere e (at_end filters found passed chain all.1)
came_at body_end.Accepted filters reader ended input section found passed chain held e s = WholeHere e (at_end filters found passed chain s.0.1)

pub came_by : (sieve : Option Sieve) (filters : List FilterSpec) (reader : BodyReader) (ended : Option Ending) (input section found passed : List ℕ) → GoesOnBy sieve reader ended input section → HasPassed sieve filters found passed
    → Came filters reader ended input section found passed
came_by None filters reader ended input section found passed g h = GoesOn (record {
  on = λ whole more. (more, ap (λ (fs : List FilterSpec). (filtered fs whole (found ++ more)).output) h.0 ∙ all_passes whole found more ∙ ap (λ (b : List ℕ). b ++ more) (sym h.1));
})
came_by (Some sieve) filters reader ended input section found passed g h = came_at sieve.end filters reader ended input section found passed sieve.chain sieve.held.items g.0 h
