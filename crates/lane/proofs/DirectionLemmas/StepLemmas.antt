-- What a lane is behind a step of its filters, and filters in front of a body.
use Rattle.std.proofs.Common.{◌≡◌, ℕ, ◌+◌, ◌<◌, ◌≤◌, List, [], ◌∷◌, Bool, true, false, refl, sym, ap, ◌∙◌, subst, take, zero, suc, arith}
use Rattle.std.specs.Prelude.{Option, Some, None, nat_le, if◌then◌else◌}
use Rattle.std.proofs.lemmas.Bool.{le-leb}
use Rattle.htx_arena.specs.Layout.Contents.{Contents}
use Rattle.body_filter.specs.declared.filter_spec.FilterSpec.{FilterSpec}
use Rattle.body_filter.specs.declared.filter_spec.FilterSpec.TheVariants as filter
use Rattle.body_filter.specs.declared.filter_spec.FedState.TheVariants as fed
use Rattle.body_filter.specs.Filter.{Filtered, filtered, filtered_by, limited, searched, through, joined, end_of as end_by}
use Rattle.lane.specs.declared.sieve.sieve.Sieve.{Sieve}
use Rattle.lane.specs.Direction.Filtering.{HasPassed, AreThese, SieveFits, SieveRests, held_left}
use Rattle.lane.specs.Direction.Sends.{IsSized, Keeps, is_going, end_left, reads_left}
use Rattle.lane.specs.declared.direction.sift.Came.{Came}
use Rattle.lane.specs.declared.direction.sift.Came.TheVariants as came
use Rattle.http_model.specs.declared.Source.{Source}
use Rattle.lane.specs.Direction.State.{LaneState}
use Rattle.lane.proofs.DirectionLemmas.SiftLemmas.{Steps, after_sift, these_on, more_left, waits_left, ends_left}

-- ---- a body that has not begun

pub these_now : (sieve : Option Sieve) (filters : List FilterSpec) → HasPassed sieve filters [] [] → AreThese sieve filters
these_now None filters h = h.0
these_now (Some sieve) filters h = ([], [], h)

none_taken : (n : ℕ) → take {A = ℕ} n [] ≡ []
none_taken zero = refl
none_taken (suc n) = refl

none_limited : (n : ℕ) (whole : Bool) → limited n whole [] ≡ record { output = []; state = end_by whole }
none_limited n whole =
    ap (λ (b : List ℕ). record { output = b; state = if nat_le 0 n then end_by whole else fed.Refused 413 }) (none_taken n)
    ∙ ap (λ (t : Bool). record { output = []; state = if t then end_by whole else fed.Refused 413 }) (le-leb 0 n (omega arith))

nothing_by : (filter : FilterSpec) (whole : Bool) → filtered_by filter whole [] ≡ record { output = []; state = end_by whole }
unfolding searched
nothing_by (filter.Limit n) whole = none_limited n whole
nothing_by (filter.Deny needle) whole = refl
nothing_by (filter.Replace from to) whole = refl

-- of no byte the filters make none, and accept it
nothing_passes : (filters : List FilterSpec) (whole : Bool) → filtered filters whole [] ≡ record { output = []; state = end_by whole }
unfolding filtered
nothing_passes [] whole = refl
nothing_passes (filter ∷ filters) true =
    ap (λ (f : Filtered). through f (filtered filters)) (nothing_by filter true) ∙ ap (λ (f : Filtered). record { output = f.output; state = joined fed.Over f.state }) (nothing_passes filters true)
nothing_passes (filter ∷ filters) false =
    ap (λ (f : Filtered). through f (filtered filters)) (nothing_by filter false) ∙ ap (λ (f : Filtered). record { output = f.output; state = joined fed.Going f.state }) (nothing_passes filters false)

pub nothing_over : (filters : List FilterSpec) → filtered filters true [] ≡ record { output = []; state = fed.Over }
nothing_over filters = nothing_passes filters true

-- ---- the lane behind a step

pub step_sized : (l : LaneState) (sieve : Option Sieve) (msg : Contents) (answer : Came) (src : Source) → Steps l sieve msg answer → IsSized l → IsSized (after_sift l sieve msg src)
step_sized l sieve msg answer src x z = record {
  least = z.least;
  msg = x.size ∙ z.msg;
  out = z.out;
  input = z.input;
  output = z.output;
  sieve = subst (λ (n : ℕ). SieveFits n sieve) z.msg x.fits;
  filters = (z.filters.0, these_on answer l.msg.size l.sieve sieve msg.blocks x.comes z.filters.0 z.filters.1);
}

pub step_keeps : (l : LaneState) (sieve : Option Sieve) (msg : Contents) (answer : Came) (src : Source) → Steps l sieve msg answer → Keeps l (after_sift l sieve msg src)
step_keeps l sieve msg answer src x = record {
  limits = refl;
  ended = refl;
  stage = refl;
  dropped = refl;
  capacity = refl;
  input_capacity = refl;
  shrinks = omega arith;
  filters = these_on answer l.msg.size l.sieve sieve msg.blocks x.comes;
}

pub step_more : (l : LaneState) (sieve : Option Sieve) (msg : Contents) → Steps l sieve msg came.More → IsSized l
    → (held_left sieve + is_going l.source < held_left l.sieve + is_going l.source) × (reads_left (after_sift l sieve msg l.source) ≤ reads_left l)
step_more l sieve msg x z =
    let m = more_left l.msg.size l.sieve sieve msg.blocks x.comes z.filters in
    let less = m.0 in
    let within : end_left l.source sieve ≤ end_left l.source l.sieve = subst (λ (src : Source). end_left src sieve ≤ end_left src l.sieve) (sym x.going) m.1 in
    (omega arith, omega arith)

pub step_waits : (l : LaneState) (sieve : Option Sieve) (msg : Contents) → Steps l sieve msg came.Waits → IsSized l
    → SieveRests sieve × (msg.blocks ≡ []) × (reads_left (after_sift l sieve msg l.source) ≤ reads_left l)
step_waits l sieve msg x z =
    let m = waits_left l.msg.size l.sieve sieve msg.blocks x.comes z.filters in
    let within : end_left l.source sieve ≤ end_left l.source l.sieve = subst (λ (src : Source). end_left src sieve ≤ end_left src l.sieve) (sym x.going) m.2 in
    (m.0, m.1, omega arith)

pub step_ends : (l : LaneState) (sieve : Option Sieve) (msg : Contents) (src : Source) → Steps l sieve msg (came.Ends src) → IsSized l
    → (held_left sieve + is_going src < held_left l.sieve + is_going l.source) × (reads_left (after_sift l sieve msg src) ≤ reads_left l)
step_ends l sieve msg src x z =
    let m = ends_left src l.msg.size l.sieve sieve msg.blocks x.comes z.filters in
    let less = m.0 in
    let none = m.1 in
    let no_end = m.2 in
    let one : is_going l.source ≡ 1 = ap is_going x.going in
    (omega arith, omega arith)
