-- What a call of the filters makes of the body that a sieve stands for.
use Rattle.std.proofs.Common.{◌≡◌, ◌≢◌, ℕ, ◌+◌, ◌<◌, ◌≤◌, ◌⊎◌, inl, inr, List, [], ◌++◌, Bool, true, false, refl, sym, ap, ◌∙◌, subst, length, take, drop, arith, append_assoc}
use Rattle.std.proofs.lemmas.List.{append-nil, take-append-drop, drop_all, length-append, length-drop, nil_from_length}
use Rattle.std.proofs.lemmas.Bool.{cases_lt}
use Rattle.htx_model.specs.Block.{Block}
use Rattle.htx_model.specs.Blocks.{append_data}
use Rattle.body_filter.specs.declared.filter_spec.FilterSpec.{FilterSpec}
use Rattle.body_filter.specs.declared.filter_spec.FedState.{FedState}
use Rattle.body_filter.specs.declared.filter_spec.FedState.TheVariants as state
use Rattle.body_filter.specs.declared.filter_spec.Fed.{Fed}
use Rattle.body_filter.specs.declared.chain.Chain.{Chain}
use Rattle.body_filter.specs.Chain.{HasFiltered, HasFilteredAll, chain_meaning}
use Rattle.body_filter.specs.Filter.{Filtered, filtered, is_over}
use Rattle.lane.specs.Sieve.Feeds.{Feeds}
use Rattle.lane.specs.Sieve.Sieved.{Uses, UsesAll, SievedAt, IsSettled, IsAllGiven, IsRefused, is_ended, end_left, sift_left, Tells, Sifts, answer_at, over_at, IsStill}
use Rattle.lane.specs.declared.sieve.sieve.Sifted.{Sifted}
use Rattle.lane.specs.declared.sieve.sieve.Sifted.TheVariants as sifted
use Rattle.lane.specs.declared.sieve.sieve.BodyEnd.{BodyEnd}
use Rattle.lane.specs.declared.sieve.sieve.BodyEnd.TheVariants as body_end
use Rattle.lane.specs.declared.sieve.sieve.Sieve.{Sieve}

-- some of the text is used
uses_on : (old new : Chain) (text : List ℕ) (last : Bool) (fed : Fed) (piece : List ℕ) → Feeds old new text last fed piece → (last ≡ true → fed.used < length text)
    → (filters : List FilterSpec) (found passed : List ℕ) → Uses filters found passed old text → Uses filters found (passed ++ piece) new (drop fed.used text)
uses_on old new text last fed piece f more filters found passed u = record {
  used = u.used ++ take fed.used text;
  found_is = u.found_is ∙ ap (λ (t : List ℕ). u.used ++ t) (sym (take-append-drop fed.used text)) ∙ sym (append_assoc u.used (take fed.used text) (drop fed.used text));
  has = f.goes_on filters u.used passed u.has more;
}

-- all of it, with the last byte of a whole body
uses_all : (old new : Chain) (text : List ℕ) (last : Bool) (fed : Fed) (piece : List ℕ) → Feeds old new text last fed piece → last ≡ true → fed.used ≡ length text
    → (filters : List FilterSpec) (found passed : List ℕ) → Uses filters found passed old text → HasFilteredAll filters found (passed ++ piece) new
uses_all old new text last fed piece f is all filters found passed u =
    subst (λ (b : List ℕ). HasFilteredAll filters b (passed ++ piece) new) (sym u.found_is) (f.ends filters u.used passed u.has is all)

-- a body whose end has come
abbrev Either : List FilterSpec → (found passed : List ℕ) → Chain → (held : List ℕ) → Type 0
Either filters found passed chain held = Uses filters found passed chain held ⊎ UsesAll filters found passed chain held

whole_on : (old new : Chain) (text : List ℕ) (last : Bool) (fed : Fed) (piece : List ℕ) → Feeds old new text last fed piece → last ≡ true
    → (filters : List FilterSpec) (found passed : List ℕ) → Either filters found passed old text → Either filters found (passed ++ piece) new (drop fed.used text)
whole_on old new text last fed piece f is filters found passed (inl u) = by (cases_lt fed.used (length text))
  where
    by : (fed.used < length text) ⊎ (length text ≤ fed.used) → Either filters found (passed ++ piece) new (drop fed.used text)
    by (inl less) = inl (uses_on old new text last fed piece f (λ _. less) filters found passed u)
    by (inr all) = let within = f.used in inr (drop_all fed.used text all, uses_all old new text last fed piece f is (omega arith) filters found passed u)
whole_on old new text last fed piece f is filters found passed (inr all) =
    let none : length text ≡ 0 = ap length all.0 in
    inr (drop_all fed.used text (omega arith), f.flushes filters found passed all.1 is none)

-- ---- what is left to be given

total_used : (filters : List FilterSpec) (found passed : List ℕ) (chain : Chain) (held : List ℕ) → Uses filters found passed chain held
    → length (filtered filters true found).output ≡ length passed + length (chain_meaning chain true held).output
total_used filters found passed chain held u =
    ap (λ (b : List ℕ). length (filtered filters true b).output) u.found_is ∙ ap (λ (x : Filtered). length x.output) (u.has.goes_on true held)
    ∙ length-append passed (chain_meaning chain true held).output

total : (filters : List FilterSpec) (found passed : List ℕ) (chain : Chain) (held : List ℕ) → Either filters found passed chain held
    → length (filtered filters true found).output ≡ length passed + length (chain_meaning chain true held).output
total filters found passed chain held (inl u) = total_used filters found passed chain held u
total filters found passed chain held (inr all) =
    ap (λ (x : Filtered). length x.output) all.1.ends ∙ length-append passed (chain_meaning chain true []).output
    ∙ ap (λ (h : List ℕ). length passed + length (chain_meaning chain true h).output) (sym all.0)

-- what was used and given is not left
left_is : (old new : Chain) (text : List ℕ) (last : Bool) (fed : Fed) (piece : List ℕ) → Feeds old new text last fed piece
    → (filters : List FilterSpec) (found passed : List ℕ) → Either filters found passed old text → Either filters found (passed ++ piece) new (drop fed.used text)
    → length (chain_meaning old true text).output + length text ≡ fed.given + fed.used + (length (chain_meaning new true (drop fed.used text)).output + length (drop fed.used text))
left_is old new text last fed piece f filters found passed before after =
    let a = total filters found passed old text before in
    let b = total filters found (passed ++ piece) new (drop fed.used text) after in
    let c = length-append passed piece in
    let d = f.count in
    let e = length-drop fed.used text in
    let g = f.used in
    omega arith

-- ---- a refusal

refused_used : (old new : Chain) (text : List ℕ) (last : Bool) (fed : Fed) (piece : List ℕ) (code : ℕ) → Feeds old new text last fed piece → fed.state ≡ state.Refused code
    → (filters : List FilterSpec) (found passed held : List ℕ) → Uses filters found passed new held
    → (whole : Bool) (rest : List ℕ) → filtered filters whole (found ++ rest) ≡ record { output = passed; state = state.Refused code }
refused_used old new text last fed piece code f is filters found passed held u whole rest =
    ap (λ (b : List ℕ). filtered filters whole (b ++ rest)) u.found_is ∙ ap (λ (b : List ℕ). filtered filters whole b) (append_assoc u.used held rest)
    ∙ f.decided filters u.used passed u.has (subst (λ (s : FedState). is_over s ≡ true) (sym is) refl) whole (held ++ rest)
    ∙ ap (λ (s : FedState). record { output = passed; state = s }) is

-- ---- what the answer says

-- no whole body is over before its end was met
never_over : (old new : Chain) (text : List ℕ) (last : Bool) (fed : Fed) (piece : List ℕ) → Feeds old new text last fed piece → fed.state ≡ state.Over
    → (filters : List FilterSpec) (found passed held : List ℕ) → Uses filters found passed new held → ⊥
never_over old new text last fed piece f is filters found passed held u = f.early filters u.used passed u.has is

pub record Fed_ (old new : Sieve) (last : Bool) (fed : Fed) (piece : List ℕ) (moved : Bool) : Type 0 where
  pub feeds : Feeds old.chain new.chain old.held.items last fed piece
  pub held : new.held.items ≡ drop fed.used old.held.items
  pub last_is : last ≡ is_ended old.end
  pub accepted : answer_at old.end fed.state moved ≡ sifted.Accepted → new.end ≡ body_end.Accepted
  pub other : answer_at old.end fed.state moved ≢ sifted.Accepted → new.end ≡ old.end
  pub some : moved ≡ true → 0 < fed.used + fed.given
  pub none : moved ≡ false → (fed.used ≡ 0) × (fed.given ≡ 0)

not_ended : (old new : Sieve) (last : Bool) (fed : Fed) (piece : List ℕ) (moved : Bool) → Fed_ old new last fed piece moved → old.end ≡ body_end.Open → last ≡ true → fed.used < length old.held.items
not_ended old new last fed piece moved x open_ is = absurd (let both : true ≡ false = sym is ∙ x.last_is ∙ ap is_ended open_ in cc both)

sift_eq : (old new : Sieve) (last : Bool) (fed : Fed) (piece : List ℕ) (moved : Bool) → Fed_ old new last fed piece moved
    → (filters : List FilterSpec) (found passed : List ℕ) → Either filters found passed old.chain old.held.items → Either filters found (passed ++ piece) new.chain (drop fed.used old.held.items)
    → length (chain_meaning old.chain true old.held.items).output + length old.held.items ≡ fed.given + fed.used + (length (chain_meaning new.chain true new.held.items).output + length new.held.items)
sift_eq old new last fed piece moved x filters found passed before after =
    left_is old.chain new.chain old.held.items last fed piece x.feeds filters found passed before after
    ∙ ap (λ (h : List ℕ). fed.given + fed.used + (length (chain_meaning new.chain true h).output + length h)) (sym x.held)

-- what a call came to, where it is known what the filters said
answer_is : (old new : Sieve) (last : Bool) (fed : Fed) (piece : List ℕ) (moved : Bool) → Fed_ old new last fed piece moved → (at : BodyEnd) (st : FedState) (b : Bool) → old.end ≡ at → fed.state ≡ st → moved ≡ b
    → answer_at old.end fed.state moved ≡ answer_at at st b
answer_is old new last fed piece moved x at st b is e m =
    ap (λ (a : BodyEnd). answer_at a fed.state moved) is ∙ ap (λ (s : FedState). answer_at at s moved) e ∙ ap (λ (c : Bool). answer_at at st c) m

is_end : (old new : Sieve) (last : Bool) (fed : Fed) (piece : List ℕ) (moved : Bool) → Fed_ old new last fed piece moved → (st : FedState) (b : Bool) → fed.state ≡ st → moved ≡ b
    → answer_at old.end st b ≢ sifted.Accepted → new.end ≡ old.end
is_end old new last fed piece moved x st b is e differs = x.other (λ h. differs (sym (answer_is old new last fed piece moved x old.end st b refl is e) ∙ h))

-- less is left where a byte was used or given, and never more
less_left : (old new : Sieve) (last : Bool) (fed : Fed) (piece : List ℕ) (moved : Bool) → Fed_ old new last fed piece moved → (at : end_left new.end ≤ end_left old.end)
    → (filters : List FilterSpec) (found passed : List ℕ) → Either filters found passed old.chain old.held.items → Either filters found (passed ++ piece) new.chain (drop fed.used old.held.items)
    → (sift_left new ≤ sift_left old) × (0 < fed.used + fed.given → sift_left new < sift_left old) × (end_left new.end < end_left old.end → sift_left new < sift_left old)
less_left old new last fed piece moved x at filters found passed before after =
    let e = sift_eq old new last fed piece moved x filters found passed before after in
    (omega arith, λ some. omega arith, λ nearer. omega arith)

same_left : (old new : BodyEnd) → new ≡ old → end_left new ≤ end_left old
same_left old new e = subst (λ (b : BodyEnd). end_left b ≤ end_left old) (sym e) (omega arith)

settled : (old new : Chain) (text : List ℕ) (last : Bool) (fed : Fed) (piece : List ℕ) → Feeds old new text last fed piece → fed.state ≡ state.Going → (fed.used ≡ 0) × (fed.given ≡ 0)
    → (filters : List FilterSpec) (found passed : List ℕ) → Uses filters found (passed ++ piece) new (drop fed.used text) → (drop fed.used text ≡ []) × (piece ≡ []) × IsSettled filters found passed
settled old new text last fed piece f is nought filters found passed u =
    let idle = f.idle is nought.0 nought.1 in
    let none : drop fed.used text ≡ [] = drop_all fed.used text (let len : length text ≡ 0 = ap length idle.0 in omega arith) in
    let no_piece : piece ≡ [] = nil_from_length piece (f.count ∙ nought.1) in
    let all : found ≡ u.used = u.found_is ∙ ap (λ (h : List ℕ). u.used ++ h) none ∙ append-nil u.used in
    let given : passed ++ piece ≡ passed = ap (λ (t : List ℕ). passed ++ t) no_piece ∙ append-nil passed in
    (none, no_piece, ap (filtered filters false) all ∙ f.all is nought.0 nought.1 filters u.used (passed ++ piece) u.has ∙ ap (λ (t : List ℕ). record { output = t; state = state.Going }) given)

abbrev Lefts : Sieve → Sieve → Fed → Type 0
Lefts old new fed = (sift_left new ≤ sift_left old) × (0 < fed.used + fed.given → sift_left new < sift_left old) × (end_left new.end < end_left old.end → sift_left new < sift_left old)

-- what a call makes of the body so far, and what its answer says
abbrev Stepped : Sieve → Sieve → (piece : List ℕ) → Sifted → List FilterSpec → (found passed : List ℕ) → Type 0
Stepped old new piece answer filters found passed = SievedAt new.end filters found (passed ++ piece) new.chain new.held.items × Tells answer old new piece filters found passed

open_step : (old new : Sieve) (last : Bool) (fed : Fed) (piece : List ℕ) (moved : Bool) → Fed_ old new last fed piece moved → old.end ≡ body_end.Open
    → (filters : List FilterSpec) (found passed : List ℕ) → Uses filters found passed old.chain old.held.items
    → (st : FedState) → fed.state ≡ st → Stepped old new piece (answer_at old.end st moved) filters found passed
open_step old new last fed piece moved x open_ filters found passed u st is = by st is
  where
    after : Uses filters found (passed ++ piece) new.chain (drop fed.used old.held.items)
    after = uses_on old.chain new.chain old.held.items last fed piece x.feeds (not_ended old new last fed piece moved x open_) filters found passed u

    sieved : new.end ≡ old.end → SievedAt new.end filters found (passed ++ piece) new.chain new.held.items
    sieved same = subst (λ (e : BodyEnd). SievedAt e filters found (passed ++ piece) new.chain new.held.items) (sym (same ∙ open_)) (subst (λ (h : List ℕ). Uses filters found (passed ++ piece) new.chain h) (sym x.held) after)

    lefts : new.end ≡ old.end → Lefts old new fed
    lefts same = less_left old new last fed piece moved x (same_left old.end new.end same) filters found passed (inl u) (inl after)

    going : (b : Bool) → moved ≡ b → fed.state ≡ state.Going → Stepped old new piece (answer_at old.end state.Going b) filters found passed
    going true e on =
        let same = is_end old new last fed piece moved x state.Going true on e (λ h. let both : sifted.Gave ≡ sifted.Accepted = h in cc both) in
        (sieved same, (same, (lefts same).1 (x.some e)))
    going false e on =
        let same = is_end old new last fed piece moved x state.Going false on e (λ h. let both : sifted.Idle ≡ sifted.Accepted = h in cc both) in
        let s = settled old.chain new.chain old.held.items last fed piece x.feeds on (x.none e) filters found passed after in
        (sieved same, (same, open_, x.held ∙ s.0, s.1, s.2, (lefts same).0))

    by : (st : FedState) → fed.state ≡ st → Stepped old new piece (answer_at old.end st moved) filters found passed
    by state.Over e = absurd (never_over old.chain new.chain old.held.items last fed piece x.feeds e filters found (passed ++ piece) (drop fed.used old.held.items) after)
    by (state.Refused code) e =
        let same = is_end old new last fed piece moved x (state.Refused code) moved e refl (λ h. let both : sifted.Refused code ≡ sifted.Accepted = h in cc both) in
        (sieved same, (same, (lefts same).0, inl (refused_used old.chain new.chain old.held.items last fed piece code x.feeds e filters found (passed ++ piece) (drop fed.used old.held.items) after)))
    by state.Going e = going moved refl e

ended_step : (old new : Sieve) (last : Bool) (fed : Fed) (piece : List ℕ) (moved : Bool) → Fed_ old new last fed piece moved → is_ended old.end ≡ true → old.end ≢ body_end.Accepted
    → (filters : List FilterSpec) (found passed : List ℕ) → ((held : List ℕ) → Either filters found (passed ++ piece) new.chain held → SievedAt old.end filters found (passed ++ piece) new.chain held)
    → Either filters found passed old.chain old.held.items
    → (st : FedState) → fed.state ≡ st → Stepped old new piece (answer_at old.end st moved) filters found passed
ended_step old new last fed piece moved x ended none filters found passed from before st is = by st is
  where
    on : last ≡ true
    on = x.last_is ∙ ended

    after : Either filters found (passed ++ piece) new.chain (drop fed.used old.held.items)
    after = whole_on old.chain new.chain old.held.items last fed piece x.feeds on filters found passed before

    held : Either filters found (passed ++ piece) new.chain new.held.items
    held = subst (λ (h : List ℕ). Either filters found (passed ++ piece) new.chain h) (sym x.held) after

    sieved : new.end ≡ old.end → SievedAt new.end filters found (passed ++ piece) new.chain new.held.items
    sieved same = subst (λ (e : BodyEnd). SievedAt e filters found (passed ++ piece) new.chain new.held.items) (sym same) (from new.held.items held)

    lefts : end_left new.end ≤ end_left old.end → Lefts old new fed
    lefts at = less_left old new last fed piece moved x at filters found passed before after

    is_whole : (st : FedState) → fed.state ≡ st → is_over st ≡ true → HasFilteredAll filters found (passed ++ piece) new.chain → filtered filters true found ≡ record { output = passed ++ piece; state = st }
    is_whole st e o all = x.feeds.over filters found (passed ++ piece) all (subst (λ (s : FedState). is_over s ≡ true) (sym e) o) ∙ ap (λ (s : FedState). record { output = passed ++ piece; state = s }) e

    refused : (code : ℕ) → fed.state ≡ state.Refused code → Either filters found (passed ++ piece) new.chain (drop fed.used old.held.items) → IsRefused old.end filters found (passed ++ piece) code
    refused code e (inl u) = inl (refused_used old.chain new.chain old.held.items last fed piece code x.feeds e filters found (passed ++ piece) (drop fed.used old.held.items) u)
    refused code e (inr all) = inr (ended, is_whole (state.Refused code) e refl all.1)

    -- filters that are over used and gave all
    all_of : fed.state ≡ state.Over → Either filters found (passed ++ piece) new.chain new.held.items → UsesAll filters found (passed ++ piece) new.chain new.held.items × IsAllGiven filters found (passed ++ piece)
    all_of e (inl u) = absurd (never_over old.chain new.chain old.held.items last fed piece x.feeds e filters found (passed ++ piece) new.held.items u)
    all_of e (inr all) = (all, is_whole state.Over e refl all.1)

    over : (at : BodyEnd) → old.end ≡ at → fed.state ≡ state.Over → Stepped old new piece (over_at at) filters found passed
    over body_end.Open at e = absurd (let both : true ≡ false = sym ended ∙ ap is_ended at in cc both)
    over body_end.Accepted at e = absurd (none at)
    over body_end.Whole at e =
        let now = x.accepted (answer_is old new last fed piece moved x body_end.Whole state.Over moved at e refl) in
        let one : end_left old.end ≡ 1 = ap end_left at in
        let zero : end_left new.end ≡ 0 = ap end_left now in (
          subst (λ (b : BodyEnd). SievedAt b filters found (passed ++ piece) new.chain new.held.items) (sym now) (all_of e held),
          (at, now, (lefts (omega arith)).2 (omega arith)),
        )
    over body_end.Cut at e =
        let same = x.other (λ h. let both : sifted.Cut ≡ sifted.Accepted = sym (answer_is old new last fed piece moved x body_end.Cut state.Over moved at e refl) ∙ h in cc both) in
        (sieved same, (same, at, (lefts (same_left old.end new.end same)).0, (all_of e held).1))

    going : (b : Bool) → moved ≡ b → fed.state ≡ state.Going → Stepped old new piece (answer_at old.end state.Going b) filters found passed
    going true e g =
        let same = is_end old new last fed piece moved x state.Going true g e (λ h. let both : sifted.Gave ≡ sifted.Accepted = h in cc both) in
        (sieved same, (same, (lefts (same_left old.end new.end same)).1 (x.some e)))
    going false e g =
        let nought = x.none e in
        let off : last ≡ false = (x.feeds.idle g nought.0 nought.1).1 in
        absurd (let both : true ≡ false = sym on ∙ off in cc both)

    by : (st : FedState) → fed.state ≡ st → Stepped old new piece (answer_at old.end st moved) filters found passed
    by state.Over e = over old.end refl e
    by (state.Refused code) e =
        let same = is_end old new last fed piece moved x (state.Refused code) moved e refl (λ h. let both : sifted.Refused code ≡ sifted.Accepted = h in cc both) in
        (sieved same, (same, (lefts (same_left old.end new.end same)).0, refused code e after))
    by state.Going e = going moved refl e

step_at : (at : BodyEnd) (old new : Sieve) (last : Bool) (fed : Fed) (piece : List ℕ) (moved : Bool) → Fed_ old new last fed piece moved → old.end ≡ at → at ≢ body_end.Accepted
    → (filters : List FilterSpec) (found passed : List ℕ) → SievedAt at filters found passed old.chain old.held.items
    → Stepped old new piece (answer_at old.end fed.state moved) filters found passed
step_at body_end.Open old new last fed piece moved x is none filters found passed s = open_step old new last fed piece moved x is filters found passed s fed.state refl
step_at body_end.Cut old new last fed piece moved x is none filters found passed s =
    ended_step old new last fed piece moved x (ap is_ended is) (λ e. none (sym is ∙ e)) filters found passed
    (λ held u. subst (λ (e : BodyEnd). SievedAt e filters found (passed ++ piece) new.chain held) (sym is) u) s fed.state refl
step_at body_end.Whole old new last fed piece moved x is none filters found passed s =
    ended_step old new last fed piece moved x (ap is_ended is) (λ e. none (sym is ∙ e)) filters found passed
    (λ held u. subst (λ (e : BodyEnd). SievedAt e filters found (passed ++ piece) new.chain held) (sym is) u) s fed.state refl
step_at body_end.Accepted old new last fed piece moved x is none filters found passed s = absurd (none refl)

not_idle : (at : BodyEnd) → over_at at ≢ sifted.Idle
not_idle body_end.Open idle = let both : sifted.Accepted ≡ sifted.Idle = idle in cc both
not_idle body_end.Whole idle = let both : sifted.Accepted ≡ sifted.Idle = idle in cc both
not_idle body_end.Accepted idle = let both : sifted.Accepted ≡ sifted.Idle = idle in cc both
not_idle body_end.Cut idle = let both : sifted.Cut ≡ sifted.Idle = idle in cc both

still_now : (old new : Sieve) (last : Bool) (fed : Fed) (piece : List ℕ) (moved : Bool) → Fed_ old new last fed piece moved → (st : FedState) (b : Bool) → fed.state ≡ st → moved ≡ b → answer_at old.end st b ≡ sifted.Idle → IsStill new
still_now old new last fed piece moved x state.Over b is e idle = absurd (not_idle old.end idle)
still_now old new last fed piece moved x (state.Refused code) b is e idle = absurd (let both : sifted.Refused code ≡ sifted.Idle = idle in cc both)
still_now old new last fed piece moved x state.Going true is e idle = absurd (let both : sifted.Gave ≡ sifted.Idle = idle in cc both)
still_now old new last fed piece moved x state.Going false is e idle = let n = x.none e in x.feeds.all is n.0 n.1

pub sifts : (old new : Sieve) (last : Bool) (fed : Fed) (piece : List ℕ) (moved : Bool) (blocks : List Block) → Fed_ old new last fed piece moved → old.end ≢ body_end.Accepted → blocks ≡ append_data [] piece
    → Sifts old new (answer_at old.end fed.state moved) blocks
sifts old new last fed piece moved blocks x open_ put = record {
  piece = piece;
  put = put;
  still = λ idle. still_now old new last fed piece moved x fed.state moved refl refl idle;
  sieved = λ filters found passed s. (step_at old.end old new last fed piece moved x refl open_ filters found passed s).0;
  tells = λ filters found passed s. (step_at old.end old new last fed piece moved x refl open_ filters found passed s).1;
}

-- ---- a new body

pub reset_at : (at : BodyEnd) (filters : List FilterSpec) (found passed held : List ℕ) (old new : Chain) → ((fs : List FilterSpec) (used given : List ℕ) → HasFiltered fs used given old → HasFiltered fs [] [] new)
    → ((fs : List FilterSpec) (body given : List ℕ) → HasFilteredAll fs body given old → HasFiltered fs [] [] new) → SievedAt at filters found passed old held → HasFiltered filters [] [] new
reset_at body_end.Open filters found passed held old new going ended s = going filters s.used passed s.has
reset_at body_end.Cut filters found passed held old new going ended (inl u) = going filters u.used passed u.has
reset_at body_end.Cut filters found passed held old new going ended (inr all) = ended filters found passed all.1
reset_at body_end.Whole filters found passed held old new going ended (inl u) = going filters u.used passed u.has
reset_at body_end.Whole filters found passed held old new going ended (inr all) = ended filters found passed all.1
reset_at body_end.Accepted filters found passed held old new going ended s = ended filters found passed s.0.1
