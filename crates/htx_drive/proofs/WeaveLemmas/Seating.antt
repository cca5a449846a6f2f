-- A connection gets a core, moves with it, and gives it back.
use Rattle.std.proofs.Common.{◌≡◌, ℕ, ◌<◌, List, [], ◌∷◌, ◌++◌, Bool, true, false, Option, Some, None, sym, ap, subst, ◌∙◌, inl, inr, arith}
use Rattle.std.specs.Prelude.{is_some, IfSome, Result}
use Rattle.std.specs.List.{AllByRecursion}
use Rattle.px_pool.specs.Owners.{SameBeside}
use Rattle.px_pool.specs.Seats.{Seats, free_of, rest_of, Inserted}
use Rattle.htx_drive.specs.Machine.{CoreSeen}
use Rattle.htx_drive.specs.declared.Ran.{Ran}
use Rattle.htx_drive.specs.declared.SessionFault.{SessionFault}
use Rattle.htx_drive.specs.Weave.Went.{HoldsOn}
use Rattle.htx_drive.specs.Weave.State.{Seated, KeepsOn, HasDone, MayMove}
use Rattle.htx_drive.specs.declared.weave.mover.Went.{Went}
use Rattle.htx_drive.specs.declared.weave.mover.Went.TheVariants as went

-- one change of a connection's behind another
pub beside_both : (number : ℕ) (old middle new : List (Option ℕ)) → SameBeside number old middle → SameBeside number middle new → SameBeside number old new
beside_both number old middle new a b =
    let first = a.counts in
    let second = b.counts in
    record { sets = b.sets ∙ a.sets; others = λ other h. b.others other h ∙ a.others other h; counts = omega (arith, first, second) }

-- the free cores are the same
pub free_kept : {C : Type 0} (P : C → Type 0) (old new : List C) → new ≡ old → AllByRecursion P old → AllByRecursion P new
free_kept P old new e all = let Q : List _ → Type 0 = λ l. AllByRecursion P l in subst Q (sym e) all

pub some_of : {C : Type 0} (P : C → Type 0) (o : Option C) (c : C) → o ≡ Some c → IfSome o P → P c
some_of {C = C} P o c e h = let Q : Option C → Type 0 = λ x. IfSome x P in subst Q e h

all_inserted : {C : Type 0} (P : C → Type 0) (before behind : List C) (w : C) → P w → AllByRecursion P (before ++ behind) → AllByRecursion P (before ++ w ∷ behind)
all_inserted P [] behind w p all = (p, all)
all_inserted P (c ∷ before) behind w p all = (all.0, all_inserted P before behind w p all.1)

-- a core was reset and is free again
pub reset_free : {C : Type 0} (P : C → Type 0) (held : Option C) (old middle new : List C) (w : C) → held ≡ Some w → Inserted held middle new → middle ≡ old → P w → AllByRecursion P old → AllByRecursion P new
reset_free {C = C} P held old middle new w put i same p all =
    let Q : List C → Type 0 = λ l. AllByRecursion P l in
    let one : P i.one = some_of P (Some w) i.one (sym put ∙ i.is) p in
    subst Q (sym i.has) (all_inserted P i.before i.behind i.one one (subst Q (sym same ∙ i.was) all))

pub keeps_on : {C L : Type 0} (sees : C → CoreSeen) (sound : C → Type 0) (held : Option C) (server : Option L) (lent : ℕ) (ran : Option (Result Ran SessionFault)) (core : C) (was : Went) → was ≡ went.On → held ≡ Some core → sound core
    → HoldsOn was (sees core).serving server lent ran → KeepsOn sees sound held server lent ran
keeps_on sees sound held server lent ran core was e is s h =
    let P : Went → Type 0 = λ w. HoldsOn w (sees core).serving server lent ran in
    let k : HoldsOn went.On (sees core).serving server lent ran = subst P e h in
    record { core = core; is = is; is_sound = s; serving = k.0; is_lent = k.1; goes_on = k.2 }

pub keeps_spent : {C L : Type 0} (sees : C → CoreSeen) (sound : C → Type 0) (held : Option C) (server : Option L) (lent : ℕ) (ran : Option (Result Ran SessionFault)) (core : C) (was : Went) → was ≡ went.Spent → held ≡ Some core → sound core
    → HoldsOn was (sees core).serving server lent ran → KeepsOn sees sound held server lent ran
keeps_spent sees sound held server lent ran core was e is s h =
    let P : Went → Type 0 = λ w. HoldsOn w (sees core).serving server lent ran in
    let k : HoldsOn went.Spent (sees core).serving server lent ran = subst P e h in
    record { core = core; is = is; is_sound = s; serving = k.0; is_lent = k.1; goes_on = k.2 }

pub has_done : {C L : Type 0} (serving : Bool) (held : Option C) (server : Option L) (lent : ℕ) (ran : Option (Result Ran SessionFault)) (was : Went) → was ≡ went.Ended → held ≡ None
    → HoldsOn was serving server lent ran → HasDone held server ran
has_done serving held server lent ran was e none h =
    let P : Went → Type 0 = λ w. HoldsOn w serving server lent ran in
    let k : HoldsOn went.Ended serving server lent ran = subst P e h in
    record { none = none; no_server = k.0; ended = k.1 }

-- ---- it may be called with the core that it got

pub as_lent : {C L : Type 0} (sees : C → CoreSeen) (sound : C → Type 0) (server : Option L) (lent : ℕ) (held : Option C) → MayMove sees sound server lent None held → is_some server ≡ true → 0 < lent
as_lent sees sound server lent None h e = absurd (let f : is_some server ≡ false = ap is_some h in not_open (is_some server) f e)
  where
    not_open : (b : Bool) → b ≡ false → b ≡ true → ⊥
    not_open b f e = cc
as_lent sees sound server lent (Some core) h e = h.is_lent e

-- the others are ready behind it
pub free_seated : {C : Type 0} (P : C → Type 0) (number : ℕ) (old new : Seats C) → Seated number old new → AllByRecursion P (free_of old) → AllByRecursion P (free_of new)
free_seated P number old new (inl k) all = let Q : List _ → Type 0 = λ l. AllByRecursion P l in subst Q (sym k.free) all
free_seated P number old new (inr t) all = let Q : List _ → Type 0 = λ l. AllByRecursion P l in subst Q (sym t.free) (rest_all (free_of old) all)
  where
    rest_all : (l : List _) → AllByRecursion P l → AllByRecursion P (rest_of l)
    rest_all [] all = tt
    rest_all (core ∷ l) all = all.1
