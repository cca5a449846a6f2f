-- Where a connection stands behind a move.
use Rattle.std.proofs.Common.{◌≡◌, ℕ, zero, suc, List, [], ◌∷◌, true, false, Option, Some, None, refl, sym, ap, subst, ◌∙◌, inl, inr, arith, Bool}
use Rattle.std.specs.Prelude.{is_some, IfSome, Result, Ok, drop}
use Rattle.std.specs.List.{AllByRecursion}
use Rattle.session_model.specs.Meaning.{Meaning}
use Rattle.session_core.specs.History.{Past, nothing_yet}
use Rattle.px_link.specs.declared.turns.Turn.{Turn}
use Rattle.px_link.specs.Turns as order
use Rattle.px_link.specs.Link.{Seen}
use Rattle.px_link.specs.Net.{Place, NetSeen}
use Rattle.px_pool.specs.Seats.{Seats, core_of, free_of, first_of}
use Rattle.htx_drive.specs.Machine.{CoreSeen}
use Rattle.htx_drive.specs.declared.Ran.{Ran}
use Rattle.htx_drive.specs.declared.SessionFault.{SessionFault}
use Rattle.htx_drive.proofs.Turning.{begins}
use Rattle.htx_drive.proofs.Running.{dials_fresh}
use Rattle.htx_drive.specs.Weave.Woven.{Pays, Going}
use Rattle.htx_drive.specs.Weave.Went.{GoesAs, OverSo}
use Rattle.htx_drive.specs.Weave.State.{IsFresh, Seated, KeepsOn, HasDone, SetSo, AtOnce, Waits, IsAt}
use Rattle.htx_drive.specs.declared.weave.mover.Went.{Went}
use Rattle.htx_drive.specs.declared.weave.mover.Went.TheVariants as went

pub ended_of : (E : Type 0) (on ended spent lost : Type 0) (w : Went) → w ≡ went.Ended → GoesAs {E = E} (Ok w) on ended spent lost → ended
ended_of E on ended spent lost w e h = let P : Went → Type 0 = λ w. GoesAs {E = E} (Ok w) on ended spent lost in subst P e h

pub some_has : {C : Type 0} (P : C → Type 0) (o : Option C) (c : C) → o ≡ Some c → P c → IfSome o P
some_has {C = C} P o c e p = let Q : Option C → Type 0 = λ o. IfSome o P in subst Q (sym e) p

drop_more : (waited : ℕ) (l : List Turn) → order.rest_of (drop waited l) ≡ drop (suc waited) l
drop_more zero [] = refl
drop_more zero (turn ∷ l) = refl
drop_more (suc waited) [] = refl
drop_more (suc waited) (turn ∷ l) = drop_more waited l

-- a core to which nothing has happened begins the session
begins_going : {C L : Type 0} (stands : C → Past → Type 0) (sees : C → CoreSeen) (all : List Turn) (core : C) (seen : L → Seen) (wrote : L → List ℕ → Type 0) (client : L) (to : Place) (net : NetSeen) → stands core nothing_yet
    → Going stands sees all all core seen wrote client client None to net net 0
begins_going stands sees all core seen wrote client to net s =
    record { past = nothing_yet; under = record { idle = begins stands sees all 0 core seen wrote client s; dials = dials_fresh to net }; more = omega arith }

module _ {C L : Type 0} (M : Meaning) (stands : C → Past → Type 0) (sees : C → CoreSeen) (sound : C → Type 0) (prompt : Bool) (turns ahead : List Turn) (seen : L → Seen) (wrote : L → List ℕ → Type 0) (first : L) (to : Place) (first_net : NetSeen) where
  pub begins_at : (client : L) (server : Option L) (net : NetSeen) (core : C) (count : ℕ) → stands core nothing_yet → (w : Waits prompt turns ahead first client server first_net net count)
      → Going stands sees (drop w.waited turns) ahead core seen wrote first client server to first_net net count
  begins_at client server net core count s w =
      let b = begins_going stands sees (drop w.waited turns) core seen wrote first to first_net s in
      let P : List Turn → Type 0 = λ l. Going stands sees (drop w.waited turns) l core seen wrote first first None to first_net first_net 0 in
      let Q : L → Type 0 = λ x. Going stands sees (drop w.waited turns) ahead core seen wrote first x None to first_net first_net 0 in
      let R : Option L → Type 0 = λ x. Going stands sees (drop w.waited turns) ahead core seen wrote first client x to first_net first_net 0 in
      let S : NetSeen → Type 0 = λ x. Going stands sees (drop w.waited turns) ahead core seen wrote first client server to first_net x 0 in
      let T : ℕ → Type 0 = λ n. Going stands sees (drop w.waited turns) ahead core seen wrote first client server to first_net net n in
      subst T (sym w.paid_none) (subst S (sym w.same_net) (subst R (sym w.no_server) (subst Q (sym w.same_client) (subst P (sym w.left) b))))

  -- its session under way, with the core that it now has
  pub record Begun (client : L) (server : Option L) (net : NetSeen) (total left : ℕ) (held : Option C) : Type 0 where
    pub waited : ℕ
    pub at_once : AtOnce prompt waited
    pub go : IfSome held (λ core. Pays total left (Going stands sees (drop waited turns) ahead core seen wrote first client server to first_net net))

  has_begun : (client : L) (server : Option L) (net : NetSeen) (total left : ℕ) (held : Option C) → Pays total left (IsAt M stands sees sound prompt turns ahead seen wrote first client server to first_net net None held) → Begun client server net total left held
  has_begun client server net total left None p = record { waited = 0; at_once = λ e. refl; go = tt }
  has_begun client server net total left (Some core) p = let h = p.so in record { waited = h.waited; at_once = h.at_once; go = record { count = p.count; is = p.is; so = h.going } }

  takes_first : (client : L) (server : Option L) (net : NetSeen) (total left : ℕ) (free : List C) → AllByRecursion (IsFresh stands) free → Pays total left (Waits prompt turns ahead first client server first_net net) → Begun client server net total left (first_of free)
  takes_first client server net total left [] all p = record { waited = 0; at_once = λ e. refl; go = tt }
  takes_first client server net total left (core ∷ free) all p = let w = p.so in record { waited = w.waited; at_once = w.at_once; go = record { count = p.count; is = p.is; so = begins_at client server net core p.count all.0 w } }

  pub begun : (client : L) (server : Option L) (net : NetSeen) (total left number : ℕ) (ran : Option (Result Ran SessionFault)) (old new : Seats C) → ran ≡ None → Seated number old new → AllByRecursion (IsFresh stands) (free_of old)
      → Pays total left (IsAt M stands sees sound prompt turns ahead seen wrote first client server to first_net net ran (core_of number old)) → Begun client server net total left (core_of number new)
  begun client server net total left number ran old new e (inl k) all p =
      let P : Option (Result Ran SessionFault) → Type 0 = λ r. Pays total left (IsAt M stands sees sound prompt turns ahead seen wrote first client server to first_net net r (core_of number old)) in
      let Q : Option C → Type 0 = λ o. Begun client server net total left o in
      subst Q (sym k.core) (has_begun client server net total left (core_of number old) (subst P e p))
  begun client server net total left number ran old new e (inr t) all p =
      let P : Option (Result Ran SessionFault) → Type 0 = λ r. Pays total left (IsAt M stands sees sound prompt turns ahead seen wrote first client server to first_net net r (core_of number old)) in
      let Q : Option C → Type 0 = λ o. Begun client server net total left o in
      let R : Option C → Type 0 = λ o. Pays total left (IsAt M stands sees sound prompt turns ahead seen wrote first client server to first_net net None o) in
      subst Q (sym t.core) (takes_first client server net total left (free_of old) all (subst R t.none (subst P e p)))

  -- an ended one stays as it is
  pub still : (client : L) (server : Option L) (net : NetSeen) (total left : ℕ) (ran : Option (Result Ran SessionFault)) (held : Option C) (l : List Turn) → is_some ran ≡ true
      → Pays total left (IsAt M stands sees sound prompt turns ahead seen wrote first client server to first_net net ran held) → Pays total left (IsAt M stands sees sound prompt turns l seen wrote first client server to first_net net ran held)
  still client server net total left None held l e p = absurd (let f : false ≡ true = e in not_so f)
    where
      not_so : false ≡ true → ⊥
      not_so e = cc
  still client server net total left (Some ran) None l e p = p
  still client server net total left (Some ran) (Some core) l e p = absurd p.so

  -- one that waits has waited one turn more
  pub waits_more : (client : L) (server : Option L) (net : NetSeen) (total left : ℕ) (ran : Option (Result Ran SessionFault)) (held : Option C) → (prompt ≡ true → ⊥) → ran ≡ None → held ≡ None
      → Pays total left (IsAt M stands sees sound prompt turns ahead seen wrote first client server to first_net net ran held) → Pays total left (IsAt M stands sees sound prompt turns (order.rest_of ahead) seen wrote first client server to first_net net ran held)
  waits_more client server net total left None None room e n p =
      let w = p.so in
      record { count = p.count; is = p.is; so = record { waited = suc w.waited; at_once = λ e. absurd (room e); left = ap (λ l. order.rest_of l) w.left ∙ drop_more w.waited turns; same_client = w.same_client; same_net = w.same_net; no_server = w.no_server; paid_none = w.paid_none } }
  waits_more client server net total left None (Some core) room e n p = absurd (none_so core n)
    where
      none_so : (core : C) → Some core ≡ None → ⊥
      none_so core n = cc
  waits_more client server net total left (Some ran) held room e n p = absurd (none_so ran e)
    where
      none_so : (ran : Result Ran SessionFault) → Some ran ≡ None → ⊥
      none_so ran n = cc

pub some_so : {C : Type 0} (P : C → Type 0) (o : Option C) (c : C) → o ≡ Some c → IfSome o P → P c
some_so {C = C} P o c e h = let Q : Option C → Type 0 = λ x. IfSome x P in subst Q e h

-- behind a move with a core
module _ {C L : Type 0} (M : Meaning) (stands : C → Past → Type 0) (sees : C → CoreSeen) (sound : C → Type 0) (prompt : Bool) (turns ahead : List Turn) (seen : L → Seen) (wrote : L → List ℕ → Type 0) (first client : L) (server : Option L) (to : Place) (first_net net : NetSeen) (total left waited : ℕ) (at_once : AtOnce prompt waited) (ran : Option (Result Ran SessionFault)) (held : Option C) where
  holds_on : KeepsOn sees sound held server net.lent ran → IfSome held (λ core. Pays total left (Going stands sees (drop waited turns) ahead core seen wrote first client server to first_net net))
      → Pays total left (IsAt M stands sees sound prompt turns ahead seen wrote first client server to first_net net ran held)
  holds_on k h =
      let G : C → Type 0 = λ core. Pays total left (Going stands sees (drop waited turns) ahead core seen wrote first client server to first_net net) in
      let p : G k.core = some_so G held k.core k.is h in
      let P : Option C → Type 0 = λ o. Pays total left (IsAt M stands sees sound prompt turns ahead seen wrote first client server to first_net net None o) in
      let Q : Option (Result Ran SessionFault) → Type 0 = λ r. Pays total left (IsAt M stands sees sound prompt turns ahead seen wrote first client server to first_net net r held) in
      subst Q (sym k.goes_on) (subst P (sym k.is) (record { count = p.count; is = p.is; so = record { waited = waited; at_once = at_once; going = p.so; is_sound = k.is_sound; serving = k.serving; lent = k.is_lent } }))

  is_done : (r : Option (Result Ran SessionFault)) → server ≡ None → is_some r ≡ true → Pays total left (OverSo M stands sees (drop waited turns) seen wrote first client to first_net net r)
      → Pays total left (IsAt M stands sees sound prompt turns ahead seen wrote first client server to first_net net r None)
  is_done None n e p = absurd p.so
  is_done (Some r) n e p = record { count = p.count; is = p.is; so = (record { waited = waited; no_server = n; so = p.so }, at_once) }

  pub at_on : (was : Went) → was ≡ went.On → SetSo was sees sound held server net.lent ran → IfSome held (λ core. Pays total left (Going stands sees (drop waited turns) ahead core seen wrote first client server to first_net net))
      → Pays total left (IsAt M stands sees sound prompt turns ahead seen wrote first client server to first_net net ran held)
  at_on was e k h = let P : Went → Type 0 = λ w. SetSo w sees sound held server net.lent ran in holds_on (subst P e k) h

  pub at_spent : (was : Went) → was ≡ went.Spent → SetSo was sees sound held server net.lent ran → IfSome held (λ core. Pays total left (Going stands sees (drop waited turns) ahead core seen wrote first client server to first_net net))
      → Pays total left (IsAt M stands sees sound prompt turns ahead seen wrote first client server to first_net net ran held)
  at_spent was e k h = let P : Went → Type 0 = λ w. SetSo w sees sound held server net.lent ran in holds_on (subst P e k) h

  pub at_done : (was : Went) → was ≡ went.Ended → SetSo was sees sound held server net.lent ran → Pays total left (OverSo M stands sees (drop waited turns) seen wrote first client to first_net net ran)
      → Pays total left (IsAt M stands sees sound prompt turns ahead seen wrote first client server to first_net net ran held)
  at_done was e k p =
      let P : Went → Type 0 = λ w. SetSo w sees sound held server net.lent ran in
      let d : HasDone held server ran = subst P e k in
      let Q : Option C → Type 0 = λ o. Pays total left (IsAt M stands sees sound prompt turns ahead seen wrote first client server to first_net net ran o) in
      subst Q (sym d.none) (is_done ran d.no_server d.ended p)

pub on_of : (E : Type 0) (on ended spent lost : Type 0) (w : Went) → w ≡ went.On → GoesAs {E = E} (Ok w) on ended spent lost → on
on_of E on ended spent lost w e h = let P : Went → Type 0 = λ w. GoesAs {E = E} (Ok w) on ended spent lost in subst P e h

pub spent_of : (E : Type 0) (on ended spent lost : Type 0) (w : Went) → w ≡ went.Spent → GoesAs {E = E} (Ok w) on ended spent lost → spent
spent_of E on ended spent lost w e h = let P : Went → Type 0 = λ w. GoesAs {E = E} (Ok w) on ended spent lost in subst P e h
