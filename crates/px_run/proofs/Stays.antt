-- Where all connections stand, when one place of them changes.
use Rattle.std.proofs.Common.{◌≡◌, ℕ, ◌+◌, ◌<◌, ◌≤◌, List, [], ◌∷◌, ◌++◌, Bool, true, Option, Some, None, length, get_or, set, refl, sym, ap, subst, ◌∙◌, inl, inr, arith}
use Rattle.std.specs.Prelude.{Result, is_some, IfSome, option_to_list}
use Rattle.std.specs.List.{AllByRecursion}
use Rattle.std.proofs.lemmas.List.{append-nil}
use Rattle.std.proofs.lemmas.List.Sums.{sum_by_push}
use Rattle.std.proofs.lemmas.Bool.{false≢true, cases_eq}
use Rattle.session_model.specs.Meaning.{Meaning}
use Rattle.session_core.specs.History.{Past}
use Rattle.px_link.specs.Link.{Seen}
use Rattle.px_peer.specs.declared.Pair.{Pair}
use Rattle.px_link.specs.Net.{Place, NetSeen}
use Rattle.htx_drive.specs.Machine.{CoreSeen}
use Rattle.htx_drive.specs.Weave.State.{IsReady}
use Rattle.htx_drive.specs.declared.Ran.{Ran}
use Rattle.htx_drive.specs.declared.SessionFault.{SessionFault}
use Rattle.px_run.specs.Course.{IsToldNet}
use Rattle.px_run.specs.Connection.{IsFreshFor, LookedSo, IsIdle}
use Rattle.px_run.specs.Callers.{IsAtFor, CameBack}
use Rattle.px_run.specs.Lines.{outcomes_in, said_of, ended_by}
use Rattle.px_run.specs.History.{Visit, new_visit, numbered, change_numbered, came_to, given_back, links_back, outcomes_of, open_in, count_open, IsVisit, EndsByItself}
use Rattle.px_run.specs.Hall.{IsOf, IsPlaced, IsAsked, LookedAt, IsHere, AllStand, Advances, advanced, taken_at, count_taken}
use Rattle.px_run.specs.declared.held.Held.{Held}
use Rattle.px_run.specs.declared.caller.Caller.{Caller}
use Rattle.px_run.specs.declared.connection.Connection.{Connection}
use Rattle.px_run.specs.declared.connection.Looked.{Looked}
use Rattle.px_run.proofs.Callers.{for_asked}
use Rattle.px_run.proofs.Halls.{here_taken, taken_set, taken_set_same}
use Rattle.px_run.proofs.Numbers.{some_same, num_here, num_other, num_view, num_map, num_all, num_sum, num_more, num_last, num_within, here_set, here_at, here_last}
use Rattle.px_run.proofs.Sets.{all_more}
use Rattle.px_run.proofs.ToldSo.{keeps_same, keeps_changed}
use Rattle.px_run.proofs.Texts.{looked_says, looked_other, looked_keeps, idle_says}
use Rattle.px_run.specs.declared.plan.Opening.{Opening}

module _ {C L N : Type 0} (M : Option Pair → Meaning) (stands : Option Pair → C → Past → Type 0) (sees : C → CoreSeen) (sound rested : C → Type 0) (seen : L → Seen) (wrote : L → List ℕ → Type 0) (tells : L → Option Pair → Type 0) (accepts_header : Bool) (opening : Opening) (sees_net : N → NetSeen) (to : Place) where
  -- ---- one connection

  -- the connection that stands there
  pub placed_is : (visits : List (Visit L N)) (at : Option (Connection C L N)) (c : Connection C L N) → at ≡ Some c → IsPlaced M stands sees sound rested seen wrote tells accepts_header opening sees_net to visits at → IsOf M stands sees sound rested seen wrote tells accepts_header opening sees_net to visits c
  placed_is visits at c e h = let P : Option (Connection C L N) → Type 0 = λ o. IsPlaced M stands sees sound rested seen wrote tells accepts_header opening sees_net to visits o in subst P e h

  -- of the visits, the one of its number is the same
  pub of_same : (old new : List (Visit L N)) (c : Connection C L N) → numbered c.number new ≡ numbered c.number old → IsOf M stands sees sound rested seen wrote tells accepts_header opening sees_net to old c → IsOf M stands sees sound rested seen wrote tells accepts_header opening sees_net to new c
  of_same old new c e h = record { visit = h.visit; is = e ∙ h.is; here = h.here; came = h.came; at = h.at }

  of_asked : (visits : List (Visit L N)) (b c : Connection C L N) → IsAsked seen wrote sees_net b c → IsOf M stands sees sound rested seen wrote tells accepts_header opening sees_net to visits b → IsOf M stands sees sound rested seen wrote tells accepts_header opening sees_net to visits c
  of_asked visits b c a h =
      let asked = for_asked M stands sees sound rested seen wrote tells accepts_header opening sees_net h.visit.first to (sees_net h.visit.own) b.caller b.conn.client c.conn.client b.conn.server c.conn.server (sees_net b.conn.net) (sees_net c.conn.net) b.conn.ran b.core a.client a.server a.net h.at in
      let P : Option (Result Ran SessionFault) → Type 0 = λ o. IsAtFor M stands sees sound rested seen wrote tells accepts_header opening sees_net h.visit.first b.caller c.conn.client c.conn.server to (sees_net h.visit.own) (sees_net c.conn.net) o b.core in
      let Q : Held C → Type 0 = λ o. IsAtFor M stands sees sound rested seen wrote tells accepts_header opening sees_net h.visit.first b.caller c.conn.client c.conn.server to (sees_net h.visit.own) (sees_net c.conn.net) c.conn.ran o in
      let R : Caller → Type 0 = λ o. IsAtFor M stands sees sound rested seen wrote tells accepts_header opening sees_net h.visit.first o c.conn.client c.conn.server to (sees_net h.visit.own) (sees_net c.conn.net) c.conn.ran c.core in
      record {
        visit = h.visit;
        is = ap (λ n. numbered n visits) a.number ∙ h.is;
        here = h.here;
        came = h.came ∙ sym a.ran;
        at = subst R (sym a.caller) (subst Q (sym a.core) (subst P (sym a.ran) asked));
      }

  -- it was looked at
  pub of_looked : (visits : List (Visit L N)) (b c : Connection C L N) → c.number ≡ b.number
      → ((first : L) (own : N) → IsAtFor M stands sees sound rested seen wrote tells accepts_header opening sees_net first b.caller b.conn.client b.conn.server to (sees_net own) (sees_net b.conn.net) b.conn.ran b.core → IsAtFor M stands sees sound rested seen wrote tells accepts_header opening sees_net first c.caller c.conn.client c.conn.server to (sees_net own) (sees_net c.conn.net) c.conn.ran c.core)
      → IsOf M stands sees sound rested seen wrote tells accepts_header opening sees_net to visits b → IsOf M stands sees sound rested seen wrote tells accepts_header opening sees_net to (change_numbered (came_to c.conn.ran) c.number visits) c
  of_looked visits b c n k h =
      let is : numbered c.number visits ≡ Some h.visit = ap (λ n. numbered n visits) n ∙ h.is in
      record { visit = came_to c.conn.ran h.visit; is = num_here (came_to c.conn.ran) visits c.number h.visit is; here = h.here; came = refl; at = k h.visit.first h.visit.own h.at }

  -- it was accepted
  pub of_new : (visits : List (Visit L N)) (link : L) (own : N) (c : Connection C L N) → c.number ≡ length visits + 1 → c.conn.ran ≡ None
      → IsAtFor M stands sees sound rested seen wrote tells accepts_header opening sees_net link c.caller c.conn.client c.conn.server to (sees_net own) (sees_net c.conn.net) c.conn.ran c.core
      → IsOf M stands sees sound rested seen wrote tells accepts_header opening sees_net to (visits ++ new_visit link own ∷ []) c
  of_new visits link own c n r at = record { visit = new_visit link own; is = num_last visits (new_visit link own) c.number n; here = refl; came = sym r; at = at }

  -- ---- all of them

  -- links were asked
  pub stand_asked : (visits : List (Visit L N)) (old new : List (Option (Connection C L N))) (sets behind : List C)
      → ((place : ℕ) (c : Connection C L N) → IsHere new place c → (b : Connection C L N) × IsHere old place b × IsAsked seen wrote sees_net b c) → count_taken new ≡ count_taken old → behind ≡ sets
      → AllStand M stands sees sound rested seen wrote tells accepts_header opening sees_net to visits old sets → AllStand M stands sees sound rested seen wrote tells accepts_header opening sees_net to visits new behind
  stand_asked visits old new sets behind each taken same s =
      record {
        placed = λ place c h. let b = each place c h in of_asked visits b.0 c b.2 (s.placed place b.0 b.1);
        alone = λ place other c d h k e. let b = each place c h in let f = each other d k in let x = b.2 in let y = f.2 in s.alone place other b.0 f.0 b.1 f.1 (sym x.number ∙ e ∙ y.number);
        each = s.each;
        counted = s.counted ∙ sym taken;
        ready = subst (λ l. AllByRecursion (IsReady sees sound) l) (sym same) s.ready;
        fresh = subst (λ l. AllByRecursion (IsFreshFor stands) l) (sym same) s.fresh;
      }

  -- none is open
  pub stand_none : (places : List (Option (Connection C L N))) (sets : List C) → count_taken places ≡ 0 → AllByRecursion (IsReady sees sound) sets → AllByRecursion (IsFreshFor stands) sets
      → AllStand M stands sees sound rested seen wrote tells accepts_header opening sees_net to [] places sets
  stand_none places sets e r f =
      record {
        placed = λ place c h. let one = here_taken places place c h in absurd (omega (arith, one, e));
        alone = λ place other c d h k n. let one = here_taken places place c h in absurd (omega (arith, one, e));
        each = tt;
        counted = sym e;
        ready = r;
        fresh = f;
      }

  -- a visit whose net is new, of a connection that is here
  visit_here : (f : Visit L N → Visit L N) (visit : Visit L N) → (f visit).own ≡ visit.own → (f visit).back ≡ None → IsVisit M stands sees seen wrote tells accepts_header opening sees_net to visit → IsVisit M stands sees seen wrote tells accepts_header opening sees_net to (f visit)
  visit_here f visit e n h =
      let P : Option (L × N) → Type 0 = λ o. IfSome o (λ (back : L × N). CameBack M stands sees seen wrote tells accepts_header opening (f visit).first back.0 to (sees_net (f visit).own) (sees_net back.1) (f visit).came) in
      record { new_net = subst (λ (own : N). IsToldNet opening.responder (sees_net own)) (sym e) h.new_net; back = subst P (sym n) tt }

  -- one was accepted at a place at which none is
  pub stand_new : (visits : List (Visit L N)) (places : List (Option (Connection C L N))) (sets : List C) (place : ℕ) (link : L) (own : N) (c : Connection C L N) → place < length places → ((d : Option (Connection C L N)) → get_or places place d ≡ None)
      → c.number ≡ length visits + 1 → IsToldNet opening.responder (sees_net own) → IsOf M stands sees sound rested seen wrote tells accepts_header opening sees_net to (visits ++ new_visit link own ∷ []) c
      → AllStand M stands sees sound rested seen wrote tells accepts_header opening sees_net to visits places sets → AllStand M stands sees sound rested seen wrote tells accepts_header opening sees_net to (visits ++ new_visit link own ∷ []) (set places place (Some c)) sets
  stand_new visits places sets place link own c w free n net of s =
      record {
        placed = λ other d h. elim (here_set places place other (Some c) d h) [
          | inl k ↦ subst (λ (o : Connection C L N). IsOf M stands sees sound rested seen wrote tells accepts_header opening sees_net to (visits ++ new_visit link own ∷ []) o) (some_same c d k.1) of
          | inr k ↦ (let was = s.placed other d k.1 in of_same visits (visits ++ new_visit link own ∷ []) d (num_more visits (new_visit link own ∷ []) d.number was.visit was.is ∙ sym was.is) was)
        ];
        alone = λ one other d e h k same. elim (here_set places place one (Some c) d h) [
          | inl p ↦ elim (here_set places place other (Some c) e k) [
            | inl q ↦ p.0 ∙ sym q.0
            | inr q ↦ (let f = num_of e other q.1 in let g : c.number ≡ d.number = ap (λ (o : Connection C L N). o.number) (some_same c d p.1) in absurd (omega (arith, f, g, n, same)))
          ]
          | inr p ↦ elim (here_set places place other (Some c) e k) [
            | inl q ↦ (let f = num_of d one p.1 in let g : c.number ≡ e.number = ap (λ (o : Connection C L N). o.number) (some_same c e q.1) in absurd (omega (arith, f, g, n, same)))
            | inr q ↦ s.alone one other d e p.1 q.1 same
          ]
        ];
        each = all_more (IsVisit M stands sees seen wrote tells accepts_header opening sees_net to) visits (new_visit link own) s.each (record { new_net = net; back = tt });
        counted =
            let more : count_open (visits ++ new_visit link own ∷ []) ≡ count_open visits + 1 = sum_by_push (λ (visit : Visit L N). open_in visit.back) visits (new_visit link own) in
            let taken = taken_set places place (Some c) None w in
            let nothing : Option (Connection C L N) = None in
            let none : taken_at (get_or places place nothing) ≡ 0 = ap (λ (o : Option (Connection C L N)). taken_at o) (free nothing) in
            let was = s.counted in
            omega (arith, more, taken, none, was);
        ready = s.ready;
        fresh = s.fresh;
      }
    where
      num_of : (d : Connection C L N) (other : ℕ) → IsHere places other d → d.number ≤ length visits
      num_of d other h = let was = s.placed other d h in num_within visits d.number was.visit was.is

  -- ---- the connection at a place was looked at

  abbrev Looks : (looked : Looked) → (visits : List (Visit L N)) → (places : List (Option (Connection C L N))) → (sets behind : List C) → (place : ℕ) → (was now : Option (Connection C L N)) → Type 0
  Looks looked visits places sets behind place was now =
      (b : List (Visit L N)) × Advances looked visits b × AllStand M stands sees sound rested seen wrote tells accepts_header opening sees_net to b (set places place now) behind

  looks_none : (looked : Looked) (visits : List (Visit L N)) (places : List (Option (Connection C L N))) (sets behind : List C) (place : ℕ) → place < length places → get_or places place None ≡ None → IsIdle looked
      → AllByRecursion (IsReady sees sound) behind → AllByRecursion (IsFreshFor stands) behind → AllStand M stands sees sound rested seen wrote tells accepts_header opening sees_net to visits places sets → Looks looked visits places sets behind place None None
  looks_none looked visits places sets behind place w e idle r f s = (
    visits,
    record {
      firsts = refl;
      returned = λ number. refl;
      said = λ number. sym (ap (λ l. outcomes_of (numbered number visits) ++ said_of number l) (idle_says looked idle) ∙ append-nil (outcomes_of (numbered number visits)));
      fair = λ kept all. all;
      kept = keeps_same visits;
    },
    record {
      placed = λ other c h. elim (here_set places place other None c h) [
        | inl k ↦ cc
        | inr k ↦ s.placed other c k.1
      ];
      alone = λ one other c d h k same. elim (here_set places place one None c h) [
        | inl p ↦ cc
        | inr p ↦ elim (here_set places place other None d k) [
          | inl q ↦ cc
          | inr q ↦ s.alone one other c d p.1 q.1 same
        ]
      ];
      each = s.each;
      counted = s.counted ∙ sym (taken_set_same places place None None w e refl);
      ready = r;
      fresh = f;
    },
  )

  looks_some : (looked : Looked) (visits : List (Visit L N)) (places : List (Option (Connection C L N))) (sets behind : List C) (place : ℕ) (b c : Connection C L N) → place < length places → get_or places place (Some b) ≡ Some b
      → c.number ≡ b.number → LookedSo looked b.number b.conn.ran c.conn.ran → IsOf M stands sees sound rested seen wrote tells accepts_header opening sees_net to (change_numbered (came_to c.conn.ran) c.number visits) c
      → AllByRecursion (IsReady sees sound) behind → AllByRecursion (IsFreshFor stands) behind → AllStand M stands sees sound rested seen wrote tells accepts_header opening sees_net to visits places sets → Looks looked visits places sets behind place (Some b) (Some c)
  looks_some looked visits places sets behind place b c w e n l of r f s = (
    next,
    record {
      firsts = num_map (λ (visit : Visit L N). visit.first) come (λ visit. refl) visits c.number;
      returned = λ number. num_view (λ (o : Option (Visit L N)). links_back o) come (λ visit. refl) visits c.number number;
      said = says;
      fair = λ kept all. num_all EndsByItself come visits c.number (λ visit at it. let same = the_one visit at in
          record {
            over = λ back. absurd (false≢true (ap (λ (o : Option (L × N)). is_some o) (sym was.here ∙ sym (ap (λ (v : Visit L N). v.back) same)) ∙ back));
            kept_on = looked_keeps looked b.number b.conn.ran c.conn.ran l kept
                (let P : Option (Result Ran SessionFault) → Type 0 = λ o. is_some o ≡ true → outcomes_in o ≡ [] → ⊥ in subst P (ap (λ (v : Visit L N). v.came) same ∙ was.came) it.kept_on);
          }) all;
      kept = keeps_changed come (λ visit. refl) (λ visit. refl) c.number visits;
    },
    record {
      placed = λ other d h. elim (here_set places place other (Some c) d h) [
        | inl k ↦ subst (λ (o : Connection C L N). IsOf M stands sees sound rested seen wrote tells accepts_header opening sees_net to next o) (some_same c d k.1) of
        | inr k ↦ of_same visits next d (num_other come visits c.number d.number (λ same. k.0 (s.alone other place d b k.1 here (same ∙ n)))) (s.placed other d k.1)
      ];
      alone = λ one other d x h k same. elim (here_set places place one (Some c) d h) [
        | inl p ↦ elim (here_set places place other (Some c) x k) [
          | inl q ↦ p.0 ∙ sym q.0
          | inr q ↦ p.0 ∙ s.alone place other b x here q.1 (sym n ∙ num_is c d p.1 ∙ same)
        ]
        | inr p ↦ elim (here_set places place other (Some c) x k) [
          | inl q ↦ s.alone one place d b p.1 here (same ∙ sym (num_is c x q.1) ∙ n) ∙ sym q.0
          | inr q ↦ s.alone one other d x p.1 q.1 same
        ]
      ];
      each = num_all (IsVisit M stands sees seen wrote tells accepts_header opening sees_net to) come visits c.number (λ visit at it. visit_here come visit refl (ap (λ (v : Visit L N). v.back) (the_one visit at) ∙ was.here) it) s.each;
      counted =
          let sum = num_sum (λ (visit : Visit L N). open_in visit.back) come visits c.number was.visit at_number in
          let taken = taken_set_same places place (Some c) (Some b) w e refl in
          let before = s.counted in
          omega (arith, sum, taken, before);
      ready = r;
      fresh = f;
    },
  )
    where
      come : Visit L N → Visit L N
      come = came_to c.conn.ran

      next : List (Visit L N)
      next = change_numbered (came_to c.conn.ran) c.number visits

      here : IsHere places place b
      here = here_at places place (Some b) b w e refl

      was : IsOf M stands sees sound rested seen wrote tells accepts_header opening sees_net to visits b
      was = s.placed place b here

      at_number : numbered c.number visits ≡ Some was.visit
      at_number = ap (λ k. numbered k visits) n ∙ was.is

      the_one : (visit : Visit L N) → numbered c.number visits ≡ Some visit → visit ≡ was.visit
      the_one visit at = some_same visit was.visit (sym at ∙ at_number)

      num_is : (c d : Connection C L N) → Some c ≡ Some d → c.number ≡ d.number
      num_is c d same = ap (λ (o : Connection C L N). o.number) (some_same c d same)

      says : (number : ℕ) → outcomes_of (numbered number next) ≡ outcomes_of (numbered number visits) ++ said_of number (ended_by looked)
      says number = elim (cases_eq number c.number) [
        | inl is ↦ (let a : outcomes_of (numbered number next) ≡ outcomes_in c.conn.ran = ap (λ k. outcomes_of (numbered k next)) is ∙ ap (λ (o : Option (Visit L N)). outcomes_of o) (num_here come visits c.number was.visit at_number) in
            let o : outcomes_of (numbered number visits) ≡ outcomes_in b.conn.ran = ap (λ k. outcomes_of (numbered k visits)) is ∙ ap (λ (o : Option (Visit L N)). outcomes_of o) at_number ∙ ap (λ (x : Option (Result Ran SessionFault)). outcomes_in x) was.came in
            a ∙ looked_says looked b.number b.conn.ran c.conn.ran l number (is ∙ n) ∙ sym (ap (λ x. x ++ said_of number (ended_by looked)) o))
        | inr ne ↦ (let a : outcomes_of (numbered number next) ≡ outcomes_of (numbered number visits) = ap (λ (o : Option (Visit L N)). outcomes_of o) (num_other come visits c.number number ne) in
            a ∙ sym (ap (λ x. outcomes_of (numbered number visits) ++ x) (looked_other looked b.number b.conn.ran c.conn.ran l number (λ is. ne (is ∙ sym n))) ∙ append-nil (outcomes_of (numbered number visits))))
      ]

  pub looks_at : (looked : Looked) (visits : List (Visit L N)) (places : List (Option (Connection C L N))) (sets behind : List C) (place : ℕ) (was now : Option (Connection C L N)) → place < length places → get_or places place was ≡ was
      → LookedAt looked was now → IsPlaced M stands sees sound rested seen wrote tells accepts_header opening sees_net to (advanced now visits) now
      → AllByRecursion (IsReady sees sound) behind → AllByRecursion (IsFreshFor stands) behind → AllStand M stands sees sound rested seen wrote tells accepts_header opening sees_net to visits places sets
      → (b : List (Visit L N)) × Advances looked visits b × AllStand M stands sees sound rested seen wrote tells accepts_header opening sees_net to b (set places place now) behind
  looks_at looked visits places sets behind place None None w e l p r f s = looks_none looked visits places sets behind place w e l r f s
  looks_at looked visits places sets behind place None (Some c) w e l p r f s = absurd l
  looks_at looked visits places sets behind place (Some b) None w e l p r f s = absurd l
  looks_at looked visits places sets behind place (Some b) (Some c) w e l p r f s = looks_some looked visits places sets behind place b c w e l.0 l.1 p r f s

  -- none was looked at
  pub looks_idle : (looked : Looked) (visits : List (Visit L N)) → IsIdle looked → Advances looked visits visits
  looks_idle looked visits idle =
      record {
        firsts = refl;
        returned = λ number. refl;
        said = λ number. sym (ap (λ l. outcomes_of (numbered number visits) ++ said_of number l) (idle_says looked idle) ∙ append-nil (outcomes_of (numbered number visits)));
        fair = λ kept all. all;
        kept = keeps_same visits;
      }

  -- ---- the link of a connection was given back

  -- the connections that are left are elsewhere, and are one fewer
  pub stand_back : (visits : List (Visit L N)) (places rest : List (Option (Connection C L N))) (sets : List C) (place : ℕ) (c : Connection C L N) (client : L) (own : N) → (here : IsHere places place c)
      → ((other : ℕ) (d : Connection C L N) → IsHere rest other d → (other ≡ place → ⊥) × IsHere places other d) → count_taken rest + 1 ≡ count_taken places
      → ((of : IsOf M stands sees sound rested seen wrote tells accepts_header opening sees_net to visits c) → CameBack M stands sees seen wrote tells accepts_header opening of.visit.first client to (sees_net of.visit.own) (sees_net own) c.conn.ran)
      → AllStand M stands sees sound rested seen wrote tells accepts_header opening sees_net to visits places sets → AllStand M stands sees sound rested seen wrote tells accepts_header opening sees_net to (change_numbered (given_back client own) c.number visits) rest sets
  stand_back visits places rest sets place c client own here elsewhere fewer came s =
      record {
        placed = λ other d h. let k = elsewhere other d h in
            of_same visits next d (num_other back visits c.number d.number (λ same. k.0 (s.alone other place d c k.1 here same))) (s.placed other d k.1);
        alone = λ one other d x h k same. s.alone one other d x (elsewhere one d h).1 (elsewhere other x k).1 same;
        each = num_all (IsVisit M stands sees seen wrote tells accepts_header opening sees_net to) back visits c.number (λ visit at it.
            let same : was.visit ≡ visit = some_same was.visit visit (sym was.is ∙ at) in
            let P : Option (Result Ran SessionFault) → Type 0 = λ o. CameBack M stands sees seen wrote tells accepts_header opening visit.first client to (sees_net visit.own) (sees_net own) o in
            let Q : Visit L N → Type 0 = λ v. CameBack M stands sees seen wrote tells accepts_header opening v.first client to (sees_net v.own) (sees_net own) c.conn.ran in
            record { new_net = it.new_net; back = subst P (sym was.came ∙ ap (λ (v : Visit L N). v.came) same) (subst Q same (came was)) }) s.each;
        counted =
            let sum = num_sum (λ (visit : Visit L N). open_in visit.back) back visits c.number was.visit was.is in
            let one : open_in was.visit.back ≡ 1 = ap (λ (o : Option (L × N)). open_in o) was.here in
            let before = s.counted in
            omega (arith, sum, one, before, fewer);
        ready = s.ready;
        fresh = s.fresh;
      }
    where
      back : Visit L N → Visit L N
      back = given_back client own

      next : List (Visit L N)
      next = change_numbered (given_back client own) c.number visits

      was : IsOf M stands sees sound rested seen wrote tells accepts_header opening sees_net to visits c
      was = s.placed place c here

  -- of a visit that was given back, what is said of its end stays
  pub itself_back : (visits : List (Visit L N)) (c : Connection C L N) (client : L) (own : N) → is_some c.conn.ran ≡ true → IsOf M stands sees sound rested seen wrote tells accepts_header opening sees_net to visits c → AllByRecursion EndsByItself visits
      → AllByRecursion EndsByItself (change_numbered (given_back client own) c.number visits)
  itself_back visits c client own ended was all =
      num_all EndsByItself (given_back client own) visits c.number (λ visit at it.
      let same : was.visit ≡ visit = some_same was.visit visit (sym was.is ∙ at) in
      record { over = λ e. ap (λ (o : Option (Result Ran SessionFault)). is_some o) (ap (λ (v : Visit L N). v.came) (sym same) ∙ was.came) ∙ ended; kept_on = it.kept_on }) all

  placed_some : (visits : List (Visit L N)) (places : List (Option (Connection C L N))) (sets : List C) (place : ℕ) (at : Option (Connection C L N)) → ((c : Connection C L N) → at ≡ Some c → IsHere places place c) → AllStand M stands sees sound rested seen wrote tells accepts_header opening sees_net to visits places sets
      → IsPlaced M stands sees sound rested seen wrote tells accepts_header opening sees_net to visits at
  placed_some visits places sets place None h s = tt
  placed_some visits places sets place (Some c) h s = s.placed place c (h c refl)

  -- what is said of a place
  pub placed_at : (visits : List (Visit L N)) (places : List (Option (Connection C L N))) (sets : List C) (place : ℕ) (at : Option (Connection C L N)) → place < length places → get_or places place at ≡ at → AllStand M stands sees sound rested seen wrote tells accepts_header opening sees_net to visits places sets
      → IsPlaced M stands sees sound rested seen wrote tells accepts_header opening sees_net to visits at
  placed_at visits places sets place at w e s = placed_some visits places sets place at (λ c f. here_at places place at c w e f) s

  -- and of the last one
  pub placed_last : (visits : List (Visit L N)) (places rest : List (Option (Connection C L N))) (sets : List C) (last : Option (Option (Connection C L N))) (at : Option (Connection C L N)) → last ≡ Some at → places ≡ rest ++ option_to_list last → AllStand M stands sees sound rested seen wrote tells accepts_header opening sees_net to visits places sets
      → IsPlaced M stands sees sound rested seen wrote tells accepts_header opening sees_net to visits at
  placed_last visits places rest sets last at f e s =
      let is : places ≡ rest ++ at ∷ [] = e ∙ ap (λ o. rest ++ option_to_list o) f in
      placed_some visits places sets (length rest) at (λ c g. subst (λ l. IsHere l (length rest) c) (sym is) (subst (λ o. IsHere (rest ++ o ∷ []) (length rest) c) (sym g) (here_last rest c))) s

  pub placed_none : (visits : List (Visit L N)) (at : Option (Connection C L N)) → at ≡ None → IsPlaced M stands sees sound rested seen wrote tells accepts_header opening sees_net to (advanced at visits) at
  placed_none visits None e = tt
  placed_none visits (Some c) e = cc

  pub stand_new_at : (visits : List (Visit L N)) (places : List (Option (Connection C L N))) (sets : List C) (place : ℕ) (link : L) (own : N) (c : Connection C L N) (at : Option (Connection C L N)) → place < length places → ((d : Option (Connection C L N)) → get_or places place d ≡ None)
      → at ≡ Some c → c.number ≡ length visits + 1 → IsToldNet opening.responder (sees_net own) → IsOf M stands sees sound rested seen wrote tells accepts_header opening sees_net to (visits ++ new_visit link own ∷ []) c
      → AllStand M stands sees sound rested seen wrote tells accepts_header opening sees_net to visits places sets → AllStand M stands sees sound rested seen wrote tells accepts_header opening sees_net to (visits ++ new_visit link own ∷ []) (set places place at) sets
  stand_new_at visits places sets place link own c at w free f n net of s =
      subst (λ (o : Option (Connection C L N)). AllStand M stands sees sound rested seen wrote tells accepts_header opening sees_net to (visits ++ new_visit link own ∷ []) (set places place o) sets) (sym f) (stand_new visits places sets place link own c w free n net of s)
