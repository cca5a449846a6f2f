-- A session stays where it is while its links are asked what can be done now.
use Rattle.std.proofs.Common.{◌≡◌, ℕ, List, [], ◌++◌, Bool, Option, Some, None, refl, sym, subst, ◌∙◌}
use Rattle.session_core.specs.History.{Past, Connect}
use Rattle.px_link.specs.Link.{Seen}
use Rattle.px_link.specs.Net.{Place, NetSeen, Connected}
use Rattle.htx_drive.specs.Came.{Came, FailsSo, Put}
use Rattle.htx_drive.specs.Driven.{Idle, Rests, Linked}
use Rattle.htx_drive.specs.Dialled.{Dials}
use Rattle.htx_drive.specs.Underway.{Runs}
use Rattle.px_run.specs.Course.{IsSame, IsSameServer}

pub same_link : {L : Type 0} (seen : L → Seen) (wrote : L → List ℕ → Type 0) (link : L) → IsSame seen wrote link link
same_link seen wrote link = record { told = refl; written = λ bytes w. w }

pub same_then : {L : Type 0} (seen : L → Seen) (wrote : L → List ℕ → Type 0) (a b c : L) → IsSame seen wrote a b → IsSame seen wrote b c → IsSame seen wrote a c
same_then seen wrote a b c s t = record { told = t.told ∙ s.told; written = λ bytes w. t.written bytes (s.written bytes w) }

pub same_server : {L : Type 0} (seen : L → Seen) (wrote : L → List ℕ → Type 0) (server : Option L) → IsSameServer seen wrote server server
same_server seen wrote None = tt
same_server seen wrote (Some link) = same_link seen wrote link

module _ {L : Type 0} (seen : L → Seen) (wrote : L → List ℕ → Type 0) where
  pub put_same : (first old new : L) → IsSame seen wrote old new → (put : List ℕ) (stopped : Bool) → Put (wrote first) (wrote old) (seen first) (seen old) put stopped → Put (wrote first) (wrote new) (seen first) (seen new) put stopped
  put_same first old new s put stopped p =
      record {
        wrote = λ bytes w. s.written (bytes ++ put) (p.wrote bytes w);
        limit = p.limit;
        full = p.full;
        fails = let P : Seen → Type 0 = λ k. FailsSo (seen first) k stopped in subst P (sym s.told) p.fails;
      }

  idle_same : (S : Past → Type 0) (first old new : L) → IsSame seen wrote old new → (failed : Bool) (past : Past) → Idle S seen wrote first old failed past → Idle S seen wrote first new failed past
  idle_same S first old new s failed past i =
      let P : Seen → Type 0 = λ k. Came (seen first) k past.client in
      let Q : Seen → Type 0 = λ k. k.closed ≡ (seen first).closed in
      record { stand = i.stand; came = subst P (sym s.told) i.came; put = put_same first old new s past.taken failed i.put; closed = subst Q (sym s.told) i.closed }

  linked_same : (first old new : L) → IsSame seen wrote old new → (c : Connect) → Linked seen wrote first old c → Linked seen wrote first new c
  linked_same first old new s c l =
      let P : Seen → Type 0 = λ k. Came (seen first) k c.stream in
      let Q : Seen → Type 0 = λ k. k.closed ≡ (seen first).closed in
      record { there = l.there; unclosed = l.unclosed; came = subst P (sym s.told) l.came; put = put_same first old new s c.taken c.stopped l.put; closed = subst Q (sym s.told) l.closed }

  pub runs_same : (S : Past → Type 0) (first old new : L) (was server : Option L) (to : Place) (first_net old_net new_net : NetSeen) (count : ℕ) → IsSame seen wrote old new → IsSameServer seen wrote was server → new_net ≡ old_net
      → Runs S seen wrote first old was to first_net old_net count → Runs S seen wrote first new server to first_net new_net count
  runs_same S first old new None None to first_net old_net new_net count s t e r =
      let P : NetSeen → Type 0 = λ n. Dials to first_net n r.past.connects in
      record { past = r.past; under = record { idle = idle_same (Rests S) first old new s _ r.past r.under.idle; dials = subst P (sym e) r.under.dials }; more = r.more }
  runs_same S first old new None (Some link) to first_net old_net new_net count s t e r = absurd t
  runs_same S first old new (Some link) None to first_net old_net new_net count s t e r = absurd t
  runs_same S first old new (Some was) (Some link) to first_net old_net new_net count s t e r =
      let u = r.under in
      let P : NetSeen → Type 0 = λ n. Connected u.prior n to (seen u.lent) (wrote u.lent []) in
      record {
        past = r.past;
        under = record {
          lent = u.lent;
          before = u.before;
          c = u.c;
          prior = u.prior;
          hand = record { idle = idle_same S first old new s _ r.past u.hand.idle; connects = u.hand.connects; linked = linked_same u.lent was link t u.c u.hand.linked };
          over = u.over;
          dials = u.dials;
          connected = subst P (sym e) u.connected;
        };
        more = r.more;
      }

-- what is said of its past is said otherwise
pub runs_as : {L : Type 0} (S T : Past → Type 0) (seen : L → Seen) (wrote : L → List ℕ → Type 0) (first client : L) (server : Option L) (to : Place) (first_net net : NetSeen) (count : ℕ) → ((past : Past) → S past → T past)
    → Runs S seen wrote first client server to first_net net count → Runs T seen wrote first client server to first_net net count
runs_as S T seen wrote first client None to first_net net count f r =
    let i = r.under.idle in
    record { past = r.past; under = record { idle = record { stand = record { stand = f r.past i.stand.stand; over = i.stand.over }; came = i.came; put = i.put; closed = i.closed }; dials = r.under.dials }; more = r.more }
runs_as S T seen wrote first client (Some link) to first_net net count f r =
    let u = r.under in
    let i = u.hand.idle in
    record { past = r.past; under = record { lent = u.lent; before = u.before; c = u.c; prior = u.prior; hand = record { idle = record { stand = f r.past i.stand; came = i.came; put = i.put; closed = i.closed }; connects = u.hand.connects; linked = u.hand.linked }; over = u.over; dials = u.dials; connected = u.connected }; more = r.more }

-- there is a past of which it is said
pub runs_stands : {L : Type 0} (S : Past → Type 0) (seen : L → Seen) (wrote : L → List ℕ → Type 0) (first client : L) (server : Option L) (to : Place) (first_net net : NetSeen) (count : ℕ) → Runs S seen wrote first client server to first_net net count → (past : Past) × S past
runs_stands S seen wrote first client None to first_net net count r = (r.past, r.under.idle.stand.stand)
runs_stands S seen wrote first client (Some link) to first_net net count r = (r.past, r.under.hand.idle.stand)

pub same_server_then : {L : Type 0} (seen : L → Seen) (wrote : L → List ℕ → Type 0) (a b c : Option L) → IsSameServer seen wrote a b → IsSameServer seen wrote b c → IsSameServer seen wrote a c
same_server_then seen wrote None None None s t = tt
same_server_then seen wrote None None (Some link) s t = absurd t
same_server_then seen wrote None (Some link) c s t = absurd s
same_server_then seen wrote (Some link) None c s t = absurd s
same_server_then seen wrote (Some a) (Some b) None s t = absurd t
same_server_then seen wrote (Some a) (Some b) (Some c) s t = same_then seen wrote a b c s t

-- a link that is the same
pub same_by : {L : Type 0} (seen : L → Seen) (wrote : L → List ℕ → Type 0) (old new : L) → new ≡ old → IsSame seen wrote old new
same_by seen wrote old new e = let P : _ → Type 0 = λ l. IsSame seen wrote old l in subst P (sym e) (same_link seen wrote old)

pub same_server_by : {L : Type 0} (seen : L → Seen) (wrote : L → List ℕ → Type 0) (old new : Option L) → new ≡ old → IsSameServer seen wrote old new
same_server_by seen wrote old new e = let P : Option _ → Type 0 = λ l. IsSameServer seen wrote old l in subst P (sym e) (same_server seen wrote old)
