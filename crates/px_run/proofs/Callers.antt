-- Where a connection stands by who asks, and what it came to.
use Rattle.std.proofs.Common.{◌≡◌, ℕ, List, Bool, true, false, Option, Some, None, refl, sym, ap, subst, ◌∙◌, inl, inr}
use Rattle.std.specs.Prelude.{Result, Ok, is_some}
use Rattle.std.proofs.lemmas.Bool.{false≢true, true≢false}
use Rattle.session_model.specs.Meaning.{Meaning}
use Rattle.session_core.specs.History.{Past}
use Rattle.http_model.specs.declared.Close.TheVariants.{Failed}
use Rattle.px_link.specs.Link.{Seen, with_close}
use Rattle.px_link.specs.Net.{Place, NetSeen}
use Rattle.px_peer.specs.declared.Pair.{Pair}
use Rattle.px_proxyproto.specs.Greeting.{GreetsSoFar}
use Rattle.px_proxyproto.specs.Meeting.{Meets}
use Rattle.px_proxyproto.specs.Nets.{heading_for, introduced}
use Rattle.px_proxyproto.specs.Reading.{Read}
use Rattle.px_proxyproto.specs.declared.meeting.Met.TheVariants as met
use Rattle.htx_drive.specs.Machine.{CoreSeen}
use Rattle.htx_drive.specs.declared.Ran.{Ran}
use Rattle.htx_drive.specs.declared.SessionFault.{SessionFault}
use Rattle.serve_run.specs.Met.{TurnedAway, unheard}
use Rattle.px_run.specs.Course.{IsSame, IsSameServer, EndedOrLeft}
use Rattle.px_run.specs.Connection.{IsWaiting, IsAt}
use Rattle.px_run.specs.Callers.{pair_of, is_greeted, is_refused, net_for, IsCallerOf, ReadSo, IsServed, IsAtFor, CameAsMet, CameBack}
use Rattle.px_run.specs.declared.held.Held.{Held}
use Rattle.px_run.specs.declared.held.Held.TheVariants as helds
use Rattle.px_run.specs.declared.caller.Caller.{Caller}
use Rattle.px_run.specs.declared.caller.Caller.TheVariants as callers
use Rattle.px_run.proofs.Asked.{same_link}
use Rattle.px_run.proofs.Looks.{none_same, asked_at}
use Rattle.px_run.specs.declared.plan.Opening.{Opening}

-- what a greeter has read of a link
pub reads_from : (caller : Caller) (greeter : Read) (first now : Seen) → caller ≡ callers.Greets greeter → ReadSo caller first now → GreetsSoFar greeter first now
reads_from caller greeter first now e r = let P : Caller → Type 0 = λ o. ReadSo o first now in subst P e r

module _ {C L : Type 0} (M : Meaning) (stands : C → Past → Type 0) (sees : C → CoreSeen) (sound rested : C → Type 0) (seen : L → Seen) (wrote : L → List ℕ → Type 0) (first : L) (to : Place) (first_net : NetSeen) where
  -- nothing of it was touched
  waiting_at : (client : L) (server : Option L) (net : NetSeen) (ran : Option (Result Ran SessionFault)) (held : Held C) → ran ≡ None → held ≡ helds.Nothing → IsWaiting seen wrote first client server first_net net → IsAt M stands sees sound rested seen wrote first client server to first_net net ran held
  waiting_at client server net None helds.Nothing r c w = w
  waiting_at client server net None (helds.Rest exchanges) r c w = cc
  waiting_at client server net None (helds.Core core) r c w = cc
  waiting_at client server net (Some ran) held r c w = cc

  -- what it came to, where it has ended
  at_over : (client : L) (server : Option L) (net : NetSeen) (ran : Option (Result Ran SessionFault)) (held : Held C) → is_some ran ≡ true → IsAt M stands sees sound rested seen wrote first client server to first_net net ran held
      → EndedOrLeft M stands sees seen wrote first client to first_net net ran
  at_over client server net None held e h = absurd (false≢true e)
  at_over client server net (Some ran) helds.Nothing e h = h.came
  at_over client server net (Some ran) (helds.Rest exchanges) e h = absurd h
  at_over client server net (Some ran) (helds.Core core) e h = absurd h

module _ {C L N : Type 0} (M : Option Pair → Meaning) (stands : Option Pair → C → Past → Type 0) (sees : C → CoreSeen) (sound rested : C → Type 0) (seen : L → Seen) (wrote : L → List ℕ → Type 0) (tells : L → Option Pair → Type 0) (accepts_header : Bool) (opening : Opening) (sees_net : N → NetSeen) (first : L) (to : Place) (first_net : NetSeen) where
  -- ---- it was asked

  pub for_asked : (caller : Caller) (was client : L) (before server : Option L) (old net : NetSeen) (ran : Option (Result Ran SessionFault)) (held : Held C) → IsSame seen wrote was client → IsSameServer seen wrote before server → net ≡ old
      → IsAtFor M stands sees sound rested seen wrote tells accepts_header opening sees_net first caller was before to first_net old ran held → IsAtFor M stands sees sound rested seen wrote tells accepts_header opening sees_net first caller client server to first_net net ran held
  for_asked (callers.Greets greeter) was client before server old net ran held s t e h =
      let g = h.greeted in
      let P : Seen → Type 0 = λ k. GreetsSoFar greeter (seen first) k in
      record {
        greeted = record { accepts = g.accepts; so_far = subst P (sym s.told) g.so_far; written = λ bytes w. s.written bytes (g.written bytes w) };
        no_server = none_same seen wrote before server t h.no_server;
        same_net = e ∙ h.same_net;
        goes_on = h.goes_on;
        no_core = h.no_core;
      }
  for_asked (callers.Known pair) was client before server old net ran held s t e h =
      record { begins = h.begins; met = h.met; own = h.own; introduces = h.introduces; at = asked_at (M pair) (stands pair) sees sound rested seen wrote h.begins to (sees_net h.own) was client before server old net ran held s t e h.at }
  for_asked callers.Refused was client before server old net ran held s t e h =
      let a = h.away in
      record {
        begins = h.begins;
        met = h.met;
        away = record { is_unheard = a.is_unheard; closed = s.told ∙ a.closed; written = λ bytes w. s.written bytes (a.written bytes w); untouched = e ∙ a.untouched };
        no_server = none_same seen wrote before server t h.no_server;
        over = h.over;
        no_core = h.no_core;
      }

  -- ---- it was met, and goes on

  pub served_of : (caller : Caller) (client : L) (server : Option L) (net : NetSeen) (ran : Option (Result Ran SessionFault)) (held : Held C) → ran ≡ None → is_greeted caller ≡ false
      → IsAtFor M stands sees sound rested seen wrote tells accepts_header opening sees_net first caller client server to first_net net ran held → IsServed M stands sees sound rested seen wrote tells accepts_header opening sees_net first client server to first_net net ran held (pair_of caller)
  served_of (callers.Greets greeter) client server net ran held r e h = absurd (true≢false e)
  served_of (callers.Known pair) client server net ran held r e h = h
  served_of callers.Refused client server net ran held r e h = absurd (false≢true (ap is_some (sym r ∙ h.over)))

  served_by : (caller : Caller) (was client : L) (before server : Option L) (old net : NetSeen) (ran_before ran : Option (Result Ran SessionFault)) (held_before held : Held C) → ran_before ≡ None → is_greeted caller ≡ false
      → ((begins : L) (own : N) → IsAt (M (pair_of caller)) (stands (pair_of caller)) sees sound rested seen wrote begins was before to (sees_net own) old ran_before held_before → IsAt (M (pair_of caller)) (stands (pair_of caller)) sees sound rested seen wrote begins client server to (sees_net own) net ran held)
      → IsAtFor M stands sees sound rested seen wrote tells accepts_header opening sees_net first caller was before to first_net old ran_before held_before → IsAtFor M stands sees sound rested seen wrote tells accepts_header opening sees_net first caller client server to first_net net ran held
  served_by (callers.Greets greeter) was client before server old net ran_before ran held_before held r e k h = absurd (true≢false e)
  served_by (callers.Known pair) was client before server old net ran_before ran held_before held r e k h = record { begins = h.begins; met = h.met; own = h.own; introduces = h.introduces; at = k h.begins h.own h.at }
  served_by callers.Refused was client before server old net ran_before ran held_before held r e k h = absurd (false≢true (ap is_some (sym r ∙ h.over)))

  -- behind what was done with its session
  pub served_on : (caller next : Caller) (was client : L) (before server : Option L) (old net : NetSeen) (ran_before ran : Option (Result Ran SessionFault)) (held_before held : Held C) → ran_before ≡ None → is_greeted caller ≡ false → next ≡ caller
      → ((begins : L) (own : N) → IsAt (M (pair_of caller)) (stands (pair_of caller)) sees sound rested seen wrote begins was before to (sees_net own) old ran_before held_before → IsAt (M (pair_of caller)) (stands (pair_of caller)) sees sound rested seen wrote begins client server to (sees_net own) net ran held)
      → IsAtFor M stands sees sound rested seen wrote tells accepts_header opening sees_net first caller was before to first_net old ran_before held_before → IsAtFor M stands sees sound rested seen wrote tells accepts_header opening sees_net first next client server to first_net net ran held
  served_on caller next was client before server old net ran_before ran held_before held r e same k h =
      let P : Caller → Type 0 = λ o. IsAtFor M stands sees sound rested seen wrote tells accepts_header opening sees_net first o client server to first_net net ran held in
      subst P (sym same) (served_by caller was client before server old net ran_before ran held_before held r e k h)

  -- ---- a header was read

  -- it goes on, or it was met, and its net is to introduce it
  pub heard : (caller next : Caller) (was client : L) (server : Option L) (old : NetSeen) (net : N) (ran : Option (Result Ran SessionFault)) (held : Held C) → is_greeted caller ≡ true → is_refused next ≡ false
      → ((s : Seen) → ReadSo caller s (seen was) → ReadSo next s (seen client)) → ((bytes : List ℕ) → wrote was bytes → wrote client bytes) → sees_net net ≡ net_for opening next old
      → IsAtFor M stands sees sound rested seen wrote tells accepts_header opening sees_net first caller was server to first_net old ran held → IsAtFor M stands sees sound rested seen wrote tells accepts_header opening sees_net first next client server to first_net (sees_net net) ran held
  heard (callers.Greets greeter) (callers.Greets behind) was client server old net ran held e f reads more n h =
      let g = h.greeted in
      record {
        greeted = record { accepts = g.accepts; so_far = reads (seen first) g.so_far; written = λ bytes w. more bytes (g.written bytes w) };
        no_server = h.no_server;
        same_net = n ∙ h.same_net;
        goes_on = h.goes_on;
        no_core = h.no_core;
      }
  heard (callers.Greets greeter) (callers.Known pair) was client server old net ran held e f reads more n h =
      let g = h.greeted in
      let P : Bool → Type 0 = λ b. Meets tells b first (seen first) (seen client) (met.Caller pair) in
      record {
        begins = client;
        met = record { meets = subst P (sym g.accepts) (reads (seen first) g.so_far); written = λ bytes w. more bytes (g.written bytes w) };
        own = net;
        introduces = n ∙ ap (λ k. introduced (heading_for opening.sends_header pair) k) h.same_net;
        at = waiting_at (M pair) (stands pair) sees sound rested seen wrote client to (sees_net net) client server (sees_net net) ran held h.goes_on h.no_core (record { same = same_link seen wrote client; no_server = h.no_server; same_net = refl });
      }
  heard (callers.Greets greeter) callers.Refused was client server old net ran held e f reads more n h = absurd (true≢false f)
  heard (callers.Known pair) next was client server old net ran held e f reads more n h = absurd (false≢true e)
  heard callers.Refused next was client server old net ran held e f reads more n h = absurd (false≢true e)

  -- there is none, and its client was turned away
  pub turned_away : (caller next : Caller) (was begins client : L) (before server : Option L) (old net : NetSeen) (ran_before ran : Option (Result Ran SessionFault)) (held : Held C) → is_greeted caller ≡ true → is_refused next ≡ true
      → ((s : Seen) → ReadSo caller s (seen was) → ReadSo next s (seen begins)) → ((bytes : List ℕ) → wrote was bytes → wrote begins bytes)
      → TurnedAway seen wrote begins client old net unheard → server ≡ before → ran ≡ Some (Ok unheard)
      → IsAtFor M stands sees sound rested seen wrote tells accepts_header opening sees_net first caller was before to first_net old ran_before held → IsAtFor M stands sees sound rested seen wrote tells accepts_header opening sees_net first next client server to first_net net ran held
  turned_away (callers.Greets greeter) callers.Refused was begins client before server old net ran_before ran held e f reads more a t o h =
      let g = h.greeted in
      let P : Bool → Type 0 = λ b. Meets tells b first (seen first) (seen begins) met.Refused in
      record {
        begins = begins;
        met = record { meets = subst P (sym g.accepts) (reads (seen first) g.so_far); written = λ bytes w. more bytes (g.written bytes w) };
        away = record { is_unheard = a.is_unheard; closed = a.closed; written = a.written; untouched = a.untouched ∙ h.same_net };
        no_server = t ∙ h.no_server;
        over = o;
        no_core = h.no_core;
      }
  turned_away (callers.Greets greeter) (callers.Greets behind) was begins client before server old net ran_before ran held e f reads more a t o h = absurd (false≢true f)
  turned_away (callers.Greets greeter) (callers.Known pair) was begins client before server old net ran_before ran held e f reads more a t o h = absurd (false≢true f)
  turned_away (callers.Known pair) next was begins client before server old net ran_before ran held e f reads more a t o h = absurd (false≢true e)
  turned_away callers.Refused next was begins client before server old net ran_before ran held e f reads more a t o h = absurd (false≢true e)

  -- ---- what it came to

  -- it has ended
  pub came_back : (caller : Caller) (client : L) (server : Option L) (net : NetSeen) (ran : Option (Result Ran SessionFault)) (held : Held C) → is_some ran ≡ true
      → IsAtFor M stands sees sound rested seen wrote tells accepts_header opening sees_net first caller client server to first_net net ran held → CameBack M stands sees seen wrote tells accepts_header opening first client to first_net net ran
  came_back (callers.Greets greeter) client server net ran held e h = absurd (false≢true (ap is_some (sym h.goes_on) ∙ e))
  came_back (callers.Known pair) client server net ran held e h =
      let P : NetSeen → Type 0 = λ n. EndedOrLeft (M pair) (stands pair) sees seen wrote h.begins client to n net ran in
      inl (record { begins = h.begins; how = met.Caller pair; so = h.met; came = subst P h.introduces (at_over (M pair) (stands pair) sees sound rested seen wrote h.begins to (sees_net h.own) client server net ran held e h.at) })
  came_back callers.Refused client server net ran held e h =
      let P : Option (Result Ran SessionFault) → Type 0 = λ r. CameAsMet M stands sees seen wrote opening met.Refused h.begins client to first_net net r in
      inl (record { begins = h.begins; how = met.Refused; so = h.met; came = subst P (sym h.over) h.away })

  -- it was given up while a header was read
  pub left_greeted : (caller : Caller) (was client : L) (server : Option L) (net : NetSeen) (ran : Option (Result Ran SessionFault)) (held : Held C) → is_greeted caller ≡ true
      → seen client ≡ with_close (seen was) Failed → ((bytes : List ℕ) → wrote was bytes → wrote client bytes)
      → IsAtFor M stands sees sound rested seen wrote tells accepts_header opening sees_net first caller was server to first_net net ran held → CameBack M stands sees seen wrote tells accepts_header opening first client to first_net net ran
  left_greeted (callers.Greets greeter) was client server net ran held e closed written h =
      inr (record { begins = was; greeter = greeter; greeted = h.greeted; untouched = record { closed = closed; written = written; same_net = h.same_net; paid_none = refl }; none = h.goes_on })
  left_greeted (callers.Known pair) was client server net ran held e closed written h = absurd (false≢true e)
  left_greeted callers.Refused was client server net ran held e closed written h = absurd (false≢true e)

  -- it was given up behind that
  pub left_served : (caller : Caller) (was client : L) (server : Option L) (old net : NetSeen) (ran : Option (Result Ran SessionFault)) (held : Held C) → ran ≡ None → is_greeted caller ≡ false
      → ((begins : L) (own : N) → IsAt (M (pair_of caller)) (stands (pair_of caller)) sees sound rested seen wrote begins was server to (sees_net own) old ran held → EndedOrLeft (M (pair_of caller)) (stands (pair_of caller)) sees seen wrote begins client to (sees_net own) net ran)
      → IsAtFor M stands sees sound rested seen wrote tells accepts_header opening sees_net first caller was server to first_net old ran held → CameBack M stands sees seen wrote tells accepts_header opening first client to first_net net ran
  left_served caller was client server old net ran held r e k h =
      let s = served_of caller was server old ran held r e h in
      let P : NetSeen → Type 0 = λ n. EndedOrLeft (M (pair_of caller)) (stands (pair_of caller)) sees seen wrote s.begins client to n net ran in
      inl (record { begins = s.begins; how = met.Caller (pair_of caller); so = s.met; came = subst P s.introduces (k s.begins s.own s.at) })

-- ---- it was accepted

module _ {C L N : Type 0} (M : Option Pair → Meaning) (stands : Option Pair → C → Past → Type 0) (sees : C → CoreSeen) (sound rested : C → Type 0) (seen : L → Seen) (wrote : L → List ℕ → Type 0) (tells : L → Option Pair → Type 0) (opening : Opening) (sees_net : N → NetSeen) (first : L) (to : Place) (first_net : NetSeen) where
  pub for_new : (accepts_header : Bool) (caller : Caller) (client : L) (server : Option L) (net : N) (ran : Option (Result Ran SessionFault)) (held : Held C) → IsCallerOf tells accepts_header first caller
      → IsSame seen wrote first client → sees_net net ≡ net_for opening caller first_net → server ≡ None → ran ≡ None → held ≡ helds.Nothing → IsAtFor M stands sees sound rested seen wrote tells accepts_header opening sees_net first caller client server to first_net (sees_net net) ran held
  for_new true (callers.Greets greeter) client server net ran held k s e n r c =
      let P : Seen → Type 0 = λ t. GreetsSoFar greeter (seen first) t in
      record { greeted = record { accepts = refl; so_far = subst P (sym s.told) (k (seen first)); written = s.written }; no_server = n; same_net = e; goes_on = r; no_core = c }
  for_new true (callers.Known pair) client server net ran held k s e n r c = absurd k
  for_new true callers.Refused client server net ran held k s e n r c = absurd k
  for_new false (callers.Greets greeter) client server net ran held k s e n r c = absurd k
  for_new false (callers.Known pair) client server net ran held k s e n r c =
      record {
        begins = first;
        met = record { meets = (k, refl); written = λ bytes w. w };
        own = net;
        introduces = e;
        at = waiting_at (M pair) (stands pair) sees sound rested seen wrote first to (sees_net net) client server (sees_net net) ran held r c (record { same = s; no_server = n; same_net = refl });
      }
  for_new false callers.Refused client server net ran held k s e n r c = absurd k
