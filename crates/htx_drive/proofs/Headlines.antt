-- The streams of links, as ways in which a history's streams go on.
use Rattle.std.proofs.Common.{◌≡◌, ℕ, List, [], ◌∷◌, ◌++◌, Bool, true, false, Option, Some, None, map, sym, ap, subst, ◌∙◌, refl}
use Rattle.std.proofs.lemmas.List.{append-nil}
use Rattle.std.specs.List.{AllZip, AllByRecursion}
use Rattle.http_model.specs.declared.Ending.{Ending}
use Rattle.http_model.specs.declared.Ending.TheVariants.{Closed, Broke}
use Rattle.session_model.specs.Stream.{Stream, Server, NotThere, Open}
use Rattle.session_core.specs.History as history
use Rattle.session_core.specs.History.{Past, Connect, Continues, ContinuesBy, ContinuesServer}
use Rattle.session_core.specs.Consequences.{out_of_past}
use Rattle.session_model.specs.Meaning.{Meaning}
use Rattle.px_link.specs.Link.{Seen, Manner}
use Rattle.px_link.specs.Net.{Place, NetSeen, Kept}
use Rattle.px_link.specs.Net as net
use Rattle.htx_drive.specs.Came.{Came, EndsSo}
use Rattle.htx_drive.specs.Dialled.{Dial, IsDial, IsDialBy, IsServed}
use Rattle.htx_drive.specs.Headline.{stream_by, stream_of, IsServerOf, IsSessionOf}
use Rattle.htx_drive.specs.Ran.{RanSo}
use Rattle.htx_drive.specs.declared.Ran.{Ran}
use Rattle.htx_drive.proofs.Reading.{at_some}

continues_by : (first now : Seen) (how : Option Ending) (came own rest : List ℕ) (ending : Ending) → own ≡ came ++ rest → (how ≡ Some Closed → rest ≡ []) → first.ending ≡ Some ending → EndsSo first now how
    → ContinuesBy how came (stream_by how came own ending)
continues_by first now None came own rest ending e c is h = (rest, e)
continues_by first now (Some Closed) came own rest ending e c is h =
    (e ∙ ap (λ l. came ++ l) (c refl) ∙ append-nil came, at_some first.ending ending (λ e. e ≡ Closed) is h.1)
continues_by first now (Some Broke) came own rest ending e c is h = (refl, refl)

pub continues : (first now : Seen) (came : history.Coming) (own : List ℕ) (ending : Ending) → first.to_come ≡ Some own → first.ending ≡ Some ending → Came first now came → Continues came (stream_of came own ending)
continues first now came own ending told is h = let o = h.bytes own told in continues_by first now came.ending came.bytes own o.rest ending o.bytes o.closed is h.ended

abbrev record_of : List ℕ → Ending → Stream
record_of xs e = record { bytes = xs; ending = e }

stream_same : (xs ys : List ℕ) (d e : Ending) → xs ≡ ys → d ≡ e → record_of xs d ≡ record_of ys e
stream_same xs ys d e a b = ap (λ l. record_of l d) a ∙ ap (λ f. record_of ys f) b

plain_by : (first now : Seen) (how : Option Ending) (came own rest : List ℕ) (ending : Ending) → own ≡ came ++ rest → (how ≡ Some Broke → rest ≡ []) → first.ending ≡ Some ending → first.plain ≡ true → EndsSo first now how
    → stream_by how came own ending ≡ record { bytes = own; ending = ending }
plain_by first now None came own rest ending e c is p h = refl
plain_by first now (Some Closed) came own rest ending e c is p h = refl
plain_by first now (Some Broke) came own rest ending e c is p h =
    let a : came ≡ own = sym (e ∙ ap (λ l. came ++ l) (c refl) ∙ append-nil came) in
    let b : Broke ≡ ending = sym (at_some first.ending ending (λ e. e ≡ Broke) is (h.1 p)) in
    stream_same came own Broke ending a b

pub plain_stream : (first now : Seen) (came : history.Coming) (own : List ℕ) (ending : Ending) → first.to_come ≡ Some own → first.ending ≡ Some ending → Came first now came → first.plain ≡ true → stream_of came own ending ≡ record { bytes = own; ending = ending }
plain_stream first now came own ending told is h p = let o = h.bytes own told in plain_by first now came.ending came.bytes own o.rest ending o.bytes (o.broke p) is p h.ended

-- ---- servers

pub record Found (dials : List Dial) (cs : List Connect) : Type 0 where
  pub servers : List Server
  pub found : AllZip IsServerOf dials servers
  pub go_on : AllZip ContinuesServer cs servers

record FoundOne (d : Dial) : Type 0 where
  server : Server
  is : IsServerOf d server
  goes_on : ContinuesServer d.connect server

found_one : (manner : Manner) (plain : Type 0) (d : Dial) (there : Bool) → d.connect.there ≡ there → IsDialBy d.connect.there manner plain d → FoundOne d
found_one manner plain d true e h =
    let P : Bool → Type 0 = λ b. IsDialBy b manner plain d in
    let k : IsServed manner d = subst P e h in
    record {
      server = Open (stream_of d.connect.stream k.coming.bytes k.coming.ending) d.connect.stopped;
      is = (e, refl, k.coming, k.first, refl);
      goes_on = (e, refl, continues _ k.so.last d.connect.stream k.coming.bytes k.coming.ending refl refl k.so.came);
    }
found_one manner plain d false e h = record { server = NotThere; is = e; goes_on = e }

found_all : (manner : Manner) (plain : Type 0) (ds : List Dial) → AllByRecursion (IsDial manner plain) ds → Found ds (map (λ (d : Dial). d.connect) ds)
found_all manner plain [] all = record { servers = []; found = tt; go_on = tt }
found_all manner plain (d ∷ ds) all =
    let a = found_one manner plain d d.connect.there refl all.0 in
    let b = found_all manner plain ds all.1 in
    record { servers = a.server ∷ b.servers; found = (a.is, b.found); go_on = (a.goes_on, b.go_on) }

pub found : (manner : Manner) (plain : Type 0) (ds : List Dial) (cs : List Connect) → map (λ (d : Dial). d.connect) ds ≡ cs → AllByRecursion (IsDial manner plain) ds → Found ds cs
found manner plain ds cs e all = let P : List Connect → Type 0 = λ l. Found ds l in subst P e (found_all manner plain ds all)

-- ---- the session of a past

-- it is the session of just this past
pub record SessionOfPast {L : Type 0} (M : Meaning) (seen : L → Seen) (wrote : L → List ℕ → Type 0) (first client : L) (to : Place) (first_net now : NetSeen) (ran : Ran) (own : List ℕ) (ending : Ending) (answers : List (Option net.Coming)) (ks : List Kept) (past : Past) : Type 0 where
  pub session : IsSessionOf M seen wrote first client to first_net now ran own ending answers ks
  pub client_stream : Continues past.client (stream_of session.came own ending)
  pub server_streams : AllZip ContinuesServer past.connects session.servers
  pub came_to : session.out ≡ out_of_past past past.taken ran.exchanges ran.end

pub session_of_past : {L : Type 0} (M : Meaning) (stands : Past → Type 0) (seen : L → Seen) (wrote : L → List ℕ → Type 0) (first client : L) (to : Place) (first_net now : NetSeen) (ran : Ran) (own : List ℕ) (ending : Ending) (answers : List (Option net.Coming)) (ks : List Kept)
    → (seen first).to_come ≡ Some own → (seen first).ending ≡ Some ending → first_net.answers ≡ Some answers → first_net.kept ≡ Some ks
    → (r : RanSo M stands seen wrote first client to first_net now ran) → SessionOfPast M seen wrote first client to first_net now ran own ending answers ks r.past
session_of_past M stands seen wrote first client to first_net now ran own ending answers ks told_own told_ending told_answers told_kept r =
    let t = r.dials.told answers ks told_answers told_kept in
    let f = found _ _ t.dials r.past.connects t.connects t.each in
    let goes_on = continues (seen first) (seen client) r.past.client own ending told_own told_ending r.came in
    record {
      session = record {
        came = r.past.client;
        read_client = r.came;
        plain = plain_stream (seen first) (seen client) r.past.client own ending told_own told_ending r.came;
        connects = r.past.connects;
        told = t;
        servers = f.servers;
        found = f.found;
        out = out_of_past r.past r.past.taken ran.exchanges ran.end;
        session = r.session _ f.servers goes_on f.go_on;
        how = refl;
        count = refl;
        bit = sym r.bit;
        wrote_client = r.put.wrote;
        closed_client = r.closed;
        sent = refl;
        over = r.over;
        refused = r.dials.refused;
        lent = r.dials.lent;
        dialled = r.dials.dialled;
      };
      client_stream = goes_on;
      server_streams = f.go_on;
      came_to = refl;
    }
