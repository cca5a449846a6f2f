-- From a session over links and a net that are told to the outcome of a connection of a record.
use Rattle.std.proofs.Common.{◌≡◌, ℕ, ◌+◌, ◌≤◌, List, [], ◌∷◌, ◌++◌, Bool, Option, Some, None, length, map, sum_by, sym, ap, subst, ◌∙◌, refl, arith}
use Rattle.std.specs.Prelude.{unwrap_or}
use Rattle.std.specs.List.{flat_map, AllByRecursion}
use Rattle.std.proofs.lemmas.List.Sums.{sum_by-cons}
use Rattle.http_model.specs.declared.Close.{Close}
use Rattle.http_model.specs.declared.Close.TheVariants.{Failed}
use Rattle.http_model.specs.declared.End.{End}
use Rattle.px_link.specs.Link.{Seen, Manner, AsItIs, Takes, MayRefuse, closed_by}
use Rattle.px_link.specs.Net.{Place, Kept, NetSeen}
use Rattle.px_link.specs.declared.turns.Turn.{Turn}
use Rattle.px_link.specs.MemLink.{MemLinkSeen, link_of}
use Rattle.px_link.specs.MemNet.{MemNetSeen, keeping}
use Rattle.session_model.specs.Meaning.{Meaning}
use Rattle.session_model.specs.Stream.{Server, Stream, Sent}
use Rattle.session_model.specs.Session.{Out, Session}
use Rattle.session_core.specs.History.{Past, sent_of, Connect, Continues}
use Rattle.session_core.specs.Consequences.{out_of_past}
use Rattle.htx_drive.specs.Budget.{coming_size, enough}
use Rattle.htx_drive.specs.Driven.{IsOver}
use Rattle.htx_drive.specs.Dialled.{CountsRefused, Dial, IsDial, IsPlain, all_there}
use Rattle.htx_drive.specs.declared.Ran.{Ran}
use Rattle.htx_drive.specs.declared.SessionFault.{SessionFault}
use Rattle.htx_drive.specs.declared.SessionFault.TheVariants as faults
use Rattle.rec_format.specs.Entries.{ServerEntry}
use Rattle.rec_format.specs.Recorded.{Visit}
use Rattle.htx_drive.specs.Replay.Memory.{answer_of, size_of, IsEnough}
use Rattle.htx_drive.specs.Replay.Nets.{seen_by}
use Rattle.htx_drive.specs.Replay.Outcome.{sent_on, servers_sent, refused_by, outcome}
use Rattle.htx_drive.specs.Replay.Replayed.{Serving, FindsBy, Replays}
use Rattle.htx_drive.specs.Replay.Headed.{ArePassedOn, PassesBy, ReplaysIn, ServesIn}
use Rattle.htx_drive.specs.Replay.Seen.{IsFresh, IsFreshNet, IsUntouched, IsUntouchedNet, RanOver, RanByTurns, wrote_by}
use Rattle.htx_drive.specs.Machine.{CoreSeen}
use Rattle.htx_drive.proofs.ReplayLemmas.Dials.{connects, sents, kept_sent, refused_if_not, sends, counts, kept_links, finds}
use Rattle.htx_drive.proofs.ReplayLemmas.Fresh.{untouched, untouched_net, is_plain}
use Rattle.htx_drive.proofs.ReplayLemmas.Lasts.{OnlyLast, session_last}
use Rattle.htx_drive.proofs.ReplayLemmas.Streams.{Tells, served_so}

-- ---- sizes

same_size : (entry : Option ServerEntry) → coming_size (answer_of entry) ≡ size_of entry
same_size None = refl
same_size (Some entry) = refl

pub answers_size : (entries : List (Option ServerEntry)) → sum_by coming_size (map answer_of entries) ≡ sum_by size_of entries
answers_size [] = refl
answers_size (entry ∷ entries) =
    let a = sum_by-cons coming_size (answer_of entry) (map answer_of entries) in
    let b = sum_by-cons size_of entry entries in
    a ∙ ap (λ (n : ℕ). n + sum_by coming_size (map answer_of entries)) (same_size entry) ∙ ap (λ (n : ℕ). size_of entry + n) (answers_size entries) ∙ sym b

-- ---- the outcome

closed_is : (closed : Option Close) (how : Close) → Some closed ≡ Some (Some how) → unwrap_or closed Failed ≡ how
closed_is None how e = absurd cc
closed_is (Some other) how e = cc

abbrev out_with : ℕ → End → Option Bool → Sent → List (Option Sent) → Out
out_with exchanges how cut client servers = record { exchanges = exchanges; how = how; cut = cut; client = client; servers = servers }

same_outcome : (a x : ℕ) (b y : End) (d z : Option Bool) (e w : Sent) (f v : List (Option Sent)) → a ≡ x → b ≡ y → d ≡ z → e ≡ w → f ≡ v → out_with a b d e f ≡ out_with x y z w v
same_outcome a x b y d z e w f v p q r s t = cc

abbrev sent_with : List ℕ → Close → Sent
sent_with bytes close = record { bytes = bytes; close = close }

same_sent : (a b : List ℕ) (y z : Close) → a ≡ b → y ≡ z → sent_with a y ≡ sent_with b z
same_sent a b y z p q = cc

some_list : (a b : List Kept) → Some a ≡ Some b → a ≡ b
some_list a b e = cc

-- What the links and the net below tell behind a session: this link was written what counts as written to the client's, and was closed as that one; the
-- links that were kept passed on what was written to these, with their closes, and so many connects were refused.
pub record IsBelow {L : Type 0} (seen : L → Seen) (wrote : L → List ℕ → Type 0) (client : L) (net : NetSeen) (link : MemLinkSeen) (below : MemNetSeen) (refused : ℕ) : Type 0 where
  pub written : (text : List ℕ) → wrote client text → text ≡ link.written
  pub closed : (seen client).closed ≡ Some link.closed
  pub keeps : List Kept
  pub kept : net.kept ≡ Some keeps
  pub sent : map kept_sent keeps ≡ map (λ (l : MemLinkSeen). Some (sent_on l)) below.kept
  pub refusals : net.connect_faults ≡ refused

module _ {L : Type 0} (manner : Manner) (M : Meaning) (visit : Visit) (seen : L → Seen) (wrote : L → List ℕ → Type 0) (first client : L) (to : Place) (first_net net : NetSeen) (ran : Ran) (link : MemLinkSeen) (below : MemNetSeen) (refused : ℕ)
    (in_manner : first_net.manner ≡ manner) (serves : Serving) (tells : Tells manner serves) (f : IsUntouched seen wrote visit.client first) (g : IsUntouchedNet visit.servers first_net) (b : IsBelow seen wrote client net link below refused) (s : RanOver M visit seen wrote first client to first_net net ran) where
  each : AllByRecursion (IsDial manner (IsPlain first_net)) s.told.dials
  each = let P : Manner → Type 0 = λ m. AllByRecursion (IsDial m (IsPlain first_net)) s.told.dials in subst P in_manner s.told.each

  sent : sents s.told.dials ≡ s.out.servers
  sent = ap (map sent_of) s.told.connects ∙ sym s.sent

  last : OnlyLast (sents s.told.dials)
  last = let P : List (Option Sent) → Type 0 = λ l. OnlyLast l in subst P (sym sent) (session_last M _ s.servers s.out s.session)

  -- what was passed on to the servers
  pub servers_are : ArePassedOn manner s.servers s.out.servers (servers_sent below refused)
  servers_are =
      let cs : connects s.told.dials ≡ s.connects = s.told.connects in
      let O : List Connect → Type 0 = λ l. AllByRecursion IsOver l in
      let C : List Connect → Type 0 = λ l. CountsRefused l first_net.connect_faults net.connect_faults in
      let D : ℕ → Type 0 = λ n. CountsRefused (connects s.told.dials) n net.connect_faults in
      let E : ℕ → Type 0 = λ n. CountsRefused (connects s.told.dials) 0 n in
      let kept : b.keeps ≡ flat_map (λ (d : Dial). d.kept) s.told.dials = some_list b.keeps (flat_map (λ (d : Dial). d.kept) s.told.dials) (sym b.kept ∙ s.told.kept) in
      let all = sends manner (IsPlain first_net) s.told.dials s.servers each s.found (subst O (sym cs) s.over) last in
      let faults = counts (connects s.told.dials) refused (subst E b.refusals (subst D g.none (subst C (sym cs) s.refused))) in
      let is : map kept_sent (flat_map (λ (d : Dial). d.kept) s.told.dials) ++ refused_if_not (all_there (connects s.told.dials)) ≡ servers_sent below refused =
      ap (λ (ks : List Kept). map kept_sent ks ++ refused_if_not (all_there (connects s.told.dials))) (sym kept)
      ∙ ap (λ (l : List (Option Sent)). map kept_sent b.keeps ++ l) (sym faults)
      ∙ ap (λ (l : List (Option Sent)). l ++ refused_by refused) b.sent in
      let S : List (Option Sent) → Type 0 = λ l. ArePassedOn manner s.servers l (servers_sent below refused) in
      let R : List (Option Sent) → Type 0 = λ l. ArePassedOn manner s.servers (sents s.told.dials) l in
      subst S sent (subst R is all)

  -- what was sent to the client
  pub client_is : s.out.client ≡ sent_on link
  client_is =
      let closed : Some link.closed ≡ Some (Some s.out.client.close) = sym b.closed ∙ s.closed_client ∙ ap (λ (l : Seen). closed_by l.closed s.out.client.close) f.is in
      same_sent s.out.client.bytes link.written s.out.client.close (unwrap_or link.closed Failed) (b.written s.out.client.bytes (s.wrote_client [] f.unwritten)) (sym (closed_is link.closed s.out.client.close closed))

  -- the connects found the record's servers
  pub servers_found : FindsBy serves visit.servers s.servers s.out.servers
  servers_found =
      let F : List (Option Sent) → Type 0 = λ l. FindsBy serves visit.servers s.servers l in
      subst F sent (finds manner serves tells (IsPlain first_net) (is_plain visit.servers first_net g) visit.servers (map answer_of visit.servers) s.told.left s.told.dials s.servers refl s.told.chain each last s.found)

-- the session that was run is the outcome's, which says of each server what was passed on
pub passes_by : {C L : Type 0} (manner : Manner) (serves : Serving) (M : Meaning) (stands : C → Past → Type 0) (sees : C → CoreSeen) (turns left : List Turn) (visit : Visit) (seen : L → Seen) (wrote : L → List ℕ → Type 0) (first client : L) (to : Place) (first_net net : NetSeen) (ran : Ran) (link : MemLinkSeen) (below : MemNetSeen) (refused : ℕ) (out : Out)
    → first_net.manner ≡ manner → Tells manner serves → IsUntouched seen wrote visit.client first → IsUntouchedNet visit.servers first_net → IsBelow seen wrote client net link below refused
    → RanByTurns M stands sees turns left visit seen wrote first client to first_net net ran → out ≡ outcome ran link below refused → PassesBy manner serves M stands sees turns visit out
passes_by manner serves M stands sees turns left visit seen wrote first client to first_net net ran link below refused out in_manner tells f g b r is =
    let s = r.session in
    let stream = s.plain (ap (λ (s : Seen). s.plain) f.is) in
    let servers : out.servers ≡ servers_sent below refused = ap (λ (o : Out). o.servers) is in
    let same : record s.out { servers = out.servers } ≡ outcome ran link below refused =
    same_outcome s.out.exchanges ran.exchanges s.out.how ran.end s.out.cut ran.begun_cut s.out.client (sent_on link) out.servers (servers_sent below refused) s.count s.how s.bit (client_is manner M visit seen wrote first client to first_net net ran link below refused in_manner serves tells f g b s) servers in
    let A : List (Option Sent) → Type 0 = λ l. ArePassedOn manner s.servers s.out.servers l in
    let S : Stream → Type 0 = λ c. Session M c s.servers s.out in
    record {
      texts = s.out;
      replays = record {
        servers = s.servers;
        found = servers_found manner M visit seen wrote first client to first_net net ran link below refused in_manner serves tells f g b s;
        session = subst S stream s.session;
        led = record {
          past = r.past;
          left = left;
          turned = r.turned;
          client_stream = subst (λ (c : Stream). Continues r.past.client c) stream r.client_stream;
          server_streams = r.server_streams;
          came_to =
              r.came_to
              ∙ ap (λ (n : ℕ). out_of_past r.past r.past.taken n ran.end) (sym s.count)
              ∙ ap (λ (e : End). out_of_past r.past r.past.taken s.out.exchanges e) (sym s.how);
        };
      };
      same = is ∙ sym same;
      passed = subst A (sym servers) (servers_are manner M visit seen wrote first client to first_net net ran link below refused in_manner serves tells f g b s);
    }

-- ---- links that pass all on as it is

some_sent : (text bytes : Sent) → text.bytes ≡ bytes.bytes → bytes.close ≡ text.close → Some text ≡ Some bytes
some_sent text bytes p q = ap (λ (s : Sent). Some s) (same_sent text.bytes bytes.bytes text.close bytes.close p (sym q))

as_passed : (servers : List Server) (texts bytes : List (Option Sent)) → ArePassedOn AsItIs servers texts bytes → texts ≡ bytes
as_passed [] [] [] h = refl
as_passed [] [] (one ∷ bytes) h = absurd h
as_passed [] (text ∷ texts) bytes h = absurd h
as_passed (server ∷ servers) [] bytes h = absurd h
as_passed (server ∷ servers) (text ∷ texts) [] h = absurd h
as_passed (server ∷ servers) (None ∷ texts) (None ∷ bytes) h = ap (λ (l : List (Option Sent)). None ∷ l) (as_passed servers texts bytes h.1)
as_passed (server ∷ servers) (None ∷ texts) (Some one ∷ bytes) h = absurd h.0
as_passed (server ∷ servers) (Some text ∷ texts) (None ∷ bytes) h = absurd h.0
as_passed (server ∷ servers) (Some text ∷ texts) (Some one ∷ bytes) h =
    ap (λ (s : Option Sent). s ∷ texts) (some_sent text one h.0.0 h.0.1) ∙ ap (λ (l : List (Option Sent)). Some one ∷ l) (as_passed servers texts bytes h.1)

as_it_is : {C : Type 0} (M : Meaning) (stands : C → Past → Type 0) (sees : C → CoreSeen) (turns : List Turn) (visit : Visit) (out : Out) → ReplaysIn AsItIs M stands sees turns visit out → Replays M stands sees turns visit out
as_it_is M stands sees turns visit out r =
    let servers : r.texts.servers ≡ out.servers = as_passed r.replays.servers r.texts.servers out.servers r.passed in
    let same : r.texts ≡ out = ap (λ (l : List (Option Sent)). out_with r.texts.exchanges r.texts.how r.texts.cut r.texts.client l) servers ∙ sym r.same in
    let O : Out → Type 0 = λ o. Replays M stands sees turns visit o in
    subst O same r.replays

-- a session over links in memory that was run is the outcome's
pub replays : {C : Type 0} (M : Meaning) (stands : C → Past → Type 0) (sees : C → CoreSeen) (turns left : List Turn) (visit : Visit) (to : Place) (first client : MemLinkSeen) (first_net : MemNetSeen) (none : ℕ) (net : MemNetSeen) (refused : ℕ) (ran : Ran) (out : Out) → IsFresh visit.client None first → IsFreshNet visit.servers first_net none
    → RanByTurns M stands sees turns left visit link_of wrote_by first client to (seen_by first_net none) (seen_by net refused) ran → out ≡ outcome ran client net refused → Replays M stands sees turns visit out
replays M stands sees turns left visit to first client first_net none net refused ran out f g r is =
    as_it_is M stands sees turns visit out (passes_by AsItIs (ServesIn AsItIs) M stands sees turns left visit link_of wrote_by first client to (seen_by first_net none) (seen_by net refused) ran client net refused out refl (served_so AsItIs tt) (untouched visit.client first f) (untouched_net visit.servers first_net none g) (record { written = λ text w. w; closed = refl; keeps = map keeping net.kept; kept = refl; sent = kept_links net.kept; refusals = refl }) r is)

-- ---- why such a session can't be given up but for want of memory

pub never_refuses : {L : Type 0} (seen : L → Seen) (wrote : L → List ℕ → Type 0) (s : Stream) (first : L) (k : ℕ) → IsUntouched seen wrote s first → MayRefuse (seen first).takes k → ⊥
never_refuses seen wrote s first k f h = let P : Takes → Type 0 = λ t. MayRefuse t k in subst P (ap (λ (s : Seen). s.takes) f.is) h

pub enough_by : (v : Visit) (bufsize budget : ℕ) → IsEnough v bufsize budget → enough (length v.client.bytes) (sum_by coming_size (map answer_of v.servers)) (length v.client.bytes) bufsize ≤ budget
enough_by v bufsize budget large =
    let P : ℕ → Type 0 = λ n. enough (length v.client.bytes) n (length v.client.bytes) bufsize ≤ budget in
    subst P (sym (answers_size v.servers)) large

at_most : (a b : ℕ) → b ≡ a → a ≤ b
at_most a b is = omega arith

pub is_enough : (v : Visit) (size bufsize budget : ℕ) → size ≡ bufsize → budget ≡ enough (length v.client.bytes) (sum_by size_of v.servers) (length v.client.bytes) size → IsEnough v bufsize budget
is_enough v size bufsize budget same is =
    at_most (enough (length v.client.bytes) (sum_by size_of v.servers) (length v.client.bytes) bufsize) budget
    (is ∙ ap (λ (n : ℕ). enough (length v.client.bytes) (sum_by size_of v.servers) (length v.client.bytes) n) same)

pub only_memory : (fault : SessionFault) → (fault ≡ faults.Spent → ⊥) → (fault ≡ faults.ClientWrite → ⊥) → fault ≡ faults.OutOfMemory
only_memory faults.ClientWrite spent write = absurd (write refl)
only_memory faults.Spent spent write = absurd (spent refl)
only_memory faults.OutOfMemory spent write = refl
