-- Links in memory over which an application is asked.
use Rattle.std.proofs.Common.{◌≡◌, ℕ, ◌+◌, ◌-◌, ◌*◌, ◌≤◌, List, [], ◌∷◌, ◌++◌, Option, Some, None, length, map, sum_by, take, drop, sym, ap, subst, ◌∙◌, refl, arith}
use Rattle.std.specs.Prelude.{option_map, IfSome}
use Rattle.std.proofs.lemmas.List.{map-append, take-append-drop}
use Rattle.std.proofs.lemmas.List.Sums.{sum_by-cons}
use Rattle.fcgi_model.specs.Application.{Application}
use Rattle.fcgi_lane.specs.Answer.Cgi.{cgi_of}
use Rattle.fcgi_link.specs.Exchange.{AppLinkSeen, link_over, seen_over, LinkWrote, WroteOver}
use Rattle.fcgi_link.specs.Asked.{asking, answers_through, through}
use Rattle.fcgi_link.specs.Nets.{AppNetSeen, net_over, with_notes, asking_some, noted, each_noted, kept_noted}
use Rattle.fcgi_link.specs.declared.exchange.Exchange.{Exchange}
use Rattle.fcgi_link.specs.declared.note.Note.{Note}
use Rattle.fcgi_link.specs.declared.responder.Responder.{Responder}
use Rattle.session_model.specs.Meaning.{Meaning}
use Rattle.session_model.specs.Stream.{Stream, Sent}
use Rattle.session_model.specs.Session.{Out}
use Rattle.session_core.specs.History.{Past}
use Rattle.session_core.specs.History as history
use Rattle.px_link.specs.Link.{Seen, AsItIs, Asks}
use Rattle.px_link.specs.Net.{Place, Kept, Coming, NetSeen}
use Rattle.px_link.specs.MemLink.{MemLinkSeen, link_of}
use Rattle.px_link.specs.MemNet.{keeping}
use Rattle.px_link.specs.declared.turns.Turn.{Turn}
use Rattle.rec_format.specs.Entries.{ServerEntry}
use Rattle.rec_format.specs.Recorded.{Visit}
use Rattle.htx_drive.specs.Budget.{enough}
use Rattle.htx_drive.specs.Came.{Came}
use Rattle.htx_drive.specs.Machine.{CoreSeen}
use Rattle.htx_drive.specs.declared.Ran.{Ran}
use Rattle.htx_drive.specs.declared.replay.record_net.RecordNet.{RecordNet}
use Rattle.htx_drive.specs.Weave.Memory.{sees_net}
use Rattle.htx_drive.specs.Replay.Asked.{ReplaysAsking, entry_asked, visit_asked}
use Rattle.htx_drive.specs.Replay.Memory.{answer_of, size_of, IsEnough}
use Rattle.htx_drive.specs.Replay.Outcome.{outcome}
use Rattle.htx_drive.specs.Replay.Replayed.{GivesOwn}
use Rattle.htx_drive.specs.Replay.Seen.{IsFresh, IsFreshNet, IsUntouched, IsUntouchedNet, RanByTurns, wrote_by}
use Rattle.htx_drive.proofs.ReplayLemmas.Dials.{kept_sent, kept_links}
use Rattle.htx_drive.proofs.ReplayLemmas.Fresh.{untouched_net}
use Rattle.htx_drive.proofs.ReplayLemmas.Streams.{own_so}
use Rattle.htx_drive.proofs.ReplayLemmas.Whole.{IsBelow, passes_by}

abbrev pub AppMem : Type 0
AppMem = AppLinkSeen MemLinkSeen

-- ---- before

-- the client's link, over which nothing is asked
abbrev plain_link : MemLinkSeen → AppMem
plain_link l = record { inner = l; exchange = None }

untouched_link : (s : Stream) (l : MemLinkSeen) → IsFresh s None l → IsUntouched (link_over link_of) (LinkWrote wrote_by) s (plain_link l)
untouched_link s l f = record { is = f.seen; unwritten = sym f.written }

pub plain_untouched : (s : Stream) (l : MemLinkSeen) (link : AppMem) → link ≡ plain_link l → IsFresh s None l → IsUntouched (link_over link_of) (LinkWrote wrote_by) s link
plain_untouched s l link is f = let P : AppMem → Type 0 = λ link. IsUntouched (link_over link_of) (LinkWrote wrote_by) s link in subst P (sym is) (untouched_link s l f)

same_answer : (limit : ℕ) (entry : Option ServerEntry) → option_map (through limit) (answer_of entry) ≡ answer_of (option_map (entry_asked limit) entry)
same_answer limit None = refl
same_answer limit (Some entry) = refl

same_answers : (limit : ℕ) (entries : List (Option ServerEntry)) → map (option_map (through limit)) (map answer_of entries) ≡ map answer_of (map (option_map (entry_asked limit)) entries)
same_answers limit [] = refl
same_answers limit (entry ∷ entries) =
    ap (λ (a : Option Coming). a ∷ map (option_map (through limit)) (map answer_of entries)) (same_answer limit entry)
    ∙ ap (λ (l : List (Option Coming)). answer_of (option_map (entry_asked limit) entry) ∷ l) (same_answers limit entries)

pub asking_untouched : (visit : Visit) (net : RecordNet) (application : Application) (limit : ℕ) (seen : NetSeen) → seen ≡ asking limit application (sees_net net) → IsFreshNet visit.servers net.net net.refused → IsUntouchedNet (visit_asked limit visit).servers seen
asking_untouched visit net application limit seen is f =
    let P : NetSeen → Type 0 = λ n. IsUntouchedNet (visit_asked limit visit).servers n in
    let t = untouched_net visit.servers net.net net.refused f in
    let answers = ap (λ (a : Option (List (Option Coming))). answers_through limit a) t.answers ∙ ap (λ (l : List (Option Coming)). Some l) (same_answers limit visit.servers) in
    subst P (sym is) (record { answers = answers; kept = t.kept; plain = t.plain; lent = t.lent; none = t.none })

-- ---- a budget

asked_size : (limit : ℕ) → ((bytes : List ℕ) → length (cgi_of limit bytes).bytes ≤ length bytes + 1024) → (entry : Option ServerEntry) → size_of (option_map (entry_asked limit) entry) ≤ size_of entry + 1024
asked_size limit short None = omega arith
asked_size limit short (Some entry) = short entry.stream.bytes

asked_sizes : (limit : ℕ) → ((bytes : List ℕ) → length (cgi_of limit bytes).bytes ≤ length bytes + 1024) → (entries : List (Option ServerEntry)) → sum_by size_of (map (option_map (entry_asked limit)) entries) ≤ sum_by size_of entries + length entries * 1024
asked_sizes limit short [] = omega arith
asked_sizes limit short (entry ∷ entries) =
    let a = sum_by-cons size_of (option_map (entry_asked limit) entry) (map (option_map (entry_asked limit)) entries) in
    let b = sum_by-cons size_of entry entries in
    omega (arith, a, b, asked_size limit short entry, asked_sizes limit short entries)

more_servers : (client few many buffers : ℕ) → few ≤ many → 2048 * (client + few + buffers) ≤ 2048 * (client + many + buffers)
more_servers client few many buffers less = omega (arith, less)

enough_asked : (v : Visit) (limit bufsize budget all : ℕ) → ((bytes : List ℕ) → length (cgi_of limit bytes).bytes ≤ length bytes + 1024) → all ≡ sum_by size_of v.servers + length v.servers * 1024
    → budget ≡ enough (length v.client.bytes) all (length v.client.bytes) bufsize → IsEnough (visit_asked limit v) bufsize budget
enough_asked v limit bufsize budget all short sum is =
    let less : sum_by size_of (visit_asked limit v).servers ≤ all = omega (arith, sum, asked_sizes limit short v.servers) in
    let more = more_servers (length v.client.bytes) (sum_by size_of (visit_asked limit v).servers) all ((length v.client.bytes + 1) * bufsize) less in
    let P : ℕ → Type 0 = λ n. IsEnough (visit_asked limit v) bufsize n in
    subst P (sym is) more

-- what is enough for so many bytes of a client, and of servers with 1024 more for each
pub asks_enough : (v : Visit) (client all bufsize : ℕ) (r : Option ℕ) → ((limit : ℕ) (bytes : List ℕ) → length (cgi_of limit bytes).bytes ≤ length bytes + 1024) → client ≡ length v.client.bytes → all ≡ sum_by size_of v.servers + length v.servers * 1024
    → IfSome r (λ budget. budget ≡ enough client all client bufsize) → IfSome r (λ budget. (limit : ℕ) → IsEnough (visit_asked limit v) bufsize budget)
asks_enough v client all bufsize None short own sum is = tt
asks_enough v client all bufsize (Some budget) short own sum is = λ limit. enough_asked v limit bufsize budget all (short limit) sum (is ∙ ap (λ (n : ℕ). enough n all n bufsize) own)

-- ---- behind

noted_sent : (note : Option Note) (k : Kept) → kept_sent (noted note k) ≡ kept_sent k
noted_sent None k = refl
noted_sent (Some note) k = refl

each_sent : (ks : List Kept) (notes : List (Option Note)) → map kept_sent (each_noted ks notes) ≡ map kept_sent ks
each_sent [] notes = refl
each_sent (k ∷ ks) [] = refl
each_sent (k ∷ ks) (note ∷ notes) =
    ap (λ (s : Option Sent). s ∷ map kept_sent (each_noted ks notes)) (noted_sent note k) ∙ ap (λ (l : List (Option Sent)). kept_sent k ∷ l) (each_sent ks notes)

-- a note changes only what is counted
notes_sent : (notes : List (Option Note)) (ks : List Kept) → map kept_sent (kept_noted notes ks) ≡ map kept_sent ks
notes_sent notes ks =
    let before : ℕ = length ks - length notes in
    map-append kept_sent (take before ks) (each_noted (drop before ks) notes)
    ∙ ap (λ (l : List (Option Sent)). map kept_sent (take before ks) ++ l) (each_sent (drop before ks) notes)
    ∙ sym (map-append kept_sent (take before ks) (drop before ks))
    ∙ ap (map kept_sent) (take-append-drop before ks)

-- what is told of a link over which nothing is asked is the link below
record IsPlain (exchange : Option Exchange) (below : Seen) (wrote : List ℕ → Type 0) : Type 0 where
  seen : seen_over exchange below ≡ below
  written : (text : List ℕ) → WroteOver exchange wrote text → wrote text

plain_by : (exchange : Option Exchange) (below : Seen) (wrote : List ℕ → Type 0) → (seen_over exchange below).manner ≡ AsItIs → IsPlain exchange below wrote
plain_by None below wrote is = record { seen = refl; written = λ text w. w }
plain_by (Some one) below wrote is = absurd cc

kept_asking : (responder : Option Responder) (seen : NetSeen) → (asking_some responder seen).kept ≡ seen.kept
kept_asking None seen = refl
kept_asking (Some responder) seen = refl

faults_asking : (responder : Option Responder) (seen : NetSeen) → (asking_some responder seen).connect_faults ≡ seen.connect_faults
faults_asking None seen = refl
faults_asking (Some responder) seen = refl

-- over the client's link nothing is asked behind its session either
below : (s : Stream) (first client : AppMem) (net : AppNetSeen RecordNet) (came : history.Coming) → IsUntouched (link_over link_of) (LinkWrote wrote_by) s first → Came (link_over link_of first) (link_over link_of client) came
    → IsBelow (link_over link_of) (LinkWrote wrote_by) client (net_over sees_net net) client.inner net.inner.net net.inner.refused
below s first client net came f h =
    let plain = plain_by client.exchange (link_of client.inner) (wrote_by client.inner) (h.kind.manner ∙ ap (λ (s : Seen). s.manner) f.is) in
    let ks : List Kept = map keeping net.inner.net.kept in
    record {
      written = plain.written;
      closed = ap (λ (s : Seen). s.closed) plain.seen;
      keeps = kept_noted net.notes ks;
      kept = kept_asking net.responder (with_notes net.notes (sees_net net.inner));
      sent = notes_sent net.notes ks ∙ kept_links net.inner.net.kept;
      refusals = faults_asking net.responder (with_notes net.notes (sees_net net.inner));
    }

pub asked : {C : Type 0} (M : Meaning) (stands : C → Past → Type 0) (sees : C → CoreSeen) (turns left : List Turn) (visit : Visit) (application : Application) (limit : ℕ) (first client : AppMem) (to : Place) (first_net : NetSeen) (net : AppNetSeen RecordNet) (ran : Ran) (link : MemLinkSeen) (found : RecordNet) (out : Out)
    → first_net.manner ≡ Asks application → IsUntouched (link_over link_of) (LinkWrote wrote_by) visit.client first → IsUntouchedNet (visit_asked limit visit).servers first_net
    → RanByTurns M stands sees turns left (visit_asked limit visit) (link_over link_of) (LinkWrote wrote_by) first client to first_net (net_over sees_net net) ran
    → link ≡ client.inner → found ≡ net.inner → out ≡ outcome ran link found.net found.refused → ReplaysAsking application limit M stands sees turns visit out
asked M stands sees turns left visit application limit first client to first_net net ran link found out in_manner f g r at_link at_net is =
    let same : out ≡ outcome ran client.inner net.inner.net net.inner.refused =
    is ∙ ap (λ (l : MemLinkSeen). outcome ran l found.net found.refused) at_link ∙ ap (λ (n : RecordNet). outcome ran client.inner n.net n.refused) at_net in
    passes_by (Asks application) GivesOwn M stands sees turns left (visit_asked limit visit) (link_over link_of) (LinkWrote wrote_by) first client to first_net (net_over sees_net net) ran client.inner net.inner.net net.inner.refused out in_manner (own_so (Asks application)) f g
    (below visit.client first client net r.session.came f r.session.read_client) r same
