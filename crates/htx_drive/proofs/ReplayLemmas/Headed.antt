-- Links in memory behind a header.
use Rattle.std.proofs.Common.{◌≡◌, ℕ, List, [], ◌∷◌, ◌++◌, Option, Some, None, take, sym, ap, subst, ◌∙◌, refl, map}
use Rattle.std.proofs.Math.Seq.{take-nil}
use Rattle.session_model.specs.Meaning.{Meaning}
use Rattle.session_model.specs.Stream.{Stream}
use Rattle.session_model.specs.Session.{Out}
use Rattle.session_core.specs.History.{Past}
use Rattle.session_core.specs.History as history
use Rattle.px_link.specs.Link.{Seen, AsItIs}
use Rattle.px_link.specs.Net.{Place, NetSeen}
use Rattle.px_link.specs.MemLink.{MemLinkSeen, link_of}
use Rattle.px_link.specs.MemNet.{keeping}
use Rattle.px_link.specs.declared.turns.Turn.{Turn}
use Rattle.px_proxyproto.specs.Nets.{SendNetSeen, net_behind, introduced, manner_of}
use Rattle.px_proxyproto.specs.Sending.{SendLinkSeen, LinkWrote, link_behind, manner_behind, seen_behind}
use Rattle.px_proxyproto.specs.declared.heading.Heading.{Heading}
use Rattle.rec_format.specs.Entries.{ServerEntry}
use Rattle.rec_format.specs.Recorded.{Visit}
use Rattle.htx_drive.specs.Came.{Came}
use Rattle.htx_drive.specs.Machine.{CoreSeen}
use Rattle.htx_drive.specs.declared.Ran.{Ran}
use Rattle.htx_drive.specs.declared.replay.record_net.RecordNet.{RecordNet}
use Rattle.htx_drive.specs.Weave.Memory.{sees_net}
use Rattle.htx_drive.specs.Replay.Headed.{ReplaysIn, ServesIn, TellsTakes}
use Rattle.htx_drive.specs.Replay.Outcome.{outcome}
use Rattle.htx_drive.specs.Replay.Seen.{IsFresh, IsFreshNet, IsUntouched, IsUntouchedNet, RanByTurns, wrote_by}
use Rattle.htx_drive.proofs.ReplayLemmas.Dials.{kept_links}
use Rattle.htx_drive.proofs.ReplayLemmas.Fresh.{untouched_net}
use Rattle.htx_drive.proofs.ReplayLemmas.Streams.{served_so}
use Rattle.htx_drive.proofs.ReplayLemmas.Whole.{IsBelow, passes_by}

abbrev pub SendMem : Type 0
SendMem = SendLinkSeen MemLinkSeen

-- the client's link, which has no header
abbrev plain_link : MemLinkSeen → SendMem
plain_link l = record { inner = l; header = []; sent = 0 }

untouched_link : (s : Stream) (l : MemLinkSeen) → IsFresh s None l → IsUntouched (link_behind link_of) (LinkWrote wrote_by) s (plain_link l)
untouched_link s l f = record { is = ap (λ (s : Seen). seen_behind [] s) f.seen; unwritten = record { first = λ less. refl; below = sym f.written } }

pub plain_untouched : (s : Stream) (l : MemLinkSeen) (link : SendMem) → link ≡ plain_link l → IsFresh s None l → IsUntouched (link_behind link_of) (LinkWrote wrote_by) s link
plain_untouched s l link is f = let P : SendMem → Type 0 = λ link. IsUntouched (link_behind link_of) (LinkWrote wrote_by) s link in subst P (sym is) (untouched_link s l f)

pub introduced_untouched : (entries : List (Option ServerEntry)) (net : RecordNet) (heading : Option Heading) (first seen : NetSeen) → first ≡ sees_net net → seen ≡ introduced heading first → IsFreshNet entries net.net net.refused → IsUntouchedNet entries seen
introduced_untouched entries net heading first seen same is f =
    let P : NetSeen → Type 0 = λ n. IsUntouchedNet entries n in
    let Q : NetSeen → Type 0 = λ n. IsUntouchedNet entries (introduced heading n) in
    let t = untouched_net entries net.net net.refused f in
    subst P (sym is) (subst Q (sym same) (record { answers = t.answers; kept = t.kept; plain = t.plain; lent = t.lent; none = t.none }))

no_header : (header : List ℕ) → manner_behind header AsItIs ≡ AsItIs → header ≡ []
no_header [] e = refl
no_header (byte ∷ header) e = absurd cc

none_out : (sent : ℕ) (header : List ℕ) → header ≡ [] → take sent header ≡ []
none_out sent header e = ap (λ (l : List ℕ). take sent l) e ∙ take-nil sent

-- the client's link has no header behind its session either
below : (s : Stream) (first client : SendMem) (net : SendNetSeen RecordNet) (came : history.Coming) → IsUntouched (link_behind link_of) (LinkWrote wrote_by) s first → Came (link_behind link_of first) (link_behind link_of client) came
    → IsBelow (link_behind link_of) (LinkWrote wrote_by) client (net_behind sees_net net) client.inner net.inner.net net.inner.refused
below s first client net came f h =
    let header : client.header ≡ [] = no_header client.header (h.kind.manner ∙ ap (λ (s : Seen). s.manner) f.is) in
    record {
      written = λ text w. ap (λ (l : List ℕ). l ++ text) (sym (none_out client.sent client.header header)) ∙ w.below;
      closed = refl;
      keeps = map keeping net.inner.net.kept;
      kept = refl;
      sent = kept_links net.inner.net.kept;
      refusals = refl;
    }

headed_tells : (heading : Option Heading) → TellsTakes (manner_of heading)
headed_tells None = tt
headed_tells (Some heading) = tt

pub headed : {C : Type 0} (M : Meaning) (stands : C → Past → Type 0) (sees : C → CoreSeen) (turns left : List Turn) (visit : Visit) (heading : Option Heading) (first client : SendMem) (to : Place) (first_net : NetSeen) (net : SendNetSeen RecordNet) (ran : Ran) (link : MemLinkSeen) (found : RecordNet) (out : Out)
    → first_net.manner ≡ manner_of heading → IsUntouched (link_behind link_of) (LinkWrote wrote_by) visit.client first → IsUntouchedNet visit.servers first_net
    → RanByTurns M stands sees turns left visit (link_behind link_of) (LinkWrote wrote_by) first client to first_net (net_behind sees_net net) ran
    → link ≡ client.inner → found ≡ net.inner → out ≡ outcome ran link found.net found.refused → ReplaysIn (manner_of heading) M stands sees turns visit out
headed M stands sees turns left visit heading first client to first_net net ran link found out in_manner f g r at_link at_net is =
    let same : out ≡ outcome ran client.inner net.inner.net net.inner.refused =
    is ∙ ap (λ (l : MemLinkSeen). outcome ran l found.net found.refused) at_link ∙ ap (λ (n : RecordNet). outcome ran client.inner n.net n.refused) at_net in
    passes_by (manner_of heading) (ServesIn (manner_of heading)) M stands sees turns left visit (link_behind link_of) (LinkWrote wrote_by) first client to first_net (net_behind sees_net net) ran client.inner net.inner.net net.inner.refused out in_manner (served_so (manner_of heading) (headed_tells heading)) f g
    (below visit.client first client net r.session.came f r.session.read_client) r same
