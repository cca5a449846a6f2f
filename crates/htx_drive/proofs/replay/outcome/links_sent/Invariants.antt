use Rattle.std.proofs.Common.{◌≡◌, ◌++◌, drop, map, Some}
use Rattle.px_link.specs.MemLink.{MemLinkSeen}
use Rattle.rec_format.specs.ReportParts.{servers_of}
use Rattle.htx_drive.specs.Replay.Outcome.{sent_on}
use Rattle.htx_drive.proofs.replay.outcome.links_sent.Given as goal

abbrev pub invariant-loop-link : goal.invariant-loop-link
invariant-loop-link l =
    servers_of l.all.items ++ map (λ (s : MemLinkSeen). Some (sent_on s)) (drop l.link-index l.links) ≡ map (λ (s : MemLinkSeen). Some (sent_on s)) l.links
