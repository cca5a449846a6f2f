use Rattle.std.proofs.Common.{◌≡◌, ◌++◌, drop, map, true}
use Rattle.std.specs.Prelude.{option_map}
use Rattle.std.specs.List.{list_all}
use Rattle.px_link.specs.MemLink.{is_unused_or_none}
use Rattle.px_link.specs.MemNet.{coming}
use Rattle.rec_format.specs.Read.{servers}
use Rattle.htx_drive.specs.Replay.Memory.{answer_of}
use Rattle.htx_drive.proofs.replay.links.server_links.Given as goal

abbrev pub invariant-loop-entry : goal.invariant-loop-entry
invariant-loop-entry l =
    record {
      answers : map (option_map coming) l.links.items ++ map answer_of (servers (drop l.entry-index l.entries)) ≡ map answer_of (servers l.entries);
      unused : list_all is_unused_or_none l.links.items ≡ true;
    }
