use Rattle.std.proofs.Common.{◌≡◌, ◌++◌, drop}
use Rattle.std.specs.List.{flat_map}
use Rattle.rec_format.specs.Read.{servers}
use Rattle.rec_format.specs.Written.{server_text}
use Rattle.rec_format.proofs.writer.put_servers.Given as goal

abbrev pub invariant-loop-entry : goal.invariant-loop-entry
invariant-loop-entry l = l.text.items ++ flat_map server_text (servers (drop l.entry-index l.entries)) ≡ l.initial.text.items ++ flat_map server_text (servers l.entries)
