use Rattle.std.proofs.Common.{◌≡◌, true}
use Rattle.std.specs.List.{list_all}
use Rattle.px_link.specs.MemLink.{is_unused_or_none}
use Rattle.case_sessions.proofs.served.links.servers.Given as goal

abbrev pub invariant-loop-conn : goal.invariant-loop-conn
invariant-loop-conn l = list_all is_unused_or_none l.links.items ≡ true
