use Rattle.std.proofs.Common.{◌≡◌, true}
use Rattle.std.specs.List.{list_all}
use Rattle.px_link.specs.MemLink.{is_unused}
use Rattle.case_sessions.proofs.served.links.clients.Given as goal

abbrev pub invariant-loop-conn : goal.invariant-loop-conn
invariant-loop-conn l = list_all is_unused l.links.items ≡ true
