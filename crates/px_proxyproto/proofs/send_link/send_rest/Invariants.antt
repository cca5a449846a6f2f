use Rattle.std.proofs.Common.{length, ◌≤◌, ◌-◌}
use Rattle.px_link.specs.Link.{NoRoom}
use Rattle.px_proxyproto.specs.Sending.{WroteBehind, seen_behind}
use Rattle.px_proxyproto.proofs.send_link.send_rest.Given as goal

abbrev pub invariant-pieces : goal.invariant-pieces
invariant-pieces g l = record {
  within : l.sent ≤ length l.header;
  stays : NoRoom (WroteBehind l.header l.fn.sent (g.L.Link.wrote l.fn.inner)) (WroteBehind l.header l.sent (g.L.Link.wrote l.inner)) (seen_behind l.header (g.L.Link.seen l.fn.inner)) (seen_behind l.header (g.L.Link.seen l.inner));
}

abbrev pub decreases-pieces : goal.decreases-pieces
decreases-pieces g l = length l.header - l.sent
