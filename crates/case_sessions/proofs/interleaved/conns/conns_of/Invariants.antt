use Rattle.std.proofs.Common.{◌≡◌, length}
use Rattle.htx_drive.specs.Weave.Outcome.{AreNew}
use Rattle.case_sessions.proofs.interleaved.conns.conns_of.Given as goal

abbrev pub invariant-loop-conn : goal.invariant-loop-conn
invariant-loop-conn l =
    record {
      count : length l.all.items ≡ l.conn-index;
      new : AreNew l.all.items;
    }
