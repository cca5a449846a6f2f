use Rattle.std.proofs.Common.{List, ◌++◌, drop}
use Rattle.rec_format.specs.Read.{visits}
use Rattle.htx_drive.specs.Weave.Memory.{MemConn, AreFreshConns}
use Rattle.htx_drive.proofs.weave.record.conns.conns_for.Given as goal

-- whatever stands for the later connections, those so far stand in front of it
abbrev pub invariant-loop-conn : goal.invariant-loop-conn
invariant-loop-conn l =
    (later : List MemConn) → AreFreshConns (visits (drop l.conn-index l.conns)) later → AreFreshConns (visits l.conns) (l.all.items ++ later)
