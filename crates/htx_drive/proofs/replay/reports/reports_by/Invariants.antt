use Rattle.std.proofs.Common.{◌≡◌, ◌+◌, List, ◌++◌, drop, map}
use Rattle.session_model.specs.Session.{Out}
use Rattle.rec_format.specs.Read.{visits}
use Rattle.rec_format.specs.ReportParts.{out_of}
use Rattle.htx_drive.specs.Replay.Replayed.{EachFrom}
use Rattle.htx_drive.proofs.replay.reports.reports_by.Given as goal

-- whatever the later connections come to, the reports so far stand in front of it
abbrev pub invariant-loop-conn : goal.invariant-loop-conn
invariant-loop-conn g l =
    let one = g.R.Replayer.comes_to l.replayer in
    let turns = l.recorded.turns.items in
    (l.owner ≡ l.conn-index)
    × ((later : List Out) → EachFrom one turns (l.owner + 1) (visits (drop l.conn-index l.recorded.conns.items)) later
    → EachFrom one turns 1 (visits l.recorded.conns.items) (map out_of l.reports.items ++ later))
