use Rattle.std.proofs.Common.{◌≡◌, ◌++◌, drop}
use Rattle.htx_drive.specs.Replay.Memory.{turns_of}
use Rattle.htx_drive.proofs.replay.turns.turns_of.Given as goal

abbrev pub invariant-loop-turn : goal.invariant-loop-turn
invariant-loop-turn l = l.own.items ++ turns_of l.owner (drop l.turn-index l.turns) ≡ turns_of l.owner l.turns
