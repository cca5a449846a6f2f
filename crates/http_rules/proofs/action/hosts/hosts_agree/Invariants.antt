use Rattle.std.proofs.Common.{◌≡◌, drop}
use Rattle.http_rules.specs.Action.Hosts.{blocks_agree}
use Rattle.http_rules.proofs.action.hosts.hosts_agree.Given as goal

-- the answer depends on the blocks that are left
abbrev pub invariant-loop-at : goal.invariant-loop-at
invariant-loop-at l = blocks_agree l.target (drop l.at l.msg.blocks) ≡ blocks_agree l.target l.msg.blocks
