use Rattle.std.proofs.Common.{◌≡◌, []}
use Rattle.http_rules.specs.Action.Given.{Env}
use Rattle.http_rules.specs.Action.Outcome.{IsScratch, IsAt, IsFront}
use Rattle.px_explain.proofs.Lines.{Reached}
use Rattle.px_explain.proofs.telling.tell_rules.Given as goal

-- the rules that are left make of what stands in the array what all make of the environment at the start, and are told so
abbrev pub invariant-loop-at : goal.invariant-loop-at
invariant-loop-at l = record {
  reached : (env : Env) → IsAt l.side env l.initial.msg.blocks l.initial.teller.vars → Reached l.list l.side l.initial.msg.size env l.initial.teller.trail l.at l.strict l.teller.trail l.msg.blocks l.teller.vars;
  front : IsFront l.msg.blocks;
  silent : l.reply.blocks ≡ [];
  size : l.msg.size ≡ l.initial.msg.size;
  reply_size : l.reply.size ≡ l.initial.reply.size;
  scratch : IsScratch l.initial.msg.size l.teller.scratch;
}
