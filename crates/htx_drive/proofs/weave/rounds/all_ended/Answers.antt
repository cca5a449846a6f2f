use Rattle.std.proofs.Common.{◌∙◌, ap}
use Rattle.std.specs.Prelude.{not}
use Rattle.htx_drive.proofs.WeaveLemmas.Rounds.{passes_one, finds_one}
use Rattle.htx_drive.proofs.weave.rounds.all_ended.Goals as goal

pub loop-conn-preserved : goal.loop-conn-preserved
loop-conn-preserved g c =
    passes_one c.args.conns.now c.loop-conn.conn-index _ c.conn-item.result c.loop-conn-test.true c.conn-item.is (c.is_none.ensures ∙ ap (λ b. not b) c.if-is_none.false) c.loop-conn.invariant

pub returns-then-is_none-clause-some : goal.returns-then-is_none-clause-some
returns-then-is_none-clause-some g c = λ e.
    finds_one c.args.conns.now c.loop-conn.conn-index _ c.conn-item.result c.loop-conn-test.true c.conn-item.is (c.is_none.ensures ∙ ap (λ b. not b) c.if-is_none.true) c.loop-conn.invariant
