use Rattle.std.proofs.Common.{◌+◌, ◌∙◌, sym, arith, length-drop}
use Rattle.std.proofs.lemmas.List.{take_rest}
use Rattle.cfg_lex.proofs.PartLemmas.{read_step, read_all}
use Rattle.cfg_lex.proofs.reading.read.Goals as goal

pub loop-at-preserved : goal.loop-at-preserved
loop-at-preserved c = record {
  in_range = omega (arith, c.item_at-item.ensures.within, length-drop (c.loop-at.at + 1) c.args.line.now);
  same = read_step c.loop-at.draft c.add.new.self _ c.loop-at.quotes c.args.line.now c.loop-at.at c.item_at-item.result c.loop-at-test.true (rw (take_rest c.args.line.now (c.loop-at.at + 1)) at c.item_at-item.ensures.item) c.item_at-item.ensures.used (c.in_ok-add.ensures) c.loop-at.invariant.same;
}

pub returns : goal.returns
returns c = c.in_ok-end.ensures ∙ sym (read_all c.loop-at.draft c.loop-at.quotes c.args.line.now c.loop-at.at c.loop-at-test.false) ∙ c.loop-at.invariant.same
