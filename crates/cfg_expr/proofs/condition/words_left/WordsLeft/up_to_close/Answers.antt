use Rattle.std.proofs.Common.{◌∙◌, sym, arith}
use Rattle.cfg_expr.proofs.ConditionLemmas.Closing.{no_close_begin, no_close_on, closes, never_closes}
use Rattle.cfg_expr.proofs.condition.words_left.WordsLeft.up_to_close.Goals as goal

pub each-init : goal.each-init
each-init c = no_close_begin c.args.self

pub each-preserved : goal.each-preserved
each-preserved c =
    no_close_on c.args.self c.each.number c.word.result.now c.word.ensures (sym c.is_close.ensures ∙ c.if-is_close.false) c.each.invariant

pub returns-then-is_close : goal.returns-then-is_close
returns-then-is_close c =
    rw (c.around-inside.ensures.front, c.around-inside.ensures.behind)
    (closes c.args.self c.each.number c.word.result.now c.word.ensures (sym c.is_close.ensures ∙ c.if-is_close.true) c.each.invariant)

pub returns : goal.returns
returns c = never_closes c.args.self c.each.number (omega arith) c.each.invariant
