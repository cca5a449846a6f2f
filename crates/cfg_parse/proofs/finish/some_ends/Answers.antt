use Rattle.std.proofs.Common.{◌∙◌, sym, ap, arith}
use Rattle.std.specs.List.{list_any}
use Rattle.std.proofs.lemmas.List.{drop_all}
use Rattle.cfg_parse.specs.Whole.{ends_rules}
use Rattle.cfg_parse.proofs.ListLemmas.{list_any-next, list_any-here}
use Rattle.cfg_parse.proofs.finish.some_ends.Goals as goal

pub loop-at-preserved : goal.loop-at-preserved
loop-at-preserved c =
    list_any-next ends_rules c.args.rules.now c.loop-at.at c.get.result.now c.get.ensures (sym c.is_allow.ensures ∙ c.if-is_allow.false) ∙ c.loop-at.invariant

pub returns-then-is_allow : goal.returns-then-is_allow
returns-then-is_allow c =
    sym (list_any-here ends_rules c.args.rules.now c.loop-at.at c.get.result.now c.get.ensures (sym c.is_allow.ensures ∙ c.if-is_allow.true)) ∙ c.loop-at.invariant

pub returns : goal.returns
returns c = sym (ap (list_any ends_rules) (drop_all c.loop-at.at c.args.rules.now (omega arith))) ∙ c.loop-at.invariant
