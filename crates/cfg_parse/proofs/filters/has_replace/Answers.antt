use Rattle.std.proofs.Common.{◌∙◌, sym, ap, arith}
use Rattle.std.specs.List.{list_any}
use Rattle.std.proofs.lemmas.List.{drop_all}
use Rattle.http_rules.specs.Valid.{is_replace}
use Rattle.cfg_parse.proofs.ListLemmas.{list_any-next, list_any-here}
use Rattle.cfg_parse.proofs.filters.has_replace.Goals as goal

pub loop-at-preserved : goal.loop-at-preserved
loop-at-preserved c =
    list_any-next is_replace c.args.filters.now c.loop-at.at c.get.result.now c.get.ensures (sym c.is_replace.ensures ∙ c.if-is_replace.false) ∙ c.loop-at.invariant

pub returns-then-is_replace : goal.returns-then-is_replace
returns-then-is_replace c =
    sym (list_any-here is_replace c.args.filters.now c.loop-at.at c.get.result.now c.get.ensures (sym c.is_replace.ensures ∙ c.if-is_replace.true)) ∙ c.loop-at.invariant

pub returns : goal.returns
returns c = sym (ap (list_any is_replace) (drop_all c.loop-at.at c.args.filters.now (omega arith))) ∙ c.loop-at.invariant
