use Rattle.std.proofs.Common.{◌≡◌, ℕ, suc, ◌-◌, ◌∙◌, List, sym, arith}
use Rattle.cfg_expr.specs.Reading.{◌>>=◌}
use Rattle.cfg_parse.specs.declared.action.returns.ReturnOptions.{ReturnOptions}
use Rattle.cfg_parse.specs.Action.Faults.{RuleReading}
use Rattle.cfg_parse.specs.Action.Arguments.{Words}
use Rattle.cfg_parse.specs.Action.ReturnOptions.{return_option, return_options}
use Rattle.cfg_parse.proofs.ActionLemmas.OptionLemmas.{returns_on}
use Rattle.cfg_parse.proofs.ActionLemmas.ReadingLemmas.{reads_behind, fails_whole}
use Rattle.cfg_parse.proofs.action.returns.+return_options.Goals as goal

pub returns-in-Ok-clause-reads : goal.returns-in-Ok-clause-reads
returns-in-Ok-clause-reads g t c =
    let next : ReturnOptions × Words → RuleReading (ReturnOptions × Words) = λ found. return_options c.args.side (c.args.most - 1) found.0 found.1 in
    let count : c.args.most ≡ suc (c.args.most - 1) = omega arith in
    let all = returns_on c.args.side c.args.most (c.args.most - 1) c.args.options c.args.words c.in-Some.word.now c.next.new.self c.in-Some-return_word.which
    count (sym c.again-others.ensures ∙ c.in-Some.ensures) (sym c.in-Some-return_word.ensures) in
    reads_behind (λ found. (found.0, found.1)) (return_options c.args.side c.args.most c.args.options c.args.words)
    (return_option c.args.side c.args.options c.in-Some-return_word.which c.next.new.self) next
    (c.return_option.new.options, c.in-Ok.behind)
    (g.P.Patterns.refusals c.args.pats.now) (g.P.Patterns.refusals c.return_option.new.pats) (g.P.Patterns.refusals c.return_options.new.pats) (g.P.Patterns.last_refused c.return_options.new.pats)
    c.return_options.result all c.in-Ok.ensures.reads.0 c.in-Ok.ensures.reads.1 c.return_options.ensures.reads

pub returns-clause-reads : goal.returns-clause-reads
returns-clause-reads g t c =
    let next : ReturnOptions × Words → RuleReading (ReturnOptions × Words) = λ found. return_options c.args.side (c.args.most - 1) found.0 found.1 in
    let count : c.args.most ≡ suc (c.args.most - 1) = omega arith in
    let all = returns_on c.args.side c.args.most (c.args.most - 1) c.args.options c.args.words c.in-Some.word.now c.next.new.self c.in-Some-return_word.which
    count (sym c.again-others.ensures ∙ c.in-Some.ensures) (sym c.in-Some-return_word.ensures) in
    fails_whole (return_options c.args.side c.args.most c.args.options c.args.words)
    (return_option c.args.side c.args.options c.in-Some-return_word.which c.next.new.self) next
    _ _ _ _ all c.in-Err.ensures.reads
