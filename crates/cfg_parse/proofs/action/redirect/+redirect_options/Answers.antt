use Rattle.std.proofs.Common.{◌≡◌, ℕ, suc, ◌-◌, ◌∙◌, List, sym, arith}
use Rattle.cfg_expr.specs.Reading.{◌>>=◌}
use Rattle.cfg_parse.specs.declared.action.redirect.RedirectOptions.{RedirectOptions}
use Rattle.cfg_parse.specs.Action.Faults.{RuleReading}
use Rattle.cfg_parse.specs.Action.Arguments.{Words}
use Rattle.cfg_parse.specs.Action.RedirectOptions.{redirect_option, redirect_options}
use Rattle.cfg_parse.proofs.ActionLemmas.OptionLemmas.{redirects_on}
use Rattle.cfg_parse.proofs.ActionLemmas.ReadingLemmas.{reads_behind}
use Rattle.cfg_parse.proofs.action.redirect.+redirect_options.Goals as goal

pub returns-in-Ok-clause-reads : goal.returns-in-Ok-clause-reads
returns-in-Ok-clause-reads g t c =
    let next : RedirectOptions × Words → RuleReading (RedirectOptions × Words) = λ found. redirect_options c.args.side (c.args.most - 1) found.0 found.1 in
    let count : c.args.most ≡ suc (c.args.most - 1) = omega arith in
    let all = redirects_on c.args.side c.args.most (c.args.most - 1) c.args.options c.args.words c.in-Some.word.now c.next.new.self c.in-Some-redirect_word.which
    count (sym c.again-others.ensures ∙ c.in-Some.ensures) (sym c.in-Some-redirect_word.ensures) in
    reads_behind (λ found. (found.0, found.1)) (redirect_options c.args.side c.args.most c.args.options c.args.words)
    (redirect_option c.args.side c.args.options c.in-Some-redirect_word.which c.next.new.self) next
    (c.redirect_option.new.options, c.in-Ok.behind)
    (g.P.Patterns.refusals c.args.pats.now) (g.P.Patterns.refusals c.redirect_option.new.pats) (g.P.Patterns.refusals c.redirect_options.new.pats) (g.P.Patterns.last_refused c.redirect_options.new.pats)
    c.redirect_options.result all c.in-Ok.ensures.reads.0 c.in-Ok.ensures.reads.1 c.redirect_options.ensures.reads
