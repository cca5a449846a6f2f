use Rattle.std.proofs.Common.{rules, ◌≡◌, ◌∙◌}
use Rattle.std.specs.Prelude.{None, Some}
use Rattle.px_command.specs.Options.{with_flag, with_number}
use Rattle.px_command.proofs.Reading.{flag_behind, no_number_behind, no_value_behind, nothing_behind, number_behind}
use Rattle.px_command.proofs.options.+options_behind.Goals as goal

pub returns-in_default : goal.returns-in_default
returns-in_default t c = nothing_behind c.args.said c.args.words.now c.in_default.len_below

pub returns-in-Some : goal.returns-in-Some
returns-in-Some t c =
    flag_behind c.args.said c.in-Some.next c.args.words.now c.word-item.result c.as_str.result.now c.options_behind.result c.in-len1-up.len_at_least c.word-item.is c.as_str.ensures.value c.in-Some.ensures
    c.options_behind.ensures

pub returns-in_default-rest : goal.returns-in_default-rest
returns-in_default-rest t c =
    let none : None ≡ with_flag c.args.said c.as_str.result.now = search rules in
    no_value_behind c.args.said c.args.words.now c.word-item.result c.as_str.result.now c.in-len1-up.len_at_least c.word-item.is c.as_str.ensures.value none c.in_default-rest.len_below

pub returns-in_err-next : goal.returns-in_err-next
returns-in_err-next t c =
    let none : None ≡ with_flag c.args.said c.as_str-2.result.now = search rules in
    let number : None ≡ with_number c.args.said c.as_str-2.result.now c.as_str-3.result.now = search rules in
    c.from_residual.ensures
    ∙ no_number_behind c.args.said c.args.words.now c.word-item.result c.value-item.result c.as_str-2.result.now c.as_str-3.result.now c.in-len1-up.len_at_least c.word-item.is c.as_str-2.ensures.value
    c.in-len1-up-rest.len_at_least c.value-item.is c.as_str-3.ensures.value none number

pub returns : goal.returns
returns t c =
    let none : None ≡ with_flag c.args.said c.as_str-2.result.now = search rules in
    let number : Some c.in_ok-next.next ≡ with_number c.args.said c.as_str-2.result.now c.as_str-3.result.now = c.in_ok-next.ensures in
    number_behind c.args.said c.in_ok-next.next c.args.words.now c.word-item.result c.value-item.result c.as_str-2.result.now c.as_str-3.result.now c.options_behind-2.result c.in-len1-up.len_at_least
    c.word-item.is c.as_str-2.ensures.value c.in-len1-up-rest.len_at_least c.value-item.is c.as_str-3.ensures.value none number c.options_behind-2.ensures
