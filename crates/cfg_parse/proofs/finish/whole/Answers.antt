use Rattle.std.proofs.Common.{rules, ◌≡◌, ◌-◌, false, ltb, ◌∙◌, subst, sym}
use Rattle.cfg_parse.specs.Reading.{Fails}
use Rattle.cfg_parse.specs.Whole.{bufsize_of, maxrewrite_of, stops_pairs, application_of, with_addresses, whole}
use Rattle.cfg_parse.proofs.StepLemmas.{then_fails}
use Rattle.cfg_parse.proofs.WholeLemmas.{behind_rules, behind_application}
use Rattle.cfg_parse.proofs.finish.whole.Goals as goal

pub returns-in_err-application : goal.returns-in_err-application
returns-in_err-application c =
    let draft = c.args.draft in
    let suits : ltb (bufsize_of draft - 512) (maxrewrite_of draft) ≡ false = search rules in
    let runs : stops_pairs draft ≡ false = search rules in
    let is = behind_rules draft c.add_last.new.rules c.add_pairs.new.rules suits runs c.in_ok-add_last.ensures c.in_ok-add_pairs.ensures in
    let fails = then_fails (application_of draft.application) (λ app. with_addresses draft c.add_pairs.new.rules app draft.bind draft.server) c.in_err-application.field-0.0 c.in_err-application.ensures in
    let whole_fails : Fails c.in_err-application.field-0.0 (whole draft) = subst (Fails c.in_err-application.field-0.0) (sym is) fails in
    search rules

pub returns-in-Some-Some : goal.returns-in-Some-Some
returns-in-Some-Some c =
    let draft = c.args.draft in
    let suits : ltb (bufsize_of draft - 512) (maxrewrite_of draft) ≡ false = search rules in
    let runs : stops_pairs draft ≡ false = search rules in
    behind_application draft c.add_last.new.rules c.add_pairs.new.rules c.in_ok-application.application suits runs c.in_ok-add_last.ensures c.in_ok-add_pairs.ensures c.in_ok-application.ensures ∙ search rules

pub returns : goal.returns
returns c =
    let draft = c.args.draft in
    let suits : ltb (bufsize_of draft - 512) (maxrewrite_of draft) ≡ false = search rules in
    let runs : stops_pairs draft ≡ false = search rules in
    behind_application draft c.add_last.new.rules c.add_pairs.new.rules c.in_ok-application.application suits runs c.in_ok-add_last.ensures c.in_ok-add_pairs.ensures c.in_ok-application.ensures ∙ search rules
