use Rattle.std.proofs.Common.{refl, sym, ap, ◌∙◌, subst, ℕ, List}
use Rattle.std.proofs.lemmas.Result.{on_ok_weaker}
use Rattle.http_rules.specs.declared.config.Config.{Config}
use Rattle.forward_core.specs.Meaning.Product.{meaning_of}
use Rattle.forward_core.specs.Rules.Ruling.{config_of}
use Rattle.session_model.specs.Env.{response_env}
use Rattle.session_model.specs.Answering.{Plain, Refuses}
use Rattle.session_core.specs.Sided.{asker_in}
use Rattle.forward_core.specs.Answer.Judging.{Settles}
use Rattle.forward_core.proofs.AnswerLemmas.SettleLemmas.{settles_head}
use Rattle.forward_core.proofs.AnswerLemmas.VerdictLemmas.{answers_long, answers_plain, edited_so, plain_so, same_after}
use Rattle.forward_core.proofs.AnswerLemmas.JudgeLemmas.{edits_goes, sized_still, too_much}
use Rattle.forward_core.proofs.answer.side.AnswerSide.amend.Goals as goal

-- ---- it is too long

pub returns-then-is_too_long-clause-leads : goal.returns-then-is_too_long-clause-leads
returns-then-is_too_long-clause-leads c =
    on_ok_weaker c.refuse.result
    (λ leads cfg asking server put saying received f p runs unchanged.
    let side = c.args.self.now in
    let vars = c.args.rules.now.vars in
    let long = sym (too_much (config_of c.args.rules.now) cfg _ _ _ received (ap (λ (k : Config). k.res_filters) c.config.ensures) runs.config f.read.declared f.read.framing) ∙ sym c.is_too_long.ensures ∙ c.if-is_too_long.true in
    leads cfg asking server put saying
    (subst (λ (m : List ℕ). Settles cfg side asking server put (Refuses 502 m vars)) (sym runs.asked)
    (settles_head cfg side asking server put received (Refuses 502 (asker_in asking).method vars) c.requires.between c.requires.has.stage f
    (λ rest. answers_long (meaning_of cfg) (asker_in asking) received rest _ (response_env vars (asker_in asking).method p.head) vars p.rules refl long)))
    runs.config)
    c.refuse.ensures.leads

-- ---- it isn't

pub finish-requires-clause-between : goal.finish-requires-clause-between
finish-requires-clause-between c = c.in_ok-run_after.ensures.edits.between

pub finish-requires-clause-has : goal.finish-requires-clause-has
finish-requires-clause-has c =
    let x = edited_so _ c.in_ok-run_after.field-0 _ _ c.if-branch.true (c.in_ok-run_after.ensures.amends c.requires.has.head c.requires.has.blocks) in
    record { stage = c.in_ok-run_after.ensures.edits.stage; head = x.0; blocks = x.2 }

pub finish-requires-clause-size : goal.finish-requires-clause-size
finish-requires-clause-size c = sized_still c.args.self.now c.run_after.new.self c.args.rules.now c.run_after.new.rules c.in_ok-run_after.ensures.edits c.in_ok-run_after.ensures.config c.requires.size

pub returns-then-branch-clause-leads : goal.returns-then-branch-clause-leads
returns-then-branch-clause-leads c = λ cfg asking server put saying received f p runs unchanged.
    let short = sym (too_much (config_of c.args.rules.now) cfg _ _ _ received (ap (λ (k : Config). k.res_filters) c.config.ensures) runs.config f.read.declared f.read.framing) ∙ sym c.is_too_long.ensures ∙ c.if-is_too_long.false in
    let run = config_of c.args.rules.now in
    let vars = c.args.rules.now.vars in
    let x = edited_so _ c.in_ok-run_after.field-0 _ _ c.if-branch.true (c.in_ok-run_after.ensures.amends p.head p.blocks) in
    c.finish.ensures.leads cfg asking server put saying received x.0
    (c.in_ok-run_after.ensures.edits.final cfg asking server put received f)
    (record {
      at = response_env vars (asker_in asking).method p.head;
      rules = p.rules;
      short = short;
      after = sym (same_after run cfg vars c.args.method.now (asker_in asking).method p.head runs.config runs.asked) ∙ x.1;
    })
    x.2 (c.in_ok-run_after.ensures.config ∙ runs.config) unchanged

pub returns-then-branch-clause-goes_out : goal.returns-then-branch-clause-goes_out
returns-then-branch-clause-goes_out c = edits_goes c.args.self.now c.run_after.new.self c.finish.new.self c.in_ok-run_after.ensures.edits c.finish.ensures.goes_out

pub say_plain-requires-clause-between : goal.say_plain-requires-clause-between
say_plain-requires-clause-between c = c.in_ok-run_after.ensures.edits.between

pub say_plain-requires-clause-size : goal.say_plain-requires-clause-size
say_plain-requires-clause-size c = sized_still c.args.self.now c.run_after.new.self c.args.rules.now c.run_after.new.rules c.in_ok-run_after.ensures.edits c.in_ok-run_after.ensures.config c.requires.size

pub returns-clause-leads : goal.returns-clause-leads
returns-clause-leads c = λ cfg asking server put saying received f p runs unchanged.
    let short = sym (too_much (config_of c.args.rules.now) cfg _ _ _ received (ap (λ (k : Config). k.res_filters) c.config.ensures) runs.config f.read.declared f.read.framing) ∙ sym c.is_too_long.ensures ∙ c.if-is_too_long.false in
    let run = config_of c.args.rules.now in
    let vars = c.args.rules.now.vars in
    let mid = c.run_after.new.self in
    let edits = c.in_ok-run_after.ensures.edits in
    let plain = plain_so _ c.in_ok-run_after.field-0 _ _ c.if-branch.false (c.in_ok-run_after.ensures.amends p.head p.blocks) in
    c.say_plain.ensures.leads cfg asking server put saying
    (settles_head cfg mid asking server put received Plain (edits.between) (edits.stage)
    (edits.final cfg asking server put received f)
    (λ rest. answers_plain (meaning_of cfg) (asker_in asking) received rest _ (response_env vars (asker_in asking).method p.head) p.rules short
    (sym (same_after run cfg vars c.args.method.now (asker_in asking).method p.head runs.config runs.asked) ∙ plain)))
    (c.in_ok-run_after.ensures.config ∙ runs.config)

pub returns-clause-goes_out : goal.returns-clause-goes_out
returns-clause-goes_out c = edits_goes c.args.self.now c.run_after.new.self c.say_plain.new.self c.in_ok-run_after.ensures.edits c.say_plain.ensures.goes_out
