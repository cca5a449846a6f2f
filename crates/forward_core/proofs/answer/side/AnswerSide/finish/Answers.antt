use Rattle.std.proofs.Common.{◌≡◌, true, false, refl, sym, ap, ◌∙◌}
use Rattle.http_model.specs.declared.Limits.{Limits}
use Rattle.http_model.specs.Head.{head_blocks}
use Rattle.http_rules.specs.declared.config.Config.{Config}
use Rattle.forward_core.specs.Meaning.Product.{meaning_of, replaces}
use Rattle.session_model.specs.Answering.{Plain}
use Rattle.session_core.specs.Sided.{asker_in}
use Rattle.forward_core.proofs.AnswerLemmas.SettleLemmas.{settles_head}
use Rattle.forward_core.proofs.AnswerLemmas.VerdictLemmas.{answers_unfit}
use Rattle.forward_core.proofs.AnswerLemmas.JudgeLemmas.{edits_goes, finished_is, fits_as}
use Rattle.forward_core.proofs.answer.side.AnswerSide.finish.Goals as goal

pub send-requires-clause-between : goal.send-requires-clause-between
send-requires-clause-between c = c.finish_head.ensures.edits.between

pub send-requires-clause-has : goal.send-requires-clause-has
send-requires-clause-has c =
    record {
      stage = c.finish_head.ensures.edits.stage;
      head = _;
      blocks = (c.finish_head.ensures.finishes c.requires.has.head c.requires.has.blocks).blocks c.if-finish_head.true;
    }

pub returns-then-finish_head-clause-leads : goal.returns-then-finish_head-clause-leads
returns-then-finish_head-clause-leads c = λ cfg asking server put saying received head f edited blocks config unchanged.
    let old = c.args.self.now in
    let mid = c.finish_head.new.self in
    let edits = c.finish_head.ensures.edits in
    let vars = c.args.rules.now.vars in
    let x = c.finish_head.ensures.finishes head blocks in
    let replaced : c.replaces-replaced.result ≡ replaces cfg.res_filters = c.replaces-replaced.ensures ∙ ap (λ (k : Config). replaces k.res_filters) (c.config.ensures ∙ config) in
    let is = finished_is cfg old (asker_in asking) received c.replaces-replaced.result c.args.not_modified head f.read.asks replaced unchanged f.read.framing f.read.declared in
    let sized = c.edited_answer.ensures.size old.lane c.requires.between.lane ∙ ap (λ (l : Limits). l.bufsize) f.read.for_it.limits in
    record {
      behind = vars;
      stands = c.send.ensures.leads cfg asking server put vars saying received head
          (edits.final cfg asking server put received f)
          edited (fits_as cfg (asker_in asking) received head _ _ true is sized (x.fits_is ∙ c.if-finish_head.true)) (x.blocks c.if-finish_head.true ∙ ap head_blocks is) replaced;
      vars = refl;
    }

pub returns-then-finish_head-clause-goes_out : goal.returns-then-finish_head-clause-goes_out
returns-then-finish_head-clause-goes_out c = edits_goes c.args.self.now c.finish_head.new.self c.send.new.self c.finish_head.ensures.edits c.send.ensures.goes_out

pub say_plain-requires-clause-between : goal.say_plain-requires-clause-between
say_plain-requires-clause-between c = c.finish_head.ensures.edits.between

pub say_plain-requires-clause-size : goal.say_plain-requires-clause-size
say_plain-requires-clause-size c = c.requires.size ∙ sym c.finish_head.ensures.edits.size

pub returns-clause-leads : goal.returns-clause-leads
returns-clause-leads c = λ cfg asking server put saying received head f edited blocks config unchanged.
    let old = c.args.self.now in
    let mid = c.finish_head.new.self in
    let edits = c.finish_head.ensures.edits in
    let x = c.finish_head.ensures.finishes head blocks in
    let replaced : c.replaces-replaced.result ≡ replaces cfg.res_filters = c.replaces-replaced.ensures ∙ ap (λ (k : Config). replaces k.res_filters) (c.config.ensures ∙ config) in
    let is = finished_is cfg old (asker_in asking) received c.replaces-replaced.result c.args.not_modified head f.read.asks replaced unchanged f.read.framing f.read.declared in
    let sized = c.edited_answer.ensures.size old.lane c.requires.between.lane ∙ ap (λ (l : Limits). l.bufsize) f.read.for_it.limits in
    let unfit = fits_as cfg (asker_in asking) received head _ _ false is sized (x.fits_is ∙ c.if-finish_head.false) in
    c.say_plain.ensures.leads cfg asking server put saying
    (settles_head cfg mid asking server put received Plain (edits.between) (edits.stage)
    (edits.final cfg asking server put received f)
    (λ rest. answers_unfit (meaning_of cfg) (asker_in asking) received rest _ edited.at head c.args.rules.now.vars edited.rules edited.short edited.after unfit))
    config

pub returns-clause-goes_out : goal.returns-clause-goes_out
returns-clause-goes_out c = edits_goes c.args.self.now c.finish_head.new.self c.say_plain.new.self c.finish_head.ensures.edits c.say_plain.ensures.goes_out
