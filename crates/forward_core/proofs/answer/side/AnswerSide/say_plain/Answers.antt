use Rattle.std.proofs.Common.{refl, ap, ◌∙◌}
use Rattle.htx_arena.specs.Layout.Contents.{Contents}
use Rattle.http_model.specs.Refusal.{refusal}
use Rattle.http_rules.specs.declared.config.Config.{Config}
use Rattle.session_model.specs.Amending.{plain_refusal}
use Rattle.session_model.specs.Answering.{Plain}
use Rattle.session_core.specs.Sided.{asker_in}
use Rattle.forward_core.specs.Answer.Listed.{IsListed}
use Rattle.forward_core.proofs.AnswerLemmas.Listed.{listed_blocks, listed_spells, refusal_listed, closing_listed}
use Rattle.forward_core.proofs.answer.side.AnswerSide.say_plain.Goals as goal

pub say_instead-requires-clause-size : goal.say_instead-requires-clause-size
say_instead-requires-clause-size c = ap (λ (x : Contents). x.size) c.arena.ensures.value ∙ c.say_plain.ensures.ready.said ∙ ap (λ (k : Config). k.limits.bufsize) c.say_plain.ensures.config ∙ c.requires.size

pub returns-clause-leads : goal.returns-clause-leads
returns-clause-leads c = λ cfg asking server put saying s is.
    let listed : IsListed plain_refusal = closing_listed (refusal 500) (refusal_listed 500) in
    let now = c.say_plain.new.self.vars in
    record {
      behind = now;
      stands = c.say_instead.ensures.leads cfg asking server put saying now Plain plain_refusal.head plain_refusal.body s (ap (λ (x : Contents). x.blocks) c.arena.ensures.value ∙ c.say_plain.ensures.said ∙ listed_blocks plain_refusal listed) listed.line (listed_spells plain_refusal (asker_in asking).head_asked listed) (refl, refl);
      vars = refl;
    }

pub returns-clause-ready : goal.returns-clause-ready
returns-clause-ready c =
    let r = c.say_plain.ensures.ready in
    record { valid = r.valid; scratch = r.scratch; said = c.say_instead.ensures.said_size ∙ ap (λ (x : Contents). x.size) c.arena.ensures.value ∙ r.said; steady = r.steady; begun = r.begun; clear = r.clear }
