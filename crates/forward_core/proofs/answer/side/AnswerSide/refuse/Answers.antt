use Rattle.std.proofs.Common.{false, refl, ap, ◌∙◌, subst}
use Rattle.htx_arena.specs.Layout.Contents.{Contents}
use Rattle.http_model.specs.Head.{Message}
use Rattle.http_model.specs.Refusal.{refusal}
use Rattle.http_rules.specs.declared.config.Config.{Config}
use Rattle.forward_core.specs.Meaning.Product.{meaning_of}
use Rattle.forward_core.specs.Rules.Ruling.{config_of}
use Rattle.session_model.specs.Amending.{refusal_sent}
use Rattle.session_model.specs.Answering.{Refuses}
use Rattle.session_core.specs.Sided.{asker_in}
use Rattle.forward_core.specs.Answer.Listed.{IsListed}
use Rattle.forward_core.specs.Answer.Judging.{Settles, Finds}
use Rattle.forward_core.proofs.AnswerLemmas.Listed.{listed_blocks, listed_spells, refusal_listed, reply_listed}
use Rattle.forward_core.proofs.answer.side.AnswerSide.refuse.Goals as goal

pub say_instead-requires-clause-size : goal.say_instead-requires-clause-size
say_instead-requires-clause-size c = ap (λ (x : Contents). x.size) c.arena.ensures.value ∙ c.in_ok-say_refusal.ensures.ready.said ∙ ap (λ (k : Config). k.limits.bufsize) c.in_ok-say_refusal.ensures.config ∙ c.requires.size

pub returns-clause-leads : goal.returns-clause-leads
returns-clause-leads c = λ cfg asking server put saying s is.
    let M = meaning_of (config_of c.args.rules.now) in
    let m : Message = refusal_sent M c.args.code c.args.method.now c.args.rules.now.vars in
    let listed : IsListed m = reply_listed (config_of c.args.rules.now) (refusal c.args.code) c.args.method.now c.args.rules.now.vars false (refusal_listed c.args.code) in
    let last = Refuses c.args.code c.args.method.now c.args.rules.now.vars in
    let new = c.say_instead.new.self in
    let now = c.say_refusal.new.self.vars in
    subst (λ (k : Config). Settles k c.args.self.now asking server put last → Finds k new asking server put saying now) is
    (λ s. record {
      behind = now;
      stands = c.say_instead.ensures.leads (config_of c.args.rules.now) asking server put saying now last m.head m.body s (ap (λ (x : Contents). x.blocks) c.arena.ensures.value ∙ c.in_ok-say_refusal.ensures.said ∙ listed_blocks m listed) listed.line (listed_spells m (asker_in asking).head_asked listed) (refl, refl);
      vars = refl;
    })
    s

pub returns-clause-ready : goal.returns-clause-ready
returns-clause-ready c =
    let r = c.in_ok-say_refusal.ensures.ready in
    record { valid = r.valid; scratch = r.scratch; said = c.say_instead.ensures.said_size ∙ ap (λ (x : Contents). x.size) c.arena.ensures.value ∙ r.said; steady = r.steady; begun = r.begun; clear = r.clear }
