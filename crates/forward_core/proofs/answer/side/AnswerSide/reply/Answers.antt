use Rattle.std.proofs.Common.{refl, ap, ◌∙◌, subst}
use Rattle.htx_arena.specs.Layout.Contents.{Contents}
use Rattle.http_model.specs.Head.{Message}
use Rattle.http_rules.specs.declared.config.Config.{Config}
use Rattle.forward_core.specs.Meaning.Product.{meaning_of}
use Rattle.forward_core.specs.Rules.Ruling.{config_of, AmendsReply}
use Rattle.session_model.specs.Amending.{reply_sent}
use Rattle.session_model.specs.Answering.{Replies}
use Rattle.session_core.specs.Sided.{asker_in}
use Rattle.forward_core.specs.Answer.Listed.{IsListed}
use Rattle.forward_core.specs.Answer.Judging.{Settles, Finds}
use Rattle.forward_core.proofs.AnswerLemmas.Listed.{listed_blocks, listed_spells, reply_listed}
use Rattle.forward_core.proofs.AnswerLemmas.LastLemmas.{reply_told, reply_spells}
use Rattle.forward_core.proofs.answer.side.AnswerSide.reply.Goals as goal

pub say_instead-requires-clause-size : goal.say_instead-requires-clause-size
say_instead-requires-clause-size c = ap (λ (x : Contents). x.size) c.arena.ensures.value ∙ c.in_ok-replied.ensures.ready.said ∙ ap (λ (k : Config). k.limits.bufsize) c.in_ok-replied.ensures.config ∙ c.requires.size

pub returns-clause-leads : goal.returns-clause-leads
returns-clause-leads c = λ cfg asking server put saying m s is stands listed.
    let config = config_of c.args.rules.now in
    let M = meaning_of config in
    let vars = c.args.rules.now.vars in
    let method = c.args.method.now in
    let keep = c.args.self.now.asker.keep in
    let sent : Message = reply_sent M m method vars keep in
    let sent_listed : IsListed sent = reply_listed config m method vars keep listed in
    let last = Replies m method vars in
    let new = c.say_instead.new.self in
    let now = c.amend_reply.new.self.vars in
    let a : AmendsReply config m method vars keep c.in_ok-replied.replied c.amend_reply.new.self.said.blocks now = c.in_ok-replied.ensures.amends m (record { blocks = stands; none = listed.trailers }) in
    subst (λ (k : Config). Settles k c.args.self.now asking server put last → Finds k new asking server put saying now) is
    (λ s. record {
      behind = now;
      stands = c.say_instead.ensures.leads config asking server put saying now last sent.head sent.body s (ap (λ (x : Contents). x.blocks) c.arena.ensures.value ∙ a.says ∙ listed_blocks sent sent_listed) sent_listed.line
          (reply_spells config m method vars (asker_in asking) keep s.asks.keep (listed_spells sent (asker_in asking).head_asked sent_listed))
          (reply_told config m method vars now c.in_ok-replied.replied a.behind);
      vars = refl;
    })
    s

pub returns-clause-ready : goal.returns-clause-ready
returns-clause-ready c =
    let r = c.in_ok-replied.ensures.ready in
    record { valid = r.valid; scratch = r.scratch; said = c.say_instead.ensures.said_size ∙ ap (λ (x : Contents). x.size) c.arena.ensures.value ∙ r.said; steady = r.steady; begun = r.begun; clear = r.clear }
