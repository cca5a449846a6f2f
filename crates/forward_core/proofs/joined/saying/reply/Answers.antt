use Rattle.std.proofs.Common.{◌∙◌, ap, subst, sym}
use Rattle.htx_arena.specs.Layout.Contents.{Contents}
use Rattle.http_rules.specs.Lives.{answering}
use Rattle.forward_core.specs.Meaning.Product.{meaning_of}
use Rattle.session_model.specs.Amending.{reply_sent}
use Rattle.forward_core.specs.Rules.Ruling.{config_of, HasReply}
use Rattle.forward_core.specs.Answer.Seen.{size_of}
use Rattle.forward_core.specs.Answer.Stands.{list_text}
use Rattle.forward_core.proofs.JoinedLemmas.SayLemmas.{reply_said, ready_saying, said_fits, said_size, kept_alike}
use Rattle.forward_core.proofs.joined.saying.reply.Goals as goal

pub say_reply-requires-clause-reply : goal.say_reply-requires-clause-reply
say_reply-requires-clause-reply c = subst (λ (x : Contents). HasReply x.blocks) (sym c.begin_answer.ensures.said) c.requires.reply

pub returns-clause-says : goal.returns-clause-says
returns-clause-says c = λ m listed is.
    let rules = c.args.rules.now in
    let mid = c.begin_answer.new.self in
    let cfg = config_of rules in
    let method = c.args.method.now in
    let kept = c.in_ok-kept.kept in
    let sent = reply_sent (meaning_of cfg) m method (answering rules.vars) c.args.keep in
    let x = reply_said cfg (config_of mid) m method rules.vars mid.vars c.args.keep kept c.say_reply.new.self.said.blocks c.say_reply.new.self.vars c.begin_answer.ensures.config c.begin_answer.ensures.vars
    (c.in_ok-kept.ensures.says m (record { blocks = ap (λ (a : Contents). a.blocks) c.begin_answer.ensures.said ∙ is; none = listed.trailers })) in
    let sent_listed = c.lists.ensures.sent cfg m method (answering rules.vars) c.args.keep listed in
    record {
      text = list_text c.args.no_body sent.head sent.body;
      spelled = c.lists.ensures.spelled sent c.args.no_body sent_listed;
      behind = x.behind ∙ kept_alike kept c.say_reply.new.self.vars;
      says = λ asking server put now saying s. c.begin_saying.ensures.leads cfg asking server put now saying sent.head sent.body s (ap (λ (x : Contents). x.blocks) c.arena-said.ensures.value ∙ x.says ∙ c.lists.ensures.blocks sent sent_listed) sent_listed.line;
    }

pub returns-clause-ready : goal.returns-clause-ready
returns-clause-ready c = ready_saying c.say_reply.new.self c.begin_saying.new.list (c.begin_saying.ensures.list_size ∙ ap (λ (x : Contents). x.size) c.arena-said.ensures.value) c.say_reply.ensures.ready

pub say_reply-requires-clause-ready : goal.say_reply-requires-clause-ready
say_reply-requires-clause-ready c = c.begin_answer.ensures.ready c.requires.ready

pub begin_saying-requires-clause-fits : goal.begin_saying-requires-clause-fits
begin_saying-requires-clause-fits c =
    let new = c.say_reply.new.self in
    let size = size_of c.args.answer.now in
    said_fits c.arena-said.result.now.blocks c.room-room.result c.arena-said.result.now.size size c.room-room.ensures
    (ap (λ (x : Contents). x.size) c.arena-said.ensures.value ∙ said_size c.args.rules.now new size c.say_reply.ensures.ready (c.say_reply.ensures.config ∙ c.begin_answer.ensures.config) c.requires.size)
