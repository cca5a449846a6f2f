use Rattle.std.proofs.Common.{ap, ◌∙◌, false}
use Rattle.htx_arena.specs.Layout.Contents.{Contents}
use Rattle.http_model.specs.Refusal.{refusal}
use Rattle.http_rules.specs.Lives.{answering}
use Rattle.forward_core.specs.Meaning.Product.{meaning_of}
use Rattle.session_model.specs.Amending.{refusal_sent}
use Rattle.forward_core.specs.Rules.Ruling.{config_of}
use Rattle.forward_core.specs.Answer.Seen.{size_of}
use Rattle.forward_core.specs.Answer.Stands.{list_text}
use Rattle.forward_core.proofs.JoinedLemmas.SayLemmas.{refusal_said, ready_saying, said_fits, said_size}
use Rattle.forward_core.proofs.joined.saying.refuse.Goals as goal

pub returns-clause-says : goal.returns-clause-says
returns-clause-says c =
    let rules = c.args.rules.now in
    let cfg = config_of rules in
    let code = c.args.code in
    let method = c.args.method.now in
    let m = refusal_sent (meaning_of cfg) code method (answering rules.vars) in
    let listed = c.lists.ensures.sent cfg (refusal code) method (answering rules.vars) false (c.lists.ensures.refusal code) in
    record {
      text = list_text c.args.no_body m.head m.body;
      spelled = c.lists.ensures.spelled m c.args.no_body listed;
      says = λ asking server put now saying s. c.begin_saying.ensures.leads cfg asking server put now saying m.head m.body s
          (ap (λ (x : Contents). x.blocks) c.arena-said.ensures.value ∙ refusal_said cfg (config_of c.begin_answer.new.self) code method rules.vars c.begin_answer.new.self.vars c.say_refusal.new.self.said.blocks c.begin_answer.ensures.config c.begin_answer.ensures.vars c.in_ok-say_refusal.ensures.said
          ∙ c.lists.ensures.blocks m listed) listed.line;
    }

pub returns-clause-ready : goal.returns-clause-ready
returns-clause-ready c = ready_saying c.say_refusal.new.self c.begin_saying.new.list (c.begin_saying.ensures.list_size ∙ ap (λ (x : Contents). x.size) c.arena-said.ensures.value) c.say_refusal.ensures.ready

pub say_refusal-requires : goal.say_refusal-requires
say_refusal-requires c = record { ready = c.begin_answer.ensures.ready c.requires.ready }

pub begin_saying-requires-clause-fits : goal.begin_saying-requires-clause-fits
begin_saying-requires-clause-fits c =
    let new = c.say_refusal.new.self in
    let size = size_of c.args.answer.now in
    said_fits c.arena-said.result.now.blocks c.room-room.result c.arena-said.result.now.size size c.room-room.ensures
    (ap (λ (x : Contents). x.size) c.arena-said.ensures.value ∙ said_size c.args.rules.now new size c.say_refusal.ensures.ready (c.say_refusal.ensures.config ∙ c.begin_answer.ensures.config) c.requires.size)
