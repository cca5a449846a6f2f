use Rattle.std.proofs.Common.{sym, subst, false}
use Rattle.std.proofs.lemmas.Result.{IfOk-weaker}
use Rattle.session_core.specs.declared.sides.Asked.{Asked}
use Rattle.forward_core.specs.Joined.Asks.{AsksSo}
use Rattle.forward_core.proofs.JoinedLemmas.Refusing.{silent_emptied, refuses_emptied}
use Rattle.forward_core.proofs.JoinedLemmas.Asked.{asks_more, asks_nothing, asks_refused, asks_head, still_behind, read_behind, head_behind}
use Rattle.forward_core.proofs.joined.directions.Directions.ask_next.Goals as goal

pub returns-in-More-clause-so : goal.returns-in-More-clause-so
returns-in-More-clause-so c =
    let e = c.in-More.ensures in
    asks_more c.args.self.now c.read_head.new.self c.requires e.sound e.limits e.open e.window e.window_size e.tells

pub returns-in-Nothing-clause-so : goal.returns-in-Nothing-clause-so
returns-in-Nothing-clause-so c =
    let e = c.in-Nothing.ensures in
    asks_nothing c.args.self.now c.read_head.new.self c.requires e.sound e.limits e.open e.window e.window_size e.tells

pub refuse_asked-requires : goal.refuse_asked-requires
refuse_asked-requires c =
    let e = c.in-Refuse.ensures in
    let d = c.args.self.now in
    let r = c.read_head.new.self in
    silent_emptied (record d { request = r }) c.clear.new.self c.clear.ensures.cap (still_behind d r c.requires e.sound e.limits e.tells.place)

pub returns-in-Refuse-clause-so : goal.returns-in-Refuse-clause-so
returns-in-Refuse-clause-so c =
    let e = c.in-Refuse.ensures in
    let d = c.args.self.now in
    let r = c.read_head.new.self in
    let new = c.refuse_asked.new.self in
    let code = c.in-Refuse.code in
    IfOk-weaker c.refuse_asked.result _ (λ asked. AsksSo d new asked)
    (λ asked h. subst (λ (x : Asked). AsksSo d new x) (sym h.0)
    (asks_refused d r new code c.requires e.open e.window e.window_size e.tells e.uses (refuses_emptied (record d { request = r }) c.clear.new.self new code false c.clear.ensures.bytes h.1)))
    c.refuse_asked.ensures.refuses

pub ask_behind-requires-clause-read : goal.ask_behind-requires-clause-read
ask_behind-requires-clause-read c =
    let e = c.in-Head.ensures in
    read_behind c.args.self.now c.read_head.new.self c.requires e.sound e.limits e.tells

pub ask_behind-requires-clause-head : goal.ask_behind-requires-clause-head
ask_behind-requires-clause-head c = head_behind c.args.self.now c.read_head.new.self c.in-Head.ensures.tells

pub returns-in-Head-clause-so : goal.returns-in-Head-clause-so
returns-in-Head-clause-so c =
    let e = c.in-Head.ensures in
    IfOk-weaker c.ask_behind.result _ _ (λ asked h. asks_head c.args.self.now c.read_head.new.self c.ask_behind.new.self asked c.requires e.open e.window e.window_size e.tells e.uses h) c.ask_behind.ensures.asks
