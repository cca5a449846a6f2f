use Rattle.std.proofs.Common.{◌++◌, refl}
use Rattle.session_core.proofs.Working.{still}
use Rattle.session_core.proofs.Answering.{says_refusal, says_reply}
use Rattle.session_core.proofs.Events.{holds_at}
use Rattle.session_core.proofs.Placing.{placed_in, placed_at}
use Rattle.session_core.proofs.machine.Core.run_answer.Goals as goal

pub returns-in-Refusing-clause-keeps : goal.returns-in-Refusing-clause-keeps
returns-in-Refusing-clause-keeps g c = λ cfg past s.
    let M = g.S.Works.meaning cfg in
    let at = c.args.self.now.at in
    let q = g.S.Works.request c.args.self.now.sides in
    let a = g.S.Works.answer c.args.self.now.sides in
    let b = g.S.Works.answer c.say.new.self in
    let st = c.say.ensures.leads cfg s.sided s.stand in
    record {
      sided = record s.sided { to_client = s.sided.to_client ++ st.put; saying = record s.sided.saying { left = st.left } };
      stand = st.stands;
      holds = holds_at M at q (g.S.Works.request c.say.new.self) b b _ _ c.say.ensures.request refl
          (says_refusal M _ at q a b s.sided past c.in-Refusing.is st s.holds);
    }

pub returns-in-Replying-clause-keeps : goal.returns-in-Replying-clause-keeps
returns-in-Replying-clause-keeps g c = λ cfg past s.
    let M = g.S.Works.meaning cfg in
    let at = c.args.self.now.at in
    let q = g.S.Works.request c.args.self.now.sides in
    let a = g.S.Works.answer c.args.self.now.sides in
    let b = g.S.Works.answer c.say-in-Replying.new.self in
    let st = c.say-in-Replying.ensures.leads cfg s.sided s.stand in
    record {
      sided = record s.sided { to_client = s.sided.to_client ++ st.put; saying = record s.sided.saying { left = st.left } };
      stand = st.stands;
      holds = holds_at M at q (g.S.Works.request c.say-in-Replying.new.self) b b _ _ c.say-in-Replying.ensures.request refl
          (says_reply M _ at c.in-Replying.field-0 q a b s.sided past c.in-Replying.is st s.holds);
    }

pub returns-in-Reading-clause-keeps : goal.returns-in-Reading-clause-keeps
returns-in-Reading-clause-keeps g c = λ cfg past s. still (g.S.Works.meaning cfg) g.S.Works.request g.S.Works.answer (g.S.Works.stands cfg) c.args.self.now.sides c.args.self.now.at past s

pub returns-in-Opening-clause-keeps : goal.returns-in-Opening-clause-keeps
returns-in-Opening-clause-keeps g c = λ cfg past s. still (g.S.Works.meaning cfg) g.S.Works.request g.S.Works.answer (g.S.Works.stands cfg) c.args.self.now.sides c.args.self.now.at past s

pub returns-in-Unserved-clause-keeps : goal.returns-in-Unserved-clause-keeps
returns-in-Unserved-clause-keeps g c = λ cfg past s. still (g.S.Works.meaning cfg) g.S.Works.request g.S.Works.answer (g.S.Works.stands cfg) c.args.self.now.sides c.args.self.now.at past s

pub returns-in-Served-clause-keeps : goal.returns-in-Served-clause-keeps
returns-in-Served-clause-keeps g c = λ cfg past s. still (g.S.Works.meaning cfg) g.S.Works.request g.S.Works.answer (g.S.Works.stands cfg) c.args.self.now.sides c.args.self.now.at past s

pub returns-in-Over-clause-keeps : goal.returns-in-Over-clause-keeps
returns-in-Over-clause-keeps g c = λ cfg past s. still (g.S.Works.meaning cfg) g.S.Works.request g.S.Works.answer (g.S.Works.stands cfg) c.args.self.now.sides c.args.self.now.at past s

pub say-requires : goal.say-requires
say-requires g c = record { placed = (_, refl, placed_in (g.S.Works.placed c.args.self.now.sides) (g.S.Works.answer c.args.self.now.sides) c.args.self.now.at.phase _ c.args.self.now.at.cut c.in-Refusing.is c.requires.placed) }

pub returns-in-Refusing-clause-placed : goal.returns-in-Refusing-clause-placed
returns-in-Refusing-clause-placed g c = placed_at (g.S.Works.placed c.say.new.self) (g.S.Works.answer c.say.new.self) c.args.self.now.at.phase _ c.args.self.now.at.cut c.in-Refusing.is (c.say.ensures.placed _ refl (placed_in (g.S.Works.placed c.args.self.now.sides) (g.S.Works.answer c.args.self.now.sides) c.args.self.now.at.phase _ c.args.self.now.at.cut c.in-Refusing.is c.requires.placed))

pub say-requires-in-Replying : goal.say-requires-in-Replying
say-requires-in-Replying g c = record { placed = (_, refl, (placed_in (g.S.Works.placed c.args.self.now.sides) (g.S.Works.answer c.args.self.now.sides) c.args.self.now.at.phase _ c.args.self.now.at.cut c.in-Replying.is c.requires.placed).0) }

pub returns-in-Replying-clause-placed : goal.returns-in-Replying-clause-placed
returns-in-Replying-clause-placed g c =
    let from = placed_in (g.S.Works.placed c.args.self.now.sides) (g.S.Works.answer c.args.self.now.sides) c.args.self.now.at.phase _ c.args.self.now.at.cut c.in-Replying.is c.requires.placed in
    placed_at (g.S.Works.placed c.say-in-Replying.new.self) (g.S.Works.answer c.say-in-Replying.new.self) c.args.self.now.at.phase _ c.args.self.now.at.cut c.in-Replying.is (c.say-in-Replying.ensures.placed _ refl from.0, from.1)
