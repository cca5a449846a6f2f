use Rattle.session_core.specs.Sided.{unsaid}
use Rattle.std.proofs.lemmas.Bool.{false≢true}
use Rattle.std.proofs.Common.{refl}
use Rattle.session_core.specs.declared.Phase.TheVariants as phase
use Rattle.session_core.proofs.Answering.{refuses_server}
use Rattle.session_core.proofs.Events.{holds_at}
use Rattle.session_core.proofs.Placing.{placed_in}
use Rattle.session_core.proofs.machine.Core.refuse_server.Goals as goal

pub returns-clause-keeps : goal.returns-clause-keeps
returns-clause-keeps g c = λ cfg past s.
    let M = g.S.Works.meaning cfg in
    let at = c.args.self.now.at in
    let q = g.S.Works.request c.args.self.now.sides in
    let a = g.S.Works.answer c.args.self.now.sides in
    let b = g.S.Works.answer c.refuse.new.self in
    let re = c.in_ok-refuse.ensures.leads cfg s.sided s.stand in
    record {
      sided = record s.sided { saying = unsaid re.text };
      stand = re.stands;
      holds = holds_at M (record at { phase = phase.Refusing }) q (g.S.Works.request c.refuse.new.self) b b _ _ c.in_ok-refuse.ensures.request refl
          (refuses_server M _ at q a b s.sided past c.requires.phase c.in_ok-refuse.ensures.window c.in_ok-refuse.ensures.starts re s.holds);
    }

pub returns-in_err-refuse-clause-succeeds : goal.returns-in_err-refuse-clause-succeeds
returns-in_err-refuse-clause-succeeds g c = λ cfg past s e. absurd (false≢true (c.in_err-refuse.ensures.succeeds cfg s.sided s.stand e))

pub refuse-requires : goal.refuse-requires
refuse-requires g c = record { placed = placed_in (g.S.Works.placed c.args.self.now.sides) (g.S.Works.answer c.args.self.now.sides) c.args.self.now.at.phase phase.Unserved c.args.self.now.at.cut c.requires.phase c.requires.placed }
