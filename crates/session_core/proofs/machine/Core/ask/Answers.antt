use Rattle.session_core.specs.Sided.{unsaid}
use Rattle.std.proofs.lemmas.Bool.{false≢true}
use Rattle.std.proofs.Common.{[], subst, refl, sym}
use Rattle.session_core.proofs.Working.{at_is}
use Rattle.session_core.proofs.Turning.{asks_more, asks_nothing, asks_refusal, asks_reply, asks_server}
use Rattle.session_core.specs.Leads.{AsksTo}
use Rattle.session_core.specs.declared.sides.Asked.{Asked}
use Rattle.session_core.proofs.Placing.{placed_in, placed_at}
use Rattle.session_core.specs.declared.Phase.TheVariants as phase
use Rattle.session_core.specs.Place.{Ends, place_behind, IsPlaced}
use Rattle.session_core.specs.declared.machine.At.{At}
use Rattle.session_core.proofs.machine.Core.ask.Goals as goal

pub returns-in-More-clause-keeps : goal.returns-in-More-clause-keeps
returns-in-More-clause-keeps g c = λ cfg past s.
    let M = g.S.Works.meaning cfg in
    let at = c.args.self.now.at in
    let q = g.S.Works.request c.args.self.now.sides in
    let a = g.S.Works.answer c.args.self.now.sides in
    let r = g.S.Works.request c.ask.new.self in
    let b = g.S.Works.answer c.ask.new.self in
    let k = c.in_ok-asked.ensures.request in
    let P : Asked → Type 0 = λ k. AsksTo M (g.S.Works.stands cfg c.ask.new.self) r s.sided k in
    let re = subst P c.in-More.is (c.in_ok-asked.ensures.leads cfg s.sided s.stand) in
    record { sided = s.sided; stand = re; holds = asks_more M at q r a b s.sided past c.requires.phase k.is_open k.window c.in_ok-asked.ensures.window s.holds }

pub returns-in-Nothing-clause-keeps : goal.returns-in-Nothing-clause-keeps
returns-in-Nothing-clause-keeps g c = λ cfg past s.
    let M = g.S.Works.meaning cfg in
    let at = c.args.self.now.at in
    let q = g.S.Works.request c.args.self.now.sides in
    let a = g.S.Works.answer c.args.self.now.sides in
    let r = g.S.Works.request c.ask.new.self in
    let b = g.S.Works.answer c.ask.new.self in
    let k = c.in_ok-asked.ensures.request in
    let P : Asked → Type 0 = λ k. AsksTo M (g.S.Works.stands cfg c.ask.new.self) r s.sided k in
    let re = subst P c.in-Nothing.is (c.in_ok-asked.ensures.leads cfg s.sided s.stand) in
    record { sided = s.sided; stand = re.0; holds = asks_nothing M at q r a b s.sided past c.requires.phase k.is_open k.window c.in_ok-asked.ensures.window re.1 s.holds }

pub returns-in-Refuse-clause-keeps : goal.returns-in-Refuse-clause-keeps
returns-in-Refuse-clause-keeps g c = λ cfg past s.
    let M = g.S.Works.meaning cfg in
    let at = c.args.self.now.at in
    let q = g.S.Works.request c.args.self.now.sides in
    let a = g.S.Works.answer c.args.self.now.sides in
    let r = g.S.Works.request c.ask.new.self in
    let b = g.S.Works.answer c.ask.new.self in
    let k = c.in_ok-asked.ensures.request in
    let P : Asked → Type 0 = λ k. AsksTo M (g.S.Works.stands cfg c.ask.new.self) r s.sided k in
    let re = subst P c.in-Refuse.is (c.in_ok-asked.ensures.leads cfg s.sided s.stand) in
    record {
      sided = record s.sided { saying = unsaid re.text };
      stand = re.stands;
      holds = at_is M _ _ _ _ _ past c.counted-self.ensures (asks_refusal M _ at q r a b s.sided past _ c.requires.phase k.is_open k.window c.in_ok-asked.ensures.window c.in_ok-asked.ensures.starts refl re s.holds);
    }

pub returns-in-Reply-clause-keeps : goal.returns-in-Reply-clause-keeps
returns-in-Reply-clause-keeps g c = λ cfg past s.
    let M = g.S.Works.meaning cfg in
    let at = c.args.self.now.at in
    let q = g.S.Works.request c.args.self.now.sides in
    let a = g.S.Works.answer c.args.self.now.sides in
    let r = g.S.Works.request c.ask.new.self in
    let b = g.S.Works.answer c.ask.new.self in
    let k = c.in_ok-asked.ensures.request in
    let P : Asked → Type 0 = λ k. AsksTo M (g.S.Works.stands cfg c.ask.new.self) r s.sided k in
    let re = subst P c.in-Reply.is (c.in_ok-asked.ensures.leads cfg s.sided s.stand) in
    record {
      sided = record s.sided { reply = re.reply; now = re.now; saying = unsaid re.text };
      stand = re.stands;
      holds = at_is M _ _ _ _ _ past c.counted-self-in-Reply.ensures (asks_reply M _ at q r a b s.sided past _ c.in-Reply.kept c.requires.phase k.is_open k.window c.in_ok-asked.ensures.window c.in_ok-asked.ensures.starts refl re s.holds);
    }

pub returns-in-Send-clause-keeps : goal.returns-in-Send-clause-keeps
returns-in-Send-clause-keeps g c = λ cfg past s.
    let M = g.S.Works.meaning cfg in
    let at = c.args.self.now.at in
    let q = g.S.Works.request c.args.self.now.sides in
    let a = g.S.Works.answer c.args.self.now.sides in
    let r = g.S.Works.request c.ask.new.self in
    let b = g.S.Works.answer c.ask.new.self in
    let k = c.in_ok-asked.ensures.request in
    let P : Asked → Type 0 = λ k. AsksTo M (g.S.Works.stands cfg c.ask.new.self) r s.sided k in
    let re = subst P c.in-Send.is (c.in_ok-asked.ensures.leads cfg s.sided s.stand) in
    record {
      sided = record s.sided { asking = re.asking; to_server = [] };
      stand = re.stands;
      holds = at_is M _ _ _ _ _ past c.counted-self-in-Send.ensures (asks_server M _ at q r a b s.sided past _ c.requires.phase k.is_open k.window c.in_ok-asked.ensures.window refl re s.holds);
    }

pub returns-in_err-asked-clause-succeeds : goal.returns-in_err-asked-clause-succeeds
returns-in_err-asked-clause-succeeds g c = λ cfg past s e. absurd (false≢true (c.in_err-asked.ensures.succeeds cfg s.sided s.stand e))

pub ask-requires : goal.ask-requires
ask-requires g c = record { placed = (placed_in (g.S.Works.placed c.args.self.now.sides) (g.S.Works.answer c.args.self.now.sides) c.args.self.now.at.phase phase.Reading c.args.self.now.at.cut c.requires.phase c.requires.placed).0 }

pub returns-in-More-clause-placed : goal.returns-in-More-clause-placed
returns-in-More-clause-placed g c = placed_at (g.S.Works.placed c.ask.new.self) (g.S.Works.answer c.ask.new.self) c.args.self.now.at.phase phase.Reading c.args.self.now.at.cut c.requires.phase (subst (λ k. g.S.Works.placed c.ask.new.self (place_behind k)) c.in-More.is c.in_ok-asked.ensures.placed, (placed_in (g.S.Works.placed c.args.self.now.sides) (g.S.Works.answer c.args.self.now.sides) c.args.self.now.at.phase phase.Reading c.args.self.now.at.cut c.requires.phase c.requires.placed).1)

pub returns-in-Nothing-clause-placed : goal.returns-in-Nothing-clause-placed
returns-in-Nothing-clause-placed g c = (Ends, refl, subst (λ k. g.S.Works.placed c.ask.new.self (place_behind k)) c.in-Nothing.is c.in_ok-asked.ensures.placed)

pub returns-in-Refuse-clause-placed : goal.returns-in-Refuse-clause-placed
returns-in-Refuse-clause-placed g c = subst (λ (t : At). IsPlaced (g.S.Works.placed c.ask.new.self) (g.S.Works.answer c.ask.new.self) t.phase t.cut) (sym c.counted-self.ensures) (subst (λ k. g.S.Works.placed c.ask.new.self (place_behind k)) c.in-Refuse.is c.in_ok-asked.ensures.placed)

pub returns-in-Reply-clause-placed : goal.returns-in-Reply-clause-placed
returns-in-Reply-clause-placed g c = subst (λ (t : At). IsPlaced (g.S.Works.placed c.ask.new.self) (g.S.Works.answer c.ask.new.self) t.phase t.cut) (sym c.counted-self-in-Reply.ensures) (subst (λ k. g.S.Works.placed c.ask.new.self (place_behind k)) c.in-Reply.is c.in_ok-asked.ensures.placed, (placed_in (g.S.Works.placed c.args.self.now.sides) (g.S.Works.answer c.args.self.now.sides) c.args.self.now.at.phase phase.Reading c.args.self.now.at.cut c.requires.phase c.requires.placed).1)

pub returns-in-Send-clause-placed : goal.returns-in-Send-clause-placed
returns-in-Send-clause-placed g c = subst (λ (t : At). IsPlaced (g.S.Works.placed c.ask.new.self) (g.S.Works.answer c.ask.new.self) t.phase t.cut) (sym c.counted-self-in-Send.ensures) (subst (λ k. g.S.Works.placed c.ask.new.self (place_behind k)) c.in-Send.is c.in_ok-asked.ensures.placed, (placed_in (g.S.Works.placed c.args.self.now.sides) (g.S.Works.answer c.args.self.now.sides) c.args.self.now.at.phase phase.Reading c.args.self.now.at.cut c.requires.phase c.requires.placed).1)
