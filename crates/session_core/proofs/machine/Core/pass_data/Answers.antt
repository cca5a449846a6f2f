use Rattle.std.proofs.Common.{◌≡◌, ◌≢◌, ◌++◌, ◌∙◌, Some, false, refl, rules, take, length}
use Rattle.session_core.proofs.Gaining.{passes_on, takes_room, turned_room}
use Rattle.session_core.proofs.Events.{holds_at}
use Rattle.session_core.proofs.Stalls.{not_turned}
use Rattle.session_core.proofs.Placing.{placed_in, placed_at, serves, served}
use Rattle.session_core.specs.History.{gains}
use Rattle.session_core.specs.declared.Phase.TheVariants as phase
use Rattle.session_core.proofs.machine.Core.pass_data.Goals as goal

pub returns-clause-leads : goal.returns-clause-leads
returns-clause-leads g c = λ some cfg past s.
    let M = g.S.Works.meaning cfg in
    let at = c.args.self.now.at in
    let q = g.S.Works.request c.args.self.now.sides in
    let a = g.S.Works.answer c.args.self.now.sides in
    let b = g.S.Works.answer c.pass_data.new.self in
    let other : at.cut ≢ Some false = λ e. absurd (search (rules, c.is_turned.ensures.1 e, c.if-is_turned.false)) in
    let taken = take c.pass_data.result c.args.bytes.now in
    let st = c.pass_data.ensures.leads some cfg s.sided s.stand in
    record {
      sided = record s.sided { server = gains s.sided.server taken; to_client = s.sided.to_client ++ st.put; now = st.behind };
      stand = st.stands;
      holds = holds_at M at q (g.S.Works.request c.pass_data.new.self) b b _ _ c.pass_data.ensures.request refl
          (passes_on M _ at q a b s.sided past taken c.requires.serving other c.requires.open c.pass_data.ensures.open st s.holds);
    }

pub returns-clause-open : goal.returns-clause-open
returns-clause-open g c = c.pass_data.ensures.open ∙ c.requires.open

pub pass_data-requires-clause-placed : goal.pass_data-requires-clause-placed
pass_data-requires-clause-placed g c =
    let other : c.args.self.now.at.cut ≢ Some false = λ e. absurd (search (rules, c.is_turned.ensures.1 e, c.if-is_turned.false)) in
    serves (g.S.Works.placed c.args.self.now.sides) c.args.self.now.at.cut (not_turned c.args.self.now.at.cut other) (placed_in (g.S.Works.placed c.args.self.now.sides) (g.S.Works.answer c.args.self.now.sides) c.args.self.now.at.phase phase.Serving c.args.self.now.at.cut c.requires.serving c.requires.placed)

pub returns-clause-placed : goal.returns-clause-placed
returns-clause-placed g c =
    let other : c.args.self.now.at.cut ≢ Some false = λ e. absurd (search (rules, c.is_turned.ensures.1 e, c.if-is_turned.false)) in
    placed_at (g.S.Works.placed c.pass_data.new.self) (g.S.Works.answer c.pass_data.new.self) c.args.self.now.at.phase phase.Serving c.args.self.now.at.cut c.requires.serving
    (served (g.S.Works.placed c.pass_data.new.self) c.args.self.now.at.cut (not_turned c.args.self.now.at.cut other) c.pass_data.ensures.placed)

pub pass_data-requires-clause-room : goal.pass_data-requires-clause-room
pass_data-requires-clause-room g c =
    takes_room (g.S.Works.at_once c.args.self.now.sides) c.args.self.now.at.cut (length c.args.bytes.now) (g.S.Works.answer c.args.self.now.sides).room c.requires.room

pub returns-then-is_turned-clause-room : goal.returns-then-is_turned-clause-room
returns-then-is_turned-clause-room g c =
    let turned : c.args.self.now.at.cut ≡ Some false = c.is_turned.ensures.0 c.if-is_turned.true in
    turned_room (g.S.Works.at_once c.args.self.now.sides) c.args.self.now.at.cut (length c.args.bytes.now) (g.S.Works.answer c.args.self.now.sides).room turned c.requires.room
