use Rattle.std.proofs.Common.{◌≡◌, ℕ, suc, ◌+◌, ◌-◌, List, [], ◌∷◌, ◌++◌, rules, sym, ap, ◌∙◌, arith}
use Rattle.std.specs.Prelude.{Some, None, option_map}
use Rattle.px_link.specs.declared.turns.Turn.{Turn}
use Rattle.rec_format.specs.declared.record.RecKind.TheVariants as kinds
use Rattle.rec_format.specs.Lent.{lent_turn}
use Rattle.rec_format.specs.Pieces.{before, behind}
use Rattle.rec_format.specs.Entries.{turn_entry}
use Rattle.rec_format.specs.Recorded.{turns_of, refusal_at}
use Rattle.rec_format.specs.Parts.{behind_turns, turns_read}
use Rattle.rec_format.proofs.Joining.{gives_fault, no_turns, one_turn, bad_turn, last_turn}
use Rattle.rec_format.proofs.parts.turns.Goals as goal

pub loop-left-init : goal.loop-left-init
loop-left-init c =
    let said = turns_of c.args.total c.args.numbered c.args.connections c.args.count c.args.text.now in
    let all : c.args.count ≡ c.args.count - 0 = omega arith in
    no_turns said ∙ ap (λ (l : List (ℕ × Turn)). behind_turns l said) (sym c.new-turns.ensures.items)
    ∙ ap (λ (n : ℕ). behind_turns c.new-turns.result.items (turns_of c.args.total c.args.numbered c.args.connections n c.args.text.now)) all

pub returns-in-None : goal.returns-in-None
returns-in-None c =
    let l = c.loop-left in
    let next : c.args.count - l._left ≡ suc (c.args.count - (l._left + 1)) = omega (arith, c.loop-left-test.true) in
    let none : turn_entry c.args.numbered c.args.connections (before 10 l.rest.now) (behind 10 l.rest.now) ≡ None = sym c.turn.ensures ∙ ap (option_map lent_turn) c.in-None.is in
    gives_fault turns_read c.refusal.result (refusal_at c.args.total l.rest.now kinds.Turn) c.refusal.ensures
    (l.invariant ∙ ap (λ (n : ℕ). behind_turns l.turns.items (turns_of c.args.total c.args.numbered c.args.connections n l.rest.now)) next
    ∙ bad_turn c.args.total c.args.numbered c.args.connections (c.args.count - (l._left + 1)) l.rest.now l.turns.items none)

pub loop-left-preserved : goal.loop-left-preserved
loop-left-preserved c =
    let l = c.loop-left in
    let next : c.args.count - l._left ≡ suc (c.args.count - (l._left + 1)) = omega (arith, c.loop-left-test.true) in
    let some : turn_entry c.args.numbered c.args.connections (before 10 l.rest.now) (behind 10 l.rest.now) ≡ Some (c.in-Some.turn, c.in-Some.behind.now) = sym c.turn.ensures ∙ ap (option_map lent_turn) c.in-Some.is in
    let pushed : c.push.new.self.items ≡ l.turns.items ++ c.in-Some.turn ∷ [] = search rules in
    l.invariant ∙ ap (λ (n : ℕ). behind_turns l.turns.items (turns_of c.args.total c.args.numbered c.args.connections n l.rest.now)) next
    ∙ one_turn c.args.total c.args.numbered c.args.connections (c.args.count - (l._left + 1)) l.rest.now l.turns.items c.in-Some.turn c.in-Some.behind.now some
    ∙ ap (λ (front : List (ℕ × Turn)). behind_turns front (turns_of c.args.total c.args.numbered c.args.connections (c.args.count - (l._left + 1)) c.in-Some.behind.now)) (sym pushed)

pub returns : goal.returns
returns c =
    let l = c.loop-left in
    let none : c.args.count - l._left ≡ 0 = omega (arith, c.loop-left-test.false) in
    l.invariant ∙ ap (λ (n : ℕ). behind_turns l.turns.items (turns_of c.args.total c.args.numbered c.args.connections n l.rest.now)) none
    ∙ last_turn c.args.total c.args.numbered c.args.connections l.rest.now l.turns.items
