use Rattle.std.proofs.Common.{rules, ◌≡◌, ℕ, List, Some, None, sym, subst, ◌∙◌}
use Rattle.px_link.specs.Net.{address_of}
use Rattle.px_link.specs.Turns.{first_of, rest_of}
use Rattle.px_link.specs.declared.turns.Turn.{Turn}
use Rattle.htx_drive.specs.Weave.All.{AllAt}
use Rattle.htx_drive.proofs.WeaveLemmas.All.{none_left, head_is, rest_within}
use Rattle.htx_drive.proofs.weave.all.by_list.Goals as goal

pub returns-in_default-clause-at : goal.returns-in_default-clause-at
returns-in_default-clause-at g c = λ cfg prompt turns firsts budget all.
    let none : first_of (g.W.Weft.left c.turns.weft) ≡ None = search rules in
    subst (λ (l : List (ℕ × Turn)). AllAt (g.C.Machine.meaning cfg) (g.C.Machine.stands cfg) g.C.Machine.seen g.C.Machine.sound g.L.Link.seen g.L.Link.wrote g.N.Net.seen (address_of c.args.to.now) prompt turns l firsts c.turns.conns c.turns.pool budget c.turns.resources.left) (none_left _ none) (c.turns.invariant.at cfg prompt turns firsts budget all)

pub turns-preserved : goal.turns-preserved
turns-preserved g c =
    let left : List (ℕ × Turn) = g.W.Weft.left c.turns.weft in
    let some : first_of left ≡ Some (c.in-Some.number, c.in-Some.turn) = search rules in
    record {
      within = rest_within _ _ left _ c.in-Ok.ensures.length c.next.ensures.rest c.turns.invariant.within;
      may = c.in-Ok.ensures.may;
      len = c.in-Ok.ensures.length ∙ c.turns.invariant.len;
      sets = c.in-Ok.ensures.sets ∙ c.turns.invariant.sets;
      at = λ cfg prompt turns firsts budget all.
          subst (λ (l : List (ℕ × Turn)). AllAt (g.C.Machine.meaning cfg) (g.C.Machine.stands cfg) g.C.Machine.seen g.C.Machine.sound g.L.Link.seen g.L.Link.wrote g.N.Net.seen (address_of c.args.to.now) prompt turns l firsts c.move_at.new.conns c.move_at.new.pool budget c.move_at.new.resources.left) (sym c.next.ensures.rest)
          (c.in-Ok.ensures.at left (rest_of left, head_is left _ some) cfg prompt turns firsts budget (c.turns.invariant.at cfg prompt turns firsts budget all));
    }

pub returns-in-Err-clause-halted : goal.returns-in-Err-clause-halted
returns-in-Err-clause-halted g c = λ cfg prompt turns firsts budget all.
    let left : List (ℕ × Turn) = g.W.Weft.left c.turns.weft in
    let some : first_of left ≡ Some (c.in-Some.number, c.in-Some.turn) = search rules in
    c.in-Err.ensures.halted left (rest_of left, head_is left _ some) cfg prompt turns firsts budget (c.turns.invariant.at cfg prompt turns firsts budget all)
