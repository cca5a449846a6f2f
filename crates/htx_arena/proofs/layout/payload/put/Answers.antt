use Rattle.std.proofs.Common.{◌+◌, ◌∙◌, ap, List, ℕ, length, arith}
use Rattle.htx_arena.specs.Space.Windows.{overwritten}
use Rattle.htx_arena.proofs.LayoutLemmas.PieceLemmas.{overwritten_four, length-four}
use Rattle.htx_arena.proofs.layout.payload.put.Goals as goal

pub overflow_add-to : goal.overflow_add-to
overflow_add-to c =
    let p = c.payload.inside in
    let long = length-four p.head.now p.first.now p.second.now p.third.now in
    let all = ap length c.payload.view_is in
    omega (arith, c.requires.inside, c.requires.small)

pub overflow_add-to-2 : goal.overflow_add-to-2
overflow_add-to-2 c =
    let p = c.payload.inside in
    let long = length-four p.head.now p.first.now p.second.now p.third.now in
    let all = ap length c.payload.view_is in
    omega (arith, c.requires.inside, c.requires.small)

pub overflow_add-to-3 : goal.overflow_add-to-3
overflow_add-to-3 c =
    let p = c.payload.inside in
    let long = length-four p.head.now p.first.now p.second.now p.third.now in
    let all = ap length c.payload.view_is in
    omega (arith, c.requires.inside, c.requires.small)

pub returns : goal.returns
returns c =
    let raw = c.args.space.now in
    let at = c.args.at in
    let p = c.payload.inside in
    let h = p.head.now in
    let f = p.first.now in
    let g = p.second.now in
    let t = p.third.now in
    let long = length-four h f g t in
    let all = ap length c.payload.view_is in
    let inside = c.requires.inside in
    let second = c.put-2.ensures ∙ ap (λ (s : List ℕ). overwritten s (at + length h) f) c.put.ensures in
    let third = c.put-3.ensures ∙ ap (λ (s : List ℕ). overwritten s (at + length h + length f) g) second in
    let fourth = c.put-4.ensures ∙ ap (λ (s : List ℕ). overwritten s (at + length h + length f + length g) t) third in
    fourth ∙ overwritten_four raw at h f g t (omega arith) ∙ ap (overwritten raw at) c.payload.view_is
