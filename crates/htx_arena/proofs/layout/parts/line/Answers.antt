use Rattle.std.proofs.Common.{◌+◌, ◌∙◌, ap, take, drop}
use Rattle.std.proofs.lemmas.List.{drop-drop}
use Rattle.htx_arena.specs.Space.Windows.{window}
use Rattle.htx_arena.proofs.layout.parts.line.Goals as goal

pub returns-clause-third : goal.returns-clause-third
returns-clause-third c =
    let p = c.args.payload.now in
    let x = c.word-a.result in
    let y = c.word-b.result in
    let z = c.word-c.result in
    let rest = c.split_at-3.ensures.back ∙ ap (drop y) (c.split_at-2.ensures.back ∙ ap (drop x) c.split_at.ensures.back ∙ drop-drop x 12 p) ∙ drop-drop y (12 + x) p in
    ap (take z) rest ∙ (λ j. window p (12 + c.word-a.ensures j + c.word-b.ensures j) (c.word-c.ensures j))
