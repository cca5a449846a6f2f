use Rattle.std.proofs.Common.{◌∙◌, arith, ◌++◌, ◌∷◌, [], take, length-append}
use Rattle.std.proofs.lemmas.List.{length-take-le}
use Rattle.body_filter.proofs.Keeping.{kept-short}
use Rattle.body_filter.proofs.Machines.{settled-some, settled-none}
use Rattle.body_filter.proofs.searcher.hold_settled.Goals as goal

pub returns-then-left-eq0-clause-items : goal.returns-then-left-eq0-clause-items
returns-then-left-eq0-clause-items c = c.put_with.ensures.items ∙ settled-none c.args.needle.now c.args.kept c.args.byte c.args.left c.requires.left c.if-left-eq0.true

pub slice_bounds-put-count : goal.slice_bounds-put-count
slice_bounds-put-count c =
    omega (
      arith,
      c.requires.left,
      kept-short c.args.needle.now (take c.args.kept c.args.needle.now ++ c.args.byte ∷ []),
      length-append (take c.args.kept c.args.needle.now) (c.args.byte ∷ []),
      length-take-le c.args.kept c.args.needle.now (omega (arith, c.requires.fits)),
    )

pub returns-clause-items : goal.returns-clause-items
returns-clause-items c = c.put.ensures.items ∙ settled-some c.args.needle.now c.args.kept c.args.byte c.args.left c.requires.fits c.requires.left (omega arith)
