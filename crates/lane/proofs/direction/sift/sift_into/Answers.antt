use Rattle.std.proofs.Common.{◌++◌, List, sym, ap, ◌∙◌, subst}
use Rattle.htx_model.specs.Block.{Block}
use Rattle.htx_model.specs.Blocks.{Fits}
use Rattle.h1_body.specs.Trailers.{trailer_blocks}
use Rattle.lane.specs.Direction.Coming.{Comes}
use Rattle.lane.specs.declared.direction.sift.Came.{Came}
use Rattle.lane.proofs.DirectionLemmas.SiftLemmas.{comes}
use Rattle.lane.proofs.direction.sift.sift_into.Goals as goal

pub returns-then-is_accepted-clause-comes : goal.returns-then-is_accepted-clause-comes
returns-then-is_accepted-clause-comes c = λ filters found passed has. (
  c.is_accepted.ensures.accepted c.if-is_accepted.true,
  c.add_section.ensures.same,
  λ trailers are fits. c.add_section.ensures.added trailers are (subst (λ (bs : List Block). Fits (bs ++ trailer_blocks trailers) c.args.to.now.size) (sym c.requires.empty) fits)
      ∙ ap (λ (bs : List Block). bs ++ trailer_blocks trailers) c.requires.empty,
)

pub returns-clause-comes : goal.returns-clause-comes
returns-clause-comes c =
    let old = c.args.sieve.now in
    let new = c.sift.new.self in
    let size = c.args.to.now.size in
    let blocks = c.sift.new.to.blocks in
    subst (λ (a : Came). Comes a size old new blocks) (sym c.came_by.ensures) (comes c.sift.result size old new blocks c.sift.ensures.sifts c.sift.ensures.section)
