use Rattle.std.proofs.Common.{refl, ap, subst, ◌∙◌, arith}
use Rattle.htx_model.specs.Block.{kind_of, value_of, HasValue}
use Rattle.htx_model.specs.Blocks.{block_at}
use Rattle.htx_arena.proofs.LayoutLemmas.ValueLemmas.{value_fits}
use Rattle.htx_arena.proofs.LayoutLemmas.LentLemmas.{window_is_value, blocks_lent, addrs_lent}
use Rattle.htx_arena.specs.Layout.Contents.{Contents}
use Rattle.htx_arena.proofs.LayoutLemmas.WholeLemmas.{at}
use Rattle.htx_arena.proofs.LayoutLemmas.WrittenLemmas.{written_same, whole_lent}
use Rattle.htx_arena.proofs.layout.array.Array.value_mut.Goals as goal

pub window_mut-requires : goal.window_mut-requires
window_mut-requires c =
    let a = c.self.inside in
    let t = at a c.args.self.now c.args.at c.self.invariant c.self.view_is c.requires.within in
    let fits = value_fits a.space a.count c.args.at c.self.invariant.laid.sound t.small in
    let span = c.value_place-start.ensures in
    let start = span.start in
    let len = span.len in
    omega arith

pub invariant_of-self-lent : goal.invariant_of-self-lent
invariant_of-self-lent c = λ w.
    let a = c.self.inside in
    let t = at a c.args.self.now c.args.at c.self.invariant c.self.view_is c.requires.within in
    let valued = subst HasValue (ap kind_of t.block) c.requires.valued in
    let span = c.value_place-start in
    whole_lent a c.args.at span.result.0 span.result.1 w c.self.invariant t.small valued span.ensures.start span.ensures.len

pub returns : goal.returns
returns c =
    let a = c.self.inside in
    let view = c.self.view_is in
    let i = c.args.at in
    let t = at a c.args.self.now i c.self.invariant view c.requires.within in
    let small = t.small in
    let valued = subst HasValue (ap kind_of t.block) c.requires.valued in
    let span = c.value_place-start in
    let start = span.result.0 in
    let len = span.result.1 in
    let sound = c.self.invariant.laid.sound in
    let s = span.ensures.start in
    let l = span.ensures.len in (
      (
        refl,
        λ w.
            let rest = addrs_lent a.space a.count i start len w sound small valued s l in
            let new = blocks_lent a.space a.count i start len w sound small valued s l in
            rw (← view) (λ j. record { size = rest.1 j; blocks = new j; addrs = rest.0 j; front = a.ends.front }),
      ),
      record {
        written = tt;
        value = c.window_mut.ensures.value ∙ window_is_value a.space a.count i start len small valued s l ∙ ap (λ (x : Contents). value_of (block_at x.blocks i)) view;
        same_len = written_same c.args.self.now i;
      },
    )
