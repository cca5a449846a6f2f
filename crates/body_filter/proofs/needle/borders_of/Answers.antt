use Rattle.std.proofs.Common.{◌≡◌, ◌+◌, ◌++◌, ◌∷◌, ℕ, List, [], take, length, sym, ap, ◌∙◌, arith, subst, replicate, get_or}
use Rattle.std.specs.Prelude.{slice_index}
use Rattle.std.proofs.lemmas.List.{get_or-replicate, length-set, length-replicate}
use Rattle.std.proofs.lemmas.Grind.{get_or_default_zero}
use Rattle.body_filter.specs.Kept.{kept, border, AreBorders}
use Rattle.body_filter.proofs.Keeping.{border_less, border_next}
use Rattle.body_filter.proofs.Tables.{table_start, table_less, table_more}
use Rattle.body_filter.proofs.needle.borders_of.Goals as goal

pub loop-at-init : goal.loop-at-init
loop-at-init c =
    let is : c.in_ok-borders.borders.items ≡ replicate (length c.args.needle.now + 1) 0 = c.in_ok-borders.ensures.items_if_clones_equal (λ y h. h) in
    let first : slice_index c.in_ok-borders.borders.items 1 ≡ 0 = ap (λ bs. get_or bs 1 0) is ∙ get_or-replicate (length c.args.needle.now + 1) 1 0 0 (omega (arith, c.requires.some)) in
    let size : length c.in_ok-borders.borders.items ≡ length c.args.needle.now + 1 = ap length is ∙ length-replicate (length c.args.needle.now + 1) 0 in
    record {
      size = size;
      table = table_start c.args.needle.now c.in_ok-borders.borders.items c.requires.some size first;
    }

pub longer-next-requires-clause-kept : goal.longer-next-requires-clause-kept
longer-next-requires-clause-kept c =
    let n : List ℕ = c.args.needle.now in
    let is : c.index-kept.result.now ≡ border n c.loop-at.at = c.index-kept.ensures ∙ get_or_default_zero c.loop-at.borders.items c.loop-at.at c.index-kept.result.now (omega (arith, c.loop-at.invariant.size)) ∙ c.loop-at.invariant.table.each c.loop-at.at (omega arith) (omega arith) in
    omega (arith, is, border_less n c.loop-at.at (omega arith) (omega arith))

pub longer-next-requires-clause-borders : goal.longer-next-requires-clause-borders
longer-next-requires-clause-borders c =
    let n : List ℕ = c.args.needle.now in
    let is : c.index-kept.result.now ≡ border n c.loop-at.at = c.index-kept.ensures ∙ get_or_default_zero c.loop-at.borders.items c.loop-at.at c.index-kept.result.now (omega (arith, c.loop-at.invariant.size)) ∙ c.loop-at.invariant.table.each c.loop-at.at (omega arith) (omega arith) in
    subst (λ (bs : List ℕ). AreBorders n bs c.index-kept.result.now) (sym c.deref.ensures.value)
    (table_less n c.loop-at.borders.items c.loop-at.at c.index-kept.result.now (omega (arith, is, border_less n c.loop-at.at (omega arith) (omega arith))) c.loop-at.invariant.table)

pub loop-at-preserved : goal.loop-at-preserved
loop-at-preserved c =
    let n : List ℕ = c.args.needle.now in
    let is : c.index-kept.result.now ≡ border n c.loop-at.at = c.index-kept.ensures ∙ get_or_default_zero c.loop-at.borders.items c.loop-at.at c.index-kept.result.now (omega (arith, c.loop-at.invariant.size)) ∙ c.loop-at.invariant.table.each c.loop-at.at (omega arith) (omega arith) in
    let value : c.longer-next.result ≡ border n (c.loop-at.at + 1) =
    c.longer-next.ensures ∙ ap (λ k. length (kept n (take k n ++ get_or n c.loop-at.at 0 ∷ []))) is ∙ sym (border_next n c.loop-at.at (omega arith) (omega arith)) in
    record {
      size = length-set c.loop-at.borders.items (c.loop-at.at + 1) c.longer-next.result ∙ c.loop-at.invariant.size;
      table = table_more n c.loop-at.borders.items c.loop-at.at c.longer-next.result (omega (arith, c.loop-at.invariant.size)) value c.loop-at.invariant.table;
    }
