use Rattle.std.proofs.Common.{◌≡◌, ◌+◌, ◌∙◌, subst, sym, ap, List, ℕ, length}
use Rattle.htx_arena.specs.Space.Windows.{window, overwritten}
use Rattle.htx_arena.specs.Layout.Raw.{info_len}
use Rattle.htx_arena.specs.Layout.Moves.{IsKept, IsOpen}
use Rattle.htx_arena.specs.Layout.Longer.{kept_bytes, longer_bytes}
use Rattle.htx_arena.proofs.LayoutLemmas.GrowLemmas.{filled_kept, filled_there}
use Rattle.htx_arena.proofs.layout.longer.fill.Goals as goal

pub returns : goal.returns
returns c =
    let raw = c.args.space.now in
    let to = c.args.to in
    let l = c.args.new in
    let keep = info_len l.kept.0 in
    let is = c.requires.longer in
    let opens : IsOpen raw c.args.count to (keep + length l.more.now) = subst (IsOpen raw c.args.count to) is.len c.requires.opens in
    let kept = c.payload_len-keep.ensures in
    let now : c.put.new.self ≡ overwritten (overwritten raw to (kept_bytes raw l)) (to + keep) l.more.now = cc in
    record {
      kept = subst (λ (s : List ℕ). IsKept raw s c.args.count) (sym now) (filled_kept raw c.args.count l.from to keep l.more.now c.requires.laid.sound opens is.source);
      there = subst (λ (s : List ℕ). window s to (info_len l.info.0) ≡ longer_bytes raw l) (sym now) (ap (window _ to) is.len ∙ filled_there raw c.args.count l.from to keep l.more.now opens is.source);
    }
