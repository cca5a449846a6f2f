use Rattle.std.proofs.Common.{◌≡◌, ◌+◌, ◌-◌, ◌++◌, ◌∙◌, subst, sym, ap, ℕ, length, arith, sum_by}
use Rattle.std.specs.Prelude.{insert, remove}
use Rattle.htx_model.specs.Block.{payload_len}
use Rattle.htx_arena.specs.Layout.Raw.{info_len, block_in, block_of, blocks_of, addrs_of}
use Rattle.htx_arena.specs.Layout.Sound.{IsLaid, IsTop, IsKnown}
use Rattle.htx_arena.specs.Layout.Place.{Layout, layout}
use Rattle.htx_arena.specs.Layout.Longer.{longer_bytes}
use Rattle.htx_arena.proofs.LayoutLemmas.RawLemmas.{length-listed}
use Rattle.htx_arena.proofs.LayoutLemmas.CarryLemmas.{insert-remove}
use Rattle.htx_arena.proofs.LayoutLemmas.ExtendLemmas.{gone}
use Rattle.htx_arena.proofs.LayoutLemmas.TopLemmas.{top_gone}
use Rattle.htx_arena.proofs.LayoutLemmas.KnownLemmas.{known_gone}
use Rattle.htx_arena.proofs.layout.longer.extend.Goals as goal

pub ends_behind-rest-requires : goal.ends_behind-rest-requires
ends_behind-rest-requires c =
    let raw = c.args.space.now in
    let laid = c.unlist.ensures.laid c.args.ends.front c.requires.laid in
    let end = c.end_at-end.ensures.value in
    let told = (c.requires.laid.told.told c.args.at c.requires.within).len in
    record {
      laid = laid;
      stayed = λ below. top_gone raw c.unlist.new.space c.args.count c.args.at c.args.ends.top c.args.ends.front c.requires.laid.told c.requires.topped c.requires.within c.unlist.ensures.blocks c.unlist.ensures.addrs laid (omega arith);
      known = known_gone raw c.unlist.new.space c.args.count c.args.ends.front c.args.new.from c.args.at c.args.ends.low c.low_without-low.result c.requires.known c.requires.within c.requires.own c.unlist.ensures.addrs c.low_without-low.ensures.kept c.low_without-low.ensures.below;
    }

pub refit-requires : goal.refit-requires
refit-requires c =
    let g = gone c.args.space.now c.unlist.new.space c.args.count c.args.at c.args.ends.front c.args.new c.requires.laid c.requires.within c.requires.longer c.requires.own c.requires.part c.unlist.ensures.is in
    let within = c.requires.within in
    let size = g.size in
    let fits = c.requires.fits in
    let sum = ap (sum_by payload_len) c.unlist.ensures.blocks in
    let r = c.ends_behind-rest.ensures in
    record { laid = r.laid; topped = r.topped; known = r.known; longer = g.longer; opens = g.opens; within = omega arith; fits = omega arith }

pub returns : goal.returns
returns c =
    let raw = c.args.space.now in
    let n = c.args.count in
    let i = c.args.at in
    let info = c.args.new.info.0 in
    let within = c.requires.within in
    let back : n - 1 + 1 ≡ n = omega arith in
    let g = gone c.args.space.now c.unlist.new.space c.args.count c.args.at c.args.ends.front c.args.new c.requires.laid c.requires.within c.requires.longer c.requires.own c.requires.part c.unlist.ensures.is in
    let u = c.unlist.ensures in
    let e = c.refit.ensures in
    let new = c.refit.new.space in
    let is : layout (length c.unlist.new.space) (blocks_of c.unlist.new.space (n - 1)) (addrs_of c.unlist.new.space (n - 1)) c.ends_behind-rest.result.front (info_len info) ≡ layout (length raw) (remove (blocks_of raw n) i) (remove (addrs_of raw n) i) c.args.ends.front (info_len info) =
    (λ j. layout (g.size j) (u.blocks j) (u.addrs j) (c.ends_behind-rest.ensures.front j) (info_len info)) in
    record {
      blocks = ap (blocks_of new) (sym back) ∙ e.blocks ∙ (λ j. insert (u.blocks j) i (block_of info (g.own j ++ c.args.new.more.now))) ∙ insert-remove (blocks_of raw n) i (block_of info (longer_bytes raw c.args.new)) (omega (arith, length-listed (block_in raw) n));
      addrs = ap (addrs_of new) (sym back) ∙ e.addrs ∙ ap (λ (l : Layout). insert l.addrs i l.addr) is;
      front = e.front ∙ ap (λ (l : Layout). l.front) is;
      laid = subst (λ (m : ℕ). IsLaid new m c.refit.result.front) back e.laid;
      topped = subst (λ (m : ℕ). IsTop new m c.refit.result.top) back e.topped;
      known = subst (λ (m : ℕ). IsKnown new m c.refit.result.front c.refit.result.low) back e.known;
      size = e.size ∙ g.size;
    }
