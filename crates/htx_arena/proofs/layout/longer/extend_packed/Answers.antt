use Rattle.std.proofs.Common.{◌≡◌, ◌+◌, ◌++◌, ◌∙◌, subst, sym, ap, List, ℕ, arith, set, sum_by}
use Rattle.std.specs.Prelude.{insert, remove}
use Rattle.std.proofs.lemmas.List.Sums.{sum_by-insert}
use Rattle.htx_model.specs.Block.{Block, payload_len}
use Rattle.htx_arena.specs.Layout.Raw.{Tells, block_in, addr_in, block_of, blocks_of, addrs_of, payload_in}
use Rattle.htx_arena.specs.Layout.Place.{packed}
use Rattle.htx_arena.specs.Layout.Longer.{kept_bytes}
use Rattle.htx_arena.proofs.LayoutLemmas.RawLemmas.{length-listed}
use Rattle.htx_arena.proofs.LayoutLemmas.ExtendLemmas.{relisted, can_relist, set-insert, remove-insert}
use Rattle.htx_arena.proofs.layout.longer.extend_packed.Goals as goal

pub list-requires : goal.list-requires
list-requires c = can_relist c.args.space.now c.args.count c.args.at c.args.new c.requires.laid c.requires.opens c.requires.within (omega arith) (omega arith)

pub renew-requires : goal.renew-requires
renew-requires c =
    let l = c.args.new in
    let r = relisted c.args.space.now c.list.new.space c.args.count c.args.at l c.requires.laid c.requires.longer c.requires.opens c.requires.within (omega arith) (omega arith) c.list.ensures in
    let within = c.requires.within in
    let size = r.size in
    let len = r.len in
    let told = c.requires.longer.len in
    let fits = c.requires.fits in
    let tells = c.requires.longer.kept_tells.len in
    let sum = ap (sum_by payload_len) r.blocks ∙ sum_by-insert payload_len (blocks_of c.args.space.now c.args.count) c.args.at (block_of l.kept.0 (kept_bytes c.args.space.now l)) in
    record {
      laid = r.laid;
      within = omega arith;
      fits = omega arith;
      len = omega arith;
      told = subst (λ (p : List ℕ). Tells l.info.0 (p ++ l.more.now)) (sym r.payload) c.requires.longer.tells;
    }

pub returns : goal.returns
returns c =
    let new = c.list.new.space in
    let l = c.args.new in
    let raw = c.args.space.now in
    let n = c.args.count in
    let i = c.args.at in
    let r = relisted raw new n i l c.requires.laid c.requires.longer c.requires.opens c.requires.within (omega arith) (omega arith) c.list.ensures in
    let within = c.requires.within in
    let b0 = block_of l.kept.0 (kept_bytes raw l) in
    let bs = length-listed (block_in raw) n in
    let xs = length-listed (addr_in raw) n in
    let bs_back : remove (blocks_of new (n + 1)) i ≡ blocks_of raw n = ap (λ (b : List Block). remove b i) r.blocks ∙ remove-insert (blocks_of raw n) i b0 (omega arith) in
    let xs_back : remove (addrs_of new (n + 1)) i ≡ addrs_of raw n = ap (λ (a : List ℕ). remove a i) r.addrs ∙ remove-insert (addrs_of raw n) i l.from (omega arith) in
    record {
      blocks =
          c.renew.ensures.blocks
          ∙ ap (λ (b : List Block). set b i (block_of l.info.0 (payload_in new i ++ l.more.now))) r.blocks
          ∙ set-insert (blocks_of raw n) i b0 (block_of l.info.0 (payload_in new i ++ l.more.now)) (omega arith)
          ∙ ap (λ (p : List ℕ). insert (blocks_of raw n) i (block_of l.info.0 (p ++ l.more.now))) r.payload;
      addrs = c.renew.ensures.addrs ∙ (λ j. insert (packed (bs_back j) (xs_back j)) i (sum_by payload_len (bs_back j)));
      laid = c.renew.ensures.laid;
      topped = c.renew.ensures.topped;
      size = c.renew.ensures.size ∙ r.size;
    }
