use Rattle.std.proofs.Common.{length, ap, ◌∙◌, arith, refl, ℕ}
use Rattle.std.specs.Prelude.{insert}
use Rattle.htx_model.specs.Block.{Block, payload_len}
use Rattle.htx_model.specs.Blocks.{block_at}
use Rattle.htx_arena.specs.Layout.Addresses.{Places, inserted}
use Rattle.htx_arena.proofs.CopyLemmas.{insert-end, load-end}
use Rattle.htx_arena.proofs.DataLemmas.{not_true}
use Rattle.htx_arena.proofs.arena.Arena.add_copy.Goals as goal

pub returns-then-len-free-clause-fits : goal.returns-then-len-free-clause-fits
returns-then-len-free-clause-fits c =
    let len = c.len.ensures.len ∙ ap payload_len c.copy-block.ensures in
    let all = load-end c.args.self.now.blocks (block_at c.args.from.now.blocks c.args.at) in
    let room = c.free.ensures.room in
    let over = c.if-len-free.true in
    (λ e. absurd (not_true e), λ fits. absurd (omega arith))

pub put-requires : goal.put-requires
put-requires c =
    let len = c.len.ensures.len in
    let room = c.free.ensures.room in
    let under = c.if-len-free.false in
    let last = c.len-2.ensures in
    record { within = omega arith; fits = omega arith }

pub returns : goal.returns
returns c =
    let s = c.args.self.now in
    let b = block_at c.args.from.now.blocks c.args.at in
    let is = c.copy-block.ensures in
    let places = ap (λ (n : ℕ). inserted s n (payload_len c.copy-block.result)) c.len-2.ensures ∙ ap (λ (x : Block). inserted s (length s.blocks) (payload_len x)) is in
    let all = load-end s.blocks b in
    let room = c.free.ensures.room in
    let under = c.if-len-free.false in
    let len = c.len.ensures.len ∙ ap payload_len is in
    let r = c.put.ensures in
    record {
      ok = r.blocks ∙ ap (λ (n : ℕ). insert s.blocks n c.copy-block.result) c.len-2.ensures ∙ ap (insert s.blocks (length s.blocks)) is ∙ insert-end s.blocks b;
      fits = (λ e. omega arith, λ fits. refl);
      full = tt;
      size = r.size;
      addrs = r.addrs ∙ ap (λ (p : Places). p.addrs) places;
      front = r.front ∙ ap (λ (p : Places). p.front) places;
    }
