use Rattle.std.proofs.Common.{◌≡◌, ◌+◌, ◌++◌, ◌∙◌, ap, sym, subst, arith, ℕ, List, length, set, get_or}
use Rattle.htx_model.specs.Block.{payload_len}
use Rattle.htx_model.specs.Blocks.{block_at}
use Rattle.htx_arena.specs.Layout.Raw.{Tells, info_len, block_of}
use Rattle.htx_arena.specs.Layout.Addresses.{Places, placed_anew, extended, extended_by}
use Rattle.htx_arena.proofs.LayoutLemmas.WholeLemmas.{at}
use Rattle.htx_arena.proofs.LayoutLemmas.CodeLemmas.{described_len}
use Rattle.htx_arena.proofs.LayoutLemmas.PlaceLemmas.{more_small, stays_seen}
use Rattle.htx_arena.proofs.LayoutLemmas.ReplaceLemmas.{data_more}
use Rattle.htx_arena.proofs.layout.array.Array.extend_within.Goals as goal

pub overflow_cast-len : goal.overflow_cast-len
overflow_cast-len c = omega (arith, more_small c.self.inside c.args.self.now c.args.at (length c.args.piece.now) c.self.invariant c.self.view_is c.requires.within c.requires.fits)

pub extend_here-requires : goal.extend_here-requires
extend_here-requires c =
    let q = data_more (block_at c.args.self.now.blocks c.args.at) c.info-old.result.0 c.args.piece.now c.info-old.ensures.is c.requires.«data» (more_small c.self.inside c.args.self.now c.args.at (length c.args.piece.now) c.self.invariant c.self.view_is c.requires.within c.requires.fits) in
    record { within = c.requires.within; stays = sym (c.in-Some.ensures ∙ stays_seen c.self.inside c.args.self.now c.args.at (length c.args.piece.now) c.self.invariant c.self.view_is c.requires.within); len = q.sum; tells = q.tells; fits = c.requires.fits }

pub extend_anew-requires : goal.extend_anew-requires
extend_anew-requires c =
    let b = block_at c.args.self.now.blocks c.args.at in
    let q = data_more (block_at c.args.self.now.blocks c.args.at) c.info-old.result.0 c.args.piece.now c.info-old.ensures.is c.requires.«data» (more_small c.self.inside c.args.self.now c.args.at (length c.args.piece.now) c.self.invariant c.self.view_is c.requires.within c.requires.fits) in
    let info = c.info-old.result.0 in
    let piece = c.args.piece.now in
    let len = described_len b info c.info-old.ensures.is in
    let some = (at c.self.inside c.args.self.now c.args.at c.self.invariant c.self.view_is c.requires.within).some in
    let sum = q.sum in
    let fits = c.requires.fits in
    record {
      within = c.requires.within;
      some = omega arith;
      part = omega arith;
      longer = omega arith;
      kept_tells = subst (Tells info) (sym q.whole) c.info-old.ensures.is.tells;
      len = omega arith;
      tells = subst (λ (p : List ℕ). Tells (info + length piece) (p ++ piece)) (sym q.whole) q.tells;
      fits = omega arith;
    }

pub returns-in-Some : goal.returns-in-Some
returns-in-Some c =
    let now = c.args.self.now in
    let i = c.args.at in
    let q = data_more (block_at c.args.self.now.blocks c.args.at) c.info-old.result.0 c.args.piece.now c.info-old.ensures.is c.requires.«data» (more_small c.self.inside c.args.self.now c.args.at (length c.args.piece.now) c.self.invariant c.self.view_is c.requires.within c.requires.fits) in
    let places : extended now i (get_or now.addrs i 0 + payload_len (block_at now.blocks i)) (length c.args.piece.now) ≡ record { addrs = now.addrs; front = c.in-Some.front } = ap (extended_by now i (payload_len (block_at now.blocks i) + length c.args.piece.now)) (sym (c.in-Some.ensures ∙ stays_seen c.self.inside c.args.self.now c.args.at (length c.args.piece.now) c.self.invariant c.self.view_is c.requires.within)) in
    let r = c.extend_here.ensures in
    record { blocks = r.blocks ∙ ap (set now.blocks i) q.block; size = r.size; addrs = r.addrs ∙ sym (ap (λ (p : Places). p.addrs) places); front = r.front ∙ sym (ap (λ (p : Places). p.front) places) }

pub returns-in-None : goal.returns-in-None
returns-in-None c =
    let now = c.args.self.now in
    let i = c.args.at in
    let piece = c.args.piece.now in
    let k = length piece in
    let q = data_more (block_at c.args.self.now.blocks c.args.at) c.info-old.result.0 c.args.piece.now c.info-old.ensures.is c.requires.«data» (more_small c.self.inside c.args.self.now c.args.at (length c.args.piece.now) c.self.invariant c.self.view_is c.requires.within c.requires.fits) in
    let info = c.info-old.result.0 + k in
    let places : extended now i (get_or now.addrs i 0 + payload_len (block_at now.blocks i)) k ≡ placed_anew now i (info_len info) = ap (extended_by now i (payload_len (block_at now.blocks i) + k)) (sym (c.in-None.ensures ∙ stays_seen c.self.inside c.args.self.now c.args.at (length c.args.piece.now) c.self.invariant c.self.view_is c.requires.within)) ∙ ap (placed_anew now i) (sym q.sum) in
    let r = c.extend_anew.ensures in
    record {
      blocks = r.blocks ∙ (λ j. set now.blocks i (block_of info (q.whole j ++ piece))) ∙ ap (set now.blocks i) q.block;
      size = r.size;
      addrs = r.addrs ∙ sym (ap (λ (p : Places). p.addrs) places);
      front = r.front ∙ sym (ap (λ (p : Places). p.front) places);
    }
