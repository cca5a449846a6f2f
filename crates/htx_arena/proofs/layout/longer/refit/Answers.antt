use Rattle.std.proofs.Common.{◌≡◌, ◌+◌, ◌∙◌, subst, sym, ap, ℕ, List, length, Option, Some, None, max}
use Rattle.std.specs.Prelude.{insert}
use Rattle.htx_arena.specs.Layout.Raw.{info_len, block_of, blocks_of, addrs_of}
use Rattle.htx_arena.specs.Layout.Place.{Layout, layout, layout_by, spot}
use Rattle.htx_arena.specs.Layout.Moves.{IsSite}
use Rattle.htx_arena.specs.Layout.Sound.{IsLaid, IsTop, IsKnown}
use Rattle.htx_arena.specs.declared.layout.scan.Spot.{Spot}
use Rattle.htx_arena.specs.Layout.Longer.{longer_bytes}
use Rattle.htx_arena.proofs.LayoutLemmas.TopLemmas.{top_placed}
use Rattle.htx_arena.proofs.LayoutLemmas.KnownLemmas.{unknown, known_placed}
use Rattle.htx_arena.proofs.LayoutLemmas.SpotLemmas.{IsSpotFor, spot_is, layout_is}
use Rattle.htx_arena.proofs.LayoutLemmas.ExtendLemmas.{laid_zero}
use Rattle.htx_arena.proofs.layout.longer.refit.Goals as goal

pub extend_free-requires : goal.extend_free-requires
extend_free-requires c =
    let raw = c.args.space.now in
    let n = c.args.count in
    let site : IsSite raw n c.payload_len-len.result c.in-Some.spot = subst (IsSpotFor raw n c.payload_len-len.result) (sym c.in-Some.ensures) (spot_is raw n c.args.ends.front c.payload_len-len.result c.requires.laid.told c.requires.laid.parted) in
    record {
      laid = laid_zero raw n c.args.ends.front c.requires.laid;
      longer = c.requires.longer;
      site = subst (λ (l : ℕ). IsSite raw n l c.in-Some.spot) c.payload_len-len.ensures site;
      within = c.requires.within;
    }

pub extend_packed-requires : goal.extend_packed-requires
extend_packed-requires c = record {
  laid = laid_zero c.args.space.now c.args.count c.args.ends.front c.requires.laid;
  longer = c.requires.longer;
  opens = c.requires.opens;
  within = c.requires.within;
  fits = c.requires.fits;
}

-- the layout by a spot for as many bytes
laid_by : (raw : List ℕ) (n front len m : ℕ) (o : Option Spot) → len ≡ m → o ≡ spot (length raw) (blocks_of raw n) (addrs_of raw n) front len (n + 1) → layout (length raw) (blocks_of raw n) (addrs_of raw n) front m ≡ layout_by o (blocks_of raw n) (addrs_of raw n)
laid_by raw n front len m o e is = ap (layout (length raw) (blocks_of raw n) (addrs_of raw n) front) (sym e) ∙ layout_is raw n front len o is

pub returns-in-Some : goal.returns-in-Some
returns-in-Some c =
    let l = c.args.new in
    let len = c.payload_len-len.ensures in
    let place = c.in-Some.spot in
    let is = laid_by c.args.space.now c.args.count c.args.ends.front c.payload_len-len.result (info_len l.info.0) (Some place) len c.in-Some.ensures in
    let e = c.extend_free.ensures in
    let topped = top_placed c.args.space.now c.extend_free.new.space c.args.count c.args.at c.args.ends.top place.front place.addr (block_of l.info.0 (longer_bytes c.args.space.now l)) c.requires.topped c.requires.within e.blocks e.addrs e.laid in
    let r = c.ends_with.ensures in
    let most = r.top ∙ ap (λ (k : ℕ). max c.args.ends.top (place.addr + k)) (len ∙ sym c.requires.longer.tells.len) in
    record {
      blocks = e.blocks;
      addrs = e.addrs ∙ sym (ap (λ (x : Layout). insert x.addrs c.args.at x.addr) is);
      front = r.front ∙ sym (ap (λ (x : Layout). x.front) is);
      laid = subst (IsLaid c.extend_free.new.space (c.args.count + 1)) (sym r.front) e.laid;
      topped = subst (IsTop c.extend_free.new.space (c.args.count + 1)) (sym most) topped;
      known = subst (λ (x : ℕ). IsKnown c.extend_free.new.space (c.args.count + 1) x c.ends_with.result.low) (sym r.front) (known_placed c.args.space.now c.extend_free.new.space c.args.count c.args.at (record { front = c.args.ends.front; top = c.args.ends.top; low = c.low_for-low.result }) place c.ends_with.result.low c.low_for-low.ensures c.requires.within e.addrs r.low);
      size = e.size;
    }

pub returns-in-None : goal.returns-in-None
returns-in-None c =
    let is = laid_by c.args.space.now c.args.count c.args.ends.front c.payload_len-len.result (info_len c.args.new.info.0) None c.payload_len-len.ensures c.in-None.ensures in
    let e = c.extend_packed.ensures in
    record {
      blocks = e.blocks;
      addrs = e.addrs ∙ sym (ap (λ (x : Layout). insert x.addrs c.args.at x.addr) is);
      front = sym (ap (λ (x : Layout). x.front) is);
      laid = e.laid;
      topped = e.topped;
      known = unknown _ _ _;
      size = e.size;
    }
