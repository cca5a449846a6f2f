use Rattle.std.proofs.Common.{subst, sym, ap, arith, ◌∙◌, refl, Some, None}
use Rattle.htx_arena.specs.Layout.Place.{Layout}
use Rattle.htx_arena.proofs.LayoutLemmas.SpotLemmas.{IsSpotFor, layout_is, spot_is, top_is_site}
use Rattle.htx_arena.proofs.LayoutLemmas.MoveLemmas.{shifted_told, shifted_filled, shifted_blocks}
use Rattle.htx_arena.proofs.LayoutLemmas.KnownLemmas.{unknown}
use Rattle.htx_arena.proofs.layout.sites.site.Goals as goal

pub returns-in-Some : goal.returns-in-Some
returns-in-Some c =
    let raw = c.args.space.now in
    let laid = c.requires.laid in
    let is = sym (layout_is raw c.args.count c.args.ends.front c.args.len (Some c.in-Some.spot) c.in-Some.ensures) in
    record {
      blocks = refl;
      addrs = ap (λ (l : Layout). l.addrs) is;
      addr = ap (λ (l : Layout). l.addr) is;
      front = ap (λ (l : Layout). l.front) is;
      sound = laid.sound;
      told = laid.told;
      filled = laid.filled;
      site = subst (IsSpotFor raw c.args.count c.args.len) (sym c.in-Some.ensures) (spot_is raw c.args.count c.args.ends.front c.args.len laid.told laid.parted);
      topped = c.requires.topped;
      known = c.low_for-low.ensures;
      size = refl;
    }

pub returns-in-None : goal.returns-in-None
returns-in-None c =
    let raw = c.args.space.now in
    let new = c.defrag-end.new.space in
    let n = c.args.count in
    let d = c.defrag-end.ensures in
    let is = sym (layout_is raw n c.args.ends.front c.args.len None c.in-None.ensures) in
    let size = d.shifted.size in
    let fits = c.requires.fits in
    let total = d.total in
    record {
      blocks = shifted_blocks raw new n d.shifted;
      addrs = d.addrs ∙ ap (λ (l : Layout). l.addrs) is;
      addr = d.total ∙ ap (λ (l : Layout). l.addr) is;
      front = ap (λ (l : Layout). l.front) is;
      sound = d.sound;
      told = shifted_told raw new n d.shifted c.requires.laid.told;
      filled = shifted_filled raw new n d.shifted c.requires.laid.filled;
      site = top_is_site new n c.args.len c.defrag-end.result d.up_to (omega arith);
      topped = d.topped;
      known = unknown _ _ _;
      size = size;
    }
