use Rattle.std.proofs.Common.{◌+◌, ◌∙◌, subst, sym, ap, max, ℕ, List, length, arith}
use Rattle.std.specs.Prelude.{insert}
use Rattle.htx_arena.specs.Layout.Raw.{blocks_of, addrs_of}
use Rattle.htx_arena.specs.Layout.Place.{Layout, layout}
use Rattle.htx_arena.specs.Layout.Sound.{IsLaid, IsTop, IsKnown}
use Rattle.htx_arena.proofs.LayoutLemmas.TopLemmas.{top_placed}
use Rattle.htx_arena.proofs.LayoutLemmas.KnownLemmas.{known_placed}
use Rattle.htx_arena.proofs.LayoutLemmas.EachLemmas.{can_place, IsLaid-placed}
use Rattle.htx_arena.proofs.LayoutLemmas.CodeLemmas.{described}
use Rattle.htx_arena.proofs.layout.sites.add.Goals as goal

pub place-requires-clause-can : goal.place-requires-clause-can
place-requires-clause-can c =
    let s = c.site-found.result.spot in
    let m = described c.args.new.now c.info-info.result.0 c.payload.result.now c.info-info.ensures c.payload.ensures in
    let site = c.site-found.ensures.site in
    let size = c.site-found.ensures.size in
    let most = c.requires.laid.most in
    can_place c.site-found.new.space c.args.count c.args.at c.len.result c.info-info.result.0 c.payload.result.now s c.site-found.ensures.sound site c.requires.within (m.len ∙ sym m.long) (c.len.ensures.len ∙ sym m.long) (omega arith) (omega arith)

pub returns : goal.returns
returns c =
    let s = c.site-found.result.spot in
    let raw = c.site-found.new.space in
    let n = c.args.count in
    let i = c.args.at in
    let b = c.args.new.now in
    let m = described b c.info-info.result.0 c.payload.result.now c.info-info.ensures c.payload.ensures in
    let p = c.place.ensures in
    let f = c.site-found.ensures in
    let room = f.size in
    let most_raw = c.requires.laid.most in
    let opens = f.site.opens.room in
    let some = c.len.ensures.some in
    let can = can_place raw n i c.len.result c.info-info.result.0 c.payload.result.now s f.sound f.site c.requires.within (m.len ∙ sym m.long) (c.len.ensures.len ∙ sym m.long) (omega arith) (omega arith) in
    let laid : IsLaid c.place.new.space (n + 1) s.front = subst (λ (x : List ℕ). IsLaid x (n + 1) s.front) (sym p.is)
    (IsLaid-placed raw n i c.len.result c.info-info.result.0 c.args.ends.front c.payload.result.now s f.site can f.told f.filled (omega arith) (c.len.ensures.len ∙ sym m.long) (omega arith) m.tells) in
    let old = c.args.space.now in
    let places : ℕ → Layout = layout (length old) (blocks_of old n) (addrs_of old n) c.args.ends.front in
    let len = c.len.ensures.len in
    let topped = top_placed raw c.place.new.space n i c.site-found.result.ends.top s.front s.addr b f.topped c.requires.within (p.blocks ∙ ap (insert (blocks_of raw n) i) m.is) p.addrs laid in
    let e = c.ends_with.ensures in
    record {
      blocks = p.blocks ∙ (λ j. insert (f.blocks j) i (m.is j));
      addrs = p.addrs ∙ (λ j. insert (f.addrs j) i (f.addr j)) ∙ ap (λ (k : ℕ). insert (places k).addrs i (places k).addr) len;
      front = e.front ∙ f.front ∙ ap (λ (k : ℕ). (places k).front) len;
      laid = subst (IsLaid c.place.new.space (n + 1)) (sym e.front) laid;
      topped = subst (IsTop c.place.new.space (n + 1)) (sym (e.top ∙ ap (λ (k : ℕ). max c.site-found.result.ends.top (s.addr + k)) c.len-2.ensures.len)) topped;
      known = subst (λ (x : ℕ). IsKnown c.place.new.space (n + 1) x c.ends_with.result.low) (sym e.front) (known_placed raw c.place.new.space n i c.site-found.result.ends s c.ends_with.result.low f.known c.requires.within p.addrs e.low);
      size = p.size ∙ f.size;
    }
