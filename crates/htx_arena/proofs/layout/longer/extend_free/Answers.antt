use Rattle.std.proofs.Common.{◌≡◌, ◌+◌, ◌∙◌, subst, sym, ap, List, ℕ, length, arith, refl}
use Rattle.std.specs.Prelude.{insert}
use Rattle.htx_arena.specs.declared.space.space.Desc.{Desc}
use Rattle.htx_arena.specs.Space.Windows.{window}
use Rattle.htx_arena.proofs.SpaceLemmas.PublicLaws.{length-window}
use Rattle.htx_arena.specs.Layout.Raw.{Tells, info_len, block_of, blocks_of, addrs_of}
use Rattle.htx_arena.specs.Layout.Moves.{CanPlace}
use Rattle.htx_arena.specs.Layout.Sound.{IsLaid}
use Rattle.htx_arena.proofs.LayoutLemmas.RawLemmas.{blocks_of-placed, addrs_of-placed, length-placed}
use Rattle.htx_arena.proofs.LayoutLemmas.EachLemmas.{IsLaid-placed}
use Rattle.htx_arena.proofs.LayoutLemmas.ExtendLemmas.{kept_blocks, kept_addrs, kept_told, kept_filled, kept_site, free_can}
use Rattle.htx_arena.proofs.layout.longer.extend_free.Goals as goal

pub list-requires : goal.list-requires
list-requires c = free_can c.args.space.now c.fill.new.space c.args.count c.args.at (info_len c.args.new.info.0) c.args.new.info.0 c.args.spot c.requires.laid.sound c.fill.ensures.kept c.requires.site c.requires.within refl (omega arith) (omega arith)

pub returns : goal.returns
returns c =
    let raw = c.args.space.now in
    let n = c.args.count in
    let i = c.args.at in
    let new = c.fill.new.space in
    let s = c.args.spot in
    let l = c.args.new in
    let info = l.info.0 in
    let d : Desc = record { addr = s.addr; info = info } in
    let piece = window new s.addr (info_len info) in
    let kept = c.fill.ensures.kept in
    let there = c.fill.ensures.there in
    let size = kept.size in
    let laid = c.requires.laid in
    let most = laid.most in
    let some = c.requires.longer.some in
    let len = c.requires.longer.len in
    let room = c.requires.site.opens.room in
    let long : length piece ≡ info_len info = length-window new s.addr (info_len info) (omega arith) in
    let can : CanPlace new n i d piece = free_can raw new n i (info_len info) info s laid.sound kept c.requires.site c.requires.within refl (omega arith) (omega arith) in
    let site = kept_site raw new n (info_len info) s kept c.requires.site in
    let tells : Tells info piece = subst (Tells info) (sym there) c.requires.longer.tells in
    record {
      blocks = ap (λ (x : List ℕ). blocks_of x (n + 1)) c.list.ensures ∙ blocks_of-placed new n i d piece can ∙ (λ j. insert (kept_blocks raw new n kept j) i (block_of info (there j)));
      addrs = ap (λ (x : List ℕ). addrs_of x (n + 1)) c.list.ensures ∙ addrs_of-placed new n i d piece can ∙ ap (λ (b : List ℕ). insert b i s.addr) (kept_addrs raw new n kept);
      laid = subst (λ (x : List ℕ). IsLaid x (n + 1) s.front) (sym c.list.ensures) (IsLaid-placed new n i (info_len info) info 0 piece s site can (kept_told raw new n kept laid.told) (kept_filled raw new n kept laid.filled) (omega arith) (sym long) (omega arith) tells);
      size = ap length c.list.ensures ∙ length-placed new n i d piece can ∙ size;
    }
