use Rattle.std.proofs.Common.{◌≡◌, ◌++◌, ◌∙◌, ap, subst, List, ℕ, length, arith, inr, set, take}
use Rattle.std.proofs.lemmas.List.{take_all}
use Rattle.htx_model.specs.Block.{Block}
use Rattle.htx_arena.specs.declared.space.space.Desc.{Desc}
use Rattle.htx_arena.proofs.SpaceLemmas.PublicLaws.{length-window}
use Rattle.htx_arena.specs.Layout.Raw.{info_len, addr_in, len_in, payload_in, block_of}
use Rattle.htx_arena.specs.Layout.Sound.{IsTop}
use Rattle.htx_arena.specs.Layout.Moves.{CanRenew, IsRenewed}
use Rattle.htx_arena.proofs.LayoutLemmas.MoveLemmas.{shifted_blocks}
use Rattle.htx_arena.proofs.LayoutLemmas.GrowLemmas.{renewed_blocks, stayed_addrs, renewed_laid}
use Rattle.htx_arena.proofs.LayoutLemmas.TopLemmas.{top_longer}
use Rattle.htx_arena.proofs.layout.change.renew.Goals as goal

pub rewrite-requires-clause-can : goal.rewrite-requires-clause-can
rewrite-requires-clause-can c =
    let size = c.carry-end.ensures.shifted.size in
    let total = c.carry-end.ensures.total in
    let fits = c.requires.fits in
    let most = c.requires.laid.most in
    let same = ap info_len (c.carry-end.ensures.shifted.info c.args.index c.requires.within) in
    let len = c.requires.len in
    let up = c.carry-end.ensures.ends in
    record { sound = c.carry-end.ensures.laid.sound; within = c.requires.within; room = omega arith; most = omega arith; free = λ j small ne. inr (c.carry-end.ensures.last.last j small ne) }

pub returns : goal.returns
returns c =
    let n = c.args.count in
    let i = c.args.index in
    let info = c.args.info.0 in
    let raw = c.args.space.now in
    let mid = c.carry-end.new.space in
    let new = c.rewrite.new.space in
    let more = c.args.more.now in
    let size = c.carry-end.ensures.shifted.size in
    let total = c.carry-end.ensures.total in
    let fits = c.requires.fits in
    let most = c.requires.laid.most in
    let small = c.requires.within in
    let up = c.carry-end.ensures.ends in
    let same = ap info_len (c.carry-end.ensures.shifted.info i small) in
    let len = c.requires.len in
    let d : Desc = record { addr = addr_in mid i; info = info } in
    let can : CanRenew mid n i d = record { sound = c.carry-end.ensures.laid.sound; within = small; room = omega arith; most = omega arith; free = λ j j_small ne. inr (c.carry-end.ensures.last.last j j_small ne) } in
    let keep_is : c.payload_len-keep.result ≡ len_in mid i = c.payload_len-keep.ensures ∙ ap (λ (e : Desc). info_len e.info) c.descriptor.ensures in
    let room = c.carry-end.ensures.laid.sound.within i small in
    let long : length (payload_in mid i) ≡ len_in mid i = length-window mid (addr_in mid i) (len_in mid i) (omega arith) in
    let kept : take c.payload_len-keep.result (payload_in mid i) ≡ payload_in raw i = ap (λ (k : ℕ). take k (payload_in mid i)) keep_is ∙ take_all (len_in mid i) (payload_in mid i) (omega arith) ∙ c.carry-end.ensures.shifted.payload i small in
    let payload_is : take c.payload_len-keep.result (payload_in mid i) ++ c.one.result ≡ payload_in raw i ++ more = ap (λ (p : List ℕ). p ++ c.one.result) kept ∙ ap (λ (p : List ℕ). payload_in raw i ++ p) c.one.ensures in
    let payload = payload_in raw i ++ more in
    let is : IsRenewed mid new n i d payload = subst (IsRenewed mid new n i d) payload_is c.rewrite.ensures in
    let some = c.carry-end.ensures.laid.filled.filled i small in
    let laid = renewed_laid mid new n i 0 0 d payload can is c.requires.told (omega arith) c.carry-end.ensures.laid (λ j j_small ne. inr (omega arith)) (inr (omega arith)) (omega arith) in
    let blocks = renewed_blocks mid new n i d payload small is in
    let addrs = stayed_addrs mid new n i info payload is in
    let made = c.requires.told.len in
    let topped = top_longer mid new n i c.carry-end.result 0 (block_of info payload) c.carry-end.ensures.laid.told c.carry-end.ensures.topped small blocks addrs (omega arith) laid in
    record {
      blocks = blocks ∙ ap (λ (bs : List Block). set bs i (block_of info payload)) (shifted_blocks raw mid n c.carry-end.ensures.shifted);
      addrs = addrs ∙ c.carry-end.ensures.addrs;
      laid = laid;
      topped = subst (IsTop new n) (omega arith) topped;
      size = is.size ∙ size;
    }
