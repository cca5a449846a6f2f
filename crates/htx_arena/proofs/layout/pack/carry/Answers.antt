use Rattle.std.proofs.Common.{arith}
use Rattle.htx_arena.proofs.LayoutLemmas.CarryLemmas.{carried_addrs, can_carry, carried}
use Rattle.htx_arena.proofs.LayoutLemmas.MoveLemmas.{shifted_told, shifted_blocks}
use Rattle.htx_arena.proofs.layout.pack.carry.Goals as goal

pub sink-requires : goal.sink-requires
sink-requires c =
    let total = c.defrag-end.ensures.total in
    let fits = c.requires.fits in
    can_carry c.args.space.now c.defrag-end.new.space c.args.count c.args.index c.defrag-end.result c.requires.laid c.defrag-end.ensures.shifted c.defrag-end.ensures.sound c.defrag-end.ensures.up_to (omega arith) c.requires.within

pub returns : goal.returns
returns c =
    let raw = c.args.space.now in
    let mid = c.defrag-end.new.space in
    let n = c.args.count in
    let i = c.args.index in
    let d = c.defrag-end.ensures in
    let total = d.total in
    let fits = c.requires.fits in
    let laid = c.requires.laid in
    let k = carried raw mid c.sink.new.space n i c.defrag-end.result laid d.shifted (can_carry raw mid n i c.defrag-end.result laid d.shifted d.sound d.up_to (omega arith) c.requires.within) c.sink.ensures in
    record {
      shifted = k.shifted;
      addrs = carried_addrs raw mid c.sink.new.space n i c.defrag-end.result laid.sound laid.filled laid.told (shifted_told raw mid n d.shifted laid.told) (shifted_blocks raw mid n d.shifted) d.addrs d.total c.requires.within c.sink.ensures;
      total = d.total;
      ends = k.ends;
      last = k.last;
      laid = k.laid;
      topped = k.topped;
    }
