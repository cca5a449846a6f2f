-- The arena once a lent value was written.
use Rattle.std.proofs.Common.{◌≡◌, ℕ, ◌<◌, List, length, drop, refl, ap, sym, arith}
use Rattle.std.specs.Prelude.{slice_set}
use Rattle.std.proofs.lemmas.List.{take_at}
use Rattle.std.specs.List.{refill, length_refill}
use Rattle.htx_model.specs.Block.{kind_of, value_of, HasValue, with_value}
use Rattle.htx_model.specs.Blocks.{load, block_at}
use Rattle.htx_model.proofs.PublicLaws.{load-set}
use Rattle.htx_arena.specs.Space.Windows.{window, overwritten}
use Rattle.htx_arena.specs.Layout.Raw.{block_in, blocks_of}
use Rattle.htx_arena.specs.Layout.Values.{value_start, value_length}
use Rattle.htx_arena.proofs.LayoutLemmas.RawLemmas.{length-listed}
use Rattle.htx_arena.proofs.LayoutLemmas.TellLemmas.{len_told}
use Rattle.htx_arena.proofs.LayoutLemmas.ValueLemmas.{payload-with_value}
use Rattle.htx_arena.proofs.LayoutLemmas.TopLemmas.{top_same}
use Rattle.htx_arena.proofs.LayoutLemmas.KnownLemmas.{known_same}
use Rattle.htx_arena.proofs.LayoutLemmas.LentLemmas.{blocks_lent, addrs_lent, laid_lent}
use Rattle.htx_arena.specs.Layout.Contents.{Contents}
use Rattle.htx_arena.specs.Layout.Written.{written}
use Rattle.htx_arena.specs.Layout.Whole.{IsWhole}
use Rattle.htx_arena.specs.declared.layout.array.Array.TheInside.{Inside}

-- at a list of the value's length the whole value is replaced
pub written_same : (s : Contents) (at : ℕ) (w : List ℕ) → length w ≡ length (value_of (block_at s.blocks at)) → written s at w ≡ record s { blocks = slice_set s.blocks at (with_value (block_at s.blocks at) w) }
written_same s at w e =
    let v = value_of (block_at s.blocks at) in
    ap (λ l. let t : Contents = record s { blocks = slice_set s.blocks at (with_value (block_at s.blocks at) l) } in t) (take_at w (drop (length w) v) (length v) e)

pub whole_lent : (a : Inside) (i start len : ℕ) (w : List ℕ) → IsWhole a → i < a.count → HasValue (kind_of (block_in a.space i)) → start ≡ value_start a.space i → len ≡ value_length a.space i →
    IsWhole (record a { space = overwritten a.space start (refill len (window a.space start len) w) })
whole_lent a i start len w whole small valued s l =
    let raw = a.space in
    let n = a.count in
    let bs = blocks_of raw n in
    let count = length-listed (block_in raw) n in
    let v = value_of (block_at bs i) in
    let filled : length (refill (length v) v w) ≡ length v = sym (length_refill (length v) v w refl) in
    let blocks = blocks_lent raw n i start len w whole.laid.sound small valued s l in
    let now = ap load blocks in
    let change = load-set bs i (with_value (block_at bs i) (refill (length v) v w)) (omega arith) in
    let kept = payload-with_value (block_at bs i) (refill (length v) v w) filled in
    let loaded = whole.loaded in
    let fits = whole.fits in
    let size = (addrs_lent raw n i start len w whole.laid.sound small valued s l).1 in
    let laid = laid_lent raw n a.ends.front i start len w whole.laid small valued s l in
    let old = len_told raw n i whole.laid.told small in
    let topped = top_same raw (overwritten raw start (refill len (window raw start len) w)) n i a.ends.top a.ends.front (with_value (block_at bs i) (refill (length v) v w)) whole.laid.told whole.topped small blocks (addrs_lent raw n i start len w whole.laid.sound small valued s l).0 (omega arith) laid in
    record { laid = laid; loaded = omega arith; topped = topped; known = known_same raw (overwritten raw start (refill len (window raw start len) w)) n a.ends.front a.ends.low (addrs_lent raw n i start len w whole.laid.sound small valued s l).0 whole.known; fits = omega arith }
