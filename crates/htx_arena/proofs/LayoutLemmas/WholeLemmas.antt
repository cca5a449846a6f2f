-- What holds of an arena between two calls.
use Rattle.std.proofs.Common.{◌≡◌, ℕ, ◌+◌, ◌*◌, ◌≤◌, ◌<◌, List, length, take, drop, set, get_or, sum_by, ap, sym, ◌∙◌, subst, arith}
use Rattle.htx_model.specs.Block.{Block, kind_of, payload_len, weight}
use Rattle.htx_model.specs.Blocks.{load, block_at}
use Rattle.htx_model.proofs.PublicLaws.{load-payloads, load-set, load-remove, load-take_drop}
use Rattle.htx_arena.specs.declared.space.space.Desc.{Desc}
use Rattle.htx_arena.specs.Space.Windows.{desc_at}
use Rattle.htx_arena.specs.Layout.Raw.{Tells, Describes, info_kind, block_of, addr_in, block_in, payload_in, payload_of, len_in, blocks_of, addrs_of}
use Rattle.htx_arena.specs.Layout.Sound.{IsLaid, IsTold, IsTop, IsKnown}
use Rattle.htx_arena.specs.declared.layout.scan.Ends.{Ends}
use Rattle.htx_arena.proofs.LayoutLemmas.RawLemmas.{length-listed}
use Rattle.htx_arena.proofs.LayoutLemmas.TellLemmas.{kind_told, len_told, block_told, addr_told, listed-take}
use Rattle.htx_arena.proofs.LayoutLemmas.FrontLemmas.{laid_first}
use Rattle.htx_arena.proofs.LayoutLemmas.KnownLemmas.{unknown}
use Rattle.htx_arena.specs.Layout.Contents.{Contents}
use Rattle.htx_arena.specs.Layout.Whole.{IsWhole}
use Rattle.htx_arena.specs.declared.layout.array.Array.TheInside.{Inside}

-- what callers see of the fields
abbrev pub seen_of : Inside → Contents
seen_of a = record { size = length a.space; blocks = blocks_of a.space a.count; addrs = addrs_of a.space a.count; front = a.ends.front }

-- numbers of an arena and of what callers see of it
pub record Numbers (a : Inside) (s : Contents) : Type 0 where
  pub count : length s.blocks ≡ a.count
  pub loaded : a.load ≡ load s.blocks
  pub size : s.size ≡ length a.space
  pub payloads : load s.blocks ≡ sum_by payload_len (blocks_of a.space a.count) + 8 * a.count
  pub fits : a.load ≤ length a.space
  pub most : length a.space ≤ 262144

pub numbers : (a : Inside) (s : Contents) → IsWhole a → seen_of a ≡ s → Numbers a s
numbers a s whole view =
    let n = length-listed (block_in a.space) a.count in
    let all = load-payloads (blocks_of a.space a.count) in
    let same = ap (λ (t : Contents). load t.blocks) view in
    let loaded = whole.loaded in
    record {
      count = sym (ap (λ (t : Contents). length t.blocks) view) ∙ n;
      loaded = loaded ∙ same;
      size = sym (ap (λ (t : Contents). t.size) view);
      payloads = omega arith;
      fits = whole.fits;
      most = whole.laid.most;
    }

-- the block at an index, as callers see it, in the array
pub record At (a : Inside) (s : Contents) (i : ℕ) : Type 0 where
  pub small : i < a.count
  pub block : block_at s.blocks i ≡ block_in a.space i
  pub len : payload_len (block_at s.blocks i) ≡ len_in a.space i
  pub bytes : payload_of (block_at s.blocks i) ≡ payload_in a.space i
  pub addr : get_or s.addrs i 0 ≡ addr_in a.space i
  pub weighs : weight (block_at s.blocks i) ≤ a.load
  pub some : 0 < payload_len (block_at s.blocks i)

pub at : (a : Inside) (s : Contents) (i : ℕ) → IsWhole a → seen_of a ≡ s → i < length s.blocks → At a s i
at a s i whole view h =
    let n = numbers a s whole view in
    let count = n.count in
    let small : i < a.count = omega arith in
    let block = sym (ap (λ (t : Contents). block_at t.blocks i) view) ∙ block_told a.space a.count i small in
    let loaded = n.loaded in
    let less = load-set s.blocks i (block_at s.blocks i) h in
    let rest = load-remove s.blocks i h in
    let len = sym (ap (λ (t : Contents). payload_len (block_at t.blocks i)) view) ∙ len_told a.space a.count i whole.laid.told small in
    let filled = whole.laid.filled.filled i small in
    record {
      small = small;
      block = block;
      len = len;
      bytes = ap payload_of block ∙ sym (whole.laid.told.told i small).bytes;
      addr = sym (ap (λ (t : Contents). get_or t.addrs i 0) view) ∙ addr_told a.space a.count i small;
      weighs = omega arith;
      some = omega arith;
    }

-- the type that its info word tells
pub kind_at : (a : Inside) (s : Contents) (i : ℕ) → IsWhole a → seen_of a ≡ s → i < length s.blocks → kind_of (block_at s.blocks i) ≡ info_kind (desc_at a.space i).info
kind_at a s i whole view h = ap kind_of (at a s i whole view h).block ∙ kind_told (desc_at a.space i).info (payload_in a.space i)

-- its info word
pub described_at : (a : Inside) (s : Contents) (i : ℕ) (d : Desc) → IsWhole a → seen_of a ≡ s → i < length s.blocks → d ≡ desc_at a.space i → Describes d.info (block_at s.blocks i)
described_at a s i d whole view h e =
    let t = at a s i whole view h in
    let b = block_at s.blocks i in
    let is : block_of (desc_at a.space i).info (payload_of b) ≡ b = ap (block_of (desc_at a.space i).info) t.bytes ∙ sym t.block in
    subst (λ (x : Desc). Describes x.info b) (sym e) (record { tells = subst (Tells (desc_at a.space i).info) (sym t.bytes) (whole.laid.told.told i t.small); is = is })

-- the first blocks
pub record IsFirst (a : Inside) (s : Contents) (m : ℕ) : Type 0 where
  pub laid : IsLaid a.space m a.ends.front
  pub blocks : blocks_of a.space m ≡ take m s.blocks
  pub addrs : addrs_of a.space m ≡ take m s.addrs
  pub loads : load (blocks_of a.space m) + load (drop m (blocks_of a.space a.count)) ≡ a.load

pub first : (a : Inside) (s : Contents) (m : ℕ) → IsWhole a → seen_of a ≡ s → m ≤ length s.blocks → IsFirst a s m
first a s m whole view h =
    let count = (numbers a s whole view).count in
    let small : m ≤ a.count = omega arith in
    let both = load-take_drop (blocks_of a.space a.count) m in
    let taken = listed-take (block_in a.space) a.count m small in
    let now = ap load taken in
    let loaded = whole.loaded in
    record {
      laid = laid_first a.space a.count m a.ends.front whole.laid small;
      blocks = taken ∙ ap (λ (x : Contents). take m x.blocks) view;
      addrs = listed-take (addr_in a.space) a.count m small ∙ ap (λ (x : Contents). take m x.addrs) view;
      loads = omega arith;
    }

-- one block is another: the load follows
pub whole_set : (raw new : List ℕ) (n i was loaded : ℕ) (e : Ends) (m : ℕ) (b : Block) → IsTold raw n → was ≡ load (blocks_of raw n) → i < n → blocks_of new n ≡ set (blocks_of raw n) i b → payload_len b ≡ m → IsLaid new n e.front → loaded + len_in raw i ≡ was + m → IsTop new n e.top → IsKnown new n e.front e.low → loaded ≤ length new →
    IsWhole (record { space = new; count = n; load = loaded; ends = e })
whole_set raw new n i was loaded e m b told is small blocks len laid sum topped known fits =
    let count = length-listed (block_in raw) n in
    let old = len_told raw n i told small in
    let change = load-set (blocks_of raw n) i b (omega arith) in
    let now = ap load blocks in
    record { laid = laid; loaded = omega arith; topped = topped; known = known; fits = fits }

pub ruleset wholes = (length-listed, unknown)
