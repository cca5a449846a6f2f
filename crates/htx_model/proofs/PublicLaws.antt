-- The public laws of loads, edits and flows.
use Rattle.std.proofs.Common.{◌≡◌, ℕ, List, ◌++◌, ◌∷◌, take, drop, suc, length, ◌<◌, set, ◌≤◌, ◌+◌, ◌-◌, min, ◌*◌, sum_by}
use Rattle.std.specs.Prelude.{insert, remove}
use Rattle.htx_model.specs.Block.{Block, Data, kind_of, value_of, payload_len, weight}
use Rattle.htx_model.specs.Blocks.{joined, flow, block_at, data_overhead, append_data, cut_front, load, taken}
use Rattle.htx_model.specs.Flow.{added, AreFilled}
use Rattle.htx_model.specs.declared.Kind.TheVariants as kinds
use Rattle.htx_model.proofs.Flows as flows
use Rattle.htx_model.proofs.Edits as edits
use Rattle.htx_model.proofs.Loads as loads

-- Two pieces of data joined to a flow one after the other are joined to it as one.
pub joined_twice : (x y : List ℕ) (fs : List Block) → joined (Data x) (joined (Data y) fs) ≡ joined (Data (x ++ y)) fs
joined_twice = flows.joined_twice

-- Data in two parts flows as one.
pub flow-parted : (size : ℕ) (p : List ℕ) (bs : List Block) → flow (Data (take size p) ∷ (Data (drop size p) ∷ bs)) ≡ flow (Data p ∷ bs)
flow-parted = flows.flow-parted

-- What stands behind counts by its flow.
pub flow-append : (xs ys zs : List Block) → flow ys ≡ flow zs → flow (xs ++ ys) ≡ flow (xs ++ zs)
flow-append = flows.flow-append

-- What stands in front counts by its flow.
pub flow-front : (xs ys zs : List Block) → flow xs ≡ flow ys → flow (xs ++ zs) ≡ flow (ys ++ zs)
flow-front = flows.flow-front

-- Filled blocks that are put behind others flow as if they followed them.
pub added_flows : (to xs ys : List Block) → AreFilled xs → flow (added to xs ++ ys) ≡ flow (to ++ (xs ++ ys))
added_flows = flows.added_flows

-- Two lists in a row are put behind others one after the other.
pub added-append : (to xs ys : List Block) → added to (xs ++ ys) ≡ added (added to xs) ys
added-append = flows.added-append

-- A block of the kind of data is the data of its value.
pub data_is : (b : Block) → kind_of b ≡ kinds.Data → b ≡ Data (value_of b)
data_is = edits.data_is

-- Behind a last block of data, data needs no descriptor.
pub overhead-data : (bs : List Block) (i : ℕ) → length bs ≡ suc i → kind_of (block_at bs i) ≡ kinds.Data → data_overhead bs ≡ 0
overhead-data = edits.overhead-data

-- Behind a last block of another kind, data needs a descriptor.
pub overhead-other : (bs : List Block) (i : ℕ) → length bs ≡ suc i → (kind_of (block_at bs i) ≡ kinds.Data → ⊥) → data_overhead bs ≡ 8
overhead-other = edits.overhead-other

-- Where there is no block, data needs a descriptor.
pub overhead-none : (bs : List Block) → length bs ≡ 0 → data_overhead bs ≡ 8
overhead-none = edits.overhead-none

-- Where appended data needs a descriptor, it is a block of its own at the end.
pub append-insert : (bs : List Block) (p : List ℕ) → data_overhead bs ≡ 8 → 0 < length p → append_data bs p ≡ insert bs (length bs) (Data p)
append-insert = edits.append-insert

-- Behind a last block of data, appended data goes on that block.
pub append-set : (bs : List Block) (i : ℕ) (p : List ℕ) → length bs ≡ suc i → kind_of (block_at bs i) ≡ kinds.Data → 0 < length p → append_data bs p ≡ set bs i (Data (value_of (block_at bs i) ++ p))
append-set = edits.append-set

-- A cut of all bytes of a block of data removes it.
pub cut-remove : (bs : List Block) (i n : ℕ) → i < length bs → kind_of (block_at bs i) ≡ kinds.Data → length (value_of (block_at bs i)) ≤ n → cut_front bs i n ≡ remove bs i
cut-remove = edits.cut-remove

-- A cut of a part of a block of data leaves a block of the rest.
pub cut-set : (bs : List Block) (i n : ℕ) → i < length bs → kind_of (block_at bs i) ≡ kinds.Data → n < length (value_of (block_at bs i)) → cut_front bs i n ≡ set bs i (Data (drop n (value_of (block_at bs i))))
cut-set = edits.cut-set

-- Appended data adds its bytes to the load, and a descriptor where it opens a block.
pub load-append_data : (bs : List Block) (p : List ℕ) → 0 < length p → load (append_data bs p) ≡ load bs + data_overhead bs + length p
load-append_data = loads.load-append_data

-- Of appended data as many bytes are taken as there is room for.
pub taken_is : (bs : List Block) (size : ℕ) (p : List ℕ) → taken bs size p ≡ min (length p) (size - (load bs + data_overhead bs))
taken_is = loads.taken_is

-- The load is all payloads, and eight bytes for each block.
pub load-payloads : (bs : List Block) → load bs ≡ sum_by payload_len bs + 8 * length bs
load-payloads = loads.load-payloads

-- The load without a block, and what that block weighs, are the load with it.
pub load-remove : (bs : List Block) (at : ℕ) → at < length bs → load (remove bs at) + weight (block_at bs at) ≡ load bs
load-remove = loads.load-remove

-- Where a block takes another's place, the load loses what the other weighs and gains what it weighs.
pub load-set : (bs : List Block) (at : ℕ) (b : Block) → at < length bs → load (set bs at b) + weight (block_at bs at) ≡ load bs + weight b
load-set = loads.load-set

-- The loads of a front and of the rest are the load of all.
pub load-take_drop : (bs : List Block) (at : ℕ) → load (take at bs) + load (drop at bs) ≡ load bs
load-take_drop = loads.load-take_drop
