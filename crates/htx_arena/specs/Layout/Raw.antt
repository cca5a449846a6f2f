-- The array's bytes read by number: descriptors, payloads, blocks (HTX API, "data representation").
use Rattle.std.specs.Prelude.{ℕ, ◌+◌, ◌*◌, ◌/◌, ◌%◌, ◌^◌, ◌≡◌, ◌<◌, ◌≤◌, List, [], ◌∷◌, ◌++◌, length, take, drop, map, nat_eq, if◌then◌else◌}
use Rattle.std.specs.List.{range_with_len}
use Rattle.std.specs.Int.{to_le_bytes, w32}
use Rattle.htx_model.specs.Block.{Block, RequestLine, ResponseLine, Header, EndHeaders, Data, Trailer, EndTrailers, block, kind_of, payload_len, IsFieldKind}
use Rattle.htx_model.specs.declared.Kind.{Kind}
use Rattle.htx_model.specs.declared.Kind.TheVariants as kinds
use Rattle.htx_arena.specs.Space.Windows.{window, word_at, desc_at}

-- ---- what a block's descriptor and payload are

-- the number of a type, in the top four bits of the info word
abbrev pub code_of : Kind → ℕ
code_of kinds.RequestLine = 0
code_of kinds.ResponseLine = 1
code_of kinds.Header = 2
code_of kinds.EndHeaders = 3
code_of kinds.Data = 4
code_of kinds.Trailer = 5
code_of kinds.EndTrailers = 6

-- the low 28 bits: the value's length and the name's in 20 and 8 bits, else the payload's length
abbrev pub lengths_of : Block → ℕ
lengths_of (Header n v) = 256 * length v + length n
lengths_of (Trailer n v) = 256 * length v + length n
lengths_of b = payload_len b

-- the info word of a block
abbrev pub info_of : Block → ℕ
info_of b = 2 ^ 28 * code_of (kind_of b) + lengths_of b

-- three lengths as little-endian words
abbrev pub line_head : ℕ → ℕ → ℕ → List ℕ
line_head a b c = to_le_bytes w32 a ++ to_le_bytes w32 b ++ to_le_bytes w32 c

-- The payload of a block: the lengths of a start line's parts and the parts, a field's name and value, the
-- bytes of data, and one zero byte for an end.
abbrev pub payload_of : Block → List ℕ
payload_of (RequestLine a b c) = line_head (length a) (length b) (length c) ++ (a ++ (b ++ c))
payload_of (ResponseLine a b c) = line_head (length a) (length b) (length c) ++ (a ++ (b ++ c))
payload_of (Header n v) = n ++ v
payload_of EndHeaders = 0 ∷ []
payload_of (Data p) = p
payload_of (Trailer n v) = n ++ v
payload_of EndTrailers = 0 ∷ []

-- ---- what a descriptor and a payload tell

-- the type that the top four bits tell
abbrev pub kind_of_code : ℕ → Kind
kind_of_code code =
    if nat_eq code 0 then kinds.RequestLine else
    if nat_eq code 1 then kinds.ResponseLine else
    if nat_eq code 2 then kinds.Header else
    if nat_eq code 3 then kinds.EndHeaders else
    if nat_eq code 4 then kinds.Data else
    if nat_eq code 5 then kinds.Trailer else kinds.EndTrailers

-- the type that an info word tells
abbrev pub info_kind : ℕ → Kind
info_kind info = kind_of_code (info / 2 ^ 28)

-- the length of a field's name
abbrev pub name_len : ℕ → ℕ
name_len info = info % 256

-- the length of a field's value
abbrev pub value_len : ℕ → ℕ
value_len info = info / 256 % 2 ^ 20

-- how long the payload of a block of this type is
abbrev pub len_by : Kind → ℕ → ℕ
len_by kinds.Header info = name_len info + value_len info
len_by kinds.Trailer info = name_len info + value_len info
len_by _ info = info % 2 ^ 28

-- how long the payload is
unfoldable pub info_len : ℕ → ℕ
info_len info = len_by (info_kind info) info

-- the block of this type whose payload is these bytes
abbrev pub block_by : Kind → ℕ → List ℕ → Block
block_by kinds.Header info p = block kinds.Header (take (name_len info) p) (drop (name_len info) p) []
block_by kinds.Trailer info p = block kinds.Trailer (take (name_len info) p) (drop (name_len info) p) []
block_by kinds.Data info p = block kinds.Data p [] []
block_by kinds.EndHeaders info p = block kinds.EndHeaders [] [] []
block_by kinds.EndTrailers info p = block kinds.EndTrailers [] [] []
block_by kind info p = block kind (window p 12 (word_at p 0)) (window p (12 + word_at p 0) (word_at p 4)) (window p (12 + word_at p 0 + word_at p 4) (word_at p 8))

-- the block whose payload is these bytes
unfoldable pub block_of : ℕ → List ℕ → Block
block_of info p = block_by (info_kind info) info p

-- an info word and a payload are those of the block that they tell, and a field has a name
pub record Tells (info : ℕ) (p : List ℕ) : Type 0 where
  pub len : payload_len (block_of info p) ≡ info_len info
  pub code : info ≡ info_of (block_of info p)
  pub bytes : p ≡ payload_of (block_of info p)
  pub named : IsFieldKind (info_kind info) → 1 ≤ name_len info

-- an info word is that of a block that an array can hold
pub record Describes (info : ℕ) (b : Block) : Type 0 where
  pub tells : Tells info (payload_of b)
  pub is : block_of info (payload_of b) ≡ b

-- the same for a payload that is not yet in an array, which has a byte
pub record IsNew (info : ℕ) (p : List ℕ) : Type 0 where
  pub tells : Tells info p
  pub some : 0 < length p

-- ---- the array

-- the list of f 0, f 1, .., f (n - 1)
abbrev pub listed : {X : Type 0} → (ℕ → X) → ℕ → List X
listed f n = map f (range_with_len 0 n)

-- where the payload of this number stands
abbrev pub addr_in : List ℕ → ℕ → ℕ
addr_in raw i = (desc_at raw i).addr

-- how long it is
abbrev pub len_in : List ℕ → ℕ → ℕ
len_in raw i = info_len (desc_at raw i).info

-- its bytes
abbrev pub payload_in : List ℕ → ℕ → List ℕ
payload_in raw i = window raw (addr_in raw i) (len_in raw i)

-- the block that the descriptor of this number tells
abbrev pub block_in : List ℕ → ℕ → Block
block_in raw i = block_of (desc_at raw i).info (payload_in raw i)

-- the blocks of the first n descriptors
abbrev pub blocks_of : List ℕ → ℕ → List Block
blocks_of raw n = listed (block_in raw) n

-- their addresses
abbrev pub addrs_of : List ℕ → ℕ → List ℕ
addrs_of raw n = listed (addr_in raw) n
