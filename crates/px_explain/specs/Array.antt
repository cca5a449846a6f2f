-- The text of an array: its room, and a line for each block.
use Rattle.std.specs.Prelude.{ℕ, zero, suc, ◌+◌, ◌-◌, ◌/◌, ◌%◌, List, [], ◌∷◌, ◌++◌, Bool, ◌&&◌, nat_le, nat_lt, if◌then◌else◌, length, take, drop, slice_index, codes, decimal}
use Rattle.std.specs.List.{flat_map}
use Rattle.http_model.specs.Block.{Block, kind_of, name_of, payload_len}
use Rattle.http_model.specs.Blocks.{load, block_at}
use Rattle.htx_model.specs.declared.Kind.{Kind}
use Rattle.htx_model.specs.declared.Kind.TheVariants as kinds
use Rattle.htx_arena.specs.Layout.Contents.{Contents}
use Rattle.htx_arena.specs.Layout.Raw.{payload_of}

-- the word of a kind of blocks
abbrev pub kind_name : Kind → List ℕ
kind_name kinds.RequestLine = codes "request-line"
kind_name kinds.ResponseLine = codes "response-line"
kind_name kinds.Header = codes "header"
kind_name kinds.EndHeaders = codes "end-headers"
kind_name kinds.Data = codes "data"
kind_name kinds.Trailer = codes "trailer"
kind_name kinds.EndTrailers = codes "end-trailers"

-- ---- bytes as text

-- the digit of a number below 16
abbrev pub hex_digit : ℕ → ℕ
hex_digit d = if nat_lt d 10 then 48 + d else 87 + d

-- a byte that stands for itself: a blank, and those from `!` to `~`
abbrev pub is_plain : ℕ → Bool
is_plain b = nat_le 32 b && nat_le b 126

-- a byte as text: itself, or a backslash, `x` and two digits
abbrev pub byte_text : ℕ → List ℕ
byte_text b = if is_plain b then b ∷ [] else codes "\\x" ++ hex_digit (b / 16) ∷ hex_digit (b % 16) ∷ []

-- ---- a block

-- the bytes in front of the text of a payload: the three lengths in front of the parts of a start line
abbrev pub lengths_before : Kind → ℕ
lengths_before kinds.RequestLine = 12
lengths_before kinds.ResponseLine = 12
lengths_before kind = 0

-- the first 64 bytes of a payload, without these lengths
abbrev pub shown_of : Block → List ℕ
shown_of b = take 64 (drop (lengths_before (kind_of b)) (payload_of b))

-- its number, its kind and the address of its payload
abbrev pub place_text : (at addr : ℕ) → Block → List ℕ
place_text at addr b = codes "block " ++ decimal at ++ codes " " ++ kind_name (kind_of b) ++ codes " at " ++ decimal addr

-- how many bytes of its payload are a name, and how many stand behind that
abbrev pub lengths_text : Block → List ℕ
lengths_text b = codes " name " ++ decimal (length (name_of b)) ++ codes " value " ++ decimal (payload_len b - length (name_of b))

-- the line of a block
unfoldable pub block_line : (at addr : ℕ) → Block → List ℕ
block_line at addr b = place_text at addr b ++ lengths_text b ++ codes " " ++ flat_map byte_text (shown_of b) ++ codes "\n"

-- ---- an array

-- its size, what its blocks weigh, and how much more they may weigh
abbrev pub room_line : Contents → List ℕ
room_line array = codes "room " ++ decimal array.size ++ codes " load " ++ decimal (load array.blocks) ++ codes " free " ++ decimal (array.size - load array.blocks) ++ codes "\n"

-- the lines of so many blocks from an index on
abbrev pub block_lines : Contents → (at count : ℕ) → List ℕ
block_lines array at zero = []
block_lines array at (suc count) = block_line at (slice_index array.addrs at) (block_at array.blocks at) ++ block_lines array (at + 1) count

-- the line of its room, and the lines of its blocks
unfoldable pub array_text : Contents → List ℕ
array_text array = room_line array ++ block_lines array 0 (length array.blocks)
