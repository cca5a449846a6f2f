-- The body of a request as the proxy spells it, byte by byte (RFC 9112 sections 6 and 7.1): where it stands, and which bytes are of the body.
use Rattle.std.specs.Prelude.{◌≡◌, ℕ, ◌+◌, ◌-◌, ◌*◌, Bool, true, false, ◌==◌, nat_lt, if◌then◌else◌, List, [], ◌∷◌, ◌++◌}
use Rattle.std.specs.List.{fold}
use Rattle.std.specs.Char.{digit_value, is_ascii_hexdigit}
use Rattle.http_model.specs.declared.Framing.{Framing}
use Rattle.http_model.specs.declared.Framing.TheVariants.{Absent, Length, Chunked, ToClose}

pub data Place : Type 0 where
  -- so many bytes are to come
  InLength : (left : ℕ) → Place
  -- in the size of a chunk, which is this number so far; whether it has a digit
  InSize : (some : Bool) → (size : ℕ) → Place
  -- behind the CR of that line
  BehindSize : (size : ℕ) → Place
  -- so many bytes of a chunk are to come
  InChunk : (left : ℕ) → Place
  -- behind the bytes of a chunk, and behind the CR there
  BehindChunk : Place
  BehindReturn : Place
  -- at the beginning of a line behind the chunks, inside one, and behind the CR of one
  AtTrailer : Place
  InTrailer : Place
  BehindTrailer : Place
  -- behind the CR of the empty line
  AtLast : Place
  Whole : Place
  -- no body of this spelling
  Broken : Place

abbrev pub length_left : ℕ → Place
length_left left = if left == 0 then Whole else InLength left

abbrev pub chunk_left : ℕ → Place
chunk_left left = if left == 0 then BehindChunk else InChunk left

abbrev pub if_byte : (b wanted : ℕ) → Place → Place
if_byte b wanted place = if b == wanted then place else Broken

-- a size that another digit may follow
abbrev pub most_size : ℕ
most_size = 268435456

-- digits, and the CR behind them; a size has at most 32 bits
abbrev pub size_by : (some : Bool) → (size b : ℕ) → Place
size_by some size b =
    if is_ascii_hexdigit b then (if nat_lt size most_size then InSize true (size * 16 + digit_value b) else Broken)
    else if some then if_byte b 13 (BehindSize size)
    else Broken

-- behind the line of a size: 0 is the last
abbrev pub behind_size : ℕ → Place
behind_size size = if size == 0 then AtTrailer else InChunk size

-- at a CR, and at another byte
abbrev pub at_return : ℕ → (place other : Place) → Place
at_return b place other = if b == 13 then place else other

-- where one more byte leads
abbrev pub leads : Place → ℕ → Place
leads (InLength left) b = length_left (left - 1)
leads (InSize some size) b = size_by some size b
leads (BehindSize size) b = if_byte b 10 (behind_size size)
leads (InChunk left) b = chunk_left (left - 1)
leads BehindChunk b = if_byte b 13 BehindReturn
leads BehindReturn b = if_byte b 10 (InSize false 0)
leads AtTrailer b = at_return b AtLast InTrailer
leads InTrailer b = at_return b BehindTrailer InTrailer
leads BehindTrailer b = if_byte b 10 AtTrailer
leads AtLast b = if_byte b 10 Whole
leads Whole b = Whole
leads Broken b = Broken

-- the next byte is of the body
abbrev pub adds : Place → Bool
adds (InLength left) = true
adds (InSize some size) = false
adds (BehindSize size) = false
adds (InChunk left) = true
adds BehindChunk = false
adds BehindReturn = false
adds AtTrailer = false
adds InTrailer = false
adds BehindTrailer = false
adds AtLast = false
adds Whole = false
adds Broken = false

-- the bytes of the body among these
abbrev pub body_in : Place → List ℕ → List ℕ
body_in place [] = []
body_in place (b ∷ bytes) = (if adds place then b ∷ [] else []) ++ body_in (leads place b) bytes

-- where a body of this framing begins
abbrev pub body_at : Framing → Place
body_at Absent = Whole
body_at (Length n) = length_left n
body_at Chunked = InSize false 0
body_at ToClose = Broken

-- the body is whole
abbrev pub is_whole : Place → Bool
is_whole (InLength left) = false
is_whole (InSize some size) = false
is_whole (BehindSize size) = false
is_whole (InChunk left) = false
is_whole BehindChunk = false
is_whole BehindReturn = false
is_whole AtTrailer = false
is_whole InTrailer = false
is_whole BehindTrailer = false
is_whole AtLast = false
is_whole Whole = true
is_whole Broken = false

-- more of the body is to come
abbrev pub is_going : Place → Bool
is_going (InLength left) = true
is_going (InSize some size) = true
is_going (BehindSize size) = true
is_going (InChunk left) = true
is_going BehindChunk = true
is_going BehindReturn = true
is_going AtTrailer = true
is_going InTrailer = true
is_going BehindTrailer = true
is_going AtLast = true
is_going Whole = false
is_going Broken = false

-- the bytes lead from one place to another, and these among them are of the body
pub record Goes (from : Place) (bytes : List ℕ) (to : Place) (body : List ℕ) : Type 0 where
  pub place : fold leads from bytes ≡ to
  pub found : body_in from bytes ≡ body
