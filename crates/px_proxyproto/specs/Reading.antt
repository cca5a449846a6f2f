-- What a reader of a header knows, and what it tells.
use Rattle.std.specs.Prelude.{◌≡◌, ℕ, ◌+◌, ◌-◌, ◌≤◌, true, false, not, ◌||◌, nat_lt, if◌then◌else◌, List, length, take}
use Rattle.px_proxyproto.specs.declared.state.ProxyState.{ProxyState}
use Rattle.px_proxyproto.specs.declared.state.ProxyState.TheVariants.{More, Got, Bad}
use Rattle.px_proxyproto.specs.declared.front.Front.{Front}
use Rattle.px_proxyproto.specs.declared.front.Front.TheVariants as fronts
use Rattle.px_proxyproto.specs.Binary.{is_signed, block_len}
use Rattle.px_proxyproto.specs.Headers.{IsHeader, NoHeader, NoneYet, MayStill}

-- what is kept of the bytes that were fed: the first 107, and how many there were
pub record Read : Type 0 where
  pub front : List ℕ
  pub count : ℕ

-- these were fed
pub record IsOf (read : Read) (bytes : List ℕ) : Type 0 where
  pub front : read.front ≡ take 107 bytes
  pub count : read.count ≡ length bytes

-- these were fed, and may become a header
pub record HasRead (read : Read) (bytes : List ℕ) : Type 0 where
  pub is : IsOf read bytes
  pub may : MayStill bytes

-- no more bytes than a header may have
pub record IsWithin (bytes : List ℕ) : Type 0 where
  pub text : is_signed bytes ≡ false → length bytes ≤ 107
  pub binary : is_signed bytes ≡ true → 16 ≤ length bytes → length bytes ≤ 16 + block_len bytes

-- How many bytes are wanted next: up to the least length of a header, then up to the length of version 2 one by one, and from there all of its
-- block; a line is read byte by byte.
abbrev pub wants_of : Read → ℕ
wants_of read =
    if nat_lt read.count 15 then 15 - read.count
    else if nat_lt read.count 16 || not (is_signed read.front) then (if nat_lt read.count 107 then 1 else 0)
    else 16 + block_len read.front - read.count

-- what is told of bytes of which no front was a header
abbrev pub Tells : ProxyState → (bytes : List ℕ) → Type 0
Tells More bytes = MayStill bytes
Tells (Got pair) bytes = IsHeader bytes pair
Tells Bad bytes = NoHeader bytes

-- What a reader tells that was fed these bytes: it goes on; they are a header with this pair; or no header begins so, and none ended before.
abbrev pub Told : ProxyState → Read → (bytes : List ℕ) → Type 0
Told More read bytes = HasRead read bytes
Told (Got pair) read bytes = IsHeader bytes pair
Told Bad read bytes = NoHeader bytes × NoneYet bytes

-- What stands in front of bytes: a header of so many of them, with this pair; no header begins so, and none ended before; or they may become one.
abbrev pub StandsInFront : Front → (bytes : List ℕ) → Type 0
StandsInFront (fronts.Header len pair) bytes = (len ≤ length bytes) × IsHeader (take len bytes) pair
StandsInFront fronts.Other bytes = NoHeader bytes × NoneYet bytes
StandsInFront fronts.Part bytes = MayStill bytes
