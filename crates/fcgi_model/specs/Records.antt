-- The records of a request (FastCGI 1.0 sections 3.3, 5.1 to 5.3).
use Rattle.std.specs.Prelude.{◌≡◌, ◌≢◌, ℕ, ◌+◌, ◌≤◌, ◌⊎◌, Bool, true, false, nat_le, nat_lt, if◌then◌else◌, List, [], ◌∷◌, ◌++◌, length, All, Option, Some, None}
use Rattle.std.specs.List.{flat_map, fold}
use Rattle.fcgi_record.specs.Heads.{head_bytes}
use Rattle.fcgi_record.specs.Pairs.{pair_bytes}
use Rattle.fcgi_record.specs.Kinds.{kind_byte}
use Rattle.fcgi_record.specs.declared.record_kind.RecordKind.{RecordKind}
use Rattle.fcgi_record.specs.declared.record_kind.RecordKind.TheVariants.{BeginRequest, Params, Stdin}
use Rattle.fcgi_model.specs.Pairs.{Pair}

-- a record of the one request, without padding
abbrev pub record_bytes : RecordKind → (content : List ℕ) → List ℕ
record_bytes kind content = head_bytes (record { kind = kind_byte kind; id = 1; len = length content; pad = 0 }) 0 ++ content

-- the record that begins a request: a responder, whose connection is closed behind it
abbrev pub begin_record : List ℕ
begin_record = record_bytes BeginRequest (0 ∷ 1 ∷ 0 ∷ 0 ∷ 0 ∷ 0 ∷ 0 ∷ 0 ∷ [])

-- what a record holds, unless a single pair has more
abbrev pub most_content : ℕ
most_content = 8192

-- what a record can hold
abbrev pub most_alone : ℕ
most_alone = 65535

-- ---- pairs

-- a pair: both lengths, the name and the value
abbrev pub pair_text : Pair → List ℕ
pair_text pair = pair_bytes pair.0 pair.1

-- records that hold whole pairs
pub record Packing : Type 0 where
  -- the records that are whole
  pub text : List ℕ
  -- the pairs of the next one
  pub content : List ℕ
  -- a pair was longer than a record can be
  pub long : Bool

abbrev pub nothing : Packing
nothing = record { text = []; content = []; long = false }

-- a record of these pairs, where there are some
abbrev pub pairs_record : List ℕ → List ℕ
pairs_record [] = []
pairs_record (b ∷ content) = record_bytes Params (b ∷ content)

abbrev pub closed : Packing → Packing
closed packing = record { text = packing.text ++ pairs_record packing.content; content = []; long = packing.long }

abbrev pub refused : Packing → Packing
refused packing = record { text = packing.text; content = packing.content; long = true }

-- the record is closed where so many bytes more don't fit
abbrev pub with_room : ℕ → Packing → Packing
with_room size packing = if nat_le (length packing.content + size) most_content then packing else closed packing

abbrev pub joined : Packing → List ℕ → Packing
joined packing pair = record { text = packing.text; content = packing.content ++ pair; long = packing.long }

-- Another pair stands whole in the next record: behind those that it has where it fits, else alone in front of those that follow.
unfoldable pub put : Packing → Pair → Packing
put packing pair =
    let size = length (pair_text pair) in
    if nat_lt most_alone size then refused packing else joined (with_room size packing) (pair_text pair)

-- these pairs, in order
abbrev pub put_all : Packing → List Pair → Packing
put_all packing pairs = fold put packing pairs

-- all records, and the empty one behind them; none where a pair was too long
abbrev pub finished : Packing → Option (List ℕ)
finished packing = if packing.long then None else Some ((closed packing).text ++ record_bytes Params [])

-- the records of pairs
abbrev pub params_of : List Pair → Option (List ℕ)
params_of pairs = finished (put_all nothing pairs)

-- the bytes of pairs, one after the other
abbrev pub pairs_text : List Pair → List ℕ
pairs_text pairs = flat_map pair_text pairs

-- pairs that one record holds: some, and no more than it should unless it is a single one
pub record IsGroup (pairs : List Pair) : Type 0 where
  pub some : pairs ≢ []
  pub most : length (pairs_text pairs) ≤ most_alone
  pub many : (length (pairs_text pairs) ≤ most_content) ⊎ (length pairs ≡ 1)

-- records of these pairs, in order, none of which cuts a pair, and the empty one
pub record HoldsWhole (pairs : List Pair) (text : List ℕ) : Type 0 where
  pub groups : List (List Pair)
  pub each : All IsGroup groups
  pub joined : flat_map (λ group. group) groups ≡ pairs
  pub spelled : text ≡ flat_map (λ group. record_bytes Params (pairs_text group)) groups ++ record_bytes Params []

-- ---- the body

-- the content of a record of the body
abbrev pub IsContent : List ℕ → Type 0
IsContent content = (content ≢ []) × (length content ≤ most_content)

-- Records of the body that join to these bytes, none of them empty; the cuts between them are free.
pub record CarriesBody (body text : List ℕ) : Type 0 where
  pub contents : List (List ℕ)
  pub each : All IsContent contents
  pub joined : flat_map (λ content. content) contents ≡ body
  pub spelled : text ≡ flat_map (record_bytes Stdin) contents
