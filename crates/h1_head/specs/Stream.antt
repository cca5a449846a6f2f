-- Which head a stream begins with, and what the whole stream therefore reads as (RFC 9112 sections 2.1 and 2.2).
use Rattle.std.specs.Prelude.{◌≡◌, ◌≢◌, ℕ, ◌≤◌, ◌⊎◌, List, [], ◌∷◌, ◌&&◌, if◌then◌else◌, ◌==◌, Ok, Err}
use Rattle.http_model.specs.declared.Limits.{Limits}
use Rattle.http_model.specs.Reading.{HeadReading, Nothing, Refused, Begins}
use Rattle.h1_head.specs.Numbers.{most_fields}
use Rattle.h1_head.specs.declared.answer.HeadWhy.{HeadWhy}
use Rattle.h1_head.specs.declared.answer.HeadWhy.TheVariants as why
use Rattle.h1_head.specs.Kind.{HeadKind}

-- the bytes behind the empty lines in front, which end in CR LF or in LF alone
abbrev pub behind : List ℕ → List ℕ
behind [] = []
behind (a ∷ []) = if a == 10 then [] else a ∷ []
behind (a ∷ b ∷ bytes) =
    if a == 10 then behind (b ∷ bytes) else if a == 13 && b == 10 then behind bytes else a ∷ b ∷ bytes

-- the bytes are a head within the limits, without empty lines in front, and then rest
pub record BeginsWith (K : HeadKind) (limits : Limits) (bytes : List ℕ) (h : K.Tree) (rest : List ℕ) : Type 0 where
  pub reads : K.Reads bytes h rest
  pub unled : K.blank h ≡ []
  pub short : K.size h ≤ limits.bufsize
  pub few : K.count h ≤ most_fields

-- the grammar parses no front of the bytes, whatever its size and its status
abbrev pub HasNone : HeadKind → List ℕ → Type 0
HasNone K bytes = (h : K.Tree) (rest : List ℕ) → ¬ (K.Parses bytes h rest)

-- no front of the bytes is a head within the limits
abbrev pub HasNoHead : HeadKind → Limits → List ℕ → Type 0
HasNoHead K limits bytes = (h : K.Tree) (rest : List ℕ) → ¬ (BeginsWith K limits bytes h rest)

-- it is known whether some front of the bytes is a head within the limits
abbrev pub IsKnown : HeadKind → Limits → List ℕ → Type 0
IsKnown K limits bytes = ((h : K.Tree) × (rest : List ℕ) × BeginsWith K limits bytes h rest) ⊎ HasNoHead K limits bytes

-- a head within the limits stands behind the empty lines, and the rows refuse it for this reason
pub record HasRefusedHead (K : HeadKind) (limits : Limits) (stream : List ℕ) (why : HeadWhy) : Type 0 where
  pub head : K.Tree
  pub rest : List ℕ
  pub begins : BeginsWith K limits (behind stream) head rest
  pub refused : K.decides limits head ≡ Err why

-- there is something behind the empty lines, and it does not begin with a head within the limits
pub record IsHeadless (K : HeadKind) (limits : Limits) (stream : List ℕ) : Type 0 where
  pub some : behind stream ≢ []
  pub none : HasNoHead K limits (behind stream)

-- What a whole stream reads as: nothing where it is empty lines alone, else a refusal for its grammar where no head within
-- the limits begins it, else what the rows make of its one head.
abbrev pub HeadOf : HeadKind → Limits → List ℕ → HeadReading → Type 0
HeadOf K limits stream Nothing = behind stream ≡ []
HeadOf K limits stream (Refused code) =
    (IsHeadless K limits stream × (code ≡ K.code why.Grammar))
    ⊎ ((why : HeadWhy) × HasRefusedHead K limits stream why × (code ≡ K.code why))
HeadOf K limits stream (Begins got rest) =
    (h : K.Tree) × BeginsWith K limits (behind stream) h rest × (K.decides limits h ≡ Ok got)
