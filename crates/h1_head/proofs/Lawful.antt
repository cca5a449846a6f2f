-- What the readings of both kinds of heads rest on.
use Rattle.std.proofs.Common.{◌≡◌, ℕ, ◌+◌, ◌<◌, ◌≤◌, ◌⊎◌, inl, inr, Bool, true, false, List, [], ◌++◌, length, drop, arith}
use Rattle.std.specs.Prelude.{Option, Some, None, Result, Ok, Err}
use Rattle.std.proofs.lemmas.Bool.{cases_lt}
use Rattle.http_model.specs.declared.Limits.{Limits}
use Rattle.http_model.specs.Reading.{Received}
use Rattle.h1_head.specs.Numbers.{most_fields, most_lines}
use Rattle.h1_head.specs.declared.answer.HeadWhy.{HeadWhy}
use Rattle.h1_head.specs.declared.answer.HeadWhy.TheVariants as why
use Rattle.h1_head.specs.Kind.{HeadKind}
use Rattle.h1_head.specs.Stream.{behind, BeginsWith, HasNone, HasNoHead}
use Rattle.h1_head.specs.Decides.{Overflows}
use Rattle.h1_head.specs.Feeds.{feeds}

-- the rows name neither Grammar nor Long
abbrev pub is_row : HeadWhy → Bool
is_row why.Grammar = false
is_row why.Long = false
is_row _ = true

abbrev pub row_or_none : Option HeadWhy → Bool
row_or_none None = true
row_or_none (Some w) = is_row w

abbrev pub row_or_kept : Result Received HeadWhy → Bool
row_or_kept (Ok got) = true
row_or_kept (Err w) = is_row w

-- What is read parses, and the tree alone tells whether what parses is read. What parses is unique and stays, one that
-- reaches past the window has more lines than the window, each has two bytes, and the rows decide as rows do.
pub record IsLawful (K : HeadKind) : Type 0 where
  pub parses : (text : List ℕ) (h : K.Tree) (rest : List ℕ) → K.Reads text h rest → K.Parses text h rest
  pub reads : (text other : List ℕ) (h : K.Tree) (rest left : List ℕ) → K.Parses text h rest → K.Reads other h left → K.Reads text h rest
  pub unique : (text : List ℕ) (h k : K.Tree) (r q : List ℕ) → K.Parses text h r → K.Parses text k q → (h ≡ k) × (r ≡ q)
  pub append : (text : List ℕ) (h : K.Tree) (rest more : List ℕ) → K.Parses text h rest → K.Parses (text ++ more) h (rest ++ more)
  pub within : (text more : List ℕ) (h : K.Tree) (rest : List ℕ) → K.Parses (text ++ more) h rest → K.size h ≤ length text → K.Parses text h (drop (K.size h) text)
  pub lines : (text more : List ℕ) (h : K.Tree) (rest : List ℕ) → K.Parses (text ++ more) h rest → K.blank h ≡ [] → length text < K.size h → feeds text < 2 + K.count h
  pub least : (text : List ℕ) (h : K.Tree) (rest : List ℕ) → K.Parses text h rest → 2 ≤ length text
  pub shorter : (text : List ℕ) (h : K.Tree) (rest : List ℕ) → K.Parses text h rest → length rest < length text
  pub full : (text : List ℕ) (h : K.Tree) (rest : List ℕ) → K.Parses text h rest → K.blank h ≡ [] → 2 + K.count h ≤ feeds text
  pub unled : (text : List ℕ) (h : K.Tree) (rest : List ℕ) → K.Parses text h rest → behind text ≡ text → K.blank h ≡ []
  pub codes_same : K.code why.Long ≡ K.code why.Grammar
  pub rows : (limits : Limits) (h : K.Tree) → row_or_kept (K.decides limits h) ≡ true

-- nothing that parses is one byte or none
pub no_short_head : (K : HeadKind) → IsLawful K → (text : List ℕ) → length text ≤ 1 → HasNone K text
no_short_head K laws text short h rest parses =
    let long : 2 ≤ length text = laws.least text h rest parses in
    absurd (omega arith)

-- what makes a head within the limits impossible
pub no_room_left : (K : HeadKind) → IsLawful K → (limits : Limits) (text more : List ℕ) → HasNone K text
    → (limits.bufsize ≤ length text) ⊎ (most_lines ≤ feeds text) → HasNoHead K limits (text ++ more)
no_room_left K laws limits text more none full h rest begins =
    let parses = laws.parses (text ++ more) h rest begins.reads in
    elim (cases_lt (length text) (K.size h)) [
      | inr long ↦ none h _ (laws.within text more h rest parses long)
      | inl short ↦
          let fewer : feeds text < 2 + K.count h = laws.lines text more h rest parses begins.unled short in
          let size : K.size h ≤ limits.bufsize = begins.short in
          let few : K.count h ≤ most_fields = begins.few in
          elim full [ inl big ↦ omega arith | inr many ↦ omega arith ]
    ]

pub overflowing : (K : HeadKind) (limits : Limits) (text more : List ℕ) → Overflows K text → HasNoHead K limits (text ++ more)
overflowing K limits text more over h rest begins =
    let many : most_fields < K.count h = over more h rest begins.reads in
    let few : K.count h ≤ most_fields = begins.few in
    omega arith

pub BeginsWith-append : (K : HeadKind) → IsLawful K → (limits : Limits) (text more : List ℕ) (h : K.Tree) (rest : List ℕ) → BeginsWith K limits text h rest → BeginsWith K limits (text ++ more) h (rest ++ more)
BeginsWith-append K laws limits text more h rest b =
    let parses = laws.append text h rest more (laws.parses text h rest b.reads) in
    record { reads = laws.reads (text ++ more) text h (rest ++ more) rest parses b.reads; unled = b.unled; short = b.short; few = b.few }
