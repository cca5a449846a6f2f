-- Readings that ask for patterns to be built. A definition says two things of a text: which patterns are asked for, in
-- their order, and what the text comes to where each of them is built.
use Rattle.std.specs.Prelude.{◌≡◌, ℕ, List, [], ◌∷◌, ◌++◌, Option, None, Some, slice_get, Result, Ok, Err}
use Rattle.px_pattern.specs.Pattern.{Pattern}
use Rattle.px_pattern.specs.Refusals.{Kept, Rose}

pub record Reading (K A : Type 0) : Type 0 where
  -- the patterns, up to the end of the text or to its first fault of another kind
  pub asks : List Pattern
  -- what it comes to where each is built
  pub gives : Result A K

-- a reading that asks for nothing
abbrev pub plain : {K A : Type 0} → Result A K → Reading K A
plain gives = record { asks = []; gives = gives }

-- a pattern is built
abbrev pub built : {K : Type 0} → Pattern → Reading K Pattern
built p = record { asks = p ∷ []; gives = Ok p }

-- what follows a step that gave a value; a refused step decides
abbrev pub given_by : {K A B : Type 0} → Result A K → (A → Reading K B) → Result B K
given_by (Ok x) f = (f x).gives
given_by (Err kind) f = Err kind

abbrev pub asked_by : {K A B : Type 0} → Result A K → (A → Reading K B) → List Pattern
asked_by (Ok x) f = (f x).asks
asked_by (Err kind) f = []

infixl 10 ◌>>=◌
abbrev pub ◌>>=◌ : {K A B : Type 0} → Reading K A → (A → Reading K B) → Reading K B
r >>= f = record { asks = r.asks ++ asked_by r.gives f; gives = given_by r.gives f }

-- the same with other kinds of refusals
abbrev pub kind_as : {K L A : Type 0} → (K → L) → Result A K → Result A L
kind_as turned (Ok x) = Ok x
kind_as turned (Err kind) = Err (turned kind)

abbrev pub in_kinds : {K L A : Type 0} → (K → L) → Reading K A → Reading L A
in_kinds turned r = record { asks = r.asks; gives = kind_as turned r.gives }

-- ---- where the builder refuses

-- where the builder refuses the pattern of this number, counted from 0 in the order of the text, that is the refusal
abbrev pub refused_by : {K A : Type 0} → K → Result A K → Option Pattern → Result A K
refused_by unbuilt gives None = gives
refused_by unbuilt gives (Some p) = Err unbuilt

abbrev pub decided : {K A : Type 0} → (unbuilt : K) → Reading K A → Option ℕ → Result A K
decided unbuilt r None = r.gives
decided unbuilt r (Some number) = refused_by unbuilt r.gives (slice_get r.asks number)

-- ---- what code gives

-- why code gave no value: by what the text says, by the builder, or for want of memory
pub data Cause (K : Type 0) : Type 0 where
  Refused : K → Cause K
  Unbuilt : Cause K
  NoMemory : Cause K

-- the pattern was asked for, and its build is the last refused one, which came in this call
pub record IsRefused (asks : List Pattern) (before after : ℕ) (kept : Kept) : Type 0 where
  pub rose : Rose before after
  pub number : ℕ
  pub pattern : Pattern
  pub asked : slice_get asks number ≡ Some pattern
  pub is_last : kept ≡ Some (pattern.text, pattern.icase)

-- a refusal is the one that the definition gives, or a pattern's; want of memory is free
abbrev pub Fails : {K A : Type 0} → Reading K A → (before after : ℕ) → Kept → Cause K → Type 0
Fails reading before after kept (Refused kind) = (reading.gives ≡ Err kind) × (after ≡ before)
Fails reading before after kept Unbuilt = IsRefused reading.asks before after kept
Fails reading before after kept NoMemory = after ≡ before

-- What was returned, seen by a view, is what the definition gives, and no build was refused; or else a pattern that it
-- asks for was.
abbrev pub Reads : {K A X F : Type 0} → (F → Cause K) → (X → A) → Reading K A → (before after : ℕ) → Kept → Result X F → Type 0
Reads cause view reading before after kept (Ok x) = (reading.gives ≡ Ok (view x)) × (after ≡ before)
Reads cause view reading before after kept (Err fault) = Fails reading before after kept (cause fault)
