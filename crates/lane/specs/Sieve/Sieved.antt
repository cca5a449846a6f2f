-- What a sieve stands for.
use Rattle.std.specs.Prelude.{◌≡◌, ℕ, ◌+◌, ◌-◌, ◌<◌, ◌≤◌, ◌⊎◌, Bool, true, false, List, [], ◌++◌, length}
use Rattle.htx_model.specs.Block.{Block}
use Rattle.htx_model.specs.Blocks.{append_data}
use Rattle.httparse.specs.Grammar as grammar
use Rattle.h1_body.specs.Section.{BeginsFields}
use Rattle.body_filter.specs.declared.filter_spec.FilterSpec.{FilterSpec}
use Rattle.body_filter.specs.declared.filter_spec.FedState.{FedState}
use Rattle.body_filter.specs.declared.filter_spec.FedState.TheVariants.{Going, Over, Refused}
use Rattle.body_filter.specs.declared.chain.Chain.{Chain}
use Rattle.body_filter.specs.Chain.{HasFiltered, HasFilteredAll, chain_meaning}
use Rattle.body_filter.specs.Filter.{filtered}
use Rattle.lane.specs.declared.sieve.sieve.BodyEnd.{BodyEnd}
use Rattle.lane.specs.declared.sieve.sieve.BodyEnd.TheVariants as body_end
use Rattle.lane.specs.declared.sieve.sieve.Sifted.{Sifted}
use Rattle.lane.specs.declared.sieve.sieve.Sifted.TheVariants as sifted
use Rattle.lane.specs.declared.sieve.sieve.Sieve.{Sieve}

-- how the body ends behind what is held
abbrev pub end_of : Sieve → BodyEnd
end_of sieve = sieve.end

-- the bytes of the body that the filters have not used
abbrev pub held_in : Sieve → List ℕ
held_in sieve = sieve.held.items

-- the trailer section that comes behind them
abbrev pub section_in : Sieve → List ℕ
section_in sieve = sieve.section.items

-- a section of trailers, where one came
abbrev pub IsSection : List ℕ → Type 0
IsSection section = (section ≡ []) ⊎ ((fields : List grammar.Field) × BeginsFields section fields [])

-- the windows of a sieve for arrays of this size, and what stands in them
pub record IsSieve (size : ℕ) (sieve : Sieve) : Type 0 where
  pub wide : 8 < size
  pub held : sieve.held.capacity ≡ size
  pub section : sieve.section.capacity ≡ size
  pub given : length sieve.given.items ≡ size - 8
  pub trailers : IsSection sieve.section.items

-- the filters refuse nothing of a body whose end has come, and gave all that they make of it
abbrev pub IsAllGiven : List FilterSpec → (found passed : List ℕ) → Type 0
IsAllGiven filters found passed = filtered filters true found ≡ record { output = passed; state = Over }

-- the filters used the bytes in front of those that are held
pub record Uses (filters : List FilterSpec) (found passed : List ℕ) (chain : Chain) (held : List ℕ) : Type 0 where
  pub used : List ℕ
  pub found_is : found ≡ used ++ held
  pub has : HasFiltered filters used passed chain

-- the filters used all of the body, whose end has come, and nothing is held
abbrev pub UsesAll : List FilterSpec → (found passed : List ℕ) → Chain → (held : List ℕ) → Type 0
UsesAll filters found passed chain held = (held ≡ []) × HasFilteredAll filters found passed chain

-- Of the body so far, `found`, the filters gave the bytes `passed`; at the end of a body, whole or cut, they may have used all of it.
abbrev pub SievedAt : BodyEnd → List FilterSpec → (found passed : List ℕ) → Chain → (held : List ℕ) → Type 0
SievedAt body_end.Open filters found passed chain held = Uses filters found passed chain held
SievedAt body_end.Cut filters found passed chain held = Uses filters found passed chain held ⊎ UsesAll filters found passed chain held
SievedAt body_end.Whole filters found passed chain held = Uses filters found passed chain held ⊎ UsesAll filters found passed chain held
SievedAt body_end.Accepted filters found passed chain held =
    UsesAll filters found passed chain held × IsAllGiven filters found passed

abbrev pub HasSieved : List FilterSpec → (found passed : List ℕ) → Sieve → Type 0
HasSieved filters found passed sieve = SievedAt sieve.end filters found passed sieve.chain sieve.held.items

-- nothing is held, and more of the body may come
pub record IsIdle (sieve : Sieve) : Type 0 where
  pub end : sieve.end ≡ body_end.Open
  pub held : sieve.held.items ≡ []

-- whether nothing follows what is held
abbrev pub is_ended : BodyEnd → Bool
is_ended body_end.Open = false
is_ended body_end.Whole = true
is_ended body_end.Accepted = true
is_ended body_end.Cut = true

abbrev pub is_open : BodyEnd → ℕ
is_open body_end.Open = 1
is_open body_end.Whole = 0
is_open body_end.Accepted = 0
is_open body_end.Cut = 0

-- of the body so far all was given but what the filters keep back
abbrev pub IsSettled : List FilterSpec → (found passed : List ℕ) → Type 0
IsSettled filters found passed = filtered filters false found ≡ record { output = passed; state = Going }

-- of the bytes that the filters used all was given but what they keep back
abbrev pub IsStill : Sieve → Type 0
IsStill sieve = (filters : List FilterSpec) (used passed : List ℕ) → HasFiltered filters used passed sieve.chain → IsSettled filters used passed

-- The filters refuse the body with this code: however it goes on, or at its end as all that came.
abbrev pub IsRefused : BodyEnd → List FilterSpec → (found passed : List ℕ) → (code : ℕ) → Type 0
IsRefused at filters found passed code =
    ((whole : Bool) (rest : List ℕ) → filtered filters whole (found ++ rest) ≡ record { output = passed; state = Refused code })
    ⊎ ((is_ended at ≡ true) × (filtered filters true found ≡ record { output = passed; state = Refused code }))

-- ---- what is left to do

abbrev pub end_left : BodyEnd → ℕ
end_left body_end.Open = 0
end_left body_end.Cut = 0
end_left body_end.Whole = 1
end_left body_end.Accepted = 0

-- bytes to be used, bytes to be given, and an end to be met
abbrev pub sift_left : Sieve → ℕ
sift_left sieve = length (chain_meaning sieve.chain true sieve.held.items).output + length sieve.held.items + end_left sieve.end

-- ---- a call

-- what filters that are over came to, by how the body ends
abbrev pub over_at : BodyEnd → Sifted
over_at body_end.Open = sifted.Accepted
over_at body_end.Whole = sifted.Accepted
over_at body_end.Accepted = sifted.Accepted
over_at body_end.Cut = sifted.Cut

-- what a call came to, by how the body ends, what the filters said and whether a byte was used or given
abbrev pub answer_at : BodyEnd → FedState → Bool → Sifted
answer_at end Over moved = over_at end
answer_at end (Refused code) moved = sifted.Refused code
answer_at end Going true = sifted.Gave
answer_at end Going false = sifted.Idle

-- what the answer says of the body so far
abbrev pub Tells : Sifted → Sieve → Sieve → (piece : List ℕ) → List FilterSpec → (found passed : List ℕ) → Type 0
Tells sifted.Gave old new piece filters found passed = (new.end ≡ old.end) × (sift_left new < sift_left old)
Tells sifted.Idle old new piece filters found passed =
    (new.end ≡ old.end) × (old.end ≡ body_end.Open) × (held_in new ≡ []) × (piece ≡ []) × IsSettled filters found passed × (sift_left new ≤ sift_left old)
Tells sifted.Accepted old new piece filters found passed = (old.end ≡ body_end.Whole) × (new.end ≡ body_end.Accepted) × (sift_left new < sift_left old)
Tells sifted.Cut old new piece filters found passed =
    (new.end ≡ old.end) × (old.end ≡ body_end.Cut) × (sift_left new ≤ sift_left old) × IsAllGiven filters found (passed ++ piece)
Tells (sifted.Refused code) old new piece filters found passed = (new.end ≡ old.end) × (sift_left new ≤ sift_left old) × IsRefused old.end filters found (passed ++ piece) code

-- Some bytes are given more, and stand in the empty array.
pub record Sifts (old new : Sieve) (answer : Sifted) (blocks : List Block) : Type 0 where
  pub piece : List ℕ
  pub put : blocks ≡ append_data [] piece
  pub still : answer ≡ sifted.Idle → IsStill new
  pub sieved : (filters : List FilterSpec) (found passed : List ℕ) → HasSieved filters found passed old → HasSieved filters found (passed ++ piece) new
  pub tells : (filters : List FilterSpec) (found passed : List ℕ) → HasSieved filters found passed old → Tells answer old new piece filters found passed
