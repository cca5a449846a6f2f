-- What filters make of a body on its way.
use Rattle.std.specs.Prelude.{◌≡◌, ℕ, ◌⊎◌, List, [], ◌++◌, Bool, true, false, Option, Some, None, ⊤}
use Rattle.http_model.specs.declared.Ending.{Ending}
use Rattle.http_model.specs.declared.Ending.TheVariants as ending
use Rattle.h1_body.specs.declared.reader.BodyReader.{BodyReader}
use Rattle.h1_body.specs.declared.reader.BodyState.TheVariants as state
use Rattle.h1_body.specs.Stands.{state_of, ends_of}
use Rattle.body_filter.specs.declared.filter_spec.FilterSpec.{FilterSpec}
use Rattle.body_filter.specs.declared.filter_spec.FedState.TheVariants.{Refused}
use Rattle.body_filter.specs.Filter.{filtered}
use Rattle.lane.specs.Sieve.Sieved.{IsSieve, HasSieved, IsIdle, IsStill, IsAllGiven, end_of, section_in, sift_left}
use Rattle.lane.specs.declared.sieve.sieve.BodyEnd.{BodyEnd}
use Rattle.lane.specs.declared.sieve.sieve.BodyEnd.TheVariants as body_end
use Rattle.lane.specs.declared.sieve.sieve.Sieve.{Sieve}
use Rattle.lane.specs.Direction.Pulled.{IsWaiting}

-- of the body so far the filters gave these bytes; without filters all of it
abbrev pub HasPassed : Option Sieve → List FilterSpec → (found passed : List ℕ) → Type 0
HasPassed None filters found passed = (filters ≡ []) × (passed ≡ found)
HasPassed (Some sieve) filters found passed = HasSieved filters found passed sieve

-- the filters are these
abbrev pub AreThese : Option Sieve → List FilterSpec → Type 0
AreThese None filters = filters ≡ []
AreThese (Some sieve) filters = (found : List ℕ) × (passed : List ℕ) × HasSieved filters found passed sieve

-- the filters are for arrays of this size
abbrev pub SieveFits : ℕ → Option Sieve → Type 0
SieveFits size None = ⊤
SieveFits size (Some sieve) = IsSieve size sieve

-- nothing is held but what the filters keep back
abbrev pub SieveRests : Option Sieve → Type 0
SieveRests None = ⊤
SieveRests (Some sieve) = IsIdle sieve × IsStill sieve

-- ---- how a body ends

-- it is whole where the reader stands, or a close there makes it so
abbrev pub IsWholeAt : BodyReader → Option Ending → (input section : List ℕ) → Type 0
IsWholeAt reader ended input section =
    (state_of reader ≡ state.Whole) ⊎ ((ended ≡ Some ending.Closed) × (ends_of reader ≡ true) × (input ≡ []) × (section ≡ []))

-- it is none, or an end of the stream breaks it off
abbrev pub IsCutAt : BodyReader → Option Ending → (input : List ℕ) → Type 0
IsCutAt reader ended input =
    (state_of reader ≡ state.Bad)
    ⊎ ((how : Ending) × (ended ≡ Some how) × (state_of reader ≡ state.More) × IsWaiting reader input × (how ≡ ending.Closed → ends_of reader ≡ false))

-- its end has come: it is whole, or cut
abbrev pub IsEndAt : BodyReader → Option Ending → (input section : List ℕ) → Type 0
IsEndAt reader ended input section = IsWholeAt reader ended input section ⊎ IsCutAt reader ended input

-- how it ends behind what the filters hold
abbrev pub EndsAt : BodyEnd → BodyReader → Option Ending → (input section : List ℕ) → Type 0
EndsAt body_end.Open reader ended input section = section ≡ []
EndsAt body_end.Whole reader ended input section = IsWholeAt reader ended input section
EndsAt body_end.Accepted reader ended input section = IsWholeAt reader ended input section
EndsAt body_end.Cut reader ended input section = IsCutAt reader ended input

-- while the source goes on: nothing ended, or the filters still hold something in front of an end
abbrev pub GoesOnBy : Option Sieve → BodyReader → Option Ending → (input section : List ℕ) → Type 0
GoesOnBy None reader ended input section = section ≡ []
GoesOnBy (Some sieve) reader ended input section = EndsAt (end_of sieve) reader ended input section × (section_in sieve ≡ section)

-- Why a body is cut with this code: it broke off or is none, and no filter refused what came; or a filter refused it, however it
-- goes on, or at its end as all that came.
pub data CutBy (filters : List FilterSpec) (reader : BodyReader) (ended : Option Ending) (input section found passed : List ℕ) (code : ℕ) : Type 0 where
  Broken : code ≡ 400 → IsCutAt reader ended input → IsAllGiven filters found passed → CutBy filters reader ended input section found passed code
  RefusedNow : ((whole : Bool) (rest : List ℕ) → filtered filters whole (found ++ rest) ≡ record { output = passed; state = Refused code }) → CutBy filters reader ended input section found passed code
  RefusedAtEnd : IsEndAt reader ended input section → filtered filters true found ≡ record { output = passed; state = Refused code } → CutBy filters reader ended input section found passed code

-- ---- what is left to do

abbrev pub held_left : Option Sieve → ℕ
held_left None = 0
held_left (Some sieve) = sift_left sieve
