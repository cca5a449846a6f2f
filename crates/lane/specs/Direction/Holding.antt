-- What a step of a body's reader brought to the filters.
use Rattle.std.specs.Prelude.{◌≡◌, ℕ, ◌+◌, ◌*◌, ◌<◌, ◌⊎◌, List, [], ◌++◌, Bool, true, false, Option, Some, None, length}
use Rattle.http_model.specs.declared.Limits.{Limits}
use Rattle.http_model.specs.declared.Framing.{Framing}
use Rattle.http_model.specs.declared.Ending.{Ending}
use Rattle.http_model.specs.declared.Ending.TheVariants as ending
use Rattle.h1_body.specs.declared.reader.BodyReader.{BodyReader}
use Rattle.h1_body.specs.declared.reader.BodyState.{BodyState}
use Rattle.h1_body.specs.declared.reader.BodyState.TheVariants as state
use Rattle.h1_body.specs.Stands.{HasRead, state_of, ends_of}
use Rattle.body_filter.specs.declared.filter_spec.FilterSpec.{FilterSpec}
use Rattle.lane.specs.Sieve.Sieved.{HasSieved, IsIdle, IsStill, end_of, is_open}
use Rattle.lane.specs.declared.sieve.sieve.BodyEnd.TheVariants as body_end
use Rattle.lane.specs.declared.sieve.sieve.Sieve.{Sieve}
use Rattle.lane.specs.Direction.Pulled.{IsWaiting}
use Rattle.lane.specs.Direction.Filtering.{AreThese, GoesOnBy}

-- bytes left the window; their data, and the section among them, are these
pub record Holds (old new : BodyReader) (before after piece section : List ℕ) (used_any : ℕ) (st : BodyState) : Type 0 where
  pub used : List ℕ
  pub window : before ≡ used ++ after
  pub count : length used ≡ used_any
  pub nothing : used_any ≡ 0 → piece ≡ []
  pub reads : (limits : Limits) (framing : Framing) (bytes found read : List ℕ) → HasRead limits framing bytes found read old
      → HasRead limits framing (bytes ++ used) (found ++ piece) (read ++ section) new
  pub told : st ≡ state_of new
  pub waits : (limits : Limits) (framing : Framing) (bytes found read : List ℕ) → HasRead limits framing bytes found read old → used_any ≡ 0 → IsWaiting new after

-- an end of the stream makes of an open body one that is whole or cut
abbrev pub MeetsEnd : Option Ending → BodyReader → Sieve → Sieve → Type 0
MeetsEnd ended reader old new =
    ((ended ≡ Some ending.Closed) × (ends_of reader ≡ true) × (new ≡ record old { end = body_end.Whole }))
    ⊎ ((how : Ending) × (ended ≡ Some how) × (how ≡ ending.Closed → ends_of reader ≡ false) × (new ≡ record old { end = body_end.Cut }))

-- what was read, and what the filters stand for with it
pub record HoldsSo (limits : Limits) (framing : Framing) (filters : List FilterSpec) (ended : Option Ending) (reader : BodyReader) (used found passed before after : List ℕ) (sieve : Sieve) (more : Bool) : Type 0 where
  pub more_used : List ℕ
  pub piece : List ℕ
  pub section : List ℕ
  pub window : before ≡ more_used ++ after
  pub has_read : HasRead limits framing (used ++ more_used) (found ++ piece) section reader
  pub sieved : HasSieved filters (found ++ piece) passed sieve
  pub goes : GoesOnBy (Some sieve) reader ended after section
  pub waits : more ≡ false → IsWaiting reader after × (state_of reader ≡ state.More)

pub record HoldsNext (ended : Option Ending) (old new : BodyReader) (before after : List ℕ) (sieve sieve' : Sieve) (more : Bool) : Type 0 where
  pub nearer : more ≡ true → 2 * length after + is_open (end_of sieve') < 2 * length before + 1
  pub idle : more ≡ false → (ended ≡ None) × IsIdle sieve' × (IsStill sieve → IsStill sieve')
  pub these : (filters : List FilterSpec) (found passed : List ℕ) → HasSieved filters found passed sieve → AreThese (Some sieve') filters
  pub leads : (limits : Limits) (framing : Framing) (filters : List FilterSpec) (used found passed : List ℕ) → HasRead limits framing used found [] old → HasSieved filters found passed sieve
      → HoldsSo limits framing filters ended new used found passed before after sieve' more

-- the same where there may be no filters, which hold nothing
abbrev pub HoldsBy : Option Ending → BodyReader → BodyReader → (before after : List ℕ) → Option Sieve → Option Sieve → Bool → Type 0
HoldsBy ended old new before after None sieve' more = (sieve' ≡ None) × (more ≡ false) × (after ≡ before) × (new ≡ old)
HoldsBy ended old new before after (Some sieve) sieve' more = (s : Sieve) × (sieve' ≡ Some s) × HoldsNext ended old new before after sieve s more
