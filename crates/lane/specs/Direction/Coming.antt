-- What a step of the filters came to.
use Rattle.std.specs.Prelude.{◌≡◌, ℕ, ◌<◌, ◌≤◌, ◌⊎◌, List, [], ◌++◌, Option, Some, None}
use Rattle.htx_model.specs.Block.{Block}
use Rattle.htx_model.specs.Blocks.{append_data, Fits}
use Rattle.http_model.specs.Head.{Field}
use Rattle.h1_body.specs.Section.{HasTrailers}
use Rattle.h1_body.specs.Trailers.{trailer_blocks}
use Rattle.body_filter.specs.declared.filter_spec.FilterSpec.{FilterSpec}
use Rattle.lane.specs.Sieve.Sieved.{HasSieved, IsIdle, IsStill, IsAllGiven, IsRefused, end_of, section_in, sift_left}
use Rattle.lane.specs.declared.sieve.sieve.BodyEnd.{BodyEnd}
use Rattle.lane.specs.declared.sieve.sieve.BodyEnd.TheVariants as body_end
use Rattle.lane.specs.declared.sieve.sieve.Sifted.{Sifted}
use Rattle.lane.specs.declared.sieve.sieve.Sifted.TheVariants as sifted
use Rattle.lane.specs.declared.sieve.sieve.Sieve.{Sieve}
use Rattle.lane.specs.declared.direction.sift.Came.{Came}
use Rattle.lane.specs.declared.direction.sift.Came.TheVariants as came
use Rattle.http_model.specs.declared.Source.{Source}
use Rattle.http_model.specs.declared.Source.TheVariants as source

-- what the filters' answer comes to
abbrev pub came_at : Sifted → Came
came_at sifted.Gave = came.More
came_at sifted.Accepted = came.More
came_at sifted.Idle = came.Waits
came_at sifted.Cut = came.Ends (source.Cut 400)
came_at (sifted.Refused code) = came.Ends (source.Cut code)

-- the end is the same, or one that was accepted
abbrev pub SameEnd : BodyEnd → BodyEnd → Type 0
SameEnd old new = (new ≡ old) ⊎ ((old ≡ body_end.Whole) × (new ≡ body_end.Accepted))

-- the body is cut: it is cut and the filters refused nothing of it, or they refused it
abbrev pub IsCutNow : BodyEnd → List FilterSpec → (found passed : List ℕ) → (code : ℕ) → Type 0
IsCutNow end filters found passed code = ((end ≡ body_end.Cut) × (code ≡ 400) × IsAllGiven filters found passed) ⊎ IsRefused end filters found passed code

-- some bytes were given, and stand in the array
pub record Given (filters : List FilterSpec) (found passed : List ℕ) (old new : Sieve) (blocks : List Block) : Type 0 where
  pub piece : List ℕ
  pub put : blocks ≡ append_data [] piece
  pub sieved : HasSieved filters found (passed ++ piece) new
  pub section : section_in new ≡ section_in old

abbrev pub EndsWith : Source → List FilterSpec → (found passed : List ℕ) → (size : ℕ) → Sieve → Sieve → List Block → Type 0
EndsWith source.Going filters found passed size old new blocks = ⊥
EndsWith source.Whole filters found passed size old new blocks =
    (end_of old ≡ body_end.Accepted) × (new ≡ old)
    × ((trailers : List Field) → HasTrailers (section_in old) trailers → Fits (trailer_blocks trailers) size → blocks ≡ trailer_blocks trailers)
EndsWith (source.Cut code) filters found passed size old new blocks =
    (g : Given filters found passed old new blocks) × IsCutNow (end_of old) filters found (passed ++ g.piece) code × (sift_left new ≤ sift_left old)

-- what each answer says
abbrev pub ComesTo : Came → List FilterSpec → (found passed : List ℕ) → (size : ℕ) → Sieve → Sieve → List Block → Type 0
ComesTo came.More filters found passed size old new blocks =
    Given filters found passed old new blocks × SameEnd (end_of old) (end_of new) × (sift_left new < sift_left old)
ComesTo came.Waits filters found passed size old new blocks =
    (blocks ≡ []) × HasSieved filters found passed new × IsIdle new × IsStill new × (end_of new ≡ end_of old) × (section_in new ≡ section_in old)
ComesTo (came.Ends src) filters found passed size old new blocks = EndsWith src filters found passed size old new blocks

abbrev pub Comes : Came → (size : ℕ) → Sieve → Sieve → List Block → Type 0
Comes answer size old new blocks = (filters : List FilterSpec) (found passed : List ℕ) → HasSieved filters found passed old → ComesTo answer filters found passed size old new blocks

-- the same where there may be no filters, which wait for nothing
abbrev pub ComesBy : Came → (size : ℕ) → Option Sieve → Option Sieve → List Block → Type 0
ComesBy answer size None sieve' blocks = (sieve' ≡ None) × (answer ≡ came.Waits) × (blocks ≡ [])
ComesBy answer size (Some sieve) sieve' blocks = (s : Sieve) × (sieve' ≡ Some s) × Comes answer size sieve s blocks
