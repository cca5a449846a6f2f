-- How far the replacing of matches came with a text.
use Rattle.std.specs.Prelude.{◌≡◌, ℕ, ◌+◌, ◌<◌, ◌≤◌, List, ◌++◌, length}
use Rattle.px_sample.specs.Buffer.{Buffer}
use Rattle.px_conv.specs.declared.regsub.Left.{Left}
use Rattle.px_conv.specs.declared.regsub.Left.TheVariants as lefts

-- The whole stands behind what the buffer held, or will with what becomes of the text that is left, which `on` says;
-- or else it does not fit there.
abbrev pub Came : (List ℕ → List ℕ) → Buffer → Buffer → List ℕ → Left → Type 0
Came on old new whole (lefts.Text rest) = new.bytes ++ on rest.now ≡ old.bytes ++ whole
Came on old new whole lefts.Nothing = (new.bytes ≡ old.bytes ++ whole) × (length old.bytes + length whole ≤ old.cap)
Came on old new whole lefts.TooLong = old.cap < length old.bytes + length whole

-- the text that is left has fewer bytes than that
abbrev pub IsBelow : ℕ → Left → Type 0
IsBelow len (lefts.Text rest) = length rest.now < len
IsBelow len lefts.Nothing = Unit {0}
IsBelow len lefts.TooLong = Unit {0}
