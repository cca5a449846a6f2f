-- Places that bytes can lead to.
use Rattle.std.specs.Prelude.{◌≡◌, ◌<◌, ⊤, true}
use Rattle.h1_body.specs.Line.{goes_on}
use Rattle.h1_body.specs.Body.{BodyAt, Left, UntilClose, InLine, InData, AtReturn, AtFeed, InSection, Over, Hopeless}

-- what a place in chunks is that bytes can lead to
abbrev pub Live : BodyAt → Type 0
Live (InLine place n) = goes_on place n ≡ true
Live (InData left) = 0 < left
Live AtReturn = ⊤
Live AtFeed = ⊤
Live (InSection section) = ⊤
Live Hopeless = ⊤
Live (Left left) = ⊥
Live UntilClose = ⊥
Live (Over rest) = ⊥
