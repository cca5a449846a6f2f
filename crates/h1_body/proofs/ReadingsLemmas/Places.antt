-- At each place it is known what it tells.
use Rattle.std.proofs.Common.{ℕ}
use Rattle.h1_body.specs.Body.{BodyAt, Left, UntilClose, InLine, InData, AtReturn, AtFeed, InSection, Over, Hopeless}
use Rattle.h1_body.specs.BodyOf.{IsKnownAt}
use Rattle.h1_body.proofs.ReadingsLemmas.Sections.{section_known}

pub known_at : (most : ℕ) (at : BodyAt) → IsKnownAt most at
known_at most (InSection section) = section_known most section
known_at most (Over rest) = tt
known_at most UntilClose = tt
known_at most Hopeless = tt
known_at most (Left left) = tt
known_at most (InLine place n) = tt
known_at most (InData left) = tt
known_at most AtReturn = tt
known_at most AtFeed = tt
