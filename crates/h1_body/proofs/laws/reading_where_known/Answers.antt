use Rattle.std.proofs.Common.{ℕ, List, [], refl, inl, inr}
use Rattle.std.specs.Prelude.{Option, Some, None}
use Rattle.http_model.specs.declared.Ending.{Ending}
use Rattle.http_model.specs.Reading.{Whole, Broke, Bad}
use Rattle.h1_body.specs.Body.{BodyAt, Left, UntilClose, InLine, InData, AtReturn, AtFeed, InSection, Over, Hopeless, data_in}
use Rattle.h1_body.specs.BodyOf.{BodyRead, Reads, More, unfinished, closes, Tells, place_of, IsKnownAt}
use Rattle.h1_body.specs.Section.{section_limit, HasNoSectionWithin, IsHopelessSection, trailers_of}
use Rattle.h1_body.specs.Stands.{start_of}
use Rattle.h1_body.proofs.laws.reading_where_known.Goals as goal

-- no section stands there, and one may still come
in_middle : (most : ℕ) (section found : List ℕ) (end : Option Ending) → HasNoSectionWithin most section → ¬ (IsHopelessSection most section)
    → (read : BodyRead) × Tells most (InSection section) found end read
in_middle most section found None none open' = (More found, (refl, none, open'))
in_middle most section found (Some end) none open' = (Reads (Broke found), (refl, none, open'))

known : (most : ℕ) (at : BodyAt) (found : List ℕ) (end : Option Ending) → IsKnownAt most at → (read : BodyRead) × Tells most at found end read
known most (InSection section) found end (inl b) = (Reads (Whole found (trailers_of b.0) b.1), (refl, (b.0, b.2, refl)))
known most (InSection section) found end (inr (none, inl over)) = (Reads (Bad found), (refl, over))
known most (InSection section) found end (inr (none, inr may)) = in_middle most section found end none may
known most (Over rest) found end k = (Reads (Whole found [] rest), refl)
known most UntilClose found end k = (closes found end, refl)
known most Hopeless found end k = (Reads (Bad found), refl)
known most (Left left) found end k = (unfinished found end, refl)
known most (InLine place n) found end k = (unfinished found end, refl)
known most (InData left) found end k = (unfinished found end, refl)
known most AtReturn found end k = (unfinished found end, refl)
known most AtFeed found end k = (unfinished found end, refl)

pub returns : goal.returns
returns c = λ limits framing bytes end k.
    let at : BodyAt = place_of framing bytes in
    let found : List ℕ = data_in (start_of framing) bytes in
    let read = known (section_limit limits) at found end k in
    (read.0, record { at = at; found = found; goes = record { place = refl; piece = refl }; tells = read.1 })
