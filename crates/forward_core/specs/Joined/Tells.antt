-- The request line that a core tells.
use Rattle.std.specs.Prelude.{◌≡◌, ◌≢◌, ℕ, List}
use Rattle.std.proofs.Common.{subst, inl, inr}
use Rattle.http_rules.specs.declared.config.Config.{Config}
use Rattle.session_core.specs.History.{Coming}
use Rattle.session_core.specs.Lines.{IsLineOf, ShowsLine, LineAt}
use Rattle.session_core.specs.Place.{Place}
use Rattle.session_core.specs.Place as at
use Rattle.session_core.specs.Sided.{Sided}
use Rattle.forward_core.specs.Meaning.Product.{meaning_of}
use Rattle.forward_core.specs.Request.Seen as requests
use Rattle.forward_core.specs.Request.Stands.{TellsLine}
use Rattle.forward_core.specs.declared.request.place.Place.{Place as Asked}
use Rattle.forward_core.specs.declared.request.place.Place.TheVariants as asked
use Rattle.forward_core.specs.declared.answer.place.Place.{Place as Answered}
use Rattle.forward_core.specs.Answer.Seen as answers
use Rattle.forward_core.specs.declared.joined.directions.Directions.{Directions}
use Rattle.forward_core.specs.Joined.Joined.{StandAt, DirectionsStand, Placed, request_of}

of_shown : (cfg : Config) (came : Coming) (line : List ℕ) → ShowsLine (meaning_of cfg) came line → IsLineOf (meaning_of cfg) came line
of_shown cfg came line (inl none) = inl none.0
of_shown cfg came line (inr h) = inr h

-- what is told is the line or nothing
of_told : (r : Asked) (cfg : Config) (came : Coming) (line : List ℕ) → TellsLine r cfg came line → IsLineOf (meaning_of cfg) came line
of_told asked.Reading cfg came line h = inl h
of_told asked.Sending cfg came line h = inr h
of_told asked.Idle cfg came line h = of_shown cfg came line h
of_told asked.Replied cfg came line h = inr h

-- behind a head it is nothing only where none comes
shown : (r : Asked) (cfg : Config) (came : Coming) (line : List ℕ) → r ≢ asked.Reading → TellsLine r cfg came line → ShowsLine (meaning_of cfg) came line
shown asked.Reading cfg came line behind h = absurd (behind (λ i. asked.Reading))
shown asked.Sending cfg came line behind h = inr h
shown asked.Idle cfg came line behind h = h
shown asked.Replied cfg came line behind h = inr h

told_in : (r s : Asked) (cfg : Config) (came : Coming) (line : List ℕ) → r ≡ s → TellsLine r cfg came line → TellsLine s cfg came line
told_in r s cfg came line e h = subst (λ (x : Asked). TellsLine x cfg came line) e h

by_place : (at : Place) (r : Asked) (a : Answered) (cfg : Config) (came : Coming) (line : List ℕ) → StandAt at r a → TellsLine r cfg came line → LineAt at (meaning_of cfg) came line
by_place at.Reads r a cfg came line s h = told_in r asked.Reading cfg came line s.0 h
by_place at.Opens r a cfg came line s h = told_in r asked.Sending cfg came line s.0 h
by_place at.Serves r a cfg came line s h = told_in r asked.Sending cfg came line s.0 h
by_place at.Says r a cfg came line s h = shown r cfg came line s.0 h
by_place at.Replies r a cfg came line s h = told_in r asked.Replied cfg came line s.0 h
by_place at.Ends r a cfg came line s h = told_in r asked.Idle cfg came line s.0 h

pub line_is : (cfg : Config) (d : Directions) (p : Sided (meaning_of cfg)) → DirectionsStand cfg d p → IsLineOf (meaning_of cfg) p.came (request_of d).line
line_is cfg d p s = of_told (requests.place_of d.request) cfg p.came (requests.line_of d.request) s.request.line

pub line_at : (cfg : Config) (d : Directions) (p : Sided (meaning_of cfg)) (at : Place) → DirectionsStand cfg d p → Placed d at → LineAt at (meaning_of cfg) p.came (request_of d).line
line_at cfg d p at s placed = by_place at (requests.place_of d.request) (answers.place_of d.answer) cfg p.came (requests.line_of d.request) placed.is_at.stand s.request.line
