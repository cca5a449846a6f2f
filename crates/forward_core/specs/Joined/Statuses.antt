-- The status that a core tells.
use Rattle.std.specs.Prelude.{◌≡◌, ℕ, Option, None}
use Rattle.std.proofs.Common.{subst, ap, sym}
use Rattle.http_rules.specs.declared.config.Config.{Config}
use Rattle.http_rules.specs.Lives.{answering}
use Rattle.session_core.specs.Place.{Place}
use Rattle.session_core.specs.Place as at
use Rattle.session_core.specs.Sided.{Sided, asker_in}
use Rattle.session_core.specs.Statuses.{StatusAt, SaysStatus}
use Rattle.forward_core.specs.Meaning.Product.{meaning_of}
use Rattle.forward_core.specs.Answer.Seen.{status_at as status_in}
use Rattle.forward_core.specs.Answer.Begins.{says_status}
use Rattle.forward_core.specs.Answer.Stands.{StandsAt}
use Rattle.forward_core.specs.declared.answer.place.Place.{Place as Answered}
use Rattle.forward_core.specs.declared.answer.place.Place.TheVariants as answered
use Rattle.forward_core.specs.declared.joined.directions.Directions.{Directions}
use Rattle.forward_core.specs.Joined.Joined.{DirectionsStand, Placed, answer_of}

-- none in front of an answer
none_at : (d : Directions) → d.answer.place ≡ answered.Idle → (answer_of d).status ≡ None
none_at d idle = ap (λ (x : Answered). status_in x d.answer.status) idle

-- that of what is said
said_at : (cfg : Config) (d : Directions) (p : Sided (meaning_of cfg)) → DirectionsStand cfg d p → d.answer.place ≡ answered.Saying → SaysStatus p.saying (answer_of d).status
said_at cfg d p s saying =
    let said : StandsAt answered.Saying d.answer.status cfg (asker_in p.asking) (answering p.asking.vars) d.answer.lane p.server p.to_client p.now p.saying =
    subst (λ (x : Answered). StandsAt x d.answer.status cfg (asker_in p.asking) (answering p.asking.vars) d.answer.lane p.server p.to_client p.now p.saying) saying s.answer.at in
    subst (λ (x : Option ℕ). SaysStatus p.saying x) (ap (λ (x : Answered). status_in x d.answer.status) (sym saying)) (says_status d.answer.status d.answer.lane said.0 p.saying said.2 said.3)

pub status_at : (cfg : Config) (d : Directions) (p : Sided (meaning_of cfg)) (at : Place) → DirectionsStand cfg d p → Placed d at → StatusAt at (answer_of d) p
status_at cfg d p at.Reads s placed = none_at d placed.is_at.stand.1
status_at cfg d p at.Opens s placed = none_at d placed.is_at.stand.1
status_at cfg d p at.Serves s placed = s.laws.statuses d.answer p.asking p.server p.to_client p.now p.saying s.answer placed.is_at.stand.1
status_at cfg d p at.Says s placed = said_at cfg d p s placed.is_at.stand.1
status_at cfg d p at.Replies s placed = said_at cfg d p s placed.is_at.stand.1
status_at cfg d p at.Ends s placed = none_at d placed.is_at.stand.1
