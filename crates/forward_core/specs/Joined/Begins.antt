-- Whether a refusal or a reply that goes out has begun.
use Rattle.std.specs.Prelude.{◌≡◌, true, false, nat_lt, length}
use Rattle.std.proofs.Common.{subst}
use Rattle.http_rules.specs.declared.config.Config.{Config}
use Rattle.http_rules.specs.Lives.{answering}
use Rattle.session_core.specs.Place.{Place, is_saying}
use Rattle.session_core.specs.Place as at
use Rattle.session_core.specs.Sided.{Sided, asker_in}
use Rattle.forward_core.specs.Meaning.Product.{meaning_of}
use Rattle.forward_core.specs.Request.Seen as requests
use Rattle.forward_core.specs.Answer.Seen as answers
use Rattle.forward_core.specs.Answer.Stands.{StandsAt}
use Rattle.forward_core.specs.declared.request.place.Place.{Place as Asked}
use Rattle.forward_core.specs.declared.answer.place.Place.{Place as Answered}
use Rattle.forward_core.specs.declared.answer.place.Place.TheVariants as answered
use Rattle.forward_core.specs.declared.joined.directions.Directions.{Directions}
use Rattle.forward_core.specs.Joined.Joined.{StandAt, DirectionsStand, Placed, answer_of}

-- a text is said at a place where one is
pub says_at : (at : Place) (r : Asked) (a : Answered) → is_saying at ≡ true → StandAt at r a → a ≡ answered.Saying
says_at at.Reads r a says h = absurd (let e : false ≡ true = says in cc e)
says_at at.Opens r a says h = absurd (let e : false ≡ true = says in cc e)
says_at at.Serves r a says h = absurd (let e : false ≡ true = says in cc e)
says_at at.Says r a says h = h.1
says_at at.Replies r a says h = h.1
says_at at.Ends r a says h = absurd (let e : false ≡ true = says in cc e)

-- it has exactly where less than all of it is left
pub begins : (cfg : Config) (d : Directions) (p : Sided (meaning_of cfg)) (at : Place) → DirectionsStand cfg d p → is_saying at ≡ true → Placed d at
    → (answer_of d).begun ≡ nat_lt (length p.saying.left) (length p.saying.text)
begins cfg d p at s says placed =
    let is : answers.place_of d.answer ≡ answered.Saying = says_at at (requests.place_of d.request) (answers.place_of d.answer) says placed.is_at.stand in
    let said : StandsAt answered.Saying d.answer.status cfg (asker_in p.asking) (answering p.asking.vars) d.answer.lane p.server p.to_client p.now p.saying =
    subst (λ (x : Answered). StandsAt x d.answer.status cfg (asker_in p.asking) (answering p.asking.vars) d.answer.lane p.server p.to_client p.now p.saying) is s.answer.at in said.4
