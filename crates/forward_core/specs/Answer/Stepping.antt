-- What a step of a server's answer comes to.
use Rattle.std.specs.Prelude.{◌≡◌, ℕ, List, ◌++◌, ⊤}
use Rattle.px_sample.specs.Variables.{Variables}
use Rattle.http_rules.specs.declared.config.Config.{Config}
use Rattle.http_rules.specs.Lives.{answering}
use Rattle.forward_core.specs.Rules.Ruling.{config_of}
use Rattle.forward_core.specs.declared.rules.rules.SessionRules.{SessionRules}
use Rattle.session_core.specs.History.{Coming}
use Rattle.session_core.specs.Leads.{AnswerWaits}
use Rattle.session_core.specs.Sided.{Asking, asker_in, Saying}
use Rattle.forward_core.specs.Answer.Seen.{seen, place_of}
use Rattle.forward_core.specs.Answer.Stands.{AnswerStands}
use Rattle.forward_core.specs.declared.answer.place.Place.{Place}
use Rattle.forward_core.specs.declared.answer.place.Place.TheVariants as place
use Rattle.forward_core.specs.declared.answer.side.AnswerSide.{AnswerSide}

-- The variables of the session beside a server's answer: while heads are read, those in front of the rules on it; then those
-- behind the last that answers.
abbrev pub VarsAt : Place → (before now vars : Variables) → Type 0
VarsAt place.Idle before now vars = ⊤
VarsAt place.Heads before now vars = vars ≡ before
VarsAt place.Response before now vars = vars ≡ now
VarsAt place.Closing before now vars = vars ≡ now
VarsAt place.Keeping before now vars = vars ≡ now
VarsAt place.Saying before now vars = ⊤

-- the rules are those of this configuration, and the method is that of the request
pub record RunsFor (rules : SessionRules) (method : List ℕ) (cfg : Config) (asking : Asking Variables) : Type 0 where
  pub config : config_of rules ≡ cfg
  pub asked : method ≡ (asker_in asking).method

-- More of the answer was put out, with these variables behind it, which stand in the rules now. Where that isn't all, it waits for the
-- client or for the server.
pub record StepsOn (cfg : Config) (old new : AnswerSide) (asking : Asking Variables) (server : Coming) (to_client : List ℕ) (saying : Saying) (left : Variables) : Type 0 where
  pub put : List ℕ
  pub behind : Variables
  pub stands : AnswerStands cfg new asking server (to_client ++ put) behind saying
  pub vars : VarsAt (place_of new) (answering asking.vars) behind left
  pub window : (seen new).window ≡ (seen old).window ++ put
  pub waits : AnswerWaits (seen new)
