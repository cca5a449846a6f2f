-- What a session shows once all was done that could be done with what has come: nothing is held back.
use Rattle.std.specs.Prelude.{◌≡◌, ◌⊎◌, ℕ, List, [], ◌∷◌, ◌++◌, true}
use Rattle.px_sample.specs.Variables.{Variables}
use Rattle.http_rules.specs.declared.config.Config.{Config}
use Rattle.http_rules.specs.Lives.{answering}
use Rattle.forward_core.specs.Meaning.Product.{meaning_of}
use Rattle.session_model.specs.Stream.{Stream}
use Rattle.session_core.specs.History.{Past, Connect, Continues}
use Rattle.session_core.specs.InHand.{InHand}
use Rattle.session_core.specs.Leads.{Stands}
use Rattle.session_core.specs.Place.{IsPlaced}
use Rattle.session_core.specs.Sided.{Asking, asker_in, RequestAsks}
use Rattle.session_core.specs.Waits.{Settled}
use Rattle.http_model.specs.declared.Source.TheVariants as source
use Rattle.http_model.specs.declared.Source.{Source}
use Rattle.session_core.specs.declared.machine.At.{At}
use Rattle.forward_core.specs.Request.Shown.{ShowsNoCut, PutsAll, NoHeadCame}
use Rattle.forward_core.specs.Answer.Resting.{AwaitsHead, PutsOutBody}
use Rattle.forward_core.specs.Joined.Joined.{SessionStands, Placed, request_of, answer_of}
use Rattle.forward_core.specs.declared.joined.directions.Directions.{Directions}

-- The directions of a core that stands for its history, with output windows of this size, behind a call of `work`: what its clauses `placed` and `settled` say.
pub record HasWorked (cfg : Config) (size : ℕ) (d : Directions) (at : At) (past : Past) : Type 0 where
  pub stands : Stands (meaning_of cfg) request_of answer_of (SessionStands (cfg, size)) d at past
  pub placed : IsPlaced (Placed d) (answer_of d) at.phase at.cut
  pub settled : Settled at.phase at.cut (request_of d) (answer_of d)

-- a server is open for the request of this head, by this connect
pub record IsServed (cfg : Config) (past : Past) : Type 0 where
  pub in_hand : InHand (meaning_of cfg) past
  pub connect : Connect
  pub now : in_hand.now ≡ connect ∷ []
  pub there : connect.there ≡ true
  pub asking : Asking Variables
  pub asks : (stream : Stream) → Continues in_hand.came stream → RequestAsks (meaning_of cfg) in_hand.vars asking stream

-- the request came whole, or the client's bytes and ending so far show no cut of it
pub record IsUncutSoFar (cfg : Config) (so : Source) (past : Past) : Type 0 where
  pub served : IsServed cfg past
  pub shows : (so ≡ source.Whole) ⊎ ShowsNoCut cfg served.in_hand.came served.asking

-- what was put out to the server is its head and all of the body that came, but what filters keep back
pub record IsSentSoFar (cfg : Config) (window : List ℕ) (past : Past) : Type 0 where
  pub served : IsServed cfg past
  pub puts : PutsAll cfg served.in_hand.came served.asking (served.connect.taken ++ window)

-- The answer hasn't begun: all interim heads that came were put out, as this client is sent them, the server's stream goes on, and what follows
-- them is no head and allows More.
pub record AwaitsAnswer (cfg : Config) (window : List ℕ) (past : Past) : Type 0 where
  pub served : IsServed cfg past
  pub put : List ℕ
  pub text : past.taken ++ window ≡ served.in_hand.done.client ++ put
  pub awaits : AwaitsHead cfg (asker_in served.asking) served.connect.stream put

-- what was put out to the client is the interim heads, the final one as rules left it, and all of the body that came, but what filters keep back
pub record IsAnsweredSoFar (cfg : Config) (window : List ℕ) (past : Past) : Type 0 where
  pub served : IsServed cfg past
  pub put : List ℕ
  pub text : past.taken ++ window ≡ served.in_hand.done.client ++ put
  pub now : Variables
  pub puts : PutsOutBody cfg (asker_in served.asking) (answering served.asking.vars) served.connect.stream put now

-- behind the exchanges that are done no head of a request came, and what came allows More
pub record AwaitsRequest (cfg : Config) (past : Past) : Type 0 where
  pub in_hand : InHand (meaning_of cfg) past
  pub no_connect : in_hand.now ≡ []
  pub awaits : NoHeadCame cfg in_hand.came
