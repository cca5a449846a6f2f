-- Heads of a server are read.
use Rattle.std.specs.Prelude.{◌≡◌, ◌≢◌, ◌⊎◌, ℕ, ◌<◌, List, [], ◌++◌, true, false, Some, is_none}
use Rattle.http_model.specs.Head.{Head, head_blocks}
use Rattle.http_model.specs.Reading.{Received}
use Rattle.session_model.specs.Meaning.{is_interim}
use Rattle.px_sample.specs.Variables.{Variables}
use Rattle.http_rules.specs.declared.config.Config.{Config}
use Rattle.session_core.specs.History.{Coming}
use Rattle.session_core.specs.Sided.{Asking, asker_in, Saying}
use Rattle.lane.specs.Answering.{Exchange, NotYet, IsSoundAnswer, stage_of, ended_of, output_of, blocks_of, framing_of, declared_of, phase_of, has_begun, shows_last}
use Rattle.lane.specs.declared.direction.stage.Stage.TheVariants as stage
use Rattle.forward_core.specs.Answer.Seen.{seen}
use Rattle.forward_core.specs.Answer.HeadsRead.{HasRead}
use Rattle.forward_core.specs.Answer.Stands.{IsAsker, IsFor, IsInHand, AnswerStands, RestsAt, FitsAt}
use Rattle.forward_core.specs.declared.answer.place.Place.TheVariants as place
use Rattle.forward_core.specs.declared.answer.hearing.Heard.{Heard}
use Rattle.forward_core.specs.declared.answer.hearing.Heard.TheVariants as heard
use Rattle.forward_core.specs.declared.answer.side.AnswerSide.{AnswerSide}

-- within a step, which is not at rest: nothing of the last that answers goes out
pub record IsBetween (side : AnswerSide) : Type 0 where
  pub lane : IsSoundAnswer side.lane
  pub open_is : side.open ≡ is_none (ended_of side.lane)
  pub place : side.place ≡ place.Heads
  pub begun : has_begun side.lane ≡ false
  pub first : shows_last (phase_of side.lane) ≡ false
  pub stirs : side.at_rest ≡ false

-- a head stands in the array
pub record HasHead (side : AnswerSide) : Type 0 where
  pub stage : stage_of side.lane ≡ stage.Head
  pub head : Head
  pub blocks : blocks_of side.lane ≡ head_blocks head

-- where the lane stands then
abbrev pub StandsThere : Heard → AnswerSide → Type 0
StandsThere heard.More side = FitsAt place.Heads side
StandsThere heard.Interim side = stage_of side.lane ≡ stage.Reading
StandsThere heard.Final side = HasHead side
StandsThere heard.Refused side = stage_of side.lane ≡ stage.Done

-- this head was read from the server behind its interim heads
pub record IsRead (cfg : Config) (side : AnswerSide) (asking : Asking Variables) (server : Coming) (to_client : List ℕ) (received : Received) : Type 0 where
  pub asks : IsAsker side.asker (asker_in asking)
  pub for_it : IsFor cfg side.lane
  pub e : Exchange
  pub in_hand : IsInHand (asker_in asking) side.lane server to_client e
  pub last : e.last ≡ NotYet
  pub pending : e.pending ≡ Some received
  pub framing : framing_of side.lane ≡ received.framing
  pub declared : declared_of side.lane ≡ received.declared
  pub is_heard : side.heard ≡ true
  pub has_read : HasRead cfg (asker_in asking) side.lane server

-- and it is final
pub record FinalHead (cfg : Config) (side : AnswerSide) (asking : Asking Variables) (server : Coming) (to_client : List ℕ) (received : Received) : Type 0 where
  pub read : IsRead cfg side asking server to_client received
  pub is_final : is_interim received.head ≡ false

-- it waits for the client to take bytes, or for the server to give some
abbrev pub WaitsForHead : AnswerSide → Type 0
WaitsForHead side = (output_of side.lane ≢ []) ⊎ (((seen side).is_open ≡ true) × (0 < (seen side).room))

-- what the answer says of the server's stream
abbrev pub HeadSays : Heard → (cfg : Config) → AnswerSide → Asking Variables → (server : Coming) → (to_client : List ℕ) → (now : Variables) → (saying : Saying) → Type 0
HeadSays heard.More cfg side asking server to_client now saying =
    AnswerStands cfg side asking server to_client now saying × WaitsForHead side × RestsAt place.Heads (asker_in asking).head_asked side.lane
HeadSays heard.Interim cfg side asking server to_client now saying = AnswerStands cfg side asking server to_client now saying
HeadSays heard.Final cfg side asking server to_client now saying =
    (received : Received) × FinalHead cfg side asking server to_client received × (blocks_of side.lane ≡ head_blocks received.head)
HeadSays heard.Refused cfg side asking server to_client now saying = AnswerStands cfg side asking server to_client now saying

-- interim heads were put out, as far as the window has room, and this stands behind them
pub record Hears (cfg : Config) (old new : AnswerSide) (asking : Asking Variables) (server : Coming) (to_client : List ℕ) (now : Variables) (saying : Saying) (says : Heard) : Type 0 where
  pub put : List ℕ
  pub window : (seen new).window ≡ (seen old).window ++ put
  pub tells : HeadSays says cfg new asking server (to_client ++ put) now saying
