-- What the answer direction of a session stands for, over what it has of the past of an exchange.
use Rattle.std.specs.Prelude.{◌≡◌, ◌≢◌, ◌⊎◌, ℕ, List, [], ◌++◌, Bool, true, false, Option, Some, is_none, nat_lt, length, ⊤}
use Rattle.http_model.specs.Head.{Head}
use Rattle.http_model.specs.Finish.{response_framing}
use Rattle.http_model.specs.Reading.{Received, HeadReading}
use Rattle.http_model.specs.Spelling.{head_text}
use Rattle.px_sample.specs.Variables.{Variables}
use Rattle.http_rules.specs.declared.config.Config.{Config}
use Rattle.http_rules.specs.Lives.{answering}
use Rattle.h1_head.specs.Decides.{MayWait}
use Rattle.h1_head.specs.Kind.{response_heads}
use Rattle.forward_core.specs.Meaning.Product.{meaning_of, replaces}
use Rattle.session_model.specs.Stream.{Stream}
use Rattle.session_model.specs.Env.{Env, Pass, Edited, response_env}
use Rattle.session_model.specs.Meaning.{Meaning, is_interim}
use Rattle.session_model.specs.Asking.{Asker}
use Rattle.session_model.specs.Answering.{Final, AnswersReading, sent_interim, response_declares_too_much, finished_response, response_fits}
use Rattle.session_model.specs.Session.{SpellsFinal}
use Rattle.session_core.specs.History.{Coming, Continues}
use Rattle.session_core.specs.Sided.{Asking, asker_in, ToldIs, Saying}
use Rattle.session_core.specs.Statuses.{TellsStatus}
use Rattle.session_core.specs.declared.Told.{Told}
use Rattle.session_core.specs.declared.Told.TheVariants as told
use Rattle.lane.specs.Answering.{Exchange, Answers, Serves, Replies, NotYet, HeadsCame, HasFilters, HoldsNothingBack, IsOpen, IsSoundAnswer, interim_text, limits_of, stage_of, source_of, input_of, output_of, ended_of, phase_of, has_begun, shows_last}
use Rattle.lane.specs.declared.direction.stage.Stage.TheVariants as stage
use Rattle.http_model.specs.declared.Source.{Source}
use Rattle.http_model.specs.declared.Source.TheVariants as source
use Rattle.lane.specs.declared.response_lane.ResponseLane.{ResponseLane}
use Rattle.forward_core.specs.Answer.HeadsRead.{HeardAt}
use Rattle.forward_core.specs.Answer.Seen.{seen}
use Rattle.forward_core.specs.Answer.Status.{ShowsStatus, is_status_line}
use Rattle.forward_core.specs.declared.answer.asker.Asker.{Asker as AskerSeen}
use Rattle.forward_core.specs.declared.answer.place.Place.{Place}
use Rattle.forward_core.specs.declared.answer.place.Place.TheVariants as place
use Rattle.forward_core.specs.declared.answer.side.AnswerSide.{AnswerSide}

-- ---- its request and its configuration

-- it knows this of the request that is answered
pub record IsAsker (seen : AskerSeen) (asker : Asker) : Type 0 where
  pub head_asked : seen.head_asked ≡ asker.head_asked
  pub is_http_11 : seen.is_http_11 ≡ asker.is_http_11
  pub keep : seen.keep ≡ asker.keep

-- its lane is for this configuration
pub record IsFor (cfg : Config) (lane : ResponseLane) : Type 0 where
  pub limits : limits_of lane ≡ cfg.limits
  pub filters : HasFilters lane cfg.res_filters

-- ---- a server that answers

-- the exchange of the lane is the one in hand: the server's stream, its interim heads as this client is sent them, and the text
-- that was put out
pub record IsInHand (asker : Asker) (lane : ResponseLane) (server : Coming) (put : List ℕ) (e : Exchange) : Type 0 where
  pub answers : Answers lane e
  pub asked : e.asked ≡ asker.head_asked
  pub bytes : e.bytes ≡ server.bytes
  pub ending : ended_of lane ≡ server.ending
  pub passed : e.passed ≡ sent_interim asker e.read
  pub put_is : e.put ≡ put

-- the response goes out: a final head that the rules of responses and of all answers passed, as it is finished
pub record IsResponse (cfg : Config) (asker : Asker) (before : Variables) (now : Variables) (e : Exchange) : Type 0 where
  pub received : Received
  pub at : Env Variables
  pub head : Head
  pub pending : e.pending ≡ Some received
  pub is_final : is_interim received.head ≡ false
  pub rules : (meaning_of cfg).response_rules (response_env before asker.method received.head) ≡ Pass at
  pub short : response_declares_too_much (meaning_of cfg) received ≡ false
  pub after : (meaning_of cfg).after_rules at ≡ Edited head now
  pub fits : response_fits (meaning_of cfg) asker received head ≡ true
  pub last : e.last ≡ Serves cfg.res_filters (finished_response (meaning_of cfg) asker received head)
      (response_framing (replaces cfg.res_filters) asker.is_http_11 received.framing) asker.head_asked

-- the text of a list that is put out in place of a response
abbrev pub list_text : (no_body : Bool) → Head → (body : List ℕ) → List ℕ
list_text true head body = head_text head
list_text false head body = head_text head ++ body

-- what follows the interim heads answers a last of this text, which stands so
pub record Decides (M : Meaning) (asker : Asker) (before : M.Vars) (so : Told) (now : M.Vars) (text : List ℕ) (rest : Stream) : Type 0 where
  pub last : Final M.Vars
  pub head : HeadReading
  pub reads : M.reads_response asker.head_asked rest.bytes head
  pub answers : AnswersReading M asker before rest.ending head last
  pub spelled : SpellsFinal M asker last text
  pub told : ToldIs M so now last

-- a list goes out in place of the server's response, however the server's stream goes on
pub record IsInstead (cfg : Config) (asker : Asker) (before : Variables) (server : Coming) (so : Told) (now : Variables) (e : Exchange) : Type 0 where
  pub head : Head
  pub body : List ℕ
  pub line : is_status_line head.line ≡ true
  pub last : e.last ≡ Replies head body asker.head_asked
  pub left : List ℕ
  pub came : HeadsCame asker.head_asked cfg.limits server.ending e.read e.bytes left
  pub decides : (rest : Stream) → Continues (record { bytes = left; ending = server.ending }) rest → Decides (meaning_of cfg) asker before so now (list_text asker.head_asked head body) rest

-- ---- a text that no server answers

-- this is left to say of a list, behind what is left of an interim head
pub record IsSaid (saying : Saying) (e : Exchange) : Type 0 where
  pub head : Head
  pub body : List ℕ
  pub no_body : Bool
  pub line : is_status_line head.line ≡ true
  pub last : e.last ≡ Replies head body no_body
  pub text : saying.text ≡ list_text no_body head body
  pub said : e.put ++ saying.left ≡ interim_text e.passed ++ list_text no_body head body

-- it has begun exactly where less than all of its text is left
abbrev pub BeginsSo : ResponseLane → Saying → Type 0
BeginsSo lane saying = has_begun lane ≡ nat_lt (length saying.left) (length saying.text)

-- nothing was put out
pub record IsUnanswered (e : Exchange) : Type 0 where
  pub put : e.put ≡ []
  pub passed : e.passed ≡ []

-- ---- at rest

-- While heads are read: an interim head goes out, and text of it waits to be taken; or the server's stream goes on, and what stands of it in
-- the window allows More.
abbrev pub HeadRests : (head_asked : Bool) → ResponseLane → Type 0
HeadRests head_asked lane =
    ((stage_of lane ≡ stage.Sending) × (output_of lane ≢ []))
    ⊎ ((stage_of lane ≡ stage.Reading) × IsOpen lane × MayWait (response_heads head_asked) (limits_of lane) false (input_of lane))

-- all that came of a response was put out, by where its body stands
abbrev pub IsPutOut : Source → ResponseLane → Type 0
IsPutOut source.Going lane = HoldsNothingBack lane
IsPutOut source.Whole lane = stage_of lane ≡ stage.Done
IsPutOut (source.Cut code) lane = stage_of lane ≡ stage.Done

-- nothing was left undone that could be done with what has come
abbrev pub RestsAt : Place → (head_asked : Bool) → ResponseLane → Type 0
RestsAt place.Idle head_asked lane = ⊤
RestsAt place.Heads head_asked lane = HeadRests head_asked lane
RestsAt place.Response head_asked lane = output_of lane ≡ [] → IsPutOut (source_of lane) lane
RestsAt place.Closing head_asked lane = output_of lane ≡ [] → stage_of lane ≡ stage.Done
RestsAt place.Keeping head_asked lane = output_of lane ≡ [] → stage_of lane ≡ stage.Done
RestsAt place.Saying head_asked lane = ⊤

-- ---- the whole

abbrev pub StandsAt : Place → (status : Option ℕ) → (cfg : Config) → Asker → (before : Variables) → ResponseLane → (server : Coming) → (to_client : List ℕ) → (now : Variables) → (saying : Saying) → Type 0
StandsAt place.Idle status cfg asker before lane server put now saying = (e : Exchange) × Answers lane e × IsUnanswered e × (put ≡ [])
StandsAt place.Heads status cfg asker before lane server put now saying = (e : Exchange) × IsInHand asker lane server put e × (e.last ≡ NotYet)
StandsAt place.Response status cfg asker before lane server put now saying = (e : Exchange) × IsInHand asker lane server put e × ShowsStatus status lane e × IsResponse cfg asker before now e
StandsAt place.Closing status cfg asker before lane server put now saying = (e : Exchange) × IsInHand asker lane server put e × ShowsStatus status lane e × IsInstead cfg asker before server told.Closes now e
StandsAt place.Keeping status cfg asker before lane server put now saying = (e : Exchange) × IsInHand asker lane server put e × ShowsStatus status lane e × IsInstead cfg asker before server told.Whole now e
StandsAt place.Saying status cfg asker before lane server put now saying = (e : Exchange) × Answers lane e × ShowsStatus status lane e × IsSaid saying e × BeginsSo lane saying

-- The answer direction stands for its part of the past of an exchange: the request that is answered, the server's stream, the text
-- that was put out to the client, the variables behind the last that answers, and what is still to be said. It knows the status of what goes out,
-- and whether a head of the server's stream was read. Where it is at rest, nothing was left undone.
pub record AnswerStands (cfg : Config) (side : AnswerSide) (asking : Asking Variables) (server : Coming) (to_client : List ℕ) (now : Variables) (saying : Saying) : Type 0 where
  pub asks : IsAsker side.asker (asker_in asking)
  pub for_it : IsFor cfg side.lane
  pub at : StandsAt side.place side.status cfg (asker_in asking) (answering asking.vars) side.lane server to_client now saying
  pub heard : HeardAt side.heard side.place cfg (asker_in asking) side.lane server
  pub rests : side.at_rest ≡ true → RestsAt side.place (asker_in asking).head_asked side.lane

-- a server answers
abbrev pub is_serving : Place → Bool
is_serving place.Idle = false
is_serving place.Heads = true
is_serving place.Response = true
is_serving place.Closing = true
is_serving place.Keeping = true
is_serving place.Saying = false

-- While a server answers, the status of its answer is told.
abbrev pub TellsStatuses : Config → Type 0
TellsStatuses cfg =
    (side : AnswerSide) (asking : Asking Variables) (server : Coming) (to_client : List ℕ) (now : Variables) (saying : Saying) → AnswerStands cfg side asking server to_client now saying
    → is_serving side.place ≡ true → TellsStatus (seen side).answered to_client (seen side).status

-- ---- its sizes

-- by its place where the lane stands
abbrev pub FitsAt : Place → AnswerSide → Type 0
FitsAt place.Idle side = (stage_of side.lane ≡ stage.Reading) × (has_begun side.lane ≡ false) × (side.heard ≡ false)
FitsAt place.Heads side =
    (has_begun side.lane ≡ false) × (shows_last (phase_of side.lane) ≡ false) × (stage_of side.lane ≢ stage.Done) × (stage_of side.lane ≢ stage.Head)
FitsAt place.Response side = shows_last (phase_of side.lane) ≡ true
FitsAt place.Closing side = (shows_last (phase_of side.lane) ≡ true) × (source_of side.lane ≡ source.Whole)
FitsAt place.Keeping side = (shows_last (phase_of side.lane) ≡ true) × (source_of side.lane ≡ source.Whole)
FitsAt place.Saying side = (shows_last (phase_of side.lane) ≡ true) × (source_of side.lane ≡ source.Whole)

-- its lane has the sizes that it was made with, and stands where its place says
pub record IsSoundSide (side : AnswerSide) : Type 0 where
  pub lane : IsSoundAnswer side.lane
  pub open_is : side.open ≡ is_none (ended_of side.lane)
  pub at : FitsAt side.place side
