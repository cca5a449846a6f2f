-- The last that answers is found: what the rules and the limits make of a server's final head, or what is said in its place.
use Rattle.std.specs.Prelude.{◌≡◌, ℕ, List, ◌++◌, Bool, true, false, not, ◌&&◌, ◌||◌, if◌then◌else◌, Option, None, nat_le, codes}
use Rattle.std.specs.Str.{bytes_eq}
use Rattle.htx_model.specs.Blocks.{load}
use Rattle.http_model.specs.declared.Framing.{Framing}
use Rattle.http_model.specs.Finish.{finish_response, response_framing}
use Rattle.http_model.specs.Head.{Head, head_blocks}
use Rattle.http_model.specs.Reading.{Received, HeadReading}
use Rattle.px_sample.specs.Variables.{Variables}
use Rattle.http_rules.specs.declared.config.Config.{Config}
use Rattle.http_rules.specs.Lives.{answering}
use Rattle.forward_core.specs.Meaning.Product.{meaning_of}
use Rattle.session_model.specs.Stream.{Stream}
use Rattle.session_model.specs.Env.{Env, Pass, Edited, response_env}
use Rattle.session_model.specs.Meaning.{Meaning, status_of}
use Rattle.session_model.specs.Asking.{Asker}
use Rattle.session_model.specs.Answering.{Final, AnswersReading, response_declares_too_much}
use Rattle.session_core.specs.History.{Coming, Continues}
use Rattle.session_core.specs.Sided.{Asking, asker_in, Saying}
use Rattle.session_core.specs.declared.Told.{Told}
use Rattle.session_core.specs.declared.Told.TheVariants as told
use Rattle.session_core.specs.Leads.{AnswerWaits}
use Rattle.lane.specs.Answering.{Exchange, HeadsCame, stage_of, array_of, blocks_of, framing_of, declared_of}
use Rattle.lane.specs.declared.direction.stage.Stage.TheVariants as stage
use Rattle.forward_core.specs.Answer.Hearing.{IsBetween, FinalHead}
use Rattle.forward_core.specs.Answer.HeadsRead.{ReadBefore}
use Rattle.forward_core.specs.Answer.Seen.{seen, place_of, size_of, window_size_of, is_last}
use Rattle.forward_core.specs.Answer.Stands.{IsAsker, IsFor, IsInHand, AnswerStands, IsSoundSide, is_serving}
use Rattle.forward_core.specs.Answer.Stepping.{VarsAt}
use Rattle.forward_core.specs.declared.answer.place.Place.{Place}
use Rattle.forward_core.specs.declared.answer.place.Place.TheVariants as place
use Rattle.forward_core.specs.declared.answer.side.AnswerSide.{AnswerSide}

-- only the array in which the head stands was edited: it is still the final head that was read
pub record Edits (old new : AnswerSide) : Type 0 where
  pub between : IsBetween new
  pub stage : stage_of new.lane ≡ stage.Head
  pub final : (cfg : Config) (asking : Asking Variables) (server : Coming) (to_client : List ℕ) (received : Received) → FinalHead cfg old asking server to_client received → FinalHead cfg new asking server to_client received
  pub window : (seen new).window ≡ (seen old).window
  pub is_open : (seen new).is_open ≡ (seen old).is_open
  pub heard : (seen new).heard ≡ (seen old).heard
  pub size : size_of new ≡ size_of old
  pub window_size : window_size_of new ≡ window_size_of old

-- ---- the last that answers

-- what follows the interim heads answers this last
pub record AnswersLast (M : Meaning) (asker : Asker) (before : M.Vars) (rest : Stream) (last : Final M.Vars) : Type 0 where
  pub head : HeadReading
  pub reads : M.reads_response asker.head_asked rest.bytes head
  pub answers : AnswersReading M asker before rest.ending head last

-- the server's stream answers this last, however it goes on
pub record Settles (cfg : Config) (side : AnswerSide) (asking : Asking Variables) (server : Coming) (to_client : List ℕ) (last : Final Variables) : Type 0 where
  pub asks : IsAsker side.asker (asker_in asking)
  pub for_it : IsFor cfg side.lane
  pub e : Exchange
  pub in_hand : IsInHand (asker_in asking) side.lane server to_client e
  pub left : List ℕ
  pub came : HeadsCame (asker_in asking).head_asked cfg.limits server.ending e.read e.bytes left
  pub heard : ReadBefore side.heard cfg (asker_in asking) side.lane server
  pub answers : (rest : Stream) → Continues (record { bytes = left; ending = server.ending }) rest → AnswersLast (meaning_of cfg) (asker_in asking) (answering asking.vars) rest last

-- how a list in place of a response is told, and its place: a reply that isn't plain, or what closes the connection
abbrev pub told_when : (replied : Bool) → Told
told_when true = told.Whole
told_when false = told.Closes

abbrev pub place_when : (replied : Bool) → Place
place_when true = place.Keeping
place_when false = place.Closing

-- it stands for the last that goes out, with these variables behind it
pub record Finds (cfg : Config) (new : AnswerSide) (asking : Asking Variables) (server : Coming) (to_client : List ℕ) (saying : Saying) (left : Variables) : Type 0 where
  pub behind : Variables
  pub stands : AnswerStands cfg new asking server to_client behind saying
  pub vars : left ≡ behind

-- the last that answers goes out, and nothing of it is put out yet
pub record GoesOut (old new : AnswerSide) : Type 0 where
  pub last : is_last (place_of new) ≡ true
  pub sound : IsSoundSide new
  pub window : (seen new).window ≡ (seen old).window
  pub is_open : (seen new).is_open ≡ (seen old).is_open
  pub heard : (seen new).heard ≡ (seen old).heard
  pub size : size_of new ≡ size_of old
  pub window_size : window_size_of new ≡ window_size_of old

-- ---- a final head, and rules

-- the status is 304 (RFC 9110 section 15.4.5)
abbrev pub is_not_modified : Head → Bool
is_not_modified head = bytes_eq (status_of head.line) (codes "304")

-- the rules of responses pass it, and leave this head in the array, and these variables
pub record Passes (cfg : Config) (side : AnswerSide) (asking : Asking Variables) (received : Received) (vars : Variables) : Type 0 where
  pub head : Head
  pub blocks : blocks_of side.lane ≡ head_blocks head
  pub rules : (meaning_of cfg).response_rules (response_env (answering asking.vars) (asker_in asking).method received.head) ≡ Pass (response_env vars (asker_in asking).method head)

-- its declared length passes no limit, and the rules on all that the client is sent make this head of it, with these variables behind it
pub record IsEdited (cfg : Config) (asking : Asking Variables) (received : Received) (head : Head) (vars : Variables) : Type 0 where
  pub at : Env Variables
  pub rules : (meaning_of cfg).response_rules (response_env (answering asking.vars) (asker_in asking).method received.head) ≡ Pass at
  pub short : response_declares_too_much (meaning_of cfg) received ≡ false
  pub after : (meaning_of cfg).after_rules at ≡ Edited head vars

-- the framing in which a side sends the body that comes, and the head that it sends
abbrev pub framing_by : AnswerSide → (replaced : Bool) → Framing
framing_by side replaced = response_framing replaced side.asker.is_http_11 (framing_of side.lane)

abbrev pub declared_by : AnswerSide → (replaced not_modified : Bool) → Option ℕ
declared_by side replaced not_modified = if not replaced && (side.asker.head_asked || not_modified) then declared_of side.lane else None

abbrev pub finished_by : AnswerSide → (replaced not_modified : Bool) → Head → Head
finished_by side replaced not_modified head = finish_response head (framing_by side replaced) (declared_by side replaced not_modified) (not side.asker.keep)

-- the finished head stands in the array where it fits
pub record Finishes (old new : AnswerSide) (replaced not_modified : Bool) (head : Head) (fits : Bool) : Type 0 where
  pub fits_is : nat_le (load (head_blocks (finished_by old replaced not_modified head))) (array_of old.lane).size ≡ fits
  pub blocks : fits ≡ true → blocks_of new.lane ≡ head_blocks (finished_by old replaced not_modified head)

-- ---- a step

-- interim heads were put out, and the last that answers goes out behind them, or heads are waited for
pub record Decides (cfg : Config) (old new : AnswerSide) (asking : Asking Variables) (server : Coming) (to_client : List ℕ) (saying : Saying) (left : Variables) : Type 0 where
  pub put : List ℕ
  pub behind : Variables
  pub stands : AnswerStands cfg new asking server (to_client ++ put) behind saying
  pub vars : VarsAt (place_of new) (answering asking.vars) behind left
  pub window : (seen new).window ≡ (seen old).window ++ put
  pub waits : place_of new ≡ place.Heads → AnswerWaits (seen new)

-- whatever was decided
pub record KeepsOn (old new : AnswerSide) : Type 0 where
  pub serving : is_serving (place_of new) ≡ true
  pub sound : IsSoundSide new
  pub begun : (seen old).begun ≡ true → (seen new).begun ≡ true
  pub heard : (seen old).heard ≡ true → (seen new).heard ≡ true
  pub is_open : (seen new).is_open ≡ (seen old).is_open
  pub size : size_of new ≡ size_of old
  pub window_size : window_size_of new ≡ window_size_of old
