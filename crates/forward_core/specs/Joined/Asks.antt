-- What is made of the client's next request, up to its server or to what is said in its place.
use Rattle.std.specs.Prelude.{◌≡◌, ℕ, ◌<◌, List, [], Bool, true, false, nat_le, Option, Some, None, ⊤}
use Rattle.htx_model.specs.Block.{Block}
use Rattle.htx_model.specs.Blocks.{load}
use Rattle.htx_view.specs.Lines.{request_in}
use Rattle.http_model.specs.declared.Framing.{Framing}
use Rattle.http_model.specs.Finish.{finish_request}
use Rattle.http_model.specs.Head.{Head, Message, head_blocks}
use Rattle.http_model.specs.Reading.{Received}
use Rattle.http_model.specs.Spelling.{Spells}
use Rattle.h1_head.specs.Lines.{IsRequestLine}
use Rattle.session_model.specs.Env.{request_env}
use Rattle.session_model.specs.Amending.{reply_sent, refusal_sent, behind_reply}
use Rattle.session_core.specs.History.{Coming}
use Rattle.session_core.specs.Sided.{Asking, Sided, Saying, unsaid}
use Rattle.session_core.specs.Stands.{kept_with}
use Rattle.session_core.specs.Leads.{AsksTo, AskWaits, AskKeeps}
use Rattle.session_core.specs.Place.{place_behind}
use Rattle.session_core.specs.declared.sides.Asked.{Asked}
use Rattle.session_core.specs.declared.sides.Asked.TheVariants as asks
use Rattle.px_sample.specs.Variables.{Variables}
use Rattle.http_rules.specs.declared.action.side.Side.TheVariants as sides
use Rattle.http_rules.specs.declared.config.Config.{Config}
use Rattle.http_rules.specs.declared.verdict.Verdict.{Verdict}
use Rattle.http_rules.specs.declared.verdict.Verdict.TheVariants as verdicts
use Rattle.http_rules.specs.Lives.{answering}
use Rattle.http_rules.specs.Run.{Leaves, IsHead}
use Rattle.forward_core.specs.Rules.Ruling.{HasReply}
use Rattle.forward_core.specs.Meaning.Product.{meaning_of}
use Rattle.forward_core.specs.declared.request.kept.Kept.{Kept}
use Rattle.forward_core.specs.Request.Kept.{IsKept}
use Rattle.forward_core.specs.Request.Reads.{HasHead, HeadRead, Holds}
use Rattle.forward_core.specs.Request.Seen as requests
use Rattle.forward_core.specs.Request.Seen.{list_of}
use Rattle.forward_core.specs.Request.Edits.{Edits, framing_of, declared_of}
use Rattle.forward_core.specs.declared.request.place.Place.TheVariants as asked
use Rattle.forward_core.specs.declared.request.side.RequestSide.{RequestSide}
use Rattle.forward_core.specs.Answer.Seen as answers
use Rattle.forward_core.specs.Answer.Stands.{AnswerStands}
use Rattle.forward_core.specs.declared.answer.place.Place.TheVariants as answered
use Rattle.forward_core.specs.declared.answer.asker.Asker.{Asker}
use Rattle.forward_core.specs.declared.answer.side.AnswerSide.{AnswerSide}
use Rattle.forward_core.specs.Joined.Joined.{IsSoundPair, IsAt, Placed, DirectionsStand, KeepsWindows, settings_of, request_of, answer_of, IsLawful}
use Rattle.forward_core.specs.declared.joined.directions.Directions.{Directions}

-- ---- what is said

-- from an answer direction that answers nothing to one that says this text
abbrev pub SaysText : Config → AnswerSide → AnswerSide → (text : List ℕ) → Type 0
SaysText cfg old new text =
    (asking : Asking Variables) (server : Coming) (put : List ℕ) (now : Variables) (saying : Saying)
    → AnswerStands cfg old asking server put now saying → AnswerStands cfg new asking server put now (unsaid text)

-- what is said is the refusal with this code, as the rules on all that the client is sent leave it
pub record SaysRefusal (cfg : Config) (old new : AnswerSide) (code : ℕ) (method : List ℕ) (vars : Variables) (no_body : Bool) : Type 0 where
  pub text : List ℕ
  pub spelled : Spells true no_body (refusal_sent (meaning_of cfg) code method (answering vars)) text
  pub says : SaysText cfg old new text

-- what is said is the reply, as those rules leave it, with the variables behind it where the connection is kept
pub record SaysReply (cfg : Config) (old new : AnswerSide) (m : Message) (method : List ℕ) (vars now : Variables) (no_body keep kept : Bool) : Type 0 where
  pub text : List ℕ
  pub spelled : Spells true no_body (reply_sent (meaning_of cfg) m method (answering vars) keep) text
  pub behind : behind_reply (meaning_of cfg) m method (answering vars) keep ≡ kept_with kept now
  pub says : SaysText cfg old new text

-- ---- a head that rules ran on

abbrev pub method_by : Option (List ℕ × List ℕ × List ℕ) → List ℕ
method_by None = []
method_by (Some line) = line.0

-- the method in the line of a request, and nothing where there is none
abbrev pub method_at : List Block → List ℕ
method_at blocks = method_by (request_in blocks)

-- nothing is read and nothing goes out; nothing is said
pub record IsSilent (d : Directions) : Type 0 where
  pub sound : IsSoundPair d
  pub idle : requests.place_of d.request ≡ asked.Idle
  pub silent : answers.place_of d.answer ≡ answered.Idle

-- and a head stands in the array
pub record HasRead (d : Directions) : Type 0 where
  pub still : IsSilent d
  pub has : HasHead d.request

-- The head that came stands in the array as it was received, in front of the rules.
pub record Came (cfg : Config) (d : Directions) (p : Sided (meaning_of cfg)) (received : Received) : Type 0 where
  pub config : settings_of d ≡ cfg
  pub laws : IsLawful cfg
  pub read : HeadRead cfg d.request p.came received
  pub answer : AnswerStands cfg d.answer p.asking p.server p.to_client p.now p.saying
  pub holds : Holds d.request received
  pub line : IsRequestLine received.head.line
  pub vars : d.rules.vars ≡ p.vars

-- It stands there as the rules left it, with this verdict; what is kept of it as it was received, and its method as they left it, are kept.
pub record Ruled (cfg : Config) (d : Directions) (p : Sided (meaning_of cfg)) (received : Received) (kept : Kept) (verdict : Verdict) : Type 0 where
  pub config : settings_of d ≡ cfg
  pub laws : IsLawful cfg
  pub read : HeadRead cfg d.request p.came received
  pub answer : AnswerStands cfg d.answer p.asking p.server p.to_client p.now p.saying
  pub kept_is : IsKept received kept
  pub leaves : Leaves sides.Request ((meaning_of cfg).request_rules (request_env p.vars received.head)) verdict (list_of d.request) d.rules.vars d.rules.said.blocks
  pub method : d.method.bytes ≡ method_at (list_of d.request)
  pub framing : framing_of d.request ≡ received.framing
  pub declared : declared_of d.request ≡ received.declared

-- what a core sees of both stays, but for the array
pub record SeesAlike (old new : Directions) : Type 0 where
  pub is_open : (request_of new).is_open ≡ (request_of old).is_open
  pub window : (request_of new).window ≡ (request_of old).window
  pub input : requests.input_size_of new.request ≡ requests.input_size_of old.request
  pub windows : KeepsWindows old new
  pub answer : answer_of new ≡ answer_of old

-- The rules ran on the head that came, and came to this verdict: where they pass a head stands in the array, where they reply a reply
-- stands to be said.
pub record RulesRan (old new : Directions) (verdict : Verdict) : Type 0 where
  pub read : HasRead new
  pub alike : SeesAlike old new
  pub config : settings_of new ≡ settings_of old
  pub passes : verdict ≡ verdicts.Pass → IsHead (list_of new.request)
  pub replies : verdict ≡ verdicts.Reply → HasReply new.rules.said.blocks
  pub ruled : (cfg : Config) (p : Sided (meaning_of cfg)) (received : Received) (kept : Kept) → Came cfg old p received → IsKept received kept → Ruled cfg new p received kept verdict

-- no server is asked, and this refusal is said, to a request of this method
pub record RefusesSo (old new : Directions) (code : ℕ) (method : List ℕ) (no_body : Bool) : Type 0 where
  pub request : new.request ≡ old.request
  pub config : settings_of new ≡ settings_of old
  pub says : SaysRefusal (settings_of old) old.answer new.answer code method old.rules.vars no_body
  pub place : answers.place_of new.answer ≡ answered.Saying
  pub sound : IsSoundPair new
  pub windows : KeepsWindows old new
  pub window : (answer_of new).window ≡ (answer_of old).window
  pub starts : (answer_of new).answered ≡ false
  pub heard : (answer_of new).heard ≡ false

-- ---- a head that goes to a server

-- the head is within the array as it is finished
abbrev pub fits_in : (size : ℕ) → Head → Framing → Bool
fits_in size head framing = nat_le (load (head_blocks (finish_request head framing))) size

-- The head in the array is made the one that its server is sent, where it fits; else nothing changes.
pub record FinishesHead (old new : RequestSide) (framing : Framing) (fits : Bool) : Type 0 where
  pub edits : Edits old new
  pub fits_is : (head : Head) → list_of old ≡ head_blocks head → fits_in (requests.limits_of old).bufsize head framing ≡ fits
  pub finished : fits ≡ true → (head : Head) → list_of old ≡ head_blocks head → list_of new ≡ head_blocks (finish_request head framing)
  pub same : fits ≡ false → new ≡ old

-- what an answer has to know of a request of which this is kept
abbrev pub asker_for : Kept → Asker
asker_for kept = record { head_asked = kept.head_asked; is_http_11 = kept.is_http_11; keep = kept.keep }

-- ---- what is made of it

-- what is answered at once used some bytes
abbrev pub UsesLess : (unread before : ℕ) → Asked → Type 0
UsesLess unread before asks.More = ⊤
UsesLess unread before asks.Nothing = ⊤
UsesLess unread before asks.Refuse = unread < before
UsesLess unread before (asks.Reply kept) = unread < before
UsesLess unread before asks.Send = ⊤

-- where the directions stand behind a head, and what a core sees of them then
pub record GoesOn (old new : Directions) (asks : Asked) : Type 0 where
  pub placed : IsAt new (place_behind asks)
  pub windows : KeepsWindows old new
  pub is_open : (request_of new).is_open ≡ (request_of old).is_open
  pub window : (request_of new).window ≡ (request_of old).window
  pub waits : AskWaits (request_of new) asks
  pub less : (before : ℕ) → requests.input_size_of old.request < before → UsesLess (request_of new).unread before asks
  pub answer : (answer_of new).window ≡ (answer_of old).window
  pub starts : (answer_of new).answered ≡ false
  pub heard : (answer_of new).heard ≡ false

-- what is made of a head on which the rules came to this verdict
pub record AsksOn (old new : Directions) (kept : Kept) (verdict : Verdict) (asks : Asked) : Type 0 where
  pub leads : (cfg : Config) (p : Sided (meaning_of cfg)) (received : Received) → Ruled cfg old p received kept verdict → AsksTo (meaning_of cfg) (DirectionsStand cfg new) (request_of new) p asks
  pub goes : GoesOn old new asks

-- what is made of a head that came
pub record AsksBehind (old new : Directions) (asks : Asked) : Type 0 where
  pub leads : (cfg : Config) (p : Sided (meaning_of cfg)) (received : Received) → Came cfg old p received → AsksTo (meaning_of cfg) (DirectionsStand cfg new) (request_of new) p asks
  pub goes : GoesOn old new asks

-- what asking comes to
pub record AsksSo (old new : Directions) (asks : Asked) : Type 0 where
  pub leads : (cfg : Config) (p : Sided (meaning_of cfg)) → DirectionsStand cfg old p → AsksTo (meaning_of cfg) (DirectionsStand cfg new) (request_of new) p asks
  pub placed : Placed new (place_behind asks)
  pub windows : KeepsWindows old new
  pub request : AskKeeps (request_of old) (request_of new) asks
  pub window : (answer_of new).window ≡ (answer_of old).window
  pub starts : (answer_of new).answered ≡ false
  pub heard : (answer_of new).heard ≡ false
