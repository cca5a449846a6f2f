-- The status that the client is sent in the exchange in hand, and all that may be told of that exchange.
use Rattle.std.specs.Prelude.{◌≡◌, ℕ, ◌+◌, List, ◌∷◌, ◌++◌, Bool, true, false, Option, Some, None, codes, min, is_some}
use Rattle.std.specs.List.{AllByRecursion}
use Rattle.http_model.specs.Head.{Head}
use Rattle.htx_view.specs.Lines.{status_number}
use Rattle.session_model.specs.Meaning.{Meaning, is_interim}
use Rattle.session_model.specs.Session.{interim_text}
use Rattle.session_core.specs.History.{Past, IsPrefix}
use Rattle.session_core.specs.Sided.{Sided, Saying, AnswerSeen}
use Rattle.session_core.specs.InHand.{InHand}
use Rattle.session_core.specs.Stands.{most}
use Rattle.session_core.specs.Lines.{IsLineOf, ShowsLine}
use Rattle.session_core.specs.Place.{Place, Reads, Opens, Serves, Says, Replies, Ends}
use Rattle.session_core.specs.declared.Phase.{Phase}
use Rattle.session_core.specs.declared.Phase.TheVariants as phase

-- the text begins with a status line of this code (RFC 9112 section 4)
pub record BeginsWithStatus (text : List ℕ) (code : ℕ) : Type 0 where
  pub status : List ℕ
  pub more : List ℕ
  pub text_is : text ≡ codes "HTTP/1.1 " ++ status ++ 32 ∷ more
  pub number : code ≡ status_number status

-- Behind interim heads the client is sent a text with this status: what was put out is a front of both, or all of it.
pub record SendsStatus (all : Bool) (put : List ℕ) (code : ℕ) : Type 0 where
  pub heads : List Head
  pub interim : AllByRecursion (λ head. is_interim head ≡ true) heads
  pub text : List ℕ
  pub begins : BeginsWithStatus text code
  pub front : IsPrefix put (interim_text heads ++ text)
  pub sent : all ≡ true → put ≡ interim_text heads ++ text

-- a status is told once all was put out
abbrev pub TellsStatus : (all : Bool) → (put : List ℕ) → Option ℕ → Type 0
TellsStatus all put None = all ≡ false
TellsStatus all put (Some code) = SendsStatus all put code

-- the status of a text that is made here as a whole
abbrev pub SaysStatus : Saying → Option ℕ → Type 0
SaysStatus saying None = ⊥
SaysStatus saying (Some code) = BeginsWithStatus saying.text code

-- by where the directions stand in the exchange in hand
abbrev pub StatusAt : Place → {M : Meaning} → AnswerSeen → Sided M → Type 0
StatusAt Reads a p = a.status ≡ None
StatusAt Opens a p = a.status ≡ None
StatusAt Serves a p = TellsStatus a.answered p.to_client a.status
StatusAt Says a p = SaysStatus p.saying a.status
StatusAt Replies a p = SaysStatus p.saying a.status
StatusAt Ends a p = a.status ≡ None

-- ---- the core

-- the status is told while an answer goes out, and no more once the session is over
abbrev pub status_in : Phase → Option ℕ → Option ℕ
status_in phase.Reading status = None
status_in phase.Opening status = None
status_in phase.Unserved status = None
status_in phase.Serving status = status
status_in phase.Served status = status
status_in phase.Refusing status = status
status_in (phase.Replying kept) status = status
status_in (phase.Over how) status = None

-- all text of the answer was put out, and its exchange isn't ended yet
abbrev pub whole_in : Phase → (answered : Bool) → Bool
whole_in phase.Reading answered = false
whole_in phase.Opening answered = false
whole_in phase.Unserved answered = false
whole_in phase.Serving answered = answered
whole_in phase.Served answered = answered
whole_in phase.Refusing answered = answered
whole_in (phase.Replying kept) answered = answered
whole_in (phase.Over how) answered = false

-- all text of a refusal or a reply was put out, which no server has to be closed for
abbrev pub said_in : Phase → (answered : Bool) → Bool
said_in phase.Refusing answered = answered
said_in (phase.Replying kept) answered = answered
said_in _ answered = false

-- What may be told of the exchange in hand: its number in its session, the words of its request line as they were received, and the status that its client is sent; and
-- whether all of its answer's text was put out.
pub record TellsExchange (M : Meaning) (past : Past) (window : List ℕ) (whole : Bool) (number : ℕ) (line : List ℕ) (status : Option ℕ) : Type 0 where
  pub in_hand : InHand M past
  pub hand : ℕ
  pub number_is : number ≡ min (in_hand.done.count + hand) most
  pub line_is : IsLineOf M in_hand.came line
  -- where a status is told it is the exchange behind those that are done, and its words are nothing only where no head comes
  pub one : is_some status ≡ true → hand ≡ 1
  pub shown : is_some status ≡ true → ShowsLine M in_hand.came line
  -- the text that was put out in this exchange
  pub put : List ℕ
  pub text : past.taken ++ window ≡ in_hand.done.client ++ put
  pub status_is : TellsStatus whole put status
