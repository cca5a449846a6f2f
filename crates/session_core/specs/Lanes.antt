-- What a lane tells of the stream that it has taken, and what that makes of a direction.
use Rattle.std.specs.Prelude.{◌≡◌, ℕ, ◌<◌, List, ◌∷◌, ◌++◌, Bool, true, length}
use Rattle.http_model.specs.declared.Ending.{Ending}
use Rattle.http_model.specs.declared.Framing.{Framing}
use Rattle.http_model.specs.Head.{Head}
use Rattle.http_model.specs.Reading.{Received, HeadReading, Begins, BodyReading}
use Rattle.session_model.specs.Stream.{Stream}
use Rattle.session_model.specs.Meaning.{Meaning}
use Rattle.session_model.specs.Asking.{Asker}
use Rattle.session_model.specs.Answering.{Final, AnswersReading, answer_by, BeginsWithInterim}
use Rattle.session_model.specs.Session.{SpellsFinal}
use Rattle.session_core.specs.History.{Coming, Continues, IsPrefix, prepended}
use Rattle.session_core.specs.Sided.{ToldIs}
use Rattle.session_core.specs.declared.Told.{Told}

-- the stream begins with this head, however it goes on
pub record HeadCame (M : Meaning) (came : Coming) (received : Received) (used : List ℕ) (left : Coming) : Type 0 where
  pub came_is : came ≡ prepended used left
  pub reads : (rest : Stream) → Continues left rest → M.reads_request (used ++ rest.bytes) (Begins received rest.bytes)

-- the server's stream begins with these interim heads, however it goes on
pub record HeadsPassed (M : Meaning) (asker : Asker) (server : Coming) (heads : List Head) (used : List ℕ) (left : Coming) : Type 0 where
  pub server_is : server ≡ prepended used left
  pub begins : (rest : Stream) → Continues left rest → BeginsWithInterim M asker heads (used ++ rest.bytes) (λ bytes. bytes ≡ rest.bytes)

-- What follows the interim heads answers this last, and what was put out is a front of the interim heads and of its text, or all
-- of it: a refusal or a reply of the rules, a response, or the plain refusal.
pub record LastSo (M : Meaning) (asker : Asker) (before : M.Vars) (interim : List ℕ) (so : Told) (now : M.Vars) (all begun : Bool) (put : List ℕ) (rest : Stream) : Type 0 where
  pub last : Final M.Vars
  pub head : HeadReading
  pub reads : M.reads_response asker.head_asked rest.bytes head
  pub answers : AnswersReading M asker before rest.ending head last
  pub text : List ℕ
  pub spelled : SpellsFinal M asker last text
  pub front : IsPrefix put (interim ++ text)
  pub told : ToldIs M so now last
  pub sent : all ≡ true → put ≡ interim ++ text
  pub began : begun ≡ true → (byte : ℕ) × (more : List ℕ) × (put ≡ interim ++ byte ∷ more)

-- What was put out is a front of the interim heads and of the spelling of the final head, as the rules left it with these
-- variables, and of the body that follows.
pub record AnswerBody (M : Meaning) (asker : Asker) (interim : List ℕ) (received : Received) (head : Head) (vars : M.Vars) (so : Told) (now : M.Vars) (all begun : Bool) (put : List ℕ) (rest : Stream) : Type 0 where
  pub body : BodyReading
  pub reads : M.reads_body received.framing rest.bytes rest.ending body
  pub text : List ℕ
  pub spelled : SpellsFinal M asker (answer_by M asker received head vars body) text
  pub front : IsPrefix put (interim ++ text)
  pub told : ToldIs M so now (answer_by M asker received head vars body)
  pub sent : all ≡ true → put ≡ interim ++ text
  pub began : begun ≡ true → (byte : ℕ) × (more : List ℕ) × (put ≡ interim ++ byte ∷ more)

-- each stream of a server has a head's reading, each body has one, and a head is at least one byte
pub record IsTotalAnswers (M : Meaning) : Type 0 where
  pub heads : (head_asked : Bool) (bytes : List ℕ) → (r : HeadReading) × M.reads_response head_asked bytes r
  pub shorter : (head_asked : Bool) (bytes : List ℕ) (received : Received) (rest : List ℕ) → M.reads_response head_asked bytes (Begins received rest) → length rest < length bytes
  pub bodies : (framing : Framing) (bytes : List ℕ) (ending : Ending) → (r : BodyReading) × M.reads_body framing bytes ending r
