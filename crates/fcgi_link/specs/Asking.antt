-- A request and its answer over a link below.
use Rattle.std.specs.Prelude.{◌≡◌, ℕ, ◌==◌, Bool, false, not, List, Some, option_map}
use Rattle.px_link.specs.Link.{Seen, Untold, Asks, AsksBy}
use Rattle.fcgi_model.specs.Application.{Application}
use Rattle.fcgi_lane.specs.Request.Stands as request
use Rattle.fcgi_lane.specs.Answer.Cgi.{HttpStream}
use Rattle.fcgi_lane.specs.Answer.Stands as answer

-- how far a request has come, whether none of it is written any more, and how many writes have failed
pub record AsksSeen : Type 0 where
  pub translating : request.Translating
  pub stopped : Bool
  pub faults : ℕ

-- how far an answer has come, how many bytes of it were given as far as that is counted, and how many reads have failed
pub record AnswersSeen : Type 0 where
  pub translating : answer.Translating
  pub given : ℕ
  pub faults : ℕ

-- a request and its answer that have not begun
abbrev pub no_request : Application → AsksSeen
no_request application = record { translating = request.starting application; stopped = false; faults = 0 }

abbrev pub no_answer : (limit : ℕ) → AnswersSeen
no_answer limit = record { translating = answer.starting limit; given = 0; faults = 0 }

-- a write has failed
abbrev pub has_failed : AsksSeen → Bool
has_failed asks = not (asks.faults == 0)

-- ---- what is told

-- a link that asks this application over one below: its bytes are the HTTP stream that is left of those below
abbrev pub seen_asking : Application → AnswersSeen → (write_faults : ℕ) → (below : Seen) → Seen
seen_asking application answers write_faults below =
    let stream = option_map (answer.left_in answers.translating) below.to_come in
    record {
      to_come = option_map (λ (s : HttpStream). s.bytes) stream;
      ending = option_map (λ (s : HttpStream). s.ending) stream;
      closed = below.closed;
      plain = below.plain;
      takes = Untold;
      manner = Asks application;
      taken = Some answers.given;
      read_faults = answers.faults;
      write_faults = write_faults;
    }

-- ---- what counts as written

-- This text was written: what the link below was written are the records that ask it, or, where a write has failed, a front of records that ask it and some
-- more. While more may be written, the translator stands for the text, and all that it gave is written.
pub record WroteAsking (asks : AsksSeen) (below : List ℕ → Type 0) (text : List ℕ) : Type 0 where
  pub given : List ℕ
  pub written : below given
  pub passed : AsksBy asks.translating.application (has_failed asks) given text
  pub stands : asks.stopped ≡ false → request.Stands asks.translating given text

-- a link below of which nothing was read or closed: at most it was written more
pub record IsUnread (old new : Seen) : Type 0 where
  pub to_come : new.to_come ≡ old.to_come
  pub closed : new.closed ≡ old.closed
  pub plain : new.plain ≡ old.plain
  pub manner : new.manner ≡ old.manner
