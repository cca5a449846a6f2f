-- What a core wants of its driver, and what it waits for once it has done all that can be done.
use Rattle.std.specs.Prelude.{◌≡◌, ◌≢◌, ℕ, ◌<◌, nat_lt, List, [], ◌∷◌, Bool, true, false, not, ◌&&◌, ◌||◌, if◌then◌else◌, Option, Some, None, is_some, ⊤, ◌⊎◌}
use Rattle.http_model.specs.declared.End.{End}
use Rattle.session_core.specs.History.{close_by}
use Rattle.session_core.specs.Sided.{RequestSeen, AnswerSeen}
use Rattle.http_model.specs.declared.Source.{Source}
use Rattle.http_model.specs.declared.Source.TheVariants as source
use Rattle.session_core.specs.declared.Told.{Told}
use Rattle.session_core.specs.declared.Told.TheVariants as told
use Rattle.session_core.specs.declared.Phase.{Phase}
use Rattle.session_core.specs.declared.Phase.TheVariants as phase
use Rattle.session_core.specs.declared.machine.At.{At}
use Rattle.session_core.specs.declared.machine.Wants.{Wants}

abbrev pub is_empty : List ℕ → Bool
is_empty [] = true
is_empty (x ∷ xs) = false

abbrev pub is_going : Source → Bool
is_going source.Going = true
is_going source.Whole = false
is_going (source.Cut code) = false

abbrev pub is_telling : Told → Bool
is_telling told.Going = true
is_telling told.Closes = false
is_telling told.Whole = false
is_telling told.Cut = false

abbrev pub is_serving : Phase → Bool
is_serving phase.Serving = true
is_serving _ = false

abbrev pub is_opening : Phase → Bool
is_opening phase.Opening = true
is_opening _ = false

-- the request in hand may take more bytes of the client, or none has begun
abbrev pub takes_client : Source → Phase → Bool
takes_client so phase.Reading = true
takes_client so phase.Opening = is_going so
takes_client so phase.Serving = is_going so
takes_client so _ = false

-- a request that goes to a server is in hand
abbrev pub is_sending : Phase → Bool
is_sending phase.Opening = true
is_sending phase.Serving = true
is_sending _ = false

-- a refusal took the place of the server's answer
abbrev pub is_turned : Option Bool → Bool
is_turned None = false
is_turned (Some begun) = not begun

-- So many bytes of the server, whatever they are, go to the client at once where they come: none, or as many as the directions take so while the
-- server's answer goes out.
pub data IsAtOnce (goes : ℕ → Type 0) (cut : Option Bool) (count : ℕ) : Type 0 where
  IsNone : count ≡ 0 → IsAtOnce goes cut count
  IsTaken : is_turned cut ≡ false → goes count → IsAtOnce goes cut count

-- both directions have ended
abbrev pub has_ended : RequestSeen → AnswerSeen → Bool
has_ended q a = q.sent && is_empty q.window && a.answered

-- the session is over, and no text for the client is left
abbrev pub over_by : Phase → (is_empty : Bool) → Option End
over_by (phase.Over how) empty = if empty then Some how else None
over_by _ empty = None

-- what a core wants, of what is seen of its directions and of its place
abbrev pub wants_of : RequestSeen → AnswerSeen → At → Wants
wants_of q a at =
    record {
      client_read = takes_client q.source at.phase && q.is_open && nat_lt 0 q.room;
      client_write = not (is_empty a.window);
      client_waits = is_sending at.phase && q.awaits && not a.heard;
      server_open = is_opening at.phase;
      server_read = is_serving at.phase && not (is_turned at.cut) && is_telling a.told && a.is_open && nat_lt 0 a.room;
      server_write = is_serving at.phase && not (is_empty q.window);
      server_close = if is_serving at.phase && has_ended q a then Some (close_by at.cut) else None;
      over = over_by at.phase (is_empty a.window);
    }

-- some want stands other than that the client waits, or the session is over
abbrev pub wants_any : Wants → Bool
wants_any w = w.client_read || w.client_write || w.server_open || w.server_read || w.server_write || is_some w.server_close || is_some w.over

-- ---- once all that can be done is done

-- the request direction has done all that can be done: all is sent, bytes wait for the server, or the client may give more
abbrev pub RequestWaits : RequestSeen → Type 0
RequestWaits q = (q.at_rest ≡ true) × (q.sent ≡ false → (q.window ≢ []) ⊎ ((q.source ≡ source.Going) × (q.is_open ≡ true) × (0 < q.room)))

-- the answer direction has done all that can be done: all is answered, bytes wait for the client, or the server may give more
abbrev pub AnswerWaitsAt : Option Bool → AnswerSeen → Type 0
AnswerWaitsAt cut a = (is_turned cut ≡ false → a.at_rest ≡ true) × (a.answered ≡ false → (a.window ≢ []) ⊎ ((is_turned cut ≡ false) × (a.told ≡ told.Going) × (a.is_open ≡ true) × (0 < a.room)))

abbrev pub SayWaits : AnswerSeen → Type 0
SayWaits a = a.answered ≡ false → a.window ≢ []

-- behind the step of the request direction, by the phase
abbrev pub Stepped : Phase → RequestSeen → Type 0
Stepped phase.Serving q = RequestWaits q
Stepped _ q = ⊤

abbrev pub refused_phase : Phase → Phase
refused_phase phase.Reading = phase.Reading
refused_phase phase.Opening = phase.Opening
refused_phase phase.Unserved = phase.Refusing
refused_phase phase.Serving = phase.Serving
refused_phase phase.Served = phase.Served
refused_phase phase.Refusing = phase.Refusing
refused_phase (phase.Replying kept) = phase.Replying kept
refused_phase (phase.Over how) = phase.Over how

-- behind the step of the answer direction
abbrev pub Answered : Phase → Option Bool → AnswerSeen → Type 0
Answered phase.Serving cut a = AnswerWaitsAt cut a
Answered phase.Refusing cut a = SayWaits a
Answered (phase.Replying kept) cut a = SayWaits a
Answered _ cut a = ⊤

-- behind the end of an exchange, where there was one
abbrev pub Ended : Phase → Option Bool → RequestSeen → AnswerSeen → Type 0
Ended phase.Reading cut q a = ⊤
Ended phase.Opening cut q a = ⊤
Ended phase.Unserved cut q a = ⊥
Ended phase.Serving cut q a = RequestWaits q × AnswerWaitsAt cut a
Ended phase.Served cut q a = ⊥
Ended phase.Refusing cut q a = a.window ≢ []
Ended (phase.Replying kept) cut q a = a.window ≢ []
Ended (phase.Over how) cut q a = ⊤

-- behind all of work
abbrev pub Settled : Phase → Option Bool → RequestSeen → AnswerSeen → Type 0
Settled phase.Reading cut q a = (q.at_rest ≡ true) × (q.is_open ≡ true) × (0 < q.room)
Settled phase.Opening cut q a = ⊤
Settled phase.Unserved cut q a = ⊥
Settled phase.Serving cut q a = RequestWaits q × AnswerWaitsAt cut a
Settled phase.Served cut q a = ⊥
Settled phase.Refusing cut q a = a.window ≢ []
Settled (phase.Replying kept) cut q a = a.window ≢ []
Settled (phase.Over how) cut q a = ⊤

-- behind both steps
abbrev pub Ready : Phase → Option Bool → RequestSeen → AnswerSeen → Type 0
Ready phase.Reading cut q a = ⊤
Ready phase.Opening cut q a = ⊤
Ready phase.Unserved cut q a = ⊥
Ready phase.Serving cut q a = RequestWaits q × AnswerWaitsAt cut a
Ready phase.Served cut q a = ⊤
Ready phase.Refusing cut q a = SayWaits a
Ready (phase.Replying kept) cut q a = SayWaits a
Ready (phase.Over how) cut q a = ⊤

abbrev pub IsSaying : Phase → Type 0
IsSaying phase.Refusing = ⊤
IsSaying (phase.Replying kept) = ⊤
IsSaying _ = ⊥
