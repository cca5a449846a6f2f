-- What a lane's head and body make of the request direction.
use Rattle.std.proofs.Common.{◌≡◌, ℕ, List, true, false, sym, subst, ◌∙◌, refl}
use Rattle.http_model.specs.Reading.{Received}
use Rattle.http_model.specs.Reading as reading
use Rattle.session_model.specs.Stream.{Stream}
use Rattle.session_model.specs.Env.{Env, Pass, request_env}
use Rattle.session_model.specs.Meaning.{Meaning, declares_too_much}
use Rattle.session_model.specs.Asking.{Asks, Sends, asked_by, request_fits}
use Rattle.session_core.specs.History.{Coming, Continues}
use Rattle.session_core.specs.Lanes.{HeadCame}
use Rattle.session_core.specs.Splits.{Splits}
use Rattle.session_core.specs.HeadAsks.{HeadAsks}
use Rattle.session_core.proofs.Consequences.{split_past}

-- a head that came is asked by, however the stream goes on
pub head_asks : (M : Meaning) (vars : M.Vars) (came left : Coming) (received : Received) (used : List ℕ)
    → HeadCame M came received used left → (stream : Stream) → Continues came stream → HeadAsks M vars left received stream
head_asks M vars came left received used h stream c =
    let s : Splits used left stream = split_past used left came stream h.came_is c in
    let P : Stream → Type 0 = λ x. Asks M vars x (asked_by M received s.rest (M.request_rules (request_env vars received.head))) in
    record {
      rest = s.rest;
      continues = s.continues;
      asks = subst P (sym s.is) (record { head = reading.Begins received s.rest.bytes; reads = h.reads s.rest s.continues; asks = refl });
    }

-- rules that pass, a length within the limits and a finished head that fits ask for a server
pub sends_head : (M : Meaning) (vars : M.Vars) (received : Received) (env : Env M.Vars) (stream rest : Stream) → M.request_rules (request_env vars received.head) ≡ Pass env
    → declares_too_much M.request_filters received.declared ≡ false → request_fits M received env.head ≡ true
    → Asks M vars stream (asked_by M received rest (M.request_rules (request_env vars received.head)))
    → Asks M vars stream (Sends (record { received = received; head = env.head; vars = env.vars; rest = rest }))
sends_head M vars received env stream rest rules short fits a =
    record { head = a.head; reads = a.reads; asks = sent ∙ a.asks }
  where
    sent : Sends (record { received = received; head = env.head; vars = env.vars; rest = rest }) ≡ asked_by M received rest (M.request_rules (request_env vars received.head))
    sent = rw rules (rw short (rw fits refl))
