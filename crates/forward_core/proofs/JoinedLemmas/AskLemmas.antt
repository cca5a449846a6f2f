-- What a head that came asks for, however the client's stream goes on.
use Rattle.std.proofs.Common.{◌≡◌, ℕ, List, ◌++◌, Option, Some, None, refl, sym, ap, ◌∙◌, subst, append_assoc}
use Rattle.http_model.specs.declared.Ending.{Ending}
use Rattle.http_model.specs.Reading.{Received, Begins}
use Rattle.session_model.specs.Stream.{Stream}
use Rattle.session_model.specs.Env.{request_env}
use Rattle.session_model.specs.Meaning.{Meaning}
use Rattle.session_model.specs.Asking.{Asked, Asks, asked_by}
use Rattle.session_core.specs.History.{Coming, Continues, ContinuesBy, prepend}
use Rattle.session_core.specs.Lanes.{HeadCame}

-- what goes on from bytes with others in front begins with those
record Splits (used : List ℕ) (bytes : List ℕ) (ending : Option Ending) (stream : Stream) : Type 0 where
  pub rest : Stream
  pub is : stream ≡ prepend used rest
  pub on : ContinuesBy ending bytes rest

splits : (used bytes : List ℕ) (ending : Option Ending) (stream : Stream) → ContinuesBy ending (used ++ bytes) stream → Splits used bytes ending stream
splits used bytes None stream h =
    record {
      rest = record { bytes = bytes ++ h.0; ending = stream.ending };
      is = ap (λ (xs : List ℕ). record { bytes = xs; ending = stream.ending }) (h.1 ∙ append_assoc used bytes h.0);
      on = (h.0, refl);
    }
splits used bytes (Some how) stream h =
    record {
      rest = record { bytes = bytes; ending = stream.ending };
      is = ap (λ (xs : List ℕ). record { bytes = xs; ending = stream.ending }) h.0;
      on = (refl, h.1);
    }

-- a head asks for what the rules make of it and of what follows
pub asks_behind : (M : Meaning) (vars : M.Vars) (came : Coming) (received : Received) (used : List ℕ) (left : Coming) → HeadCame M came received used left
    → (asked : Stream → Asked M.Vars) → ((rest : Stream) → asked rest ≡ asked_by M received rest (M.request_rules (request_env vars received.head)))
    → (stream : Stream) → Continues came stream → (rest : Stream) × Asks M vars stream (asked rest)
asks_behind M vars came received used left h asked is stream on =
    let s = splits used left.bytes left.ending stream (subst (λ (c : Coming). Continues c stream) h.came_is on) in
    (s.rest, subst (λ (x : Stream). Asks M vars x (asked s.rest)) (sym s.is) (record { head = Begins received s.rest.bytes; reads = h.reads s.rest s.on; asks = is s.rest }))

-- and where that is whatever follows
pub asks_always : (M : Meaning) (vars : M.Vars) (came : Coming) (received : Received) (used : List ℕ) (left : Coming) → HeadCame M came received used left
    → (asked : Asked M.Vars) → ((rest : Stream) → asked ≡ asked_by M received rest (M.request_rules (request_env vars received.head)))
    → (stream : Stream) → Continues came stream → Asks M vars stream asked
asks_always M vars came received used left h asked is stream on = (asks_behind M vars came received used left h (λ rest. asked) is stream on).1
