-- What the laws of a session's core say to a driver.
use Rattle.std.proofs.Common.{◌≡◌, ◌≢◌, ℕ, ◌<◌, ◌≤◌, Option, List, [], ◌∷◌, Bool, true, length, Some, sym, ap, refl, arith}
use Rattle.http_model.specs.declared.Close.{Close}
use Rattle.http_model.specs.declared.End.{End}
use Rattle.session_model.specs.Meaning.{Meaning}
use Rattle.session_core.specs.History.{Past}
use Rattle.session_core.specs.Sided.{Sided, RequestSeen, AnswerSeen}
use Rattle.session_core.specs.Waits.{wants_of, is_serving, IsAtOnce, IsNone, IsTaken}
use Rattle.session_core.specs.Consequences.{IsTotal, IsFinal, IsFront, out_of_past}
use Rattle.session_core.specs.Drives.{WantsSay}
use Rattle.session_core.specs.Leads.{Stands}
use Rattle.session_core.specs.Lines.{IsLineOf, LineAt}
use Rattle.session_core.specs.Place.{Place, IsPlaced}
use Rattle.session_core.specs.Statuses.{StatusAt, status_in, whole_in}
use Rattle.session_core.specs.declared.machine.At.{At}
use Rattle.session_core.proofs.PublicLaws.{front, mean, says, final_taken, front_taken, tells, close_whole}
use Rattle.htx_drive.specs.Machine.{CoreSeen, WantsMean, TellsSo}

-- a window with bytes is one that isn't empty
some_wait : (window : List ℕ) → window ≢ [] → 0 < length window
some_wait [] h = absurd (h refl)
some_wait (byte ∷ window) h = omega arith

-- what a driver sees of a core
abbrev pub core_seen : RequestSeen → AnswerSeen → At → (lost : Bool) → CoreSeen
core_seen q a at lost =
    record {
      wants = wants_of q a at;
      serving = is_serving at.phase;
      to_client = a.window;
      to_server = q.window;
      client_room = q.room;
      server_room = a.room;
      cut = at.cut;
      begun = a.begun;
      exchanges = at.exchanges;
      line = q.line;
      status = status_in at.phase a.status;
      whole = whole_in at.phase a.answered;
      lost = lost;
    }

pub core_means : (q : RequestSeen) (a : AnswerSeen) (at : At) (lost : Bool) → WantsMean (core_seen q a at lost)
core_means q a at lost =
    let m = mean q a at in
    record {
      client_read = λ e. (m.client_read e).1;
      client_write = λ e. some_wait a.window (m.client_write e);
      server_read = λ e. (m.server_read e).1;
      server_write = λ e. some_wait q.window (m.server_write e);
      idle = m.idle;
      serving = m.serving;
    }

pub core_says : (M : Meaning) {D : Type 0} (request : D → RequestSeen) (answer : D → AnswerSeen) (stands : D → Sided M → Type 0) (sides : D) (at : At) (past : Past)
    → Stands M request answer stands sides at past → WantsSay (wants_of (request sides) (answer sides) at) past
core_says M request answer stands sides at past s = says M at (request sides) (answer sides) s.sided past s.holds

pub core_noted : (M : Meaning) {D : Type 0} (request : D → RequestSeen) (answer : D → AnswerSeen) (stands : D → Sided M → Type 0) (sides : D) (at : At) (past : Past)
    → Stands M request answer stands sides at past → at.cut ≡ past.note
core_noted M request answer stands sides at past s = sym s.holds.note

pub core_tells : (M : Meaning) {D : Type 0} (request : D → RequestSeen) (answer : D → AnswerSeen) (stands : D → Sided M → Type 0) (placed : Place → Type 0) (sides : D) (at : At) (lost : Bool) (past : Past)
    → Stands M request answer stands sides at past → IsPlaced placed (answer sides) at.phase at.cut
    → ((p : Sided M) → stands sides p → IsLineOf M p.came (request sides).line) → ((p : Sided M) (place : Place) → stands sides p → placed place → LineAt place M p.came (request sides).line)
    → ((p : Sided M) (place : Place) → stands sides p → placed place → StatusAt place (answer sides) p)
    → TellsSo M past (core_seen (request sides) (answer sides) at lost)
core_tells M request answer stands placed sides at lost past s here line line_at status = tells M (stands sides) placed at (request sides) (answer sides) s.sided past s.stand s.holds here line line_at status

pub core_closes : (q : RequestSeen) (a : AnswerSeen) (at : At) (how : Close) → (wants_of q a at).server_close ≡ Some how → whole_in at.phase a.answered ≡ true
core_closes q a at how e = close_whole q a at how e

pub core_over : (M : Meaning) {D : Type 0} (request : D → RequestSeen) (answer : D → AnswerSeen) (stands : D → Sided M → Type 0) (sides : D) (at : At) (past : Past) (how : End)
    → Stands M request answer stands sides at past → (wants_of (request sides) (answer sides) at).over ≡ Some how → IsFinal M past (out_of_past past past.taken at.exchanges how)
core_over M request answer stands sides at past how s over = final_taken M at (request sides) (answer sides) s.sided past how s.holds over

pub core_front : (M : Meaning) → IsTotal M → {D : Type 0} (request : D → RequestSeen) (answer : D → AnswerSeen) (stands : D → Sided M → Type 0) (sides : D) (at : At) (past : Past)
    → Stands M request answer stands sides at past → IsFront M past [] [] (answer sides).begun
core_front M total request answer stands sides at past s =
    front_taken M past (answer sides).window (request sides).window (answer sides).begun (front M total at (request sides) (answer sides) s.sided past s.holds)

-- a core whose directions are as they were
pub core_lends : {D C : Type 0} {old new : D} (core : D → C) → new ≡ old → core new ≡ core old
core_lends core e = ap core e

pub core_takes_fewer : (goes : ℕ → Type 0) → ((most count : ℕ) → goes most → count ≤ most → goes count) → (cut : Option Bool) (most count : ℕ) → IsAtOnce goes cut most → count ≤ most → IsAtOnce goes cut count
core_takes_fewer goes fewer_goes cut most count (IsNone none) fewer = IsNone (omega arith)
core_takes_fewer goes fewer_goes cut most count (IsTaken other all) fewer = IsTaken other (fewer_goes most count all fewer)
