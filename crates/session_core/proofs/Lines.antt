-- The request line of the exchange in hand.
use Rattle.std.proofs.Common.{◌≡◌, ℕ, List, Bool, true, false, Option, None, append_assoc, sym, ap, ◌∙◌, subst, inl, inr}
use Rattle.http_model.specs.declared.Ending.{Ending}
use Rattle.session_model.specs.Meaning.{Meaning}
use Rattle.session_core.specs.History.{Past, Coming, gains, ends}
use Rattle.session_core.specs.Sided.{Sided, RequestSeen, AnswerSeen}
use Rattle.session_core.specs.Place.{Place, Reads, Opens, Serves, Says, Replies, Ends, is_reading, IsPlaced}
use Rattle.session_core.specs.InHand.{ExchangesAre}
use Rattle.session_core.specs.Lines.{HasLine, IsLineOf, ShowsLine, LineAt, LineIn, LineInHand, LineTold}
use Rattle.session_core.specs.declared.machine.At.{At}
use Rattle.session_core.specs.declared.Phase.{Phase}
use Rattle.session_core.specs.declared.Phase.TheVariants as phase
use Rattle.session_core.proofs.Streams.{continues_gains, continues_ends}

-- ---- bytes that come in, and the end of the stream

pub line_gains : (M : Meaning) (came : Coming) (bytes line : List ℕ) → came.ending ≡ None → HasLine M came line → HasLine M (gains came bytes) line
line_gains M came bytes line goes_on h =
    let left : Coming = h.left in
    let open_left : left.ending ≡ None = sym (ap (λ (c : Coming). c.ending) h.head.came_is) ∙ goes_on in
    let with_bytes : List ℕ → Coming = λ bs. record { bytes = bs; ending = left.ending } in
    record {
      received = h.received;
      used = h.used;
      left = gains left bytes;
      head = record {
        came_is = ap (λ (c : Coming). gains c bytes) h.head.came_is ∙ ap with_bytes (append_assoc h.used left.bytes bytes);
        reads = λ rest c. h.head.reads rest (continues_gains left bytes rest open_left c);
      };
      is = h.is;
      some = h.some;
    }

pub line_ends : (M : Meaning) (came : Coming) (how : Ending) (line : List ℕ) → came.ending ≡ None → HasLine M came line → HasLine M (ends came how) line
line_ends M came how line goes_on h =
    let left : Coming = h.left in
    let open_left : left.ending ≡ None = sym (ap (λ (c : Coming). c.ending) h.head.came_is) ∙ goes_on in
    record {
      received = h.received;
      used = h.used;
      left = ends left how;
      head = record {
        came_is = ap (λ (c : Coming). ends c how) h.head.came_is;
        reads = λ rest c. h.head.reads rest (continues_ends left how rest open_left c);
      };
      is = h.is;
      some = h.some;
    }

pub shown_gains : (M : Meaning) (came : Coming) (bytes line : List ℕ) → came.ending ≡ None → ShowsLine M came line → ShowsLine M (gains came bytes) line
shown_gains M came bytes line goes_on (inl (none, headless)) = inl (none, λ stream c. headless stream (continues_gains came bytes stream goes_on c))
shown_gains M came bytes line goes_on (inr h) = inr (line_gains M came bytes line goes_on h)

pub shown_ends : (M : Meaning) (came : Coming) (how : Ending) (line : List ℕ) → came.ending ≡ None → ShowsLine M came line → ShowsLine M (ends came how) line
shown_ends M came how line goes_on (inl (none, headless)) = inl (none, λ stream c. headless stream (continues_ends came how stream goes_on c))
shown_ends M came how line goes_on (inr h) = inr (line_ends M came how line goes_on h)

-- ---- by where the directions stand

pub line_of_shown : (M : Meaning) (came : Coming) (line : List ℕ) → ShowsLine M came line → IsLineOf M came line
line_of_shown M came line (inl (none, headless)) = inl none
line_of_shown M came line (inr h) = inr h

shown_at : (at : Place) (M : Meaning) (came : Coming) (line : List ℕ) → is_reading at ≡ false → LineAt at M came line → ShowsLine M came line
shown_at Reads M came line e h = absurd (let f : true ≡ false = e in cc f)
shown_at Opens M came line e h = inr h
shown_at Serves M came line e h = inr h
shown_at Says M came line e h = h
shown_at Replies M came line e h = inr h
shown_at Ends M came line e h = h

-- ---- the core

pub line_by : (placed : Place → Type 0) (a : AnswerSeen) (ph : Phase) (cut : Option Bool) (M : Meaning) (came : Coming) (line : List ℕ) → IsPlaced placed a ph cut → ((at : Place) → placed at → LineAt at M came line) → LineIn ph cut M came line
line_by placed a phase.Reading cut M came line h each = each Reads h.0
line_by placed a phase.Opening cut M came line h each = each Opens h.0
line_by placed a phase.Unserved cut M came line h each = each Opens h
line_by placed a phase.Serving cut M came line h each = each _ h
line_by placed a phase.Served cut M came line h each = each _ h.0
line_by placed a phase.Refusing cut M came line h each = each Says h
line_by placed a (phase.Replying kept) cut M came line h each = each Replies h.0
line_by placed a (phase.Over how) cut M came line h each = shown_at h.0 M came line h.1 (each h.0 h.2)

pub line_in_hand : (M : Meaning) (S : Sided M → Type 0) (at : At) (q : RequestSeen) (a : AnswerSeen) (past : Past) → (e : ExchangesAre M S q a at past)
    → ((p : Sided M) → S p → IsLineOf M p.came q.line) → LineInHand M S q a at past
line_in_hand M S at q a past e law = record { exchanges = e; line = subst (λ (c : Coming). IsLineOf M c q.line) (sym e.came) (law e.sided e.stand) }

pub line_told : (M : Meaning) (S : Sided M → Type 0) (placed : Place → Type 0) (at : At) (q : RequestSeen) (a : AnswerSeen) (past : Past) → (e : ExchangesAre M S q a at past) → IsPlaced placed a at.phase at.cut
    → ((p : Sided M) (place : Place) → S p → placed place → LineAt place M p.came q.line) → LineTold M S q a at past
line_told M S placed at q a past e placed_is law = record {
  exchanges = e;
  line = subst (λ (c : Coming). LineIn at.phase at.cut M c q.line) (sym e.came) (line_by placed a at.phase at.cut M e.sided.came q.line placed_is (λ place here. law e.sided place e.stand here));
}
