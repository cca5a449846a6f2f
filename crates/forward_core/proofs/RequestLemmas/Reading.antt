-- From what a lane tells of a head to what the client's stream asks for.
use Rattle.std.proofs.Common.{◌≡◌, ◌≢◌, ℕ, ◌<◌, inl, inr, List, [], ◌∷◌, ◌++◌, ◌&&◌, ◌==◌, Bool, true, false, refl, ap, sym, ◌∙◌, subst, append_assoc, if◌then◌else◌, length, ◌-◌, arith}
use Rattle.std.specs.Prelude.{Option, Some, None, is_some, codes}
use Rattle.std.proofs.lemmas.List.{append-nil}
use Rattle.http_model.specs.declared.Ending.{Ending}
use Rattle.http_model.specs.declared.Limits.{Limits}
use Rattle.http_model.specs.Head.{StartLine}
use Rattle.http_model.specs.Reading.{HeadReading, Nothing, Refused, Begins, Received}
use Rattle.session_model.specs.Stream.{Stream}
use Rattle.session_model.specs.Asking.{Asks, asked_of}
use Rattle.session_core.specs.History.{Coming, Continues, ContinuesBy}
use Rattle.session_core.specs.Sided.{Asking, Reply}
use Rattle.session_core.specs.Lanes.{HeadCame}
use Rattle.session_core.specs.Lines.{ShowsLine, IsHeadless, request_words}
use Rattle.px_sample.specs.Variables.{Variables}
use Rattle.http_rules.specs.declared.config.Config.{Config}
use Rattle.forward_core.specs.Meaning.Product.{meaning_of}
use Rattle.h1_head.specs.Kind.{request_heads}
use Rattle.h1_head.specs.Lines.{IsRequestLine}
use Rattle.h1_head.specs.Request.{RequestOf}
use Rattle.httparse.specs.Grammar.{RequestHead, print_request, print_blank}
use Rattle.httparse.proofs.GrammarLemmas.{print_request-append}
use Rattle.h1_head.specs.Stream.{behind, BeginsWith, HasNoHead, HeadOf}
use Rattle.lane.specs.Direction.Promise.{GoesOnWith}
use Rattle.h1_head.specs.Decides.{OnEachStream}
use Rattle.h1_head.specs.declared.answer.Side.TheVariants as side
use Rattle.lane.specs.Direction.Heads.{HasHead as LaneHas, Waits, IsEnd}
use Rattle.lane.specs.Direction.Sends.{IsReading}
use Rattle.lane.specs.Direction.State.{LaneState}
use Rattle.forward_core.specs.declared.request.place.Place.{Place}
use Rattle.forward_core.specs.declared.request.place.Place.TheVariants as place
use Rattle.forward_core.specs.declared.request.side.RequestSide.{RequestSide}
use Rattle.forward_core.specs.Request.Stands.{IsFor, ReadsOn, SoundAt, StandsAt, left_of}
use Rattle.forward_core.specs.Request.Reads.{HeadRead}
use Rattle.forward_core.proofs.RequestLemmas.Bodies.{Follows, follows}

-- ---- a stream and what stands behind its empty lines

abbrev pub EndsWith : List ℕ → List ℕ → Type 0
EndsWith xs end = (front : List ℕ) × (xs ≡ front ++ end)

behind_two : (a b : ℕ) (xs : List ℕ) (t u : Bool) → EndsWith (b ∷ xs) (behind (b ∷ xs)) → EndsWith xs (behind xs) → EndsWith (a ∷ b ∷ xs) (if t then behind (b ∷ xs) else if u then behind xs else a ∷ b ∷ xs)
behind_two a b xs true u one two = (a ∷ one.0, ap (λ ys. a ∷ ys) one.1)
behind_two a b xs false true one two = (a ∷ b ∷ two.0, ap (λ ys. a ∷ b ∷ ys) two.1)
behind_two a b xs false false one two = ([], refl)

behind_one : (a : ℕ) (t : Bool) → EndsWith (a ∷ []) (if t then [] else a ∷ [])
behind_one a true = (a ∷ [], refl)
behind_one a false = ([], refl)

behind_ends : (xs : List ℕ) → EndsWith xs (behind xs)
behind_ends [] = ([], refl)
behind_ends (a ∷ []) = behind_one a (a == 10)
behind_ends (a ∷ b ∷ xs) = behind_two a b xs (a == 10) (a == 13 && b == 10) (behind_ends (b ∷ xs)) (behind_ends xs)

-- what follows a head is an end of the stream
rest_ends : (limits : Limits) (stream : List ℕ) (got : Received) (rest : List ℕ) → RequestOf limits stream (Begins got rest) → EndsWith stream rest
rest_ends limits stream got rest (h, begins, decided) =
    let b = behind_ends stream in
    let text : behind stream ≡ print_request h ++ rest = begins.reads.1 in
    (b.0 ++ print_request h, b.1 ∙ ap (λ (ys : List ℕ). b.0 ++ ys) text ∙ sym (append_assoc b.0 (print_request h) rest))

-- streams alike behind their empty lines have one reading
read_alike : (limits : Limits) (a b : List ℕ) (r : HeadReading) → behind b ≡ behind a → RequestOf limits a r → RequestOf limits b r
read_alike limits a b Nothing e h = e ∙ h
read_alike limits a b (Refused code) e (inl (h, is)) = inl (record { some = λ none. h.some (sym e ∙ none); none = subst (λ (xs : List ℕ). HasNoHead request_heads limits xs) (sym e) h.none }, is)
read_alike limits a b (Refused code) e (inr (why, h, is)) =
    inr (why, record { head = h.head; rest = h.rest; begins = subst (λ (xs : List ℕ). BeginsWith request_heads limits xs h.head h.rest) (sym e) h.begins; refused = h.refused }, is)
read_alike limits a b (Begins got rest) e (h, begins, decided) = (h, subst (λ (xs : List ℕ). BeginsWith request_heads limits xs h rest) (sym e) begins, decided)

ended_none : (ended : Option Ending) (more : List ℕ) (last : Ending) → GoesOnWith ended more (Some last) → is_some ended ≡ true → more ≡ []
ended_none None more last g e = absurd (cc)
ended_none (Some how) more last g e = g.0

-- ---- what a lane tells

-- a stream that goes on from what came reads as the bytes in the window do
reads_as : (cfg : Config) (old : LaneState) (came : Coming) (r : List ℕ → HeadReading) → IsFor cfg old → ReadsOn old came
    → OnEachStream (is_some old.ended) (λ more. HeadOf request_heads old.limits (old.input.items ++ more) (r more))
    → (more : List ℕ) → (is_some old.ended ≡ true → more ≡ []) → RequestOf cfg.limits (came.bytes ++ more) (r more)
reads_as cfg old came r is on each more ends =
    subst (λ (l : Limits). RequestOf l (came.bytes ++ more) (r more)) is.limits
    (read_alike old.limits (old.input.items ++ more) (came.bytes ++ more) (r more) (on.lines more) (each more ends))

-- what follows what came
came_follows : (old : LaneState) (came : Coming) (stream : Stream) → ReadsOn old came → Continues came stream → Follows old.ended came.bytes stream
came_follows old came stream on c = follows old.ended came.bytes stream (subst (λ (o : Option Ending). ContinuesBy o came.bytes stream) on.ending c)

-- a reading that needs nothing of what follows is that of each stream
reads_always : (cfg : Config) (old : LaneState) (came : Coming) (r : HeadReading) → IsFor cfg old → ReadsOn old came
    → OnEachStream (is_some old.ended) (λ more. HeadOf request_heads old.limits (old.input.items ++ more) r)
    → (stream : Stream) → Continues came stream → RequestOf cfg.limits stream.bytes r
reads_always cfg old came r is on each stream c =
    let f = came_follows old came stream on c in
    subst (λ (xs : List ℕ). RequestOf cfg.limits xs r) (sym f.is) (reads_as cfg old came (λ more. r) is on each f.more (ended_none old.ended f.more stream.ending f.goes))

-- where it is no head, no line is told
pub shows_none : (cfg : Config) (old : LaneState) (came : Coming) (r : HeadReading) (line : List ℕ) → IsFor cfg old → ReadsOn old came
    → OnEachStream (is_some old.ended) (λ more. HeadOf request_heads old.limits (old.input.items ++ more) r) → IsHeadless r → line ≡ [] → ShowsLine (meaning_of cfg) came line
shows_none cfg old came r line is on each headless none =
    inl (none, λ stream c. record { head = r; reads = reads_always cfg old came r is on each stream c; headless = headless })

-- and it is asked by
pub asks_reading : (cfg : Config) (old : LaneState) (vars : Variables) (came : Coming) (r : HeadReading) → IsFor cfg old → ReadsOn old came
    → OnEachStream (is_some old.ended) (λ more. HeadOf request_heads old.limits (old.input.items ++ more) r)
    → (stream : Stream) → Continues came stream → Asks (meaning_of cfg) vars stream (asked_of (meaning_of cfg) vars stream.ending r)
asks_reading cfg old vars came r is on each stream c =
    record { head = r; reads = reads_always cfg old came r is on each stream c; asks = refl }

-- the stream has ended in empty lines
pub each_nothing : (old new : LaneState) → IsEnd side.Request old new → OnEachStream (is_some old.ended) (λ more. HeadOf request_heads old.limits (old.input.items ++ more) Nothing)
each_nothing old new h more ends = ap (λ (xs : List ℕ). behind (old.input.items ++ xs)) (ends h.ended) ∙ ap behind (append-nil old.input.items) ∙ h.nothing

no_byte : (x : ℕ) (xs : List ℕ) → x ∷ xs ≡ [] → ⊥
no_byte x xs e = cc

-- the words of a request line are at least the space
words_some : (method target : List ℕ) → method ++ codes " " ++ target ≢ []
words_some [] target none = no_byte 32 target none
words_some (x ∷ xs) target none = no_byte x (xs ++ codes " " ++ target) none

line_some : (line : StartLine) → IsRequestLine line → request_words line ≢ []
line_some line h none = words_some h.method h.target (sym (ap request_words h.is) ∙ none)

-- a head came
pub head_read : (cfg : Config) (old : LaneState) (new : RequestSide) (came : Coming) → IsFor cfg old → IsFor cfg new.lane → new.lane.ended ≡ old.ended → ReadsOn old came
    → (h : LaneHas side.Request old new.lane) → new.line.bytes ≡ request_words h.head.line
    → HeadRead cfg new came (record { head = h.head; framing = new.lane.framing; declared = new.lane.declared; close = new.lane.close })
head_read cfg old new came is now ended on h words =
    let got : Received = record { head = h.head; framing = new.lane.framing; declared = new.lane.declared; close = new.lane.close } in
    let input : List ℕ = new.lane.input.items in
    let r : List ℕ → HeadReading = λ more. Begins got (input ++ more) in
    let at : (more : List ℕ) → (is_some old.ended ≡ true → more ≡ []) → RequestOf cfg.limits (came.bytes ++ more) (r more) = reads_as cfg old came r is on h.begins in
    let first : RequestOf cfg.limits came.bytes (Begins got input) =
    subst (λ (xs : List ℕ). RequestOf cfg.limits xs (Begins got input)) (append-nil came.bytes) (subst (λ (xs : List ℕ). RequestOf cfg.limits (came.bytes ++ []) (Begins got xs)) (append-nil input) (at [] (λ e. refl))) in
    let e = rest_ends cfg.limits came.bytes got input first in
    let with_ending : Option Ending → Coming = λ o. record { bytes = e.0 ++ input; ending = o } in
    let with_bytes : List ℕ → Coming = λ xs. record { bytes = xs; ending = came.ending } in
    let head : HeadCame (meaning_of cfg) came got e.0 (left_of new) = record {
      came_is = ap with_bytes e.1 ∙ ap with_ending (on.ending ∙ sym ended);
      reads = λ rest c. (let f = follows new.lane.ended input rest c in
          let same : e.0 ++ rest.bytes ≡ came.bytes ++ f.more = ap (λ (xs : List ℕ). e.0 ++ xs) f.is ∙ sym (append_assoc e.0 input f.more) ∙ ap (λ (xs : List ℕ). xs ++ f.more) (sym e.1) in
          let ends : is_some old.ended ≡ true → f.more ≡ [] = λ some. ended_none new.lane.ended f.more rest.ending f.goes (ap is_some ended ∙ some) in
          subst (λ (xs : List ℕ). RequestOf cfg.limits xs (Begins got rest.bytes)) (sym same)
          (subst (λ (xs : List ℕ). RequestOf cfg.limits (came.bytes ++ f.more) (Begins got xs)) (sym f.is) (at f.more ends)));
    } in
    let some : new.line.bytes ≢ [] = λ none. line_some h.head.line h.received.line (sym words ∙ none) in
    record { is_for = now; used = e.0; head = head; line = record { received = got; used = e.0; left = left_of new; head = head; is = words; some = some } }

-- where more is to come the window still stands for what came
pub reads_on : (old new : LaneState) (came : Coming) → new.ended ≡ old.ended → Waits side.Request old new → ReadsOn old came → ReadsOn new came
reads_on old new came ended w h = record { ending = h.ending ∙ sym ended; lines = λ more. h.lines more ∙ w.front more }

-- ---- sizes

pub some_room : (most : ℕ) (input : List ℕ) → length input < most → 0 < most - length input
some_room most input h = omega (arith, h)

-- ---- by the place

pub at_reading : (at : Place) (cfg : Config) (lane : LaneState) (vars : Variables) (came : Coming) (asking : Asking Variables) (to_server : List ℕ) (reply : Reply Variables) → at ≡ place.Reading
    → StandsAt at cfg lane vars came asking to_server reply → ReadsOn lane came
at_reading place.Reading cfg lane vars came asking to_server reply e h = h
at_reading place.Sending cfg lane vars came asking to_server reply e h = absurd (cc)
at_reading place.Idle cfg lane vars came asking to_server reply e h = absurd (cc)
at_reading place.Replied cfg lane vars came asking to_server reply e h = absurd (cc)

pub on_reading : (at : Place) (cfg : Config) (lane : LaneState) (vars : Variables) (came : Coming) (asking : Asking Variables) (to_server : List ℕ) (reply : Reply Variables) → at ≡ place.Reading
    → ReadsOn lane came → StandsAt at cfg lane vars came asking to_server reply
on_reading place.Reading cfg lane vars came asking to_server reply e h = h
on_reading place.Sending cfg lane vars came asking to_server reply e h = absurd (cc)
on_reading place.Idle cfg lane vars came asking to_server reply e h = absurd (cc)
on_reading place.Replied cfg lane vars came asking to_server reply e h = absurd (cc)

pub still_reading : (at : Place) (old new : LaneState) → at ≡ place.Reading → SoundAt at old → IsReading side.Request new → new.output.items ≡ old.output.items → SoundAt at new
still_reading place.Reading old new e s reads out = (reads, out ∙ s.1)
still_reading place.Sending old new e s reads out = absurd (cc)
still_reading place.Idle old new e s reads out = absurd (cc)
still_reading place.Replied old new e s reads out = absurd (cc)

pub nothing_out : (at : Place) (lane : LaneState) → at ≡ place.Reading → SoundAt at lane → lane.output.items ≡ []
nothing_out place.Reading lane e s = s.1
nothing_out place.Sending lane e s = absurd (cc)
nothing_out place.Idle lane e s = absurd (cc)
nothing_out place.Replied lane e s = absurd (cc)

-- ---- bytes that are used

back_nil : (xs ys : List ℕ) → xs ++ ys ≡ [] → ys ≡ []
back_nil [] ys e = e
back_nil (x ∷ xs) ys e = absurd (cc)

-- a head is not empty
head_has : (h : RequestHead) (rest : List ℕ) → print_request h ++ rest ≡ [] → ⊥
head_has h rest e = no_byte _ _ (back_nil h.method _ (back_nil (print_blank h.blank) _ (sym (print_request-append h rest) ∙ e)))

refused_some : (limits : Limits) (stream : List ℕ) (code : ℕ) → RequestOf limits stream (Refused code) → behind stream ≢ []
refused_some limits stream code (inl (h, is)) = h.some
refused_some limits stream code (inr (why, h, is)) = λ none. head_has h.head h.rest (sym h.begins.reads.1 ∙ none)

pub refuses_bytes : (limits : Limits) (input : List ℕ) (ended : Bool) (code : ℕ) → OnEachStream ended (λ more. RequestOf limits (input ++ more) (Refused code)) → 0 < length input
refuses_bytes limits [] ended code each = absurd (refused_some limits [] code (each [] (λ e. refl)) refl)
refuses_bytes limits (x ∷ input) ended code each = omega arith

pub head_uses : (limits : Limits) (input left : List ℕ) (ended : Bool) (got : Received) → ((stream : List ℕ) (got : Received) (rest : List ℕ) → RequestOf limits stream (Begins got rest) → length rest < length stream)
    → OnEachStream ended (λ more. RequestOf limits (input ++ more) (Begins got (left ++ more))) → length left < length input
head_uses limits input left ended got shorter each =
    let h = shorter (input ++ []) got (left ++ []) (each [] (λ e. refl)) in
    let P : List ℕ → List ℕ → Type 0 = λ xs ys. length xs < length ys in
    subst (λ xs. P xs input) (append-nil left) (subst (λ ys. P (left ++ []) ys) (append-nil input) h)
