-- Readings that there are, and refusals that stay.
use Rattle.std.proofs.Common.{◌≡◌, ◌≢◌, ℕ, ◌+◌, ◌<◌, ◌≤◌, inl, inr, Bool, true, false, List, [], ◌∷◌, ◌++◌, length, drop, refl, sym, ◌∙◌, subst, arith}
use Rattle.std.specs.Prelude.{Result, Ok, Err, ◌==◌, ◌&&◌, if◌then◌else◌, count_by}
use Rattle.std.proofs.lemmas.Bool.{cases_lt}
use Rattle.http_model.specs.declared.Limits.{Limits}
use Rattle.http_model.specs.Reading.{HeadReading, Received, Nothing, Refused, Begins}
use Rattle.h1_head.specs.Numbers.{most_fields, most_lines}
use Rattle.h1_head.specs.declared.answer.HeadWhy.{HeadWhy}
use Rattle.h1_head.specs.declared.answer.HeadWhy.TheVariants as why
use Rattle.h1_head.specs.Kind.{HeadKind}
use Rattle.h1_head.specs.Stream.{behind, BeginsWith, HasNone, HasNoHead, IsHeadless, IsKnown, HeadOf}
use Rattle.h1_head.specs.Decides.{MayWait, is_line_feed}
use Rattle.h1_head.specs.Feeds.{feeds}
use Rattle.h1_head.proofs.Heads.{behind-append}
use Rattle.h1_head.proofs.Lawful.{IsLawful}
use Rattle.h1_head.proofs.Streams.{refused_on, waits_short}

-- ---- there is a reading

-- the reading of a head within the limits
by_head : (K : HeadKind) (limits : Limits) (stream : List ℕ) (h : K.Tree) (rest : List ℕ) → BeginsWith K limits (behind stream) h rest → (d : Result Received HeadWhy) → K.decides limits h ≡ d
    → (r : HeadReading) × HeadOf K limits stream r
by_head K limits stream h rest b (Ok got) e = (Begins got rest, (h, b, e))
by_head K limits stream h rest b (Err why) e = (Refused (K.code why), inr (why, record { head = h; rest = rest; begins = b; refused = e }, refl))

without : (K : HeadKind) (limits : Limits) (stream left : List ℕ) → behind stream ≡ left → HasNoHead K limits (behind stream) → (r : HeadReading) × HeadOf K limits stream r
without K limits stream [] e none = (Nothing, e)
without K limits stream (x ∷ xs) e none =
    (Refused (K.code why.Grammar), inl (record { some = λ nil. let no_nil : x ∷ xs ≡ [] = sym e ∙ nil in absurd (grind (arith, no_nil)); none = none }, refl))

pub known_reading : (K : HeadKind) (limits : Limits) (stream : List ℕ) → IsKnown K limits (behind stream) → (r : HeadReading) × HeadOf K limits stream r
known_reading K limits stream (inl h) = by_head K limits stream h.0 h.1 h.2 (K.decides limits h.0) refl
known_reading K limits stream (inr none) = without K limits stream (behind stream) refl none

-- ---- what is refused where more may not be asked for

-- where a head within the limits begins a longer text and none begins the text, the text may wait
may_wait : (K : HeadKind) → IsLawful K → (limits : Limits) (window text more : List ℕ) (h : K.Tree) (rest : List ℕ) → text ≡ behind window → HasNoHead K limits text
    → BeginsWith K limits (text ++ more) h rest → MayWait K limits false window
may_wait K laws limits window text more h rest is none b =
    let size : K.size h ≤ limits.bufsize = b.short in
    let few : K.count h ≤ most_fields = b.few in
    let parses = laws.parses (text ++ more) h rest b.reads in
    let past : length text < K.size h =
    elim (cases_lt (length text) (K.size h)) [
      | inl short ↦ short
      | inr long ↦
          let read = laws.reads text (text ++ more) h (drop (K.size h) text) rest (laws.within text more h rest parses long) b.reads in
          absurd (none h (drop (K.size h) text) (record { reads = read; unled = b.unled; short = b.short; few = b.few }))
    ]
    in
    let fewer : feeds text < 2 + K.count h = laws.lines text more h rest parses b.unled past in
    let no_head : HasNone K text = λ k r front.
    let same = laws.unique (text ++ more) k h (r ++ more) rest (laws.append text k r more front) parses in
    let read = laws.reads text (text ++ more) h r rest (subst (λ (t : K.Tree). K.Parses text t r) same.0 front) b.reads in
    none h r (record { reads = read; unled = b.unled; short = b.short; few = b.few })
    in
    record {
      ended = λ e. absurd (cc);
      no_head = subst (HasNone K) is no_head;
      short = let P : List ℕ → Type 0 = λ bytes. length bytes < limits.bufsize in subst P is (omega arith);
      few_lines = let P : List ℕ → Type 0 = λ bytes. count_by is_line_feed bytes < most_lines in subst P is (omega arith);
    }

-- the same for a window
headless_on : (K : HeadKind) → IsLawful K → (limits : Limits) (window more : List ℕ) → behind window ≢ 13 ∷ [] → IsHeadless K limits window → ¬ (MayWait K limits false window)
    → IsHeadless K limits (window ++ more)
headless_on K laws limits window more other h never =
    let on : behind (window ++ more) ≡ behind window ++ more = behind-append window more h.some other in
    record {
      some = λ none. h.some (front_nil (behind window) more (sym on ∙ none));
      none = λ k rest b. never (may_wait K laws limits window (behind window) more k rest refl h.none (subst (λ (bytes : List ℕ). BeginsWith K limits bytes k rest) on b));
    }
  where
    front_nil : (xs ys : List ℕ) → xs ++ ys ≡ [] → xs ≡ []
    front_nil [] ys e = refl
    front_nil (x ∷ xs) ys e = cc

pub refused_where_full : (K : HeadKind) → IsLawful K → (limits : Limits) (window more : List ℕ) (code : ℕ) → 1024 ≤ limits.bufsize → HeadOf K limits window (Refused code)
    → ¬ (MayWait K limits false window) → HeadOf K limits (window ++ more) (Refused code)
refused_where_full K laws limits window more code size (inr h) never =
    subst (λ (n : ℕ). HeadOf K limits (window ++ more) (Refused n)) (sym h.2) (refused_on K laws limits window more h.0 h.1)
refused_where_full K laws limits window more code size (inl h) never =
    inl (
      headless_on K laws limits window more (λ cr. never (waits_short K laws limits false window (13 ∷ []) size (sym cr) (omega arith) (omega arith) (λ e. absurd (cc)))) h.0 never,
      h.1,
    )

-- ---- a head has bytes

either_way : (b : Bool) (xs ys zs : List ℕ) → length xs ≤ length zs → length ys ≤ length zs → length (if b then xs else ys) ≤ length zs
either_way true xs ys zs h k = h
either_way false xs ys zs h k = k

behind_short : (bytes : List ℕ) → length (behind bytes) ≤ length bytes
behind_short [] = omega arith
behind_short (a ∷ []) = either_way (a == 10) [] (a ∷ []) (a ∷ []) (omega arith) (omega arith)
behind_short (a ∷ b ∷ bytes) =
    let one : length (behind (b ∷ bytes)) ≤ length (b ∷ bytes) = behind_short (b ∷ bytes) in
    let two : length (behind bytes) ≤ length bytes = behind_short bytes in
    either_way (a == 10) (behind (b ∷ bytes)) (if a == 13 && b == 10 then behind bytes else a ∷ b ∷ bytes) (a ∷ b ∷ bytes) (omega (arith, one))
    (either_way (a == 13 && b == 10) (behind bytes) (a ∷ b ∷ bytes) (a ∷ b ∷ bytes) (omega (arith, two)) (omega arith))

pub has_bytes : (K : HeadKind) → IsLawful K → (limits : Limits) (stream : List ℕ) (got : Received) (rest : List ℕ) → HeadOf K limits stream (Begins got rest) → length rest < length stream
has_bytes K laws limits stream got rest r =
    let shorter : length rest < length (behind stream) = laws.shorter (behind stream) r.0 rest (laws.parses (behind stream) r.0 rest r.1.reads) in
    let all = behind_short stream in
    omega arith
