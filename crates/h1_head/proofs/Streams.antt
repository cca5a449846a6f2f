-- What is read of a window is read of each stream that begins with it.
use Rattle.std.proofs.Common.{◌≡◌, ◌≢◌, ℕ, ◌<◌, ◌≤◌, ◌⊎◌, inl, inr, true, false, Bool, List, [], ◌∷◌, ◌++◌, length, refl, sym, ap, ◌∙◌, subst, arith}
use Rattle.std.specs.Prelude.{count_by, Ok, Err}
use Rattle.std.proofs.lemmas.List.{append-nil}
use Rattle.http_model.specs.declared.Limits.{Limits}
use Rattle.http_model.specs.Reading.{HeadReading, Received, Nothing, Refused, Begins}
use Rattle.h1_head.specs.Numbers.{most_lines}
use Rattle.h1_head.specs.declared.answer.HeadWhy.{HeadWhy}
use Rattle.h1_head.specs.declared.answer.HeadWhy.TheVariants as why
use Rattle.h1_head.specs.Kind.{HeadKind}
use Rattle.h1_head.specs.Stream.{behind, BeginsWith, HasNone, HasNoHead, HasRefusedHead, IsHeadless, HeadOf}
use Rattle.h1_head.specs.Decides.{OnEachStream, is_line_feed, MayWait, IsHopeless, Overflows, IsTooLong, WhereLong, RefusesFor}
use Rattle.h1_head.specs.Feeds.{feeds}
use Rattle.h1_head.proofs.Heads.{behind-append}
use Rattle.h1_head.proofs.Lawful.{IsLawful, BeginsWith-append, no_room_left, overflowing, no_short_head}

-- ---- a stream is read by what stands behind its empty lines

moved_refused : (K : HeadKind) → IsLawful K → (limits : Limits) (a b : List ℕ) (why : HeadWhy) → behind a ≡ behind b → HasRefusedHead K limits a why → HasRefusedHead K limits b why
moved_refused K laws limits a b why e h = record {
  head = h.head;
  rest = h.rest;
  begins = subst (λ (bytes : List ℕ). BeginsWith K limits bytes h.head h.rest) e h.begins;
  refused = h.refused;
}

moved_headless : (K : HeadKind) → IsLawful K → (limits : Limits) (a b : List ℕ) → behind a ≡ behind b → IsHeadless K limits a → IsHeadless K limits b
moved_headless K laws limits a b e h = record {
  some = λ none. h.some (e ∙ none);
  none = subst (λ (bytes : List ℕ). HasNoHead K limits bytes) e h.none;
}

pub moved : (K : HeadKind) → IsLawful K → (limits : Limits) (a b : List ℕ) (r : HeadReading) → behind a ≡ behind b → HeadOf K limits a r → HeadOf K limits b r
moved K laws limits a b Nothing e h = sym e ∙ h
moved K laws limits a b (Refused code) e (inl h) = inl (moved_headless K laws limits a b e h.0, h.1)
moved K laws limits a b (Refused code) e (inr h) = inr (h.0, moved_refused K laws limits a b h.0 e h.1, h.2)
moved K laws limits a b (Begins got rest) e h =
    (h.0, subst (λ (bytes : List ℕ). BeginsWith K limits bytes h.0 rest) e h.1, h.2)

-- what follows a window follows what stands behind its empty lines, unless that is a CR alone
pub goes_on : (window text more : List ℕ) → text ≡ behind window → behind text ≡ text → text ≢ [] → text ≢ 13 ∷ [] → behind (text ++ more) ≡ behind (window ++ more)
goes_on window text more is same some other =
    behind-append text more (λ e. some (sym same ∙ e)) (λ e. other (sym same ∙ e)) ∙ ap (λ bytes. bytes ++ more) (same ∙ is)
    ∙ sym (behind-append window more (λ e. some (is ∙ e)) (λ e. other (is ∙ e)))

-- ---- a head stays

-- a text that begins with a head has two bytes at least
not_short : (K : HeadKind) → IsLawful K → (limits : Limits) (text short : List ℕ) (h : K.Tree) (rest : List ℕ) → length short ≤ 1 → BeginsWith K limits text h rest → text ≢ short
not_short K laws limits text short h rest one b e =
    no_short_head K laws text (let P : List ℕ → Type 0 = λ bytes. length bytes ≤ 1 in subst P (sym e) one) h rest (laws.parses text h rest b.reads)

begins_on : (K : HeadKind) → IsLawful K → (limits : Limits) (stream more : List ℕ) (h : K.Tree) (rest : List ℕ) → BeginsWith K limits (behind stream) h rest → BeginsWith K limits (behind (stream ++ more)) h (rest ++ more)
begins_on K laws limits stream more h rest b =
    subst (λ (bytes : List ℕ). BeginsWith K limits bytes h (rest ++ more))
    (sym (behind-append stream more (not_short K laws limits (behind stream) [] h rest (omega arith) b) (not_short K laws limits (behind stream) (13 ∷ []) h rest (omega arith) b)))
    (BeginsWith-append K laws limits (behind stream) more h rest b)

pub head_stays : (K : HeadKind) → IsLawful K → (limits : Limits) (stream more : List ℕ) (got : Received) (rest : List ℕ) → HeadOf K limits stream (Begins got rest) → HeadOf K limits (stream ++ more) (Begins got (rest ++ more))
head_stays K laws limits stream more got rest h = (h.0, begins_on K laws limits stream more h.0 rest h.1, h.2)

pub refused_on : (K : HeadKind) → IsLawful K → (limits : Limits) (window more : List ℕ) (why : HeadWhy) → HasRefusedHead K limits window why → HeadOf K limits (window ++ more) (Refused (K.code why))
refused_on K laws limits window more why h =
    inr (why, record { head = h.head; rest = h.rest ++ more; begins = begins_on K laws limits window more h.head h.rest h.begins; refused = h.refused }, refl)

-- what a window is refused for refuses each stream that begins with it
pub refuses_each : (K : HeadKind) → IsLawful K → (limits : Limits) (whole : Bool) (window : List ℕ) (why : HeadWhy) → RefusesFor K limits whole window why
    → OnEachStream whole (λ more. HeadOf K limits (window ++ more) (Refused (K.code why)))
refuses_each K laws limits whole window why.Grammar h more ends = inl (h more ends, refl)
refuses_each K laws limits whole window why.Long h more ends = inl (h more ends, laws.codes_same)
refuses_each K laws limits whole window why.Name h more ends = refused_on K laws limits window more why.Name h
refuses_each K laws limits whole window why.Host h more ends = refused_on K laws limits window more why.Host h
refuses_each K laws limits whole window why.Method h more ends = refused_on K laws limits window more why.Method h
refuses_each K laws limits whole window why.Framing h more ends = refused_on K laws limits window more why.Framing h
refuses_each K laws limits whole window why.Coding h more ends = refused_on K laws limits window more why.Coding h
refuses_each K laws limits whole window why.Receive h more ends = refused_on K laws limits window more why.Receive h

false_is_not_true : false ≡ true → ⊥
false_is_not_true e = cc

pub refusal_stays : (K : HeadKind) → IsLawful K → (limits : Limits) (window more : List ℕ) (why : HeadWhy) → RefusesFor K limits false window why → HeadOf K limits (window ++ more) (Refused (K.code why))
refusal_stays K laws limits window more why h = refuses_each K laws limits false window why h more (λ e. absurd (false_is_not_true e))

-- ---- what makes a text hopeless

abbrev IsText : List ℕ → Type 0
IsText text = (behind text ≡ text) × (text ≢ []) × (text ≢ 13 ∷ [])

text_goes_on : (text more : List ℕ) → IsText text → behind (text ++ more) ≡ text ++ more
text_goes_on text more is =
    behind-append text more (λ e. is.1 (sym is.0 ∙ e)) (λ e. is.2 (sym is.0 ∙ e)) ∙ ap (λ bytes. bytes ++ more) is.0

not_nil : (xs ys : List ℕ) → xs ≢ [] → xs ++ ys ≢ []
not_nil [] ys some none = some refl
not_nil (x ∷ xs) ys some none = cc

-- where no head of the grammar begins any of the streams that begin with the text
hopeless : (K : HeadKind) → IsLawful K → (limits : Limits) (whole : Bool) (text : List ℕ) → IsText text → ((more : List ℕ) → (whole ≡ true → more ≡ []) → HasNoHead K limits (text ++ more)) → IsHopeless K limits whole text
hopeless K laws limits whole text is never more ends = record {
  some = λ none. not_nil text more is.1 (sym (text_goes_on text more is) ∙ none);
  none = subst (λ (bytes : List ℕ). HasNoHead K limits bytes) (sym (text_goes_on text more is)) (never more ends);
}

pub hopeless_long : (K : HeadKind) → IsLawful K → (limits : Limits) (whole : Bool) (text : List ℕ) → behind text ≡ text → text ≢ [] → text ≢ 13 ∷ [] → HasNone K text
    → (limits.bufsize ≤ length text) ⊎ (most_lines ≤ feeds text) → IsHopeless K limits whole text
hopeless_long K laws limits whole text same some other none full =
    hopeless K laws limits whole text (same, some, other) (λ more ends. no_room_left K laws limits text more none full)

pub hopeless_many : (K : HeadKind) → IsLawful K → (limits : Limits) (whole : Bool) (text : List ℕ) → behind text ≡ text → text ≢ [] → text ≢ 13 ∷ [] → Overflows K text → IsHopeless K limits whole text
hopeless_many K laws limits whole text same some other over =
    hopeless K laws limits whole text (same, some, other) (λ more ends. overflowing K limits text more over)

-- where each stream that begins so has no head for its grammar
pub hopeless_head : (K : HeadKind) → IsLawful K → (limits : Limits) (whole : Bool) (text : List ℕ) → behind text ≡ text → text ≢ [] → text ≢ 13 ∷ []
    → ((more : List ℕ) → HasNoHead K limits (text ++ more)) → IsHopeless K limits whole text
hopeless_head K laws limits whole text same some other never = hopeless K laws limits whole text (same, some, other) (λ more ends. never more)

-- ---- from a text to a window

pub hopeless_window : (K : HeadKind) → IsLawful K → (limits : Limits) (whole : Bool) (window text : List ℕ) → text ≡ behind window → behind text ≡ text → text ≢ [] → text ≢ 13 ∷ []
    → IsHopeless K limits whole text → IsHopeless K limits whole window
hopeless_window K laws limits whole window text is same some other h more ends =
    moved_headless K laws limits (text ++ more) (window ++ more) (goes_on window text more is same some other) (h more ends)

pub refuses_window : (K : HeadKind) → IsLawful K → (limits : Limits) (whole : Bool) (window text : List ℕ) (why : HeadWhy) → text ≡ behind window → behind text ≡ text → text ≢ [] → text ≢ 13 ∷ []
    → RefusesFor K limits whole text why → RefusesFor K limits whole window why
refuses_window K laws limits whole window text why.Grammar is same some other h = hopeless_window K laws limits whole window text is same some other h
refuses_window K laws limits whole window text why.Long is same some other h = hopeless_window K laws limits whole window text is same some other h
refuses_window K laws limits whole window text why.Name is same some other h = moved_refused K laws limits text window why.Name (same ∙ is) h
refuses_window K laws limits whole window text why.Host is same some other h = moved_refused K laws limits text window why.Host (same ∙ is) h
refuses_window K laws limits whole window text why.Method is same some other h = moved_refused K laws limits text window why.Method (same ∙ is) h
refuses_window K laws limits whole window text why.Framing is same some other h = moved_refused K laws limits text window why.Framing (same ∙ is) h
refuses_window K laws limits whole window text why.Coding is same some other h = moved_refused K laws limits text window why.Coding (same ∙ is) h
refuses_window K laws limits whole window text why.Receive is same some other h = moved_refused K laws limits text window why.Receive (same ∙ is) h

pub long_window : (K : HeadKind) (limits : Limits) (whole : Bool) (window text : List ℕ) (why : HeadWhy) → text ≡ behind window → behind text ≡ text
    → WhereLong why (IsTooLong K limits whole text) → WhereLong why (IsTooLong K limits whole window)
long_window K limits whole window text why is same h =
    subst
    (λ (bytes : List ℕ). WhereLong why (Overflows K bytes ⊎ ((whole ≡ false) × ((limits.bufsize ≤ length bytes) ⊎ (most_lines ≤ count_by is_line_feed bytes)))))
    (same ∙ is) h

-- why a text without empty lines in front is too long
pub too_long : (K : HeadKind) (limits : Limits) (whole : Bool) (text : List ℕ) → behind text ≡ text
    → Overflows K text ⊎ ((whole ≡ false) × ((limits.bufsize ≤ length text) ⊎ (most_lines ≤ count_by is_line_feed text))) → IsTooLong K limits whole text
too_long K limits whole text same h =
    subst
    (λ (bytes : List ℕ). Overflows K bytes ⊎ ((whole ≡ false) × ((limits.bufsize ≤ length bytes) ⊎ (most_lines ≤ count_by is_line_feed bytes))))
    (sym same) h

pub waits_window : (K : HeadKind) → IsLawful K → (limits : Limits) (whole : Bool) (window text : List ℕ) → text ≡ behind window → behind text ≡ text → MayWait K limits whole text → MayWait K limits whole window
waits_window K laws limits whole window text is same w =
    let e : behind text ≡ behind window = same ∙ is in record {
      ended = λ whole. sym e ∙ w.ended whole;
      no_head = subst (HasNone K) e w.no_head;
      short = let P : List ℕ → Type 0 = λ bytes. length bytes < limits.bufsize in subst P e w.short;
      few_lines = let P : List ℕ → Type 0 = λ bytes. count_by is_line_feed bytes < most_lines in subst P e w.few_lines;
    }

-- a window with at most one byte behind its empty lines
pub waits_short : (K : HeadKind) → IsLawful K → (limits : Limits) (whole : Bool) (window text : List ℕ) → 1024 ≤ limits.bufsize → text ≡ behind window → length text ≤ 1 → count_by is_line_feed text < most_lines → (whole ≡ true → text ≡ []) → MayWait K limits whole window
waits_short K laws limits whole window text size is short few unless =
    record {
      ended = λ e. sym is ∙ unless e;
      no_head = subst (HasNone K) is (no_short_head K laws text short);
      short = let P : List ℕ → Type 0 = λ bytes. length bytes < limits.bufsize in subst P is (omega arith);
      few_lines = let P : List ℕ → Type 0 = λ bytes. count_by is_line_feed bytes < most_lines in subst P is few;
    }

-- ---- one reading

same_decision : (K : HeadKind) → IsLawful K → (limits : Limits) (text : List ℕ) (h k : K.Tree) (r q : List ℕ) → BeginsWith K limits text h r → BeginsWith K limits text k q
    → (K.decides limits h ≡ K.decides limits k) × (r ≡ q)
same_decision K laws limits text h k r q a b =
    let same = laws.unique text h k r q (laws.parses text h r a.reads) (laws.parses text k q b.reads) in
    (ap (λ x. K.decides limits x) same.0, same.1)

never_empty : (K : HeadKind) → IsLawful K → (limits : Limits) (text : List ℕ) (h : K.Tree) (r : List ℕ) → text ≡ [] → BeginsWith K limits text h r → ⊥
never_empty K laws limits text h r e b = not_short K laws limits text [] h r (omega arith) b e

pub one_reading : (K : HeadKind) → IsLawful K → (limits : Limits) (stream : List ℕ) (r q : HeadReading) → HeadOf K limits stream r → HeadOf K limits stream q → r ≡ q
one_reading K laws limits stream Nothing Nothing a b = refl
one_reading K laws limits stream Nothing (Refused code) a (inl b) = let h : IsHeadless K limits stream = b.0 in absurd (h.some a)
one_reading K laws limits stream Nothing (Refused code) a (inr b) = let h = b.1 in absurd (never_empty K laws limits (behind stream) h.head h.rest a h.begins)
one_reading K laws limits stream Nothing (Begins got rest) a b = absurd (never_empty K laws limits (behind stream) b.0 rest a b.1)
one_reading K laws limits stream (Refused code) Nothing (inl a) b = let h : IsHeadless K limits stream = a.0 in absurd (h.some b)
one_reading K laws limits stream (Refused code) Nothing (inr a) b = let h = a.1 in absurd (never_empty K laws limits (behind stream) h.head h.rest b h.begins)
one_reading K laws limits stream (Refused code) (Refused other) (inl a) (inl b) = ap Refused (a.1 ∙ sym b.1)
one_reading K laws limits stream (Refused code) (Refused other) (inl a) (inr b) = let g : IsHeadless K limits stream = a.0 in let h = b.1 in absurd (g.none h.head h.rest h.begins)
one_reading K laws limits stream (Refused code) (Refused other) (inr a) (inl b) = let g : IsHeadless K limits stream = b.0 in let h = a.1 in absurd (g.none h.head h.rest h.begins)
one_reading K laws limits stream (Refused code) (Refused other) (inr a) (inr b) =
    let g = a.1 in let h = b.1 in
    let same = same_decision K laws limits (behind stream) g.head h.head g.rest h.rest g.begins h.begins in
    let e : Err a.0 ≡ Err b.0 = sym g.refused ∙ same.0 ∙ h.refused in
    let w : a.0 ≡ b.0 = cc in
    ap Refused (a.2 ∙ ap K.code w ∙ sym b.2)
one_reading K laws limits stream (Refused code) (Begins got rest) (inl a) b = let g : IsHeadless K limits stream = a.0 in absurd (g.none b.0 rest b.1)
one_reading K laws limits stream (Refused code) (Begins got rest) (inr a) b =
    let g = a.1 in
    let same = same_decision K laws limits (behind stream) g.head b.0 g.rest rest g.begins b.1 in
    let bad : Err a.0 ≡ Ok got = sym g.refused ∙ same.0 ∙ b.2 in
    cc
one_reading K laws limits stream (Begins got rest) Nothing a b = absurd (never_empty K laws limits (behind stream) a.0 rest b a.1)
one_reading K laws limits stream (Begins got rest) (Refused code) a (inl b) = let g : IsHeadless K limits stream = b.0 in absurd (g.none a.0 rest a.1)
one_reading K laws limits stream (Begins got rest) (Refused code) a (inr b) =
    let h = b.1 in
    let same = same_decision K laws limits (behind stream) a.0 h.head rest h.rest a.1 h.begins in
    let bad : Ok got ≡ Err b.0 = sym a.2 ∙ same.0 ∙ h.refused in
    cc
one_reading K laws limits stream (Begins got rest) (Begins other left) a b =
    let same = same_decision K laws limits (behind stream) a.0 b.0 rest left a.1 b.1 in
    let e : Ok got ≡ Ok other = sym a.2 ∙ same.0 ∙ b.2 in
    let g : got ≡ other = cc in
    let r : rest ≡ left = same.1 in
    cc

-- a CR alone at the end of a stream is no head
pub lone_cr : (K : HeadKind) → IsLawful K → (limits : Limits) (window : List ℕ) → 13 ∷ [] ≡ behind window → IsHopeless K limits true window
lone_cr K laws limits window cr more ends =
    let is : behind (window ++ more) ≡ 13 ∷ [] = ap (λ m. behind (window ++ m)) (ends refl) ∙ ap behind (append-nil window) ∙ sym cr in record {
      some = λ none. let bad : 13 ∷ [] ≡ [] = sym is ∙ none in cc;
      none = λ h rest b. not_short K laws limits (behind (window ++ more)) (13 ∷ []) h rest (omega arith) b is;
    }
