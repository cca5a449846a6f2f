-- What one step leaves, put together from its parts.
use Rattle.std.proofs.Common.{inl, inr, ◌≡◌, ℕ, ◌+◌, ◌-◌, ◌<◌, ◌≤◌, eqb, leb, List, ◌++◌, length, take, drop, Option, Some, None, ap, ap₂, sym, subst, ◌∙◌, arith, append_assoc, length-append, length-drop}
use Rattle.std.proofs.lemmas.Bool.{cases_eq, eq-eqb, ne_eqb, le-leb, lt-leb, cond-true, cond-false}
use Rattle.std.proofs.lemmas.List.{take_all}
use Rattle.std.proofs.lemmas.Option.{same_Some}
use Rattle.regex.specs.Patterns.{Re, Match, find, span}
use Rattle.px_pattern.specs.Groups.{span_between, group_at, AreGroupsOf}
use Rattle.px_pattern.specs.declared.span.Span.{Span}
use Rattle.px_sample.specs.Buffer.{Buffer}
use Rattle.px_sample.specs.Sample.{Value, Bytes, within}
use Rattle.px_conv.specs.declared.conv.Matches.{Matches}
use Rattle.px_conv.specs.Template.{expanded}
use Rattle.px_conv.specs.Regsub.{groups_of, behind, replaced, one_step, regsub}
use Rattle.px_conv.specs.Replacing.{Came}
use Rattle.px_conv.specs.declared.regsub.Left.{Left}
use Rattle.px_conv.specs.declared.regsub.Left.TheVariants as lefts
use Rattle.px_conv.proofs.RegsubLemmas.{expanded_of_match, found_within, regsub_law}

came_after : (on : List ℕ → List ℕ) (old mid new : Buffer) (front back : List ℕ) (left : Left) →
    mid.bytes ≡ old.bytes ++ front → mid.cap ≡ old.cap → Came on mid new back left → Came on old new (front ++ back) left
came_after on old mid new front back (lefts.Text rest) put cap came =
    came ∙ ap (λ xs. xs ++ back) put ∙ append_assoc old.bytes front back
came_after on old mid new front back lefts.Nothing put cap came = (
  came.0 ∙ ap (λ xs. xs ++ back) put ∙ append_assoc old.bytes front back,
  omega (arith, came.1, ap length put, length-append old.bytes front, length-append front back),
)
came_after on old mid new front back lefts.TooLong put cap came =
    omega (arith, came, ap length put, length-append old.bytes front, length-append front back)

-- where the first group of the match lies
record IsPlaceOf (m : Match) (place : Span) : Type 0 where
  from : place.from ≡ m.start
  end : place.from + place.len ≡ m.trace.end
  was_empty : eqb place.len 0 ≡ eqb m.trace.end m.start

placed : (m : Match) (groups : List (Option Span)) (place : Span) → AreGroupsOf m groups → group_at groups 0 ≡ Some place → m.start ≤ m.trace.end →
    IsPlaceOf m place
placed m groups place are at ordered =
    let is : place ≡ span_between (span m) = same_Some _ _ (sym at ∙ are 0) in
    let from : place.from ≡ m.start = ap (λ (s : Span). s.from) is in
    let len : place.len ≡ m.trace.end - m.start = ap (λ (s : Span). s.len) is in
    record {
      from = from;
      end = omega arith;
      was_empty = elim (cases_eq m.trace.end m.start) [
        | inl none ↦ eq-eqb place.len 0 (omega arith) ∙ sym (eq-eqb _ _ none)
        | inr some ↦ ne_eqb place.len 0 (λ e. some (omega arith)) ∙ sym (ne_eqb _ _ some)
      ];
    }

rest_of_slice : (n : ℕ) (text : List ℕ) → take (length text - n) (drop n text) ≡ drop n text
rest_of_slice n text = take_all (length text - n) (drop n text) (omega (arith, length-drop n text))

-- What is put in for the match, and what is left behind it, are the step's.
pub match_came : (on : List ℕ → List ℕ) (re : Re) (template : List ℕ) (g : Matches) (text : List ℕ) (m : Match) (groups : List (Option Span)) (place : Span)
    (rest : List ℕ) (old mid new : Buffer) (left : Left) → find re text 0 ≡ Some m → AreGroupsOf m groups → group_at groups 0 ≡ Some place →
    mid.bytes ≡ old.bytes ++ (take place.from text ++ expanded groups text template) → mid.cap ≡ old.cap →
    rest ≡ take (length text - (place.from + place.len)) (drop (place.from + place.len) text) →
    Came on mid new (behind on g (eqb place.len 0) rest) left →
    Came on old new (one_step on re template g text) left
match_came on re template g text m groups place rest old mid new left found are at put cap cut came =
    let within = found_within re text m found in
    let is = placed m groups place are at within.0 in
    let put_front : mid.bytes ≡ old.bytes ++ (take m.start text ++ expanded (groups_of m) text template) =
    put ∙ ap₂ (λ i xs. old.bytes ++ (take i text ++ xs)) is.from (expanded_of_match m groups text template are) in
    let left_over : rest ≡ drop m.trace.end text = cut ∙ rest_of_slice (place.from + place.len) text ∙ ap (λ n. drop n text) is.end in
    let came_behind : Came on mid new (behind on g (eqb m.trace.end m.start) (drop m.trace.end text)) left =
    subst (λ xs. Came on mid new xs left) (ap₂ (behind on g) is.was_empty left_over) came in
    subst (λ xs. Came on old new xs left) (ap (replaced on template g text) (sym found))
    (came_after on old mid new _ _ left put_front cap came_behind)

-- where the front of the whole does not fit, the whole does not
pub front_too_long : (on : List ℕ → List ℕ) (re : Re) (template : List ℕ) (g : Matches) (text : List ℕ) (m : Match) (groups : List (Option Span)) (place : Span)
    (held cap : ℕ) → find re text 0 ≡ Some m → AreGroupsOf m groups → group_at groups 0 ≡ Some place →
    (held + length (take place.from text ++ expanded groups text template) ≤ cap → ⊥) →
    cap < held + length (one_step on re template g text)
front_too_long on re template g text m groups place held cap found are at over =
    let within = found_within re text m found in
    let is = placed m groups place are at within.0 in
    let back = behind on g (eqb m.trace.end m.start) (drop m.trace.end text) in
    let front = take m.start text ++ expanded (groups_of m) text template in
    let same : take place.from text ++ expanded groups text template ≡ front =
    ap₂ (λ i xs. take i text ++ xs) is.from (expanded_of_match m groups text template are) in
    let whole : one_step on re template g text ≡ front ++ back = ap (replaced on template g text) found in
    omega (arith, over, ap length same, ap length whole, length-append front back)

-- one step is the whole, with the whole for what is searched next
pub came_whole : (re re2 : Re) (template : List ℕ) (g : Matches) (rest : List ℕ) (mid new : Buffer) (left : Left) → re2 ≡ re →
    ((on : List ℕ → List ℕ) → Came on mid new (one_step on re2 template g rest) left) →
    Came (regsub re template g) mid new (regsub re template g rest) left
came_whole re re2 template g rest mid new left same came =
    subst (λ xs. Came (regsub re template g) mid new xs left)
    (ap (λ r. one_step (regsub re template g) r template g rest) same ∙ sym (regsub_law re template g rest)) (came (regsub re template g))

-- where what is put in and what is left fit, the whole does
pub fits_in_all : (mid rest held whole : List ℕ) (limit cap : ℕ) → mid ++ rest ≡ held ++ whole → limit ≡ cap → length mid + length rest ≤ limit →
    length held + length whole ≤ cap
fits_in_all mid rest held whole limit cap same equal fits = omega (arith, ap length same, length-append mid rest, length-append held whole)

-- and where they do not, it does not
pub over_in_all : (mid rest held whole : List ℕ) (limit cap : ℕ) → mid ++ rest ≡ held ++ whole → limit ≡ cap → limit < length mid + length rest →
    length held + length whole ≤ cap → ⊥
over_in_all mid rest held whole limit cap same equal over fits = omega (arith, ap length same, length-append mid rest, length-append held whole)

-- what is bounded is there where it fits
pub bounded_fits : (cap : ℕ) (o : Option Value) (bytes whole : List ℕ) → o ≡ Some (Bytes whole) → bytes ≡ whole → length whole ≤ cap →
    Some (Bytes bytes) ≡ within cap o
bounded_fits cap o bytes whole is same fits =
    ap (λ xs. Some (Bytes xs)) same ∙ sym (cond-true (leb (length whole) cap) _ None (le-leb _ _ fits)) ∙ ap (within cap) (sym is)

-- and is absent where it does not
pub bounded_too_long : (cap : ℕ) (o : Option Value) (whole : List ℕ) → o ≡ Some (Bytes whole) → cap < length whole → None ≡ within cap o
bounded_too_long cap o whole is over =
    sym (cond-false (leb (length whole) cap) (Some (Bytes whole)) None (lt-leb _ _ over)) ∙ ap (within cap) (sym is)

pub over_cap : {n cap : ℕ} → (n ≤ cap → ⊥) → cap < n
over_cap h = omega (arith, h)
