-- Where runs of bytes lead a flow.
use Rattle.std.proofs.Common.{◌≡◌, ℕ, suc, ◌+◌, ◌-◌, ◌<◌, ◌≤◌, Bool, List, [], ◌∷◌, ◌++◌, false, refl, sym, ap, ◌∙◌, arith, length, take, get_or, cond, nat_eq, append_assoc, subst, inl, inr}
use Rattle.std.specs.List.{fold}
use Rattle.std.proofs.lemmas.Bool.{le-leb, lt-leb, eq-eqb, ne_eqb, cases_lt}
use Rattle.std.proofs.lemmas.List.{length-take-le}
use Rattle.fcgi_lane.specs.Answer.Flow.{Flow, Place, InRecord, InOutput, Skipping, InEnd, Over, Faulty, Goes, next, output_in, adds, leads, behind, tired, skip, patience}
use Rattle.fcgi_lane.specs.Answer.Reader.{after_output}

-- a run over two texts is the runs over each
pub fold_both : (from : Flow) (xs ys : List ℕ) → fold next from (xs ++ ys) ≡ fold next (fold next from xs) ys
fold_both from [] ys = refl
fold_both from (x ∷ xs) ys = fold_both (next from x) xs ys

pub output_both : (from : Flow) (xs ys : List ℕ) → output_in from (xs ++ ys) ≡ output_in from xs ++ output_in (fold next from xs) ys
output_both from [] ys = refl
output_both from (x ∷ xs) ys =
    let front : List ℕ = cond (adds from.place) (x ∷ []) [] in
    ap (λ d. front ++ d) (output_both (next from x) xs ys) ∙ sym (append_assoc front (output_in (next from x) xs) (output_in (fold next (next from x) xs) ys))

pub goes_both : (from via to : Flow) (xs ys p q : List ℕ) → Goes from xs via p → Goes via ys to q → Goes from (xs ++ ys) to (p ++ q)
goes_both from via to xs ys p q g h = record {
  flow = fold_both from xs ys ∙ ap (λ at. fold next at ys) g.flow ∙ h.flow;
  found = output_both from xs ys ∙ ap (λ at. output_in from xs ++ output_in at ys) g.flow ∙ ap (λ d. d ++ output_in via ys) g.found ∙ ap (λ d. p ++ d) h.found;
}

abbrev at : Place → Bool → ℕ → Flow
at place shut idle = record { place = place; shut = shut; idle = idle }

same_flow : (flow : Flow) (place : Place) (shut : Bool) (idle : ℕ) → flow.place ≡ place → flow.shut ≡ shut → flow.idle ≡ idle → flow ≡ at place shut idle
same_flow flow place shut idle p s i = rw (← p, ← s, ← i) refl

minus_one : (left n : ℕ) → left - 1 - n ≡ left - suc n
minus_one left n = omega arith

-- one byte that is no output
pub quiet_one : (place : Place) (shut : Bool) (idle b : ℕ) → adds place ≡ false → Goes (at place shut idle) (b ∷ []) (behind (leads place shut b) (idle + 1)) []
quiet_one place shut idle b none = record {
  flow = ap (λ t. behind (leads place shut b) (cond t 0 (idle + 1))) none;
  found = ap (λ (t : Bool). cond t (b ∷ []) [] ++ []) none;
}

-- ---- output

one_output : (left pad idle b : ℕ) (shut : Bool) → 1 < left → Goes (at (InOutput left pad) shut idle) (b ∷ []) (at (InOutput (left - 1) pad) shut 0) (b ∷ [])
one_output left pad idle b shut more = record { flow = ap (λ t. at (tired (cond t (skip pad) (InOutput (left - 1) pad)) 0) shut 0) (lt-leb left 1 more); found = refl }

-- a stream that added something just now isn't tired
rested : (place : Place) (idle : ℕ) → idle < patience → tired place idle ≡ place
rested Over idle lt = refl
rested (InRecord head) idle lt = ap (λ t. cond t Faulty (InRecord head)) (lt-leb patience idle lt)
rested (InOutput left pad) idle lt = ap (λ t. cond t Faulty (InOutput left pad)) (lt-leb patience idle lt)
rested (Skipping left) idle lt = ap (λ t. cond t Faulty (Skipping left)) (lt-leb patience idle lt)
rested (InEnd behind) idle lt = ap (λ t. cond t Faulty (InEnd behind)) (lt-leb patience idle lt)
rested Faulty idle lt = refl

last_output : (left pad idle b : ℕ) (shut : Bool) → left ≤ 1 → Goes (at (InOutput left pad) shut idle) (b ∷ []) (at (skip pad) shut 0) (b ∷ [])
last_output left pad idle b shut one = record {
  flow = ap (λ t. at (tired (cond t (skip pad) (InOutput (left - 1) pad)) 0) shut 0) (le-leb left 1 one) ∙ ap (λ p. at p shut 0) (rested (skip pad) 0 (omega arith));
  found = refl;
}

-- behind the last byte of output comes padding, and before it more output
behind_last : (left pad n : ℕ) → left ≤ n → after_output left pad n ≡ skip pad
behind_last left pad n le = ap (λ t. cond t (skip pad) (InOutput (left - n) pad)) (eq-eqb (left - n) 0 (omega (arith, le)))

before_last : (left pad n : ℕ) → n < left → after_output left pad n ≡ InOutput (left - n) pad
before_last left pad n lt = ap (λ t. cond t (skip pad) (InOutput (left - n) pad)) (ne_eqb (left - n) 0 (omega (arith, lt)))

later : (left pad n : ℕ) → after_output (left - 1) pad n ≡ after_output left pad (suc n)
later left pad n = ap (λ k. cond (nat_eq k 0) (skip pad) (InOutput k pad)) (minus_one left n)

output_goes : (left pad idle : ℕ) (shut : Bool) (b : ℕ) (bytes : List ℕ) → length (b ∷ bytes) ≤ left → Goes (at (InOutput left pad) shut idle) (b ∷ bytes) (at (after_output left pad (length (b ∷ bytes))) shut 0) (b ∷ bytes)
output_goes left pad idle shut b [] fits = elim (cases_lt 1 left) [
  | inl lt ↦ rw (before_last left pad 1 lt) (one_output left pad idle b shut lt)
  | inr le ↦ rw (behind_last left pad 1 le) (last_output left pad idle b shut le)
]
output_goes left pad idle shut b (c ∷ bytes) fits =
    subst (λ p. Goes (at (InOutput left pad) shut idle) (b ∷ c ∷ bytes) (at p shut 0) (b ∷ c ∷ bytes)) (later left pad (length (c ∷ bytes)))
    (goes_both (at (InOutput left pad) shut idle) (at (InOutput (left - 1) pad) shut 0) (at (after_output (left - 1) pad (length (c ∷ bytes))) shut 0) (b ∷ []) (c ∷ bytes) (b ∷ []) (c ∷ bytes)
    (one_output left pad idle b shut (omega (arith, fits)))
    (output_goes (left - 1) pad 0 shut c bytes (omega (arith, fits))))

of : (old new : Flow) (left pad n : ℕ) (ys : List ℕ) → length ys ≡ n → old.place ≡ InOutput left pad → 0 < n → n ≤ left
    → new.place ≡ after_output left pad n → new.shut ≡ old.shut → new.idle ≡ 0 → Goes old ys new ys
of old new left pad n [] len is some fits place shut idle = absurd (omega (arith, len, some))
of old new left pad n (b ∷ bytes) len is some fits place shut idle =
    subst (λ o. Goes o (b ∷ bytes) new (b ∷ bytes)) (sym (same_flow old (InOutput left pad) old.shut old.idle is refl refl))
    (subst (λ w. Goes (at (InOutput left pad) old.shut old.idle) (b ∷ bytes) w (b ∷ bytes)) (sym (same_flow new (after_output left pad (length (b ∷ bytes))) old.shut 0 (place ∙ ap (after_output left pad) (sym len)) shut idle))
    (output_goes left pad old.idle old.shut b bytes (omega (arith, len, fits))))

-- so many of these bytes
pub output_run_goes : (old new : Flow) (left pad n : ℕ) (xs : List ℕ) → old.place ≡ InOutput left pad → 0 < n → n ≤ length xs → n ≤ left
    → new.place ≡ after_output left pad n → new.shut ≡ old.shut → new.idle ≡ 0 → Goes old (take n xs) new (take n xs)
output_run_goes old new left pad n xs is some within fits place shut idle =
    of old new left pad n (take n xs) (omega (arith, length-take-le n xs within)) is some fits place shut idle

-- ---- what says nothing

skip_goes : (left idle : ℕ) (shut : Bool) (b : ℕ) (bytes : List ℕ) → length (b ∷ bytes) ≤ left → idle + length (b ∷ bytes) ≤ patience
    → Goes (at (Skipping left) shut idle) (b ∷ bytes) (at (tired (skip (left - length (b ∷ bytes))) (idle + length (b ∷ bytes))) shut (idle + length (b ∷ bytes))) []
skip_goes left idle shut b [] fits most = quiet_one (Skipping left) shut idle b refl
skip_goes left idle shut b (c ∷ bytes) fits most =
    let more : skip (left - 1) ≡ Skipping (left - 1) = ap (λ t. cond t (InRecord []) (Skipping (left - 1))) (ne_eqb (left - 1) 0 (omega (arith, fits))) in
    let awake : tired (skip (left - 1)) (idle + 1) ≡ Skipping (left - 1) = rested (skip (left - 1)) (idle + 1) (omega (arith, most)) ∙ more in
    let first : Goes (at (Skipping left) shut idle) (b ∷ []) (at (Skipping (left - 1)) shut (idle + 1)) []
    = subst (λ p. Goes (at (Skipping left) shut idle) (b ∷ []) (at p shut (idle + 1)) []) awake (quiet_one (Skipping left) shut idle b refl) in
    let n : ℕ = length (c ∷ bytes) in
    let idles : idle + 1 + n ≡ idle + suc n = omega arith in
    let lefts : left - 1 - n ≡ left - suc n = minus_one left n in
    subst (λ i. Goes (at (Skipping left) shut idle) (b ∷ c ∷ bytes) (at (tired (skip (left - suc n)) i) shut i) []) idles
    (subst (λ l. Goes (at (Skipping left) shut idle) (b ∷ c ∷ bytes) (at (tired (skip l) (idle + 1 + n)) shut (idle + 1 + n)) []) lefts
    (goes_both (at (Skipping left) shut idle) (at (Skipping (left - 1)) shut (idle + 1)) (at (tired (skip (left - 1 - n)) (idle + 1 + n)) shut (idle + 1 + n)) (b ∷ []) (c ∷ bytes) [] [] first
    (skip_goes (left - 1) (idle + 1) shut c bytes (omega (arith, fits)) (omega (arith, most)))))

of_skip : (old new : Flow) (left n : ℕ) (ys : List ℕ) → length ys ≡ n → old.place ≡ Skipping left → 0 < n → n ≤ left → old.idle + n ≤ patience
    → new.place ≡ tired (skip (left - n)) new.idle → new.shut ≡ old.shut → new.idle ≡ old.idle + n → Goes old ys new []
of_skip old new left n [] len is some fits most place shut idle = absurd (omega (arith, len, some))
of_skip old new left n (b ∷ bytes) len is some fits most place shut idle =
    let k : ℕ = length (b ∷ bytes) in
    subst (λ o. Goes o (b ∷ bytes) new []) (sym (same_flow old (Skipping left) old.shut old.idle is refl refl))
    (subst (λ w. Goes (at (Skipping left) old.shut old.idle) (b ∷ bytes) w [])
    (sym (same_flow new (tired (skip (left - k)) (old.idle + k)) old.shut (old.idle + k) (rw (len, ← idle) place) shut (rw len idle)))
    (skip_goes left old.idle old.shut b bytes (omega (arith, len, fits)) (omega (arith, len, most))))

-- so many of these bytes
pub skip_run_goes : (old new : Flow) (left n : ℕ) (xs : List ℕ) → old.place ≡ Skipping left → 0 < n → n ≤ length xs → n ≤ left → old.idle + n ≤ patience
    → new.place ≡ tired (skip (left - n)) new.idle → new.shut ≡ old.shut → new.idle ≡ old.idle + n → Goes old (take n xs) new []
skip_run_goes old new left n xs is some within fits most place shut idle =
    of_skip old new left n (take n xs) (omega (arith, length-take-le n xs within)) is some fits most place shut idle

-- the first of these bytes
pub one_byte_goes : (old new : Flow) (xs : List ℕ) → 0 < length xs → adds old.place ≡ false
    → new.place ≡ tired (leads old.place old.shut (get_or xs 0 0)).0 new.idle → new.shut ≡ (leads old.place old.shut (get_or xs 0 0)).1 → new.idle ≡ old.idle + 1 → Goes old (take 1 xs) new []
one_byte_goes old new [] some none place shut idle = absurd (omega (arith, some))
one_byte_goes old new (b ∷ xs) some none place shut idle =
    subst (λ w. Goes old (b ∷ []) w []) (sym (same_flow new (tired (leads old.place old.shut b).0 (old.idle + 1)) (leads old.place old.shut b).1 (old.idle + 1) (rw (← idle) place) shut idle))
    (quiet_one old.place old.shut old.idle b none)
