-- The variables of a scope as a list: names that are there once, what a set and an unset leave.
use Rattle.std.proofs.Common.{◌≡◌, ◌≢◌, ◌⊎◌, inl, inr, ℕ, zero, suc, ◌+◌, ◌<◌, ◌≤◌, Bool, true, false, List, [], ◌∷◌, ◌++◌, length, get_or, refl, ap, sym, ◌∙◌, arith, Some, None}
use Rattle.std.specs.Prelude.{remove}
use Rattle.std.specs.Str.{bytes_eq}
use Rattle.std.proofs.lemmas.Slice.Eq.{bytes_eq-Decides}
use Rattle.std.proofs.lemmas.List.Sums.{sum_by-cons}
use Rattle.std.proofs.lemmas.Bool.{le-leb, lt-leb}
use Rattle.px_sample.specs.Sample.{Value}
use Rattle.px_sample.specs.Entry.{Entry, load, weight, is_named, lookup, without, with_variable, assigned, are_distinct}

-- ---- one variable in front

truth : (b : Bool) → (b ≡ true) ⊎ (b ≡ false)
truth true = inl refl
truth false = inr refl

pub lookup-named : (name : List ℕ) (e : Entry) (es : List Entry) → is_named name e ≡ true → lookup name (e ∷ es) ≡ Some e.1
lookup-named name e es h = rw h refl

pub lookup-other : (name : List ℕ) (e : Entry) (es : List Entry) → is_named name e ≡ false → lookup name (e ∷ es) ≡ lookup name es
lookup-other name e es h = rw h refl

without-named : (name : List ℕ) (e : Entry) (es : List Entry) → is_named name e ≡ true → without name (e ∷ es) ≡ without name es
without-named name e es h = rw h refl

without-other : (name : List ℕ) (e : Entry) (es : List Entry) → is_named name e ≡ false → without name (e ∷ es) ≡ e ∷ without name es
without-other name e es h = rw h refl

-- an absent name is not that of the first
other-front : (name : List ℕ) (e : Entry) (es : List Entry) → lookup name (e ∷ es) ≡ None → (is_named name e ≡ false) × (lookup name es ≡ None)
other-front name e es h =
    elim (truth (is_named name e)) [
      | inl named ↦ let found = lookup-named name e es named in cc
      | inr other ↦ let rest = lookup-other name e es other in (other, sym rest ∙ h)
    ]

-- no variable has an absent name
absent-at : (name : List ℕ) (es : List Entry) (i : ℕ) (d : Entry) → lookup name es ≡ None → i < length es → is_named name (get_or es i d) ≡ true → ⊥
absent-at name [] i d h inside named = absurd (omega arith)
absent-at name (e ∷ es) zero d h inside named = let front = other-front name e es h in cc
absent-at name (e ∷ es) (suc i) d h inside named =
    let front = other-front name e es h in
    absent-at name es i d front.1 (omega arith) named

-- ---- an unset

pub without-absent : (name : List ℕ) (es : List Entry) → lookup name es ≡ None → without name es ≡ es
without-absent name [] h = refl
without-absent name (e ∷ es) h =
    let front = other-front name e es h in
    let rest = without-absent name es front.1 in
    without-other name e es front.0 ∙ ap (λ xs. e ∷ xs) rest

pub lookup-without : (name : List ℕ) (es : List Entry) → lookup name (without name es) ≡ None
lookup-without name [] = refl
lookup-without name (e ∷ es) =
    let rest = lookup-without name es in
    elim (truth (is_named name e)) [
      | inl named ↦ ap (lookup name) (without-named name e es named) ∙ rest
      | inr other ↦ ap (lookup name) (without-other name e es other) ∙ (lookup-other name e (without name es) other ∙ rest)
    ]

-- what an unset takes away leaves other names absent
absent-without : (other name : List ℕ) (es : List Entry) → lookup other es ≡ None → lookup other (without name es) ≡ None
absent-without other name [] h = refl
absent-without other name (e ∷ es) h =
    let front = other-front other e es h in
    let rest = absent-without other name es front.1 in
    elim (truth (is_named name e)) [
      | inl named ↦ ap (lookup other) (without-named name e es named) ∙ rest
      | inr kept ↦ ap (lookup other) (without-other name e es kept) ∙ (lookup-other other e (without name es) front.0 ∙ rest)
    ]

-- ---- names that are there once

distinct-parts : (e : Entry) (es : List Entry) → are_distinct (e ∷ es) ≡ true → (lookup e.0 es ≡ None) × (are_distinct es ≡ true)
distinct-parts e es h = grind arith

distinct-cons : (e : Entry) (es : List Entry) → lookup e.0 es ≡ None → are_distinct es ≡ true → are_distinct (e ∷ es) ≡ true
distinct-cons e es h d = rw (h, d) refl

pub distinct-without : (name : List ℕ) (es : List Entry) → are_distinct es ≡ true → are_distinct (without name es) ≡ true
distinct-without name [] h = refl
distinct-without name (e ∷ es) h =
    let parts = distinct-parts e es h in
    let rest = distinct-without name es parts.1 in
    elim (truth (is_named name e)) [
      | inl named ↦ ap are_distinct (without-named name e es named) ∙ rest
      | inr other ↦ ap are_distinct (without-other name e es other) ∙ distinct-cons e (without name es) (absent-without e.0 name es parts.0) rest
    ]

lookup-push : (name other : List ℕ) (v : Value) (es : List Entry) → lookup name es ≡ None → bytes_eq other name ≡ false → lookup name (es ++ (other, v) ∷ []) ≡ None
lookup-push name other v [] h differs = lookup-other name (other, v) [] differs
lookup-push name other v (e ∷ es) h differs =
    let front = other-front name e es h in
    lookup-other name e (es ++ (other, v) ∷ []) front.0 ∙ lookup-push name other v es front.1 differs

-- names that differ differ the other way round too
bytes_eq-turned : (xs ys : List ℕ) → bytes_eq xs ys ≡ false → bytes_eq ys xs ≡ false
bytes_eq-turned xs ys h =
    elim (truth (bytes_eq ys xs)) [
      | inl same ↦ let e : xs ≡ ys = sym ((bytes_eq-Decides ys xs).0 same) in let back = (bytes_eq-Decides xs ys).1 e in cc
      | inr other ↦ other
    ]

pub distinct-push : (name : List ℕ) (v : Value) (es : List Entry) → are_distinct es ≡ true → lookup name es ≡ None → are_distinct (es ++ (name, v) ∷ []) ≡ true
distinct-push name v [] h absent = refl
distinct-push name v (e ∷ es) h absent =
    let parts = distinct-parts e es h in
    let front = other-front name e es absent in
    let rest = distinct-push name v es parts.1 front.1 in
    distinct-cons e (es ++ (name, v) ∷ []) (lookup-push e.0 name v es parts.0 (bytes_eq-turned e.0 name front.0)) rest

-- the variable that was found is the only one of its name
pub without-found : (name : List ℕ) (es : List Entry) (i : ℕ) (d : Entry) → are_distinct es ≡ true → i < length es → is_named name (get_or es i d) ≡ true → without name es ≡ remove es i
without-found name [] i d h inside named = absurd (omega arith)
without-found name (e ∷ es) zero d h inside named =
    let parts = distinct-parts e es h in
    let same : e.0 ≡ name = (bytes_eq-Decides e.0 name).0 named in
    let absent : lookup name es ≡ None = rw same at parts.0 in
    without-named name e es named ∙ without-absent name es absent
without-found name (e ∷ es) (suc i) d h inside named =
    let parts = distinct-parts e es h in
    let rest = without-found name es i d parts.1 (omega arith) named in
    elim (truth (is_named name e)) [
      | inl first ↦
          let same : e.0 ≡ name = (bytes_eq-Decides e.0 name).0 first in
          let absent : lookup name es ≡ None = rw same at parts.0 in
          absurd (absent-at name es i d absent (omega arith) named)
      | inr other ↦ without-other name e es other ∙ ap (λ xs. e ∷ xs) rest
    ]

-- ---- how many there are

named_or_empty : (name : List ℕ) → (name ≡ []) ⊎ (1 ≤ length name)
named_or_empty [] = inl refl
named_or_empty (b ∷ name) = inr (omega arith)

unnamed : (name : List ℕ) → bytes_eq name [] ≡ false → 1 ≤ length name
unnamed [] h = cc
unnamed (b ∷ name) h = omega arith

absent_empty : (es : List Entry) → lookup [] es ≡ None → length es ≤ load es
absent_empty [] h = omega arith
absent_empty (e ∷ es) h =
    let front = other-front [] e es h in
    let rest = absent_empty es front.1 in
    omega (arith, sum_by-cons weight e es, unnamed e.0 front.0)

-- each name but the empty one counts
pub distinct_few : (es : List Entry) → are_distinct es ≡ true → length es ≤ load es + 1
distinct_few [] h = omega arith
distinct_few (e ∷ es) h =
    let parts = distinct-parts e es h in
    let rest = distinct_few es parts.1 in
    let sum = sum_by-cons weight e es in
    elim (named_or_empty e.0) [
      | inl empty ↦ let absent : lookup [] es ≡ None = rw empty at parts.0 in let few = absent_empty es absent in omega arith
      | inr named ↦ omega arith
    ]

-- ---- a set

pub assigned_small : (name : List ℕ) (v : Value) (es : List Entry) → load (with_variable name v es) ≤ 4096 → assigned name v es ≡ with_variable name v es
assigned_small name v es h = rw (le-leb (load (with_variable name v es)) 4096 h) refl

pub assigned_large : (name : List ℕ) (v : Value) (es : List Entry) → 4096 < load (with_variable name v es) → assigned name v es ≡ es
assigned_large name v es h = rw (lt-leb (load (with_variable name v es)) 4096 h) refl

-- ---- the values after a set and an unset

different : (xs ys : List ℕ) → xs ≢ ys → bytes_eq xs ys ≡ false
different xs ys h =
    elim (truth (bytes_eq xs ys)) [
      | inl same ↦ absurd (h ((bytes_eq-Decides xs ys).0 same))
      | inr other ↦ other
    ]

lookup-behind : (name : List ℕ) (es rest : List Entry) → lookup name es ≡ None → lookup name (es ++ rest) ≡ lookup name rest
lookup-behind name [] rest h = refl
lookup-behind name (e ∷ es) rest h =
    let front = other-front name e es h in
    lookup-other name e (es ++ rest) front.0 ∙ lookup-behind name es rest front.1

pub lookup-with : (name : List ℕ) (v : Value) (es : List Entry) → lookup name (with_variable name v es) ≡ Some v
lookup-with name v es =
    lookup-behind name (without name es) ((name, v) ∷ []) (lookup-without name es)
    ∙ lookup-named name (name, v) [] ((bytes_eq-Decides name name).1 refl)

-- the same variable in front of two lists
lookup-front_same : (name : List ℕ) (e : Entry) (es rest : List Entry) → lookup name es ≡ lookup name rest → lookup name (e ∷ es) ≡ lookup name (e ∷ rest)
lookup-front_same name e es rest h =
    elim (truth (is_named name e)) [
      | inl named ↦ lookup-named name e es named ∙ sym (lookup-named name e rest named)
      | inr other ↦ lookup-other name e es other ∙ (h ∙ sym (lookup-other name e rest other))
    ]

pub lookup-without_other : (name other : List ℕ) (es : List Entry) → other ≢ name → lookup other (without name es) ≡ lookup other es
lookup-without_other name other [] h = refl
lookup-without_other name other (e ∷ es) h =
    let rest = lookup-without_other name other es h in
    elim (truth (is_named name e)) [
      | inl named ↦
          let same : e.0 ≡ name = (bytes_eq-Decides e.0 name).0 named in
          let apart : bytes_eq e.0 other ≡ false = different e.0 other (λ is. h (sym is ∙ same)) in
          ap (lookup other) (without-named name e es named) ∙ (rest ∙ sym (lookup-other other e es apart))
      | inr kept ↦ ap (lookup other) (without-other name e es kept) ∙ lookup-front_same other e (without name es) es rest
    ]

lookup-push_other : (name other : List ℕ) (v : Value) (es : List Entry) → other ≢ name → lookup other (es ++ (name, v) ∷ []) ≡ lookup other es
lookup-push_other name other v [] h = lookup-other other (name, v) [] (different name other (λ is. h (sym is)))
lookup-push_other name other v (e ∷ es) h = lookup-front_same other e (es ++ (name, v) ∷ []) es (lookup-push_other name other v es h)

pub lookup-with_other : (name other : List ℕ) (v : Value) (es : List Entry) → other ≢ name → lookup other (with_variable name v es) ≡ lookup other es
lookup-with_other name other v es h = lookup-push_other name other v (without name es) h ∙ lookup-without_other name other es h
