-- Two machines as one.
use Rattle.std.proofs.Common.{◌≡◌, ℕ, ◌+◌, ◌*◌, ◌<◌, ◌≤◌, inl, inr, Bool, true, false, List, [], ◌∷◌, ◌++◌, refl, sym, ap, ◌∙◌, arith, length, take, drop, append_assoc, length-append}
use Rattle.std.proofs.lemmas.Bool.{cases_Bool, cases_lt, false≢true, both_ways}
use Rattle.std.proofs.lemmas.List.{append-nil, take-append-drop, take_all}
use Rattle.std.proofs.Math.ListN.{drop_of_length-le}
use Rattle.body_filter.specs.declared.filter_spec.FedState.{FedState}
use Rattle.body_filter.specs.declared.filter_spec.FedState.TheVariants.{Going, Over, Refused}
use Rattle.body_filter.specs.declared.filter_spec.Fed.{Fed}
use Rattle.body_filter.specs.Filter.{Filtered, behind, ended, is_over, through, joined}
use Rattle.body_filter.specs.Feeding.{Meaning, Feeds}
use Rattle.body_filter.specs.Pairs.{paired, HasTold, Silent, to_tell}

-- the next machine goes on, and so do both
both : (f f' : Filtered) (mid mid' given : List ℕ) (next next' : Meaning) → f ≡ f'
    → next (is_over f'.state) (mid ++ f'.output) ≡ behind given (next' (is_over f'.state) (mid' ++ f'.output))
    → through (behind mid f) next ≡ behind given (through (behind mid' f) next')
both f f' mid mid' given next next' is step =
    ap (λ g. through (behind mid g) next) is
    ∙ ap (λ l. record { output = l.output; state = joined f'.state l.state }) step
    ∙ ap (λ g. behind given (through (behind mid' g) next')) (sym is)

-- the next machine uses bytes of those between
pub relayed : (first : Meaning) (mid : List ℕ) (next next' : Meaning) (told : FedState) (fed : Fed) (out : List ℕ) → Feeds next mid (is_over told) fed out next' → HasTold first told
    → (whole : Bool) (rest : List ℕ) → paired first mid next whole rest ≡ behind (take fed.given out) (paired first (drop fed.used mid) next' whole rest)
relayed first mid next next' told fed out feeds tells whole rest =
    let f : Filtered = first whole rest in
    let given : List ℕ = take fed.given out in
    let apart : (mid ++ f.output) ≡ take fed.used mid ++ (drop fed.used mid ++ f.output) =
    ap (λ xs. xs ++ f.output) (sym (take-append-drop fed.used mid)) ∙ append_assoc (take fed.used mid) (drop fed.used mid) f.output in
    let on : (is_over told ≡ true → fed.used < length mid) → paired first mid next whole rest ≡ behind given (paired first (drop fed.used mid) next' whole rest) =
    λ h. both f f mid (drop fed.used mid) given next next' refl (ap (next (is_over f.state)) apart ∙ feeds.goes_on h (is_over f.state) (drop fed.used mid ++ f.output)) in
    elim (cases_Bool (is_over told)) [
      | inr h ↦ on (λ e. absurd (both_ways (is_over told) h e))
      | inl h ↦ elim (cases_lt fed.used (length mid)) [
        | inl less ↦ on (λ _. less)
        | inr more ↦
            let all : fed.used ≡ length mid = omega (arith, more, feeds.used) in
            let none : drop fed.used mid ≡ [] = drop_of_length-le mid (omega (arith, more)) in
            let end : next true mid ≡ behind given (next' true []) = feeds.ends h all in
            both f (ended told) mid (drop fed.used mid) given next next' (tells h whole rest)
            (ap (λ w. next w (mid ++ [])) h ∙ ap (next true) (append-nil mid) ∙ end ∙ ap (λ xs. behind given (next' true (xs ++ []))) (sym none) ∙ ap (λ w. behind given (next' w (drop fed.used mid ++ []))) (sym h))
      ]
    ]

-- what both have told
pub both_told : (first : Meaning) (mid : List ℕ) (next : Meaning) (told state : FedState) → HasTold first told → HasTold next state → HasTold (paired first mid next) (joined told state)
both_told first mid next told Going one two h whole rest = absurd (false≢true h)
both_told first mid next told Over one two h whole rest =
    let f : Filtered = first whole rest in
    ap (λ l. record { output = l.output; state = joined f.state l.state }) (two refl (is_over f.state) (mid ++ f.output))
    ∙ ap (λ g. record { output = []; state = g.state }) (one h whole rest)
both_told first mid next told (Refused code) one two h whole rest =
    let f : Filtered = first whole rest in
    ap (λ l. record { output = l.output; state = joined f.state l.state }) (two refl (is_over f.state) (mid ++ f.output))

-- a machine that has ended looks at nothing
pub cleared : (first : Meaning) (mid : List ℕ) (next : Meaning) (state : FedState) → HasTold next state → is_over state ≡ true → (whole : Bool) (rest : List ℕ) → paired first mid next whole rest ≡ paired first [] next whole rest
cleared first mid next state tells h whole rest =
    let f : Filtered = first whole rest in
    ap (λ l. record { output = l.output; state = joined f.state l.state }) (tells h (is_over f.state) (mid ++ f.output) ∙ sym (tells h (is_over f.state) ([] ++ f.output)))

-- the first machine fills the empty buffer
pub filled : (first first' : Meaning) (next : Meaning) (given xs ys : List ℕ) (whole whole' : Bool) → first whole xs ≡ behind given (first' whole' ys) → paired first [] next whole xs ≡ paired first' given next whole' ys
filled first first' next given xs ys whole whole' is = ap (λ f. through f next) is

-- ---- a call that works on both

no_bytes_in : (xs : List ℕ) → 0 ≡ length xs → xs ≡ []
no_bytes_in [] e = refl
no_bytes_in (x ∷ xs) e = absurd (omega arith)

pub not_over : (state : FedState) → is_over state ≡ false → state ≡ Going
not_over Going h = refl
not_over Over h = absurd (both_ways true h refl)
not_over (Refused code) h = absurd (both_ways true h refl)

pub silent_pull : (m0 m1 m2 : Meaning) (piece : List ℕ) (last : Bool) (given : ℕ) (out : List ℕ) → Silent m0 m1 piece last → given ≡ 0
    → ((whole : Bool) (rest : List ℕ) → m1 whole rest ≡ behind (take given out) (m2 whole rest)) → Silent m0 m2 piece last
silent_pull m0 m1 m2 piece last given out silent none step = λ whole rest may. silent whole rest may ∙ step whole rest ∙ ap (λ k. behind (take k out) (m2 whole rest)) none

-- what the first machine gives goes into the buffer
given_is : (fed : Fed) (items : List ℕ) → length items ≡ fed.given → take fed.given items ≡ items
given_is fed items e = take_all fed.given items (omega (arith, e))

pub silent_fill : (m0 F F' N : Meaning) (piece : List ℕ) (last : Bool) (fed : Fed) (items : List ℕ) → Silent m0 (paired F [] N) piece last → Feeds F piece last fed items F' → fed.used ≡ 0 → length items ≡ fed.given
    → Silent m0 (paired F' items N) piece last
silent_fill m0 F F' N piece last fed items silent h none size = λ whole rest may.
    let all : take fed.given items ≡ items = given_is fed items size in
    let on : (last ≡ true → fed.used < length piece) → m0 whole rest ≡ paired F' items N whole rest = λ goes.
    silent whole rest may
    ∙ filled F F' N items rest rest whole whole (ap (λ k. F whole (take k piece ++ rest)) (sym none) ∙ h.goes_on goes whole rest ∙ ap (λ xs. behind xs (F' whole rest)) all) in
    elim (cases_lt 0 (length piece)) [
      | inl some ↦ on (λ _. omega (arith, none, some))
      | inr empty ↦ elim (cases_Bool last) [
        | inr more ↦ on (λ e. absurd (both_ways last more e))
        | inl is ↦
            let zero : 0 ≡ length piece = omega arith in
            let same = may is zero in
            silent whole rest may
            ∙ filled F F' N items rest rest whole whole (
            ap (λ w. F w rest) same.0 ∙ ap (F true) (same.1 ∙ sym (no_bytes_in piece zero)) ∙ h.ends is (none ∙ zero) ∙ ap (λ xs. behind xs (F' true [])) all
            ∙ ap (λ xs. behind items (F' true xs)) (sym same.1) ∙ ap (λ w. behind items (F' w rest)) (sym same.0))
      ]
    ]

pub exit_pull : (m0 m1 m2 : Meaning) (piece : List ℕ) (last : Bool) (given : ℕ) (state : FedState) (out : List ℕ) → Silent m0 m1 piece last
    → ((whole : Bool) (rest : List ℕ) → m1 whole rest ≡ behind (take given out) (m2 whole rest)) → HasTold m2 state → given ≤ length out → (state ≡ Going → given ≡ 0 → ⊥)
    → Feeds m0 piece last (record { used = 0; given = given; state = state }) out m2
exit_pull m0 m1 m2 piece last given state out silent step tells fits busy = record {
  used = omega arith;
  given = fits;
  goes_on = λ goes whole rest. silent whole rest (λ is zero. absurd (let less : 0 < length piece = goes is in omega (arith, less, zero))) ∙ step whole rest;
  ends = λ is zero. silent true piece (λ _ _. (refl, no_bytes_in piece zero)) ∙ step true piece ∙ ap (λ xs. behind (take given out) (m2 true xs)) (no_bytes_in piece zero);
  told = tells;
  idle = λ on _ no. absurd (busy on no);
}

-- the first machine's silent steps end
pub less_to_give : (F F' : Meaning) (piece : List ℕ) (last : Bool) (fed : Fed) (items : List ℕ) → Feeds F piece last fed items F' → fed.used ≡ 0 → length items ≡ fed.given
    → length (F true piece).output ≡ length items + length (F' true piece).output
less_to_give F F' piece last fed items h none size =
    let all : take fed.given items ≡ items = given_is fed items size in
    let sum : (F true piece ≡ behind items (F' true piece)) → length (F true piece).output ≡ length items + length (F' true piece).output =
    λ e. ap (λ f. length f.output) e ∙ length-append items (F' true piece).output in
    elim (cases_lt 0 (length piece)) [
      | inl some ↦ sum (ap (λ k. F true (take k piece ++ piece)) (sym none) ∙ h.goes_on (λ _. omega (arith, none, some)) true piece ∙ ap (λ xs. behind xs (F' true piece)) all)
      | inr empty ↦ elim (cases_Bool last) [
        | inr more ↦ sum (ap (λ k. F true (take k piece ++ piece)) (sym none) ∙ h.goes_on (λ e. absurd (both_ways last more e)) true piece ∙ ap (λ xs. behind xs (F' true piece)) all)
        | inl is ↦ sum (h.ends is (none ∙ omega arith) ∙ ap (λ xs. behind xs (F' true [])) all ∙ ap (λ xs. behind items (F' true xs)) (sym (no_bytes_in piece (omega arith))))
      ]
    ]

pub fewer_steps : (a g b : ℕ) (state : FedState) → a ≡ g + b → (g ≡ 0 → state ≡ Going → ⊥) → g + 2 * b + to_tell state < 2 * a + 1
fewer_steps a g b Going sum busy = elim (cases_lt 0 g) [
  | inl some ↦ omega arith
  | inr none ↦ absurd (busy (omega arith) refl)
]
fewer_steps a g b Over sum busy = omega arith
fewer_steps a g b (Refused code) sum busy = omega arith
