-- A list of filters, one behind another.
use Rattle.std.proofs.Common.{◌≡◌, ℕ, ◌-◌, ◌<◌, Bool, true, false, List, [], ◌∷◌, ◌++◌, refl, sym, ap, ◌∙◌, arith, length, take, drop, get_or, append_assoc}
use Rattle.std.proofs.lemmas.List.{take_rest, append-nil}
use Rattle.body_filter.specs.declared.filter_spec.FedState.{FedState}
use Rattle.body_filter.specs.declared.filter_spec.FedState.TheVariants.{Going, Over, Refused}
use Rattle.body_filter.specs.declared.filter_spec.FilterSpec.{FilterSpec}
use Rattle.body_filter.specs.Filter.{Filtered, behind, ended, is_over, through, joined, passed, filtered, filtered_by}
use Rattle.body_filter.specs.Feeding.{Meaning, Feeds}
use Rattle.body_filter.specs.declared.filter_spec.Fed.{Fed}
use Rattle.body_filter.specs.Pairs.{paired}

same_state : (state : FedState) (output : List ℕ) → record { output = output; state = state } ≡ through (record { output = output; state = state }) passed
same_state Going output = refl
same_state Over output = refl
same_state (Refused code) output = refl

pub alone : (f : Filtered) → f ≡ through f passed
alone f = same_state f.state f.output

pub one_filter : (fs : List FilterSpec) (f : FilterSpec) → f ≡ get_or fs 0 f → length fs ≡ 1 → (whole : Bool) (rest : List ℕ) → filtered_by f whole rest ≡ filtered fs whole rest
unfolding filtered
one_filter [] f is size whole rest = absurd (omega arith)
one_filter (g ∷ []) f is size whole rest = ap (λ h. filtered_by h whole rest) is ∙ alone (filtered_by g whole rest)
one_filter (g ∷ h ∷ fs) f is size whole rest = absurd (omega arith)

pub more_filters : (fs : List FilterSpec) (f : FilterSpec) (first next : Meaning) → f ≡ get_or fs 0 f → 0 < length fs → ((whole : Bool) (rest : List ℕ) → first whole rest ≡ filtered_by f whole rest)
    → ((whole : Bool) (rest : List ℕ) → next whole rest ≡ filtered (take (length fs - 1) (drop 1 fs)) whole rest) → (whole : Bool) (rest : List ℕ) → paired first [] next whole rest ≡ filtered fs whole rest
unfolding filtered
more_filters [] f first next is some one others whole rest = absurd (omega arith)
more_filters (g ∷ fs) f first next is some one others whole rest =
    let h : Filtered = filtered_by g whole rest in
    ap (λ x. through x next) (one whole rest ∙ ap (λ k. filtered_by k whole rest) is)
    ∙ ap (λ l. record { output = l.output; state = joined h.state l.state }) (others (is_over h.state) h.output ∙ ap (λ ks. filtered ks (is_over h.state) h.output) (take_rest (g ∷ fs) 1))

pub no_filter : (fs : List FilterSpec) → length fs ≡ 0 → (whole : Bool) (rest : List ℕ) → passed whole rest ≡ filtered fs whole rest
unfolding filtered
no_filter [] none whole rest = refl
no_filter (f ∷ fs) none whole rest = absurd (omega arith)

twice : (xs ys : List ℕ) (f : Filtered) → behind xs (behind ys f) ≡ behind (xs ++ ys) f
twice xs ys f = ap (λ zs. record { output = zs; state = f.state }) (sym (append_assoc xs ys f.output))

pub goes : (whole_body old new : Meaning) (piece : List ℕ) (last : Bool) (fed : Fed) (out used given : List ℕ) → Feeds old piece last fed out new
    → ((whole : Bool) (rest : List ℕ) → whole_body whole (used ++ rest) ≡ behind given (old whole rest)) → (last ≡ true → fed.used < length piece)
    → (whole : Bool) (rest : List ℕ) → whole_body whole ((used ++ take fed.used piece) ++ rest) ≡ behind (given ++ take fed.given out) (new whole rest)
goes m old new piece last fed out used given h stands more whole rest =
    ap (m whole) (append_assoc used (take fed.used piece) rest) ∙ stands whole (take fed.used piece ++ rest) ∙ ap (behind given) (h.goes_on more whole rest)
    ∙ twice given (take fed.given out) (new whole rest)

pub all_given : (whole_body new : Meaning) (used given : List ℕ) → ((whole : Bool) (rest : List ℕ) → whole_body whole (used ++ rest) ≡ behind given (new whole rest)) → new false [] ≡ ended Going
    → whole_body false used ≡ record { output = given; state = Going }
all_given m new used given stands waits =
    ap (m false) (sym (append-nil used)) ∙ stands false [] ∙ ap (behind given) waits ∙ ap (λ xs. record { output = xs; state = Going }) (append-nil given)
