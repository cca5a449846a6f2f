-- What filters make of the bytes so far, they make of each continuation.
use Rattle.std.proofs.Common.{arith, ◌≡◌, ℕ, List, ◌++◌, true, false, refl, sym, ap, ◌∙◌}
use Rattle.std.specs.Prelude.{Some}
use Rattle.std.proofs.lemmas.List.{append-nil}
use Rattle.body_filter.specs.declared.filter_spec.FilterSpec.{FilterSpec}
use Rattle.body_filter.specs.declared.filter_spec.FedState.{FedState}
use Rattle.body_filter.specs.declared.filter_spec.FedState.TheVariants.{Going, Over, Refused}
use Rattle.body_filter.specs.Filter as filter
use Rattle.body_filter.specs.Laws.{GoesOn}
use Rattle.session_model.specs.Meaning.{HoldsOn, Filtered}
use Rattle.forward_core.specs.Meaning.Product.{refused_in, filtered_as, filters_of}

module _ (filters : List FilterSpec) (on : (used : List ℕ) → GoesOn (filter.filtered filters) used) where
  refuses : (front rest : List ℕ) (code : ℕ) (state : FedState) → (filter.filtered filters false front).state ≡ state → refused_in state ≡ Some code
      → filtered_as (filter.filtered filters true (front ++ rest)) ≡ filtered_as (filter.filtered filters false front)
  refuses front rest code Going is h = absurd (grind (arith, h))
  refuses front rest code Over is h = absurd (grind (arith, h))
  refuses front rest code (Refused told) is h =
      let g = on front in
      let silent : g.later true rest ≡ filter.ended (Refused told) = g.told (ap filter.is_over is) true rest ∙ ap filter.ended is in
      ap filtered_as (g.same true rest ∙ ap (filter.behind (filter.filtered filters false front).output) silent)
      ∙ same (filter.filtered filters false front) is
    where
      same : (m : filter.Filtered) → m.state ≡ Refused told → filtered_as (filter.behind m.output (filter.ended (Refused told))) ≡ filtered_as m
      same m state = ap (λ (o : List ℕ). let f : Filtered = record { output = o; refused = Some told } in f) (append-nil m.output)
          ∙ ap (λ (s : FedState). let f : Filtered = record { output = m.output; refused = refused_in s } in f) (sym state)

  pub holds : HoldsOn (filters_of filters)
  holds = record {
    gives = λ front rest. (((on front).later true rest).output, ap (λ (m : filter.Filtered). m.output) ((on front).same true rest));
    refuses = λ front rest code h. refuses front rest code (filter.filtered filters false front).state refl h;
  }
