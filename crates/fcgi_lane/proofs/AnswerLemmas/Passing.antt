-- What flows make of bytes, one after another.
use Rattle.std.proofs.Common.{◌≡◌, ℕ, ◌+◌, ◌-◌, ◌≤◌, Bool, List, [], ◌∷◌, ◌++◌, false, refl, sym, ap, ◌∙◌, arith, take, take-add, drop, append_assoc, subst}
use Rattle.std.specs.List.{fold}
use Rattle.std.proofs.lemmas.List.{drop-drop, take-append-drop}
use Rattle.fcgi_lane.specs.Answer.Flow.{Flow, Place, InRecord, InOutput, Skipping, InEnd, Over, Faulty, Goes, next, output_in}
use Rattle.fcgi_lane.specs.Answer.Flow.{Passes}
use Rattle.fcgi_lane.specs.Answer.Flow.{is_going}
use Rattle.fcgi_lane.proofs.AnswerLemmas.Runs.{fold_both, output_both}

pub passes_none : (flow : Flow) → Passes flow [] flow []
passes_none flow = record { output = λ rest. refl; place = λ rest. refl }

pub passes_goes : (a b c : Flow) (xs ys p q : List ℕ) → Passes a xs b p → Goes b ys c q → Passes a (xs ++ ys) c (p ++ q)
passes_goes a b c xs ys p q h g = record {
  output = λ rest.
      ap (output_in a) (append_assoc xs ys rest) ∙ h.output (ys ++ rest)
      ∙ ap (λ o. p ++ o) (output_both b ys rest ∙ ap (λ o. o ++ output_in (fold next b ys) rest) g.found ∙ ap (λ f. q ++ output_in f rest) g.flow)
      ∙ sym (append_assoc p q (output_in c rest));
  place = λ rest.
      ap (λ l. (fold next a l).place) (append_assoc xs ys rest) ∙ h.place (ys ++ rest)
      ∙ ap (λ (f : Flow). f.place) (fold_both b ys rest ∙ ap (λ f. fold next f rest) g.flow);
}

abbrev at : Place → Bool → ℕ → Flow
at place shut idle = record { place = place; shut = shut; idle = idle }

-- nothing is counted behind an end or a fault
over_output : (shut : Bool) (idle : ℕ) (bytes : List ℕ) → output_in (at Over shut idle) bytes ≡ []
over_output shut idle [] = refl
over_output shut idle (b ∷ bytes) = over_output shut (idle + 1) bytes

over_place : (shut : Bool) (idle : ℕ) (bytes : List ℕ) → (fold next (at Over shut idle) bytes).place ≡ Over
over_place shut idle [] = refl
over_place shut idle (b ∷ bytes) = over_place shut (idle + 1) bytes

faulty_output : (shut : Bool) (idle : ℕ) (bytes : List ℕ) → output_in (at Faulty shut idle) bytes ≡ []
faulty_output shut idle [] = refl
faulty_output shut idle (b ∷ bytes) = faulty_output shut (idle + 1) bytes

faulty_place : (shut : Bool) (idle : ℕ) (bytes : List ℕ) → (fold next (at Faulty shut idle) bytes).place ≡ Faulty
faulty_place shut idle [] = refl
faulty_place shut idle (b ∷ bytes) = faulty_place shut (idle + 1) bytes

pub stopped_by : (place : Place) (shut : Bool) (idle : ℕ) → is_going place ≡ false → (bytes : List ℕ)
    → (output_in (at place shut idle) bytes ≡ []) × ((fold next (at place shut idle) bytes).place ≡ place)
stopped_by Over shut idle h bytes = (over_output shut idle bytes, over_place shut idle bytes)
stopped_by Faulty shut idle h bytes = (faulty_output shut idle bytes, faulty_place shut idle bytes)
stopped_by (InRecord head) shut idle h bytes = absurd cc
stopped_by (InOutput left pad) shut idle h bytes = absurd cc
stopped_by (Skipping left) shut idle h bytes = absurd cc
stopped_by (InEnd behind) shut idle h bytes = absurd cc

pub passes_stopped : (a b : Flow) (xs ys p : List ℕ) → Passes a xs b p → is_going b.place ≡ false → Passes a (xs ++ ys) b p
passes_stopped a b xs ys p h over = record {
  output = λ rest.
      ap (output_in a) (append_assoc xs ys rest) ∙ h.output (ys ++ rest)
      ∙ ap (λ o. p ++ o) ((stopped_by b.place b.shut b.idle over (ys ++ rest)).0 ∙ sym (stopped_by b.place b.shut b.idle over rest).0);
  place = λ rest.
      ap (λ l. (fold next a l).place) (append_assoc xs ys rest) ∙ h.place (ys ++ rest)
      ∙ (stopped_by b.place b.shut b.idle over (ys ++ rest)).1 ∙ sym (stopped_by b.place b.shut b.idle over rest).1;
}

-- ---- a loop over the bytes

-- the first bytes, and more of those behind them
taken : (used to : ℕ) (all : List ℕ) → used ≤ to → take used all ++ take (to - used) (drop used all) ≡ take to all
taken used to all le = sym (take-add used (to - used) all) ∙ ap (λ n. take n all) (omega (arith, le))

pub passes_more : (a b c : Flow) (all now p q out : List ℕ) (used to : ℕ) → used ≤ to → drop used now ≡ drop used all
    → Passes a (take used all) b p → Goes b (take (to - used) (drop used now)) c out → q ≡ p ++ out → Passes a (take to all) c q
passes_more a b c all now p q out used to le same h g is =
    rw is
    (subst (λ t. Passes a t c (p ++ out)) (taken used to all le)
    (passes_goes a b c (take used all) (take (to - used) (drop used all)) p out h (subst (λ d. Goes b (take (to - used) d) c out) same g)))

pub still_behind : (all now new : List ℕ) (used to : ℕ) → used ≤ to → drop used now ≡ drop used all → drop to new ≡ drop to now → drop to new ≡ drop to all
still_behind all now new used to le same kept =
    let sum : used + (to - used) ≡ to = omega (arith, le) in
    kept ∙ subst (λ n. drop n now ≡ drop n all) sum (sym (drop-drop (to - used) used now) ∙ ap (drop (to - used)) same ∙ drop-drop (to - used) used all)

pub passes_all : (a b : Flow) (all p : List ℕ) (used : ℕ) → Passes a (take used all) b p → is_going b.place ≡ false → Passes a all b p
passes_all a b all p used h over = subst (λ t. Passes a t b p) (take-append-drop used all) (passes_stopped a b (take used all) (drop used all) p h over)
