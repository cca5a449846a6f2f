use Rattle.std.proofs.Common.{◌≡◌, ◌≤◌, ◌++◌, ◌∷◌, [], ◌∙◌, ap, sym, take, length, arith, subst, ℕ, List, false, length-append}
use Rattle.std.specs.Prelude.{IfSome}
use Rattle.std.proofs.lemmas.List.{length-take-le}
use Rattle.body_filter.specs.declared.filter_spec.FedState.TheVariants.{Going}
use Rattle.body_filter.specs.Filter.{behind, searched, matched}
use Rattle.body_filter.specs.Kept.{settled}
use Rattle.body_filter.specs.Machines.{while, closed, searching}
use Rattle.body_filter.proofs.Keeping.{kept-short}
use Rattle.body_filter.proofs.Machines.{going, moves, meets}
use Rattle.body_filter.proofs.searcher.Searcher.take.Goals as goal

pub returns-then-kept-as_slice-clause-meaning : goal.returns-then-kept-as_slice-clause-meaning
returns-then-kept-as_slice-clause-meaning c = λ whole rest.
    going c.args.self.now whole (c.args.byte ∷ rest) c.requires.going c.requires.empty c.requires.open
    ∙ ap (λ s. searched s.needle s.to 0 whole (take s.kept s.needle ++ c.args.byte ∷ rest)) (sym c.self.view_is)
    ∙ meets c.self.inside.needle c.self.inside.to c.self.inside.kept c.args.byte c.kept_behind-kept.result whole rest c.self.invariant.fits c.kept_behind-kept.ensures
    (c.if-kept-as_slice.true ∙ ap length c.as_slice.ensures.value)
    ∙ ap (λ s. matched s.to (searched s.needle s.to 0 whole rest)) c.self.view_is
    ∙ c.meet.ensures.meaning whole rest

pub invariant_of-self : goal.invariant_of-self
invariant_of-self c =
    let n : List ℕ = c.self.inside.needle in
    let k : ℕ = c.self.inside.kept in
    record {
      fits = omega (
        arith,
        c.kept_behind-kept.ensures,
        kept-short n (take k n ++ c.args.byte ∷ []),
        length-append (take k n) (c.args.byte ∷ []),
        length-take-le k n (omega (arith, c.self.invariant.fits)),
        c.self.invariant.fits,
        ap length c.as_slice.ensures.value,
        c.if-kept-as_slice.false,
      );
      needles = omega (arith, c.hold_settled.ensures.size, c.self.invariant.needles);
      texts = subst (λ (z : ℕ). IfSome c.self.inside.to (λ text. length text ≤ z)) (sym c.hold_settled.ensures.size) c.self.invariant.texts;
    }

pub returns-clause-meaning : goal.returns-clause-meaning
returns-clause-meaning c = λ whole rest.
    let n : List ℕ = c.self.inside.needle in
    let k : ℕ = c.self.inside.kept in
    let j : ℕ = c.kept_behind-kept.result in
    let on : c.self.inside.state ≡ Going = ap (λ s. s.state) c.self.view_is ∙ c.requires.going in
    let more : c.self.inside.whole ≡ false = ap (λ s. s.whole) c.self.view_is ∙ c.requires.open in
    let m = searched n c.self.inside.to 0 whole (take j n ++ rest) in
    going c.args.self.now whole (c.args.byte ∷ rest) c.requires.going c.requires.empty c.requires.open
    ∙ ap (λ s. searched s.needle s.to 0 whole (take s.kept s.needle ++ c.args.byte ∷ rest)) (sym c.self.view_is)
    ∙ moves n c.self.inside.to k c.args.byte j whole rest c.self.invariant.fits c.kept_behind-kept.ensures
    ∙ ap (λ xs. behind (settled xs (take k xs ++ c.args.byte ∷ [])) m) (sym c.as_slice-2.ensures.value)
    ∙ ap (λ xs. behind xs m) (sym c.hold_settled.ensures.items)
    ∙ sym (ap (λ st. behind c.hold_settled.new.held.items (while st (closed c.self.inside.whole (searching n c.self.inside.to j)) whole rest)) on
    ∙ ap (λ b. behind c.hold_settled.new.held.items (closed b (searching n c.self.inside.to j) whole rest)) more)
