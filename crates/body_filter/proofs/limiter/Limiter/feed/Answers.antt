use Rattle.std.proofs.Common.{rules, ◌≡◌, ◌<◌, ◌≤◌, ◌-◌, ◌++◌, ◌⊎◌, inl, inr, Bool, true, false, ◌∙◌, ap, sym, subst, take, drop, length, arith, ℕ, List, length-append}
use Rattle.std.proofs.lemmas.List.{length-take-le, take_at}
use Rattle.std.proofs.lemmas.Bool.{both_ways}
use Rattle.body_filter.specs.declared.filter_spec.FedState.{FedState}
use Rattle.body_filter.specs.declared.filter_spec.FedState.TheVariants.{Going}
use Rattle.body_filter.specs.Filter.{limited}
use Rattle.body_filter.specs.Feeding.{Feeds}
use Rattle.body_filter.specs.Machines.{while}
use Rattle.body_filter.proofs.Limits.{exit_pass}
use Rattle.body_filter.proofs.limiter.Limiter.feed.Goals as goal

not_last : (len size : ℕ) (last : Bool) → ((len ≡ size) × (last ≡ false)) ⊎ (len ≡ size → ⊥) → len ≤ size → last ≡ true → len < size
not_last len size last (inl h) fits is = absurd (both_ways last h.1 is)
not_last len size last (inr h) fits is = omega (arith, h)

whole_piece : (len size room left : ℕ) → ((len < size) × (left - len ≡ 0 → ⊥)) ⊎ (size ≤ len) → (len ≡ size) ⊎ ((len ≡ room) ⊎ (len ≡ left)) → 0 < room → len ≡ 0 → size ≡ 0
whole_piece len size room left h (inl e) some none = omega arith
whole_piece len size room left h (inr (inl e)) some none = absurd (omega arith)
whole_piece len size room left (inl h) (inr (inr e)) some none = absurd (h.1 (omega arith))
whole_piece len size room left (inr h) (inr (inr e)) some none = omega arith

pub returns-clause-feeds : goal.returns-clause-feeds
returns-clause-feeds c =
    let on : c.args.self.now.state ≡ Going = search rules in
    let n : ℕ = c.args.self.now.left in
    let len : ℕ = c.fitting-len.result in
    let piece : List ℕ = c.args.piece.now in
    let out : List ℕ = c.copy_from_slice.new.self ++ drop len c.args.out.now in
    let run : List ℕ = take len piece in
    let fits : len ≤ length piece = c.fitting-len.ensures.within.0 in
    let copied : take len out ≡ run = ap (λ xs. take len (xs ++ drop len c.args.out.now)) c.copy_from_slice.ensures.after ∙ take_at run (drop len c.args.out.now) len (length-take-le len piece fits) in
    let room : len ≤ length out = omega (arith, length-append c.copy_from_slice.new.self (drop len c.args.out.now), ap length c.copy_from_slice.ensures.after, length-take-le len piece fits) in
    subst (λ (st : FedState). Feeds (while st (limited n)) piece c.args.last (record { used = len; given = len; state = Going }) out (while st (limited (n - len)))) (sym on)
    (exit_pass n piece c.args.last len out c.fitting-len.ensures.within.2 fits room copied
    (not_last len (length piece) c.args.last c.else-len-piece-2.either fits)
    (whole_piece len (length piece) (length c.args.out.now) n c.else-len-piece.either c.fitting-len.ensures.most c.requires))
