-- A sample on its way through converters.
use Rattle.std.proofs.Common.{inl, inr, ◌≡◌, ℕ, zero, suc, false, ◌+◌, List, [], ◌∷◌, drop, refl, sym, ap, ◌∙◌, add-one, Option, Some, None}
use Rattle.std.specs.Prelude.{slice_get}
use Rattle.std.specs.List.{list_any}
use Rattle.std.proofs.lemmas.Bool.{cases_Bool, false≢true}
use Rattle.std.proofs.lemmas.Option.{slice_get_within, get_or_from_slice_get}
use Rattle.std.proofs.lemmas.List.Folds.{list_any_at}
use Rattle.px_sample.specs.Sample.{Value}
use Rattle.px_conv.specs.Conv.{converted, has_pattern}
use Rattle.px_conv.specs.declared.conv.Conv.{Conv}
use Rattle.px_expr.specs.Expr.{put_through}

-- nothing comes of an absent sample
absent_stays : (size : ℕ) (convs : List Conv) → put_through size convs None ≡ None
absent_stays size [] = refl
absent_stays size (conv ∷ convs) = absent_stays size convs

-- the converters from a place on begin with the one that stands there
drop_get : (convs : List Conv) (at : ℕ) (conv : Conv) → slice_get convs at ≡ Some conv → drop at convs ≡ conv ∷ drop (suc at) convs
drop_get [] at conv is = cc
drop_get (c ∷ convs) zero conv is = let same : c ≡ conv = cc in ap (λ (x : Conv). x ∷ convs) same
drop_get (c ∷ convs) (suc at) conv is = drop_get convs at conv is

-- behind one converter
pub goes_on : (size now : ℕ) (convs : List Conv) (at : ℕ) (conv : Conv) (old new whole : Option Value) → slice_get convs at ≡ Some conv → now ≡ size → new ≡ converted now conv old
    → put_through size (drop at convs) old ≡ whole → put_through size (drop (at + 1) convs) new ≡ whole
goes_on size now convs at conv old new whole is same made left =
    let here = ap (λ (cs : List Conv). put_through size cs old) (drop_get convs at conv is) in
    let by_size = made ∙ ap (λ (n : ℕ). converted n conv old) same in
    rw (add-one, by_size) (sym here ∙ left)

-- at an absent sample
pub stops : (size : ℕ) (convs : List Conv) (made whole : Option Value) → made ≡ None → put_through size convs made ≡ whole → None ≡ whole
stops size convs made whole none left =
    sym (absent_stays size convs) ∙ (ap (λ (v : Option Value). put_through size convs v) (sym none) ∙ left)

-- where none of them holds a pattern, this one doesn't
pub not_this_one : (convs : List Conv) (at : ℕ) (conv : Conv) → slice_get convs at ≡ Some conv → list_any has_pattern convs ≡ false → has_pattern conv ≡ false
not_this_one convs at conv is none =
    elim (cases_Bool (has_pattern conv)) [
      | inl holds ↦
          let here = get_or_from_slice_get convs at conv conv is in
          let any = list_any_at has_pattern convs at conv (slice_get_within convs at conv is) (ap has_pattern here ∙ holds) in
          absurd (false≢true (sym none ∙ any))
      | inr other ↦ other
    ]
