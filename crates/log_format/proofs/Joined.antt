-- Texts of parts that are joined one by one.
use Rattle.std.proofs.Common.{inl, inr, ◌≡◌, ℕ, zero, suc, ◌+◌, ◌≤◌, false, List, [], ◌∷◌, ◌++◌, length, drop, refl, sym, ap, ◌∙◌, arith, add-one, length-append, append_assoc, Some}
use Rattle.std.specs.Prelude.{slice_get}
use Rattle.std.specs.List.{flat_map, list_any}
use Rattle.std.proofs.lemmas.Bool.{cases_Bool, false≢true}
use Rattle.std.proofs.lemmas.Option.{slice_get_within, get_or_from_slice_get}
use Rattle.std.proofs.lemmas.List.Folds.{list_any_at}
use Rattle.log_format.specs.declared.fmt.Part.{Part}
use Rattle.log_format.specs.Format.{part_holds_pattern}

-- the parts from a place on begin with the one that stands there
drop_get : (parts : List Part) (at : ℕ) (part : Part) → slice_get parts at ≡ Some part → drop at parts ≡ part ∷ drop (suc at) parts
drop_get [] at part is = cc
drop_get (p ∷ parts) zero part is = let same : p ≡ part = cc in ap (λ (x : Part). x ∷ parts) same
drop_get (p ∷ parts) (suc at) part is = drop_get parts at part is

-- what is left begins with the text of the part that stands there
pub next_part : (f : Part → List ℕ) (parts : List Part) (at : ℕ) (part : Part) (done piece new whole : List ℕ) → slice_get parts at ≡ Some part → piece ≡ f part → new ≡ done ++ piece
    → done ++ flat_map f (drop at parts) ≡ whole → new ++ flat_map f (drop (at + 1) parts) ≡ whole
next_part f parts at part done piece new whole is text put joined =
    let here = ap (λ (ps : List Part). done ++ flat_map f ps) (drop_get parts at part is) in
    rw (add-one, put, text) (append_assoc done (f part) (flat_map f (drop (suc at) parts)) ∙ (sym here ∙ joined))

-- where the whole is within a limit, it is with the text of this part
pub part_fits : (f : Part → List ℕ) (parts : List Part) (at : ℕ) (part : Part) (done piece whole : List ℕ) (limit now : ℕ) → slice_get parts at ≡ Some part → piece ≡ f part
    → done ++ flat_map f (drop at parts) ≡ whole → now ≡ limit → length whole ≤ limit → length done + length piece ≤ now
part_fits f parts at part done piece whole limit now is text joined same fits =
    let all = next_part f parts at part done piece (done ++ piece) whole is text refl joined in
    omega (arith, ap length all, length-append (done ++ piece) (flat_map f (drop (at + 1) parts)), length-append done piece)

-- where none of them holds a pattern, this one doesn't
pub not_this_part : (parts : List Part) (at : ℕ) (part : Part) → slice_get parts at ≡ Some part → list_any part_holds_pattern parts ≡ false → part_holds_pattern part ≡ false
not_this_part parts at part is none =
    elim (cases_Bool (part_holds_pattern part)) [
      | inl holds ↦
          let here = get_or_from_slice_get parts at part part is in
          let any = list_any_at part_holds_pattern parts at part (slice_get_within parts at part is) (ap part_holds_pattern here ∙ holds) in
          absurd (false≢true (sym none ∙ any))
      | inr other ↦ other
    ]
