-- Samples that are cast to bytes, and values that are tried on these.
use Rattle.std.proofs.Common.{◌≡◌, ℕ, Bool, true, false, List, length, refl, sym, ap, ◌∙◌, Option, Some, None}
use Rattle.std.specs.Prelude.{nat_le, option_map, if◌then◌else◌}
use Rattle.std.specs.List.{list_any}
use Rattle.px_sample.specs.Sample.{Value, Bytes, within}
use Rattle.px_sample.specs.Cast.{text_of}
use Rattle.acl_eval.specs.declared.condition.Match.{Match}
use Rattle.acl_eval.specs.declared.condition.Match.TheVariants as matches
use Rattle.acl_eval.specs.declared.condition.TestValue.{TestValue}
use Rattle.acl_eval.specs.Matches.{text_matches, text_in, passes, value_matches}

-- but for three matches, values are tried on the bytes
by_text : (cap : ℕ) (how : Match) (icase : Bool) (tried : List TestValue) (v : Value) → (how ≡ matches.Found → ⊥) → (how ≡ matches.Bool → ⊥) → (how ≡ matches.Int → ⊥)
    → passes (λ text. list_any (text_matches how icase text) tried) (text_in cap v) ≡ value_matches cap how icase tried v
by_text cap matches.Found icase tried v f b i = absurd (f refl)
by_text cap matches.Bool icase tried v f b i = absurd (b refl)
by_text cap matches.Int icase tried v f b i = absurd (i refl)
by_text cap matches.Len icase tried v f b i = refl
by_text cap matches.Str icase tried v f b i = refl
by_text cap matches.Beg icase tried v f b i = refl
by_text cap matches.End icase tried v f b i = refl
by_text cap matches.Sub icase tried v f b i = refl
by_text cap matches.Reg icase tried v f b i = refl

-- what was cast is the text, where it fits
came : (fits : Bool) (text bytes : List ℕ) → Some (Bytes bytes) ≡ (if fits then Some (Bytes text) else None) → (if fits then Some text else None) ≡ Some bytes
came true text bytes is = cc
came false text bytes is = cc

-- the values that are tried on the bytes decide
pub bytes_decide : (cap : ℕ) (how : Match) (icase : Bool) (tried : List TestValue) (v : Option Value) (bytes : List ℕ) → (how ≡ matches.Found → ⊥) → (how ≡ matches.Bool → ⊥) → (how ≡ matches.Int → ⊥)
    → Some (Bytes bytes) ≡ within cap (option_map (λ w. Bytes (text_of w)) v)
    → list_any (text_matches how icase bytes) tried ≡ passes (value_matches cap how icase tried) v
bytes_decide cap how icase tried None bytes f b i is = cc
bytes_decide cap how icase tried (Some v) bytes f b i is =
    let text = came (nat_le (length (text_of v)) cap) (text_of v) bytes is in
    ap (λ (t : Option (List ℕ)). passes (λ text. list_any (text_matches how icase text) tried) t) (sym text) ∙ by_text cap how icase tried v f b i
