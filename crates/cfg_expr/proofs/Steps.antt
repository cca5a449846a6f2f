-- One more converter, and one more part.
use Rattle.std.proofs.Common.{◌≡◌, ◌≢◌, ℕ, zero, suc, ◌+◌, List, [], ◌∷◌, ◌++◌, length, drop, true, false, Ok, Err, ap, ◌∙◌, subst, refl, arith, cond, length-append}
use Rattle.px_pattern.specs.Refusals.{Kept}
use Rattle.px_conv.specs.declared.conv.Conv.{Conv}
use Rattle.log_format.specs.declared.fmt.Part.{Part}
use Rattle.cfg_expr.specs.declared.fault.TextKind.{TextKind}
use Rattle.cfg_expr.specs.declared.fault.TextKind.TheVariants as kinds
use Rattle.cfg_expr.specs.declared.side.Side.{Side}
use Rattle.cfg_expr.specs.Reading.{plain, ◌>>=◌, Cause, Fails}
use Rattle.cfg_expr.specs.Faults.{TextReading}
use Rattle.cfg_expr.specs.Exprs.{goes_on, conv_at, convs_from}
use Rattle.cfg_expr.specs.Formats.{part_at, parts_from}
use Rattle.cfg_expr.proofs.Readings.{Leads, leads_on, leads_out}

-- where a comma follows, one more converter may come
convs_more : (most : ℕ) (convs : List Conv) (rest : List ℕ) → goes_on 44 rest ≡ true →
    convs_from (suc most) convs rest ≡ (conv_at (drop 1 rest) >>= λ found. convs_from most (convs ++ found.0 ∷ []) found.1)
unfolding convs_from
convs_more most convs rest h = ap (λ b. cond b (conv_at (drop 1 rest) >>= λ found. convs_from most (convs ++ found.0 ∷ []) found.1) (plain (Ok (convs, rest)))) h

pub convs_on : (all : TextReading (List Conv × List ℕ)) (most : ℕ) (convs : List Conv) (rest behind : List ℕ) (conv : Conv) (after : List ℕ) →
    length convs + most ≡ 16 → length convs ≢ 16 → goes_on 44 rest ≡ true → behind ≡ drop 1 rest → (conv_at behind).gives ≡ Ok (conv, after) →
    Leads all (convs_from most convs rest) →
    (m : ℕ) × (length (convs ++ conv ∷ []) + m ≡ 16) × Leads all (convs_from m (convs ++ conv ∷ []) after)
convs_on all zero convs rest behind conv after count few comma same gives h = let never : ⊥ = omega arith in absurd never
convs_on all (suc most) convs rest behind conv after count few comma same gives h =
    let next = λ (found : Conv × List ℕ). convs_from most (convs ++ found.0 ∷ []) found.1 in
    let P : TextReading (List Conv × List ℕ) → Type 0 = λ left. Leads all left in
    let more : Leads all (conv_at (drop 1 rest) >>= next) = subst P (convs_more most convs rest comma) h in
    let Q : List ℕ → Type 0 = λ text. (conv_at text).gives ≡ Ok (conv, after) in
    (most, simp length-append (omega arith), leads_on all (conv_at (drop 1 rest)) next (conv, after) (subst Q same gives) more)

pub convs_out : (all : TextReading (List Conv × List ℕ)) (most : ℕ) (convs : List Conv) (rest behind : List ℕ) (before mid after : ℕ) (kept : Kept) (cause : Cause TextKind) →
    length convs + most ≡ 16 → length convs ≢ 16 → goes_on 44 rest ≡ true → behind ≡ drop 1 rest →
    Leads all (convs_from most convs rest) → mid ≡ before → Fails (conv_at behind) mid after kept cause → Fails all before after kept cause
convs_out all zero convs rest behind before mid after kept cause count few comma same h unchanged fails = let never : ⊥ = omega arith in absurd never
convs_out all (suc most) convs rest behind before mid after kept cause count few comma same h unchanged fails =
    let next = λ (found : Conv × List ℕ). convs_from most (convs ++ found.0 ∷ []) found.1 in
    let P : TextReading (List Conv × List ℕ) → Type 0 = λ left. Leads all left in
    let more : Leads all (conv_at (drop 1 rest) >>= next) = subst P (convs_more most convs rest comma) h in
    let Q : List ℕ → Type 0 = λ text. Fails (conv_at text) mid after kept cause in
    leads_out all (conv_at (drop 1 rest)) next before mid after kept cause more unchanged (subst Q same fails)

pub convs_full : (all : TextReading (List Conv × List ℕ)) (most : ℕ) (convs : List Conv) (rest : List ℕ) →
    length convs + most ≡ 16 → length convs ≡ 16 → goes_on 44 rest ≡ true → Leads all (convs_from most convs rest) → all.gives ≡ Err kinds.Limit
unfolding convs_from
convs_full all zero convs rest count full comma h = h.gives ∙ ap (λ b. (cond b (plain (Err kinds.Limit)) (plain (Ok (convs, rest)))).gives) comma
convs_full all (suc most) convs rest count full comma h = let never : ⊥ = omega arith in absurd never

pub convs_end : (all : TextReading (List Conv × List ℕ)) (most : ℕ) (convs : List Conv) (rest : List ℕ) →
    goes_on 44 rest ≡ false → Leads all (convs_from most convs rest) → all.gives ≡ Ok (convs, rest)
unfolding convs_from
convs_end all zero convs rest ends h = h.gives ∙ ap (λ b. (cond b (plain (Err kinds.Limit)) (plain (Ok (convs, rest)))).gives) ends
convs_end all (suc most) convs rest ends h =
    h.gives ∙ ap (λ b. (cond b (conv_at (drop 1 rest) >>= λ found. convs_from most (convs ++ found.0 ∷ []) found.1) (plain (Ok (convs, rest)))).gives) ends

-- ---- parts

pub parts_on : (side : Side) (all : TextReading (List Part)) (most : ℕ) (parts : List Part) (rest : List ℕ) (part : Part) (behind : List ℕ) →
    length parts + most ≡ 64 → length parts ≢ 64 → rest ≢ [] → (part_at side rest).gives ≡ Ok (part, behind) → Leads all (parts_from side most parts rest) →
    (m : ℕ) × (length (parts ++ part ∷ []) + m ≡ 64) × Leads all (parts_from side m (parts ++ part ∷ []) behind)
unfolding parts_from
parts_on side all most parts [] part behind count few more gives h = absurd (more refl)
parts_on side all zero parts (b ∷ rest) part behind count few more gives h = let never : ⊥ = omega arith in absurd never
parts_on side all (suc most) parts (b ∷ rest) part behind count few more gives h =
    let next = λ (found : Part × List ℕ). parts_from side most (parts ++ found.0 ∷ []) found.1 in
    (most, simp length-append (omega arith), leads_on all (part_at side (b ∷ rest)) next (part, behind) gives h)

pub parts_out : (side : Side) (all : TextReading (List Part)) (most : ℕ) (parts : List Part) (rest : List ℕ) (before mid after : ℕ) (kept : Kept) (cause : Cause TextKind) →
    length parts + most ≡ 64 → length parts ≢ 64 → rest ≢ [] → Leads all (parts_from side most parts rest) →
    mid ≡ before → Fails (part_at side rest) mid after kept cause → Fails all before after kept cause
unfolding parts_from
parts_out side all most parts [] before mid after kept cause count few more h same fails = absurd (more refl)
parts_out side all zero parts (b ∷ rest) before mid after kept cause count few more h same fails = let never : ⊥ = omega arith in absurd never
parts_out side all (suc most) parts (b ∷ rest) before mid after kept cause count few more h same fails =
    let next = λ (found : Part × List ℕ). parts_from side most (parts ++ found.0 ∷ []) found.1 in
    leads_out all (part_at side (b ∷ rest)) next before mid after kept cause h same fails

pub parts_full : (side : Side) (all : TextReading (List Part)) (most : ℕ) (parts : List Part) (rest : List ℕ) →
    length parts + most ≡ 64 → length parts ≡ 64 → rest ≢ [] → Leads all (parts_from side most parts rest) → all.gives ≡ Err kinds.Limit
unfolding parts_from
parts_full side all most parts [] count full more h = absurd (more refl)
parts_full side all zero parts (b ∷ rest) count full more h = h.gives
parts_full side all (suc most) parts (b ∷ rest) count full more h = let never : ⊥ = omega arith in absurd never

pub parts_end : (side : Side) (all : TextReading (List Part)) (most : ℕ) (parts : List Part) (rest : List ℕ) →
    rest ≡ [] → Leads all (parts_from side most parts rest) → all.gives ≡ Ok parts
unfolding parts_from
parts_end side all zero parts rest none h =
    let P : List ℕ → Type 0 = λ text. Leads all (parts_from side zero parts text) in (subst P none h).gives
parts_end side all (suc most) parts rest none h =
    let P : List ℕ → Type 0 = λ text. Leads all (parts_from side (suc most) parts text) in (subst P none h).gives
