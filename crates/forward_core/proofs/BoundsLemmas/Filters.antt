-- Filters make at most 256 bytes of one.
use Rattle.std.proofs.Common.{◌≡◌, ℕ, suc, zero, ◌+◌, ◌*◌, ◌-◌, ◌≤◌, ◌⊎◌, inl, inr, Bool, true, false, cond, List, [], ◌∷◌, length, take, refl, sym, ap, ◌∙◌, length-append, arith}
use Rattle.std.specs.Prelude.{Option, Some, None, if◌then◌else◌, ◌&&◌, not, nat_le, count_by, ⊤}
use Rattle.std.proofs.lemmas.List.Sums.{sum_by-cons}
use Rattle.body_filter.specs.declared.filter_spec.FilterSpec.{FilterSpec}
use Rattle.body_filter.specs.declared.filter_spec.FilterSpec.TheVariants.{Limit, Deny, Replace}
use Rattle.body_filter.specs.declared.filter_spec.FedState.{FedState}
use Rattle.body_filter.specs.declared.filter_spec.FedState.TheVariants.{Going, Over, Refused}
use Rattle.body_filter.specs.Filter.{Filtered, ended, behind, end_of, is_over, begins, matched, searched, filtered_by, joined, filtered}
use Rattle.body_filter.specs.Valid.{IsFilter, AreFilters}
use Rattle.http_rules.specs.Valid.{is_replace}
use Rattle.forward_core.specs.Meaning.Product.{refused_in}

-- ---- how much is given

abbrev IsAtMost : (most : ℕ) → Filtered → Type 0
IsAtMost most made = length made.output ≤ most

take_short : (n : ℕ) (xs : List ℕ) → length (take n xs) ≤ length xs
take_short zero xs = omega arith
take_short (suc n) [] = omega arith
take_short (suc n) (x ∷ xs) = let h = take_short n xs in omega (arith, h)

-- what stands for a match, where at most so many bytes do
matched_short : (to : Option (List ℕ)) (most : ℕ) (rest : Filtered) (left : ℕ) → ((text : List ℕ) → to ≡ Some text → length text ≤ most) → IsAtMost left rest → IsAtMost (most + left) (matched to rest)
matched_short None most rest left h r = omega arith
matched_short (Some text) most rest left h r =
    let t = h text refl in
    let e = length-append text rest.output in
    omega (arith, t, e, r)

choose : (a b : Bool) (most : ℕ) (x y z : Filtered) → IsAtMost most x → IsAtMost most y → IsAtMost most z → IsAtMost most (if a then x else if b then y else z)
choose true b most x y z h k l = h
choose false true most x y z h k l = k
choose false false most x y z h k l = l

behind_one : (b : ℕ) (rest : Filtered) (left : ℕ) → IsAtMost left rest → IsAtMost (1 + left) (behind (b ∷ []) rest)
behind_one b rest left h = omega (arith, h)

-- at most most bytes for a byte, and one at least
searched_short : (needle : List ℕ) (to : Option (List ℕ)) (most : ℕ) → 1 ≤ most → ((text : List ℕ) → to ≡ Some text → length text ≤ most) → (skip : ℕ) (whole : Bool) (body : List ℕ) → IsAtMost (most * length body) (searched needle to skip whole body)
unfolding searched
searched_short needle to most one h skip whole [] = omega arith
searched_short needle to most one h (suc skip) whole (b ∷ bs) =
    let r = searched_short needle to most one h skip whole bs in
    omega (arith, r)
searched_short needle to most one h zero whole (b ∷ bs) =
    let skipped = searched needle to (length needle - 1) whole bs in
    let next = searched needle to 0 whole bs in
    let s = searched_short needle to most one h (length needle - 1) whole bs in
    let n = searched_short needle to most one h 0 whole bs in
    let m = matched_short to most skipped (most * length bs) h s in
    let o = behind_one b next (most * length bs) n in
    choose (begins needle (b ∷ bs)) (begins (b ∷ bs) needle && not whole) (most * length (b ∷ bs)) (matched to skipped) (ended Going) (behind (b ∷ []) next)
    (omega (arith, m)) (omega arith) (omega (arith, o, one))

no_text : {n : ℕ} (text : List ℕ) → None ≡ Some text → length text ≤ n
no_text text e = absurd (cc)

some_text : {n : ℕ} (to text : List ℕ) → length to ≤ n → Some to ≡ Some text → length text ≤ n
some_text to text h e = let same : length to ≡ length text = ap (λ (t : List ℕ). length t) (inside to text e) in omega (arith, same, h)
  where
    inside : (to text : List ℕ) → Some to ≡ Some text → to ≡ text
    inside to text e = cc

-- a filter that replaces nothing gives at most what it got, and each at most 256 bytes for one
plain_short : (filter : FilterSpec) (whole : Bool) (body : List ℕ) → is_replace filter ≡ false → IsAtMost (length body) (filtered_by filter whole body)
plain_short (Limit n) whole body e = take_short n body
plain_short (Deny needle) whole body e = let s = searched_short needle None 1 (omega arith) no_text 0 whole body in omega (arith, s)
plain_short (Replace from to) whole body e = absurd (cc)

each_short : (filter : FilterSpec) (whole : Bool) (body : List ℕ) → IsFilter filter → IsAtMost (256 * length body) (filtered_by filter whole body)
each_short (Limit n) whole body v = let t = take_short n body in omega (arith, t)
each_short (Deny needle) whole body v = let s = searched_short needle None 1 (omega arith) no_text 0 whole body in omega (arith, s)
each_short (Replace from to) whole body v = searched_short from (Some to) 256 (omega arith) (λ text e. some_text to text v.2 e) 0 whole body

-- ---- chains

counted : (filter : FilterSpec) (filters : List FilterSpec) (v : Bool) → is_replace filter ≡ v → count_by is_replace (filter ∷ filters) ≡ cond v 1 0 + count_by is_replace filters
counted filter filters v e = sum_by-cons (λ (x : FilterSpec). cond (is_replace x) 1 0) filter filters ∙ ap (λ (b : Bool). cond b 1 0 + count_by is_replace filters) e

none_replaces : (filter : FilterSpec) (filters : List FilterSpec) (v : Bool) → is_replace filter ≡ v → count_by is_replace (filter ∷ filters) ≤ 0 → (v ≡ false) × (count_by is_replace filters ≤ 0)
none_replaces filter filters true e h = let c : count_by is_replace (filter ∷ filters) ≡ 1 + count_by is_replace filters = counted filter filters true e in absurd (omega (arith, c, h))
none_replaces filter filters false e h = let c : count_by is_replace (filter ∷ filters) ≡ 0 + count_by is_replace filters = counted filter filters false e in (refl, omega (arith, c, h))

one_replaces : (filter : FilterSpec) (filters : List FilterSpec) (v : Bool) → is_replace filter ≡ v → count_by is_replace (filter ∷ filters) ≤ 1
    → ((v ≡ true) × (count_by is_replace filters ≤ 0)) ⊎ ((v ≡ false) × (count_by is_replace filters ≤ 1))
one_replaces filter filters true e h = let c : count_by is_replace (filter ∷ filters) ≡ 1 + count_by is_replace filters = counted filter filters true e in inl (refl, omega (arith, c, h))
one_replaces filter filters false e h = let c : count_by is_replace (filter ∷ filters) ≡ 0 + count_by is_replace filters = counted filter filters false e in inr (refl, omega (arith, c, h))

plain_chain : (filters : List FilterSpec) (whole : Bool) (body : List ℕ) → count_by is_replace filters ≤ 0 → IsAtMost (length body) (filtered filters whole body)
unfolding filtered
plain_chain [] whole body h = omega arith
plain_chain (filter ∷ filters) whole body h =
    let n = none_replaces filter filters (is_replace filter) refl h in
    let first = filtered_by filter whole body in
    let a = plain_short filter whole body n.0 in
    let b = plain_chain filters (is_over first.state) first.output n.1 in
    omega (arith, a, b)

pub chain_short : (filters : List FilterSpec) (whole : Bool) (body : List ℕ) → AreFilters filters → count_by is_replace filters ≤ 1 → IsAtMost (256 * length body) (filtered filters whole body)
unfolding filtered
chain_short [] whole body v h = omega arith
chain_short (filter ∷ filters) whole body v h =
    let first = filtered_by filter whole body in
    elim (one_replaces filter filters (is_replace filter) refl h) [
      | inl x ↦ let a = each_short filter whole body v.0 in let b = plain_chain filters (is_over first.state) first.output x.1 in omega (arith, a, b)
      | inr x ↦ let a = plain_short filter whole body x.0 in let b = chain_short filters (is_over first.state) first.output v.1 x.1 in omega (arith, a, b)
    ]

-- ---- how it is refused

abbrev IsCode : FedState → Type 0
IsCode Going = ⊤
IsCode Over = ⊤
IsCode (Refused code) = (code ≡ 403) ⊎ (code ≡ 413)

end_code : (whole : Bool) → IsCode (end_of whole)
end_code true = tt
end_code false = tt

limited_code : (v whole : Bool) → IsCode (if v then end_of whole else Refused 413)
limited_code true whole = end_code whole
limited_code false whole = inr refl

matched_code : (to : Option (List ℕ)) (rest : Filtered) → IsCode rest.state → IsCode (matched to rest).state
matched_code None rest h = inl refl
matched_code (Some text) rest h = h

chosen_code : (a b : Bool) (x y z : Filtered) → IsCode x.state → IsCode y.state → IsCode z.state → IsCode (if a then x else if b then y else z).state
chosen_code true b x y z h k l = h
chosen_code false true x y z h k l = k
chosen_code false false x y z h k l = l

searched_code : (needle : List ℕ) (to : Option (List ℕ)) (skip : ℕ) (whole : Bool) (body : List ℕ) → IsCode (searched needle to skip whole body).state
unfolding searched
searched_code needle to skip whole [] = end_code whole
searched_code needle to (suc skip) whole (b ∷ bs) = searched_code needle to skip whole bs
searched_code needle to zero whole (b ∷ bs) =
    let skipped = searched needle to (length needle - 1) whole bs in
    let next = searched needle to 0 whole bs in
    chosen_code (begins needle (b ∷ bs)) (begins (b ∷ bs) needle && not whole) (matched to skipped) (ended Going) (behind (b ∷ []) next)
    (matched_code to skipped (searched_code needle to (length needle - 1) whole bs)) tt (searched_code needle to 0 whole bs)

by_code : (filter : FilterSpec) (whole : Bool) (body : List ℕ) → IsCode (filtered_by filter whole body).state
by_code (Limit n) whole body = limited_code (nat_le (length body) n) whole
by_code (Deny needle) whole body = searched_code needle None 0 whole body
by_code (Replace from to) whole body = searched_code from (Some to) 0 whole body

joined_code : (first last : FedState) → IsCode first → IsCode last → IsCode (joined first last)
joined_code first Going h k = tt
joined_code first Over h k = h
joined_code first (Refused code) h k = k

chain_code : (filters : List FilterSpec) (whole : Bool) (body : List ℕ) → IsCode (filtered filters whole body).state
unfolding filtered
chain_code [] whole body = end_code whole
chain_code (filter ∷ filters) whole body =
    let first = filtered_by filter whole body in
    joined_code first.state (filtered filters (is_over first.state) first.output).state (by_code filter whole body) (chain_code filters (is_over first.state) first.output)

code_of : (state : FedState) (code : ℕ) → IsCode state → refused_in state ≡ Some code → (code ≡ 403) ⊎ (code ≡ 413)
code_of Going code h e = absurd (cc)
code_of Over code h e = absurd (cc)
code_of (Refused given) code (inl is) e = let same : given ≡ code = cc in inl (sym same ∙ is)
code_of (Refused given) code (inr is) e = let same : given ≡ code = cc in inr (sym same ∙ is)

pub chain_refuses : (filters : List FilterSpec) (whole : Bool) (body : List ℕ) (code : ℕ) → refused_in (filtered filters whole body).state ≡ Some code → (code ≡ 403) ⊎ (code ≡ 413)
chain_refuses filters whole body code e = code_of (filtered filters whole body).state code (chain_code filters whole body) e
