-- There is one cut of each target.
use Rattle.std.proofs.Common.{◌≡◌, ℕ, ◌+◌, suc, Bool, true, false, List, [], ◌∷◌, ◌++◌, refl, sym, ap, ◌∙◌, arith, inl, inr, length, take, drop, cond, append_assoc, Option, Some, None}
use Rattle.std.specs.Prelude.{not, ◌||◌, ◌==◌, nat_eq}
use Rattle.std.specs.List.{prefix_len, list_all, starts_with}
use Rattle.std.specs.Char.{is_ascii_alphabetic}
use Rattle.std.specs.Int.{is_in_range}
use Rattle.std.proofs.lemmas.Bool.{cases_Bool, and_parts, and_from, eqb-true, false≢true}
use Rattle.std.proofs.lemmas.Bool.Decides.{Decides-eqb}
use Rattle.std.proofs.lemmas.Slice.Eq.{starts_is}
use Rattle.std.proofs.lemmas.List.{take-append-drop, drop-drop}
use Rattle.std.proofs.Math.Seq.{take-append_seam, drop-append_seam}
use Rattle.uri_parts.specs.Target.{TargetParts, is_scheme_byte, is_authority_byte, is_path_byte, mark, begins_with_letter, scheme_len, has_scheme, query_in, cut_path, cut_authority, target_parts}
use Rattle.uri_parts.specs.Cut.{query_text, origin_text, spelling, ends_at, IsCut}

-- ---- the bytes in front that pass a test

not_false : (b : Bool) → not b ≡ true → b ≡ false
not_false true h = absurd (false≢true h)
not_false false h = refl

front_stop : (p : ℕ → Bool) (ys : List ℕ) → ends_at p ys ≡ true → prefix_len p ys ≡ 0
front_stop p [] end = refl
front_stop p (y ∷ ys) end = ap (λ t. cond t (1 + prefix_len p ys) 0) (not_false (p y) end)

front_len : (p : ℕ → Bool) (xs ys : List ℕ) → list_all p xs ≡ true → ends_at p ys ≡ true → prefix_len p (xs ++ ys) ≡ length xs
front_len p [] ys all end = front_stop p ys end
front_len p (x ∷ xs) ys all end =
    let parts = and_parts (p x) (list_all p xs) all in
    let more : prefix_len p (xs ++ ys) ≡ length xs = front_len p xs ys parts.1 end in
    ap (λ t. cond t (1 + prefix_len p (xs ++ ys)) 0) parts.0 ∙ omega (arith, more)

front_all : (p : ℕ → Bool) (xs : List ℕ) → list_all p (take (prefix_len p xs) xs) ≡ true
front_all p [] = refl
front_all p (x ∷ xs) = elim (cases_Bool (p x)) [
  | inl is ↦
      let len : cond (p x) (1 + prefix_len p xs) 0 ≡ suc (prefix_len p xs) = ap (λ t. cond t (1 + prefix_len p xs) 0) is ∙ omega arith in
      ap (λ k. list_all p (take k (x ∷ xs))) len ∙ and_from (p x) (list_all p (take (prefix_len p xs) xs)) is (front_all p xs)
  | inr other ↦ ap (λ t. list_all p (take (cond t (1 + prefix_len p xs) 0) (x ∷ xs))) other
]

front_end : (p : ℕ → Bool) (xs : List ℕ) → ends_at p (drop (prefix_len p xs) xs) ≡ true
front_end p [] = refl
front_end p (x ∷ xs) = elim (cases_Bool (p x)) [
  | inl is ↦
      let len : cond (p x) (1 + prefix_len p xs) 0 ≡ suc (prefix_len p xs) = ap (λ t. cond t (1 + prefix_len p xs) 0) is ∙ omega arith in
      ap (λ k. ends_at p (drop k (x ∷ xs))) len ∙ front_end p xs
  | inr other ↦ ap (λ t. ends_at p (drop (cond t (1 + prefix_len p xs) 0) (x ∷ xs))) other ∙ ap not other
]

-- ---- path and query

not_twice : (b : Bool) → not (not b) ≡ true → b ≡ true
not_twice true h = refl
not_twice false h = absurd (false≢true h)

query_back : (ys : List ℕ) → ends_at is_path_byte ys ≡ true → query_text (query_in ys) ≡ ys
query_back [] end = refl
query_back (y ∷ ys) end = ap (λ b. b ∷ ys) (sym (eqb-true y 63 (not_twice (y == 63) end)))

query_end : (query : Option (List ℕ)) → ends_at is_path_byte (query_text query) ≡ true
query_end None = refl
query_end (Some query) = refl

query_same : (query : Option (List ℕ)) → query_in (query_text query) ≡ query
query_same None = refl
query_same (Some query) = refl

path_spells : (text : List ℕ) → take (prefix_len is_path_byte text) text ++ query_text (query_in (drop (prefix_len is_path_byte text) text)) ≡ text
path_spells text =
    let n : ℕ = prefix_len is_path_byte text in
    ap (λ ys. take n text ++ ys) (query_back (drop n text) (front_end is_path_byte text)) ∙ take-append-drop n text

path_cut : (scheme authority : Option (List ℕ)) (path : List ℕ) (query : Option (List ℕ)) → list_all is_path_byte path ≡ true
    → record { scheme = scheme; authority = authority; path = path; query = query } ≡ cut_path scheme authority (path ++ query_text query)
path_cut scheme authority path query all =
    let text : List ℕ = path ++ query_text query in
    let len : prefix_len is_path_byte text ≡ length path = front_len is_path_byte path (query_text query) all (query_end query) in
    let front : take (prefix_len is_path_byte text) text ≡ path = ap (λ k. take k text) len ∙ take-append_seam path (query_text query) in
    let back : query_in (drop (prefix_len is_path_byte text) text) ≡ query = ap query_in (ap (λ k. drop k text) len ∙ drop-append_seam path (query_text query)) ∙ query_same query in
    sym (ap (λ xs. record { scheme = scheme; authority = authority; path = xs; query = query_in (drop (prefix_len is_path_byte text) text) }) front
    ∙ ap (λ q. record { scheme = scheme; authority = authority; path = path; query = q }) back)

-- ---- scheme and authority

letter_front : (a b c d : Bool) → (b || c) ≡ true → (((a || b) || c) || d) ≡ true
letter_front true b c d h = refl
letter_front false true c d h = refl
letter_front false false true d h = refl
letter_front false false false d h = absurd (false≢true h)

letter_passes : (b : ℕ) → is_ascii_alphabetic b ≡ true → is_scheme_byte b ≡ true
letter_passes b h = letter_front (is_in_range 48 57 b) (is_in_range 65 90 b) (is_in_range 97 122 b) (b == 43 || (b == 45 || b == 46)) h

letter_first : (t : List ℕ) → begins_with_letter t ≡ true → begins_with_letter (take (scheme_len t) t) ≡ true
letter_first [] h = absurd (false≢true h)
letter_first (b ∷ bs) h =
    let len : cond (is_scheme_byte b) (1 + prefix_len is_scheme_byte bs) 0 ≡ suc (prefix_len is_scheme_byte bs) =
    ap (λ t. cond t (1 + prefix_len is_scheme_byte bs) 0) (letter_passes b h) ∙ omega arith in
    ap (λ k. begins_with_letter (take k (b ∷ bs))) len ∙ h

letter_more : (xs ys : List ℕ) → begins_with_letter xs ≡ true → begins_with_letter (xs ++ ys) ≡ true
letter_more [] ys h = absurd (false≢true h)
letter_more (x ∷ xs) ys h = h

marked : (s : List ℕ) → starts_with nat_eq s mark ≡ true → s ≡ mark ++ drop 3 s
marked s h = (starts_is Decides-eqb s mark (starts_with nat_eq s mark) refl).0 h

-- ---- the law

with_scheme : (t : List ℕ) → has_scheme t ≡ true → target_parts t ≡ cut_authority (take (scheme_len t) t) (drop (scheme_len t + 3) t)
with_scheme t h = ap (λ b. cond b (cut_authority (take (scheme_len t) t) (drop (scheme_len t + 3) t)) (cut_path None None t)) h

without_scheme : (t : List ℕ) → has_scheme t ≡ false → target_parts t ≡ cut_path None None t
without_scheme t h = ap (λ b. cond b (cut_authority (take (scheme_len t) t) (drop (scheme_len t + 3) t)) (cut_path None None t)) h

spells_scheme : (t : List ℕ) → has_scheme t ≡ true → spelling (cut_authority (take (scheme_len t) t) (drop (scheme_len t + 3) t)) ≡ t
spells_scheme t h =
    let n : ℕ = scheme_len t in
    let text : List ℕ = drop (n + 3) t in
    let m : ℕ = prefix_len is_authority_byte text in
    let origin : List ℕ = take n t ++ (mark ++ take m text) in
    let behind : drop n t ≡ mark ++ text = marked (drop n t) (and_parts (begins_with_letter t) (starts_with nat_eq (drop n t) mark) h).1 ∙ ap (λ xs. mark ++ xs) (drop-drop 3 n t) in
    ap (λ xs. origin ++ xs) (path_spells (drop m text))
    ∙ append_assoc (take n t) (mark ++ take m text) (drop m text)
    ∙ ap (λ xs. take n t ++ xs) (append_assoc mark (take m text) (drop m text) ∙ ap (λ xs. mark ++ xs) (take-append-drop m text) ∙ sym behind)
    ∙ take-append-drop n t

pub spells : (t : List ℕ) → spelling (target_parts t) ≡ t
spells t = elim (cases_Bool (has_scheme t)) [
  | inl is ↦ ap spelling (with_scheme t is) ∙ spells_scheme t is
  | inr other ↦ ap spelling (without_scheme t other) ∙ path_spells t
]

meets_scheme : (t : List ℕ) → has_scheme t ≡ true → IsCut (cut_authority (take (scheme_len t) t) (drop (scheme_len t + 3) t))
meets_scheme t h =
    let text : List ℕ = drop (scheme_len t + 3) t in
    let m : ℕ = prefix_len is_authority_byte text in
    record {
      path = front_all is_path_byte (drop m text);
      origin = (
        letter_first t (and_parts (begins_with_letter t) (starts_with nat_eq (drop (scheme_len t) t) mark) h).0,
        front_all is_scheme_byte t,
        front_all is_authority_byte text,
        ap (ends_at is_authority_byte) (path_spells (drop m text)) ∙ front_end is_authority_byte text,
      );
    }

meets_path : (t : List ℕ) → has_scheme t ≡ false → IsCut (cut_path None None t)
meets_path t h = record { path = front_all is_path_byte t; origin = ap has_scheme (path_spells t) ∙ h }

pub meets : (t : List ℕ) → IsCut (target_parts t)
meets t = elim (cases_Bool (has_scheme t)) [
  | inl is ↦ rw (with_scheme t is) (meets_scheme t is)
  | inr other ↦ rw (without_scheme t other) (meets_path t other)
]

scheme_found : (s ys : List ℕ) → begins_with_letter s ≡ true → list_all is_scheme_byte s ≡ true → (has_scheme (s ++ (mark ++ ys)) ≡ true) × (scheme_len (s ++ (mark ++ ys)) ≡ length s)
scheme_found s ys letter all =
    let t : List ℕ = s ++ (mark ++ ys) in
    let len : scheme_len t ≡ length s = front_len is_scheme_byte s (mark ++ ys) all refl in
    let behind : drop (scheme_len t) t ≡ mark ++ ys = ap (λ k. drop k t) len ∙ drop-append_seam s (mark ++ ys) in
    (and_from (begins_with_letter t) (starts_with nat_eq (drop (scheme_len t) t) mark) (letter_more s (mark ++ ys) letter) (ap (λ xs. starts_with nat_eq xs mark) behind), len)

authority_cut : (s a rest : List ℕ) → list_all is_authority_byte a ≡ true → ends_at is_authority_byte rest ≡ true → cut_authority s (a ++ rest) ≡ cut_path (Some s) (Some a) rest
authority_cut s a rest all end =
    let text : List ℕ = a ++ rest in
    let len : prefix_len is_authority_byte text ≡ length a = front_len is_authority_byte a rest all end in
    ap (λ k. cut_path (Some s) (Some (take k text)) (drop k text)) len
    ∙ ap (λ xs. cut_path (Some s) (Some xs) (drop (length a) text)) (take-append_seam a rest) ∙ ap (cut_path (Some s) (Some a)) (drop-append_seam a rest)

alone_scheme : (s a path : List ℕ) (query : Option (List ℕ)) → IsCut (record { scheme = Some s; authority = Some a; path = path; query = query })
    → record { scheme = Some s; authority = Some a; path = path; query = query } ≡ target_parts ((s ++ (mark ++ a)) ++ (path ++ query_text query))
alone_scheme s a path query cut =
    let rest : List ℕ = path ++ query_text query in
    let t : List ℕ = s ++ (mark ++ (a ++ rest)) in
    let same : (s ++ (mark ++ a)) ++ rest ≡ t = append_assoc s (mark ++ a) rest ∙ ap (λ xs. s ++ xs) (append_assoc mark a rest) in
    let found = scheme_found s (a ++ rest) cut.origin.0 cut.origin.1 in
    let front : take (scheme_len t) t ≡ s = ap (λ k. take k t) found.1 ∙ take-append_seam s (mark ++ (a ++ rest)) in
    let behind : drop (scheme_len t + 3) t ≡ a ++ rest =
    sym (drop-drop 3 (scheme_len t) t) ∙ ap (drop 3) (ap (λ k. drop k t) found.1 ∙ drop-append_seam s (mark ++ (a ++ rest))) in
    path_cut (Some s) (Some a) path query cut.path ∙ sym (authority_cut s a rest cut.origin.2 cut.origin.3)
    ∙ sym (ap target_parts same ∙ with_scheme t found.0 ∙ ap (λ xs. cut_authority xs (drop (scheme_len t + 3) t)) front ∙ ap (cut_authority s) behind)

alone_parts : (scheme authority : Option (List ℕ)) (path : List ℕ) (query : Option (List ℕ)) → IsCut (record { scheme = scheme; authority = authority; path = path; query = query })
    → record { scheme = scheme; authority = authority; path = path; query = query } ≡ target_parts (origin_text scheme authority ++ (path ++ query_text query))
alone_parts None None path query cut = path_cut None None path query cut.path ∙ sym (without_scheme (path ++ query_text query) cut.origin)
alone_parts None (Some a) path query cut = absurd cut.origin
alone_parts (Some s) None path query cut = absurd cut.origin
alone_parts (Some s) (Some a) path query cut = alone_scheme s a path query cut

pub alone : (parts : TargetParts) → IsCut parts → parts ≡ target_parts (spelling parts)
alone parts cut = alone_parts parts.scheme parts.authority parts.path parts.query cut

-- what the code has seen
pub cut_at : (t : List ℕ) (n : ℕ) (front behind : List ℕ) → n ≡ scheme_len t → front ≡ take n t → behind ≡ drop n t → begins_with_letter t ≡ true → starts_with nat_eq behind mark ≡ true
    → cut_authority front (drop 3 behind) ≡ target_parts t
cut_at t n front behind len is_front is_behind letter is_marked =
    let e : behind ≡ drop (scheme_len t) t = is_behind ∙ ap (λ k. drop k t) len in
    let found : has_scheme t ≡ true = and_from (begins_with_letter t) (starts_with nat_eq (drop (scheme_len t) t) mark) letter (ap (λ xs. starts_with nat_eq xs mark) (sym e) ∙ is_marked) in
    ap (λ xs. cut_authority xs (drop 3 behind)) (is_front ∙ ap (λ k. take k t) len)
    ∙ ap (λ xs. cut_authority (take (scheme_len t) t) (drop 3 xs)) e
    ∙ ap (cut_authority (take (scheme_len t) t)) (drop-drop 3 (scheme_len t) t)
    ∙ sym (with_scheme t found)
