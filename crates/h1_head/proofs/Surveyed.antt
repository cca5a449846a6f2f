-- What one pass over the fields gathers is what the rows ask of them.
use Rattle.std.proofs.Common.{◌≡◌, ℕ, ◌+◌, Bool, true, false, cond, List, [], ◌∷◌, ◌++◌, length, refl, sym, ◌∙◌, ap, arith, zero-add}
use Rattle.std.specs.Prelude.{codes, filter, map, not, ◌&&◌, ◌||◌, nat_lt, Option, Some, None}
use Rattle.std.specs.List.{list_any, list_all}
use Rattle.http_model.specs.Head.{Field}
use Rattle.http_model.specs.Fields.{same_name, is_named, has_field, fields_named}
use Rattle.px_bytes.specs.Numbers.{decimal_of}
use Rattle.px_bytes.specs.Values.{values_of, values_in}
use Rattle.http_model.specs.Sizes.{most_name}
use Rattle.h1_head.specs.Numbers.{most_digits}
use Rattle.h1_head.specs.declared.survey.Lengths.{Lengths}
use Rattle.h1_head.specs.declared.survey.Lengths.TheVariants.{Unread, One, Differing}
use Rattle.h1_head.specs.declared.survey.Codings.{Codings}
use Rattle.h1_head.specs.declared.survey.Codings.TheVariants.{Unnamed, Chunked, Unknown}
use Rattle.h1_head.specs.declared.survey.Survey.{Survey}
use Rattle.h1_head.specs.Rows.{Parts, elements_named, has_option, has_long_name, is_length, is_number, if_all_are, one_length, declared_length, is_none, is_chunked_alone, is_nonempty, fits_target, refusal_of, ResponseParts, response_refusal_of}
use Rattle.h1_head.specs.Survey.{by_number, next_length, lengths_after, by_coding, next_coding, codings_after, has_value, has_option_in, has_taking, removes_some, add_field, survey_after, no_survey, survey_of, are_one, are_chunked, declared_by, row_of, response_row_of}

or_false : (a : Bool) → (a || false) ≡ a
or_false true = refl
or_false false = refl

or_assoc : (a b c : Bool) → ((a || b) || c) ≡ (a || (b || c))
or_assoc true b c = refl
or_assoc false b c = refl

any-append : (p : List ℕ → Bool) (xs ys : List (List ℕ)) → list_any p (xs ++ ys) ≡ (list_any p xs || list_any p ys)
any-append p [] ys = refl
any-append p (x ∷ xs) ys = ap (λ t. p x || t) (any-append p xs ys) ∙ sym (or_assoc (p x) (list_any p xs) (list_any p ys))

lengths-append : (l : Lengths) (xs ys : List (List ℕ)) → lengths_after l (xs ++ ys) ≡ lengths_after (lengths_after l xs) ys
lengths-append l [] ys = refl
lengths-append l (x ∷ xs) ys = lengths-append (next_length l x) xs ys

codings-append : (l : Codings) (xs ys : List (List ℕ)) → codings_after l (xs ++ ys) ≡ codings_after (codings_after l xs) ys
codings-append l [] ys = refl
codings-append l (x ∷ xs) ys = codings-append (next_coding l x) xs ys

-- the elements of some fields
abbrev elements : List Field → List (List ℕ)
elements fields = values_in (map (λ field. field.1) fields)

-- ---- each part of the survey

surveyed_long : (s : Survey) (fs : List Field) → (survey_after s fs).long_name ≡ (s.long_name || has_long_name fs)
surveyed_long s [] = sym (or_false s.long_name)
surveyed_long s (f ∷ fs) = surveyed_long (add_field s f) fs ∙ or_assoc s.long_name (nat_lt most_name (length f.0)) (has_long_name fs)

count_step : (t : Bool) (f : Field) (rest : List Field) (h n : ℕ) → n ≡ cond t (h + 1) h + length rest → n ≡ h + length (cond t (f ∷ rest) rest)
count_step true f rest h n e = omega arith
count_step false f rest h n e = e

surveyed_hosts : (s : Survey) (fs : List Field) → (survey_after s fs).hosts ≡ s.hosts + length (fields_named (codes "host") fs)
surveyed_hosts s [] = omega arith
surveyed_hosts s (f ∷ fs) =
    count_step (is_named (codes "host") f) f (fields_named (codes "host") fs) s.hosts (survey_after s (f ∷ fs)).hosts (surveyed_hosts (add_field s f) fs)

mark_step : (t old rest : Bool) → (cond t true old || rest) ≡ (old || (t || rest))
mark_step true true rest = refl
mark_step true false rest = refl
mark_step false old rest = refl

surveyed_sized : (s : Survey) (fs : List Field) → (survey_after s fs).has_length ≡ (s.has_length || has_field (codes "content-length") fs)
surveyed_sized s [] = sym (or_false s.has_length)
surveyed_sized s (f ∷ fs) =
    surveyed_sized (add_field s f) fs ∙ mark_step (is_named (codes "content-length") f) s.has_length (has_field (codes "content-length") fs)

surveyed_coded : (s : Survey) (fs : List Field) → (survey_after s fs).has_coding ≡ (s.has_coding || has_field (codes "transfer-encoding") fs)
surveyed_coded s [] = sym (or_false s.has_coding)
surveyed_coded s (f ∷ fs) =
    surveyed_coded (add_field s f) fs ∙ mark_step (is_named (codes "transfer-encoding") f) s.has_coding (has_field (codes "transfer-encoding") fs)

length_step : (t : Bool) (f : Field) (rest : List Field) (l : Lengths)
    → lengths_after (cond t (lengths_after l (values_of f.1)) l) (elements rest) ≡ lengths_after l (elements (cond t (f ∷ rest) rest))
length_step true f rest l = sym (lengths-append l (values_of f.1) (elements rest))
length_step false f rest l = refl

surveyed_lengths : (s : Survey) (fs : List Field) → (survey_after s fs).lengths ≡ lengths_after s.lengths (elements_named (codes "content-length") fs)
surveyed_lengths s [] = refl
surveyed_lengths s (f ∷ fs) =
    surveyed_lengths (add_field s f) fs ∙ length_step (is_named (codes "content-length") f) f (fields_named (codes "content-length") fs) s.lengths

coding_step : (t : Bool) (f : Field) (rest : List Field) (l : Codings)
    → codings_after (cond t (codings_after l (values_of f.1)) l) (elements rest) ≡ codings_after l (elements (cond t (f ∷ rest) rest))
coding_step true f rest l = sym (codings-append l (values_of f.1) (elements rest))
coding_step false f rest l = refl

surveyed_codings : (s : Survey) (fs : List Field) → (survey_after s fs).codings ≡ codings_after s.codings (elements_named (codes "transfer-encoding") fs)
surveyed_codings s [] = refl
surveyed_codings s (f ∷ fs) =
    surveyed_codings (add_field s f) fs ∙ coding_step (is_named (codes "transfer-encoding") f) f (fields_named (codes "transfer-encoding") fs) s.codings

abbrev any_is : List ℕ → List (List ℕ) → Bool
any_is word es = list_any (λ element. same_name element word) es

option_step : (t : Bool) (word : List ℕ) (f : Field) (rest : List Field)
    → any_is word (elements (cond t (f ∷ rest) rest)) ≡ (t && has_value word f.1 || any_is word (elements rest))
option_step true word f rest = any-append (λ element. same_name element word) (values_of f.1) (elements rest)
option_step false word f rest = refl

-- Connection asked field by field
pub option_in : (word : List ℕ) (fs : List Field) → has_option_in word fs ≡ has_option word fs
option_in word [] = refl
option_in word (f ∷ fs) =
    ap (λ t. is_named (codes "connection") f && has_value word f.1 || t) (option_in word fs)
    ∙ sym (option_step (is_named (codes "connection") f) word f (fields_named (codes "connection") fs))

close_step : (t old v rest : Bool) → (cond t (old || v) old || rest) ≡ (old || (t && v || rest))
close_step true true v rest = refl
close_step true false v rest = refl
close_step false old v rest = refl

surveyed_close : (s : Survey) (fs : List Field) → (survey_after s fs).close ≡ (s.close || has_option_in (codes "close") fs)
surveyed_close s [] = sym (or_false s.close)
surveyed_close s (f ∷ fs) =
    surveyed_close (add_field s f) fs
    ∙ close_step (is_named (codes "connection") f) s.close (has_value (codes "close") f.1) (has_option_in (codes "close") fs)

surveyed_removes : (s : Survey) (fs : List Field) → (survey_after s fs).removes ≡ (s.removes || removes_some fs)
surveyed_removes s [] = sym (or_false s.removes)
surveyed_removes s (f ∷ fs) =
    surveyed_removes (add_field s f) fs
    ∙ close_step (is_named (codes "connection") f) s.removes (has_taking f.1) (removes_some fs)

-- ---- lengths

differing_number : (d : Option ℕ) → by_number Differing d ≡ Differing
differing_number None = refl
differing_number (Some n) = refl

differing_stays : (es : List (List ℕ)) → lengths_after Differing es ≡ Differing
differing_stays [] = refl
differing_stays (e ∷ es) = ap (λ l. lengths_after l es) (differing_number (decimal_of most_digits e)) ∙ differing_stays es

one_number : (n : ℕ) (d : Option ℕ) → by_number (One n) d ≡ cond (is_number n d) (One n) Differing
one_number n None = refl
one_number n (Some m) = refl

one_step : (n : ℕ) (t rest : Bool) (es : List (List ℕ)) → lengths_after (One n) es ≡ cond rest (One n) Differing
    → lengths_after (cond t (One n) Differing) es ≡ cond (t && rest) (One n) Differing
one_step n true rest es e = e
one_step n false rest es e = differing_stays es

one_stays : (n : ℕ) (es : List (List ℕ)) → lengths_after (One n) es ≡ cond (list_all (is_length n) es) (One n) Differing
one_stays n [] = refl
one_stays n (e ∷ es) =
    ap (λ l. lengths_after l es) (one_number n (decimal_of most_digits e))
    ∙ one_step n (is_length n e) (list_all (is_length n) es) es (one_stays n es)

declared_cond : (t : Bool) (n : ℕ) → declared_by (cond t (One n) Differing) ≡ cond t (Some n) None
declared_cond true n = refl
declared_cond false n = refl

first_number : (d : Option ℕ) (es : List (List ℕ)) → declared_by (lengths_after (by_number Unread d) es) ≡ if_all_are d es
first_number None es = ap declared_by (differing_stays es)
first_number (Some n) es = ap declared_by (one_stays n es) ∙ declared_cond (list_all (is_length n) es) n

declared_after : (es : List (List ℕ)) → declared_by (lengths_after Unread es) ≡ one_length es
declared_after [] = refl
declared_after (e ∷ es) = first_number (decimal_of most_digits e) es

none_or_one : (l : Lengths) → not (are_one l) ≡ is_none (declared_by l)
none_or_one Unread = refl
none_or_one (One n) = refl
none_or_one Differing = refl

-- ---- codings

abbrev is_nil : List (List ℕ) → Bool
is_nil [] = true
is_nil (x ∷ xs) = false

cond_same : (t : Bool) (c : Codings) → cond t c c ≡ c
cond_same true c = refl
cond_same false c = refl

unknown_stays : (es : List (List ℕ)) → codings_after Unknown es ≡ Unknown
unknown_stays [] = refl
unknown_stays (e ∷ es) = ap (λ l. codings_after l es) (cond_same (is_nonempty e) Unknown) ∙ unknown_stays es

nil_step : (t : Bool) (e : List ℕ) (es rest : List (List ℕ)) → are_chunked (codings_after Chunked es) ≡ is_nil rest
    → are_chunked (codings_after (cond t Unknown Chunked) es) ≡ is_nil (cond t (e ∷ rest) rest)
nil_step true e es rest h = ap are_chunked (unknown_stays es)
nil_step false e es rest h = h

chunked_stays : (es : List (List ℕ)) → are_chunked (codings_after Chunked es) ≡ is_nil (filter is_nonempty es)
chunked_stays [] = refl
chunked_stays (e ∷ es) = nil_step (is_nonempty e) e es (filter is_nonempty es) (chunked_stays es)

alone : (e : List ℕ) (rest : List (List ℕ)) → is_chunked_alone (e ∷ rest) ≡ (same_name e (codes "chunked") && is_nil rest)
alone e [] = and_true (same_name e (codes "chunked"))
  where
    and_true : (t : Bool) → t ≡ (t && true)
    and_true true = refl
    and_true false = refl
alone e (x ∷ xs) = and_false (same_name e (codes "chunked"))
  where
    and_false : (t : Bool) → false ≡ (t && false)
    and_false true = refl
    and_false false = refl

first_coding : (b : Bool) (es : List (List ℕ)) → are_chunked (codings_after (by_coding Unnamed b) es) ≡ (b && is_nil (filter is_nonempty es))
first_coding true es = chunked_stays es
first_coding false es = ap are_chunked (unknown_stays es)

coding_first : (t b : Bool) (e : List ℕ) (es rest : List (List ℕ)) → b ≡ same_name e (codes "chunked") → rest ≡ filter is_nonempty es
    → are_chunked (codings_after Unnamed es) ≡ is_chunked_alone rest
    → are_chunked (codings_after (cond t (by_coding Unnamed b) Unnamed) es) ≡ is_chunked_alone (cond t (e ∷ rest) rest)
coding_first true b e es rest is r h =
    first_coding b es ∙ ap (λ t. t && is_nil (filter is_nonempty es)) is ∙ ap (λ xs. same_name e (codes "chunked") && is_nil xs) (sym r) ∙ sym (alone e rest)
coding_first false b e es rest is r h = h

chunked_after : (es : List (List ℕ)) → are_chunked (codings_after Unnamed es) ≡ is_chunked_alone (filter is_nonempty es)
chunked_after [] = refl
chunked_after (e ∷ es) =
    coding_first (is_nonempty e) (same_name e (codes "chunked")) e es (filter is_nonempty es) refl refl (chunked_after es)

-- ---- the whole survey

pub record Tells (s : Survey) (fields : List Field) : Type 0 where
  pub long : s.long_name ≡ has_long_name fields
  pub hosts : s.hosts ≡ length (fields_named (codes "host") fields)
  pub sized : s.has_length ≡ has_field (codes "content-length") fields
  pub declared : declared_by s.lengths ≡ declared_length fields
  pub none : not (are_one s.lengths) ≡ is_none (declared_length fields)
  pub coded : s.has_coding ≡ has_field (codes "transfer-encoding") fields
  pub chunked : are_chunked s.codings ≡ is_chunked_alone (filter is_nonempty (elements_named (codes "transfer-encoding") fields))
  pub removes : s.removes ≡ removes_some fields
  pub close : s.close ≡ has_option (codes "close") fields

pub tells : (fields : List Field) → Tells (survey_of fields) fields
tells fields =
    let declared : declared_by (survey_of fields).lengths ≡ declared_length fields =
    ap declared_by (surveyed_lengths no_survey fields) ∙ declared_after (elements_named (codes "content-length") fields) in
    record {
      long = surveyed_long no_survey fields;
      hosts = surveyed_hosts no_survey fields ∙ zero-add (length (fields_named (codes "host") fields));
      sized = surveyed_sized no_survey fields;
      declared = declared;
      none = none_or_one (survey_of fields).lengths ∙ ap is_none declared;
      coded = surveyed_coded no_survey fields;
      chunked = ap are_chunked (surveyed_codings no_survey fields) ∙ chunked_after (elements_named (codes "transfer-encoding") fields);
      removes = surveyed_removes no_survey fields;
      close = surveyed_close no_survey fields ∙ option_in (codes "close") fields;
    }

same_row : (s : Survey) (p : Parts) → Tells s p.fields → row_of p.method p.minor (fits_target p) s ≡ refusal_of p
same_row s p t = simp (t.long, t.hosts, t.sized, t.none, t.coded, t.chunked) refl

same_response_row : (s : Survey) (p : ResponseParts) → Tells s p.fields → response_row_of p.status p.minor s ≡ response_refusal_of p
same_response_row s p t = simp (t.long, t.sized, t.none, t.coded, t.chunked) refl

pub surveyed_row : (p : Parts) → row_of p.method p.minor (fits_target p) (survey_of p.fields) ≡ refusal_of p
surveyed_row p = same_row (survey_of p.fields) p (tells p.fields)

pub surveyed_response_row : (p : ResponseParts) → response_row_of p.status p.minor (survey_of p.fields) ≡ response_refusal_of p
surveyed_response_row p = same_response_row (survey_of p.fields) p (tells p.fields)
