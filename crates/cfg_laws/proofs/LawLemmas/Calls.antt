-- Calls as they are spelled, read from left to right.
use Rattle.std.proofs.Common.{◌≡◌, ℕ, zero, suc, ◌+◌, ◌<◌, ◌≤◌, Bool, true, false, cond, List, [], ◌∷◌, ◌++◌, length, take, drop, refl, sym, ap, ◌∙◌, append_assoc, arith}
use Rattle.std.proofs.lemmas.Bool.{false≢true, not-true, leb-true}
use Rattle.std.proofs.lemmas.Bool.Decides.{nat_tests}
use Rattle.std.proofs.lemmas.Iterator.Adapters.{position_from-zero}
use Rattle.std.proofs.lemmas.List.{append-nil}
use Rattle.std.proofs.Math.Seq.{take-append_seam, drop-append_seam, drop-append-add}
use Rattle.std.specs.Prelude.{◌==◌, ◌||◌, ◌&&◌, nat_le, not, position, Option, Some, None, option_map, unwrap_or}
use Rattle.std.specs.List.{list_any, list_all, flat_map, position_from}
use Rattle.cfg_expr.specs.Calls.{is_blank, is_quote, ends_argument, ends_name, argument, bare_at, quoted_at, stop_in, put, by_stop, behind_argument, arguments, with_arguments, form_in}
use Rattle.cfg_print.specs.Exprs.{is_bare_byte, begins_quoted, argument_text, bracketed, Call, call_text}
use Rattle.cfg_laws.specs.Spelled.{is_bare, is_spellable, is_spellable_call, is_whole_name, is_end, ends_call}
use Rattle.cfg_laws.specs.Laws.Calls.{form}
use Rattle.cfg_laws.proofs.LawLemmas.Words.{both_left, both_right}

-- ---- where a byte stands first

either_left : (a b : Bool) → (a || b) ≡ false → a ≡ false
either_left true b h = h
either_left false b h = refl

either_right : (a b : Bool) → (a || b) ≡ false → b ≡ false
either_right true b h = absurd (false≢true (sym h))
either_right false b h = h

first_from : (test : ℕ → Bool) (i : ℕ) (text : List ℕ) (b : ℕ) (rest : List ℕ) → list_any test text ≡ false → test b ≡ true → position_from test i (text ++ b ∷ rest) ≡ Some (i + length text)
first_from test i [] b rest none is =
    let same : i ≡ i + 0 = omega arith in
    ap (λ t. cond t (Some i) (position_from test (i + 1) rest)) is ∙ ap Some same
first_from test i (c ∷ text) b rest none is =
    let same : i + 1 + length text ≡ i + length (c ∷ text) = omega arith in
    ap (λ t. cond t (Some i) (position_from test (i + 1) (text ++ b ∷ rest))) (either_left (test c) (list_any test text) none)
    ∙ first_from test (i + 1) text b rest (either_right (test c) (list_any test text) none) is ∙ ap Some same

pub first_at : (test : ℕ → Bool) (text : List ℕ) (b : ℕ) (rest : List ℕ) → list_any test text ≡ false → test b ≡ true → position test (text ++ b ∷ rest) ≡ Some (length text)
first_at test text b rest none is =
    let same : 0 + length text ≡ length text = omega arith in
    position_from-zero test (text ++ b ∷ rest) ∙ first_from test 0 text b rest none is ∙ ap Some same

none_from : (test : ℕ → Bool) (i : ℕ) (text : List ℕ) → list_any test text ≡ false → position_from test i text ≡ None
none_from test i [] none = refl
none_from test i (c ∷ text) none =
    ap (λ t. cond t (Some i) (position_from test (i + 1) text)) (either_left (test c) (list_any test text) none)
    ∙ none_from test (i + 1) text (either_right (test c) (list_any test text) none)

pub none_at : (test : ℕ → Bool) (text : List ℕ) → list_any test text ≡ false → position test text ≡ None
none_at test text none = position_from-zero test text ∙ none_from test 0 text none

-- none that passes one test passes the other
pub none_of : (good bad : ℕ → Bool) (text : List ℕ) → ((b : ℕ) → good b ≡ true → bad b ≡ false) → list_all good text ≡ true → list_any bad text ≡ false
none_of good bad [] apart h = refl
none_of good bad (b ∷ text) apart h =
    ap (λ t. t || list_any bad text) (apart b (both_left (good b) (list_all good text) h)) ∙ none_of good bad text apart (both_right (good b) (list_all good text) h)

-- ---- an argument

-- no blank
bare_blank : (b : ℕ) → is_bare_byte b ≡ true → is_blank b ≡ false
bare_blank b h = grind (arith, nat_tests)

bare_end : (b : ℕ) → is_bare_byte b ≡ true → ends_argument b ≡ false
bare_end b h = grind (arith, nat_tests)

-- what ends an argument is no quote
end_quote : (b : ℕ) → ends_argument b ≡ true → is_quote b ≡ false
end_quote b h = grind (arith, nat_tests)

unquoted : (text : List ℕ) (s : ℕ) (more : List ℕ) → begins_quoted text ≡ false → ends_argument s ≡ true
    → argument (text ++ s ∷ more) ≡ bare_at (text ++ s ∷ more) (position ends_argument (text ++ s ∷ more))
unfolding argument
unquoted [] s more h ends = ap (λ t. cond t (quoted_at more (position is_quote more)) (bare_at (s ∷ more) (position ends_argument (s ∷ more)))) (end_quote s ends)
unquoted (b ∷ text) s more h ends =
    let rest = text ++ s ∷ more in
    ap (λ t. cond t (quoted_at rest (position is_quote rest)) (bare_at (b ∷ rest) (position ends_argument (b ∷ rest)))) h

-- an argument is read back, with what ends it left
abbrev IsArgument : List ℕ → List ℕ → Type 0
IsArgument arg text = (s : ℕ) (more : List ℕ) → ends_argument s ≡ true → argument (text ++ s ∷ more) ≡ Some (arg, s ∷ more)

-- what is cut where it was joined
cut_bare : (arg more : List ℕ) → list_any is_blank arg ≡ false → bare_at (arg ++ more) (Some (length arg)) ≡ Some (arg, more)
cut_bare arg more h =
    ap (λ front. cond (list_any is_blank front) None (Some (front, drop (length arg) (arg ++ more)))) (take-append_seam arg more)
    ∙ ap (λ t. cond t None (Some (arg, drop (length arg) (arg ++ more)))) h ∙ ap (λ rest. Some (arg, rest)) (drop-append_seam arg more)

bare_argument : (arg : List ℕ) → is_bare arg ≡ true → IsArgument arg arg
bare_argument arg h s more ends =
    let all = both_left (list_all is_bare_byte arg) (not (begins_quoted arg)) h in
    let front = not-true (begins_quoted arg) (both_right (list_all is_bare_byte arg) (not (begins_quoted arg)) h) in
    unquoted arg s more front ends ∙ ap (bare_at (arg ++ s ∷ more)) (first_at ends_argument arg s more (none_of is_bare_byte ends_argument arg bare_end all) ends)
    ∙ cut_bare arg (s ∷ more) (none_of is_bare_byte is_blank arg bare_blank all)

quoted_argument : (arg : List ℕ) → list_any is_quote arg ≡ false → IsArgument arg (39 ∷ arg ++ 39 ∷ [])
unfolding argument
quoted_argument arg h s more ends =
    let rest = arg ++ 39 ∷ s ∷ more in
    ap (λ text. quoted_at text (position is_quote text)) (append_assoc arg (39 ∷ []) (s ∷ more))
    ∙ ap (quoted_at rest) (first_at is_quote arg 39 (s ∷ more) h refl)
    ∙ ap (λ front. Some (front, drop (length arg + 1) rest)) (take-append_seam arg (39 ∷ s ∷ more))
    ∙ ap (λ behind. Some (arg, behind)) (drop-append-add arg (39 ∷ s ∷ more) 1)

by_quotes : (arg : List ℕ) (t : Bool) → is_bare arg ≡ t → is_spellable arg ≡ true → IsArgument arg (cond t arg (39 ∷ arg ++ 39 ∷ []))
by_quotes arg true is h = bare_argument arg is
by_quotes arg false is h =
    let none : not (list_any is_quote arg) ≡ true = sym (ap (λ t. t || not (list_any is_quote arg)) is) ∙ h in
    quoted_argument arg (not-true (list_any is_quote arg) none)

argument_back : (arg : List ℕ) → is_spellable arg ≡ true → IsArgument arg (argument_text arg)
unfolding argument_text
argument_back arg h = by_quotes arg (is_bare arg) refl h

-- ---- arguments

-- an argument behind a comma
abbrev behind_comma : List ℕ → List ℕ
behind_comma arg = 44 ∷ argument_text arg

comma : (others : List ℕ → Option (List (List ℕ) × List ℕ)) (arg more : List ℕ) → by_stop others arg (stop_in (44 ∷ more)) ≡ option_map (put arg) (others more)
unfolding stop_in
comma others arg more = refl

close : (others : List ℕ → Option (List (List ℕ) × List ℕ)) (arg more : List ℕ) → by_stop others arg (stop_in (41 ∷ more)) ≡ Some (arg ∷ [], more)
unfolding stop_in
close others arg more = refl

arguments_back : (most : ℕ) (arg : List ℕ) (others : List (List ℕ)) (rest : List ℕ) → length others < most → list_all is_spellable (arg ∷ others) ≡ true
    → arguments most (argument_text arg ++ (flat_map behind_comma others ++ 41 ∷ rest)) ≡ Some (arg ∷ others, rest)
arguments_back zero arg others rest few h = absurd (omega arith)
arguments_back (suc most) arg [] rest few h =
    ap (behind_argument (arguments most)) (argument_back arg (both_left (is_spellable arg) true h) 41 rest refl)
    ∙ close (arguments most) arg rest
arguments_back (suc most) arg (other ∷ others) rest few h =
    let more = argument_text other ++ (flat_map behind_comma others ++ 41 ∷ rest) in
    let joined = append_assoc (argument_text other) (flat_map behind_comma others) (41 ∷ rest) in
    ap (λ text. arguments (suc most) (argument_text arg ++ 44 ∷ text)) joined
    ∙ ap (behind_argument (arguments most)) (argument_back arg (both_left (is_spellable arg) (list_all is_spellable (other ∷ others)) h) 44 more refl)
    ∙ comma (arguments most) arg more
    ∙ ap (option_map (put arg)) (arguments_back most other others rest (omega arith) (both_right (is_spellable arg) (list_all is_spellable (other ∷ others)) h))

-- ---- the whole form

-- a name that ends here
ends_at : (name : List ℕ) (b : ℕ) (rest : List ℕ) → list_any ends_name name ≡ false → ends_name b ≡ true → form_in (name ++ b ∷ rest) ≡ with_arguments name (b ∷ rest)
unfolding form_in
ends_at name b rest none is =
    let text = name ++ b ∷ rest in
    ap (λ at. with_arguments (take (unwrap_or at (length text)) text) (drop (unwrap_or at (length text)) text)) (first_at ends_name name b rest none is)
    ∙ ap (λ front. with_arguments front (drop (length name) text)) (take-append_seam name (b ∷ rest))
    ∙ ap (with_arguments name) (drop-append_seam name (b ∷ rest))

ends_with : (name : List ℕ) → list_any ends_name name ≡ false → form_in (name ++ []) ≡ with_arguments name []
unfolding form_in
ends_with name none =
    ap form_in (append-nil name)
    ∙ ap (λ at. with_arguments (take (unwrap_or at (length name)) name) (drop (unwrap_or at (length name)) name)) (none_at ends_name name none)
    ∙ ap (λ front. with_arguments front (drop (length name) name)) (sym (ap (take (length name)) (append-nil name)) ∙ take-append_seam name [])
    ∙ ap (with_arguments name) (sym (ap (drop (length name)) (append-nil name)) ∙ drop-append_seam name [])

end_name : (b : ℕ) → (b == 44 || b == 93) ≡ true → ends_name b ≡ true
end_name b h = grind (arith, nat_tests)

end_bracket : (b : ℕ) → (b == 44 || b == 93) ≡ true → (b == 40) ≡ false
end_bracket b h = grind (arith, nat_tests)

no_arguments : (name rest : List ℕ) → list_any ends_name name ≡ false → is_end rest ≡ true → form_in (name ++ rest) ≡ Some (record { name = name; args = []; rest = rest })
no_arguments name [] none ends = ends_with name none
no_arguments name (b ∷ rest) none ends =
    ends_at name b rest none (end_name b ends)
    ∙ ap (λ t. cond t (option_map (λ found. record { name = name; args = found.0; rest = found.1 }) (arguments 3 rest)) (Some (record { name = name; args = []; rest = b ∷ rest }))) (end_bracket b ends)

some_arguments : (name arg : List ℕ) (others : List (List ℕ)) (rest : List ℕ) → list_any ends_name name ≡ false → length others < 3 → list_all is_spellable (arg ∷ others) ≡ true
    → form_in ((name ++ bracketed (arg ∷ others)) ++ rest) ≡ Some (record { name = name; args = arg ∷ others; rest = rest })
some_arguments name arg others rest none few h =
    let front = argument_text arg in
    let behind = flat_map behind_comma others in
    let joined = append_assoc (front ++ behind) (41 ∷ []) rest ∙ append_assoc front behind (41 ∷ rest) in
    ap form_in (append_assoc name (bracketed (arg ∷ others)) rest ∙ ap (λ text. name ++ 40 ∷ text) joined)
    ∙ ends_at name 40 (front ++ (behind ++ 41 ∷ rest)) none refl
    ∙ ap (option_map (λ (found : List (List ℕ) × List ℕ). record { name = name; args = found.0; rest = found.1 })) (arguments_back 3 arg others rest few h)

by_arguments : (name : List ℕ) (args : List (List ℕ)) (rest : List ℕ) → list_any ends_name name ≡ false → length args ≤ 3 → list_all is_spellable args ≡ true → ends_call args rest ≡ true
    → form_in ((name ++ bracketed args) ++ rest) ≡ Some (record { name = name; args = args; rest = rest })
by_arguments name [] rest none few h ends = ap (λ text. form_in (text ++ rest)) (append-nil name) ∙ no_arguments name rest none ends
by_arguments name (arg ∷ others) rest none few h ends = some_arguments name arg others rest none (omega arith) h

-- a call is read back
pub call_back : (call : Call) (rest : List ℕ) → is_spellable_call call ≡ true → ends_call call.arguments rest ≡ true → form_in (call_text call ++ rest) ≡ Some (form call rest)
call_back call rest h ends =
    let more = both_right (is_whole_name call.name) (nat_le (length call.arguments) 3 && list_all is_spellable call.arguments) h in
    by_arguments call.name call.arguments rest
    (not-true (list_any ends_name call.name) (both_left (is_whole_name call.name) (nat_le (length call.arguments) 3 && list_all is_spellable call.arguments) h))
    (leb-true (length call.arguments) 3 (both_left (nat_le (length call.arguments) 3) (list_all is_spellable call.arguments) more))
    (both_right (nat_le (length call.arguments) 3) (list_all is_spellable call.arguments) more) ends

-- ---- what can be said

-- an argument without quotes
pub bare_spellable : (arg : List ℕ) → is_bare arg ≡ true → is_spellable arg ≡ true
bare_spellable arg h = ap (λ t. t || not (list_any is_quote arg)) h

-- what ends all calls ends this one
pub ends_any : (arguments : List (List ℕ)) (rest : List ℕ) → is_end rest ≡ true → ends_call arguments rest ≡ true
ends_any [] rest h = h
ends_any (argument ∷ others) rest h = refl
