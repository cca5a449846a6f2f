-- A call that is read can be said again.
use Rattle.std.proofs.Common.{◌≡◌, ℕ, zero, suc, ◌+◌, Bool, true, false, cond, List, [], ◌∷◌, length, take, drop, refl, sym, ap, ◌∙◌, subst, arith}
use Rattle.std.proofs.lemmas.Bool.{and_parts, and_from, or_parts, or_from, or_right, leb-true, le-leb}
use Rattle.std.proofs.lemmas.Bool.Decides.{nat_tests}
use Rattle.std.proofs.lemmas.Iterator.Adapters.{position_from-zero}
use Rattle.std.specs.Prelude.{◌==◌, ◌||◌, ◌&&◌, not, nat_le, position, Option, Some, None, option_map, unwrap_or}
use Rattle.std.specs.List.{list_any, list_all, position_from}
use Rattle.cfg_expr.specs.Calls.{Form, is_blank, is_quote, ends_argument, ends_name, argument, bare_at, quoted_at, stop_in, put, by_stop, behind_argument, arguments, with_arguments, name_len, form_in}
use Rattle.cfg_print.specs.Exprs.{is_bare_byte, begins_quoted}
use Rattle.cfg_laws.specs.Spelled.{is_bare, is_spellable, is_spellable_call, is_whole_name}
use Rattle.cfg_laws.proofs.ReadLemmas.Steps.{Has, has_so}

-- ---- in front of a place

-- the place, and that nothing in front of it passes
abbrev IsFirst : (ℕ → Bool) → (from : ℕ) → List ℕ → (place : ℕ) → Type 0
IsFirst test from text place = (k : ℕ) × (place ≡ from + k) × (list_any test (take k text) ≡ false)

same_place : (i n : ℕ) → Some i ≡ Some n → n ≡ i + 0
same_place i n h = let same : i ≡ n = cc in omega (arith, same)

first_step : (test : ℕ → Bool) (i b : ℕ) (text : List ℕ) (n : ℕ) (t : Bool) → test b ≡ t → (position_from test (i + 1) text ≡ Some n → IsFirst test (i + 1) text n)
    → cond t (Some i) (position_from test (i + 1) text) ≡ Some n → IsFirst test i (b ∷ text) n
first_step test i b text n true is more h = (0, same_place i n h, refl)
first_step test i b text n false is more h =
    let found = more h in
    (suc found.0, omega (arith, found.1), or_from (test b) (list_any test (take found.0 text)) is found.2)

first_place : (test : ℕ → Bool) (i : ℕ) (text : List ℕ) (n : ℕ) → position_from test i text ≡ Some n → IsFirst test i text n
first_place test i [] n h = let never : ⊥ = cc in absurd never
first_place test i (b ∷ text) n h = first_step test i b text n (test b) refl (first_place test (i + 1) text n) h

pub before_place : (test : ℕ → Bool) (text : List ℕ) (n : ℕ) → position test text ≡ Some n → list_any test (take n text) ≡ false
before_place test text n h =
    let found = first_place test 0 text n (sym (position_from-zero test text) ∙ h) in
    let same : n ≡ found.0 = omega (arith, found.1) in
    ap (λ k. list_any test (take k text)) same ∙ found.2

none_step : (test : ℕ → Bool) (i b : ℕ) (text : List ℕ) (t : Bool) → test b ≡ t → (position_from test (i + 1) text ≡ None → list_any test text ≡ false)
    → cond t (Some i) (position_from test (i + 1) text) ≡ None → list_any test (b ∷ text) ≡ false
none_step test i b text true is more h = let never : ⊥ = cc in absurd never
none_step test i b text false is more h = or_from (test b) (list_any test text) is (more h)

none_from : (test : ℕ → Bool) (i : ℕ) (text : List ℕ) → position_from test i text ≡ None → list_any test text ≡ false
none_from test i [] h = refl
none_from test i (b ∷ text) h = none_step test i b text (test b) refl (none_from test (i + 1) text) h

take_whole : (text : List ℕ) → take (length text) text ≡ text
take_whole [] = refl
take_whole (b ∷ text) = ap (λ l. b ∷ l) (take_whole text)

-- ---- an argument

bare_byte : (b : ℕ) → is_blank b ≡ false → ends_argument b ≡ false → is_bare_byte b ≡ true
bare_byte b h i = grind (arith, nat_tests)

bare_bytes : (text : List ℕ) → list_any is_blank text ≡ false → list_any ends_argument text ≡ false → list_all is_bare_byte text ≡ true
bare_bytes [] h i = refl
bare_bytes (b ∷ text) h i =
    let blanks = or_parts (is_blank b) (list_any is_blank text) h in
    let ends = or_parts (ends_argument b) (list_any ends_argument text) i in
    and_from (is_bare_byte b) (list_all is_bare_byte text) (bare_byte b blanks.0 ends.0) (bare_bytes text blanks.1 ends.1)

-- an argument that can be said, whatever is behind it
abbrev said : List ℕ × List ℕ → Bool
said found = is_spellable found.0

no_quote : (b : ℕ) (rest : List ℕ) (at : ℕ) → is_quote b ≡ false → begins_quoted (take at (b ∷ rest)) ≡ false
no_quote b rest zero h = refl
no_quote b rest (suc at) h = h

bare_if : (b : ℕ) (rest behind : List ℕ) (at : ℕ) (t : Bool) → is_quote b ≡ false → list_any ends_argument (take at (b ∷ rest)) ≡ false → list_any is_blank (take at (b ∷ rest)) ≡ t
    → Has said (cond t None (Some (take at (b ∷ rest), behind)))
bare_if b rest behind at true quote ends blanks = tt
bare_if b rest behind at false quote ends blanks =
    let arg = take at (b ∷ rest) in
    let bare : is_bare arg ≡ true = and_from (list_all is_bare_byte arg) (not (begins_quoted arg)) (bare_bytes arg blanks ends) (ap not (no_quote b rest at quote)) in
    ap (λ t. t || not (list_any is_quote arg)) bare

bare_said : (b : ℕ) (rest : List ℕ) (at : Option ℕ) → is_quote b ≡ false → position ends_argument (b ∷ rest) ≡ at → Has said (bare_at (b ∷ rest) at)
bare_said b rest None quote is = tt
bare_said b rest (Some at) quote is = bare_if b rest (drop at (b ∷ rest)) at (list_any is_blank (take at (b ∷ rest))) quote (before_place ends_argument (b ∷ rest) at is) refl

quoted_said : (rest : List ℕ) (at : Option ℕ) → position is_quote rest ≡ at → Has said (quoted_at rest at)
quoted_said rest None is = tt
quoted_said rest (Some at) is =
    let arg = take at rest in
    or_right (is_bare arg) (not (list_any is_quote arg)) (ap not (before_place is_quote rest at is))

argument_if : (b : ℕ) (rest : List ℕ) (t : Bool) → is_quote b ≡ t → Has said (cond t (quoted_at rest (position is_quote rest)) (bare_at (b ∷ rest) (position ends_argument (b ∷ rest))))
argument_if b rest true is = quoted_said rest (position is_quote rest) refl
argument_if b rest false is = bare_said b rest (position ends_argument (b ∷ rest)) is refl

argument_said : (text : List ℕ) → Has said (argument text)
unfolding argument
argument_said [] = tt
argument_said (b ∷ rest) = argument_if b rest (is_quote b) refl

-- ---- arguments

-- so many arguments at most, each of which can be said
abbrev all_said : ℕ → List (List ℕ) × List ℕ → Bool
all_said most found = nat_le (length found.0) most && list_all is_spellable found.0

abbrev Reader : Type 0
Reader = List ℕ → Option (List (List ℕ) × List ℕ)

put_said : (most : ℕ) (arg : List ℕ) (found : Option (List (List ℕ) × List ℕ)) → is_spellable arg ≡ true → Has (all_said most) found → Has (all_said (suc most)) (option_map (put arg) found)
put_said most arg None h all = tt
put_said most arg (Some found) h all =
    let both = and_parts (nat_le (length found.0) most) (list_all is_spellable found.0) all in
    let few = leb-true (length found.0) most both.0 in
    and_from (nat_le (suc (length found.0)) (suc most)) (is_spellable arg && list_all is_spellable found.0) (le-leb (suc (length found.0)) (suc most) (omega arith))
    (and_from (is_spellable arg) (list_all is_spellable found.0) h both.1)

one_said : (most : ℕ) (arg rest : List ℕ) → is_spellable arg ≡ true → Has (all_said (suc most)) (Some (arg ∷ [], rest))
one_said most arg rest h = and_from (nat_le 1 (suc most)) (is_spellable arg && true) (le-leb 1 (suc most) (omega arith)) (and_from (is_spellable arg) true h refl)

comma : (more : Reader) (arg : List ℕ) (b : ℕ) (rest : List ℕ) → (b == 44) ≡ true → by_stop more arg (stop_in (b ∷ rest)) ≡ option_map (put arg) (more rest)
unfolding stop_in
comma more arg b rest h = rw h refl

close : (more : Reader) (arg : List ℕ) (b : ℕ) (rest : List ℕ) → (b == 44) ≡ false → (b == 41) ≡ true → by_stop more arg (stop_in (b ∷ rest)) ≡ Some (arg ∷ [], rest)
unfolding stop_in
close more arg b rest h i = rw h (rw i refl)

other : (more : Reader) (arg : List ℕ) (b : ℕ) (rest : List ℕ) → (b == 44) ≡ false → (b == 41) ≡ false → by_stop more arg (stop_in (b ∷ rest)) ≡ None
unfolding stop_in
other more arg b rest h i = rw h (rw i refl)

by_byte : (most : ℕ) (more : Reader) (arg : List ℕ) (b : ℕ) (rest : List ℕ) (t u : Bool) → (b == 44) ≡ t → (b == 41) ≡ u → is_spellable arg ≡ true → Has (all_said most) (more rest)
    → Has (all_said (suc most)) (by_stop more arg (stop_in (b ∷ rest)))
by_byte most more arg b rest true u h i is all = subst (Has (all_said (suc most))) (sym (comma more arg b rest h)) (put_said most arg (more rest) is all)
by_byte most more arg b rest false true h i is all = subst (Has (all_said (suc most))) (sym (close more arg b rest h i)) (one_said most arg rest is)
by_byte most more arg b rest false false h i is all = subst (Has (all_said (suc most))) (sym (other more arg b rest h i)) tt

stop_said : (most : ℕ) (more : Reader) (arg text : List ℕ) → is_spellable arg ≡ true → ((rest : List ℕ) → Has (all_said most) (more rest)) → Has (all_said (suc most)) (by_stop more arg (stop_in text))
unfolding stop_in
stop_said most more arg [] is all = tt
stop_said most more arg (b ∷ rest) is all = by_byte most more arg b rest (b == 44) (b == 41) refl refl is (all rest)

behind_said : (most : ℕ) (more : Reader) (found : Option (List ℕ × List ℕ)) → Has said found → ((rest : List ℕ) → Has (all_said most) (more rest)) → Has (all_said (suc most)) (behind_argument more found)
behind_said most more None h all = tt
behind_said most more (Some found) h all = stop_said most more found.0 found.1 h all

arguments_said : (most : ℕ) (text : List ℕ) → Has (all_said most) (arguments most text)
arguments_said zero text = tt
arguments_said (suc most) text = behind_said most (arguments most) (argument text) (argument_said text) (arguments_said most)

-- ---- the whole form

-- a form that can be said, with what is behind it
abbrev pub form_said : Form → Bool
form_said form = is_spellable_call (record { name = form.name; arguments = form.args })

-- each of its arguments can be said
pub arguments_of_form : (form : Form) → form_said form ≡ true → list_all is_spellable form.args ≡ true
arguments_of_form form h =
    (and_parts (nat_le (length form.args) 3) (list_all is_spellable form.args) (and_parts (is_whole_name form.name) (nat_le (length form.args) 3 && list_all is_spellable form.args) h).1).1

none_said : (name : List ℕ) → list_any ends_name name ≡ false → (is_whole_name name && true) ≡ true
none_said name h = and_from (is_whole_name name) true (ap not h) refl

some_said : (name : List ℕ) (found : Option (List (List ℕ) × List ℕ)) → list_any ends_name name ≡ false → Has (all_said 3) found
    → Has form_said (option_map (λ found. record { name = name; args = found.0; rest = found.1 }) found)
some_said name None h all = tt
some_said name (Some found) h all = and_from (is_whole_name name) (nat_le (length found.0) 3 && list_all is_spellable found.0) (ap not h) all

bracket_said : (name : List ℕ) (b : ℕ) (rest : List ℕ) (t : Bool) → list_any ends_name name ≡ false
    → Has form_said (cond t (option_map (λ found. record { name = name; args = found.0; rest = found.1 }) (arguments 3 rest)) (Some (record { name = name; args = []; rest = b ∷ rest })))
bracket_said name b rest true h = some_said name (arguments 3 rest) h (arguments_said 3 rest)
bracket_said name b rest false h = none_said name h

with_said : (name text : List ℕ) → list_any ends_name name ≡ false → Has form_said (with_arguments name text)
with_said name [] h = none_said name h
with_said name (b ∷ rest) h = bracket_said name b rest (b == 40) h

name_at : (text : List ℕ) (at : Option ℕ) → position ends_name text ≡ at → list_any ends_name (take (unwrap_or at (length text)) text) ≡ false
name_at text None is = ap (list_any ends_name) (take_whole text) ∙ none_from ends_name 0 text (sym (position_from-zero ends_name text) ∙ is)
name_at text (Some at) is = before_place ends_name text at is

pub form_spelled : (text : List ℕ) → Has form_said (form_in text)
unfolding form_in
form_spelled text = with_said (take (name_len text) text) (drop (name_len text) text) (name_at text (position ends_name text) refl)

pub calls_spelled : (text : List ℕ) (form : Form) → form_in text ≡ Some form → form_said form ≡ true
calls_spelled text form is = has_so form_said (form_in text) form (form_spelled text) is
