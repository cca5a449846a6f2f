-- A converter that is read can be said again.
use Rattle.std.proofs.Common.{◌≡◌, ℕ, ℤ, pos, zero, suc, ◌+◌, Bool, true, false, cond, List, [], ◌∷◌, ◌++◌, length, drop, refl, ◌∙◌, length-append, arith}
use Rattle.std.proofs.lemmas.Bool.{and_parts, and_from, le-leb}
use Rattle.std.proofs.lemmas.List.Folds.{list_all-append}
use Rattle.std.specs.Prelude.{◌&&◌, nat_le, Option, Some, None, Ok, Err, codes}
use Rattle.std.specs.List.{list_all}
use Rattle.std.specs.Str.{bytes_eq}
use Rattle.px_conv.specs.declared.conv.Conv.{Conv}
use Rattle.px_conv.specs.declared.conv.Conv.TheVariants as convs
use Rattle.cfg_expr.specs.declared.fault.TextKind.TheVariants as kinds
use Rattle.cfg_expr.specs.Steps as steps
use Rattle.cfg_expr.specs.Reading.{plain, ◌>>=◌}
use Rattle.cfg_expr.specs.Faults.{TextReading}
use Rattle.cfg_expr.specs.Calls.{Form, form_in}
use Rattle.cfg_expr.specs.Fetches.{number, count}
use Rattle.cfg_expr.specs.Convs.{bare_conv, conv_with_one, conv_with_two, conv_with_three, plain_conv, flags_of, Replacing, replacing, replacing_of}
use Rattle.cfg_expr.specs.Exprs.{replaced, conv_of, conv_of_form, conv_at, goes_on, most_convs, convs_from, convs_at}
use Rattle.cfg_laws.specs.Spelled.{is_spellable, is_within, is_count, is_spelled_conv}
use Rattle.cfg_laws.proofs.ReadLemmas.Steps.{Has, Gives, gives_so, gives_then, gives_behind, any, gives_any, expected_gives, reads_either, first_gives, first_has}
use Rattle.cfg_laws.proofs.ReadLemmas.Calls.{form_said, form_spelled, arguments_of_form}
use Rattle.cfg_laws.proofs.ReadLemmas.Fetches.{number_gives, count_gives}

-- ---- by a name and arguments

bare_has : (name : List ℕ) → Has is_spelled_conv (bare_conv name)
unfolding bare_conv is_spelled_conv
bare_has name = first_has is_spelled_conv (
    (bytes_eq name (codes "lower"), convs.Lower) ∷ (bytes_eq name (codes "upper"), convs.Upper) ∷ (bytes_eq name (codes "length"), convs.Length)
    ∷ (bytes_eq name (codes "neg"), convs.Neg) ∷ (bytes_eq name (codes "not"), convs.Not) ∷ (bytes_eq name (codes "bool"), convs.Bool)
    ∷ (bytes_eq name (codes "base64"), convs.Base64) ∷ (bytes_eq name (codes "hex"), convs.Hex) ∷ (bytes_eq name (codes "url_dec"), convs.UrlDec) ∷ []
    ) refl

-- a converter of a number
number_conv : (make : ℤ → Conv) (arg : List ℕ) → ((n : ℤ) → is_spelled_conv (make n) ≡ is_within n) → Gives is_spelled_conv (steps.◌>>=◌ (number arg) (λ n. Ok (make n)))
number_conv make arg of = gives_then is_within is_spelled_conv (number arg) (λ n. Ok (make n)) (number_gives arg) (λ n is. of n ∙ is)

one_gives : (name arg : List ℕ) → Gives is_spelled_conv (conv_with_one name arg)
unfolding conv_with_one is_spelled_conv
one_gives name arg =
    let bytes = λ (n : ℤ). Ok (convs.Bytes n None) in
    let add = λ (n : ℤ). convs.Add n in
    let sub = λ (n : ℤ). convs.Sub n in
    let mul = λ (n : ℤ). convs.Mul n in
    let div = λ (n : ℤ). convs.Div n in
    let rem = λ (n : ℤ). convs.Mod n in
    first_gives is_spelled_conv (
    (bytes_eq name (codes "bytes"), steps.◌>>=◌ (count arg) bytes) ∷ (bytes_eq name (codes "add"), steps.◌>>=◌ (number arg) (λ n. Ok (add n)))
    ∷ (bytes_eq name (codes "sub"), steps.◌>>=◌ (number arg) (λ n. Ok (sub n))) ∷ (bytes_eq name (codes "mul"), steps.◌>>=◌ (number arg) (λ n. Ok (mul n)))
    ∷ (bytes_eq name (codes "div"), steps.◌>>=◌ (number arg) (λ n. Ok (div n))) ∷ (bytes_eq name (codes "mod"), steps.◌>>=◌ (number arg) (λ n. Ok (rem n))) ∷ []
    ) (gives_then is_count is_spelled_conv (count arg) bytes (count_gives arg) (λ n is. and_from (is_count n) true is refl), (number_conv add arg (λ n. refl), (number_conv sub arg (λ n. refl), (number_conv mul arg (λ n. refl), (number_conv div arg (λ n. refl), (number_conv rem arg (λ n. refl), tt))))))

-- a converter of a number and separators, and of one piece or of a number of pieces
abbrev IsPieces : (ℤ → List ℕ → ℤ → Conv) → Type 0
IsPieces make = (index : ℤ) (separators : List ℕ) (n : ℤ) → is_spelled_conv (make index separators n) ≡ (is_within index && (is_spellable separators && is_count n))

one_piece : (make : ℤ → List ℕ → ℤ → Conv) (first second : List ℕ) → IsPieces make → is_spellable second ≡ true → Gives is_spelled_conv (steps.◌>>=◌ (number first) (λ index. Ok (make index second (pos 1))))
one_piece make first second of h = gives_then is_within is_spelled_conv (number first) (λ index. Ok (make index second (pos 1))) (number_gives first)
    (λ index is. of index second (pos 1) ∙ and_from (is_within index) (is_spellable second && true) is (and_from (is_spellable second) true h refl))

pieces : (make : ℤ → List ℕ → ℤ → Conv) (first second third : List ℕ) → IsPieces make → is_spellable second ≡ true
    → Gives is_spelled_conv (steps.◌>>=◌ (number first) (λ index. steps.◌>>=◌ (count third) (λ n. Ok (make index second n))))
pieces make first second third of h = gives_then is_within is_spelled_conv (number first) (λ index. steps.◌>>=◌ (count third) (λ n. Ok (make index second n))) (number_gives first)
    (λ index is. gives_then is_count is_spelled_conv (count third) (λ n. Ok (make index second n)) (count_gives third)
    (λ n are. of index second n ∙ and_from (is_within index) (is_spellable second && is_count n) is (and_from (is_spellable second) (is_count n) h are)))

two_gives : (name first second : List ℕ) → is_spellable first ≡ true → is_spellable second ≡ true → Gives is_spelled_conv (conv_with_two name first second)
unfolding conv_with_two is_spelled_conv
two_gives name first second h i =
    let len_of = λ (offset : ℤ) (len : ℤ). Ok (convs.Bytes offset (Some len)) in
    let bytes = λ (offset : ℤ). steps.◌>>=◌ (count second) (len_of offset) in
    let field = λ (index : ℤ) (separators : List ℕ) (n : ℤ). convs.Field index separators n in
    let word = λ (index : ℤ) (separators : List ℕ) (n : ℤ). convs.Word index separators n in
    first_gives is_spelled_conv (
    (bytes_eq name (codes "bytes"), steps.◌>>=◌ (count first) bytes)
    ∷ (bytes_eq name (codes "field"), steps.◌>>=◌ (number first) (λ index. Ok (field index second (pos 1))))
    ∷ (bytes_eq name (codes "word"), steps.◌>>=◌ (number first) (λ index. Ok (word index second (pos 1))))
    ∷ (bytes_eq name (codes "iif"), Ok (convs.Iif first second)) ∷ []
    ) (
      gives_then is_count is_spelled_conv (count first) bytes (count_gives first)
          (λ offset is. gives_then is_count is_spelled_conv (count second) (len_of offset) (count_gives second) (λ len are. and_from (is_count offset) (is_count len) is are)),
      (one_piece field first second (λ index separators n. refl) i, (one_piece word first second (λ index separators n. refl) i, (and_from (is_spellable first) (is_spellable second) h i, tt))),
    )

three_gives : (name first second third : List ℕ) → is_spellable second ≡ true → Gives is_spelled_conv (conv_with_three name first second third)
unfolding conv_with_three is_spelled_conv
three_gives name first second third h =
    let field = λ (index : ℤ) (separators : List ℕ) (n : ℤ). convs.Field index separators n in
    let word = λ (index : ℤ) (separators : List ℕ) (n : ℤ). convs.Word index separators n in
    first_gives is_spelled_conv (
    (bytes_eq name (codes "field"), steps.◌>>=◌ (number first) (λ index. steps.◌>>=◌ (count third) (λ n. Ok (field index second n))))
    ∷ (bytes_eq name (codes "word"), steps.◌>>=◌ (number first) (λ index. steps.◌>>=◌ (count third) (λ n. Ok (word index second n)))) ∷ []
    ) (pieces field first second third (λ index separators n. refl) h, (pieces word first second third (λ index separators n. refl) h, tt))

plain_gives : (name : List ℕ) (args : List (List ℕ)) → list_all is_spellable args ≡ true → Gives is_spelled_conv (plain_conv name args)
unfolding plain_conv
plain_gives name [] h = expected_gives is_spelled_conv (bare_conv name) (bare_has name)
plain_gives name (arg ∷ []) h = one_gives name arg
plain_gives name (first ∷ second ∷ []) h =
    let both = and_parts (is_spellable first) (is_spellable second && true) h in
    two_gives name first second both.0 (and_parts (is_spellable second) true both.1).0
plain_gives name (first ∷ second ∷ third ∷ []) h =
    let both = and_parts (is_spellable first) (list_all is_spellable (second ∷ third ∷ [])) h in
    three_gives name first second third (and_parts (is_spellable second) (list_all is_spellable (third ∷ [])) both.1).0
plain_gives name (first ∷ second ∷ third ∷ fourth ∷ others) h = tt

-- ---- regsub

abbrev replacing_said : Replacing → Bool
replacing_said parts = is_spellable parts.pattern.text && is_spellable parts.template

letters_give : (text template letters : List ℕ) → (is_spellable text && is_spellable template) ≡ true → Gives replacing_said (steps.◌>>=◌ (flags_of letters) (λ flags. Ok (replacing text template flags)))
letters_give text template letters h = gives_then any replacing_said (flags_of letters) (λ flags. Ok (replacing text template flags)) (gives_any (flags_of letters)) (λ flags is. h)

replacing_gives : (args : List (List ℕ)) → list_all is_spellable args ≡ true → Gives replacing_said (replacing_of args)
unfolding replacing_of
replacing_gives [] h = tt
replacing_gives (text ∷ []) h = tt
replacing_gives (text ∷ template ∷ []) h =
    let both = and_parts (is_spellable text) (is_spellable template && true) h in
    and_from (is_spellable text) (is_spellable template) both.0 (and_parts (is_spellable template) true both.1).0
replacing_gives (text ∷ template ∷ letters ∷ []) h =
    let both = and_parts (is_spellable text) (list_all is_spellable (template ∷ letters ∷ [])) h in
    letters_give text template letters (and_from (is_spellable text) (is_spellable template) both.0 (and_parts (is_spellable template) (list_all is_spellable (letters ∷ [])) both.1).0)
replacing_gives (text ∷ template ∷ letters ∷ other ∷ others) h = tt

replaced_gives : (parts : Replacing) → replacing_said parts ≡ true → Gives is_spelled_conv (replaced parts).gives
unfolding is_spelled_conv
replaced_gives parts h = h

-- ---- converters

pub conv_gives : (name : List ℕ) (args : List (List ℕ)) → list_all is_spellable args ≡ true → Gives is_spelled_conv (conv_of name args).gives
unfolding conv_of
conv_gives name args h =
    reads_either is_spelled_conv (bytes_eq name (codes "regsub")) (plain (replacing_of args) >>= replaced) (plain (plain_conv name args))
    (gives_behind replacing_said is_spelled_conv (replacing_of args) replaced (replacing_gives args h) replaced_gives) (plain_gives name args h)

-- a converter that can be said, whatever is behind it
abbrev conv_said : Conv × List ℕ → Bool
conv_said found = is_spelled_conv found.0

form_gives : (found : Option Form) → Has form_said found → Gives conv_said (conv_of_form found).gives
form_gives None h = tt
form_gives (Some form) h =
    gives_behind is_spelled_conv conv_said (conv_of form.name form.args).gives (λ conv. plain (Ok (conv, form.rest))) (conv_gives form.name form.args (arguments_of_form form h)) (λ conv is. is)

at_gives : (text : List ℕ) → Gives conv_said (conv_at text).gives
unfolding conv_at
at_gives text = form_gives (form_in text) (form_spelled text)

-- converters that can be said, and not too many
abbrev pub are_convs : List Conv → Bool
are_convs list = list_all is_spelled_conv list && nat_le (length list) most_convs

abbrev pub convs_said : List Conv × List ℕ → Bool
convs_said found = are_convs found.0

these : (most : ℕ) (so_far : List Conv) → list_all is_spelled_conv so_far ≡ true → length so_far + most ≡ 16 → are_convs so_far ≡ true
these most so_far h count = and_from (list_all is_spelled_conv so_far) (nat_le (length so_far) most_convs) h (le-leb (length so_far) 16 (omega (arith, count)))

abbrev these_found : List Conv → List ℕ → TextReading (List Conv × List ℕ)
these_found so_far text = plain (Ok (so_far, text))

last_gives : (t : Bool) (so_far : List Conv) (text : List ℕ) → are_convs so_far ≡ true → Gives convs_said (cond t (plain (Err kinds.Limit)) (these_found so_far text)).gives
last_gives true so_far text h = tt
last_gives false so_far text h = h

pub from_gives : (most : ℕ) (so_far : List Conv) (text : List ℕ) → list_all is_spelled_conv so_far ≡ true → length so_far + most ≡ 16 → Gives convs_said (convs_from most so_far text).gives
unfolding convs_from
from_gives zero so_far text h count = last_gives (goes_on 44 text) so_far text (these zero so_far h count)
from_gives (suc most) so_far text h count =
    let next = λ (found : Conv × List ℕ). convs_from most (so_far ++ found.0 ∷ []) found.1 in
    reads_either convs_said (goes_on 44 text) (conv_at (drop 1 text) >>= next) (plain (Ok (so_far, text)))
    (gives_behind conv_said convs_said (conv_at (drop 1 text)).gives next (at_gives (drop 1 text))
    (λ found is. from_gives most (so_far ++ found.0 ∷ []) found.1
    (list_all-append is_spelled_conv so_far (found.0 ∷ []) ∙ and_from (list_all is_spelled_conv so_far) (is_spelled_conv found.0 && true) h (and_from (is_spelled_conv found.0) true is refl))
    (simp length-append (omega (arith, count)))))
    (these (suc most) so_far h count)

pub convs_give : (text : List ℕ) → Gives convs_said (convs_at text).gives
convs_give text = from_gives 16 [] text refl refl

-- ---- as laws

pub convs_spelled : (name : List ℕ) (args : List (List ℕ)) (conv : Conv) → list_all is_spellable args ≡ true → (conv_of name args).gives ≡ Ok conv → is_spelled_conv conv ≡ true
convs_spelled name args conv h is = gives_so is_spelled_conv (conv_of name args).gives conv (conv_gives name args h) is
