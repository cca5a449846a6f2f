-- Times, filters and paths that are read can be said again.
use Rattle.std.proofs.Common.{◌≡◌, ℕ, ◌+◌, ◌*◌, ◌/◌, ◌^◌, ◌≤◌, ◌<◌, Bool, true, false, cond, List, [], ◌∷◌, length, take, drop, Result, Ok, Err, refl, ap, ◌∙◌, arith}
use Rattle.std.proofs.lemmas.Bool.{and_parts, leb-true, le-leb, lt-ltb}
use Rattle.std.proofs.lemmas.Str.Parse.{IsNumeralModel, numerals_by_value, tells_all_ascii_digits, digits_value_short}
use Rattle.std.specs.Prelude.{◌&&◌, nat_le, min, Option, Some, None, codes}
use Rattle.std.specs.Char.{is_ascii_digit}
use Rattle.std.specs.List.{list_all, prefix_len}
use Rattle.std.specs.Str.{bytes_eq, all_ascii_digits}
use Rattle.std.specs.Str.Parse.{digits_value}
use Rattle.body_filter.specs.declared.filter_spec.FilterSpec.{FilterSpec}
use Rattle.body_filter.specs.declared.filter_spec.FilterSpec.TheVariants.{Limit, Deny, Replace}
use Rattle.http_rules.specs.Valid.{IsPath, IsScript}
use Rattle.cfg_expr.specs.declared.side.Side.{Side}
use Rattle.cfg_parse.specs.declared.fault.CfgKind.TheVariants.{Argument}
use Rattle.cfg_parse.specs.Limits.{most_digits, most_needle, most_path}
use Rattle.cfg_parse.specs.Reading.{◌>>=◌, argument, no_more}
use Rattle.cfg_parse.specs.Numbers.{number_up_to, most_time, most_count, unit_of, times_unit, in_milliseconds, time_of}
use Rattle.cfg_parse.specs.Applications.{path_of, last_path, begins_with_slash, script_of}
use Rattle.cfg_parse.specs.Filters.{filter_name_of, named_side, counted, count_of, text_of, limit_filter, deny_filter, replace_filter, named_filter, filter_line}
use Rattle.cfg_laws.specs.SpelledSettings.{is_time}
use Rattle.cfg_laws.specs.Laws.ReadSettings.{CanSayFilter}
use Rattle.cfg_laws.proofs.ReadLemmas.Steps.{GivesSo, so_given}
use Rattle.cfg_laws.proofs.ReadLemmas.SettingSteps.{so_step, so_if, so_either}

-- ---- times

abbrev IsTime : ℕ → Type 0
IsTime time = is_time time ≡ true

at_most : (n : ℕ) → IsTime (min n most_time)
at_most n = le-leb (min n most_time) most_time (omega arith)

in_unit : (unit : Option ℕ) (count : ℕ) → GivesSo IsTime (times_unit unit count)
in_unit None count = tt
in_unit (Some length) count = at_most (count * length)

milliseconds : (unit : List ℕ) (count : ℕ) → GivesSo IsTime (in_milliseconds unit count)
unfolding in_milliseconds
milliseconds unit count =
    so_either IsTime (bytes_eq unit (codes "us")) (Ok (min ((count + 999) / 1000) most_time)) (times_unit (unit_of unit) count)
    (λ h. at_most ((count + 999) / 1000)) (λ h. in_unit (unit_of unit) count)

time_said : (word : List ℕ) → GivesSo IsTime (time_of word)
unfolding time_of
time_said word =
    let at = prefix_len is_ascii_digit word in
    so_step IsTime (number_up_to most_count (take at word)) (λ count. in_milliseconds (drop at word) count) (λ count is. milliseconds (drop at word) count)

pub times_spelled : (word : List ℕ) (time : ℕ) → time_of word ≡ Ok time → is_time time ≡ true
times_spelled word time is = so_given IsTime (time_of word) time (time_said word) is

-- ---- paths

path_said : (word : List ℕ) → GivesSo IsPath (path_of word)
unfolding path_of
path_said word =
    so_if IsPath (nat_le 1 (length word) && nat_le (length word) most_path) Argument (Ok word)
    (λ h. let both = and_parts (nat_le 1 (length word)) (nat_le (length word) most_path) h in
    record { some = leb-true 1 (length word) both.0; short = leb-true (length word) most_path both.1 })

last_said : (arguments : List (List ℕ)) → GivesSo IsPath (last_path arguments)
unfolding last_path
last_said arguments =
    so_step IsPath (argument arguments) (λ word. path_of word.0 >>= λ path. no_more word.1 >>= λ ended. Ok path)
    (λ word a. so_step IsPath (path_of word.0) (λ path. no_more word.1 >>= λ ended. Ok path)
    (λ path b. so_step IsPath (no_more word.1) (λ ended. Ok path) (λ ended c. so_given IsPath (path_of word.0) path (path_said word.0) b)))

pub paths_spelled : (arguments : List (List ℕ)) (path : List ℕ) → last_path arguments ≡ Ok path → IsPath path
paths_spelled arguments path is = so_given IsPath (last_path arguments) path (last_said arguments) is

slash_taken : (path : List ℕ) → begins_with_slash path ≡ true → bytes_eq (take 1 path) (codes "/") ≡ true
slash_taken [] h = absurd cc
slash_taken (b ∷ path) h = ap (λ t. t && true) h

script_said : (arguments : List (List ℕ)) → GivesSo IsScript (script_of arguments)
unfolding script_of
script_said arguments =
    so_step IsScript (last_path arguments) (λ file. cond (begins_with_slash file) (Ok file) (Err Argument))
    (λ file is. so_if IsScript (begins_with_slash file) Argument (Ok file)
    (λ slash. record { file = paths_spelled arguments file is; slash = slash_taken file slash }))

pub scripts_spelled : (arguments : List (List ℕ)) (path : List ℕ) → script_of arguments ≡ Ok path → IsScript path
scripts_spelled arguments path is = so_given IsScript (script_of arguments) path (script_said arguments) is

-- ---- numbers of bytes

own : IsNumeralModel (λ ds. all_ascii_digits ds ≡ true) (digits_value 10)
own = numerals_by_value (λ ds. all_ascii_digits ds ≡ true) tells_all_ascii_digits

each_digit : (ds : List ℕ) → list_all is_ascii_digit ds ≡ true → all_ascii_digits ds ≡ true
each_digit [] h = refl
each_digit (d ∷ ds) h =
    let both = and_parts (is_ascii_digit d) (list_all is_ascii_digit ds) h in
    ap (λ t. t && all_ascii_digits ds) both.0 ∙ each_digit ds both.1

abbrev IsCount : ℕ → Type 0
IsCount n = n < 10 ^ most_digits

count_if : (word : List ℕ) (t : Bool) → (nat_le 1 (length word) && nat_le (length word) most_digits && list_all is_ascii_digit word) ≡ t → GivesSo IsCount (counted (cond t (Some (digits_value 10 word)) None))
count_if word false is = tt
count_if word true is =
    let some : Bool = nat_le 1 (length word) in
    let few : Bool = nat_le (length word) most_digits in
    let digits : Bool = list_all is_ascii_digit word in
    let both = and_parts (some && few) digits is in
    let sizes = and_parts some few both.0 in
    digits_value_short own word most_digits (each_digit word both.1) (leb-true (length word) most_digits sizes.1)

count_said : (word : List ℕ) → GivesSo IsCount (count_of word)
unfolding count_of
count_said word = count_if word (nat_le 1 (length word) && nat_le (length word) most_digits && list_all is_ascii_digit word) refl

-- ---- texts

-- a text of at least so many bytes, that is no longer than a needle may be
abbrev IsText : ℕ → List ℕ → Type 0
IsText least text = (least ≤ length text) × (length text ≤ most_needle)

text_said : (least : ℕ) (word : List ℕ) → GivesSo (IsText least) (text_of least word)
unfolding text_of
text_said least word =
    so_if (IsText least) (nat_le least (length word) && nat_le (length word) most_needle) Argument (Ok word)
    (λ h. let both = and_parts (nat_le least (length word)) (nat_le (length word) most_needle) h in
    (leb-true least (length word) both.0, leb-true (length word) most_needle both.1))

text_is : (least : ℕ) (word text : List ℕ) → text_of least word ≡ Ok text → IsText least text
text_is least word text is = so_given (IsText least) (text_of least word) text (text_said least word) is

-- ---- filters

limit_said : (arguments : List (List ℕ)) → GivesSo CanSayFilter (limit_filter arguments)
unfolding limit_filter
limit_said arguments =
    so_step CanSayFilter (argument arguments) (λ word. count_of word.0 >>= λ most. no_more word.1 >>= λ ended. Ok (Limit most))
    (λ word a. so_step CanSayFilter (count_of word.0) (λ most. no_more word.1 >>= λ ended. Ok (Limit most))
    (λ most b. so_step CanSayFilter (no_more word.1) (λ ended. Ok (Limit most))
    (λ ended c. record { good = tt; said = lt-ltb most (10 ^ most_digits) (so_given IsCount (count_of word.0) most (count_said word.0) b) })))

deny_said : (arguments : List (List ℕ)) → GivesSo CanSayFilter (deny_filter arguments)
unfolding deny_filter
deny_said arguments =
    so_step CanSayFilter (argument arguments) (λ word. text_of 1 word.0 >>= λ needle. no_more word.1 >>= λ ended. Ok (Deny needle))
    (λ word a. so_step CanSayFilter (text_of 1 word.0) (λ needle. no_more word.1 >>= λ ended. Ok (Deny needle))
    (λ needle b. so_step CanSayFilter (no_more word.1) (λ ended. Ok (Deny needle))
    (λ ended c. let text = text_is 1 word.0 needle b in record { good = (omega (arith, text.0), text.1); said = refl })))

replace_said : (arguments : List (List ℕ)) → GivesSo CanSayFilter (replace_filter arguments)
unfolding replace_filter
replace_said arguments =
    so_step CanSayFilter (argument arguments) (λ first. text_of 1 first.0 >>= λ from. argument first.1 >>= λ second. text_of 0 second.0 >>= λ to. no_more second.1 >>= λ ended. Ok (Replace from to))
    (λ first a. so_step CanSayFilter (text_of 1 first.0) (λ from. argument first.1 >>= λ second. text_of 0 second.0 >>= λ to. no_more second.1 >>= λ ended. Ok (Replace from to))
    (λ from b. so_step CanSayFilter (argument first.1) (λ second. text_of 0 second.0 >>= λ to. no_more second.1 >>= λ ended. Ok (Replace from to))
    (λ second c. so_step CanSayFilter (text_of 0 second.0) (λ to. no_more second.1 >>= λ ended. Ok (Replace from to))
    (λ to d. so_step CanSayFilter (no_more second.1) (λ ended. Ok (Replace from to))
    (λ ended e. let needle = text_is 1 first.0 from b in let put = text_is 0 second.0 to d in record { good = (omega (arith, needle.0), needle.1, put.1); said = refl })))))

-- the type of a filter's name is private to its crate
abbrev GivenIn : {K A : Type 0} → Result A K → Type 0
GivenIn {K} {A} told = A

abbrev FilterName : Type 0
FilterName = GivenIn (filter_name_of [])

-- the filter of this name can be said, whatever stands behind it
abbrev CanSayNamed : List (List ℕ) → FilterName → Type 0
CanSayNamed arguments name = GivesSo CanSayFilter (named_filter name arguments)

name_said : (word : List ℕ) (arguments : List (List ℕ)) → GivesSo (CanSayNamed arguments) (filter_name_of word)
unfolding filter_name_of
name_said word arguments =
    so_either (CanSayNamed arguments) (bytes_eq word (codes "body-limit")) _ _ (λ a. limit_said arguments)
    (λ a. so_either (CanSayNamed arguments) (bytes_eq word (codes "body-deny")) _ _ (λ b. deny_said arguments)
    (λ b. so_either (CanSayNamed arguments) (bytes_eq word (codes "body-replace")) _ _ (λ c. replace_said arguments) (λ c. tt)))

-- the filter of a line, beside its side
abbrev CanSayTaken : Side × FilterSpec → Type 0
CanSayTaken taken = CanSayFilter taken.1

line_said : (arguments : List (List ℕ)) → GivesSo CanSayTaken (filter_line arguments)
unfolding filter_line
line_said arguments =
    so_step CanSayTaken (argument arguments) (λ first. filter_name_of first.0 >>= λ name. argument first.1 >>= λ second. named_side second.0 >>= λ side. named_filter name second.1 >>= λ filter. Ok (side, filter))
    (λ first a. so_step CanSayTaken (filter_name_of first.0) (λ name. argument first.1 >>= λ second. named_side second.0 >>= λ side. named_filter name second.1 >>= λ filter. Ok (side, filter))
    (λ name b. so_step CanSayTaken (argument first.1) (λ second. named_side second.0 >>= λ side. named_filter name second.1 >>= λ filter. Ok (side, filter))
    (λ second c. so_step CanSayTaken (named_side second.0) (λ side. named_filter name second.1 >>= λ filter. Ok (side, filter))
    (λ side d. so_step CanSayTaken (named_filter name second.1) (λ filter. Ok (side, filter))
    (λ filter e. so_given CanSayFilter (named_filter name second.1) filter (so_given (CanSayNamed second.1) (filter_name_of first.0) name (name_said first.0 second.1) b) e)))))

pub filters_spelled : (arguments : List (List ℕ)) (taken : Side × FilterSpec) → filter_line arguments ≡ Ok taken → CanSayFilter taken.1
filters_spelled arguments taken is = so_given CanSayTaken (filter_line arguments) taken (line_said arguments) is
