-- The options of `run`, a word or two at a time.
use Rattle.std.proofs.Common.{◌≡◌, refl, ◌<◌, ◌≤◌, ◌-◌, ℕ, List, [], ◌∷◌, ap, ◌∙◌, length, get_or, take, drop, take_all, arith, map}
use Rattle.std.specs.Prelude.{Option, Some, None, option_and_then, string_bytes}
use Rattle.std.specs.Option.{option_map_or}
use Rattle.std.specs.declared.string.String.{String}
use Rattle.std.specs.declared.alloc.Global.{Global}
use Rattle.px_command.specs.Options.{options_behind, with_flag, with_number}
use Rattle.px_command.specs.declared.options.RunOptions.{RunOptions}

-- ---- of texts

-- an option by itself, in front of others
flag_in_front : (said next : RunOptions) (w v : List ℕ) (rest : List (List ℕ)) → Some next ≡ with_flag said w → options_behind next (v ∷ rest) ≡ options_behind said (w ∷ v ∷ rest)
unfolding options_behind
flag_in_front said next w v rest is =
    ap (λ (o : Option RunOptions). option_map_or (λ n. options_behind n (v ∷ rest)) o (option_and_then (λ n. options_behind n rest) (with_number said w v))) is

-- no such option
no_flag_in_front : (said : RunOptions) (w v : List ℕ) (rest : List (List ℕ)) → None ≡ with_flag said w
    → option_and_then (λ n. options_behind n rest) (with_number said w v) ≡ options_behind said (w ∷ v ∷ rest)
unfolding options_behind
no_flag_in_front said w v rest is =
    ap (λ (o : Option RunOptions). option_map_or (λ n. options_behind n (v ∷ rest)) o (option_and_then (λ n. options_behind n rest) (with_number said w v))) is

-- an option with its number
number_in_front : (said next : RunOptions) (w v : List ℕ) (rest : List (List ℕ)) → None ≡ with_flag said w → Some next ≡ with_number said w v
    → options_behind next rest ≡ options_behind said (w ∷ v ∷ rest)
number_in_front said next w v rest none is =
    ap (λ (o : Option RunOptions). option_and_then (λ n. options_behind n rest) o) is ∙ no_flag_in_front said w v rest none

-- neither
none_in_front : (said : RunOptions) (w v : List ℕ) (rest : List (List ℕ)) → None ≡ with_flag said w → None ≡ with_number said w v → None ≡ options_behind said (w ∷ v ∷ rest)
none_in_front said w v rest none is =
    ap (λ (o : Option RunOptions). option_and_then (λ n. options_behind n rest) o) is ∙ no_flag_in_front said w v rest none

-- a word that is the last
flag_alone : (said next : RunOptions) (w : List ℕ) → Some next ≡ with_flag said w → options_behind next [] ≡ options_behind said (w ∷ [])
unfolding options_behind
flag_alone said next w is = is

no_flag_alone : (said : RunOptions) (w : List ℕ) → None ≡ with_flag said w → None ≡ options_behind said (w ∷ [])
unfolding options_behind
no_flag_alone said w is = is

-- ---- of words

abbrev behind : List (String Global) → List (String Global)
behind ws = take (length ws - 1) (drop 1 ws)

behind_is : (x : String Global) (xs : List (String Global)) → behind (x ∷ xs) ≡ xs
behind_is x xs = take_all (length (x ∷ xs) - 1) xs (omega arith)

pub nothing_behind : (said : RunOptions) (ws : List (String Global)) → length ws < 1 → Some said ≡ options_behind said (map string_bytes ws)
unfolding options_behind
nothing_behind said [] few = refl
nothing_behind said (x ∷ xs) few = absurd (omega arith)

pub flag_behind : (said next : RunOptions) (ws : List (String Global)) (a : String Global) (w : List ℕ) (r : Option RunOptions) → 1 ≤ length ws → a ≡ get_or ws 0 a → w ≡ string_bytes a
    → Some next ≡ with_flag said w → r ≡ options_behind next (map string_bytes (behind ws)) → r ≡ options_behind said (map string_bytes ws)
flag_behind said next [] a w r some item text is rest = absurd (omega arith)
flag_behind said next (x ∷ []) a w r some item text is rest = rest ∙ flag_alone said next (string_bytes x) (is ∙ ap (with_flag said) (text ∙ ap string_bytes item))
flag_behind said next (x ∷ y ∷ zs) a w r some item text is rest =
    rest ∙ ap (λ (l : List (String Global)). options_behind next (map string_bytes l)) (behind_is x (y ∷ zs))
    ∙ flag_in_front said next (string_bytes x) (string_bytes y) (map string_bytes zs) (is ∙ ap (with_flag said) (text ∙ ap string_bytes item))

pub no_value_behind : (said : RunOptions) (ws : List (String Global)) (a : String Global) (w : List ℕ) → 1 ≤ length ws → a ≡ get_or ws 0 a → w ≡ string_bytes a
    → None ≡ with_flag said w → length (behind ws) < 1 → None ≡ options_behind said (map string_bytes ws)
no_value_behind said [] a w some item text is few = absurd (omega arith)
no_value_behind said (x ∷ []) a w some item text is few = no_flag_alone said (string_bytes x) (is ∙ ap (with_flag said) (text ∙ ap string_bytes item))
no_value_behind said (x ∷ y ∷ zs) a w some item text is few =
    let same : length (behind (x ∷ y ∷ zs)) ≡ length (y ∷ zs) = ap length (behind_is x (y ∷ zs)) in absurd (omega arith)

pub no_number_behind : (said : RunOptions) (ws : List (String Global)) (a b : String Global) (w v : List ℕ) → 1 ≤ length ws → a ≡ get_or ws 0 a → w ≡ string_bytes a
    → 1 ≤ length (behind ws) → b ≡ get_or (behind ws) 0 b → v ≡ string_bytes b
    → None ≡ with_flag said w → None ≡ with_number said w v → None ≡ options_behind said (map string_bytes ws)
no_number_behind said [] a b w v some item text more other value none is = absurd (omega arith)
no_number_behind said (x ∷ []) a b w v some item text more other value none is = absurd (omega arith)
no_number_behind said (x ∷ y ∷ zs) a b w v some item text more other value none is =
    let first : w ≡ string_bytes x = text ∙ ap string_bytes item in
    let second : v ≡ string_bytes y = value ∙ ap string_bytes (other ∙ ap (λ (l : List (String Global)). get_or l 0 b) (behind_is x (y ∷ zs))) in
    none_in_front said (string_bytes x) (string_bytes y) (map string_bytes zs) (none ∙ ap (with_flag said) first)
    (is ∙ ap (λ (t : List ℕ). with_number said t v) first ∙ ap (with_number said (string_bytes x)) second)

pub number_behind : (said next : RunOptions) (ws : List (String Global)) (a b : String Global) (w v : List ℕ) (r : Option RunOptions) → 1 ≤ length ws → a ≡ get_or ws 0 a → w ≡ string_bytes a
    → 1 ≤ length (behind ws) → b ≡ get_or (behind ws) 0 b → v ≡ string_bytes b
    → None ≡ with_flag said w → Some next ≡ with_number said w v → r ≡ options_behind next (map string_bytes (behind (behind ws))) → r ≡ options_behind said (map string_bytes ws)
number_behind said next [] a b w v r some item text more other value none is rest = absurd (omega arith)
number_behind said next (x ∷ []) a b w v r some item text more other value none is rest = absurd (omega arith)
number_behind said next (x ∷ y ∷ zs) a b w v r some item text more other value none is rest =
    let first : w ≡ string_bytes x = text ∙ ap string_bytes item in
    let second : v ≡ string_bytes y = value ∙ ap string_bytes (other ∙ ap (λ (l : List (String Global)). get_or l 0 b) (behind_is x (y ∷ zs))) in
    rest ∙ ap (λ (l : List (String Global)). options_behind next (map string_bytes (behind l))) (behind_is x (y ∷ zs))
    ∙ ap (λ (l : List (String Global)). options_behind next (map string_bytes l)) (behind_is y zs)
    ∙ number_in_front said next (string_bytes x) (string_bytes y) (map string_bytes zs) (none ∙ ap (with_flag said) first)
    (is ∙ ap (λ (t : List ℕ). with_number said t v) first ∙ ap (with_number said (string_bytes x)) second)
