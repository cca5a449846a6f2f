-- The variables of one scope (Configuration Manual, section 2.8).
use Rattle.std.specs.Prelude.{ℕ, ◌+◌, Bool, true, not, ◌&&◌, List, [], ◌∷◌, ◌++◌, length, sum_by, filter, nat_le, Option, Some, None, is_none, if◌then◌else◌}
use Rattle.std.specs.Str.{bytes_eq}
use Rattle.px_sample.specs.Sample.{Value, Truth, Number, Bytes}

-- a name with its value
abbrev pub Entry : Type 0
Entry = List ℕ × Value

-- what a value counts: a truth value 1, a number 8, bytes as many as they are
abbrev pub size_of : Value → ℕ
size_of (Truth b) = 1
size_of (Number n) = 8
size_of (Bytes bytes) = length bytes

-- what a variable counts
abbrev pub weight : Entry → ℕ
weight e = length e.0 + size_of e.1

-- what all of them count
abbrev pub load : List Entry → ℕ
load entries = sum_by weight entries

-- how much a scope holds
abbrev pub scope_limit : ℕ
scope_limit = 4096

-- the variable has this name
abbrev pub is_named : List ℕ → Entry → Bool
is_named name e = bytes_eq e.0 name

-- the value of the variable of this name
abbrev pub lookup : List ℕ → List Entry → Option Value
lookup name [] = None
lookup name (e ∷ entries) = if is_named name e then Some e.1 else lookup name entries

-- the variables of other names
abbrev pub without : List ℕ → List Entry → List Entry
without name entries = filter (λ e. not (is_named name e)) entries

-- the variables after this one was set, however much they count
abbrev pub with_variable : List ℕ → Value → List Entry → List Entry
with_variable name v entries = without name entries ++ (name, v) ∷ []

-- the variables after a set: nothing changes where the scope would hold too much
abbrev pub assigned : List ℕ → Value → List Entry → List Entry
assigned name v entries =
    if nat_le (load (with_variable name v entries)) scope_limit then with_variable name v entries else entries

-- no two have one name
abbrev pub are_distinct : List Entry → Bool
are_distinct [] = true
are_distinct (e ∷ entries) = is_none (lookup e.0 entries) && are_distinct entries
