-- What a set and an unset do to the values of variables.
use Rattle.std.specs.Prelude.{◌≡◌, ◌≢◌, ℕ, List, Some, None}
use Rattle.px_sample.specs.Sample.{Value}
use Rattle.px_sample.specs.Entry.{Entry, lookup, without, with_variable}

-- a set gives the variable its value
abbrev pub SetGives : Type 0
SetGives = (name : List ℕ) (v : Value) (entries : List Entry) → lookup name (with_variable name v entries) ≡ Some v

-- and leaves the others
abbrev pub SetKeeps : Type 0
SetKeeps = (name other : List ℕ) (v : Value) (entries : List Entry) → other ≢ name → lookup other (with_variable name v entries) ≡ lookup other entries

-- an unset takes the variable away
abbrev pub UnsetTakes : Type 0
UnsetTakes = (name : List ℕ) (entries : List Entry) → lookup name (without name entries) ≡ None

-- and leaves the others
abbrev pub UnsetKeeps : Type 0
UnsetKeeps = (name other : List ℕ) (entries : List Entry) → other ≢ name → lookup other (without name entries) ≡ lookup other entries
