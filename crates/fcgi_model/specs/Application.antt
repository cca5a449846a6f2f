-- How an application is asked.
use Rattle.std.specs.Prelude.{ℕ, List, [], ◌++◌, map, Option, None, codes}
use Rattle.std.specs.Char.{to_ascii_lowercase}

-- where its files lie; the file behind a path that ends in `/`; the one file that is asked, whatever the path; and the names of the pairs that fields are made for
pub record Application : Type 0 where
  pub root : List ℕ
  pub index : Option (List ℕ)
  pub script : Option (List ℕ)
  pub params : List (List ℕ)

-- an application whose files lie below this root
abbrev pub below : (root : List ℕ) → Application
below root = record { root = root; index = None; script = None; params = [] }

-- The field that tells the value of a pair: its name in lower case, behind `_`. A field of such a name is handed on in no other way.
abbrev pub param_field : (name : List ℕ) → List ℕ
param_field name = codes "_" ++ map to_ascii_lowercase name
