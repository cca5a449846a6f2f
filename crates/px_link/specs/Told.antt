-- What the objects that are handed in tell, and the counts of their faults.
use Rattle.std.specs.Prelude.{◌≡◌, ℕ, ◌-◌, ◌<◌, ◌≤◌, ◌^◌, ◌⊎◌, List, [], ◌∷◌, ◌++◌, if◌then◌else◌, take, Option, Some, None, Result, Ok, Err, IsErrOf, OnOk, ⊤}
use Rattle.std.specs.Str.{bytes_eq}
use Rattle.px_link.specs.declared.fault.Fault.{Fault}
use Rattle.px_link.specs.declared.fault.Fault.TheVariants.{Failed, OutOfMemory}

-- the count rose, or stands at its last value
abbrev pub Rose : ℕ → ℕ → Type 0
Rose before now = (before < now) ⊎ (2 ^ 64 - 1 ≤ now)

-- a failure raises the count, and nothing else changes it
pub record Counts {T : Type 0} (before now : ℕ) (result : Result T Fault) : Type 0 where
  pub never_falls : before ≤ now
  pub failed : IsErrOf result Failed → Rose before now
  pub ok : OnOk result (now ≡ before)
  pub memory : IsErrOf result OutOfMemory → now ≡ before

-- the name of the last failed read, after one of this name
abbrev pub last_name : {T : Type 0} → Result T Fault → List ℕ → List ℕ → List ℕ
last_name (Ok bytes) name last = last
last_name (Err Failed) name last = name
last_name (Err OutOfMemory) name last = last

-- a file: its name, and its bytes
abbrev pub NamedBytes : Type 0
NamedBytes = List ℕ × List ℕ

-- the bytes of the first file of this name
abbrev pub content_of : List NamedBytes → List ℕ → Option (List ℕ)
content_of [] name = None
content_of (file ∷ files) name = if bytes_eq file.0 name then Some file.1 else content_of files name

-- these are the first `limit` bytes of the file of this name, or all if there are fewer, where files are told
abbrev pub Reads : Option (List NamedBytes) → List ℕ → ℕ → List ℕ → Type 0
Reads None name limit bytes = ⊤
Reads (Some files) name limit bytes = (all : List ℕ) × (content_of files name ≡ Some all) × (bytes ≡ take limit all)

-- what was written gained these bytes, where it is told
abbrev pub Gains : Option (List ℕ) → Option (List ℕ) → List ℕ → Type 0
Gains None new bytes = ⊤
Gains (Some old) new bytes = new ≡ Some (old ++ bytes)

-- what was written gained a front of these bytes, where it is told
abbrev pub GainsFront : Option (List ℕ) → Option (List ℕ) → List ℕ → Type 0
GainsFront old new bytes = (front : List ℕ) × (rest : List ℕ) × (bytes ≡ front ++ rest) × Gains old new front
