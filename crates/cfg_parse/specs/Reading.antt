-- Reading the words of a line from left to right, where the first fault decides.
use Rattle.std.specs.Prelude.{◌≡◌, ℕ, List, [], ◌∷◌, Result, Ok, Err}
use Rattle.cfg_lex.specs.declared.fault.LineFault.{LineFault}
use Rattle.cfg_lex.specs.declared.fault.LineFault.TheVariants as faults
use Rattle.cfg_parse.specs.declared.fault.CfgKind.{CfgKind}
use Rattle.cfg_parse.specs.declared.fault.CfgKind.TheVariants.{Word, Argument, Limit}
use Rattle.cfg_parse.specs.declared.fault.LineRefusal.{LineRefusal}
use Rattle.cfg_parse.specs.declared.fault.LineRefusal.TheVariants as refusals

infixl 10 ◌>>=◌
-- what follows a step that gave a value; a refused step decides
abbrev pub ◌>>=◌ : {A B : Type 0} → Result A CfgKind → (A → Result B CfgKind) → Result B CfgKind
(Ok x) >>= f = f x
(Err kind) >>= f = Err kind

-- the next word and those behind it; a missing one counts as after the last
abbrev pub argument : List (List ℕ) → Result (List ℕ × List (List ℕ)) CfgKind
argument [] = Err Argument
argument (word ∷ others) = Ok (word, others)

-- nothing follows
abbrev pub no_more : List (List ℕ) → Result (Unit {0}) CfgKind
no_more [] = Ok tt
no_more (word ∷ others) = Err Argument

-- ---- what code gives

-- a refusal is the one that the definition gives; want of memory is free
abbrev pub Fails : {Y : Type 0} → LineRefusal → Result Y CfgKind → Type 0
Fails refusals.Pattern meaning = ⊥
Fails refusals.OutOfMemory meaning = Unit {0}
Fails (refusals.Refused kind) meaning = meaning ≡ Err kind

-- what was returned, seen by a view, is what the definition gives, unless memory ran out
abbrev pub Gives : {X Y : Type 0} → (X → Y) → Result X LineRefusal → Result Y CfgKind → Type 0
Gives view (Ok x) meaning = meaning ≡ Ok (view x)
Gives view (Err refusal) meaning = Fails refusal meaning

-- a call that changes a value leaves what the definition gives, unless memory ran out
abbrev pub Leaves : {Y : Type 0} → Result (Unit {0}) LineRefusal → Y → Result Y CfgKind → Type 0
Leaves (Ok done) left meaning = meaning ≡ Ok left
Leaves (Err refusal) left meaning = Fails refusal meaning

-- the refusal of a line that has no words
abbrev pub refusal_of : LineFault → LineRefusal
refusal_of faults.Word = refusals.Refused Word
refusal_of faults.Limit = refusals.Refused Limit
refusal_of faults.OutOfMemory = refusals.OutOfMemory
