-- What holds of a value that was told, through the steps in which settings are read.
use Rattle.std.proofs.Common.{◌≡◌, Bool, true, false, cond, Result, Ok, Err, refl}
use Rattle.cfg_parse.specs.declared.fault.CfgKind.{CfgKind}
use Rattle.cfg_expr.specs.Reading.{Reading, given_by}
use Rattle.cfg_parse.specs.Reading.{◌>>=◌}
use Rattle.cfg_laws.proofs.ReadLemmas.Steps.{GivesSo}

-- a step, and what follows it
pub so_step : {A B : Type 0} (P : B → Type 0) (told : Result A CfgKind) (f : A → Result B CfgKind) → ((x : A) → told ≡ Ok x → GivesSo P (f x)) → GivesSo P (told >>= f)
so_step P (Ok x) f more = more x refl
so_step P (Err kind) f more = tt

-- a fault where a test passes
pub so_unless : {K A : Type 0} (P : A → Type 0) (t : Bool) (kind : K) (told : Result A K) → (t ≡ false → GivesSo P told) → GivesSo P (cond t (Err kind) told)
so_unless P true kind told h = tt
so_unless P false kind told h = h refl

-- a fault where it does not
pub so_if : {K A : Type 0} (P : A → Type 0) (t : Bool) (kind : K) (told : Result A K) → (t ≡ true → GivesSo P told) → GivesSo P (cond t told (Err kind))
so_if P true kind told h = h refl
so_if P false kind told h = tt

-- one of two
pub so_either : {A : Type 0} (P : A → Type 0) (t : Bool) (x y : Result A CfgKind) → (t ≡ true → GivesSo P x) → (t ≡ false → GivesSo P y) → GivesSo P (cond t x y)
so_either P true x y h i = h refl
so_either P false x y h i = i refl

-- ---- the same of readings

pub so_read : {K A B : Type 0} (P : B → Type 0) (told : Result A K) (f : A → Reading K B) → ((x : A) → told ≡ Ok x → GivesSo P (f x).gives) → GivesSo P (given_by told f)
so_read P (Ok x) f more = more x refl
so_read P (Err kind) f more = tt

pub so_either_read : {K A : Type 0} (P : A → Type 0) (t : Bool) (x y : Reading K A) → (t ≡ true → GivesSo P x.gives) → (t ≡ false → GivesSo P y.gives) → GivesSo P (cond t x y).gives
so_either_read P true x y h i = h refl
so_either_read P false x y h i = i refl

-- a value that a test chooses
pub either_so : {A : Type 0} (P : A → Type 0) (t : Bool) (x y : A) → P x → P y → P (cond t x y)
either_so P true x y h i = h
either_so P false x y h i = i
