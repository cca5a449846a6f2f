-- Steps that gave a value, and tests that let pass.
use Rattle.std.proofs.Common.{◌≡◌, Bool, true, false, cond, Result, Ok, Err, refl, ap}
use Rattle.std.specs.Prelude.{◌&&◌, ◌||◌}
use Rattle.cfg_parse.specs.declared.fault.CfgKind.{CfgKind}
use Rattle.cfg_parse.specs.declared.fault.LineRefusal.{LineRefusal}
use Rattle.cfg_parse.specs.declared.fault.LineRefusal.TheVariants as refusals
use Rattle.cfg_parse.specs.Reading.{◌>>=◌, Fails}

-- the value of a step that was not refused
pub bind_ok : {A B : Type 0} (r : Result A CfgKind) (f : A → Result B CfgKind) (y : B) → (r >>= f) ≡ Ok y → (x : A) × ((r ≡ Ok x) × (f x ≡ Ok y))
bind_ok (Ok x) f y e = (x, (refl, e))
bind_ok (Err kind) f y e = absurd cc

-- a test that did not refuse
pub guard_ok : {A : Type 0} (b : Bool) (kind : CfgKind) (x : Result A CfgKind) (y : A) → cond b (Err kind) x ≡ Ok y → (b ≡ false) × (x ≡ Ok y)
guard_ok true kind x y e = absurd cc
guard_ok false kind x y e = (refl, e)

-- a test that let pass
pub passed : {A : Type 0} (b : Bool) (kind : CfgKind) (x : Result A CfgKind) (y : A) → cond b x (Err kind) ≡ Ok y → (b ≡ true) × (x ≡ Ok y)
passed true kind x y e = (refl, e)
passed false kind x y e = absurd cc

abbrev pub given : {A : Type 0} → A → Result A CfgKind
given x = Ok x

pub ok_is : {A : Type 0} (x y : A) → given x ≡ given y → x ≡ y
ok_is x y e = cc

pub or_false : (a b : Bool) → (a || b) ≡ false → (a ≡ false) × (b ≡ false)
or_false true b e = absurd cc
or_false false b e = (refl, e)

pub and_true : (a b : Bool) → (a && b) ≡ true → (a ≡ true) × (b ≡ true)
and_true true b e = (refl, e)
and_true false b e = absurd cc

-- ---- from left to right

-- what follows a step that gave a value
pub then_ok : {A B : Type 0} (r : Result A CfgKind) (f : A → Result B CfgKind) (x : A) → r ≡ Ok x → (r >>= f) ≡ f x
then_ok r f x is = ap (λ r. r >>= f) is

-- what stands behind a test that did not refuse
pub then_passed : {A : Type 0} (b : Bool) (kind : CfgKind) (x : Result A CfgKind) → b ≡ false → cond b (Err kind) x ≡ x
then_passed b kind x is = ap (λ b. cond b (Err kind) x) is

-- a step that failed decides
pub then_fails : {A B : Type 0} (r : Result A CfgKind) (f : A → Result B CfgKind) (refusal : LineRefusal) → Fails refusal r → Fails refusal (r >>= f)
then_fails r f refusals.Pattern fails = fails
then_fails r f refusals.OutOfMemory fails = tt
then_fails r f (refusals.Refused kind) fails = ap (λ r. r >>= f) fails
