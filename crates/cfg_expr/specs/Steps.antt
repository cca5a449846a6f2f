-- Steps from left to right, where the first refused one decides.
use Rattle.std.specs.Prelude.{Result, Ok, Err}

infixl 10 ◌>>=◌
-- what follows a step that gave a value; a refused step decides
abbrev pub ◌>>=◌ : {K A B : Type 0} → Result A K → (A → Result B K) → Result B K
(Ok x) >>= f = f x
(Err kind) >>= f = Err kind
