-- What a parse that was handed on says.
use Rattle.std.proofs.Common.{◌≡◌, subst}
use Rattle.std.specs.Prelude.{Result, Ok}
use Rattle.httparse.specs.Outcome.{IfComplete}
use Rattle.httparse.specs.declared.Status.{Status}
use Rattle.httparse.specs.declared.Status.TheVariants.{Complete}

-- what holds of a parse that is complete
pub of_complete : {A E : Type 0} (r : Result (Status A) E) (s : Status A) (a : A) (P : A → Type 0) → r ≡ Ok s → s ≡ Complete a → IfComplete r P → P a
of_complete {A} {E} r s a P is done told = subst (λ (t : Status A). IfComplete {A = A} {E = E} (Ok t) P) done (subst (λ (q : Result (Status A) E). IfComplete q P) is told)
