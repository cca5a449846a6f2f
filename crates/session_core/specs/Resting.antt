-- A core at rest between two exchanges: a fresh one with its count of exchanges stands for the same history.
use Rattle.std.specs.Prelude.{◌≡◌, []}
use Rattle.session_model.specs.Meaning.{Meaning}
use Rattle.session_core.specs.History.{no_stream}
use Rattle.session_core.specs.Sided.{Sided, AnswerSeen}
use Rattle.session_core.specs.declared.machine.At.{At}
use Rattle.session_core.specs.declared.Phase.TheVariants as phase

-- no byte and no end of the client's stream has come behind the exchanges that are done, and the variables are those with which a session begins
pub record IsUntouched (M : Meaning) (p : Sided M) : Type 0 where
  pub came : p.came ≡ no_stream
  pub vars : p.vars ≡ M.begins

-- It stands in front of a head, its client has taken all, and its directions stand for such a past alone.
pub record IsRested {C : Type 0} (meaning : C → Meaning) {D : Type 0} (answer : D → AnswerSeen) (stands : (cfg : C) → D → Sided (meaning cfg) → Type 0) (sides : D) (at : At) : Type 0 where
  pub phase : at.phase ≡ phase.Reading
  pub taken : (answer sides).window ≡ []
  pub untouched : (cfg : C) (p : Sided (meaning cfg)) → stands cfg sides p → IsUntouched (meaning cfg) p
