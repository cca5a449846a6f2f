-- The records that bytes of a body add.
use Rattle.std.specs.Prelude.{◌≡◌, ℕ, List, ◌++◌}
use Rattle.fcgi_model.specs.Records.{CarriesBody}
use Rattle.fcgi_model.specs.Flow.{body_end}
use Rattle.fcgi_model.specs.Body.{Place, Goes}

-- the bytes lead from one place to another, and the records of the body among them are put behind a text
pub record Sends (from : Place) (bytes : List ℕ) (to : Place) (old new : List ℕ) : Type 0 where
  pub found : List ℕ
  pub text : List ℕ
  pub goes : Goes from bytes to found
  pub carries : CarriesBody found text
  pub is : new ≡ old ++ text

-- the same, and the last record once the body is whole
pub record Continues (from : Place) (bytes : List ℕ) (to : Place) (made : List ℕ) : Type 0 where
  pub found : List ℕ
  pub text : List ℕ
  pub goes : Goes from bytes to found
  pub carries : CarriesBody found text
  pub is : body_end from ++ made ≡ text ++ body_end to
