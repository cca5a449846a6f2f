-- What comes in on a connection, and what goes out on one.
use Rattle.std.specs.Prelude.{◌≡◌, ◌≢◌, ℕ, List, [], ◌++◌, Bool, true, false}
use Rattle.http_model.specs.declared.Ending.{Ending}
use Rattle.http_model.specs.declared.Close.{Close}

-- bytes, and how they ended
pub record Stream : Type 0 where
  pub bytes : List ℕ
  pub ending : Ending

-- what a connect found: nothing, or a server with its stream, which may stop taking bytes
pub data Server : Type 0 where
  NotThere : Server
  Open : Stream → (stopped : Bool) → Server

-- what was sent on a connection, and how it was closed
pub record Sent : Type 0 where
  pub bytes : List ℕ
  pub close : Close

-- What a server takes of a text: all of it, or, where it stopped, a front that lacks at least a byte. So a server stopped
-- exactly where its text is longer than what it took.
abbrev pub Takes : (stopped : Bool) → (text taken : List ℕ) → Type 0
Takes false text taken = taken ≡ text
Takes true text taken = (left : List ℕ) × (text ≡ taken ++ left) × (left ≢ [])
