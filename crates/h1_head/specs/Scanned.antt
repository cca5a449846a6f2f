-- How far a window was looked at for a head.
use Rattle.std.specs.Prelude.{◌≡◌, ℕ, ◌≤◌, List, length, take, false}
use Rattle.http_model.specs.declared.Limits.{Limits}
use Rattle.h1_head.specs.Kind.{HeadKind}
use Rattle.h1_head.specs.Stream.{behind}
use Rattle.h1_head.specs.Decides.{MayWait}

-- so many bytes at the front of the window begin with no empty line, and more may be asked for behind them
pub record IsScanned (K : HeadKind) (limits : Limits) (window : List ℕ) (scanned : ℕ) : Type 0 where
  pub within : scanned ≤ length window
  pub alone : behind (take scanned window) ≡ take scanned window
  pub waits : MayWait K limits false (take scanned window)
