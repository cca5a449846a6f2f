-- What came over a link, and what was put out to it, since it was first seen.
use Rattle.std.specs.Prelude.{◌≡◌, ℕ, ◌+◌, List, [], ◌++◌, length, Bool, true, false, Option, Some, None, IfSome, if◌then◌else◌, is_some}
use Rattle.http_model.specs.declared.Ending.{Ending}
use Rattle.http_model.specs.declared.Ending.TheVariants.{Closed, Broke}
use Rattle.px_link.specs.Link.{Seen, SameKind, WithinTakes, MayRefuse, counted}
use Rattle.px_link.specs.Calls.{fault_after}
use Rattle.px_link.specs.Told.{Rose}
use Rattle.session_core.specs.History.{Coming}

-- these bytes of a told stream came, and these are left
pub record CameOf (now : Seen) (xs : List ℕ) (came : Coming) (plain : Bool) : Type 0 where
  pub rest : List ℕ
  pub bytes : xs ≡ came.bytes ++ rest
  pub to_come : now.to_come ≡ Some rest
  pub closed : came.ending ≡ Some Closed → rest ≡ []
  pub broke : plain ≡ true → came.ending ≡ Some Broke → rest ≡ []

-- The stream ended so by a read of 0 bytes, or by a read that failed; no other read failed: the count is as it was, or the next one where a read
-- failed.
abbrev pub EndsSo : (first now : Seen) → Option Ending → Type 0
EndsSo first now None = now.read_faults ≡ first.read_faults
EndsSo first now (Some Closed) = (now.read_faults ≡ first.read_faults) × IfSome first.ending (λ e. e ≡ Closed)
EndsSo first now (Some Broke) = (now.read_faults ≡ fault_after first.read_faults) × (first.plain ≡ true → IfSome first.ending (λ e. e ≡ Broke))

pub record Came (first now : Seen) (came : Coming) : Type 0 where
  pub kind : SameKind first now
  pub bytes : (xs : List ℕ) → first.to_come ≡ Some xs → CameOf now xs came first.plain
  pub taken : (k : ℕ) → first.taken ≡ Some k → now.taken ≡ Some (counted k (length came.bytes))
  pub ended : EndsSo first now came.ending

-- a write failed, or none did
abbrev pub FailsSo : (first now : Seen) → Bool → Type 0
FailsSo first now true = Rose first.write_faults now.write_faults
FailsSo first now false = now.write_faults ≡ first.write_faults

pub record Put (wrote_first wrote_now : List ℕ → Type 0) (first now : Seen) (put : List ℕ) (stopped : Bool) : Type 0 where
  pub wrote : (bs : List ℕ) → wrote_first bs → wrote_now (bs ++ put)
  pub limit : wrote_first [] → WithinTakes first.takes (length put)
  pub full : wrote_first [] → stopped ≡ true → MayRefuse first.takes (length put)
  pub fails : FailsSo first now stopped

-- bytes and an ending
abbrev pub size_of : Coming → ℕ
size_of came = length came.bytes + (if is_some came.ending then 1 else 0)
