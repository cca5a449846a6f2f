-- How rounds of moves without a turn end: each lowers what is left of the budget, or the number of connections that have not ended.
use Rattle.std.specs.Prelude.{◌≡◌, ℕ, ◌+◌, ◌<◌, ◌⊎◌, suc, List, slice_get, true, false, Option, Some, None, Result}
use Rattle.std.specs.List.{sum_by}
use Rattle.px_pool.specs.Owners.{has_one, all_out}
use Rattle.px_pool.specs.Seats.{Seats}
use Rattle.htx_drive.specs.declared.Ran.{Ran}
use Rattle.htx_drive.specs.declared.SessionFault.{SessionFault}
use Rattle.htx_drive.specs.declared.weave.conn.Conn.{Conn}

-- one where it has not ended
abbrev pub still_on : Option (Result Ran SessionFault) → ℕ
still_on None = 1
still_on (Some ran) = 0

-- how many have not ended
abbrev pub unended : {L N : Type 0} → List (Conn L N) → ℕ
unended {L = L} {N = N} conns = sum_by (λ (conn : Conn L N). still_on conn.ran) conns

-- why it makes no move: it has ended, or has no core while all are out
abbrev pub Idles : (number : ℕ) → (owners : List (Option ℕ)) → Option (Result Ran SessionFault) → Type 0
Idles number owners ran = (still_on ran ≡ 0) ⊎ ((has_one number owners ≡ false) × (all_out owners ≡ true))

-- it made none
pub record Rested {C L N : Type 0} (number : ℕ) (old new : Seats C) (was conn : Conn L N) (before left : ℕ) : Type 0 where
  pub same_pool : new ≡ old
  pub same_conn : conn ≡ was
  pub same_left : left ≡ before
  pub why : Idles number old.owners was.ran

-- it took something of what was left, or ended
abbrev pub MovedOn : {L N : Type 0} → (was conn : Conn L N) → (before left : ℕ) → Type 0
MovedOn was conn before left = left + still_on conn.ran < before + still_on was.ran

-- the same of one of all, which stands at this place
pub record RestedAt {C L N : Type 0} (place : ℕ) (old new : Seats C) (were conns : List (Conn L N)) (before left : ℕ) : Type 0 where
  pub same_pool : new ≡ old
  pub same_conns : conns ≡ were
  pub same_left : left ≡ before
  pub why : (conn : Conn L N) → slice_get were place ≡ Some conn → Idles (suc place) old.owners conn.ran

abbrev pub AllMovedOn : {L N : Type 0} → (were conns : List (Conn L N)) → (before left : ℕ) → Type 0
AllMovedOn were conns before left = left + unended conns < before + unended were
