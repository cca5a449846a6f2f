-- How variables are kept.
use Rattle.std.specs.Prelude.{◌≡◌, ℕ, ◌+◌, ◌*◌, ◌≤◌, true, List, length, drop, sum_by, vec_len, vec_capacity, Option}
use Rattle.px_sample.specs.declared.kept.Kept.{Kept}
use Rattle.px_sample.specs.declared.scope.Scope.{Scope}
use Rattle.px_sample.specs.declared.share.Share.{Share}
use Rattle.px_sample.specs.declared.spot.Spot.{Spot}
use Rattle.px_sample.specs.Entry.{Entry, load, are_distinct, scope_limit}
use Rattle.px_sample.specs.Variables.{Variables, entries_in}
use Rattle.px_sample.specs.Slot.{len_of, entries_of, IsFound}
use Rattle.px_sample.specs.Shares.{share_of, bytes_before, part, parted}

-- the variables that are kept
abbrev pub variables_of : Kept → Variables
variables_of k = parted k.shares (entries_of k.slots.items k.bytes.items)

-- a scope's share counts its variables and their bytes, within the limit. No name is there twice, so that there
-- is at most one more of them than bytes
pub record IsShare (share : Share) (entries : List Entry) : Type 0 where
  pub count : length entries ≡ share.slots
  pub counts : load entries ≡ share.bytes
  pub small : share.bytes ≤ scope_limit
  pub distinct : are_distinct entries ≡ true

-- Names and values lie one after another, scope by scope, with room for all that four scopes can hold.
pub record IsHeld (k : Kept) : Type 0 where
  pub gapless : sum_by len_of k.slots.items ≡ vec_len k.bytes
  pub whole : k.shares.sess.slots + (k.shares.txn.slots + (k.shares.req.slots + k.shares.res.slots)) ≡ vec_len k.slots
  pub each : (scope : Scope) → IsShare (share_of k.shares scope) (entries_in (variables_of k) scope)
  pub slot_room : 4 * (scope_limit + 1) ≤ vec_capacity k.slots
  pub byte_room : 4 * scope_limit ≤ vec_capacity k.bytes

-- the variable that was found among those of the scope has the name, and where none was found, none has it
abbrev pub IsFoundIn : Kept → Scope → List ℕ → Option Spot → Type 0
IsFoundIn k scope name found = IsFound (part k.shares scope k.slots.items) (drop (bytes_before k.shares scope) k.bytes.items) name found
