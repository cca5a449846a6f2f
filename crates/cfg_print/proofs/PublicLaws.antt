-- What this crate's lemmas say to crates above, each law stated in full.
use Rattle.std.proofs.Common.{◌≡◌, ℕ, ◌+◌, Bool, List, length}
use Rattle.std.specs.Prelude.{position, unwrap_or}
use Rattle.std.specs.List.{position_or_len}
use Rattle.cfg_print.proofs.TableLemmas as tables

-- where an element stands, or how many there are, by both words of it
pub place_is : {X : Type 0} (p : X → Bool) (xs : List X) (n : ℕ) → n ≡ position_or_len p xs → n + 1 ≡ unwrap_or (position p xs) (length xs) + 1
place_is = tables.place_is
