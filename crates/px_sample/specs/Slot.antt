-- How the variables of a scope lie in bytes.
use Rattle.std.specs.Prelude.{◌≡◌, ℕ, ◌+◌, ◌<◌, ◌==◌, List, [], ◌∷◌, length, take, drop, sum_by, slice_index, slice_index_or, Option, Some, None, MatchOption}
use Rattle.std.specs.Int.{w64, cast_signed, from_le_bytes}
use Rattle.px_sample.specs.declared.form.Form.{Form}
use Rattle.px_sample.specs.declared.form.Form.TheVariants as forms
use Rattle.px_sample.specs.Sample.{Value, Truth, Number, Bytes}
use Rattle.px_sample.specs.declared.slot.Slot.{Slot}
use Rattle.px_sample.specs.declared.spot.Spot.{Spot}
use Rattle.px_sample.specs.Entry.{Entry, lookup}

-- the bytes of a name and its value
abbrev pub len_of : Slot → ℕ
len_of s = s.name + s.value

-- the value of this form that the bytes hold: a truth value is one byte, a number eight, little-endian
abbrev pub value_of : Form → List ℕ → Value
value_of forms.Truth bytes = Truth (slice_index bytes 0 == 1)
value_of forms.Number bytes = Number (cast_signed w64 (from_le_bytes w64 bytes))
value_of forms.Bytes bytes = Bytes bytes

-- the name and the value that begin at the front of the bytes
abbrev pub entry_of : Slot → List ℕ → Entry
entry_of s bytes = (take s.name bytes, value_of s.form (take s.value (drop s.name bytes)))

-- those that lie one after another in the bytes
abbrev pub entries_of : List Slot → List ℕ → List Entry
entries_of [] bytes = []
entries_of (s ∷ slots) bytes = entry_of s bytes ∷ entries_of slots (drop (len_of s) bytes)

-- the first variable of this name: which one it is, where its name begins, and what else is known of it
pub record FoundAt (slots : List Slot) (bytes name : List ℕ) (index at : ℕ) (slot : Slot) : Type 0 where
  pub inside : index < length slots
  pub starts : at ≡ sum_by len_of (take index slots)
  pub is_slot : slot ≡ slice_index_or slots index slot
  pub named : take slot.name (drop at bytes) ≡ name
  pub value : lookup name (entries_of slots bytes) ≡ Some (value_of slot.form (take slot.value (drop slot.name (drop at bytes))))

-- how many bytes come free where the variable that was found is taken out
abbrev pub freed_by : Option Spot → ℕ
freed_by None = 0
freed_by (Some spot) = len_of spot.slot

-- the variable that was found has the name, and where none was found, none has it
abbrev pub IsFound : List Slot → List ℕ → List ℕ → Option Spot → Type 0
IsFound slots bytes name found =
    MatchOption found (lookup name (entries_of slots bytes) ≡ None) (λ spot. FoundAt slots bytes name spot.index spot.at spot.slot)
