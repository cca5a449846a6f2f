-- What a buffer holds of pieces that are joined to a value, which is trimmed of blanks before it is weighed.
use Rattle.std.specs.Prelude.{◌≡◌, ℕ, List, [], ◌∷◌, take, drop, Bool, true, false}
use Rattle.std.specs.List.{list_all, prefix_len}
use Rattle.px_bytes.specs.Blanks.{is_blank}
use Rattle.http_rules.specs.declared.action.joining.Joined.{Joined}
use Rattle.http_rules.specs.declared.action.joining.Joined.TheVariants.{Held, Over, Bad}
use Rattle.http_rules.specs.Action.Edits.{are_value_bytes}

-- the bytes from the first that is no blank on
abbrev pub begun : List ℕ → List ℕ
begun bytes = drop (prefix_len is_blank bytes) bytes

-- nothing but blanks
abbrev pub are_blanks : List ℕ → Bool
are_blanks bytes = list_all is_blank bytes

-- what of a piece counts behind bytes that are held: no blank in front of all others
abbrev pub piece_behind : (held piece : List ℕ) → List ℕ
piece_behind [] piece = begun piece
piece_behind (b ∷ held) piece = piece

-- Each byte of the pieces may stand in a value, and the buffer holds them from the first that is no blank on, as far as it can:
-- all but blanks, or not.
pub record Keeps (size : ℕ) (pieces : List ℕ) (whole : Bool) (held : List ℕ) : Type 0 where
  pub good : are_value_bytes pieces ≡ true
  pub holds : held ≡ take size (begun pieces)
  pub left : are_blanks (drop size (begun pieces)) ≡ whole

-- what came of the pieces so far
abbrev pub Joins : (size : ℕ) → (pieces : List ℕ) → Joined → (held : List ℕ) → Type 0
Joins size pieces Held held = Keeps size pieces true held
Joins size pieces Over held = Keeps size pieces false held
Joins size pieces Bad held = are_value_bytes pieces ≡ false

-- what comes of one piece more, of which all but blanks is held, or is not
abbrev pub joined_by : Joined → (whole : Bool) → Joined
joined_by Held true = Held
joined_by Held false = Over
joined_by Over whole = Over
joined_by Bad whole = Bad
