-- The connections of a record, as its turns name them.
use Rattle.std.specs.Prelude.{ℕ, ◌<◌, ◌≤◌, List, length}
use Rattle.std.specs.List.{AllByRecursion}
use Rattle.px_link.specs.declared.turns.Turn.{Turn}
use Rattle.rec_format.specs.Recorded.{Recorded}

-- each turn is one of so many connections, numbered from 1
abbrev pub AreNumbered : (connections : ℕ) → List (ℕ × Turn) → Type 0
AreNumbered connections turns = AllByRecursion (λ (t : ℕ × Turn). (0 < t.0) × (t.0 ≤ connections)) turns

-- each turn of the record is one of its connections, of which there are at most 1024
pub record IsNumbered (r : Recorded) : Type 0 where
  pub few : length r.connections ≤ 1024
  pub turns : AreNumbered (length r.connections) r.turns
