-- What is drawn for each exchange of a generated session.
use Rattle.std.specs.Prelude.{ℕ, zero, suc, ◌+◌, ◌*◌, ◌/◌, ◌%◌, List, [], ◌∷◌}

-- the state behind a draw
unfoldable pub next_state : ℕ → ℕ
next_state state = (state * 1103515245 + 12345) % 2147483648

-- what the draw that led to this state gives
unfoldable pub draw_of : ℕ → ℕ
draw_of state = state / 65536 % 32768

-- the lengths of so many field values, each from a draw, and the state behind
unfoldable pub lengths_of : ℕ → ℕ → List ℕ × ℕ
lengths_of zero state = ([], state)
lengths_of (suc more) state =
    let rest = lengths_of more (next_state state) in (draw_of (next_state state) % 32 ∷ rest.0, rest.1)

-- an exchange: the lengths of the values of its fields, and those of the bodies of its request and of its response
pub record Plan : Type 0 where
  pub fields : List ℕ
  pub request : ℕ
  pub response : ℕ

-- an exchange whose fields were drawn, and the state behind
abbrev pub plan_behind : List ℕ × ℕ → Plan × ℕ
plan_behind fields =
    let second = next_state fields.1 in
    let third = next_state second in
    (record { fields = fields.0; request = draw_of second % 4096; response = draw_of third % 16384 }, third)

-- The exchange that is drawn next, and the state behind: the number of its fields, their lengths, and those of the bodies.
unfoldable pub plan_of : ℕ → Plan × ℕ
plan_of state = plan_behind (lengths_of (draw_of (next_state state) % 4) (next_state state))

-- so many exchanges
unfoldable pub plans_of : ℕ → ℕ → List Plan
plans_of zero state = []
plans_of (suc more) state = (plan_of state).0 ∷ plans_of more (plan_of state).1
