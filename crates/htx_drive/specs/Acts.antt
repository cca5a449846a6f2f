-- What a driver does for a turn.
use Rattle.std.specs.Prelude.{◌≡◌, ℕ, ◌<◌, nat_lt, Bool, true, false, ◌||◌, ◌&&◌, if◌then◌else◌, Option, Some, None, ⊤}
use Rattle.px_link.specs.declared.turns.Turn.{Turn}
use Rattle.px_link.specs.declared.turns.Turn.TheVariants as turns
use Rattle.session_core.specs.declared.machine.Wants.{Wants}
use Rattle.htx_drive.specs.declared.act.Act.{Act}
use Rattle.htx_drive.specs.declared.act.Act.TheVariants as act

-- this act where its want stands and it moves at least a byte
abbrev pub act_if : (wanted : Bool) → (most : ℕ) → Act → Act
act_if wanted most wish = if wanted && nat_lt 0 most then wish else act.Nothing

-- a turn of the list
abbrev pub act_of_turn : Turn → Wants → Act
act_of_turn (turns.ClientGives most) wants = act_if wants.client_read most (act.ClientRead most)
act_of_turn (turns.ClientTakes most) wants = act_if wants.client_write most (act.ClientWrite most)
act_of_turn (turns.ServerGives most) wants = act_if wants.server_read most (act.ServerRead most)
act_of_turn (turns.ServerTakes most) wants = act_if wants.server_write most (act.ServerWrite most)

-- behind the list a turn has no number of its own
abbrev pub unbounded : ℕ
unbounded = 4294967295

-- Behind the list the first want that stands. The client is passed over while it waits for a response head and the server may give
-- one (RFC 9110 section 10.1.1).
abbrev pub act_of_wants : Wants → Act
act_of_wants wants =
    if wants.server_write then act.ServerWrite unbounded
    else if wants.client_write then act.ClientWrite unbounded
    else if wants.client_read then (if wants.client_waits && wants.server_read then act.ServerRead unbounded else act.ClientRead unbounded)
    else if wants.server_read then act.ServerRead unbounded
    else act.Nothing

-- what is done next: the next turn of the list, or what is done behind it
abbrev pub act_of : Option Turn → Wants → Act
act_of (Some turn) wants = act_of_turn turn wants
act_of None wants = act_of_wants wants

-- its want stands, and it moves at least a byte
abbrev pub IsWanted : Wants → Act → Type 0
IsWanted wants act.Nothing = ⊤
IsWanted wants (act.ClientRead most) = (wants.client_read ≡ true) × (0 < most)
IsWanted wants (act.ClientWrite most) = (wants.client_write ≡ true) × (0 < most)
IsWanted wants (act.ServerRead most) = (wants.server_read ≡ true) × (0 < most)
IsWanted wants (act.ServerWrite most) = (wants.server_write ≡ true) × (0 < most)

abbrev pub moves_bytes : Wants → Bool
moves_bytes wants = wants.client_read || wants.client_write || wants.server_read || wants.server_write

-- where the driver takes a turn: bytes may be moved, nothing is to be opened or closed, and the session isn't over
pub record TakesTurn (wants : Wants) : Type 0 where
  pub some : moves_bytes wants ≡ true
  pub no_open : wants.server_open ≡ false
  pub no_close : wants.server_close ≡ None
  pub going : wants.over ≡ None

abbrev pub is_write : Act → Bool
is_write act.Nothing = false
is_write (act.ClientRead most) = false
is_write (act.ClientWrite most) = true
is_write (act.ServerRead most) = false
is_write (act.ServerWrite most) = true

abbrev pub is_nothing : Act → Bool
is_nothing act.Nothing = true
is_nothing (act.ClientRead most) = false
is_nothing (act.ClientWrite most) = false
is_nothing (act.ServerRead most) = false
is_nothing (act.ServerWrite most) = false
