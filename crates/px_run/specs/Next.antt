-- What a connection does next.
use Rattle.std.specs.Prelude.{◌≡◌, ℕ, Bool, true, false, ◌&&◌, ◌||◌, if◌then◌else◌, List, [], ◌∷◌, Option, Some, None, is_some, ⊤}
use Rattle.px_link.specs.declared.turns.Turn.TheVariants as turns
use Rattle.http_model.specs.declared.End.{End}
use Rattle.http_model.specs.declared.Close.{Close}
use Rattle.session_core.specs.declared.machine.Wants.{Wants}
use Rattle.px_run.specs.declared.next.Ready.{Ready}
use Rattle.px_run.specs.declared.next.Next.{Next}
use Rattle.px_run.specs.declared.next.Next.TheVariants as next

-- a turn that is handed in has no number of its own
abbrev pub unbounded : ℕ
unbounded = 4294967295

-- a row of the table: what is done where it stands
abbrev pub when : Bool → Next → Option Next
when stands does = if stands then Some does else None

abbrev pub at_end : Option End → Option Next
at_end None = None
at_end (Some end) = Some (next.End end)

abbrev pub at_close : Option Close → Option Next
at_close None = None
at_close (Some how) = Some (next.Close how)

-- The reads and writes, each where it is wanted and answered at once. A server is read before its client is written to, so that what it gives in several reads
-- goes out by one write; and before its client is read: a client that waits for a response head (RFC 9110 section 10.1.1) is read as soon as it gives something
-- and its server doesn't. A server that isn't asked gives nothing: none is while enough waits for a client that takes it (`readiness.rt`).
abbrev pub moves_of : Wants → Ready → List (Option Next)
moves_of wants ready =
    when (wants.server_write && ready.server_write) (next.Move (turns.ServerTakes unbounded))
    ∷ when (wants.server_read && ready.server_read) (next.Move (turns.ServerGives unbounded))
    ∷ when (wants.client_write && ready.client_write) (next.Move (turns.ClientTakes unbounded))
    ∷ when (wants.client_read && ready.client_read) (next.Move (turns.ClientGives unbounded))
    ∷ []

-- The table. Where a server is wanted nothing is moved before its connect is over.
abbrev pub rows_of : Wants → Ready → List (Option Next)
rows_of wants ready =
    at_end wants.over
    ∷ at_close wants.server_close
    ∷ when (wants.server_open && ready.connect) next.Open
    ∷ when wants.server_open next.Wait
    ∷ moves_of wants ready

-- the first row that stands
abbrev pub first_in : List (Option Next) → Next
first_in [] = next.Wait
first_in (None ∷ rows) = first_in rows
first_in (Some does ∷ rows) = does

-- it is wanted, and answered at once
abbrev pub IsReady : (wanted ready : Bool) → Type 0
IsReady wanted ready = (wanted ≡ true) × (ready ≡ true)

-- what is done is wanted, and its call is answered at once; bytes are moved only where nothing else is to be done
pub record MovesBytes (wants : Wants) (wanted ready : Bool) : Type 0 where
  pub is_ready : IsReady wanted ready
  pub no_open : wants.server_open ≡ false
  pub no_close : wants.server_close ≡ None
  pub going : wants.over ≡ None

abbrev pub IsAllowed : Wants → Ready → Next → Type 0
IsAllowed wants ready (next.End end) = wants.over ≡ Some end
IsAllowed wants ready (next.Close how) = wants.server_close ≡ Some how
IsAllowed wants ready next.Open = IsReady wants.server_open ready.connect
IsAllowed wants ready (next.Move (turns.ClientGives most)) = MovesBytes wants wants.client_read ready.client_read
IsAllowed wants ready (next.Move (turns.ClientTakes most)) = MovesBytes wants wants.client_write ready.client_write
IsAllowed wants ready (next.Move (turns.ServerGives most)) = MovesBytes wants wants.server_read ready.server_read
IsAllowed wants ready (next.Move (turns.ServerTakes most)) = MovesBytes wants wants.server_write ready.server_write
IsAllowed wants ready next.Wait = ⊤

-- a read or write is wanted and answered at once
abbrev pub may_move : Wants → Ready → Bool
may_move wants ready =
    (wants.server_write && ready.server_write) || (wants.server_read && ready.server_read) || (wants.client_write && ready.client_write) || (wants.client_read && ready.client_read)

-- something can be done now
abbrev pub may_act : Wants → Ready → Bool
may_act wants ready =
    is_some wants.over || is_some wants.server_close || (if wants.server_open then ready.connect else may_move wants ready)
