-- What a move of a connection that has a core comes to.
use Rattle.std.specs.Prelude.{◌≡◌, ℕ, ◌<◌, List, Bool, true, false, Option, Some, None, Result, Ok, Err, is_some, ⊤}
use Rattle.session_model.specs.Meaning.{Meaning}
use Rattle.session_core.specs.History.{Past}
use Rattle.px_link.specs.declared.turns.Turn.{Turn}
use Rattle.px_link.specs.Turns.{rest_of}
use Rattle.px_link.specs.Link.{Seen}
use Rattle.px_link.specs.Net.{Place, NetSeen}
use Rattle.htx_drive.specs.Machine.{CoreSeen}
use Rattle.htx_drive.specs.declared.Ran.{Ran}
use Rattle.htx_drive.specs.declared.SessionFault.{SessionFault}
use Rattle.htx_drive.specs.declared.SessionFault.TheVariants as faults
use Rattle.htx_drive.specs.Weave.Woven.{EndedSo, GivenUp, Pays, Going}
use Rattle.htx_drive.specs.Weave.Single.{GivesUp}
use Rattle.htx_drive.specs.declared.weave.conn.Conn.{Conn}
use Rattle.htx_drive.specs.declared.weave.mover.Went.{Went}
use Rattle.htx_drive.specs.declared.weave.mover.Went.TheVariants as went

abbrev pub GoesAs : {E : Type 0} → Result Went E → (on ended spent lost : Type 0) → Type 0
GoesAs (Ok went.On) on ended spent lost = on
GoesAs (Ok went.Ended) on ended spent lost = ended
GoesAs (Ok went.Spent) on ended spent lost = spent
GoesAs (Err fault) on ended spent lost = lost

-- it has ended, and says how: as its session, or given up, since a write to its client failed
abbrev pub OverSo : {C L : Type 0} → (M : Meaning) → (stands : C → Past → Type 0) → (sees : C → CoreSeen) → (all : List Turn) → (seen : L → Seen) → (wrote : L → List ℕ → Type 0) → (first client : L) → Place → (first_net net : NetSeen) → Option (Result Ran SessionFault) → (count : ℕ) → Type 0
OverSo M stands sees all seen wrote first client to first_net net None count = ⊥
OverSo M stands sees all seen wrote first client to first_net net (Some (Ok ran)) count = (ahead : List Turn) × EndedSo M stands sees all ahead seen wrote first client to first_net net ran count
OverSo M stands sees all seen wrote first client to first_net net (Some (Err fault)) count = (fault ≡ faults.ClientWrite) × GivenUp M stands sees all seen wrote first client true to first_net net count

-- it may be called again with its core, or has ended and has no server
abbrev pub HoldsOn : {L : Type 0} → Went → (serving : Bool) → (server : Option L) → (lent : ℕ) → Option (Result Ran SessionFault) → Type 0
HoldsOn went.On serving server lent ran = (serving ≡ is_some server) × (is_some server ≡ true → 0 < lent) × (ran ≡ None)
HoldsOn went.Ended serving server lent ran = (server ≡ None) × (is_some ran ≡ true)
HoldsOn went.Spent serving server lent ran = (serving ≡ is_some server) × (is_some server ≡ true → 0 < lent) × (ran ≡ None)

abbrev pub SpentSo : Went → ℕ → Type 0
SpentSo went.On left = ⊤
SpentSo went.Ended left = ⊤
SpentSo went.Spent left = left ≡ 0

-- where it goes on, and no turn was handed in, it took something of what was left
abbrev pub LowersSo : Option Turn → Went → (before left : ℕ) → Type 0
LowersSo turn went.On before left = turn ≡ None → left < before
LowersSo turn went.Ended before left = ⊤
LowersSo turn went.Spent before left = ⊤

-- where it has ended
abbrev pub OnEnded : Went → Type 0 → Type 0
OnEnded went.On P = ⊤
OnEnded went.Ended P = P
OnEnded went.Spent P = ⊤

-- its session is under way over this core, and it has paid so much that with what is left it comes to this total
abbrev pub GoesOn : {C L N : Type 0} → (C → Past → Type 0) → (C → CoreSeen) → (L → Seen) → (L → List ℕ → Type 0) → (N → NetSeen) → Place → (all ahead : List Turn) → (first : L) → (first_net : N) → (total left : ℕ) → Conn L N → C → Type 0
GoesOn stands sees seen wrote sees_net to all ahead first first_net total left conn core = Pays total left (Going stands sees all ahead core seen wrote first conn.client conn.server to (sees_net first_net) (sees_net conn.net))

-- By its answer it goes on behind its turn, has ended, has its turn still ahead, or can't go on; `of_core` says of which core, `ended` what else holds
-- behind its end, and `of_lost` of which core where there was no memory.
abbrev pub MovesOn : {C L N E : Type 0} → Result Went E → Meaning → (C → Past → Type 0) → (C → CoreSeen) → (L → Seen) → (L → List ℕ → Type 0) → (N → NetSeen) → Place → (all ahead : List Turn) → (first : L) → (first_net : N) → (total left : ℕ) → Conn L N → (of_core : (C → Type 0) → Type 0) → (ended : Type 0 → Type 0) → (of_lost : (C → Type 0) → Type 0) → Type 0
MovesOn result M stands sees seen wrote sees_net to all ahead first first_net total left conn of_core ended of_lost =
    GoesAs result (of_core (λ core. GoesOn stands sees seen wrote sees_net to all (rest_of ahead) first first_net total left conn core))
    (ended (Pays total left (OverSo M stands sees all seen wrote first conn.client to (sees_net first_net) (sees_net conn.net) conn.ran)))
    (of_core (λ core. GoesOn stands sees seen wrote sees_net to all ahead first first_net total left conn core))
    (of_lost (λ core. Pays total left (λ count. GivesUp M stands sees all core seen wrote first conn.client to (sees_net first_net) (sees_net conn.net) count false)))
