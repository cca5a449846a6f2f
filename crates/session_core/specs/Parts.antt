-- What a part of work makes of the exchanges: it ends no refusal and no reply.
use Rattle.std.specs.Prelude.{◌≡◌, ◌≤◌, ◌+◌, Bool, true, false}
use Rattle.session_core.specs.Waits.{refused_phase}
use Rattle.session_core.specs.declared.Phase.{Phase}
use Rattle.session_core.specs.declared.Phase.TheVariants as phase
use Rattle.session_core.specs.declared.machine.At.{At}

-- a refusal or a reply goes out with no server open
abbrev pub says_itself : Phase → Bool
says_itself phase.Refusing = true
says_itself (phase.Replying kept) = true
says_itself _ = false

-- the exchange in hand has begun, and no server was open for it yet
abbrev pub has_begun : Phase → Bool
has_begun phase.Opening = true
has_begun phase.Refusing = true
has_begun (phase.Replying kept) = true
has_begun _ = false

-- One exchange begins at most, and it is in hand then.
pub record BeginsOne (old new : At) : Type 0 where
  pub one : new.exchanges ≤ old.exchanges + 1
  pub in_hand : has_begun new.phase ≡ false → new.exchanges ≡ old.exchanges

-- A refusal or a reply that goes out stays in hand, also the refusal that takes a refused server's place; of other exchanges one begins at most.
pub record EndsNoneSaid (old new : At) : Type 0 where
  pub stays : says_itself (refused_phase old.phase) ≡ true → new.phase ≡ refused_phase old.phase
  pub same : says_itself (refused_phase old.phase) ≡ true → new.exchanges ≡ old.exchanges
  pub begins : BeginsOne old new
