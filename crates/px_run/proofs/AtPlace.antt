-- What is so of what stands at a place.
use Rattle.std.proofs.Common.{◌≡◌, ℕ, List, Bool, true, Option, Some, None, refl, sym, subst}
use Rattle.std.specs.Prelude.{is_some}
use Rattle.session_model.specs.Meaning.{Meaning}
use Rattle.session_core.specs.History.{Past}
use Rattle.px_link.specs.Link.{Seen}
use Rattle.px_peer.specs.declared.Pair.{Pair}
use Rattle.px_link.specs.Net.{Place, NetSeen}
use Rattle.htx_drive.specs.Machine.{CoreSeen}
use Rattle.px_run.specs.Connection.{LookedSo}
use Rattle.px_run.specs.Hall.{LookedAt, GaveUp, GaveUpAt, HasEnded}
use Rattle.px_run.specs.declared.connection.Connection.{Connection}
use Rattle.px_run.specs.declared.connection.Looked.{Looked}
use Rattle.px_run.specs.declared.connection.Looked.TheVariants as looks
use Rattle.px_run.specs.declared.plan.Opening.{Opening}

-- it has ended
pub ended_is : {C L N : Type 0} (at : Option (Connection C L N)) (c : Connection C L N) → at ≡ Some c → HasEnded at → is_some c.conn.ran ≡ true
ended_is {C} {L} {N} at c e h = subst (λ (o : Option (Connection C L N)). HasEnded o) e h

pub looked_at_some : {C L N : Type 0} (looked : Looked) (at : Option (Connection C L N)) (b c : Connection C L N) → at ≡ Some b → c.number ≡ b.number → LookedSo looked b.number b.conn.ran c.conn.ran → LookedAt looked at (Some c)
looked_at_some {C} {L} {N} looked at b c e n l = subst (λ (o : Option (Connection C L N)). LookedAt looked o (Some c)) (sym e) (n, l)

pub looked_at_none : {C L N : Type 0} (at : Option (Connection C L N)) → at ≡ None → LookedAt looks.Waits at at
looked_at_none None e = λ number ran. refl
looked_at_none (Some c) e = cc

module _ {C L N : Type 0} (M : Option Pair → Meaning) (stands : Option Pair → C → Past → Type 0) (sees : C → CoreSeen) (sound rested : C → Type 0) (seen : L → Seen) (wrote : L → List ℕ → Type 0) (tells : L → Option Pair → Type 0) (accepts_header : Bool) (opening : Opening) (sees_net : N → NetSeen) (to : Place) where
  pub gave_up_some : (old_net net : NetSeen) (at : Option (Connection C L N)) (c : Connection C L N) → at ≡ Some c → GaveUp M stands sees sound rested seen wrote tells accepts_header opening sees_net to old_net net c → GaveUpAt M stands sees sound rested seen wrote tells accepts_header opening sees_net to old_net net at
  gave_up_some old_net net at c e h = subst (λ (o : Option (Connection C L N)). GaveUpAt M stands sees sound rested seen wrote tells accepts_header opening sees_net to old_net net o) (sym e) h

  pub gave_up_none : (net : NetSeen) (at : Option (Connection C L N)) → at ≡ None → GaveUpAt M stands sees sound rested seen wrote tells accepts_header opening sees_net to net net at
  gave_up_none net at e = subst (λ (o : Option (Connection C L N)). GaveUpAt M stands sees sound rested seen wrote tells accepts_header opening sees_net to net net o) (sym e) refl
