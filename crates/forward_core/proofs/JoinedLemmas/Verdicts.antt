-- What the rules of requests leave, by their verdict.
use Rattle.std.proofs.Common.{◌≡◌, ℕ, List, true, refl, sym, ap, ◌∙◌}
use Rattle.htx_model.specs.Block.{Block}
use Rattle.http_model.specs.declared.Why.{Why}
use Rattle.http_model.specs.Head.{Message, message_blocks}
use Rattle.px_sample.specs.Variables.{Variables}
use Rattle.http_rules.specs.declared.action.side.Side.TheVariants as sides
use Rattle.http_rules.specs.Action.Given.{Env}
use Rattle.http_rules.specs.Action.Outcome.{IsAt}
use Rattle.http_rules.specs.declared.verdict.Verdict.TheVariants as verdicts
use Rattle.http_rules.specs.Run.{Leaves}
use Rattle.http_rules.specs.Rules.{Comes}
use Rattle.session_model.specs.Env.{Pass, Reply, Deny, Fail, method_of, method_in}
use Rattle.forward_core.specs.Joined.Asks.{method_at}
use Rattle.forward_core.proofs.JoinedLemmas.Methods.{method_front}

-- the rules came to this on an environment, which the array and the variables hold
pub record Left (comes : Comes) (by : Env → Comes) (blocks : List Block) (vars : Variables) : Type 0 where
  pub left : Env
  pub is : comes ≡ by left
  pub at : IsAt sides.Request left blocks vars

pub passes_with : (comes : Comes) (blocks : List Block) (vars : Variables) (reply : List Block) → Leaves sides.Request comes verdicts.Pass blocks vars reply → Left comes (λ left. Pass left) blocks vars
passes_with (Pass left) blocks vars reply h = record { left = left; is = refl; at = h.0 }
passes_with (Reply m left) blocks vars reply h = absurd h
passes_with (Deny code left) blocks vars reply h = absurd h
passes_with (Fail why left) blocks vars reply h = absurd h

pub denies_with : (comes : Comes) (told : ℕ) (blocks : List Block) (vars : Variables) (reply : List Block) → Leaves sides.Request comes (verdicts.Deny told) blocks vars reply → Left comes (λ left. Deny told left) blocks vars
denies_with (Pass left) told blocks vars reply h = absurd h
denies_with (Reply m left) told blocks vars reply h = absurd h
denies_with (Deny code left) told blocks vars reply h = record { left = left; is = ap (λ (x : ℕ). Deny x left) (sym h.0); at = h.1 }
denies_with (Fail why left) told blocks vars reply h = absurd h

pub fails_with : (comes : Comes) (told : Why) (blocks : List Block) (vars : Variables) (reply : List Block) → Leaves sides.Request comes (verdicts.Fail told) blocks vars reply → Left comes (λ left. Fail told left) blocks vars
fails_with (Pass left) told blocks vars reply h = absurd h
fails_with (Reply m left) told blocks vars reply h = absurd h
fails_with (Deny code left) told blocks vars reply h = absurd h
fails_with (Fail why left) told blocks vars reply h = record { left = left; is = ap (λ (x : Why). Fail x left) (sym h.0); at = h.1 }

-- a reply, which stands to be said
pub record LeftReply (comes : Comes) (blocks : List Block) (vars : Variables) (reply : List Block) : Type 0 where
  pub message : Message
  pub left : Env
  pub is : comes ≡ Reply message left
  pub at : IsAt sides.Request left blocks vars
  pub stands : reply ≡ message_blocks message

pub replies_with : (comes : Comes) (blocks : List Block) (vars : Variables) (reply : List Block) → Leaves sides.Request comes verdicts.Reply blocks vars reply → LeftReply comes blocks vars reply
replies_with (Pass left) blocks vars reply h = absurd h
replies_with (Reply m left) blocks vars reply h = record { message = m; left = left; is = refl; at = h.0; stands = h.1 }
replies_with (Deny code left) blocks vars reply h = absurd h
replies_with (Fail why left) blocks vars reply h = absurd h

-- the method in the environment of a request is that of its head
method_in_head : (left : Env) → left.is_request ≡ true → method_in left ≡ method_of left.head.line
method_in_head left on = rw on refl

pub method_left : (left : Env) (blocks : List Block) (vars : Variables) → IsAt sides.Request left blocks vars → method_at blocks ≡ method_of left.head.line
method_left left blocks vars at = method_front blocks left.head left.body at.blocks_are

pub method_asked : (left : Env) (blocks : List Block) (vars : Variables) → IsAt sides.Request left blocks vars → method_at blocks ≡ method_in left
method_asked left blocks vars at = method_left left blocks vars at ∙ sym (method_in_head left at.on)
