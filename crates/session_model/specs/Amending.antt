-- What the client is sent for a reply or a refusal, behind the rules that run on all that it is sent.
use Rattle.std.specs.Prelude.{ℕ, List, Bool, false, nat_le, if◌then◌else◌, Option, Some, None}
use Rattle.http_model.specs.Blocks.{load}
use Rattle.http_model.specs.Head.{Message, with_head, message_blocks}
use Rattle.http_model.specs.Refusal.{refusal, closing}
use Rattle.session_model.specs.Env.{Amended, Edited, Plain, reply_env}
use Rattle.session_model.specs.Meaning.{Meaning}

-- the message with `connection: close` is within the buffer, its body counted
abbrev pub closing_fits : (M : Meaning) → Message → Bool
closing_fits M m = nat_le (load (message_blocks (closing m))) M.limits.bufsize

-- A reply or a refusal as these rules leave it. It is taken without its `connection: close`, its body counted. It is plain
-- where a rule fails, and where the edited list with `connection: close` doesn't fit.
abbrev pub amended : (M : Meaning) → Message → (method : List ℕ) → M.Vars → Amended M.Vars
amended M m method vars = fitting (M.after_rules (reply_env vars method m))
  where
    fitting : Amended M.Vars → Amended M.Vars
    fitting (Edited head after) = if closing_fits M (with_head m head) then Edited head after else Plain
    fitting Plain = Plain

-- the refusal in place of all that can't be sent otherwise, on which no rule runs
abbrev pub plain_refusal : Message
plain_refusal = closing (refusal 500)

-- what the client is sent for a reply: as edited, with `connection: close` as its last field where the connection isn't kept
abbrev pub reply_sent : (M : Meaning) → Message → (method : List ℕ) → M.Vars → (keep : Bool) → Message
reply_sent M m method vars keep = by_rules (amended M m method vars)
  where
    by_rules : Amended M.Vars → Message
    by_rules (Edited head after) = if keep then with_head m head else closing (with_head m head)
    by_rules Plain = plain_refusal

-- what the client is sent for a refusal with this code, which never keeps the connection
abbrev pub refusal_sent : (M : Meaning) → (code : ℕ) → (method : List ℕ) → M.Vars → Message
refusal_sent M code method vars = reply_sent M (refusal code) method vars false

-- the variables behind a reply that lets the connection go on: where it is to be kept and isn't plain
abbrev pub behind_reply : (M : Meaning) → Message → (method : List ℕ) → M.Vars → (keep : Bool) → Option M.Vars
behind_reply M m method vars keep = by_rules (amended M m method vars)
  where
    by_rules : Amended M.Vars → Option M.Vars
    by_rules (Edited head after) = if keep then Some after else None
    by_rules Plain = None
