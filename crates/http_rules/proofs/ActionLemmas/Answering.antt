-- Where a redirect leads.
use Rattle.std.proofs.Common.{◌≡◌, ℕ, ◌≤◌, List, [], ◌∷◌, ◌++◌, Bool, true, false, cond, map, refl, sym, ap, ◌∙◌, subst, length, arith}
use Rattle.std.specs.Prelude.{Ok, Err, nat_le}
use Rattle.std.proofs.lemmas.Bool.{lt-leb, false≢true}
use Rattle.http_model.specs.declared.Why.TheVariants.{Room, Bytes}
use Rattle.http_model.specs.Block.{Block, EndHeaders}
use Rattle.http_model.specs.Blocks.{append_data, load}
use Rattle.http_model.specs.Head.{StartLine, RequestLine, StatusLine, line_block, header_block, message_blocks}
use Rattle.http_model.specs.Refusal.{closing}
use Rattle.http_model.specs.Reply.{redirect_reply}
use Rattle.http_fetch.specs.Fetches.{host_in}
use Rattle.px_bytes.specs.Blanks.{trimmed}
use Rattle.px_sample.specs.Variables.{Variables}
use Rattle.uri_parts.specs.Target.{target_parts}
use Rattle.http_rules.specs.declared.rule.reply.RedirectTo.{RedirectTo}
use Rattle.http_rules.specs.declared.action.side.Side.{Side}
use Rattle.http_rules.specs.declared.action.stepped.Stepped.{Stepped}
use Rattle.http_rules.specs.declared.action.stepped.Stepped.TheVariants.{Failed}
use Rattle.http_rules.specs.Action.Given.{Env, text_on}
use Rattle.http_rules.specs.Action.Edits.{are_value_bytes}
use Rattle.http_rules.specs.Action.Replies.{target_of, location_by, location_on, format_of, fitting, led_to, redirected}
use Rattle.http_rules.specs.Action.Joining.{Keeps}
use Rattle.http_rules.specs.Action.Outcome.{IsAt, IsMade, Answers}
use Rattle.http_rules.specs.Action.Written.{led_target}
use Rattle.http_rules.proofs.ActionLemmas.Joining.{held_good, trims, is_long}

-- a location counts in the reply
counted : (code : ℕ) (location : List ℕ) → length location ≤ load (message_blocks (closing (redirect_reply code location)))
counted code location = omega arith

-- the redirect to what was joined
pub joined_over : (size code : ℕ) (wanted held : List ℕ) → Keeps size wanted false held → led_to size code wanted ≡ Err Room
joined_over size code wanted held keeps =
    ap (λ (t : Bool). cond t (fitting size (redirect_reply code (trimmed wanted))) (Err Bytes)) keeps.good
    ∙ ap (λ (t : Bool). cond t (Ok (redirect_reply code (trimmed wanted))) (Err Room))
    (lt-leb (load (message_blocks (closing (redirect_reply code (trimmed wanted))))) size (omega (arith, is_long size wanted held keeps, counted code (trimmed wanted))))

pub joined_held : (size code : ℕ) (wanted held : List ℕ) → Keeps size wanted true held → led_to size code held ≡ led_to size code wanted
joined_held size code wanted held keeps =
    ap (λ (t : Bool). cond t (fitting size (redirect_reply code (trimmed held))) (Err Bytes)) (held_good size wanted held true keeps)
    ∙ ap (λ (l : List ℕ). fitting size (redirect_reply code l)) (trims size wanted held keeps)
    ∙ sym (ap (λ (t : Bool). cond t (fitting size (redirect_reply code (trimmed wanted))) (Err Bytes)) keeps.good)

of_line : (line : StartLine) (rest : List Block) → led_target (line_block line ∷ rest) ≡ target_of line
of_line (RequestLine m t v) rest = refl
of_line (StatusLine v s r) rest = refl

-- the target that the array begins with is that of the environment
pub target_at : (side : Side) (env : Env) (blocks : List Block) (vars : Variables) → IsAt side env blocks vars → led_target blocks ≡ target_of env.head.line
target_at side env blocks vars at = ap led_target at.blocks_are ∙ of_line env.head.line ((map header_block env.head.fields ++ EndHeaders ∷ []) ++ append_data [] env.body)

-- the redirect by a location that is told of the array
pub located : (to told : RedirectTo) (drop_query append_slash : Bool) (text host target given wanted : List ℕ) (size code : ℕ) (step : Stepped) (blocks : List Block)
    → to ≡ told → given ≡ target → wanted ≡ location_by told drop_query append_slash text host (target_parts given)
    → Answers (led_to size code wanted) step blocks → Answers (led_to size code (location_by to drop_query append_slash text host (target_parts target))) step blocks
located to told drop_query append_slash text host target given wanted size code step blocks is same led came =
    let location : wanted ≡ location_by to drop_query append_slash text host (target_parts target) =
    led ∙ ap (λ (t : List ℕ). location_by told drop_query append_slash text host (target_parts t)) same
    ∙ ap (λ (x : RedirectTo). location_by x drop_query append_slash text host (target_parts target)) (sym is) in
    subst (λ (l : List ℕ). Answers (led_to size code l) step blocks) location came

-- the text of its format is longer than the array
pub unled : (size code : ℕ) (to : RedirectTo) (drop_query append_slash : Bool) (env : Env) (fits : Bool) (text held : List ℕ) (blocks : List Block)
    → text ≡ text_on size env (format_of to) → IsMade size text fits held → fits ≡ false → blocks ≡ [] → Answers (redirected size to code drop_query append_slash env) (Failed Bytes) blocks
unfolding redirected
unled size code to drop_query append_slash env fits text held blocks is made bad none =
    at (nat_le (length (text_on size env (format_of to))) size) (ap (λ (t : List ℕ). nat_le (length t) size) (sym is) ∙ made.within ∙ bad)
  where
    at : (t : Bool) → t ≡ false
        → Answers (cond t (led_to size code (location_on to drop_query append_slash (text_on size env (format_of to)) env)) (Err Bytes)) (Failed Bytes) blocks
    at true e = absurd (false≢true (sym e))
    at false e = (refl, none)

-- the redirect of the array is that of the environment
pub led : (side : Side) (size code : ℕ) (to : RedirectTo) (drop_query append_slash : Bool) (env : Env) (fits : Bool) (text held lent : List ℕ) (old : List Block) (vars : Variables) (step : Stepped) (blocks : List Block)
    → IsAt side env old vars → text ≡ text_on size env (format_of to) → IsMade size text fits held → fits ≡ true → lent ≡ held
    → Answers (led_to size code (location_by to drop_query append_slash lent (host_in old) (target_parts (led_target old)))) step blocks
    → Answers (redirected size to code drop_query append_slash env) step blocks
unfolding redirected
led side size code to drop_query append_slash env fits text held lent old vars step blocks at_env is made good same came =
    at (nat_le (length (text_on size env (format_of to))) size) (ap (λ (t : List ℕ). nat_le (length t) size) (sym is) ∙ made.within ∙ good)
  where
    lent_is : lent ≡ text_on size env (format_of to)
    lent_is = same ∙ made.holds good ∙ is

    location : location_by to drop_query append_slash lent (host_in old) (target_parts (led_target old)) ≡ location_on to drop_query append_slash (text_on size env (format_of to)) env
    location =
        ap (λ (t : List ℕ). location_by to drop_query append_slash t (host_in old) (target_parts (led_target old))) lent_is
        ∙ ap (λ (t : List ℕ). location_by to drop_query append_slash (text_on size env (format_of to)) (host_in old) (target_parts t)) (target_at side env old vars at_env)
        ∙ ap (λ (bs : List Block). location_by to drop_query append_slash (text_on size env (format_of to)) (host_in bs) (target_parts (target_of env.head.line))) at_env.blocks_are

    at : (t : Bool) → t ≡ true
        → Answers (cond t (led_to size code (location_on to drop_query append_slash (text_on size env (format_of to)) env)) (Err Bytes)) step blocks
    at true e = subst (λ (l : List ℕ). Answers (led_to size code l) step blocks) location came
    at false e = absurd (false≢true e)
