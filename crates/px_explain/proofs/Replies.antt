-- What the client is sent for a reply, by what its rules leave.
use Rattle.std.proofs.Common.{inl, inr, ◌≡◌, ◌≤◌, ℕ, List, [], ◌++◌, Bool, true, false, map, refl, sym, ap, subst, ◌∙◌}
use Rattle.std.specs.Prelude.{Some, unwrap_or, nat_le, ◌↔◌, IsTrue}
use Rattle.std.proofs.lemmas.Bool.{cases_Bool, le-leb, leb-true, false≢true}
use Rattle.std.proofs.lemmas.List.{append-nil}
use Rattle.http_model.specs.Block.{Block, Header}
use Rattle.http_model.specs.Blocks.{load, Fits}
use Rattle.http_model.specs.Finish.{close_field}
use Rattle.http_model.specs.Head.{Field, StartLine, RequestLine, StatusLine, Head, Message, with_head, head_blocks, front_blocks, message_blocks, ended_trailers, trailer_block}
use Rattle.http_model.specs.Refusal.{closing}
use Rattle.header_ops.specs.Headers.{HasEnd, with_header}
use Rattle.htx_view.specs.Lines.{status_in}
use Rattle.session_model.specs.Env.{Pass, Reply, Deny, Fail, Edited, Plain, reply_env}
use Rattle.session_model.specs.Amending.{closing_fits}
use Rattle.px_sample.specs.Variables.{Variables}
use Rattle.http_rules.specs.declared.config.Config.{Config}
use Rattle.http_rules.specs.declared.action.side.Side.{Side}
use Rattle.http_rules.specs.declared.verdict.Verdict.{Verdict}
use Rattle.http_rules.specs.declared.verdict.Verdict.TheVariants as verdicts
use Rattle.http_rules.specs.Action.Given.{Env}
use Rattle.http_rules.specs.Rules.{Comes, rules_of, amended_by}
use Rattle.http_rules.specs.Run.{Leaves}
use Rattle.forward_core.specs.Meaning.Product.{meaning_of}
use denote.Ref.{Bor}
use Rattle.http_rules.specs.declared.action.side.Side.TheVariants.{Answer}
use Rattle.http_rules.specs.declared.rule.rule.Rule.{Rule}
use Rattle.http_rules.specs.Action.Outcome.{IsAt}
use Rattle.px_explain.specs.declared.telling.RuleList.{RuleList}
use Rattle.px_explain.specs.declared.walk.Teller.{Teller}
use Rattle.px_explain.specs.Told.{is_pass, ToldOf}
use Rattle.px_explain.specs.Traced.{code_of, plain_code, replied}
use Rattle.px_explain.specs.Walked.{IsReply}

-- the status of a head that stands in an array is that of its line
code_at : (line : StartLine) (fields : List Field) (body : List ℕ) → unwrap_or (status_in (front_blocks (record { line = line; fields = fields }) body)) 0 ≡ code_of line
code_at (RequestLine method target version) fields body = refl
code_at (StatusLine version status reason) fields body = refl

pub code_front : (head : Head) (body : List ℕ) (blocks : List Block) → blocks ≡ front_blocks head body → unwrap_or (status_in blocks) 0 ≡ code_of head.line
code_front head body blocks is = ap (λ (bs : List Block). unwrap_or (status_in bs) 0) is ∙ code_at head.line head.fields body

pub code_head : (head : Head) (blocks : List Block) → blocks ≡ head_blocks head → unwrap_or (status_in blocks) 0 ≡ code_of head.line
code_head head blocks is = code_front head [] blocks (is ∙ sym (append-nil (head_blocks head)))

-- a message without trailers is its head with its body
pub front_of : (m : Message) → m.trailers ≡ [] → message_blocks m ≡ front_blocks m.head m.body
front_of m none = ap (λ ts. front_blocks m.head m.body ++ ended_trailers (map trailer_block ts)) none ∙ append-nil (front_blocks m.head m.body)

-- ---- what rules on all that the client is sent come to

-- some rule failed
pub failed : (side : Side) (comes : Comes) (verdict : Verdict) (blocks reply : List Block) (vars : Variables) → Leaves side comes verdict blocks vars reply → is_pass verdict ≡ false → amended_by comes ≡ Plain
failed side (Pass left) verdicts.Pass blocks reply vars l off = absurd (false≢true (sym off))
failed side (Pass left) verdicts.Reply blocks reply vars l off = absurd l
failed side (Pass left) (verdicts.Deny code) blocks reply vars l off = absurd l
failed side (Pass left) (verdicts.Fail why) blocks reply vars l off = absurd l
failed side (Reply m left) verdict blocks reply vars l off = refl
failed side (Deny code left) verdict blocks reply vars l off = refl
failed side (Fail why left) verdict blocks reply vars l off = refl

-- they passed, and this is what they left
pub record Passed (comes : Comes) (blocks : List Block) (vars : Variables) : Type 0 where
  pub left : Env
  pub is : comes ≡ Pass left
  pub blocks_are : blocks ≡ front_blocks left.head left.body
  pub vars_are : vars ≡ left.vars

pub passed : (side : Side) (comes : Comes) (verdict : Verdict) (blocks reply : List Block) (vars : Variables) → Leaves side comes verdict blocks vars reply → is_pass verdict ≡ true → Passed comes blocks vars
passed side (Pass left) verdicts.Pass blocks reply vars l on = record { left = left; is = refl; blocks_are = l.0.blocks_are; vars_are = l.0.vars_are }
passed side (Pass left) verdicts.Reply blocks reply vars l on = absurd l
passed side (Pass left) (verdicts.Deny code) blocks reply vars l on = absurd l
passed side (Pass left) (verdicts.Fail why) blocks reply vars l on = absurd l
passed side (Reply m left) verdicts.Pass blocks reply vars l on = absurd l
passed side (Reply m left) verdicts.Reply blocks reply vars l on = absurd (false≢true on)
passed side (Reply m left) (verdicts.Deny code) blocks reply vars l on = absurd (false≢true on)
passed side (Reply m left) (verdicts.Fail why) blocks reply vars l on = absurd (false≢true on)
passed side (Deny code left) verdicts.Pass blocks reply vars l on = absurd l
passed side (Deny code left) verdicts.Reply blocks reply vars l on = absurd (false≢true on)
passed side (Deny code left) (verdicts.Deny told) blocks reply vars l on = absurd (false≢true on)
passed side (Deny code left) (verdicts.Fail why) blocks reply vars l on = absurd (false≢true on)
passed side (Fail why left) verdicts.Pass blocks reply vars l on = absurd l
passed side (Fail why left) verdicts.Reply blocks reply vars l on = absurd (false≢true on)
passed side (Fail why left) (verdicts.Deny code) blocks reply vars l on = absurd (false≢true on)
passed side (Fail why left) (verdicts.Fail told) blocks reply vars l on = absurd (false≢true on)

-- ---- a reply

-- `connection: close` behind the fields of a message
abbrev pub Closes : Type 0
Closes = (m : Message) → with_header (Header close_field.0 close_field.1) (message_blocks m) ≡ message_blocks (closing m)

-- the body stays
abbrev pub BodyStays : Type 0
BodyStays = (size : ℕ) (rules : List Rule) (env left : Env) → rules_of size rules env ≡ Pass left → left.body ≡ env.body

-- whether it fits, as the array tells
fits_so : (load size : ℕ) (fits : Bool) → (IsTrue fits ↔ (load ≤ size)) → nat_le load size ≡ fits
fits_so load size true h = le-leb load size (h.0 refl)
fits_so load size false h =
    elim (cases_Bool (nat_le load size)) [
      | inl within ↦ absurd (false≢true (h.1 (leb-true load size within)))
      | inr past ↦ past
    ]

module _ (cfg : Config) (m : Message) (method : List ℕ) (vars : Variables) where
  abbrev env : Env
  env = reply_env vars method m

  abbrev comes : Comes
  comes = rules_of cfg.limits.bufsize cfg.after env

  -- a rule failed
  pub status_failed : amended_by comes ≡ Plain → (replied cfg m method vars).answer ≡ Some plain_code
  status_failed e = rw e refl

  module _ (none : m.trailers ≡ []) (stays : BodyStays) (blocks : List Block) (now : Variables) (p : Passed comes blocks now) where
    edits : amended_by comes ≡ Edited p.left.head p.left.vars
    edits = ap (λ (c : Comes). amended_by c) p.is

    -- what stands there is the message with the edited head
    pub edited : blocks ≡ message_blocks (with_head m p.left.head)
    edited =
        p.blocks_are ∙ (ap (λ (b : List ℕ). front_blocks p.left.head b) (stays cfg.limits.bufsize cfg.after env p.left p.is)
        ∙ sym (front_of (with_head m p.left.head) none))

    pub ends : ((x : Message) → HasEnd (message_blocks x)) → HasEnd blocks
    ends end = subst (λ bs. HasEnd bs) (sym edited) (end (with_head m p.left.head))

    module _ (closes : Closes) (size : ℕ) (sized : size ≡ cfg.limits.bufsize) (room : Bool) (tells : IsTrue room ↔ Fits (with_header (Header close_field.0 close_field.1) blocks) size) where
      closed : with_header (Header close_field.0 close_field.1) blocks ≡ message_blocks (closing (with_head m p.left.head))
      closed = ap (λ bs. with_header (Header close_field.0 close_field.1) bs) edited ∙ closes (with_head m p.left.head)

      within : closing_fits (meaning_of cfg) (with_head m p.left.head) ≡ room
      within = ap (λ n. nat_le (load (message_blocks (closing (with_head m p.left.head)))) n) (sym sized)
          ∙ ap (λ bs. nat_le (load bs) size) (sym closed) ∙ fits_so (load (with_header (Header close_field.0 close_field.1) blocks)) size room tells

      -- it is too long with that field
      pub status_long : room ≡ false → (replied cfg m method vars).answer ≡ Some plain_code
      status_long tight = let fits : closing_fits (meaning_of cfg) (with_head m p.left.head) ≡ false = within ∙ tight in rw edits (rw fits refl)

      -- it is sent
      pub status_sent : room ≡ true → (status : ℕ) → status ≡ unwrap_or (status_in blocks) 0 → Some status ≡ (replied cfg m method vars).answer
      status_sent fit status is =
          let fits : closing_fits (meaning_of cfg) (with_head m p.left.head) ≡ true = within ∙ fit in
          ap (λ (n : ℕ). Some n) (is ∙ code_front p.left.head p.left.body blocks p.blocks_are) ∙ rw edits (rw fits refl)

-- ---- what is told

-- rules are told of alike in arrays of the same size
pub sized : (a b : ℕ) (list : RuleList) (side : Side) (env : Env) (before : Teller) (verdict : Verdict) (teller : Teller) (blocks reply : List Block) → a ≡ b
    → ToldOf list side a env before verdict teller blocks reply → ToldOf list side b env before verdict teller blocks reply
sized a b list side env before verdict teller blocks reply same t = subst (λ (n : ℕ). ToldOf list side n env before verdict teller blocks reply) same t

-- a reply stands in an array for the rules on all that the client is sent
pub reply_at : (bor : Bor (List ℕ)) (method : List ℕ) (m : Message) (vars : Variables) (blocks : List Block) → bor.now ≡ method → IsReply m blocks → IsAt (Answer bor) (reply_env vars method m) blocks vars
reply_at bor method m vars blocks same reply = record { on = (refl, sym same); blocks_are = reply.blocks ∙ front_of m reply.none; vars_are = refl }
