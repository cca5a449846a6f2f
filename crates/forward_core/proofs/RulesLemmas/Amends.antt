-- What the rules on all that a client is sent leave of a reply.
use Rattle.std.proofs.Common.{inl, inr, ◌≡◌, ◌≤◌, ℕ, List, [], ◌++◌, Bool, true, false, map, refl, sym, ap, subst, ◌∙◌}
use Rattle.std.specs.Prelude.{None, nat_le, ◌↔◌, ◌&&◌, IsTrue}
use Rattle.std.proofs.lemmas.Bool.{cases_Bool, le-leb, leb-true, false≢true}
use Rattle.std.proofs.lemmas.List.{append-nil}
use Rattle.http_model.specs.Block.{Block, Header}
use Rattle.http_model.specs.Blocks.{load, Fits}
use Rattle.http_model.specs.Finish.{close_field}
use Rattle.htx_arena.specs.Layout.Contents.{Contents}
use Rattle.header_ops.specs.Headers.{HasEnd, with_header}
use Rattle.http_rules.specs.declared.action.side.Side.{Side}
use Rattle.http_rules.specs.declared.config.Config.{Config}
use Rattle.http_rules.specs.declared.rule.rule.Rule.{Rule}
use Rattle.http_rules.specs.declared.verdict.Verdict.{Verdict as Told}
use Rattle.http_rules.specs.declared.verdict.Verdict.TheVariants as verdicts
use Rattle.http_rules.specs.Action.Given.{Env}
use Rattle.http_rules.specs.Rules.{Comes, rules_of, after_of, amended_by}
use Rattle.http_rules.specs.Run.{Leaves}
use Rattle.forward_core.specs.Meaning.Product.{meaning_of}
use Rattle.http_model.specs.Head.{Head, Message, with_head, front_blocks, message_blocks, ended_trailers, trailer_block}
use Rattle.http_model.specs.Refusal.{closing}
use Rattle.session_model.specs.Env.{Pass, Reply, Deny, Fail, Amended, Edited, Plain, reply_env}
use Rattle.session_model.specs.Meaning.{Meaning}
use Rattle.session_model.specs.Amending.{amended, behind_reply, closing_fits, plain_refusal}
use Rattle.px_sample.specs.Variables.{Variables}
use Rattle.forward_core.specs.Rules.Ruling.{is_pass, AmendsFront, IsReply, AmendsReply, SaysReply}

-- ---- replies

-- a message without trailers is its head with its body
pub front_of : (m : Message) → m.trailers ≡ [] → message_blocks m ≡ front_blocks m.head m.body
front_of m none = ap (λ ts. front_blocks m.head m.body ++ ended_trailers (map trailer_block ts)) none ∙ append-nil (front_blocks m.head m.body)

-- rules that come to this leave it of a message with this body
left_of : (side : Side) (comes : Comes) (verdict : Told) (body : List ℕ) (blocks : List Block) (vars : Variables) → ((left : Env) → comes ≡ Pass left → left.body ≡ body) → Leaves side comes verdict blocks vars []
    → AmendsFront body (amended_by comes) (is_pass verdict) blocks vars
left_of side (Pass left) verdicts.Pass body blocks vars stays h = (h.0.blocks_are ∙ ap (λ (bytes : List ℕ). front_blocks left.head bytes) (stays left refl), h.0.vars_are)
left_of side (Pass left) verdicts.Reply body blocks vars stays h = absurd h
left_of side (Pass left) (verdicts.Deny told) body blocks vars stays h = absurd h
left_of side (Pass left) (verdicts.Fail told) body blocks vars stays h = absurd h
left_of side (Reply m left) verdicts.Pass body blocks vars stays h = absurd h
left_of side (Reply m left) verdicts.Reply body blocks vars stays h = tt
left_of side (Reply m left) (verdicts.Deny told) body blocks vars stays h = absurd h
left_of side (Reply m left) (verdicts.Fail told) body blocks vars stays h = absurd h
left_of side (Deny code left) verdicts.Pass body blocks vars stays h = absurd h
left_of side (Deny code left) verdicts.Reply body blocks vars stays h = absurd h
left_of side (Deny code left) (verdicts.Deny told) body blocks vars stays h = tt
left_of side (Deny code left) (verdicts.Fail told) body blocks vars stays h = absurd h
left_of side (Fail why left) verdicts.Pass body blocks vars stays h = absurd h
left_of side (Fail why left) verdicts.Reply body blocks vars stays h = absurd h
left_of side (Fail why left) (verdicts.Deny told) body blocks vars stays h = absurd h
left_of side (Fail why left) (verdicts.Fail told) body blocks vars stays h = tt

-- what a run on the array that is lent leaves of what is said
pub said_left : (size : ℕ) (rules : List Rule) (side : Side) (method : List ℕ) (before : Variables) (lent said : Contents) (verdict : Told) (edited : Bool) (blocks : List Block) (vars : Variables)
    → lent ≡ said → said.size ≡ size → edited ≡ is_pass verdict → ((at : ℕ) (list : List Rule) (env left : Env) → rules_of at list env ≡ Pass left → left.body ≡ env.body)
    → ((head : Head) (body : List ℕ) → lent.blocks ≡ front_blocks head body
    → Leaves side (rules_of lent.size rules (record { is_request = false; head = head; body = body; method = method; vars = before })) verdict blocks vars [])
    → (head : Head) (body : List ℕ) → said.blocks ≡ front_blocks head body
    → AmendsFront body (after_of size rules (record { is_request = false; head = head; body = body; method = method; vars = before })) edited blocks vars
said_left size rules side method before lent said verdict edited blocks vars same sized told stays runs head body is =
    let env : Env = record { is_request = false; head = head; body = body; method = method; vars = before } in
    let held : lent.size ≡ size = ap (λ (x : Contents). x.size) same ∙ sized in
    let ran : Leaves side (rules_of lent.size rules env) verdict blocks vars [] = runs head body (ap (λ (x : Contents). x.blocks) same ∙ is) in
    subst (λ (b : Bool). AmendsFront body (after_of size rules env) b blocks vars) (sym told)
    (left_of side (rules_of size rules env) verdict body blocks vars (λ left e. stays size rules env left e)
    (subst (λ (n : ℕ). Leaves side (rules_of n rules env) verdict blocks vars []) held ran))

-- `connection: close` behind the fields of a message
abbrev pub Closes : Type 0
Closes = (m : Message) → with_header (Header close_field.0 close_field.1) (message_blocks m) ≡ message_blocks (closing m)

-- whether it fits, as the array tells
fits_so : (load size : ℕ) (fits : Bool) → (IsTrue fits ↔ (load ≤ size)) → nat_le load size ≡ fits
fits_so load size true h = le-leb load size (h.0 refl)
fits_so load size false h =
    elim (cases_Bool (nat_le load size)) [
      | inl within ↦ absurd (false≢true (h.1 (leb-true load size within)))
      | inr past ↦ past
    ]

-- what tells it of an array tells it of one like it
pub tells_alike : (room : Bool) (held said : Contents) → held ≡ said → (IsTrue room ↔ Fits (with_header (Header close_field.0 close_field.1) held.blocks) held.size)
    → (IsTrue room ↔ Fits (with_header (Header close_field.0 close_field.1) said.blocks) said.size)
tells_alike room held said e h = subst (λ (x : Contents). IsTrue room ↔ Fits (with_header (Header close_field.0 close_field.1) x.blocks) x.size) e h

module _ (cfg : Config) (m : Message) (method : List ℕ) (vars : Variables) (before between : List Block) (now : Variables) (reply : IsReply m before) where
  -- what a run of the rules on all that the client is sent says of a reply
  abbrev Run : Bool → Type 0
  Run edited = (head : Head) (body : List ℕ) → before ≡ front_blocks head body
      → AmendsFront body ((meaning_of cfg).after_rules (record { is_request = false; head = head; body = body; method = method; vars = vars })) edited between now

  of_reply : (edited : Bool) → Run edited → AmendsFront m.body ((meaning_of cfg).after_rules (reply_env vars method m)) edited between now
  of_reply edited run = run m.head m.body (reply.blocks ∙ front_of m reply.none)

  -- a rule fails
  pub failed : (keep : Bool) (said : List Block) (left : Variables) (edited : Bool) → edited ≡ false → Run edited → said ≡ message_blocks plain_refusal → AmendsReply cfg m method vars keep false said left
  failed keep said left edited off run is = by ((meaning_of cfg).after_rules (reply_env vars method m)) refl (of_reply false (subst Run off run))
    where
      by : (a : Amended Variables) → (meaning_of cfg).after_rules (reply_env vars method m) ≡ a → AmendsFront m.body a false between now → AmendsReply cfg m method vars keep false said left
      by (Edited head after) e h = absurd h
      by Plain e h = record { says = is ∙ rw e refl; behind = rw e refl }

  -- the edited message
  record Edits : Type 0 where
    head : Head
    edits : (meaning_of cfg).after_rules (reply_env vars method m) ≡ Edited head now
    blocks : between ≡ message_blocks (with_head m head)

  edits_of : Run true → Edits
  edits_of run = by ((meaning_of cfg).after_rules (reply_env vars method m)) refl (of_reply true run)
    where
      by : (a : Amended Variables) → (meaning_of cfg).after_rules (reply_env vars method m) ≡ a → AmendsFront m.body a true between now → Edits
      by (Edited head after) e h =
          record { head = head; edits = e ∙ ap (λ (v : Variables). Edited head v) (sym h.1); blocks = h.0 ∙ sym (front_of (with_head m head) reply.none) }
      by Plain e h = absurd h

  -- the end of the headers stands in what is left
  pub ends : (end : (m : Message) → HasEnd (message_blocks m)) (edited : Bool) → edited ≡ true → Run edited → HasEnd between
  ends end edited on run = let e : Edits = edits_of (subst Run on run) in subst (λ bs. HasEnd bs) (sym e.blocks) (end (with_head m e.head))

  module _ (closes : Closes) (size : ℕ) (sized : size ≡ cfg.limits.bufsize) (edited : Bool) (on : edited ≡ true) (run : Run edited) (room : Bool)
      (tells : IsTrue room ↔ Fits (with_header (Header close_field.0 close_field.1) between) size) where
    edits : Edits
    edits = edits_of (subst Run on run)

    -- with `connection: close`
    closed : with_header (Header close_field.0 close_field.1) between ≡ message_blocks (closing (with_head m edits.head))
    closed = ap (λ bs. with_header (Header close_field.0 close_field.1) bs) edits.blocks ∙ closes (with_head m edits.head)

    within : closing_fits (meaning_of cfg) (with_head m edits.head) ≡ room
    within = ap (λ n. nat_le (load (message_blocks (closing (with_head m edits.head)))) n) (sym sized)
        ∙ ap (λ bs. nat_le (load bs) size) (sym closed) ∙ fits_so (load (with_header (Header close_field.0 close_field.1) between)) size room tells

    -- it is too long with that field
    pub too_long : (keep : Bool) (said : List Block) (left : Variables) → room ≡ false → said ≡ message_blocks plain_refusal → AmendsReply cfg m method vars keep false said left
    too_long keep said left tight is =
        let fits : closing_fits (meaning_of cfg) (with_head m edits.head) ≡ false = within ∙ tight in
        record { says = is ∙ rw edits.edits (rw fits refl); behind = rw edits.edits (rw fits refl) }

    -- the connection goes on
    pub goes_on : room ≡ true → (keep : Bool) → keep ≡ true → AmendsReply cfg m method vars keep true between now
    goes_on fit true kept =
        let fits : closing_fits (meaning_of cfg) (with_head m edits.head) ≡ true = within ∙ fit in
        record { says = edits.blocks ∙ rw edits.edits (rw fits refl); behind = rw edits.edits (rw fits refl) }
    goes_on fit false kept = absurd (false≢true kept)

    -- or closes
    pub shut : room ≡ true → (said : List Block) → said ≡ with_header (Header close_field.0 close_field.1) between → (keep : Bool) → keep ≡ false → AmendsReply cfg m method vars keep true said now
    shut fit said is true kept = absurd (false≢true (sym kept))
    shut fit said is false kept =
        let fits : closing_fits (meaning_of cfg) (with_head m edits.head) ≡ true = within ∙ fit in
        record { says = is ∙ closed ∙ rw edits.edits (rw fits refl); behind = rw edits.edits (rw fits refl) }

-- ---- whether the connection goes on

-- behind a reply that closes nothing goes on
never_kept : (M : Meaning) (m : Message) (method : List ℕ) (vars : M.Vars) → behind_reply M m method vars false ≡ None
never_kept M m method vars = by (amended M m method vars) refl
  where
    by : (x : Amended M.Vars) → amended M m method vars ≡ x → behind_reply M m method vars false ≡ None
    by (Edited head after) e = rw e refl
    by Plain e = rw e refl

pub reply_kept : (cfg : Config) (m : Message) (method : List ℕ) (vars : Variables) (keep edited : Bool) (said : List Block) (now : Variables) → AmendsReply cfg m method vars keep edited said now → SaysReply cfg m method vars keep (edited && keep) said now
reply_kept cfg m method vars true true said now a = record { says = a.says; behind = a.behind }
reply_kept cfg m method vars true false said now a = record { says = a.says; behind = a.behind }
reply_kept cfg m method vars false true said now a = record { says = a.says; behind = never_kept (meaning_of cfg) m method vars }
reply_kept cfg m method vars false false said now a = record { says = a.says; behind = never_kept (meaning_of cfg) m method vars }

pub reply_plain : (cfg : Config) (m : Message) (method : List ℕ) (vars : Variables) (keep edited : Bool) (said : List Block) (now : Variables) → edited ≡ false → AmendsReply cfg m method vars keep edited said now → SaysReply cfg m method vars keep edited said now
reply_plain cfg m method vars keep true said now off a = absurd (false≢true (sym off))
reply_plain cfg m method vars keep false said now off a = reply_kept cfg m method vars keep false said now a
