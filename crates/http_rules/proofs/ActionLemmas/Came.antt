-- What a step came to, by its edit and by its text.
use Rattle.std.proofs.Common.{◌≡◌, ℕ, ◌≤◌, List, ◌∷◌, Bool, true, false, cond, not, filter, refl, sym, ap, ◌∙◌, subst, length}
use Rattle.std.specs.Prelude.{◌↔◌, Result, Ok, Err, OnOk, OnErr, IsOk, nat_le}
use Rattle.std.proofs.lemmas.Bool.{le-leb, leb-true, false≢true}
use Rattle.http_model.specs.declared.Why.{Why}
use Rattle.http_model.specs.declared.Why.TheVariants.{Room, Bytes}
use Rattle.http_model.specs.Block.{Block, Header}
use Rattle.http_model.specs.Blocks.{load, Fits}
use Rattle.http_model.specs.Head.{Head, StartLine, RequestLine, StatusLine, line_block, front_blocks}
use Rattle.htx_arena.specs.Layout.Contents.{Contents}
use Rattle.htx_arena.specs.declared.arena.Full.{Full}
use Rattle.header_ops.specs.Matching.{is_field_matching, is_header_matching, without_matching}
use Rattle.header_ops.specs.declared.matching.NameMatch.{NameMatch}
use Rattle.http_model.specs.Fields.{add_field, set_field}
use Rattle.session_model.specs.Env.{env_with_head}
use Rattle.px_bytes.specs.Blanks.{trimmed}
use Rattle.px_sample.specs.Variables.{Variables}
use Rattle.header_ops.specs.Headers.{with_header, set_header, HasEnd}
use Rattle.http_rules.specs.declared.action.side.Side.{Side}
use Rattle.http_rules.specs.declared.action.side.Side.TheVariants.{Request, Answer}
use Rattle.http_rules.specs.declared.action.stepped.Stepped.{Stepped}
use Rattle.http_rules.specs.declared.action.stepped.Stepped.TheVariants.{Done, Failed}
use Rattle.http_rules.specs.Action.Given.{Env}
use Rattle.http_rules.specs.Action.Edits.{edited, by_text, by_value, are_value_bytes, fits_with}
use Rattle.http_rules.specs.Action.Outcome.{IsOn, IsAt, Came, IsMade, IsFront, step_by}
use Rattle.http_rules.proofs.ActionLemmas.Fronts.{front_ends, front_with, front_set, front_filtered}

-- the blocks of an environment have an end of headers
pub ends_at : (blocks : List Block) → IsFront blocks → HasEnd blocks
ends_at blocks front = subst HasEnd (sym front.2) (front_ends front.0 front.1)

on_head : (side : Side) (env : Env) (head : Head) → IsOn side env → IsOn side (env_with_head env head)
on_head Request env head on = on
on_head (Answer method) env head on = on

-- an edit that fits
pub went : (side : Side) (env : Env) (vars : Variables) (head : Head) (size : ℕ) (old new : List Block) → IsAt side env old vars → new ≡ front_blocks head env.body
    → load (front_blocks head env.body) ≤ size → Came side env (edited size env head) Done new vars
went side env vars head size old new at is fits = by (fits_with size env.body head) (le-leb (load (front_blocks head env.body)) size fits)
  where
    by : (t : Bool) → t ≡ true → Came side env (cond t (Ok (env_with_head env head)) (Err Room)) Done new vars
    by true e = record { on = on_head side env head at.on; blocks_are = is; vars_are = at.vars_are }
    by false e = absurd cc

-- an edit that does not
pub full : (side : Side) (env : Env) (vars : Variables) (head : Head) (size : ℕ) (blocks : List Block) → IsAt side env blocks vars
    → (load (front_blocks head env.body) ≤ size → ⊥) → Came side env (edited size env head) (Failed Room) blocks vars
full side env vars head size blocks at too = by (fits_with size env.body head) (leb-true (load (front_blocks head env.body)) size)
  where
    by : (t : Bool) → (t ≡ true → load (front_blocks head env.body) ≤ size) → Came side env (cond t (Ok (env_with_head env head)) (Err Room)) (Failed Room) blocks vars
    by true e = absurd (too (e refl))
    by false e = (refl, at)

-- an edit of the array that is the edit of the head
pub edit_came : {T : Type 0} (side : Side) (env : Env) (vars : Variables) (head : Head) (size : ℕ) (old new : Contents) (wanted : List Block) (r : Result T Full) (step : Stepped)
    → IsAt side env old.blocks vars → wanted ≡ front_blocks head env.body → OnOk r (new.blocks ≡ wanted) → (IsOk r ↔ Fits wanted size) → OnErr r (new ≡ old) → step ≡ step_by r
    → Came side env (edited size env head) step new.blocks vars
edit_came side env vars head size old new wanted (Ok done) step at is made fits same by =
    subst (λ (s : Stepped). Came side env (edited size env head) s new.blocks vars) (sym by)
    (went side env vars head size old.blocks new.blocks at (made ∙ is) (subst (λ (bs : List Block). load bs ≤ size) is (fits.0 refl)))
edit_came side env vars head size old new wanted (Err x) step at is made fits same by =
    let bad : load (front_blocks head env.body) ≤ size → ⊥ = λ h. false≢true (fits.1 (subst (λ (bs : List Block). load bs ≤ size) (sym is) h)) in
    subst (λ (s : Stepped). Came side env (edited size env head) s new.blocks vars) (sym by)
    (full side env vars head size new.blocks (record { on = at.on; blocks_are = ap (λ (x : Contents). x.blocks) same ∙ at.blocks_are; vars_are = at.vars_are }) bad)

-- a value of good bytes
pub good_value : (side : Side) (env : Env) (vars : Variables) (size : ℕ) (text : List ℕ) (edit : List ℕ → Head) (step : Stepped) (blocks : List Block) → are_value_bytes text ≡ true
    → Came side env (edited size env (edit (trimmed text))) step blocks vars → Came side env (by_value size env text edit) step blocks vars
good_value side env vars size text edit step blocks good came = by (are_value_bytes text) good
  where
    by : (t : Bool) → t ≡ true → Came side env (cond t (edited size env (edit (trimmed text))) (Err Bytes)) step blocks vars
    by true e = came
    by false e = absurd cc

-- a text that is not longer than the buffer
pub short_text : (side : Side) (env : Env) (vars : Variables) (size : ℕ) (text held : List ℕ) (make : List ℕ → Result Env Why) (step : Stepped) (blocks : List Block) → IsMade size text true held
    → Came side env (make held) step blocks vars → Came side env (by_text size text make) step blocks vars
short_text side env vars size text held make step blocks made came = by (nat_le (length text) size) made.within
  where
    by : (t : Bool) → t ≡ true → Came side env (cond t (make text) (Err Bytes)) step blocks vars
    by true e = subst (λ (bytes : List ℕ). Came side env (make bytes) step blocks vars) (made.holds refl) came
    by false e = absurd cc

-- one more field
pub added : {T : Type 0} (side : Side) (env : Env) (vars : Variables) (name value text : List ℕ) (size : ℕ) (old new : Contents) (r : Result T Full) (step : Stepped)
    → IsAt side env old.blocks vars → are_value_bytes text ≡ true → value ≡ trimmed text → OnOk r (new.blocks ≡ with_header (Header name value) old.blocks) → (IsOk r ↔ Fits (with_header (Header name value) old.blocks) size) → OnErr r (new ≡ old)
    → step ≡ step_by r → Came side env (by_value size env text (λ v. add_field name v env.head)) step new.blocks vars
added side env vars name value text size old new r step at good trims made fits same by =
    good_value side env vars size text (λ v. add_field name v env.head) step new.blocks good
    (subst (λ (v : List ℕ). Came side env (edited size env (add_field name v env.head)) step new.blocks vars) trims
    (edit_came side env vars (add_field name value env.head) size old new (with_header (Header name value) old.blocks) r step at
    (ap (with_header (Header name value)) at.blocks_are ∙ front_with name value env.head env.body) made fits same by))

-- one in place of all of its name
pub set : {T : Type 0} (side : Side) (env : Env) (vars : Variables) (name value text : List ℕ) (size : ℕ) (old new : Contents) (r : Result T Full) (step : Stepped)
    → IsAt side env old.blocks vars → are_value_bytes text ≡ true → value ≡ trimmed text → OnOk r (new.blocks ≡ set_header name value old.blocks) → (IsOk r ↔ Fits (set_header name value old.blocks) size) → OnErr r (new ≡ old)
    → step ≡ step_by r → Came side env (by_value size env text (λ v. set_field name v env.head)) step new.blocks vars
set side env vars name value text size old new r step at good trims made fits same by =
    good_value side env vars size text (λ v. set_field name v env.head) step new.blocks good
    (subst (λ (v : List ℕ). Came side env (edited size env (set_field name v env.head)) step new.blocks vars) trims
    (edit_came side env vars (set_field name value env.head) size old new (set_header name value old.blocks) r step at
    (ap (set_header name value) at.blocks_are ∙ front_set name value env.head env.body) made fits same by))

-- fields that went
pub taken : (side : Side) (env : Env) (vars : Variables) (which : NameMatch) (size : ℕ) (old new : List Block) → IsAt side env old vars → new ≡ without_matching which old → load new ≤ size
    → Came side env (edited size env (record { line = env.head.line; fields = filter (λ f. not (is_field_matching which f)) env.head.fields })) Done new vars
taken side env vars which size old new at gone fits =
    let is : new ≡ front_blocks (record { line = env.head.line; fields = filter (λ f. not (is_field_matching which f)) env.head.fields }) env.body =
    gone ∙ ap (without_matching which) at.blocks_are
    ∙ front_filtered (λ b. not (is_header_matching which b)) (λ f. not (is_field_matching which f)) (λ f. refl) (line_stays which) refl (λ bytes. refl) env.head env.body
    in
    went side env vars (record { line = env.head.line; fields = filter (λ f. not (is_field_matching which f)) env.head.fields }) size old new at is (subst (λ (bs : List Block). load bs ≤ size) is fits)
  where
    line_stays : (w : NameMatch) (line : StartLine) → not (is_header_matching w (line_block line)) ≡ true
    line_stays w (RequestLine a b c) = refl
    line_stays w (StatusLine a b c) = refl

-- a text that was made and is not longer than the buffer, as it is lent
pub short_made : (side : Side) (env : Env) (vars : Variables) (size : ℕ) (text held lent : List ℕ) (fits : Bool) (make : List ℕ → Result Env Why) (step : Stepped) (blocks : List Block) → IsMade size text fits held
    → fits ≡ true → lent ≡ held → Came side env (make lent) step blocks vars → Came side env (by_text size text make) step blocks vars
short_made side env vars size text held lent fits make step blocks made good is came =
    short_text side env vars size text held make step blocks (subst (λ (b : Bool). IsMade size text b held) good made)
    (subst (λ (bytes : List ℕ). Came side env (make bytes) step blocks vars) is came)
