-- What edits came to that keep target and Host together.
use Rattle.std.proofs.Common.{◌≡◌, ℕ, List, [], ◌∷◌, ◌++◌, Bool, true, false, cond, map, refl, sym, ap, ◌∙◌, subst}
use Rattle.std.specs.Prelude.{Some, Result, Err, ◌&&◌}
use Rattle.std.specs.List.{list_all}
use Rattle.http_model.specs.declared.Why.{Why}
use Rattle.http_model.specs.declared.Why.TheVariants.{Bytes}
use Rattle.http_model.specs.Block.{Block, EndHeaders}
use Rattle.http_model.specs.Blocks.{append_data}
use Rattle.http_model.specs.Fields.{set_field}
use Rattle.http_model.specs.Head.{Field, Head, StartLine, RequestLine, StatusLine, line_block, header_block, front_blocks}
use Rattle.px_bytes.specs.Blanks.{trimmed}
use Rattle.px_sample.specs.Variables.{Variables}
use Rattle.htx_view.specs.Lines.{request_in}
use Rattle.http_rules.specs.declared.action.side.Side.{Side}
use Rattle.http_rules.specs.declared.action.stepped.Stepped.{Stepped}
use Rattle.http_rules.specs.declared.action.stepped.Stepped.TheVariants.{Failed}
use Rattle.http_rules.specs.Action.Given.{Env}
use Rattle.http_rules.specs.declared.action.part.TargetPart.TheVariants.{Uri}
use Rattle.http_rules.specs.Action.Edits.{by_value}
use Rattle.http_rules.specs.Action.Lines.{on_request, sent_to, retargeted, with_part}
use Rattle.http_rules.specs.Action.Hosts.{stands_beside, stands_behind, hosts_agree, reset, reuri, is_behind, blocks_agree}
use Rattle.http_rules.specs.Action.Outcome.{IsAt, Came}
use Rattle.http_rules.proofs.ActionLemmas.Fronts.{behind_line, front_is}
use Rattle.http_rules.proofs.ActionLemmas.Lines.{asked}

-- ---- of blocks, as of the head

body_agrees : (target body : List ℕ) → blocks_agree target (append_data [] body) ≡ true
body_agrees target [] = refl
body_agrees target (b ∷ body) = refl

fields_agree : (target : List ℕ) (fields : List Field) (body : List ℕ) → blocks_agree target (behind_line fields body) ≡ hosts_agree target fields
fields_agree target [] body = body_agrees target body
fields_agree target (f ∷ fields) body = ap (λ (b : Bool). stands_beside target f && b) (fields_agree target fields body)

line_agrees : (target : List ℕ) (line : StartLine) (rest : List Block) → blocks_agree target (line_block line ∷ rest) ≡ blocks_agree target rest
line_agrees target (RequestLine a b c) rest = refl
line_agrees target (StatusLine a b c) rest = refl

pub agree_front : (target : List ℕ) (head : Head) (body : List ℕ) → blocks_agree target (front_blocks head body) ≡ hosts_agree target head.fields
agree_front target head body =
    ap (blocks_agree target) (front_is head.line head.fields body) ∙ line_agrees target head.line (behind_line head.fields body) ∙ fields_agree target head.fields body

pub behind_front : (field : Field) (head : Head) (body : List ℕ) → is_behind (request_in (front_blocks head body)) field ≡ stands_behind head.line field
behind_front field head body =
    ap (λ (bs : List Block). is_behind (request_in bs) field) (front_is head.line head.fields body) ∙ by head.line (behind_line head.fields body)
  where
    by : (line : StartLine) (rest : List Block) → is_behind (request_in (line_block line ∷ rest)) field ≡ stands_behind line field
    by (RequestLine a b c) rest = refl
    by (StatusLine a b c) rest = refl

-- ---- by what was found

-- a step is made where the test holds
pub passed : (side : Side) (env : Env) (vars : Variables) (test : Bool) (made : Result Env Why) (step : Stepped) (blocks : List Block) → test ≡ true
    → Came side env made step blocks vars → Came side env (cond test made (Err Bytes)) step blocks vars
passed side env vars true made step blocks e came = came
passed side env vars false made step blocks e came = absurd cc

-- it fails where it does not hold
pub refused : (side : Side) (env : Env) (vars : Variables) (test : Bool) (made : Result Env Why) (blocks : List Block) → test ≡ false
    → IsAt side env blocks vars → Came side env (cond test made (Err Bytes)) (Failed Bytes) blocks vars
refused side env vars true made blocks e at = absurd cc
refused side env vars false made blocks e at = (refl, at)

-- what is made of a request line, where the test holds
passed_line : (side : Side) (env : Env) (vars : Variables) (test : Bool) (make : (method target version : List ℕ) → Result Env Why) (step : Stepped) (blocks : List Block) → test ≡ true
    → Came side env (on_request env make) step blocks vars → Came side env (on_request env (λ m t v. cond test (make m t v) (Err Bytes))) step blocks vars
passed_line side env vars true make step blocks e came = came
passed_line side env vars false make step blocks e came = absurd cc

-- ---- one field in place of all of its name

at_line : (side : Side) (env : Env) (vars : Variables) (blocks : List Block) (name value text : List ℕ) → IsAt side env blocks vars → value ≡ trimmed text
    → is_behind (request_in blocks) (name, value) ≡ stands_behind env.head.line (name, trimmed text)
at_line side env vars blocks name value text at is =
    ap (λ (v : List ℕ). is_behind (request_in blocks) (name, v)) is
    ∙ ap (λ (bs : List Block). is_behind (request_in bs) (name, trimmed text)) at.blocks_are
    ∙ behind_front (name, trimmed text) env.head env.body

pub reset_refused : (side : Side) (env : Env) (vars : Variables) (size : ℕ) (blocks : List Block) (name value text : List ℕ) (found : Bool) → IsAt side env blocks vars → value ≡ trimmed text
    → found ≡ is_behind (request_in blocks) (name, value) → found ≡ false → Came side env (reset size env name text) (Failed Bytes) blocks vars
reset_refused side env vars size blocks name value text found at is told e =
    refused side env vars (stands_behind env.head.line (name, trimmed text)) (by_value size env text (λ value. set_field name value env.head)) blocks (sym (told ∙ at_line side env vars blocks name value text at is) ∙ e) at

pub reset_passed : (side : Side) (env : Env) (vars : Variables) (size : ℕ) (blocks new : List Block) (name value text : List ℕ) (found : Bool) (step : Stepped) → IsAt side env blocks vars → value ≡ trimmed text
    → found ≡ is_behind (request_in blocks) (name, value) → found ≡ true
    → Came side env (by_value size env text (λ v. set_field name v env.head)) step new vars → Came side env (reset size env name text) step new vars
reset_passed side env vars size blocks new name value text found step at is told e came =
    passed side env vars (stands_behind env.head.line (name, trimmed text)) (by_value size env text (λ value. set_field name value env.head)) step new (sym (told ∙ at_line side env vars blocks name value text at is) ∙ e) came

-- ---- another target

at_fields : (side : Side) (env : Env) (vars : Variables) (blocks : List Block) (text : List ℕ) → IsAt side env blocks vars → blocks_agree text blocks ≡ hosts_agree text env.head.fields
at_fields side env vars blocks text at = ap (blocks_agree text) at.blocks_are ∙ agree_front text env.head env.body

pub reuri_refused : (side : Side) (env : Env) (vars : Variables) (size : ℕ) (blocks : List Block) (text m t v : List ℕ) (found : Bool) → IsAt side env blocks vars → request_in blocks ≡ Some (m, t, v)
    → found ≡ blocks_agree text blocks → found ≡ false → Came side env (reuri size env text) (Failed Bytes) blocks vars
reuri_refused side env vars size blocks text m t v found at is told e =
    asked side env vars (λ method target version. cond (hosts_agree text env.head.fields) (sent_to size env method (with_part Uri target text) version) (Err Bytes))
    (Failed Bytes) blocks blocks m t v at is
    (refused side env vars (hosts_agree text env.head.fields) (sent_to size env m (with_part Uri t text) v) blocks (sym (told ∙ at_fields side env vars blocks text at) ∙ e) at)

pub reuri_passed : (side : Side) (env : Env) (vars : Variables) (size : ℕ) (blocks new : List Block) (text : List ℕ) (found : Bool) (step : Stepped) → IsAt side env blocks vars
    → found ≡ blocks_agree text blocks → found ≡ true
    → Came side env (retargeted size env (λ target. with_part Uri target text)) step new vars → Came side env (reuri size env text) step new vars
reuri_passed side env vars size blocks new text found step at told e came =
    passed_line side env vars (hosts_agree text env.head.fields) (λ m t v. sent_to size env m (with_part Uri t text) v) step new (sym (told ∙ at_fields side env vars blocks text at) ∙ e) came
