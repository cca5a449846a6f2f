-- One field in the blocks of a head with a body behind it.
use Rattle.std.proofs.Common.{◌≡◌, ℕ, zero, suc, ◌+◌, ◌≤◌, length, arith, List, [], ◌∷◌, Bool, true, false, cond, refl, sym, ap, ◌∙◌, subst, set, add-one}
use Rattle.std.specs.Prelude.{Option, Some, Result, Ok, OnOk, OnErr, IsOk, ◌↔◌}
use Rattle.std.specs.List.{slice_get}
use Rattle.http_model.specs.declared.Why.{Why}
use Rattle.htx_model.specs.Block.{weight}
use Rattle.http_model.specs.Block.{Block, Header, kind_of, value_of, with_value}
use Rattle.htx_model.specs.declared.Kind.TheVariants as kinds
use Rattle.http_model.specs.Blocks.{append_data, block_at, load, Fits}
use Rattle.http_model.specs.Head.{Field, Head, line_block, header_block, front_blocks}
use Rattle.header_ops.specs.Headers.{is_header_named}
use Rattle.px_bytes.specs.Blanks.{trimmed}
use Rattle.px_sample.specs.Variables.{Variables}
use Rattle.htx_arena.specs.Layout.Contents.{Contents}
use Rattle.htx_arena.specs.declared.arena.Full.{Full}
use Rattle.http_rules.specs.declared.action.side.Side.{Side}
use Rattle.http_rules.specs.declared.action.stepped.Stepped.{Stepped}
use Rattle.http_rules.specs.Action.Given.{Env}
use Rattle.http_rules.specs.Action.Edits.{edited, by_value, are_value_bytes}
use Rattle.http_rules.specs.Action.Replacing as replacing
use Rattle.http_rules.specs.declared.action.extent.Extent.{Extent}
use Rattle.http_rules.specs.declared.action.filled.Filled.{Filled}
use Rattle.http_rules.specs.declared.action.stepped.Stepped.TheVariants.{Done}
use Rattle.px_pattern.specs.Pattern.{Pattern}
use Rattle.log_format.specs.declared.fmt.Fmt.{Fmt}
use Rattle.http_rules.specs.Action.Replacing.{by_extent, made_of_field, replace_in}
use Rattle.http_rules.specs.Action.Filling.{Counts, valued_by}
use Rattle.http_rules.specs.Action.Turns.{has_name, named_step}
use Rattle.http_rules.specs.Action.Outcome.{IsAt, Came, step_by}
use Rattle.std.proofs.lemmas.List.Sums.{sum_by-cons}
use Rattle.http_rules.proofs.ActionLemmas.Fronts.{behind_line, front_is}
use Rattle.http_rules.proofs.ActionLemmas.Came.{good_value, edit_came}

-- the field of a block, or no header
no_header : (body : List ℕ) (k : ℕ) → kind_of (block_at (append_data [] body) k) ≡ kinds.Header → ⊥
no_header [] k h = cc
no_header (b ∷ body) zero h = cc
no_header (b ∷ body) (suc k) h = cc

header_in : (fields : List Field) (body : List ℕ) (k : ℕ) → kind_of (block_at (behind_line fields body) k) ≡ kinds.Header
    → (f : Field) × (slice_get fields k ≡ Some f) × (block_at (behind_line fields body) k ≡ Header f.0 f.1)
header_in [] body zero h = absurd cc
header_in [] body (suc k) h = absurd (no_header body k h)
header_in (f ∷ fields) body zero h = (f, refl, refl)
header_in (f ∷ fields) body (suc k) h = header_in fields body k h

set_in : (fields : List Field) (body : List ℕ) (k : ℕ) (f : Field) (v : List ℕ) → slice_get fields k ≡ Some f
    → set (behind_line fields body) k (Header f.0 v) ≡ behind_line (set fields k (f.0, v)) body
set_in [] body k f v h = absurd cc
set_in (g ∷ fields) body zero f v h = refl
set_in (g ∷ fields) body (suc k) f v h = ap (λ (bs : List Block). header_block g ∷ bs) (set_in fields body k f v h)

-- the block behind a place
abbrev block_of : Head → List ℕ → ℕ → Block
block_of head body place = block_at (behind_line head.fields body) place

at_place : (head : Head) (body : List ℕ) (blocks : List Block) (at place : ℕ) → blocks ≡ front_blocks head body → at ≡ place + 1 → block_at blocks at ≡ block_of head body place
at_place head body blocks at place is here =
    ap (λ (bs : List Block). block_at bs at) (is ∙ front_is head.line head.fields body)
    ∙ ap (λ (n : ℕ). block_at (line_block head.line ∷ behind_line head.fields body) n) (here ∙ add-one place)

-- a header is a field
pub field_at : (side : Side) (env : Env) (vars : Variables) (blocks : List Block) (at place : ℕ) → IsAt side env blocks vars → at ≡ place + 1 → kind_of (block_at blocks at) ≡ kinds.Header
    → (f : Field) × (slice_get env.head.fields place ≡ Some f) × (block_at blocks at ≡ Header f.0 f.1)
field_at side env vars blocks at place on here header =
    let same = at_place env.head env.body blocks at place on.blocks_are here in
    let found = header_in env.head.fields env.body place (sym (ap kind_of same) ∙ header) in
    (found.0, found.1, same ∙ found.2)

-- the header has the name where the field has it
name_in : (name : List ℕ) (fields : List Field) (body : List ℕ) (k : ℕ) → is_header_named name (block_at (behind_line fields body) k) ≡ has_name name (slice_get fields k)
name_in name [] [] zero = refl
name_in name [] [] (suc k) = refl
name_in name [] (b ∷ body) zero = refl
name_in name [] (b ∷ body) (suc zero) = refl
name_in name [] (b ∷ body) (suc (suc k)) = refl
name_in name (f ∷ fields) body zero = refl
name_in name (f ∷ fields) body (suc k) = name_in name fields body k

pub name_at : (side : Side) (env : Env) (vars : Variables) (name : List ℕ) (blocks : List Block) (at place : ℕ) → IsAt side env blocks vars → at ≡ place + 1
    → is_header_named name (block_at blocks at) ≡ has_name name (slice_get env.head.fields place)
name_at side env vars name blocks at place on here =
    ap (λ (b : Block). is_header_named name b) (at_place env.head env.body blocks at place on.blocks_are here) ∙ name_in name env.head.fields env.body place

-- another value of the field
set_front : (head : Head) (body : List ℕ) (blocks : List Block) (at place : ℕ) (f : Field) (v : List ℕ) → blocks ≡ front_blocks head body → at ≡ place + 1 → slice_get head.fields place ≡ Some f
    → block_at blocks at ≡ Header f.0 f.1 → set blocks at (with_value (block_at blocks at) v) ≡ front_blocks (replacing.with_value head place f v) body
set_front head body blocks at place f v is here found header =
    ap (λ (b : Block). set blocks at (with_value b v)) header
    ∙ ap (λ (bs : List Block). set bs at (Header f.0 v)) (is ∙ front_is head.line head.fields body)
    ∙ ap (λ (n : ℕ). set (line_block head.line ∷ behind_line head.fields body) n (Header f.0 v)) (here ∙ add-one place)
    ∙ ap (λ (bs : List Block). line_block head.line ∷ bs) (set_in head.fields body place f v found)
    ∙ sym (front_is head.line (set head.fields place (f.0, v)) body)

-- the edit of the array is the edit of the head
pub revalued : {T : Type 0} (side : Side) (env : Env) (vars : Variables) (place : ℕ) (field : Field) (value text : List ℕ) (size at : ℕ) (old new : Contents) (r : Result T Full) (step : Stepped)
    → IsAt side env old.blocks vars → at ≡ place + 1 → slice_get env.head.fields place ≡ Some field → kind_of (block_at old.blocks at) ≡ kinds.Header
    → are_value_bytes text ≡ true → value ≡ trimmed text
    → OnOk r (new.blocks ≡ set old.blocks at (with_value (block_at old.blocks at) value)) → (IsOk r ↔ Fits (set old.blocks at (with_value (block_at old.blocks at) value)) size) → OnErr r (new ≡ old)
    → step ≡ step_by r → Came side env (by_value size env text (replacing.with_value env.head place field)) step new.blocks vars
revalued side env vars place field value text size at old new r step on here found header good trims made fits same by =
    let seen = field_at side env vars old.blocks at place on here header in
    let one : seen.0 ≡ field = cc in
    let block : block_at old.blocks at ≡ Header field.0 field.1 = seen.2 ∙ ap (λ (f : Field). Header f.0 f.1) one in
    good_value side env vars size text (replacing.with_value env.head place field) step new.blocks good
    (subst (λ (v : List ℕ). Came side env (edited size env (replacing.with_value env.head place field v)) step new.blocks vars) trims
    (edit_came side env vars (replacing.with_value env.head place field value) size old new (set old.blocks at (with_value (block_at old.blocks at) value)) r step on
    (set_front env.head env.body old.blocks at place field value on.blocks_are here found block) made fits same by))

counted_in : (fields : List Field) (body : List ℕ) (k : ℕ) (f : Field) (v : List ℕ) → slice_get fields k ≡ Some f → length v ≤ load (behind_line (set fields k (f.0, v)) body)
counted_in [] body k f v h = absurd cc
counted_in (g ∷ fields) body zero f v h = omega (arith, sum_by-cons weight (Header f.0 v) (behind_line fields body))
counted_in (g ∷ fields) body (suc k) f v h = omega (arith, counted_in fields body k f v h, sum_by-cons weight (header_block g) (behind_line (set fields k (f.0, v)) body))

-- another value of the field counts in the array
pub counted : (env : Env) (place : ℕ) (field : Field) → slice_get env.head.fields place ≡ Some field → Counts env (replacing.with_value env.head place field)
counted env place field found value =
    omega (
      arith,
      counted_in env.head.fields env.body place field value found,
      ap load (front_is env.head.line (set env.head.fields place (field.0, value)) env.body),
      sum_by-cons weight (line_block env.head.line) (behind_line (set env.head.fields place (field.0, value)) env.body),
    )

-- one field by what came of it
pub refield : (side : Side) (env : Env) (vars : Variables) (extent : Extent) (size : ℕ) (pat : Pattern) (fmt : Fmt) (place at : ℕ) (text held : List ℕ) (f g : Filled) (step : Stepped) (old new : List Block)
    → IsAt side env old vars → at ≡ place + 1 → kind_of (block_at old at) ≡ kinds.Header → text ≡ value_of (block_at old at)
    → ((edit : List ℕ → Head) → Counts env edit → by_extent extent size env pat fmt text (λ x. by_value size env x edit) ≡ valued_by size f held env edit) → f ≡ g
    → ((field : Field) → slice_get env.head.fields place ≡ Some field → Came side env (valued_by size g held env (replacing.with_value env.head place field)) step new vars)
    → Came side env (replace_in extent size pat fmt place env) step new vars
refield side env vars extent size pat fmt place at text held f g step old new on here header lent filled told came =
    let seen = field_at side env vars old at place on here header in
    let field : Field = seen.0 in
    let same : text ≡ field.1 = lent ∙ ap (λ (b : Block). value_of b) seen.2 in
    subst (λ (o : Option Field). Came side env (made_of_field o env (λ fd. by_extent extent size env pat fmt fd.1 (λ x. by_value size env x (replacing.with_value env.head place fd)))) step new vars) (sym seen.1)
    (subst (λ (t : List ℕ). Came side env (by_extent extent size env pat fmt t (λ x. by_value size env x (replacing.with_value env.head place field))) step new vars) same
    (subst (λ (r : Result Env Why). Came side env r step new vars)
    (sym (filled (replacing.with_value env.head place field) (counted env place field seen.1) ∙ ap (λ (h : Filled). valued_by size h held env (replacing.with_value env.head place field)) told))
    (came field seen.1)))

-- a block of another name has no step
pub named_off : (side : Side) (env : Env) (vars : Variables) (name : List ℕ) (extent : Extent) (size : ℕ) (pat : Pattern) (fmt : Fmt) (place at : ℕ) (t : Bool) (blocks : List Block) → IsAt side env blocks vars → at ≡ place + 1
    → t ≡ is_header_named name (block_at blocks at) → t ≡ false → Came side env (named_step name extent size pat fmt place env) Done blocks vars
named_off side env vars name extent size pat fmt place at t blocks on here is bad =
    subst (λ (b : Bool). Came side env (cond b (replace_in extent size pat fmt place env) (Ok env)) Done blocks vars) (sym bad ∙ is ∙ name_at side env vars name blocks at place on here) on

-- one of the name has its field's
pub named_on : (side : Side) (env : Env) (vars : Variables) (name : List ℕ) (extent : Extent) (size : ℕ) (pat : Pattern) (fmt : Fmt) (place at : ℕ) (t : Bool) (step : Stepped) (old new : List Block) → IsAt side env old vars → at ≡ place + 1
    → t ≡ is_header_named name (block_at old at) → t ≡ true → Came side env (replace_in extent size pat fmt place env) step new vars → Came side env (named_step name extent size pat fmt place env) step new vars
named_on side env vars name extent size pat fmt place at t step old new on here is good came =
    subst (λ (b : Bool). Came side env (cond b (replace_in extent size pat fmt place env) (Ok env)) step new vars) (sym good ∙ is ∙ name_at side env vars name old at place on here) came
