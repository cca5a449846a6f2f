-- Fields of a name in turn, each with its own step.
use Rattle.std.proofs.Common.{◌≡◌, ℕ, zero, suc, List, [], ◌∷◌, Bool, true, false, cond, map, refl, sym, ap, ◌∙◌, subst, length, drop, arith}
use Rattle.std.specs.Prelude.{nat_le, Option, Some, None, Result, Ok, Err}
use Rattle.std.specs.List.{slice_get, list_any}
use Rattle.std.proofs.lemmas.List.{drop-set-lt}
use Rattle.std.proofs.Math.Seq.{drop-nil}
use Rattle.http_model.specs.declared.Why.{Why}
use Rattle.http_model.specs.declared.Why.TheVariants.{Room, Bytes}
use Rattle.http_model.specs.Block.{Block}
use Rattle.http_model.specs.Head.{Field}
use Rattle.http_model.specs.Fields.{is_named}
use Rattle.px_bytes.specs.Values.{values_of}
use Rattle.px_bytes.specs.Blanks.{trimmed}
use Rattle.px_pattern.specs.Pattern.{Pattern}
use Rattle.px_sample.specs.Variables.{Variables}
use Rattle.log_format.specs.declared.fmt.Fmt.{Fmt}
use Rattle.session_model.specs.Env.{env_with_head}
use Rattle.http_rules.specs.declared.action.extent.Extent.{Extent}
use Rattle.http_rules.specs.declared.action.extent.Extent.TheVariants.{Whole, Values}
use Rattle.http_rules.specs.declared.action.side.Side.{Side}
use Rattle.http_rules.specs.declared.action.stepped.Stepped.{Stepped}
use Rattle.http_rules.specs.declared.action.stepped.Stepped.TheVariants.{Done, Failed}
use Rattle.http_rules.specs.Action.Given.{Env, text_on}
use Rattle.http_rules.specs.Action.Edits.{by_text, by_value, edited, fits_with, are_value_bytes}
use Rattle.http_rules.specs.Action.Replacing.{matches, replaced, replaced_values, are_short, by_extent, places, replace_in, with_value, made_of_field}
use Rattle.http_rules.specs.Action.Turns.{has_name, named_step, run_from, HadTurns}
use Rattle.http_rules.specs.Action.Acts.{left_by, Act, Fails, after_step, run_steps}
use Rattle.http_rules.specs.Action.Outcome.{IsAt, Came, Ran}

-- ---- a step leaves the fields behind its own

-- the fields behind a place are those of an environment, where the step leaves one
abbrev LeavesBehind : ℕ → List Field → Result Env Why → Type 0
LeavesBehind place fields r = (next : Env) → r ≡ Ok next → drop (suc place) next.head.fields ≡ drop (suc place) fields

either : (place : ℕ) (fields : List Field) (t : Bool) (a b : Result Env Why) → LeavesBehind place fields a → LeavesBehind place fields b → LeavesBehind place fields (cond t a b)
either place fields true a b on off = on
either place fields false a b on off = off

none_left : (place : ℕ) (fields : List Field) (why : Why) → LeavesBehind place fields (Err why)
none_left place fields why next is = absurd cc

same_left : (place : ℕ) (env : Env) → LeavesBehind place env.head.fields (Ok env)
same_left place env next is = let one : env ≡ next = cc in ap (λ (e : Env). drop (suc place) e.head.fields) (sym one)

edit_left : (size : ℕ) (env : Env) (place : ℕ) (field : Field) (v : List ℕ) → LeavesBehind place env.head.fields (edited size env (with_value env.head place field v))
edit_left size env place field v =
    either place env.head.fields (fits_with size env.body (with_value env.head place field v)) (Ok (env_with_head env (with_value env.head place field v))) (Err Room)
    (λ next is.
    let one : env_with_head env (with_value env.head place field v) ≡ next = cc in
    ap (λ (e : Env). drop (suc place) e.head.fields) (sym one) ∙ drop-set-lt (suc place) env.head.fields place (field.0, v) (omega arith))
    (none_left place env.head.fields Room)

value_left : (size : ℕ) (env : Env) (place : ℕ) (field : Field) (text : List ℕ) → LeavesBehind place env.head.fields (by_value size env text (with_value env.head place field))
value_left size env place field text =
    either place env.head.fields (are_value_bytes text) (edited size env (with_value env.head place field (trimmed text))) (Err Bytes)
    (edit_left size env place field (trimmed text)) (none_left place env.head.fields Bytes)

text_left : (size place : ℕ) (fields : List Field) (text : List ℕ) (make : List ℕ → Result Env Why) → ((t : List ℕ) → LeavesBehind place fields (make t)) → LeavesBehind place fields (by_text size text make)
text_left size place fields text make all = either place fields (nat_le (length text) size) (make text) (Err Bytes) (all text) (none_left place fields Bytes)

extent_left : (extent : Extent) (size : ℕ) (env : Env) (pat : Pattern) (fmt : Fmt) (place : ℕ) (text : List ℕ) (make : List ℕ → Result Env Why) → ((t : List ℕ) → LeavesBehind place env.head.fields (make t))
    → LeavesBehind place env.head.fields (by_extent extent size env pat fmt text make)
extent_left Whole size env pat fmt place text make all =
    either place env.head.fields (matches pat text) (by_text size (text_on size env fmt) (λ template. by_text size (replaced pat template text) make)) (Ok env)
    (text_left size place env.head.fields (text_on size env fmt) (λ template. by_text size (replaced pat template text) make) (λ t. text_left size place env.head.fields (replaced pat t text) make all))
    (same_left place env)
extent_left Values size env pat fmt place text make all =
    either place env.head.fields (list_any (matches pat) (values_of text)) (by_text size (text_on size env fmt) (λ template. cond (are_short size pat template text) (make (replaced_values pat template text)) (Err Bytes))) (Ok env)
    (text_left size place env.head.fields (text_on size env fmt) (λ template. cond (are_short size pat template text) (make (replaced_values pat template text)) (Err Bytes))
    (λ t. either place env.head.fields (are_short size pat t text) (make (replaced_values pat t text)) (Err Bytes) (all (replaced_values pat t text)) (none_left place env.head.fields Bytes)))
    (same_left place env)

step_left : (extent : Extent) (size : ℕ) (pat : Pattern) (fmt : Fmt) (place : ℕ) (env : Env) → LeavesBehind place env.head.fields (replace_in extent size pat fmt place env)
step_left extent size pat fmt place env = by (slice_get env.head.fields place)
  where
    by : (o : Option Field) → LeavesBehind place env.head.fields (made_of_field o env (λ field. by_extent extent size env pat fmt field.1 (λ text. by_value size env text (with_value env.head place field))))
    by None = same_left place env
    by (Some field) = extent_left extent size env pat fmt place field.1 (λ text. by_value size env text (with_value env.head place field)) (λ t. value_left size env place field t)

-- ---- the steps that are left

-- a field at a place, and those behind it
split : (fields : List Field) (place : ℕ) (f : Field) → slice_get fields place ≡ Some f → drop place fields ≡ f ∷ drop (suc place) fields
split [] place f h = absurd cc
split (g ∷ fields) zero f h = let one : g ≡ f = cc in ap (λ (x : Field). x ∷ fields) one
split (g ∷ fields) (suc place) f h = split fields place f h

past : (fields : List Field) (place : ℕ) → slice_get fields place ≡ None → drop place fields ≡ []
past [] place h = drop-nil place
past (g ∷ fields) zero h = absurd cc
past (g ∷ fields) (suc place) h = past fields place h

past_too : (fields : List Field) (place : ℕ) → drop place fields ≡ [] → drop (suc place) fields ≡ []
past_too [] place h = drop-nil (suc place)
past_too (g ∷ fields) zero h = absurd cc
past_too (g ∷ fields) (suc place) h = past_too fields place h

-- a step that was done
pub turned : (extent : Extent) (size : ℕ) (name : List ℕ) (pat : Pattern) (fmt : Fmt) (place : ℕ) (now next : Env) → named_step name extent size pat fmt place now ≡ Ok next
    → run_from extent size name pat fmt place now ≡ run_from extent size name pat fmt (suc place) (left_by now next)
turned extent size name pat fmt place now next done = by (slice_get now.head.fields place) refl done
  where
    named : (t : Bool) → cond t (replace_in extent size pat fmt place now) (Ok now) ≡ Ok next
        → run_steps (map (replace_in extent size pat fmt) (cond t (place ∷ places name (drop (suc place) now.head.fields) (suc place)) (places name (drop (suc place) now.head.fields) (suc place)))) now
        ≡ run_from extent size name pat fmt (suc place) (left_by now next)
    named true h =
        ap (λ (r : Result Env Why). after_step now r (run_steps (map (replace_in extent size pat fmt) (places name (drop (suc place) now.head.fields) (suc place))))) h
        ∙ ap (λ (fs : List Field). run_steps (map (replace_in extent size pat fmt) (places name fs (suc place))) (left_by now next)) (sym (step_left extent size pat fmt place now next h))
    named false h = let one : now ≡ next = cc in ap (λ (e : Env). run_from extent size name pat fmt (suc place) (left_by now e)) one

    by : (o : Option Field) → slice_get now.head.fields place ≡ o → cond (has_name name o) (replace_in extent size pat fmt place now) (Ok now) ≡ Ok next
        → run_from extent size name pat fmt place now ≡ run_from extent size name pat fmt (suc place) (left_by now next)
    by None is h =
        let one : now ≡ next = cc in
        let none = past now.head.fields place is in
        ap (λ (fs : List Field). run_steps (map (replace_in extent size pat fmt) (places name fs place)) now) none
        ∙ sym (ap (λ (fs : List Field). run_steps (map (replace_in extent size pat fmt) (places name fs (suc place))) now) (past_too now.head.fields place none))
        ∙ ap (λ (e : Env). run_from extent size name pat fmt (suc place) (left_by now e)) one
    by (Some f) is h =
        ap (λ (fs : List Field). run_steps (map (replace_in extent size pat fmt) (places name fs place)) now) (split now.head.fields place f is)
        ∙ named (is_named name f) h

-- a step that failed
pub stopped : (extent : Extent) (size : ℕ) (name : List ℕ) (pat : Pattern) (fmt : Fmt) (place : ℕ) (now : Env) (why : Why) → named_step name extent size pat fmt place now ≡ Err why
    → run_from extent size name pat fmt place now ≡ Fails why now
stopped extent size name pat fmt place now why failed = by (slice_get now.head.fields place) refl failed
  where
    named : (t : Bool) → cond t (replace_in extent size pat fmt place now) (Ok now) ≡ Err why
        → run_steps (map (replace_in extent size pat fmt) (cond t (place ∷ places name (drop (suc place) now.head.fields) (suc place)) (places name (drop (suc place) now.head.fields) (suc place)))) now ≡ Fails why now
    named true h = ap (λ (r : Result Env Why). after_step now r (run_steps (map (replace_in extent size pat fmt) (places name (drop (suc place) now.head.fields) (suc place))))) h
    named false h = absurd cc

    by : (o : Option Field) → slice_get now.head.fields place ≡ o → cond (has_name name o) (replace_in extent size pat fmt place now) (Ok now) ≡ Err why → run_from extent size name pat fmt place now ≡ Fails why now
    by None is h = absurd cc
    by (Some f) is h =
        ap (λ (fs : List Field). run_steps (map (replace_in extent size pat fmt) (places name fs place)) now) (split now.head.fields place f is)
        ∙ named (is_named name f) h

-- ---- the loop

-- what a step that was done left
pub done_is : (side : Side) (env : Env) (r : Result Env Why) (blocks : List Block) (vars : Variables) → Came side env r Done blocks vars → (next : Env) × (r ≡ Ok next) × IsAt side (left_by env next) blocks vars
done_is side env (Ok next) blocks vars c = (next, refl, c)
done_is side env (Err why) blocks vars c = absurd c

-- why one failed
pub failed_is : (side : Side) (env : Env) (r : Result Env Why) (why : Why) (blocks : List Block) (vars : Variables) → Came side env r (Failed why) blocks vars → (r ≡ Err why) × IsAt side env blocks vars
failed_is side env (Ok next) why blocks vars c = absurd c
failed_is side env (Err reason) why blocks vars c = (ap (λ (w : Why). Err w) (sym c.0), c.1)

-- one more field had its turn
pub turned_on : (side : Side) (all : Act) (extent : Extent) (size here : ℕ) (name : List ℕ) (pat : Pattern) (fmt : Fmt) (place behind : ℕ) (step : Stepped) (old new : List Block) (vars : Variables) → here ≡ size → behind ≡ suc place → step ≡ Done
    → HadTurns side all extent size name pat fmt place old vars → ((env : Env) → IsAt side env old vars → Came side env (named_step name extent here pat fmt place env) step new vars)
    → HadTurns side all extent size name pat fmt behind new vars
turned_on side all extent size here name pat fmt place behind step old new vars sizes is was had came =
    let told : Came side had.now (named_step name extent size pat fmt place had.now) Done new vars =
    subst (λ (n : ℕ). Came side had.now (named_step name extent n pat fmt place had.now) Done new vars) sizes
    (subst (λ (s : Stepped). Came side had.now (named_step name extent here pat fmt place had.now) s new vars) was (came had.now had.at))
    in
    let made = done_is side had.now (named_step name extent size pat fmt place had.now) new vars told in
    record {
      now = left_by had.now made.0;
      at = made.2;
      left = had.left ∙ turned extent size name pat fmt place had.now made.0 made.1 ∙ ap (λ (n : ℕ). run_from extent size name pat fmt n (left_by had.now made.0)) (sym is);
    }

-- a field's step failed
pub turned_off : (side : Side) (all : Act) (extent : Extent) (size here : ℕ) (name : List ℕ) (pat : Pattern) (fmt : Fmt) (place : ℕ) (why : Why) (step : Stepped) (old new : List Block) (vars : Variables) → here ≡ size → step ≡ Failed why
    → HadTurns side all extent size name pat fmt place old vars → ((env : Env) → IsAt side env old vars → Came side env (named_step name extent here pat fmt place env) step new vars)
    → Ran side all (Failed why) new vars
turned_off side all extent size here name pat fmt place why step old new vars sizes was had came =
    let told : Came side had.now (named_step name extent size pat fmt place had.now) (Failed why) new vars =
    subst (λ (n : ℕ). Came side had.now (named_step name extent n pat fmt place had.now) (Failed why) new vars) sizes
    (subst (λ (s : Stepped). Came side had.now (named_step name extent here pat fmt place had.now) s new vars) was (came had.now had.at))
    in
    let made = failed_is side had.now (named_step name extent size pat fmt place had.now) why new vars told in
    subst (λ (a : Act). Ran side a (Failed why) new vars) (sym (had.left ∙ stopped extent size name pat fmt place had.now why made.0)) (refl, made.1)
