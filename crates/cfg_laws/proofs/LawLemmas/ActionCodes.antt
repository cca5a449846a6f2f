-- Actions with a code, a variable or a switch, as they are spelled, and read.
use Rattle.std.proofs.Common.{◌≡◌, ℕ, ◌-◌, ◌<◌, Bool, true, false, cond, List, [], ◌∷◌, ◌++◌, length, take, drop, refl, sym, ap, ◌∙◌, append_assoc, arith, length-append}
use Rattle.std.proofs.lemmas.Bool.{lt-ltb, le-leb, and_from}
use Rattle.std.proofs.lemmas.Bool.Decides.{Decides-eqb}
use Rattle.std.proofs.lemmas.List.{append-nil}
use Rattle.std.proofs.lemmas.Slice.Eq.{starts_is, ends_is}
use Rattle.std.proofs.Math.Seq.{take-append_seam, drop-append_seam}
use Rattle.std.specs.Prelude.{◌&&◌, ◌||◌, ◌==◌, nat_eq, nat_lt, nat_le, Option, Some, None, Err, codes}
use Rattle.std.specs.List.{list_all, starts_with, ends_with}
use Rattle.std.specs.Char.{is_ascii_alphanumeric}
use Rattle.std.specs.Fmt.{decimal}
use Rattle.px_sample.specs.declared.scope.Scope.{Scope}
use Rattle.px_expr.specs.declared.expr.Expr.{Expr}
use Rattle.http_rules.specs.declared.rule.action.Direction.{Direction}
use Rattle.http_rules.specs.declared.rule.action.Action.TheVariants as actions
use Rattle.http_rules.specs.Rule.Valid.{IsCode, IsSetStatus, IsVariableName, is_variable_byte}
use Rattle.cfg_expr.specs.declared.side.Side.{Side}
use Rattle.cfg_expr.specs.Steps as steps
use Rattle.cfg_expr.specs.Reading.{plain, ◌>>=◌}
use Rattle.cfg_expr.specs.Faults.{TextReading}
use Rattle.cfg_expr.specs.Fetches as fetches
use Rattle.cfg_expr.specs.Exprs.{expr_of}
use Rattle.cfg_parse.specs.declared.action.fault.RuleKind.TheVariants.{Argument}
use Rattle.cfg_parse.specs.Action.Faults.{Read, of_text, argument}
use Rattle.cfg_parse.specs.Action.Arguments.{Words, bracketed, variable_in, known, variable_behind}
use Rattle.cfg_parse.specs.Action.Plain.{denied_with, denied, is_status, with_body, is_reason, reasoned, reason_behind, status_set, variable_unset, mode_of, mode_set}
use Rattle.cfg_parse.specs.Action.Actions.{variable_set}
use Rattle.cfg_print.specs.Exprs.{expr_text, variable_text}
use Rattle.cfg_print.specs.Actions.{reason_words, variable_word, switch_text}
use Rattle.cfg_laws.specs.Spelled.{is_spelled}
use Rattle.cfg_laws.specs.SpelledActions.{ends_action}
use Rattle.cfg_laws.specs.Laws.Exprs.{expr_patterns}
use Rattle.cfg_laws.proofs.LawLemmas.Fetches.{variable_back}
use Rattle.cfg_laws.proofs.LawLemmas.Exprs.{whole_expr_back}
use Rattle.cfg_laws.proofs.LawLemmas.ActionWords.{gives, left, told, code_back, by_sense}

-- ---- codes

pub denied_back : (direction : Direction) (code : ℕ) (rest : Words) → IsCode 400 599 code → denied direction (codes "status" ∷ decimal code ∷ rest) ≡ told (left (actions.Deny code) rest)
unfolding denied denied_with is_status
denied_back direction code rest is = ap (λ (r : Read ℕ). steps.◌>>=◌ r (λ n. told (left (actions.Deny n) rest))) (code_back 400 599 code is (omega arith))

no_reason : (word : List ℕ) (others : Words) → ends_action (word ∷ others) ≡ true → is_reason word ≡ false
unfolding is_reason
no_reason word others h = by_sense (λ w. is_reason w ≡ false) word h refl refl

reason_back : (code : ℕ) (reason : Option (List ℕ)) (rest : Words) → ends_action rest ≡ true → reason_behind code (reason_words reason ++ rest) ≡ told (left (actions.SetStatus code reason) rest)
unfolding is_reason reasoned
reason_back code None [] ends = refl
reason_back code None (word ∷ others) ends = ap (λ t. cond t (reasoned code others) (told (left (actions.SetStatus code None) (word ∷ others)))) (no_reason word others ends)
reason_back code (Some text) rest ends = refl

pub status_back : (code : ℕ) (reason : Option (List ℕ)) (rest : Words) → IsSetStatus code → ends_action rest ≡ true
    → status_set (decimal code ∷ (reason_words reason ++ rest)) ≡ told (left (actions.SetStatus code reason) rest)
unfolding status_set
status_back code reason rest is ends =
    let more = reason_words reason ++ rest in
    ap (λ (r : Read ℕ). steps.◌>>=◌ r (λ n. steps.◌>>=◌ (with_body n) (λ status. reason_behind status more))) (code_back 200 999 code is.code_is (omega arith))
    ∙ ap (λ t. steps.◌>>=◌ (cond t (Err Argument) (told code)) (λ status. reason_behind status more)) is.with_body
    ∙ reason_back code reason rest ends

-- ---- a switch

pub switch_back : (on : Bool) (rest : Words) → mode_set (switch_text on ∷ rest) ≡ told (left (actions.StrictMode on) rest)
unfolding mode_set mode_of
switch_back true rest = refl
switch_back false rest = refl

-- ---- a variable in brackets

bracket_if : (a b c : Bool) (x y : List ℕ) → a ≡ true → b ≡ true → c ≡ true → x ≡ y → cond (a && b) (cond c (Some x) None) None ≡ Some y
bracket_if a b c x y h i j e = cc

-- what stands in brackets is read back
bracketed_back : (begin text : List ℕ) → bracketed begin (begin ++ (text ++ 41 ∷ [])) ≡ Some text
unfolding bracketed
bracketed_back begin text =
    let close : List ℕ = 41 ∷ [] in
    let word = begin ++ (text ++ close) in
    let size = length-append begin (text ++ close) in
    let inner = length-append text close in
    let one : length close ≡ 1 = refl in
    let longer : length begin < length word = omega (arith, size, inner, one) in
    let count : length word - 1 - length begin ≡ length text = omega (arith, size, inner, one) in
    let cut : take (length word - 1 - length begin) (drop (length begin) word) ≡ text =
    ap (take (length word - 1 - length begin)) (drop-append_seam begin (text ++ close)) ∙ ap (λ n. take n (text ++ close)) count ∙ take-append_seam text close in
    bracket_if (starts_with nat_eq word begin) (ends_with nat_eq word close) (nat_lt (length begin) (length word)) (take (length word - 1 - length begin) (drop (length begin) word)) text
    ((starts_is Decides-eqb word begin (starts_with nat_eq word begin) refl).1 (text ++ close) refl)
    ((ends_is Decides-eqb word close (ends_with nat_eq word close) refl).1 (begin ++ text) (sym (append_assoc begin text close)))
    (lt-ltb (length begin) (length word) longer) cut

or_assoc : (a b c : Bool) → ((a || b) || c) ≡ (a || (b || c))
or_assoc true b c = refl
or_assoc false b c = refl

-- both words on bytes of a variable's name say the same
all_same : (name : List ℕ) → list_all fetches.is_variable_byte name ≡ list_all is_variable_byte name
all_same [] = refl
all_same (b ∷ name) =
    let first : fetches.is_variable_byte b ≡ is_variable_byte b = or_assoc (is_ascii_alphanumeric b) (b == 95) (b == 46) in
    ap (λ t. t && list_all fetches.is_variable_byte name) first ∙ ap (λ t. is_variable_byte b && t) (all_same name)

variable_named : (name : List ℕ) → IsVariableName name → fetches.is_variable_name name ≡ true
variable_named name is = and_from (nat_le 1 (length name)) (list_all fetches.is_variable_byte name) (le-leb 1 (length name) is.some) (all_same name ∙ is.bytes)

-- a variable in a scope
abbrev scoped : Scope → List ℕ → Scope × List ℕ
scoped scope name = (scope, name)

variable_read : (begin : List ℕ) (scope : Scope) (name : List ℕ) → IsVariableName name → variable_behind begin (begin ++ (variable_text scope name ++ 41 ∷ [])) ≡ told (scoped scope name)
variable_read begin scope name is =
    ap (λ (text : Option (List ℕ)). known (variable_in text)) (bracketed_back begin (variable_text scope name))
    ∙ ap (λ (v : Option (Scope × List ℕ)). known v) (variable_back scope name (variable_named name is))

pub unset_back : (scope : Scope) (name : List ℕ) (rest : Words) → IsVariableName name → variable_unset (variable_word (codes "unset-var") scope name) rest ≡ told (left (actions.UnsetVar scope name) rest)
unfolding variable_unset
unset_back scope name rest is = ap (λ (r : Read (Scope × List ℕ)). steps.◌>>=◌ r (λ v. told (left (actions.UnsetVar v.0 v.1) rest))) (variable_read (codes "unset-var(") scope name is)

pub set_var_back : (side : Side) (scope : Scope) (name : List ℕ) (expr : Expr) (rest : Words) → IsVariableName name → is_spelled side expr ≡ true
    → variable_set side (variable_word (codes "set-var") scope name) (expr_text expr ∷ rest) ≡ gives (expr_patterns expr) (left (actions.SetVar scope name expr) rest)
unfolding variable_set
set_var_back side scope name expr rest is h =
    ap (λ (r : Read (Scope × List ℕ)). plain r >>= λ v. plain (argument (expr_text expr ∷ rest)) >>= λ text. of_text (expr_of side text.0) >>= λ e. plain (told (left (actions.SetVar v.0 v.1 e) text.1)))
    (variable_read (codes "set-var(") scope name is)
    ∙ ap (λ (r : TextReading Expr). of_text r >>= λ e. plain (told (left (actions.SetVar scope name e) rest))) (whole_expr_back side expr h)
    ∙ ap (λ asks. gives asks (left (actions.SetVar scope name expr) rest)) (append-nil (expr_patterns expr))
