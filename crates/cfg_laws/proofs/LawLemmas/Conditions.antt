-- Conditions as they are spelled by names, and read.
use Rattle.std.proofs.Common.{◌≡◌, ℕ, zero, suc, ◌<◌, ◌≤◌, Bool, true, false, List, [], ◌∷◌, ◌++◌, length, refl, sym, ap, ◌∙◌, subst, append_assoc, arith}
use Rattle.std.proofs.lemmas.Bool.{false≢true, ltb-true}
use Rattle.std.proofs.lemmas.List.{append-nil}
use Rattle.std.specs.Prelude.{nat_lt, Some, Ok, codes}
use Rattle.std.specs.List.{list_all, flat_map}
use Rattle.acl_eval.specs.declared.condition.Test.{Test}
use Rattle.acl_eval.specs.declared.condition.Term.{Term}
use Rattle.acl_eval.specs.declared.condition.Cond.{Cond}
use Rattle.cfg_expr.specs.declared.side.Side.{Side}
use Rattle.cfg_expr.specs.declared.condition.written.AclLine.{AclLine}
use Rattle.cfg_expr.specs.Reading.{◌>>=◌}
use Rattle.cfg_expr.specs.Condition.Lines.{named_tests}
use Rattle.cfg_expr.specs.Condition.Conditions.{is_or, is_open, term_at, with_word, groups_from, no_groups, condition_of, rule_end}
use Rattle.cfg_print.specs.Table.{key_of, name_for}
use Rattle.cfg_print.specs.Rules.{mark, term_word, group_words, joined_words, groups_words, end_words}
use Rattle.cfg_laws.specs.Laws.Conditions.{AreNamed, AreAllNamed, has_term, are_groups}
use Rattle.cfg_laws.proofs.LawLemmas.Words.{both_left, both_right}
use Rattle.cfg_laws.proofs.LawLemmas.Convs.{found}

-- ---- a term

-- a term behind its mark
marked_term : (side : Side) (lines : List AclLine) (negated : Bool) (tests : List Test) (digits : List ℕ) (others : List (List ℕ)) (whole : List (List Term)) (terms : List Term)
    → named_tests side lines (99 ∷ digits) ≡ Ok tests
    → with_word side lines (record no_groups { whole = whole; terms = terms }) (mark negated ++ 99 ∷ digits) others
    ≡ found [] (record no_groups { whole = whole; terms = terms ++ (record { not = negated; tests = tests }) ∷ [] }, others)
unfolding with_word is_or is_open term_at
marked_term side lines true tests digits others whole terms h = rw h refl
marked_term side lines false tests digits others whole terms h = rw h refl

term_step : (side : Side) (lines : List AclLine) (keys : List (List ℕ)) (term : Term) (others : List (List ℕ)) (whole : List (List Term)) (terms : List Term)
    → named_tests side lines (name_for keys (key_of term)) ≡ Ok term.tests
    → with_word side lines (record no_groups { whole = whole; terms = terms }) (term_word keys term) others ≡ found [] (record no_groups { whole = whole; terms = terms ++ term ∷ [] }, others)
unfolding name_for
term_step side lines keys term others whole terms h = marked_term side lines term.not term.tests _ others whole terms h

or_step : (side : Side) (lines : List AclLine) (others : List (List ℕ)) (whole : List (List Term)) (terms : List Term) → 0 < length terms
    → with_word side lines (record no_groups { whole = whole; terms = terms }) (codes "||") others ≡ found [] (record no_groups { whole = whole ++ terms ∷ []; terms = [] }, others)
unfolding with_word is_or
or_step side lines others whole [] some = absurd (omega arith)
or_step side lines others whole (term ∷ terms) some = refl

-- ---- groups

-- what is left comes to these groups, however many words may come
abbrev Comes : Side → List AclLine → List (List Term) → List Term → List (List ℕ) → List (List Term) → Type 0
Comes side lines whole terms words groups = (most : ℕ) → length words ≤ most → groups_from side lines most (record no_groups { whole = whole; terms = terms }) words ≡ found [] groups

-- terms in front of what follows
terms_read : (side : Side) (lines : List AclLine) (keys : List (List ℕ)) (whole groups : List (List Term)) (terms rest : List Term) (words : List (List ℕ))
    → AreNamed side lines keys rest → Comes side lines whole (terms ++ rest) words groups → Comes side lines whole terms (group_words keys rest ++ words) groups
unfolding groups_from
terms_read side lines keys whole groups terms [] words named h most few = subst (λ l. Comes side lines whole l words groups) (append-nil terms) h most few
terms_read side lines keys whole groups terms (term ∷ rest) words named h zero few = absurd (omega arith)
terms_read side lines keys whole groups terms (term ∷ rest) words named h (suc most) few =
    let others = group_words keys rest ++ words in
    let more = subst (λ l. Comes side lines whole l words groups) (sym (append_assoc terms (term ∷ []) rest)) h in
    let behind = terms_read side lines keys whole groups (terms ++ term ∷ []) rest words named.1 more most (omega arith) in
    ap (λ r. r >>= λ next. groups_from side lines most next.0 next.1) (term_step side lines keys term others whole terms named.0)
    ∙ behind

last : (side : Side) (lines : List AclLine) (whole : List (List Term)) (term : Term) (terms : List Term) (most : ℕ)
    → groups_from side lines most (record no_groups { whole = whole; terms = term ∷ terms }) [] ≡ found [] (whole ++ (term ∷ terms) ∷ [])
unfolding groups_from
last side lines whole term terms zero = refl
last side lines whole term terms (suc most) = refl

next_group : (side : Side) (lines : List AclLine) (keys : List (List ℕ)) (whole : List (List Term)) (terms group : List Term) (others : List (List Term)) (most : ℕ) → 0 < length terms
    → length (flat_map (joined_words keys) (group ∷ others)) ≤ most
    → Comes side lines (whole ++ terms ∷ []) [] (group_words keys group ++ flat_map (joined_words keys) others) ((whole ++ terms ∷ []) ++ group ∷ others)
    → groups_from side lines most (record no_groups { whole = whole; terms = terms }) (flat_map (joined_words keys) (group ∷ others)) ≡ found [] (whole ++ terms ∷ (group ∷ others))
unfolding groups_from
next_group side lines keys whole terms group others zero some few h = absurd (omega arith)
next_group side lines keys whole terms group others (suc most) some few h =
    let words = group_words keys group ++ flat_map (joined_words keys) others in
    ap (λ r. r >>= λ next. groups_from side lines most next.0 next.1) (or_step side lines words whole terms some)
    ∙ h most (omega arith) ∙ ap (λ all. found [] all) (append_assoc whole (terms ∷ []) (group ∷ others))

-- groups behind one
groups_read : (side : Side) (lines : List AclLine) (keys : List (List ℕ)) (whole : List (List Term)) (terms : List Term) (others : List (List Term))
    → 0 < length terms → list_all has_term others ≡ true → AreAllNamed side lines keys others → Comes side lines whole terms (flat_map (joined_words keys) others) (whole ++ terms ∷ others)
unfolding groups_from
groups_read side lines keys whole [] others some all named = absurd (omega arith)
groups_read side lines keys whole (term ∷ terms) [] some all named = λ most few. last side lines whole term terms most
groups_read side lines keys whole (term ∷ terms) (group ∷ others) some all named = λ most few. next_group side lines keys whole (term ∷ terms) group others most some few
    (terms_read side lines keys (whole ++ (term ∷ terms) ∷ []) ((whole ++ (term ∷ terms) ∷ []) ++ group ∷ others) [] group (flat_map (joined_words keys) others) named.0
    (groups_read side lines keys (whole ++ (term ∷ terms) ∷ []) group others (ltb-true 0 (length group) (both_left (has_term group) (list_all has_term others) all)) (both_right (has_term group) (list_all has_term others) all) named.1))

all_groups : (side : Side) (lines : List AclLine) (keys : List (List ℕ)) (groups : List (List Term)) (most : ℕ) → are_groups groups ≡ true → AreAllNamed side lines keys groups
    → length (groups_words keys groups) ≤ most → groups_from side lines most no_groups (groups_words keys groups) ≡ found [] groups
unfolding groups_words
all_groups side lines keys [] most h named few = absurd (false≢true h)
all_groups side lines keys (group ∷ others) most h named few =
    let all = both_right (nat_lt 0 (length (group ∷ others))) (list_all has_term (group ∷ others)) h in
    terms_read side lines keys [] (group ∷ others) [] group (flat_map (joined_words keys) others) named.0
    (groups_read side lines keys [] group others (ltb-true 0 (length group) (both_left (has_term group) (list_all has_term others) all)) (both_right (has_term group) (list_all has_term others) all) named.1)
    most few

-- ---- the end of a rule

by_sense : (side : Side) (lines : List AclLine) (keys : List (List ℕ)) (unless : Bool) (groups : List (List Term)) → are_groups groups ≡ true → AreAllNamed side lines keys groups
    → rule_end side lines (end_words keys (Some (record { unless = unless; groups = groups }))) ≡ found [] (Some (record { unless = unless; groups = groups }))
unfolding rule_end end_words condition_of
by_sense side lines keys true groups h named = rw (all_groups side lines keys groups (length (groups_words keys groups)) h named (omega arith)) refl
by_sense side lines keys false groups h named = rw (all_groups side lines keys groups (length (groups_words keys groups)) h named (omega arith)) refl

-- a condition is read back
pub condition_back : (side : Side) (lines : List AclLine) (keys : List (List ℕ)) (cond : Cond) → are_groups cond.groups ≡ true → AreAllNamed side lines keys cond.groups
    → rule_end side lines (end_words keys (Some cond)) ≡ found [] (Some cond)
condition_back side lines keys cond h named = by_sense side lines keys cond.unless cond.groups h named
