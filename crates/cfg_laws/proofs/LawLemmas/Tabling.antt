-- The lines of a table, read in their place.
use Rattle.std.proofs.Common.{◌≡◌, ℕ, ◌≤◌, true, cond, List, [], ◌∷◌, refl, sym, ap, ◌∙◌, subst}
use Rattle.std.proofs.lemmas.Bool.{false≢true}
use Rattle.std.specs.Prelude.{not, is_ok, Result, Ok, Err, codes}
use Rattle.std.specs.List.{flat_map}
use Rattle.acl_eval.specs.declared.condition.Term.{Term}
use Rattle.cfg_expr.specs.declared.fault.TextKind.{TextKind}
use Rattle.cfg_expr.specs.declared.condition.written.AclLine.{AclLine}
use Rattle.cfg_expr.specs.Condition.Lines.{most_lines}
use Rattle.cfg_expr.specs.Condition.Conditions.{acl_line}
use Rattle.cfg_expr.specs.Reading.{plain, given_by, kind_as}
use Rattle.cfg_expr.specs.Faults.{TextReading}
use Rattle.cfg_parse.specs.Asking.{LineReading, kind_of_text}
use Rattle.cfg_parse.specs.declared.fault.CfgKind.TheVariants.{Section, Keyword}
use Rattle.cfg_parse.specs.declared.draft.Draft.{Draft}
use Rattle.cfg_parse.specs.declared.draft.Section.TheVariants as sections
use Rattle.cfg_parse.specs.declared.keywords.Setting.{Setting}
use Rattle.cfg_parse.specs.declared.keywords.Setting.TheVariants.{Acl}
use Rattle.cfg_parse.specs.declared.keywords.Places.TheVariants.{InListen}
use Rattle.cfg_parse.specs.Draft.{is_before, belongs}
use Rattle.cfg_parse.specs.Keywords.{section_word, general_setting, listen_setting}
use Rattle.cfg_parse.specs.Lines.{setting_line, known_line, words_line}
use Rattle.cfg_parse.specs.Rules.{acl_setting}
use Rattle.cfg_print.specs.Table.{table_text, count_lines}
use Rattle.cfg_laws.specs.Laws.Reading.{Comes}
use Rattle.cfg_laws.specs.Laws.Table.{declared, declared_words, acl_text, lines_from, are_spelled_terms}
use Rattle.cfg_laws.proofs.LawLemmas.Declared.{table_spelled, table_declared}
use Rattle.cfg_laws.proofs.LawLemmas.Readings.{no_lines, one_line, more_lines}

-- a setting of `listen` stands there
pub listen_line : (draft : Draft) (setting : Setting) (words : List (List ℕ)) → draft.section ≡ sections.Listen → known_line draft setting InListen words ≡ setting_line draft setting words
unfolding known_line
listen_line draft setting words h =
    ap (λ s. cond (is_before s) (plain (Err Section)) (cond (not (belongs InListen s)) (plain (Err Keyword)) (setting_line draft setting words))) h

abbrev with_acls : Draft → List AclLine → Draft
with_acls draft lines = record draft { acls = lines }

acl_words : (draft : Draft) (words : List (List ℕ)) → words_line draft (codes "acl" ∷ words) ≡ known_line draft Acl InListen words
unfolding words_line section_word general_setting listen_setting
acl_words draft words = refl

-- a line adds what its words declare
acl_added : (draft : Draft) (words : List (List ℕ)) (more : List AclLine) → draft.section ≡ sections.Listen → (acl_line draft.acls words).gives ≡ Ok more
    → (words_line draft (codes "acl" ∷ words)).gives ≡ Ok (with_acls draft more)
unfolding setting_line acl_setting
acl_added draft words more listen h =
    ap (λ (r : LineReading Draft). r.gives) (acl_words draft words ∙ listen_line draft Acl words listen)
    ∙ ap (λ (g : Result (List AclLine) TextKind). given_by (kind_as kind_of_text g) (λ lines. plain (Ok (with_acls draft lines)))) h

-- the lines that were found, or else these
abbrev or_these : List AclLine → Result (List AclLine) TextKind → List AclLine
or_these lines (Ok found) = found
or_these lines (Err kind) = lines

-- one line behind which the others are read
acls_behind : (draft : Draft) (words : List (List ℕ)) (others : List (List (List ℕ))) (all : List AclLine) (g : Result (List AclLine) TextKind) → draft.section ≡ sections.Listen
    → (acl_line draft.acls words).gives ≡ g → given_by g (λ more. lines_from more others) ≡ Ok all
    → ((more : List AclLine) → (lines_from more others).gives ≡ Ok all → Comes (with_acls draft more) (flat_map acl_text others) (with_acls draft all))
    → Comes draft (flat_map acl_text (words ∷ others)) (with_acls draft all)
acls_behind draft words others all (Ok more) listen is h again =
    more_lines draft (with_acls draft more) (with_acls draft all) (acl_text words) (flat_map acl_text others)
    (one_line draft (with_acls draft more) (codes "acl" ∷ words) (acl_added draft words more listen is)) (again more h)
acls_behind draft words others all (Err kind) listen is h again = absurd (false≢true (ap is_ok h))

-- lines add what they declare, one behind the other
acls_added : (draft : Draft) (words : List (List (List ℕ))) (all : List AclLine) → draft.section ≡ sections.Listen → (lines_from draft.acls words).gives ≡ Ok all
    → Comes draft (flat_map acl_text words) (with_acls draft all)
acls_added draft [] all listen h = subst (λ l. Comes draft [] (with_acls draft l)) (ap (or_these []) h) (no_lines draft)
acls_added draft (words ∷ others) all listen h =
    acls_behind draft words others all (acl_line draft.acls words).gives listen refl h (λ more i. acls_added (with_acls draft more) others all listen i)

-- the lines of a table are read
pub table_read : (draft : Draft) (terms : List Term) → draft.section ≡ sections.Listen → draft.acls ≡ [] → are_spelled_terms terms ≡ true → count_lines [] terms ≤ most_lines
    → Comes draft (table_text [] terms) (record draft { acls = declared [] terms })
table_read draft terms listen none spelled few =
    let told = ap (λ (r : TextReading (List AclLine)). r.gives) (table_declared terms spelled few) in
    subst (λ text. Comes draft text (with_acls draft (declared [] terms))) (sym (table_spelled [] terms))
    (acls_added draft (declared_words [] terms) (declared [] terms) listen (ap (λ l. (lines_from l (declared_words [] terms)).gives) none ∙ told))
