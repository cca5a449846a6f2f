-- Values in which a pattern matches, with a template in their place (Configuration Manual, section 4.2, "replace-header").
use Rattle.std.specs.Prelude.{ℕ, suc, ◌+◌, List, [], ◌∷◌, ◌++◌, length, drop, slice_get, slice_set, slice_range, Bool, not, ◌||◌, nat_le, is_some, Option, Some, None, if◌then◌else◌, Result, Ok, Err}
use Rattle.std.specs.List.{list_all, list_any}
use Rattle.http_model.specs.declared.Why.{Why}
use Rattle.http_model.specs.declared.Why.TheVariants.{Bytes}
use Rattle.http_model.specs.Head.{Head, Field}
use Rattle.http_model.specs.Fields.{is_named}
use Rattle.px_bytes.specs.Values.{placed_values, values_of}
use Rattle.regex.specs.Patterns.{Match, find}
use Rattle.px_pattern.specs.Pattern.{Pattern}
use Rattle.px_pattern.specs.Meaning.{pattern_of}
use Rattle.px_conv.specs.Regsub.{groups_of}
use Rattle.px_conv.specs.Template.{expanded}
use Rattle.log_format.specs.declared.fmt.Fmt.{Fmt}
use Rattle.http_rules.specs.declared.action.extent.Extent.{Extent}
use Rattle.http_rules.specs.declared.action.extent.Extent.TheVariants.{Whole, Values}
use Rattle.http_rules.specs.Action.Given.{Env, text_on}
use Rattle.http_rules.specs.Action.Edits.{Step, by_text, by_value}

-- the pattern matches somewhere in a text
abbrev pub matches : Pattern → List ℕ → Bool
matches pat text = is_some (find (pattern_of pat) text 0)

-- the template with the groups of a match in the text
abbrev pub filled : (text template : List ℕ) → Match → List ℕ
filled text template m = expanded (groups_of m) text template

-- the text, or the filled template where there is a match
abbrev pub filled_by : (text template : List ℕ) → Option Match → List ℕ
filled_by text template None = text
filled_by text template (Some m) = filled text template m

abbrev pub replaced : Pattern → (template text : List ℕ) → List ℕ
replaced pat template text = filled_by text template (find (pattern_of pat) text 0)

-- What is made of a text in which the pattern matches, by the format's text with the groups put in, which is within the
-- buffer too; nothing is made of any other.
abbrev pub by_match : (size : ℕ) → Env → Pattern → Fmt → (text : List ℕ) → (List ℕ → Result Env Why) → Result Env Why
by_match size env pat fmt text make =
    if matches pat text
    then by_text size (text_on size env fmt) (λ template. by_text size (replaced pat template text) make) else Ok env

-- ---- fields

-- the places of the fields of a name, the first of which has this one
abbrev pub places : List ℕ → List Field → ℕ → List ℕ
places name [] at = []
places name (field ∷ fields) at = if is_named name field then at ∷ places name fields (suc at) else places name fields (suc at)

-- the head with another value of the field at a place
abbrev pub with_value : Head → ℕ → Field → List ℕ → Head
with_value head at field value = record { line = head.line; fields = slice_set head.fields at (field.0, value) }

-- what is made of a field, where there is one
abbrev pub made_of_field : Option Field → Env → (Field → Result Env Why) → Result Env Why
made_of_field None env make = Ok env
made_of_field (Some field) env make = make field

-- what is made of the field at a place, as the environment has it
abbrev pub on_field : Env → ℕ → (Field → Result Env Why) → Result Env Why
on_field env at make = made_of_field (slice_get env.head.fields at) env make

-- one whole field value
abbrev pub replace_whole : (size : ℕ) → Pattern → Fmt → ℕ → Step
replace_whole size pat fmt at env =
    on_field env at (λ field. by_match size env pat fmt field.1 (λ text. by_value size env text (with_value env.head at field)))

-- ---- values of a field that holds a list

-- The bytes of a field from a place on, with other values in place of those that stand there; what stands between the
-- values stays.
abbrev pub rebuilt : (List ℕ → List ℕ) → (field : List ℕ) → ℕ → List (ℕ × List ℕ) → List ℕ
rebuilt make field from [] = drop from field
rebuilt make field from (placed ∷ others) =
    slice_range field from placed.0 ++ (make placed.1 ++ rebuilt make field (placed.0 + length placed.1) others)

-- the field with each value in which the pattern matches replaced
abbrev pub replaced_values : Pattern → (template field : List ℕ) → List ℕ
replaced_values pat template field = rebuilt (replaced pat template) field 0 (placed_values field)

-- what takes the place of a value is within the buffer; nothing does where the pattern does not match
abbrev pub is_short : (size : ℕ) → Pattern → (template value : List ℕ) → Bool
is_short size pat template value = not (matches pat value) || nat_le (length (replaced pat template value)) size

-- so is what takes the place of each value of a field
abbrev pub are_short : (size : ℕ) → Pattern → (template field : List ℕ) → Bool
are_short size pat template field = list_all (is_short size pat template) (values_of field)

-- What is made of a field in a value of which the pattern matches, by the format's text: each text that takes the place of a value
-- is within the buffer too. The new field value may be longer.
abbrev pub by_matches : (size : ℕ) → Env → Pattern → Fmt → (field : List ℕ) → (List ℕ → Result Env Why) → Result Env Why
by_matches size env pat fmt field make =
    if list_any (matches pat) (values_of field)
    then by_text size (text_on size env fmt) (λ template.
    if are_short size pat template field then make (replaced_values pat template field) else Err Bytes)
    else Ok env

-- the values of one field, all of which are read before the field is edited
abbrev pub replace_values : (size : ℕ) → Pattern → Fmt → ℕ → Step
replace_values size pat fmt at env =
    on_field env at (λ field. by_matches size env pat fmt field.1 (λ text. by_value size env text (with_value env.head at field)))

-- ---- both

-- what is made of the whole of a field, or of its values
abbrev pub by_extent : Extent → (size : ℕ) → Env → Pattern → Fmt → (field : List ℕ) → (List ℕ → Result Env Why) → Result Env Why
by_extent Whole size env pat fmt field make = by_match size env pat fmt field make
by_extent Values size env pat fmt field make = by_matches size env pat fmt field make

-- one field
abbrev pub replace_in : Extent → (size : ℕ) → Pattern → Fmt → ℕ → Step
replace_in extent size pat fmt at env =
    on_field env at (λ field. by_extent extent size env pat fmt field.1 (λ text. by_value size env text (with_value env.head at field)))
