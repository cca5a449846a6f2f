-- The name of a pair that is read is one that a configuration may tell.
use Rattle.std.proofs.Common.{◌≡◌, ℕ, Bool, true, List, [], ◌∷◌, ◌++◌, length, Result, Ok, Err, false, refl}
use Rattle.std.proofs.lemmas.Bool.{and_parts, leb-true, not-true}
use Rattle.std.specs.Prelude.{◌&&◌, not, nat_le, None, codes}
use Rattle.std.specs.List.{list_all, AllByRecursion}
use Rattle.std.specs.Str.{bytes_eq}
use Rattle.http_rules.specs.Valid.{is_param_byte, IsParam}
use Rattle.log_format.specs.declared.fmt.Fmt.{Fmt}
use Rattle.http_rules.specs.declared.rule.action.Action.TheVariants as actions
use Rattle.http_rules.specs.declared.rule.rule.Rule.{Rule}
use Rattle.cfg_expr.specs.declared.condition.written.AclLine.{AclLine}
use Rattle.cfg_expr.specs.declared.side.Side.TheVariants.{Request}
use Rattle.cfg_expr.specs.Formats.{format_of}
use Rattle.cfg_expr.specs.Reading.{plain, kind_as}
use Rattle.cfg_parse.specs.Action.Faults.{argument, of_text}
use Rattle.cfg_parse.specs.Action.Params.{most_param, is_param, param_of, value_at, param_rule}
use Rattle.cfg_parse.specs.Asking.{of_rule}
use Rattle.cfg_parse.specs.Pairs.{is_among, with_name}
use Rattle.cfg_parse.specs.Action.Arguments.{forwarded_name}
use Rattle.cfg_parse.specs.Action.Forwarding.{forwarding_rule}
use Rattle.cfg_parse.specs.Whole.{is_allow, ends_rules}
use Rattle.cfg_print.specs.Pairs.{sets_one, is_set}
use Rattle.cfg_laws.proofs.ReadLemmas.Steps.{GivesSo, so_given}
use Rattle.cfg_laws.proofs.ReadLemmas.PairRules.{told_field}
use Rattle.cfg_laws.proofs.ReadLemmas.SettingSteps.{so_if, so_read, either_so}

is_name : (word : List ℕ) → is_param word ≡ true → IsParam word
unfolding is_param
is_name word h =
    let some : Bool = nat_le 1 (length word) in
    let short : Bool = nat_le (length word) most_param in
    let bytes : Bool = list_all is_param_byte word in
    let free : Bool = not (bytes_eq word (codes "HTTP_PROXY")) in
    let both = and_parts (some && short) (bytes && free) h in
    let size = and_parts some short both.0 in
    let rest = and_parts bytes free both.1 in
    record { some = leb-true 1 (length word) size.0; short = leb-true (length word) most_param size.1; bytes = rest.0; free = not-true (bytes_eq word (codes "HTTP_PROXY")) rest.1 }

name_said : (word : List ℕ) → GivesSo IsParam (param_of word)
name_said word = so_if IsParam (is_param word) _ (Ok word) (is_name word)

-- a pair's name, and that its rule tells the field of it
abbrev pub IsPair : List ℕ × Rule → Type 0
IsPair pair = IsParam pair.0 × ((names : List (List ℕ)) → is_set (with_name names pair.0) pair.1 ≡ true)

rule_said : (lines : List AclLine) (words : List (List ℕ)) → GivesSo IsPair (param_rule lines words).gives
unfolding param_rule sets_one
rule_said lines words =
    so_read IsPair (argument words) _
    (λ word a. so_read IsPair (param_of word.0) _
    (λ name b. so_read IsPair (value_at lines word.1).gives _ (λ value d. (so_given IsParam (param_of word.0) name (name_said word.0) b, λ names. told_field names name))))

so_kinds : {K L A : Type 0} (P : A → Type 0) (turned : K → L) (told : Result A K) → GivesSo P told → GivesSo P (kind_as turned told)
so_kinds P turned (Ok x) h = h
so_kinds P turned (Err kind) h = tt

pub pair_told : (lines : List AclLine) (words : List (List ℕ)) (pair : List ℕ × Rule) → (of_rule (param_rule lines words)).gives ≡ Ok pair → IsPair pair
pair_told lines words pair is = so_given IsPair (of_rule (param_rule lines words)).gives pair (so_kinds IsPair _ (param_rule lines words).gives (rule_said lines words)) is

push : (names : List (List ℕ)) (name : List ℕ) → AllByRecursion IsParam names → IsParam name → AllByRecursion IsParam (names ++ name ∷ [])
push [] name all is = (is, tt)
push (one ∷ names) name all is = (all.0, push names name all.1 is)

-- with one more name
pub names_said : (names : List (List ℕ)) (name : List ℕ) → AllByRecursion IsParam names → IsParam name → AllByRecursion IsParam (with_name names name)
names_said names name all is = either_so (AllByRecursion IsParam) (is_among names name) names (names ++ name ∷ []) all (push names name all is)

-- ---- the rule of `option forwardfor`

abbrev EndsNone : Rule → Type 0
EndsNone rule = ends_rules rule ≡ false

forwarding_said : (words : List (List ℕ)) → GivesSo EndsNone (forwarding_rule words).gives
unfolding forwarding_rule is_allow
forwarding_said words =
    let made : List ℕ → Fmt → Rule = λ name fmt. record { action = actions.AddHeader name fmt; cond = None } in
    so_read EndsNone (forwarded_name words) _
    (λ name a. so_read EndsNone (of_text (format_of Request (codes "%[src]"))).gives (λ fmt. plain (Ok (made name fmt))) (λ fmt b. refl))

-- it ends no rules
pub forwarding_told : (words : List (List ℕ)) (rule : Rule) → (of_rule (forwarding_rule words)).gives ≡ Ok rule → ends_rules rule ≡ false
forwarding_told words rule is = so_given EndsNone (of_rule (forwarding_rule words)).gives rule (so_kinds EndsNone _ (forwarding_rule words).gives (forwarding_said words)) is
