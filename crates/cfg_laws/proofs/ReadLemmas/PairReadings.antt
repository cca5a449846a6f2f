-- The rules of pairs, and that of `option forwardfor`, can be said again.
use Rattle.std.proofs.Common.{◌≡◌, ℕ, Bool, true, List, length, Result, Ok, Err, refl}
use Rattle.std.proofs.lemmas.Bool.{and_parts, and_from, leb-true, not-true}
use Rattle.std.specs.Prelude.{◌&&◌, not, nat_le, Option, None, codes}
use Rattle.std.specs.List.{list_all}
use Rattle.std.specs.Str.{bytes_eq}
use Rattle.log_format.specs.declared.fmt.Fmt.{Fmt}
use Rattle.acl_eval.specs.declared.condition.Cond.{Cond}
use Rattle.http_rules.specs.Valid.{IsParam, is_param_byte}
use Rattle.http_rules.specs.declared.rule.action.Action.TheVariants as actions
use Rattle.http_rules.specs.declared.rule.rule.Rule.{Rule}
use Rattle.cfg_expr.specs.declared.side.Side.TheVariants.{Request}
use Rattle.cfg_expr.specs.declared.condition.written.AclLine.{AclLine}
use Rattle.cfg_expr.specs.Reading.{Reading, plain, given_by, ◌>>=◌}
use Rattle.cfg_expr.specs.Formats.{format_of}
use Rattle.cfg_expr.specs.Condition.Conditions.{rule_end}
use Rattle.cfg_parse.specs.declared.action.fault.RuleKind.TheVariants.{Argument}
use Rattle.cfg_parse.specs.Action.Faults.{RuleReading, of_text, argument}
use Rattle.cfg_parse.specs.Action.Arguments.{Words, forwarded_name}
use Rattle.cfg_parse.specs.Action.Asked.{format_at}
use Rattle.cfg_parse.specs.Action.Params.{most_param, is_param, param_of, value_at, param_set, param_rule}
use Rattle.cfg_parse.specs.Action.Forwarding.{forwarding_rule}
use Rattle.cfg_laws.specs.Spelled.{is_spelled_format}
use Rattle.cfg_laws.specs.SpelledActions.{is_spelled_action}
use Rattle.cfg_laws.specs.Laws.Read.{AreSpelledLines}
use Rattle.cfg_laws.specs.Laws.ReadRules.{AreFewOfEach, is_spelled_end, IsSpelledPair, is_spelled_forwarding}
use Rattle.cfg_laws.proofs.ReadLemmas.Steps.{Gives, GivesSo, gives_so, gives_if, gives_behind, so_behind, so_given}
use Rattle.cfg_laws.proofs.ReadLemmas.Formats.{format_gives}
use Rattle.cfg_laws.proofs.ReadLemmas.Arguments.{any_behind, text_gives, fmt_said, format_said}
use Rattle.cfg_laws.proofs.ReadLemmas.Terms.{ends_give}

-- ---- pairs

param_is : (word : List ℕ) → is_param word ≡ true → IsParam word
unfolding is_param
param_is word h =
    let parts = and_parts (nat_le 1 (length word) && nat_le (length word) most_param) (list_all is_param_byte word && not (bytes_eq word (codes "HTTP_PROXY"))) h in
    let size = and_parts (nat_le 1 (length word)) (nat_le (length word) most_param) parts.0 in
    let bytes = and_parts (list_all is_param_byte word) (not (bytes_eq word (codes "HTTP_PROXY"))) parts.1 in
    record { some = leb-true 1 (length word) size.0; short = leb-true (length word) 64 size.1; bytes = bytes.0; free = not-true (bytes_eq word (codes "HTTP_PROXY")) bytes.1 }

param_gives : (word : List ℕ) → Gives is_param (param_of word)
param_gives word = gives_if is_param (is_param word) word Argument (λ is. is)

-- a text and a condition that can be said
abbrev value_said : Fmt × Option Cond → Bool
value_said value = is_spelled_format Request value.0 && is_spelled_end Request value.1

value_gives : (lines : List AclLine) (words : Words) → AreSpelledLines Request lines → AreFewOfEach lines → Gives value_said (value_at lines words).gives
unfolding value_at
value_gives lines words h few =
    let with_end : Fmt → Option Cond → RuleReading (Fmt × Option Cond) = λ fmt end. plain (Ok (fmt, end)) in
    let of_fmt : Fmt × Words → RuleReading (Fmt × Option Cond) = λ fmt. of_text (rule_end Request lines fmt.1) >>= with_end fmt.0 in
    gives_behind (fmt_said Request) value_said (format_at Request words).gives of_fmt (format_said Request words)
    (λ fmt is. gives_behind (is_spelled_end Request) value_said (of_text (rule_end Request lines fmt.1)).gives (with_end fmt.0)
    (text_gives (is_spelled_end Request) (rule_end Request lines fmt.1).gives (ends_give Request lines fmt.1 h few)) (λ end own. and_from (is_spelled_format Request fmt.0) (is_spelled_end Request end) is own))

abbrev PairSaid : List ℕ × Rule → Type 0
PairSaid found = IsSpelledPair found.0 found.1

any_so : {K A B : Type 0} (P : B → Type 0) (told : Result A K) (f : A → Reading K B) → ((x : A) → GivesSo P (f x).gives) → GivesSo P (given_by told f)
any_so P (Ok x) f more = more x
any_so P (Err kind) f more = tt

pair_of : (name : List ℕ) (value : Fmt × Option Cond) → is_param name ≡ true → value_said value ≡ true → IsSpelledPair name (param_set name value.0 value.1)
pair_of name value is said =
    let parts = and_parts (is_spelled_format Request value.0) (is_spelled_end Request value.1) said in
    record { named = param_is name is; fmt = value.0; made = refl; text = parts.0; end = parts.1 }

pair_gives : (lines : List AclLine) (words : Words) → AreSpelledLines Request lines → AreFewOfEach lines → GivesSo PairSaid (param_rule lines words).gives
unfolding param_rule
pair_gives lines words h few =
    let with_value : List ℕ → Fmt × Option Cond → RuleReading (List ℕ × Rule) = λ name value. plain (Ok (name, param_set name value.0 value.1)) in
    let of_name : Words → List ℕ → RuleReading (List ℕ × Rule) = λ rest name. value_at lines rest >>= with_value name in
    let of_word : List ℕ × Words → RuleReading (List ℕ × Rule) = λ word. plain (param_of word.0) >>= of_name word.1 in
    any_so PairSaid (argument words) of_word
    (λ word. so_behind is_param PairSaid (param_of word.0) (of_name word.1) (param_gives word.0)
    (λ name is. so_behind value_said PairSaid (value_at lines word.1).gives (with_value name) (value_gives lines word.1 h few) (λ value said. pair_of name value is said)))

-- as a law
pub pairs_spelled : (lines : List AclLine) (words : Words) (name : List ℕ) (rule : Rule) → AreSpelledLines Request lines → AreFewOfEach lines → (param_rule lines words).gives ≡ Ok (name, rule) → IsSpelledPair name rule
pairs_spelled lines words name rule h few is = so_given PairSaid (param_rule lines words).gives (name, rule) (pair_gives lines words h few) is

-- ---- `option forwardfor`

forwarding_gives : (words : Words) → Gives is_spelled_forwarding (forwarding_rule words).gives
unfolding forwarding_rule is_spelled_action
forwarding_gives words =
    let with_fmt : List ℕ → Fmt → RuleReading Rule = λ name fmt. plain (Ok (record { action = actions.AddHeader name fmt; cond = None })) in
    let fmt_of : RuleReading Fmt = of_text (format_of Request (codes "%[src]")) in
    any_behind is_spelled_forwarding (forwarded_name words) (λ name. fmt_of >>= with_fmt name)
    (λ name. gives_behind (is_spelled_format Request) is_spelled_forwarding fmt_of.gives (with_fmt name)
    (text_gives (is_spelled_format Request) (format_of Request (codes "%[src]")).gives (format_gives Request (codes "%[src]"))) (λ fmt is. and_from (is_spelled_format Request fmt) true is refl))

-- as a law
pub forwarding_spelled : (words : Words) (rule : Rule) → (forwarding_rule words).gives ≡ Ok rule → is_spelled_forwarding rule ≡ true
forwarding_spelled words rule is = gives_so is_spelled_forwarding (forwarding_rule words).gives rule (forwarding_gives words) is
