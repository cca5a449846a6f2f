-- What a regex finds is what the tree of its text finds.
use Rattle.std.proofs.Common.{◌≡◌, ℕ, ◌+◌, ◌*◌, ◌<◌, ◌≤◌, ◌==◌, Bool, cond, List, length, get_or, Option, None, Some, is_some, option_map, refl, sym, ap, ◌∙◌, IsSome, IsSomeAnd}
use Rattle.std.specs.Str.{chars}
use Rattle.std.proofs.lemmas.List.{get_or_default}
use Rattle.std.proofs.lemmas.Option.{none-some, same_Some}
use Rattle.regex_syntax.specs.Brackets.{Nested}
use Rattle.regex_syntax.specs.Grammar.{Names, group_count, read}
use Rattle.regex_syntax.specs.Verdict.{Reads}
use Rattle.regex_syntax.proofs.CapturesLemmas.{spans, find_alike}
use Rattle.regex.specs.Patterns.{Re, Match, SameCaptures, find}
use Rattle.regex.specs.Writes.{both}
use Rattle.regex.specs.Bytes.{regex_pattern, regex_source, regex_config, IsReadFromSource}
use Rattle.regex.specs.declared.bytes.regex.Regex.{Regex}
use Rattle.px_pattern.specs.Groups.{span_between, AreGroupsOf}
use Rattle.px_pattern.specs.Meaning.{options, tree_of, pattern_of, IsPattern, IsFoundBy}
use Rattle.px_pattern.specs.declared.span.Span.{Span}

tree_alike : (o : Option (Nested Re × Names)) (most : ℕ) (a : Re) (names : Names) →
    IsSomeAnd o (λ (re, found). (re.depth ≤ most) × SameCaptures a re.value × (names ≡ found) × (group_count a ≤ length names)) →
    SameCaptures a (tree_of o)
tree_alike None most a names h = absurd h
tree_alike (Some found) most a names h = h.1

-- a regex that was read from its text finds what the pattern's tree finds
pub alike : (r : Regex) (icase : Bool) → regex_config r ≡ options icase → IsReadFromSource r →
    SameCaptures (regex_pattern r) (pattern_of (record { text = regex_source r; icase = icase }))
unfolding pattern_of Reads
alike r icase is h =
    tree_alike (read (options icase) (chars (regex_source r))) (options icase).nest_limit (regex_pattern r) _ (rw is at h)

some_tree : (o : Option (Nested Re × Names)) (P : Nested Re → Names → Type 0) → IsSomeAnd o (λ (re, found). P re found) → IsSome o
some_tree None P h = absurd h
some_tree (Some found) P h = refl

-- its text is a pattern
pub is_pattern : (r : Regex) (icase : Bool) → regex_config r ≡ options icase → IsReadFromSource r →
    IsPattern (record { text = regex_source r; icase = icase })
unfolding IsPattern Reads
is_pattern r icase is h = some_tree (read (options icase) (chars (regex_source r))) _ (rw is at h)

abbrev Spans : Type 0
Spans = ℕ × ℕ × (ℕ → Option ℕ)

-- what a group spans, by what a caller sees of the match
abbrev group_in : Spans → ℕ → Option (ℕ × ℕ)
group_in s n = cond (n == 0) (Some (s.0, s.1)) (both (s.2 (2 * n)) (s.2 (2 * n + 1)))

same_groups : (m n : Match) (groups : List (Option Span)) → spans n ≡ spans m → AreGroupsOf m groups → AreGroupsOf n groups
same_groups m n groups e are k = are k ∙ ap (λ (s : Spans). option_map span_between (group_in s k)) (sym e)

module _ {a b : Re} (same : SameCaptures a b) (hay : List ℕ) (bytes : (k : ℕ) → get_or hay k 0 < 256) where
  seen : option_map spans (find a hay 0) ≡ option_map spans (find b hay 0)
  seen = find_alike a b same hay (λ k d h. rw (get_or_default hay k d 0 h) (bytes k)) 0

  is_some_seen : (o : Option Match) → is_some (option_map spans o) ≡ is_some o
  is_some_seen None = refl
  is_some_seen (Some m) = refl

  pub matches_alike : is_some (find a hay 0) ≡ is_some (find b hay 0)
  matches_alike = sym (is_some_seen _) ∙ ap is_some seen ∙ is_some_seen _

  none_of : (o q : Option Match) → option_map spans o ≡ option_map spans q → o ≡ None → q ≡ None
  none_of o None e h = refl
  none_of o (Some n) e h = absurd (none-some (spans n) (sym (ap (option_map spans) h) ∙ e))

  some_of : (o q : Option Match) (groups : List (Option Span)) → option_map spans o ≡ option_map spans q →
      ((m : Match) × (o ≡ Some m) × AreGroupsOf m groups) → (n : Match) × (q ≡ Some n) × AreGroupsOf n groups
  some_of o None groups e (m, h, are) = absurd (none-some (spans m) (sym e ∙ ap (option_map spans) h))
  some_of o (Some n) groups e (m, h, are) =
      (n, refl, same_groups m n groups (same_Some (spans n) (spans m) (sym e ∙ ap (option_map spans) h)) are)

  pub found_alike : (found : Option (List (Option Span))) → IsFoundBy a hay found → IsFoundBy b hay found
  found_alike None h = none_of _ _ seen h
  found_alike (Some groups) h = some_of _ _ groups seen h
