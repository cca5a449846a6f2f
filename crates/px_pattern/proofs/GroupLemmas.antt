-- The groups of captures are those of the match.
use Rattle.std.proofs.Common.{false, ◌≡◌, ℕ, zero, suc, List, Option, Some, option_map, refl, ap, sym, ◌∙◌, arith}
use Rattle.std.proofs.lemmas.Bool.{ne_eqb}
use Rattle.regex.specs.Patterns.{Match}
use Rattle.regex.specs.Writes.{group_of}
use Rattle.regex.specs.Search.{group_span}
use Rattle.regex.specs.Bytes.{captures_span, match_span, IsCapturesOf}
use Rattle.regex.specs.declared.bytes.captures.Captures.{Captures}
use Rattle.px_pattern.specs.Groups.{span_between, group_of_match, group_at, AreGroupsOf}
use Rattle.px_pattern.specs.declared.span.Span.{Span}

-- group 0 is the match
whole : (hay : List ℕ) (ends : ℕ × ℕ) (cells : List ℕ) → group_span false hay ends cells 0 ≡ Some ends
unfolding group_span
whole hay ends cells = refl

later : (m : Match) (n : ℕ) → group_of_match m (suc n) ≡ group_of m (suc n)
later m n = rw (ne_eqb (suc n) 0 (λ e. omega arith)) refl

pub groups_of_captures : (hay : List ℕ) (m : Match) (c : Captures) (groups : List (Option Span)) → IsCapturesOf hay m c → ((n : ℕ) → group_at groups n ≡ option_map span_between (captures_span c n)) → AreGroupsOf m groups
groups_of_captures hay m c groups h spans zero =
    let first = whole c.whole.haystack.now (match_span c.whole) c.groups.now in
    let ends = h.1.whole_is in
    spans 0 ∙ (ap (option_map span_between) first ∙ ap (λ (e : ℕ × ℕ). Some (span_between e)) ends)
groups_of_captures hay m c groups h spans (suc n) =
    let same = h.2 (suc n) (omega arith) in
    spans (suc n) ∙ ap (option_map span_between) (same ∙ sym (later m n))
