-- What came of the pieces of a value.
use Rattle.std.proofs.Common.{◌≡◌, ℕ, ◌-◌, ◌<◌, List, [], ◌++◌, Bool, true, false, ◌&&◌, refl, sym, ap, ◌∙◌, subst, length, take, drop, append_assoc}
use Rattle.std.specs.List.{prefix_len}
use Rattle.std.proofs.lemmas.Bool.{and_parts}
use Rattle.std.proofs.lemmas.List.{take-append-drop}
use Rattle.std.proofs.lemmas.List.Folds.{list_all-append}
use Rattle.px_bytes.specs.Blanks.{trimmed, is_blank}
use Rattle.http_rules.specs.declared.action.joining.Joined.{Joined}
use Rattle.http_rules.specs.declared.action.joining.Joined.TheVariants.{Held, Over, Bad}
use Rattle.http_rules.specs.Action.Edits.{is_value_byte, are_value_bytes}
use Rattle.http_rules.specs.Action.Joining.{begun, are_blanks, piece_behind, Keeps, Joins, joined_by}
use Rattle.http_rules.proofs.ActionLemmas.Edges.{take_none, drop_none, put_more, same_trimmed, long_trimmed}

and_false : (t : Bool) → (t && false) ≡ false
and_false true = refl
and_false false = refl

-- nothing is joined yet
pub no_pieces : (size : ℕ) → Joins size [] Held []
no_pieces size = record { good = refl; holds = sym (take_none size); left = ap are_blanks (drop_none size) }

-- a piece with a byte that may not stand in a value
pub bad_piece : (pieces piece : List ℕ) → are_value_bytes piece ≡ false → are_value_bytes (pieces ++ piece) ≡ false
bad_piece pieces piece bad = list_all-append is_value_byte pieces piece ∙ ap (λ (t : Bool). are_value_bytes pieces && t) bad ∙ and_false (are_value_bytes pieces)

both_good : (pieces piece : List ℕ) → are_value_bytes pieces ≡ true → are_value_bytes piece ≡ true → are_value_bytes (pieces ++ piece) ≡ true
both_good pieces piece good more = list_all-append is_value_byte pieces piece ∙ ap (λ (t : Bool). t && are_value_bytes piece) good ∙ more

kept_more : (size : ℕ) (pieces piece held : List ℕ) (whole more : Bool) → Keeps size pieces whole held → are_value_bytes piece ≡ true → more ≡ are_blanks (drop (size - length held) (piece_behind held piece))
    → Keeps size (pieces ++ piece) (whole && more) (held ++ take (size - length held) (piece_behind held piece))
kept_more size pieces piece held whole more keeps good is =
    let next = put_more size pieces piece held whole (keeps.holds, keeps.left) in
    record { good = both_good pieces piece keeps.good good; holds = next.0; left = next.1 ∙ sym (ap (λ (t : Bool). whole && t) is) }

-- one piece more
pub more_joined : (size : ℕ) (pieces piece counted held now : List ℕ) (so_far joined : Joined) (more : Bool) → are_value_bytes piece ≡ true → counted ≡ piece_behind held piece
    → now ≡ held ++ take (size - length held) counted → more ≡ are_blanks (drop (size - length held) counted) → joined ≡ joined_by so_far more
    → Joins size pieces so_far held → Joins size (pieces ++ piece) joined now
more_joined size pieces piece counted held now so_far joined more good counts is left by joins =
    subst (λ (j : Joined). Joins size (pieces ++ piece) j now) (sym by) (subst (λ (h : List ℕ). Joins size (pieces ++ piece) (joined_by so_far more) h) (sym (is ∙ ap (λ (p : List ℕ). held ++ take (size - length held) p) counts)) (at so_far more (left ∙ ap (λ (p : List ℕ). are_blanks (drop (size - length held) p)) counts) joins))
  where
    at : (j : Joined) (t : Bool) → t ≡ are_blanks (drop (size - length held) (piece_behind held piece)) → Joins size pieces j held
        → Joins size (pieces ++ piece) (joined_by j t) (held ++ take (size - length held) (piece_behind held piece))
    at Held true e h = kept_more size pieces piece held true true h good e
    at Held false e h = kept_more size pieces piece held true false h good e
    at Over t e h = kept_more size pieces piece held false t h good e
    at Bad t e h = list_all-append is_value_byte pieces piece ∙ ap (λ (u : Bool). u && are_value_bytes piece) h

-- the same pieces, told in another order
pub retold : (size cap : ℕ) (pieces told held : List ℕ) (joined : Joined) → cap ≡ size → pieces ≡ told → Joins cap pieces joined held → Joins size told joined held
retold size cap pieces told held joined caps is joins =
    subst (λ (n : ℕ). Joins n told joined held) caps (subst (λ (p : List ℕ). Joins cap p joined held) is joins)

-- the buffer can hold as much as before
pub recapped : (cap now : ℕ) (pieces held : List ℕ) (joined : Joined) → now ≡ cap → Joins cap pieces joined held → Joins now pieces joined held
recapped cap now pieces held joined caps joins = subst (λ (n : ℕ). Joins n pieces joined held) (sym caps) joins

-- three of them
pub in_three : (first second third : List ℕ) → (([] ++ first) ++ second) ++ third ≡ first ++ (second ++ third)
in_three first second third = append_assoc first second third

-- two more behind three
pub in_five : (a b c d e : List ℕ) → ((a ++ (b ++ c)) ++ d) ++ e ≡ a ++ (b ++ (c ++ (d ++ e)))
in_five a b c d e =
    append_assoc (a ++ (b ++ c)) d e ∙ append_assoc a (b ++ c) (d ++ e) ∙ ap (λ (bs : List ℕ). a ++ bs) (append_assoc b c (d ++ e))

-- ---- the value that they make

good_parts : (n : ℕ) (bytes : List ℕ) → are_value_bytes bytes ≡ true → (are_value_bytes (take n bytes) ≡ true) × (are_value_bytes (drop n bytes) ≡ true)
good_parts n bytes good =
    and_parts (are_value_bytes (take n bytes)) (are_value_bytes (drop n bytes)) (sym (list_all-append is_value_byte (take n bytes) (drop n bytes)) ∙ ap are_value_bytes (take-append-drop n bytes) ∙ good)

-- what is held of it may stand in a field
pub held_good : (size : ℕ) (pieces held : List ℕ) (whole : Bool) → Keeps size pieces whole held → are_value_bytes held ≡ true
held_good size pieces held whole keeps = ap are_value_bytes keeps.holds ∙ (good_parts size (begun pieces) (good_parts (prefix_len is_blank pieces) pieces keeps.good).1).0

-- it is held but for blanks at its ends
pub trims : (size : ℕ) (pieces held : List ℕ) → Keeps size pieces true held → trimmed held ≡ trimmed pieces
trims size pieces held keeps = ap trimmed keeps.holds ∙ same_trimmed size pieces keeps.left

-- or it is longer, also without these
pub is_long : (size : ℕ) (pieces held : List ℕ) → Keeps size pieces false held → size < length (trimmed pieces)
is_long size pieces held keeps = long_trimmed size pieces keeps.left
