-- The values of a field that holds a list, each in its place.
use Rattle.std.proofs.Common.{◌≡◌, ℕ, ◌+◌, ◌-◌, ◌<◌, ◌≤◌, List, [], ◌∷◌, ◌++◌, map, Bool, true, false, cond, not, ◌&&◌, ◌||◌, refl, sym, ap, ◌∙◌, subst, length, drop, arith, append_assoc, length-drop}
use Rattle.std.specs.Prelude.{All, is_some, nat_le, slice_range, Option, Some, None, Result, Ok, Err}
use Rattle.std.specs.List.{list_all, list_any, prefix_len, suffix_len}
use Rattle.std.proofs.lemmas.Bool.{le-leb, lt-leb}
use Rattle.std.proofs.lemmas.List.{length-take}
use Rattle.std.proofs.lemmas.List.Sums.{prefix_len-le-length}
use Rattle.std.proofs.lemmas.List.Elements.{All-head, All-tail}
use Rattle.http_model.specs.declared.Why.{Why}
use Rattle.http_model.specs.declared.Why.TheVariants.{Room, Bytes}
use Rattle.http_model.specs.Blocks.{load}
use Rattle.http_model.specs.Head.{Head, front_blocks}
use Rattle.session_model.specs.Env.{env_with_head}
use Rattle.px_bytes.specs.Blanks.{is_blank, trimmed}
use Rattle.px_bytes.specs.Values.{LiesIn, placed_from, pieces_of, placed_values, values_of, value_at}
use Rattle.regex.specs.Patterns.{Match, find}
use Rattle.px_pattern.specs.Pattern.{Pattern}
use Rattle.px_pattern.specs.Meaning.{pattern_of}
use Rattle.px_pattern.specs.Groups.{AreGroupsOf}
use Rattle.px_pattern.specs.declared.span.Span.{Span}
use Rattle.px_conv.specs.Template.{expanded}
use Rattle.log_format.specs.declared.fmt.Fmt.{Fmt}
use Rattle.http_rules.specs.declared.action.filled.Filled.{Filled}
use Rattle.http_rules.specs.declared.action.filled.Filled.TheVariants.{Unmatched, Made, Failed}
use Rattle.http_rules.specs.declared.action.joining.Joined.{Joined}
use Rattle.http_rules.specs.declared.action.joining.Joined.TheVariants.{Held, Over, Bad}
use Rattle.http_rules.specs.Action.Given.{Env, text_on}
use Rattle.http_rules.specs.Action.Edits.{edited, by_text, by_value, are_value_bytes}
use Rattle.http_rules.specs.Action.Replacing.{matches, filled_by, replaced, rebuilt, replaced_values, is_short, are_short, by_matches}
use Rattle.http_rules.specs.Action.Joining.{Joins}
use Rattle.http_rules.specs.Action.Filling.{Counts, IsHeld, IsTextFor, IsPut, AreJoined, by_listed, filled_as, valued_by}
use Rattle.http_rules.specs.Action.Outcome.{IsMade}
use Rattle.http_rules.proofs.ActionLemmas.Groups.{by_groups}
use Rattle.http_rules.proofs.ActionLemmas.Filling.{short_is}
use Rattle.http_rules.proofs.ActionLemmas.Joining.{no_pieces, retold, held_good, trims, is_long}

-- placed values stand in the field one behind the other, from a place on
abbrev pub Spread : (field : List ℕ) → ℕ → List (ℕ × List ℕ) → Type 0
Spread field from [] = from ≤ length field
Spread field from (placed ∷ others) = (from ≤ placed.0) × (placed.0 + length placed.1 ≤ length field) × Spread field (placed.0 + length placed.1) others

short_value : (piece : List ℕ) → prefix_len is_blank piece + length (trimmed piece) ≤ length piece
short_value piece =
    let rest = drop (prefix_len is_blank piece) piece in
    let cut = length-take (length rest - suffix_len is_blank rest) rest in
    omega (arith, cut, length-drop (prefix_len is_blank piece) piece, prefix_len-le-length is_blank piece)

spread_from : (field : List ℕ) (at from : ℕ) (pieces : List (List ℕ)) → from ≤ at → from ≤ length field → All (LiesIn field) (placed_from at pieces) → Spread field from (placed_from at pieces)
spread_from field at from [] order within lie = within
spread_from field at from (p ∷ ps) order within lie =
    let here : LiesIn field (at + prefix_len is_blank p, trimmed p) = All-head (LiesIn field) (at + prefix_len is_blank p, trimmed p) (placed_from (at + length p + 1) ps) lie in
    let short = short_value p in (
      omega arith,
      here.within,
      spread_from field (at + length p + 1) (at + prefix_len is_blank p + length (trimmed p)) ps (omega (arith, short)) here.within
          (All-tail (LiesIn field) (at + prefix_len is_blank p, trimmed p) (placed_from (at + length p + 1) ps) lie),
    )

-- those of a field do
pub spread : (field : List ℕ) → All (LiesIn field) (placed_values field) → Spread field 0 (placed_values field)
spread field lie = spread_from field 0 0 (pieces_of field) (omega arith) (omega arith) lie

-- the rest of the field begins within it
pub within : (field : List ℕ) (from : ℕ) (placed : List (ℕ × List ℕ)) → Spread field from placed → from ≤ length field
within field from [] s = s
within field from (p ∷ ps) s = omega (arith, s.0, s.1)

-- no value matches
pub none_match : (size : ℕ) (env : Env) (pat : Pattern) (fmt : Fmt) (field : List ℕ) (make : List ℕ → Result Env Why) (one : Bool) → one ≡ list_any (matches pat) (values_of field) → one ≡ false
    → by_matches size env pat fmt field make ≡ Ok env
none_match size env pat fmt field make one is bad =
    ap (λ (t : Bool). cond t (by_text size (text_on size env fmt) (λ template. cond (are_short size pat template field) (make (replaced_values pat template field)) (Err Bytes))) (Ok env)) (sym is ∙ bad)

-- ---- one value

-- the value itself, without a match
pub replaced_none : (pat : Pattern) (template text : List ℕ) → find (pattern_of pat) text 0 ≡ None → text ≡ replaced pat template text
replaced_none pat template text none = sym (ap (λ (o : Option Match). filled_by text template o) none)

-- the template with the groups of the match
pub replaced_some : (pat : Pattern) (template text : List ℕ) (m : Match) (groups : List (Option Span)) → find (pattern_of pat) text 0 ≡ Some m → AreGroupsOf m groups → expanded groups text template ≡ replaced pat template text
replaced_some pat template text m groups found are = by_groups m groups text template are ∙ sym (ap (λ (o : Option Match). filled_by text template o) found)

-- ---- what takes its place

-- no match
pub text_none : (size : ℕ) (pat : Pattern) (template value held : List ℕ) → find (pattern_of pat) value 0 ≡ None → IsTextFor size pat template value Unmatched held
text_none size pat template value held none =
    (ap (λ (o : Option Match). not (is_some o) || nat_le (length (filled_by value template o)) size) none, replaced_none pat template value none)

by_length : (size : ℕ) (pat : Pattern) (template value text : List ℕ) (m : Match) (fits : Bool) → find (pattern_of pat) value 0 ≡ Some m → text ≡ replaced pat template value → nat_le (length text) size ≡ fits
    → is_short size pat template value ≡ fits
by_length size pat template value text m fits found is within =
    ap (λ (o : Option Match). not (is_some o) || nat_le (length (replaced pat template value)) size) found ∙ sym (ap (λ (t : List ℕ). nat_le (length t) size) is) ∙ within

-- the template with the groups of the match
pub text_some : (size : ℕ) (pat : Pattern) (template value held : List ℕ) (m : Match) (groups : List (Option Span)) (f : Filled) → find (pattern_of pat) value 0 ≡ Some m → AreGroupsOf m groups
    → IsHeld size (expanded groups value template) f held → IsTextFor size pat template value f held
text_some size pat template value held m groups f found are h = at f h
  where
    is : expanded groups value template ≡ replaced pat template value
    is = replaced_some pat template value m groups found are

    at : (g : Filled) → IsHeld size (expanded groups value template) g held → IsTextFor size pat template value g held
    at Unmatched none = absurd none
    at Made made = (by_length size pat template value (expanded groups value template) m true found is (le-leb (length (expanded groups value template)) size made.0), made.1 ∙ is)
    at (Failed Bytes) long = by_length size pat template value (expanded groups value template) m false found is (lt-leb (length (expanded groups value template)) size long)
    at (Failed Room) none = absurd none

-- the same buffer, told in another way
pub text_at : (cap size : ℕ) (pat : Pattern) (template value held lent : List ℕ) (f : Filled) → cap ≡ size → lent ≡ held → IsTextFor cap pat template value f held → IsTextFor size pat template value f lent
text_at cap size pat template value held lent f caps is h =
    subst (λ (n : ℕ). IsTextFor n pat template value f lent) caps (subst (λ (l : List ℕ). IsTextFor cap pat template value f l) (sym is) h)

-- a value, or the text in its place, behind what stands in front of it
pub put_text : (size cap : ℕ) (pat : Pattern) (template pieces front value text held : List ℕ) (joined : Joined) → is_short size pat template value ≡ true → text ≡ replaced pat template value → cap ≡ size
    → Joins cap ((pieces ++ front) ++ text) joined held → IsPut size pat template pieces front value (Some joined) held
put_text size cap pat template pieces front value text held joined short is caps joins =
    (short, retold size cap ((pieces ++ front) ++ text) (pieces ++ (front ++ replaced pat template value)) held joined caps (append_assoc pieces front text ∙ ap (λ (t : List ℕ). pieces ++ (front ++ t)) is) joins)

-- a text that is too long
pub put_none : (size : ℕ) (pat : Pattern) (template pieces front value text held : List ℕ) (why : Why) → IsTextFor size pat template value (Failed why) text → IsPut size pat template pieces front value None held
put_none size pat template pieces front value text held Bytes long = long
put_none size pat template pieces front value text held Room none = absurd none

-- ---- all of them

-- the values so far are joined, and the others stand behind their place in the field
pub record Joining (size : ℕ) (pat : Pattern) (template field : List ℕ) (from : ℕ) (others : List (ℕ × List ℕ)) (so_far : Joined) (held : List ℕ) : Type 0 where
  pub pieces : List ℕ
  pub joins : Joins size pieces so_far held
  pub rest : pieces ++ rebuilt (replaced pat template) field from others ≡ replaced_values pat template field
  pub short : list_all (is_short size pat template) (map value_at others) ≡ are_short size pat template field

values_at : (at : ℕ) (pieces : List (List ℕ)) → map value_at (placed_from at pieces) ≡ map trimmed pieces
values_at at [] = refl
values_at at (p ∷ pieces) = ap (λ (vs : List (List ℕ)). trimmed p ∷ vs) (values_at (at + length p + 1) pieces)

-- none of them yet
pub begin_joining : (size : ℕ) (pat : Pattern) (template field held : List ℕ) (others : List (ℕ × List ℕ)) → held ≡ [] → others ≡ placed_values field → Joining size pat template field 0 others Held held
begin_joining size pat template field held others none all =
    record {
      pieces = [];
      joins = subst (λ (h : List ℕ). Joins size [] Held h) (sym none) (no_pieces size);
      rest = ap (λ (ps : List (ℕ × List ℕ)). rebuilt (replaced pat template) field 0 ps) all;
      short = ap (λ (ps : List (ℕ × List ℕ)). list_all (is_short size pat template) (map value_at ps)) all ∙ ap (λ (vs : List (List ℕ)). list_all (is_short size pat template) vs) (values_at 0 (pieces_of field));
    }

-- one more
pub next_joining : (size cap : ℕ) (pat : Pattern) (template field front : List ℕ) (from : ℕ) (placed : ℕ × List ℕ) (others : List (ℕ × List ℕ)) (so_far joined : Joined) (held now : List ℕ) (put : Option Joined)
    → (before : Joining size pat template field from (placed ∷ others) so_far held) → front ≡ slice_range field from placed.0 → cap ≡ size → put ≡ Some joined
    → IsPut cap pat template before.pieces front placed.1 put now → Joining size pat template field (placed.0 + length placed.1) others joined now
next_joining size cap pat template field front from placed others so_far joined held now put before fronts caps is done =
    let both : IsPut size pat template before.pieces front placed.1 (Some joined) now = subst (λ (n : ℕ). IsPut n pat template before.pieces front placed.1 (Some joined) now) caps (subst (λ (p : Option Joined). IsPut cap pat template before.pieces front placed.1 p now) is done) in
    record {
      pieces = before.pieces ++ (front ++ replaced pat template placed.1);
      joins = both.1;
      rest =
          append_assoc before.pieces (front ++ replaced pat template placed.1) (rebuilt (replaced pat template) field (placed.0 + length placed.1) others)
          ∙ ap (λ (bs : List ℕ). before.pieces ++ bs) (append_assoc front (replaced pat template placed.1) (rebuilt (replaced pat template) field (placed.0 + length placed.1) others))
          ∙ ap (λ (bs : List ℕ). before.pieces ++ (bs ++ (replaced pat template placed.1 ++ rebuilt (replaced pat template) field (placed.0 + length placed.1) others))) fronts
          ∙ before.rest;
      short = sym (ap (λ (t : Bool). t && list_all (is_short size pat template) (map value_at others)) both.0) ∙ before.short;
    }

-- one that is too long
pub stop_joining : (size cap : ℕ) (pat : Pattern) (template field front : List ℕ) (from : ℕ) (placed : ℕ × List ℕ) (others : List (ℕ × List ℕ)) (so_far : Joined) (held now : List ℕ) (put : Option Joined)
    → (before : Joining size pat template field from (placed ∷ others) so_far held) → cap ≡ size → put ≡ None → IsPut cap pat template before.pieces front placed.1 put now → are_short size pat template field ≡ false
stop_joining size cap pat template field front from placed others so_far held now put before caps is done =
    let long : is_short size pat template placed.1 ≡ false = subst (λ (n : ℕ). is_short n pat template placed.1 ≡ false) caps (subst (λ (p : Option Joined). IsPut cap pat template before.pieces front placed.1 p now) is done) in
    sym before.short ∙ ap (λ (t : Bool). t && list_all (is_short size pat template) (map value_at others)) long

-- ---- the field's new value

-- a value that is longer than the array does not fit
no_room : (size : ℕ) (env : Env) (edit : List ℕ → Head) (value : List ℕ) → Counts env edit → size < length value → edited size env (edit value) ≡ Err Room
no_room size env edit value counts long =
    ap (λ (t : Bool). cond t (Ok (env_with_head env (edit value))) (Err Room)) (lt-leb (load (front_blocks (edit value) env.body)) size (omega (arith, long, counts value)))

-- what came of it is the edit
pub listed : (size cap : ℕ) (env : Env) (pat : Pattern) (template field held : List ℕ) (edit : List ℕ → Head) (joined : Option Joined) (f : Filled) → Counts env edit → f ≡ filled_as joined
    → AreJoined size pat template field joined held → by_listed size env pat template field edit ≡ valued_by size f held env edit
listed size cap env pat template field held edit joined f counts is are = at joined are ∙ sym (ap (λ (g : Filled). valued_by size g held env edit) is)
  where
    value : List ℕ
    value = replaced_values pat template field

    short : are_short size pat template field ≡ true → by_listed size env pat template field edit ≡ by_value size env value edit
    short e = ap (λ (t : Bool). cond t (by_value size env value edit) (Err Bytes)) e

    of_good : are_value_bytes value ≡ true → by_value size env value edit ≡ edited size env (edit (trimmed value))
    of_good e = ap (λ (t : Bool). cond t (edited size env (edit (trimmed value))) (Err Bytes)) e

    at : (j : Option Joined) → AreJoined size pat template field j held → by_listed size env pat template field edit ≡ valued_by size (filled_as j) held env edit
    at None h = ap (λ (t : Bool). cond t (by_value size env value edit) (Err Bytes)) h
    at (Some Held) h =
        short h.0 ∙ of_good h.1.good ∙ sym (ap (λ (v : List ℕ). edited size env (edit v)) (trims size value held h.1))
        ∙ sym (ap (λ (t : Bool). cond t (edited size env (edit (trimmed held))) (Err Bytes)) (held_good size value held true h.1))
    at (Some Over) h = short h.0 ∙ of_good h.1.good ∙ no_room size env edit (trimmed value) counts (is_long size value held h.1)
    at (Some Bad) h = short h.0 ∙ ap (λ (t : Bool). cond t (edited size env (edit (trimmed value))) (Err Bytes)) h.1
