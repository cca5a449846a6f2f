-- Reading the parts of a line one after the other, as a loop does.
use Rattle.std.proofs.Common.{◌≡◌, ℕ, zero, suc, ◌+◌, ◌-◌, ◌<◌, ◌≤◌, List, [], ◌∷◌, length, get_or, drop, refl, sym, ap, ◌∙◌, arith}
use Rattle.std.specs.Prelude.{fold}
use Rattle.std.proofs.lemmas.List.{at_drop_more, drop-drop, drop_all}
use Rattle.cfg_lex.specs.declared.item.Quotes.{Quotes}
use Rattle.cfg_lex.specs.declared.item.Item.{Item}
use Rattle.cfg_lex.specs.Items.{item_at}
use Rattle.cfg_lex.specs.Words.{end_parts, parts_behind, Sofar, with_part}

-- bytes that are taken up already may as well be dropped
parts_behind-drop : (skipped : ℕ) (quotes : Quotes) (line : List ℕ) → parts_behind skipped quotes line ≡ parts_behind 0 quotes (drop skipped line)
parts_behind-drop zero quotes [] = refl
parts_behind-drop zero quotes (byte ∷ rest) = refl
parts_behind-drop (suc skipped) quotes [] = refl
parts_behind-drop (suc skipped) quotes (byte ∷ rest) = parts_behind-drop skipped quotes rest

-- one item is read
pub read_more : (so_far : Sofar) (quotes : Quotes) (line : List ℕ) (at : ℕ) → at < length line → 0 < (item_at quotes (get_or line at 0) (drop (at + 1) line)).used
    → let item = item_at quotes (get_or line at 0) (drop (at + 1) line) in
    fold with_part so_far (parts_behind 0 quotes (drop at line)) ≡ fold with_part (with_part so_far item.part) (parts_behind 0 item.quotes (drop (at + item.used) line))
read_more so_far quotes line at inside some =
    let item = item_at quotes (get_or line at 0) (drop (at + 1) line) in
    let front = at_drop_more (λ (l : List ℕ). fold with_part so_far (parts_behind 0 quotes l)) line at 0 inside in
    let place : at + 1 + (item.used - 1) ≡ at + item.used = omega arith in
    let rest : drop (item.used - 1) (drop (at + 1) line) ≡ drop (at + item.used) line = drop-drop (item.used - 1) (at + 1) line ∙ ap (λ (n : ℕ). drop n line) place in
    let behind = parts_behind-drop (item.used - 1) item.quotes (drop (at + 1) line) ∙ ap (parts_behind 0 item.quotes) rest in
    front ∙ ap (fold with_part (with_part so_far item.part)) behind

-- all items are read
pub read_all : (so_far : Sofar) (quotes : Quotes) (line : List ℕ) (at : ℕ) → length line ≤ at → fold with_part so_far (parts_behind 0 quotes (drop at line)) ≡ fold with_part so_far (end_parts quotes)
read_all so_far quotes line at past = ap (λ (l : List ℕ). fold with_part so_far (parts_behind 0 quotes l)) (drop_all at line past)

-- what is read so far and the rest give the same after one more item
pub read_step : (so_far then total : Sofar) (quotes : Quotes) (line : List ℕ) (at : ℕ) (item : Item) → at < length line → item ≡ item_at quotes (get_or line at 0) (drop (at + 1) line) → 0 < item.used
    → then ≡ with_part so_far item.part → fold with_part so_far (parts_behind 0 quotes (drop at line)) ≡ total → fold with_part then (parts_behind 0 item.quotes (drop (at + item.used) line)) ≡ total
read_step so_far then total quotes line at item inside is some step before =
    let used : 0 < (item_at quotes (get_or line at 0) (drop (at + 1) line)).used = omega (arith, ap (λ (i : Item). i.used) is) in
    let next = read_more so_far quotes line at inside used in
    let same = ap (λ (i : Item). fold with_part (with_part so_far i.part) (parts_behind 0 i.quotes (drop (at + i.used) line))) is in
    rw step (same ∙ sym next ∙ before)
