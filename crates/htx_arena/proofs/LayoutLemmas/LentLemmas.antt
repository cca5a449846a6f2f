-- What a caller sees after a write behind the window that is a block's value.
use Rattle.std.proofs.Common.{◌≡◌, ℕ, ◌<◌, ◌≤◌, ◌⊎◌, List, length, set, drop, ap, sym, ◌∙◌, subst, arith, length-drop}
use Rattle.std.proofs.lemmas.List.{length-take-le}
use Rattle.std.specs.List.{refill, length_refill}
use Rattle.htx_model.specs.Block.{kind_of, value_of, HasValue, with_value}
use Rattle.htx_model.specs.Blocks.{block_at}
use Rattle.htx_arena.specs.declared.space.space.Desc.{Desc}
use Rattle.htx_arena.specs.Space.Windows.{window, overwritten}
use Rattle.htx_arena.specs.Layout.Raw.{info_len, block_in, blocks_of, addrs_of}
use Rattle.htx_arena.specs.Layout.Sound.{IsSound, IsLaid, end_of}
use Rattle.htx_arena.specs.Layout.Values.{value_start, value_length}
use Rattle.htx_arena.proofs.LayoutLemmas.TellLemmas.{block_told}
use Rattle.htx_arena.proofs.LayoutLemmas.ValueLemmas.{CanWrite, over, length-over, desc_at-over, blocks_of-over, addrs_of-over, IsSound-over, IsTold-over, value_in, value_fits}

-- a list that is cut or filled up to the value's length may be written over it
lent_long : (raw : List ℕ) (n i start len : ℕ) → IsSound raw n → i < n → start ≡ value_start raw i → len ≡ value_length raw i → length (window raw start len) ≡ len
lent_long raw n i start len sound small s l =
    let fits = value_fits raw n i sound small in
    let cut = length-drop start raw in
    length-take-le len (drop start raw) (omega arith)

can_lent : (raw : List ℕ) (n i start len : ℕ) (w : List ℕ) → IsSound raw n → i < n → HasValue (kind_of (block_in raw i)) → start ≡ value_start raw i → len ≡ value_length raw i → CanWrite raw n i (refill len (window raw start len) w)
can_lent raw n i start len w sound small valued s l =
    let long = lent_long raw n i start len sound small s l in
    record { sound = sound; within = small; valued = valued; long = sym (length_refill len (window raw start len) w (sym long)) ∙ l }

-- the window is the value
pub window_is_value : (raw : List ℕ) (n i start len : ℕ) → i < n → HasValue (kind_of (block_in raw i)) → start ≡ value_start raw i → len ≡ value_length raw i → window raw start len ≡ value_of (block_at (blocks_of raw n) i)
window_is_value raw n i start len small valued s l =
    (λ j. window raw (s j) (l j)) ∙ sym (value_in raw i valued) ∙ ap value_of (sym (block_told raw n i small))

-- the blocks after a write over the window that is a block's value
pub blocks_lent : (raw : List ℕ) (n i start len : ℕ) (w : List ℕ) → IsSound raw n → i < n → HasValue (kind_of (block_in raw i)) → start ≡ value_start raw i → len ≡ value_length raw i
    → blocks_of (overwritten raw start (refill len (window raw start len) w)) n ≡ set (blocks_of raw n) i (with_value (block_at (blocks_of raw n) i) (refill (length (value_of (block_at (blocks_of raw n) i))) (value_of (block_at (blocks_of raw n) i)) w))
blocks_lent raw n i start len w sound small valued s l =
    let p = window raw start len in
    let w' = refill len p w in
    let can = can_lent raw n i start len w sound small valued s l in
    let value = window_is_value raw n i start len small valued s l in
    let here = sym (block_told raw n i small) in
    let same : w' ≡ refill (length (value_of (block_at (blocks_of raw n) i))) (value_of (block_at (blocks_of raw n) i)) w = ap (λ m. refill m p w) (sym (lent_long raw n i start len sound small s l)) ∙ ap (λ v. refill (length v) v w) value in
    ap (λ k. blocks_of (overwritten raw k w') n) s ∙ blocks_of-over raw n i w' can ∙ (λ j. set (blocks_of raw n) i (with_value (here j) (same j)))

pub addrs_lent : (raw : List ℕ) (n i start len : ℕ) (w : List ℕ) → IsSound raw n → i < n → HasValue (kind_of (block_in raw i)) → start ≡ value_start raw i → len ≡ value_length raw i
    → (addrs_of (overwritten raw start (refill len (window raw start len) w)) n ≡ addrs_of raw n) × (length (overwritten raw start (refill len (window raw start len) w)) ≡ length raw)
addrs_lent raw n i start len w sound small valued s l =
    let p = window raw start len in
    let w' = refill len p w in
    let can = can_lent raw n i start len w sound small valued s l in
    (ap (λ k. addrs_of (overwritten raw k w') n) s ∙ addrs_of-over raw n i w' can, ap (λ k. length (overwritten raw k w')) s ∙ length-over raw n i w' can)

laid-over : (raw : List ℕ) (n front i : ℕ) (w : List ℕ) → IsLaid raw n front → CanWrite raw n i w → length w ≡ length (value_of (block_in raw i)) → IsLaid (over raw i w) n front
laid-over raw n front i w laid can e =
    let long = length-over raw n i w can in
    let small = laid.small in
    let most = laid.most in
    record {
      sound = IsSound-over raw n i w can;
      told = IsTold-over raw n i w can e laid.told;
      filled = record { filled = λ j within. let same = ap (λ (d : Desc). info_len d.info) (desc_at-over raw n i j w can within) in let some = laid.filled.filled j within in omega arith };
      parted = record {
        parted = λ j within.
            let same = desc_at-over raw n i j w can within in
            subst (λ (d : Desc). (end_of d ≤ front) ⊎ (front ≤ d.addr)) (sym same) (laid.parted.parted j within);
      };
      small = omega arith;
      most = omega arith;
    }

pub laid_lent : (raw : List ℕ) (n front i start len : ℕ) (w : List ℕ) → IsLaid raw n front → i < n → HasValue (kind_of (block_in raw i)) → start ≡ value_start raw i → len ≡ value_length raw i
    → IsLaid (overwritten raw start (refill len (window raw start len) w)) n front
laid_lent raw n front i start len w laid small valued s l =
    let p = window raw start len in
    let w' = refill len p w in
    let can = can_lent raw n i start len w laid.sound small valued s l in
    let long = lent_long raw n i start len laid.sound small s l in
    let value = (λ j. window raw (s j) (l j)) ∙ sym (value_in raw i valued) in
    let e : length w' ≡ length (value_of (block_in raw i)) = can.long ∙ sym l ∙ sym long ∙ ap length value in
    subst (λ (k : ℕ). IsLaid (overwritten raw k w') n front) (sym s) (laid-over raw n front i w' laid can e)
