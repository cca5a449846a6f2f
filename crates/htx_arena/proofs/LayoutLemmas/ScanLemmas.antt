use Rattle.std.proofs.Common.{subst, ◌≡◌, ℕ, zero, suc, ◌+◌, ◌-◌, ◌<◌, ◌≤◌, List, map, refl, ap, sym, ◌∙◌, arith, Option, Some, None, max, min}
use Rattle.std.specs.List.{range_with_len}
use Rattle.std.proofs.lemmas.Bool.{le-leb, lt-leb}
use Rattle.std.specs.Option.{option_map_or}
use Rattle.htx_model.specs.Block.{payload_len}
use Rattle.htx_arena.specs.Space.Windows.{desc_at}
use Rattle.htx_arena.specs.Layout.Raw.{addr_in, block_in}
use Rattle.htx_arena.specs.Layout.Place.{top, low, least}
use Rattle.htx_arena.specs.Layout.Sound.{IsTold, end_of}

-- the greatest end among m payloads from number i on
abbrev pub top_from : List ℕ → ℕ → ℕ → ℕ
top_from raw i m = top (map (block_in raw) (range_with_len i m)) (map (addr_in raw) (range_with_len i m))

pub top_from_more : (raw : List ℕ) (n i : ℕ) → i < n → top_from raw i (n - i) ≡ max (addr_in raw i + payload_len (block_in raw i)) (top_from raw (i + 1) (n - (i + 1)))
top_from_more raw n i h =
    let e : n - i ≡ suc (n - (i + 1)) = omega arith in
    ap (top_from raw i) e

pub top_from_all : (raw : List ℕ) (n i : ℕ) → n ≤ i → top_from raw i (n - i) ≡ 0
top_from_all raw n i h =
    let e : n - i ≡ zero = omega arith in
    ap (top_from raw i) e

ap_end : (raw : List ℕ) (j k : ℕ) {t : ℕ} → j ≡ k → end_of (desc_at raw k) ≤ t → end_of (desc_at raw j) ≤ t
ap_end raw j k {t} e h = subst (λ (x : ℕ). end_of (desc_at raw x) ≤ t) (sym e) h

-- each payload ends at or below the top
pub end_le-top_from : (raw : List ℕ) (i m k : ℕ) → IsTold raw (i + m) → k < m → end_of (desc_at raw (i + k)) ≤ top_from raw i m
end_le-top_from raw i zero k told h = absurd (omega arith)
end_le-top_from raw i (suc m) zero told h =
    let here : i + zero ≡ i = omega arith in
    let same = (told.told i (omega arith)).len in
    ap_end raw (i + zero) i here (omega arith)
end_le-top_from raw i (suc m) (suc k) told h =
    let next : i + 1 + m ≡ i + suc m = omega arith in
    let told' : IsTold raw (i + 1 + m) = subst (IsTold raw) (sym next) told in
    let step = end_le-top_from raw (i + 1) m k told' (omega arith) in
    let there : i + 1 + k ≡ i + suc k = omega arith in
    ap_end raw (i + suc k) (i + 1 + k) (sym there) (omega arith)

abbrev pub low_from : List ℕ → ℕ → ℕ → ℕ → Option ℕ
low_from raw from i m = low from (map (addr_in raw) (range_with_len i m))

-- the lesser of two
abbrev pub merged : Option ℕ → Option ℕ → Option ℕ
merged None r = r
merged (Some a) r = least a r

pub low_from_more : (raw : List ℕ) (from n i : ℕ) → i < n → low_from raw from i (n - i) ≡ low_from raw from i (suc (n - (i + 1)))
low_from_more raw from n i h =
    let e : n - i ≡ suc (n - (i + 1)) = omega arith in
    ap (low_from raw from i) e

-- one more address at or above the place
pub merged_more : (a b : ℕ) (r : Option ℕ) → merged (Some (min a b)) r ≡ merged (Some a) (least b r)
merged_more a b None = refl
merged_more a b (Some c) = ap Some (omega arith)

pub low_skip : (raw : List ℕ) (from i m : ℕ) → addr_in raw i < from → low_from raw from i (suc m) ≡ low_from raw from (i + 1) m
low_skip raw from i m h = rw (lt-leb from (addr_in raw i) h) refl

pub low_take : (raw : List ℕ) (from i m : ℕ) → from ≤ addr_in raw i → low_from raw from i (suc m) ≡ least (addr_in raw i) (low_from raw from (i + 1) m)
low_take raw from i m h = rw (le-leb from (addr_in raw i) h) refl

pub low_skipped : (raw : List ℕ) (from n i : ℕ) (r : Option ℕ) → i < n → addr_in raw i < from → merged r (low_from raw from i (n - i)) ≡ merged r (low_from raw from (i + 1) (n - (i + 1)))
low_skipped raw from n i r h lt = ap (merged r) (low_from_more raw from n i h ∙ low_skip raw from i (n - (i + 1)) lt)

pub low_taken : (raw : List ℕ) (from n i a : ℕ) (r : Option ℕ) → i < n → from ≤ addr_in raw i → a ≡ addr_in raw i → merged r (low_from raw from i (n - i)) ≡ merged (Some (option_map_or (λ l. min l a) r a)) (low_from raw from (i + 1) (n - (i + 1)))
low_taken raw from n i a None h le e = low_from_more raw from n i h ∙ low_take raw from i (n - (i + 1)) le ∙ ap (λ (x : ℕ). least x (low_from raw from (i + 1) (n - (i + 1)))) (sym e)
low_taken raw from n i a (Some b) h le e = ap (merged (Some b)) (low_from_more raw from n i h ∙ low_take raw from i (n - (i + 1)) le) ∙ sym (merged_more b (addr_in raw i) _) ∙ ap (λ (x : ℕ). merged (Some (min b x)) (low_from raw from (i + 1) (n - (i + 1)))) (sym e)

max_assoc : (a b c : ℕ) → max (max a b) c ≡ max a (max b c)
max_assoc a b c = omega arith

pub top_step : (raw : List ℕ) (n i end new total : ℕ) → i < n → new ≡ max end (addr_in raw i + payload_len (block_in raw i)) → max end (top_from raw i (n - i)) ≡ total →
    max new (top_from raw (i + 1) (n - (i + 1))) ≡ total
top_step raw n i end new total h e told =
    let rest = top_from raw (i + 1) (n - (i + 1)) in
    ap (λ (x : ℕ). max x rest) e ∙ max_assoc end (addr_in raw i + payload_len (block_in raw i)) rest ∙ ap (max end) (sym (top_from_more raw n i h)) ∙ told
