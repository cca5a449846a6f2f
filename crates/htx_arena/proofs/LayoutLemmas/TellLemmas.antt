-- What descriptors and payloads tell of their blocks.
use Rattle.std.proofs.Common.{◌≡◌, ℕ, ◌+◌, ◌^◌, ◌<◌, ◌≤◌, List, ◌++◌, length, get_or, take, refl, ap, sym, ◌∙◌, arith}
use Rattle.std.proofs.lemmas.List.{same_lists, length-take-le, get_or-take}
use Rattle.htx_model.specs.Block.{EndHeaders, kind_of, name_of, line_of, payload_len, IsFieldKind, IsLineKind}
use Rattle.htx_model.specs.Blocks.{block_at}
use Rattle.htx_model.specs.declared.Kind.{Kind}
use Rattle.htx_model.specs.declared.Kind.TheVariants as kinds
use Rattle.htx_arena.specs.Space.Windows.{window, word_at}
use Rattle.htx_arena.proofs.SpaceLemmas.PublicLaws.{word_at_is, length-window}
use Rattle.htx_arena.specs.Layout.Raw.{Tells, info_kind, info_len, name_len, line_head, payload_of, block_by, block_of, block_in, payload_in, addr_in, len_in, listed, blocks_of, addrs_of}
use Rattle.htx_arena.specs.Layout.Sound.{IsSound, IsTold}
use Rattle.htx_arena.proofs.LayoutLemmas.RawLemmas.{length-listed, get_or-listed}

-- ---- the type

kind_by : (k : Kind) (info : ℕ) (p : List ℕ) → kind_of (block_by k info p) ≡ k
kind_by kinds.RequestLine info p = refl
kind_by k info p = refl

pub kind_told : (info : ℕ) (p : List ℕ) → kind_of (block_of info p) ≡ info_kind info
unfolding block_of
kind_told info p = kind_by (info_kind info) info p

-- ---- the name

name_by : (k : Kind) (info : ℕ) (p : List ℕ) → IsFieldKind k → name_of (block_by k info p) ≡ take (name_len info) p
name_by kinds.Header info p h = refl
name_by kinds.Trailer info p h = refl
name_by k info p h = absurd h

pub name_told : (info : ℕ) (p : List ℕ) → IsFieldKind (info_kind info) → name_of (block_of info p) ≡ take (name_len info) p
unfolding block_of
name_told info p h = name_by (info_kind info) info p h

-- ---- the parts of a start line

line_by : (k : Kind) (info : ℕ) (p : List ℕ) → IsLineKind k → line_of (block_by k info p) ≡ (window p 12 (word_at p 0), window p (12 + word_at p 0) (word_at p 4), window p (12 + word_at p 0 + word_at p 4) (word_at p 8))
line_by kinds.RequestLine info p h = refl
line_by kinds.ResponseLine info p h = refl
line_by k info p h = absurd h

pub line_told : (info : ℕ) (p : List ℕ) → IsLineKind (info_kind info) → line_of (block_of info p) ≡ (window p 12 (word_at p 0), window p (12 + word_at p 0) (word_at p 4), window p (12 + word_at p 0 + word_at p 4) (word_at p 8))
unfolding block_of
line_told info p h = line_by (info_kind info) info p h

-- the lengths in a start line's payload are those of its parts
words_are : (p a b c : List ℕ) → p ≡ line_head (length a) (length b) (length c) ++ (a ++ (b ++ c)) → length a < 2 ^ 32 → length b < 2 ^ 32 → length c < 2 ^ 32 → 12 + word_at p 0 + word_at p 4 + word_at p 8 ≡ 12 + length a + length b + length c
words_are p a b c e ha hb hc =
    let q = line_head (length a) (length b) (length c) ++ (a ++ (b ++ c)) in
    let wa : word_at p 0 ≡ length a = ap (λ (x : List ℕ). word_at x 0) e ∙ word_at_is q 0 (length a) ha refl in
    let wb : word_at p 4 ≡ length b = ap (λ (x : List ℕ). word_at x 4) e ∙ word_at_is q 4 (length b) hb refl in
    let wc : word_at p 8 ≡ length c = ap (λ (x : List ℕ). word_at x 8) e ∙ word_at_is q 8 (length c) hc refl in
    λ j. 12 + wa j + wb j + wc j

fits_by : (k : Kind) (info : ℕ) (p : List ℕ) → IsLineKind k → p ≡ payload_of (block_by k info p) → payload_len (block_by k info p) ≡ length p → length p ≤ 262144 → 12 + word_at p 0 + word_at p 4 + word_at p 8 ≤ length p
fits_by kinds.RequestLine info p h e len small =
    let a = window p 12 (word_at p 0) in
    let b = window p (12 + word_at p 0) (word_at p 4) in
    let c = window p (12 + word_at p 0 + word_at p 4) (word_at p 8) in
    let words = words_are p a b c e (omega arith) (omega arith) (omega arith) in
    omega arith
fits_by kinds.ResponseLine info p h e len small =
    let a = window p 12 (word_at p 0) in
    let b = window p (12 + word_at p 0) (word_at p 4) in
    let c = window p (12 + word_at p 0 + word_at p 4) (word_at p 8) in
    let words = words_are p a b c e (omega arith) (omega arith) (omega arith) in
    omega arith
fits_by k info p h e len small = absurd h

pub line_fits : (info : ℕ) (p : List ℕ) → Tells info p → IsLineKind (info_kind info) → info_len info ≡ length p → length p ≤ 262144 → 12 + word_at p 0 + word_at p 4 + word_at p 8 ≤ length p
unfolding block_of
line_fits info p t h len small = fits_by (info_kind info) info p h t.bytes (t.len ∙ len) small

-- ---- the array

pub length-payload_in : (raw : List ℕ) (n i : ℕ) → IsSound raw n → i < n → length (payload_in raw i) ≡ len_in raw i
length-payload_in raw n i sound h =
    let ends = sound.within i h in
    length-window raw (addr_in raw i) (len_in raw i) (omega arith)

-- the block at an index
pub block_told : (raw : List ℕ) (n i : ℕ) → i < n → block_at (blocks_of raw n) i ≡ block_in raw i
block_told raw n i h = get_or-listed (block_in raw) n i EndHeaders h

pub len_told : (raw : List ℕ) (n i : ℕ) → IsTold raw n → i < n → payload_len (block_at (blocks_of raw n) i) ≡ len_in raw i
len_told raw n i told h = ap payload_len (block_told raw n i h) ∙ (told.told i h).len

pub addr_told : (raw : List ℕ) (n i : ℕ) → i < n → get_or (addrs_of raw n) i 0 ≡ addr_in raw i
addr_told raw n i h = get_or-listed (addr_in raw) n i 0 h

-- the first ones alone
pub listed-take : {X : Type 0} (f : ℕ → X) (n i : ℕ) → i ≤ n → listed f i ≡ take i (listed f n)
listed-take {X} f n i h =
    let long = length-listed f n in
    let short : length (take i (listed f n)) ≡ i = length-take-le i (listed f n) (omega arith) in
    same_lists (listed f i) (take i (listed f n)) (length-listed f i ∙ sym short) (λ k d fits.
    let small : k < i = omega (arith, length-listed f i) in
    get_or-listed f i k d small ∙ sym (get_or-listed f n k d (omega arith)) ∙ sym (get_or-take i (listed f n) k d small))
