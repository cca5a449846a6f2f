-- The public laws of windows and descriptors.
use Rattle.std.proofs.Common.{◌≡◌, ℕ, ◌+◌, ◌≤◌, List, length, ◌++◌, ◌^◌, ◌<◌, ◌*◌}
use Rattle.std.specs.Int.{to_le_bytes, w32}
use Rattle.htx_arena.specs.Space.Windows.{overwritten, window, desc_bytes, word_at, desc_place, desc_at}
use Rattle.htx_arena.specs.declared.space.space.Desc.{Desc}
use Rattle.htx_arena.proofs.SpaceLemmas.WindowLemmas as window_lemmas

-- A piece that is written within the bytes leaves their length.
pub length-overwritten : (bytes : List ℕ) (at : ℕ) (piece : List ℕ) → at + length piece ≤ length bytes → length (overwritten bytes at piece) ≡ length bytes
length-overwritten = window_lemmas.length-overwritten

-- A window past the piece that was written shows what it did.
pub window-overwritten_above : (bytes : List ℕ) (at : ℕ) (piece : List ℕ) (k n : ℕ) → at ≤ length bytes → at + length piece ≤ k → window (overwritten bytes at piece) k n ≡ window bytes k n
window-overwritten_above = window_lemmas.window-overwritten_above

-- A window in front of the piece that was written shows what it did.
pub window-overwritten_below : (bytes : List ℕ) (at : ℕ) (piece : List ℕ) (k n : ℕ) → at ≤ length bytes → k + n ≤ at → window (overwritten bytes at piece) k n ≡ window bytes k n
window-overwritten_below = window_lemmas.window-overwritten_below

-- A window within the piece that was written shows that part of the piece.
pub window-overwritten_within : (bytes : List ℕ) (at : ℕ) (piece : List ℕ) (j n : ℕ) → at ≤ length bytes → j + n ≤ length piece → window (overwritten bytes at piece) (at + j) n ≡ window piece j n
window-overwritten_within = window_lemmas.window-overwritten_within

-- The window behind a front shows what follows it.
pub window_back : (xs ys : List ℕ) (m n : ℕ) → length xs ≡ m → length ys ≡ n → window (xs ++ ys) m n ≡ ys
window_back = window_lemmas.window_back

-- A descriptor has eight bytes.
pub length-desc_bytes : (d : Desc) → length (desc_bytes d) ≡ 8
length-desc_bytes = window_lemmas.length-desc_bytes

-- Where the four bytes of a number stand, the word is that number.
pub word_at_is : (xs : List ℕ) (p n : ℕ) → n < 2 ^ 32 → window xs p 4 ≡ to_le_bytes w32 n → word_at xs p ≡ n
word_at_is = window_lemmas.word_at_is

-- A descriptor that was written at an index is read there.
pub desc_at-written : (bytes : List ℕ) (index : ℕ) (d : Desc) → 8 * (index + 1) ≤ length bytes → d.addr < 2 ^ 32 → d.info < 2 ^ 32 → desc_at (overwritten bytes (desc_place bytes index) (desc_bytes d)) index ≡ d
desc_at-written = window_lemmas.desc_at-written

-- A descriptor past the piece that was written stays.
pub desc_at-overwritten : (bytes : List ℕ) (at : ℕ) (piece : List ℕ) (index : ℕ) → at + length piece ≤ desc_place bytes index → 8 * (index + 1) ≤ length bytes → desc_at (overwritten bytes at piece) index ≡ desc_at bytes index
desc_at-overwritten = window_lemmas.desc_at-overwritten

-- A window in a window is a window of the bytes.
pub window-window : (xs : List ℕ) (k n j m : ℕ) → j + m ≤ n → window (window xs k n) j m ≡ window xs (k + j) m
window-window = window_lemmas.window-window

-- A descriptor in front of the piece that was written stays.
pub desc_at-overwritten_below : (bytes : List ℕ) (at : ℕ) (piece : List ℕ) (index : ℕ) → desc_place bytes index + 8 ≤ at → at + length piece ≤ length bytes → desc_at (overwritten bytes at piece) index ≡ desc_at bytes index
desc_at-overwritten_below = window_lemmas.desc_at-overwritten_below

-- A descriptor in a piece that was copied is the one at the place that it was copied from.
pub desc_at-copied : (bytes : List ℕ) (at : ℕ) (from len : ℕ) (i j k : ℕ) → at + len ≤ length bytes → from + len ≤ length bytes → k + 8 ≤ len → desc_place bytes i ≡ at + k → desc_place bytes j ≡ from + k → desc_at (overwritten bytes at (window bytes from len)) i ≡ desc_at bytes j
desc_at-copied = window_lemmas.desc_at-copied

-- A window within a front shows the same with bytes behind it.
pub window_front : (xs ys : List ℕ) (k n : ℕ) → k + n ≤ length xs → window (xs ++ ys) k n ≡ window xs k n
window_front = window_lemmas.window_front

-- A window within the bytes is as long as it is asked for.
pub length-window : (xs : List ℕ) (k n : ℕ) → k + n ≤ length xs → length (window xs k n) ≡ n
length-window = window_lemmas.length-window
