-- The public laws of line feeds and fronts.
use Rattle.std.proofs.Common.{◌≡◌, ℕ, ◌+◌, List, ◌++◌, length, [], ◌∷◌, ◌<◌, ◌≤◌, drop}
use Rattle.std.specs.Prelude.{All}
use Rattle.std.specs.List.{flat_map}
use Rattle.h1_head.specs.Feeds.{feeds}
use Rattle.httparse.specs.Grammar.{LineEnd, print_end, Field, print_field, IsField}
use Rattle.h1_head.proofs.Heads as heads

-- The line feeds of two texts in a row are those of both.
pub feeds-append : (xs ys : List ℕ) → feeds (xs ++ ys) ≡ feeds xs + feeds ys
feeds-append = heads.feeds-append

-- A printed line end has one line feed.
pub feeds-print_end : (end : LineEnd) → feeds (print_end end) ≡ 1
feeds-print_end = heads.feeds-print_end

-- Printed fields have one line feed each.
pub feeds-fields : (fs : List Field) → All IsField fs → feeds (flat_map print_field fs) ≡ length fs
feeds-fields = heads.feeds-fields

-- A text that ends in a printed line end ends in a line feed.
pub tail_ends : (a f : List ℕ) (end : LineEnd) → (front : List ℕ) × (a ++ (f ++ print_end end) ≡ front ++ 10 ∷ [])
tail_ends = heads.tail_ends

-- A text that ends in a line feed has more of them than each of its proper fronts.
pub feeds-before : (text more whole rest front : List ℕ) → text ++ more ≡ whole ++ rest → whole ≡ front ++ 10 ∷ []
    → length text < length whole → feeds text < feeds whole
feeds-before = heads.feeds-before

-- Where a stream begins with a text, a window of it that is no shorter begins with that text.
pub front_in : (text more whole rest : List ℕ) → text ++ more ≡ whole ++ rest → length whole ≤ length text → text ≡ whole ++ drop (length whole) text
front_in = heads.front_in
