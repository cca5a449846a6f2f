-- The text of an array, block by block.
use Rattle.std.proofs.Common.{◌≡◌, ℕ, suc, ◌+◌, ◌-◌, ◌<◌, ◌≤◌, List, [], ◌++◌, refl, sym, ap, ◌∙◌, length, take, drop, slice_index, arith}
use Rattle.std.proofs.lemmas.List.{append_assoc, drop-take, drop-drop}
use Rattle.http_model.specs.Block.{Block, RequestLine, ResponseLine, Header, EndHeaders, Data, Trailer, EndTrailers, IsFieldKind, kind_of, name_of, payload_len}
use Rattle.http_model.specs.Blocks.{block_at}
use Rattle.htx_arena.specs.Layout.Contents.{Contents}
use Rattle.px_explain.specs.Array.{lengths_before, block_line, block_lines}

-- so are the lengths in front of a start line
pub lengths_within : (b : Block) → lengths_before (kind_of b) ≤ payload_len b
lengths_within (RequestLine a b c) = omega arith
lengths_within (ResponseLine a b c) = omega arith
lengths_within (Header n v) = omega arith
lengths_within EndHeaders = omega arith
lengths_within (Data p) = omega arith
lengths_within (Trailer n v) = omega arith
lengths_within EndTrailers = omega arith

-- bytes of an array behind the first ones of a payload
pub behind_lengths : (raw payload : List ℕ) (addr skip len : ℕ) → skip ≤ len → take len (drop addr raw) ≡ payload → take (len - skip) (drop (addr + skip) raw) ≡ drop skip payload
behind_lengths raw payload addr skip len within is =
    let sum : skip + (len - skip) ≡ len = omega arith in
    sym (ap (λ (xs : List ℕ). take (len - skip) xs) (drop-drop skip addr raw))
    ∙ (sym (drop-take skip (len - skip) (drop addr raw)) ∙ (ap (λ (n : ℕ). drop skip (take n (drop addr raw))) sum ∙ ap (λ (xs : List ℕ). drop skip xs) is))

-- ---- the lines of blocks

pub lines_next : (array : Contents) (at count : ℕ) → at < count
    → block_lines array at (count - at) ≡ block_line at (slice_index array.addrs at) (block_at array.blocks at) ++ block_lines array (at + 1) (count - (at + 1))
lines_next array at count some =
    let more : count - at ≡ suc (count - (at + 1)) = omega arith in
    ap (λ (n : ℕ). block_lines array at n) more

-- ---- texts

-- a piece behind another
pub behind_piece : (t0 t1 t2 a b : List ℕ) → t1 ≡ t0 ++ a → t2 ≡ t1 ++ b → t2 ≡ t0 ++ (a ++ b)
behind_piece t0 t1 t2 a b p q = q ∙ (ap (λ (t : List ℕ). t ++ b) p ∙ append_assoc t0 a b)

-- five of them
pub five_pieces : (t0 t1 t2 t3 t4 t5 a b d e f : List ℕ) → t1 ≡ t0 ++ a → t2 ≡ t1 ++ b → t3 ≡ t2 ++ d → t4 ≡ t3 ++ e → t5 ≡ t4 ++ f → t5 ≡ t0 ++ ((((a ++ b) ++ d) ++ e) ++ f)
five_pieces t0 t1 t2 t3 t4 t5 a b d e f p q r s t =
    behind_piece t0 t4 t5 (((a ++ b) ++ d) ++ e) f (behind_piece t0 t3 t4 ((a ++ b) ++ d) e (behind_piece t0 t2 t3 (a ++ b) d (behind_piece t0 t1 t2 a b p q) r) s) t
