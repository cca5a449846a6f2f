-- A block behind the others.
use Rattle.std.proofs.Common.{◌≡◌, ◌+◌, List, [], ◌∷◌, ◌++◌, length, drop, ap, ◌∙◌, arith}
use Rattle.std.specs.Prelude.{insert}
use Rattle.std.proofs.lemmas.List.{take_all, drop_all}
use Rattle.std.proofs.lemmas.List.Sums.{sum_by-append}
use Rattle.htx_model.specs.Block.{Block, payload_len, weight}
use Rattle.htx_model.specs.Blocks.{load}

pub insert-end : (bs : List Block) (x : Block) → insert bs (length bs) x ≡ bs ++ x ∷ []
insert-end bs x =
    ap (λ (f : List Block). f ++ x ∷ drop (length bs) bs) (take_all (length bs) bs (omega arith))
    ∙ ap (λ (f : List Block). bs ++ x ∷ f) (drop_all (length bs) bs (omega arith))

pub load-end : (bs : List Block) (x : Block) → load (bs ++ x ∷ []) ≡ load bs + (8 + payload_len x)
load-end bs x = sum_by-append weight bs (x ∷ []) ∙ omega arith
