use Rattle.std.proofs.Common.{◌≡◌, ℕ, ◌+◌, ◌-◌, List, ap, ◌∙◌, take, drop, slice_index}
use Rattle.htx_model.specs.Block.{kind_of, payload_len}
use Rattle.htx_model.specs.Blocks.{block_at}
use Rattle.htx_arena.specs.Layout.Raw.{payload_of}
use Rattle.px_explain.specs.Array.{lengths_before}
use Rattle.px_explain.proofs.Arrays.{behind_lengths, lengths_within}
use Rattle.px_explain.proofs.array.parts.Goals as goal

pub returns : goal.returns
returns c =
    let raw : List ℕ = c.raw.result.now in
    let b = block_at c.args.msg.now.blocks c.args.at in
    let addr : ℕ = slice_index c.args.msg.now.addrs c.args.at in
    let skip : c.lengths_before-skip.result ≡ lengths_before (kind_of b) = c.lengths_before-skip.ensures ∙ ap lengths_before c.kind.ensures in
    let from : c.addr.result + c.lengths_before-skip.result ≡ addr + lengths_before (kind_of b) =
    ap (λ (n : ℕ). n + c.lengths_before-skip.result) c.addr.ensures ∙ ap (λ (n : ℕ). addr + n) skip in
    let len : c.payload_len.result - c.lengths_before-skip.result ≡ payload_len b - lengths_before (kind_of b) =
    ap (λ (n : ℕ). n - c.lengths_before-skip.result) c.payload_len.ensures.len ∙ ap (λ (n : ℕ). payload_len b - n) skip in
    c.part.ensures
    ∙ (ap (λ (n : ℕ). take n (drop (c.addr.result + c.lengths_before-skip.result) raw)) len
    ∙ (ap (λ (n : ℕ). take (payload_len b - lengths_before (kind_of b)) (drop n raw)) from
    ∙ behind_lengths raw (payload_of b) addr (lengths_before (kind_of b)) (payload_len b) (lengths_within b) (c.raw.ensures.held.payload c.args.at c.requires)))
