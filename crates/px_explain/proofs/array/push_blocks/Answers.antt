use Rattle.std.proofs.Common.{ℕ, ◌+◌, ◌-◌, ◌<◌, ◌++◌, List, rules, sym, ap, ◌∙◌, length, slice_index}
use Rattle.std.proofs.lemmas.List.{append_assoc}
use Rattle.htx_model.specs.Blocks.{block_at}
use Rattle.px_explain.specs.Array.{block_line, block_lines}
use Rattle.px_explain.proofs.Arrays.{lines_next}
use Rattle.px_explain.proofs.array.push_blocks.Goals as goal

pub loop-at-preserved : goal.loop-at-preserved
loop-at-preserved c =
    let msg = c.args.msg.now in
    let at : ℕ = c.loop-at.at in
    let count : ℕ = length msg.blocks in
    let line : List ℕ = block_line at (slice_index msg.addrs at) (block_at msg.blocks at) in
    let rest : List ℕ = block_lines msg (at + 1) (count - (at + 1)) in
    let below : at < count = search rules in
    ap (λ (t : List ℕ). t ++ rest) c.in_ok-push_block.ensures
    ∙ (append_assoc c.loop-at.text line rest ∙ (ap (λ (l : List ℕ). c.loop-at.text ++ l) (sym (lines_next msg at count below)) ∙ c.loop-at.invariant))
