use Rattle.std.proofs.Common.{ℕ, ◌++◌, List, ap, ◌∙◌, codes, slice_index}
use Rattle.std.specs.List.{flat_map}
use Rattle.std.proofs.lemmas.Result.{on_ok_weaker}
use Rattle.htx_model.specs.Blocks.{block_at}
use Rattle.px_explain.specs.Array.{block_line, place_text, lengths_text, byte_text, shown_of}
use Rattle.px_explain.proofs.Arrays.{five_pieces}
use Rattle.px_explain.proofs.array.push_block.Goals as goal

pub returns : goal.returns
unfolding block_line
returns c =
    let b = block_at c.args.msg.now.blocks c.args.at in
    let addr : ℕ = slice_index c.args.msg.now.addrs c.args.at in
    on_ok_weaker c.push-2.result
    (λ is.
    five_pieces c.args.text.now c.push_place.new.text c.push_lengths.new.text c.push.new.self c.push_shown.new.text c.push-2.new.self
    (place_text c.args.at addr b) (lengths_text b) (codes " ") (flat_map byte_text (shown_of b)) (codes "\n")
    c.in_ok-push_place.ensures c.in_ok-push_lengths.ensures c.in_ok-push.ensures.ok
    (c.in_ok-push_shown.ensures ∙ ap (λ (bytes : List ℕ). c.push.new.self ++ flat_map byte_text bytes) c.shown.ensures) is)
    c.push-2.ensures.ok
