use Rattle.std.proofs.Common.{ℕ, ◌-◌, ◌≤◌, List, length, take, drop, arith}
use Rattle.std.proofs.lemmas.List.{take_rest}
use Rattle.http_model.specs.Blocks.{block_at}
use Rattle.header_ops.proofs.Walking.{value_here}
use Rattle.header_ops.proofs.walk.value_from.Goals as goal

pub returns : goal.returns
returns c =
    let field : List ℕ = c.in_ok-field.field.now in
    let rest : List ℕ = take (length field - c.args.within) (drop c.args.within field) in
    let inside : c.args.within ≤ length field = omega arith in
    value_here c.args.name.now (block_at c.args.msg.now.blocks c.args.at) field rest c.first_value-len.result.0.now c.args.within c.first_value-len.result.1
    c.in_ok-field.ensures.0 c.in_ok-field.ensures.1 inside (take_rest field c.args.within) c.first_value-len.ensures.more c.first_value-len.ensures.last
