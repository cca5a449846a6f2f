use Rattle.std.proofs.Common.{◌≡◌, ℕ, ◌+◌, ◌-◌, List, length, take, ap, sym, ◌∙◌, arith}
use Rattle.std.proofs.lemmas.List.{take_all}
use Rattle.http_model.specs.Block.{Block}
use Rattle.header_ops.specs.Lists.{values_named}
use Rattle.header_ops.specs.Walk.{from_back}
use Rattle.header_ops.proofs.Backwards.{back_none}
use Rattle.header_ops.proofs.back.value_from_back.Goals as goal

pub loop-passed-init : goal.loop-passed-init
loop-passed-init c =
    let blocks : List Block = c.args.msg.now.blocks in
    let all : take (length blocks - 0) blocks ≡ blocks = take_all (length blocks - 0) blocks (omega arith) in
    ap (λ (bs : List Block). from_back (values_named c.args.name.now bs) c.args.n) all

pub returns-in-Ok : goal.returns-in-Ok
returns-in-Ok c =
    let blocks : List Block = c.args.msg.now.blocks in
    let same : c.len-count.result - c.loop-passed.passed ≡ length blocks - c.loop-passed.passed = omega arith in
    sym c.in-Ok.ensures.found ∙ (ap (λ (k : ℕ). from_back (values_named c.args.name.now (take k blocks)) c.loop-passed.left) same ∙ c.loop-passed.invariant)

pub loop-passed-preserved : goal.loop-passed-preserved
loop-passed-preserved c =
    let blocks : List Block = c.args.msg.now.blocks in
    let same : c.len-count.result - c.loop-passed.passed ≡ length blocks - c.loop-passed.passed = omega arith in
    let next : length blocks - (c.loop-passed.passed + 1) ≡ c.len-count.result - c.loop-passed.passed - 1 = omega arith in
    ap (λ (k : ℕ). from_back (values_named c.args.name.now (take k blocks)) c.in-Err.more) next
    ∙ (c.in-Err.ensures.left ∙ (ap (λ (k : ℕ). from_back (values_named c.args.name.now (take k blocks)) c.loop-passed.left) same ∙ c.loop-passed.invariant))

pub returns : goal.returns
returns c =
    let none : length c.args.msg.now.blocks - c.loop-passed.passed ≡ 0 = omega arith in
    sym (back_none c.args.name.now c.args.msg.now.blocks (length c.args.msg.now.blocks - c.loop-passed.passed) c.loop-passed.left none) ∙ c.loop-passed.invariant
