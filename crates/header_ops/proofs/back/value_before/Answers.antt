use Rattle.std.proofs.Common.{◌≡◌, ◌+◌, ◌-◌, ℕ, length, take}
use Rattle.std.proofs.lemmas.Result.{IfErr-weaker}
use Rattle.px_bytes.specs.Values.{values_of}
use Rattle.header_ops.specs.Lists.{values_named}
use Rattle.header_ops.specs.Walk.{from_back}
use Rattle.header_ops.proofs.Backwards.{value_passed}
use Rattle.header_ops.proofs.back.value_before.Goals as goal

pub returns-in-Some-clause-left : goal.returns-in-Some-clause-left
returns-in-Some-clause-left c =
    IfErr-weaker c.value_from_end.result (λ (left : ℕ). left + length (values_of c.in-Some.field.now) ≡ c.args.n)
    (λ (left : ℕ). from_back (values_named c.args.name.now (take (c.args.end - 1) c.args.msg.now.blocks)) left ≡ from_back (values_named c.args.name.now (take c.args.end c.args.msg.now.blocks)) c.args.n)
    (λ (left : ℕ) passed. value_passed c.args.name.now c.args.msg.now.blocks c.args.end c.args.n left c.in-Some.field.now c.requires.some c.requires.within c.in-Some.ensures.0 c.in-Some.ensures.1 passed)
    c.value_from_end.ensures.left
