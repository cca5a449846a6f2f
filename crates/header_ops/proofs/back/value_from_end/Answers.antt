use Rattle.std.proofs.Common.{ℕ, ◌-◌, slice_get, ap, sym, ◌∙◌, arith}
use Rattle.px_bytes.specs.Values.{values_of}
use Rattle.header_ops.proofs.Backwards.{by_index, never}
use Rattle.header_ops.proofs.back.value_from_end.Goals as goal

pub returns-in-Some-clause-found : goal.returns-in-Some-clause-found
returns-in-Some-clause-found c =
    by_index (values_of c.args.field.now) c.args.n c.in-Some.value.now (omega arith)
    (ap (λ (count : ℕ). slice_get (values_of c.args.field.now) (count - 1 - c.args.n)) (sym c.count_in-count.ensures) ∙ sym c.in-Some.ensures)

pub returns-in-None-clause-left : goal.returns-in-None-clause-left
returns-in-None-clause-left c =
    absurd (never (values_of c.args.field.now) c.args.n (c.count_in-count.result - 1 - c.args.n) (omega arith) (omega arith) (sym c.in-None.ensures))
