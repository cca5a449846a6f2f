use Rattle.std.proofs.Common.{◌≡◌, ◌+◌, ◌≤◌, ◌∷◌, List, ℕ, true, length, ap, sym, ◌∙◌, arith, rules}
use Rattle.http_model.specs.Blocks.{load}
use Rattle.http_model.specs.Fields.{same_name}
use Rattle.px_bytes.specs.Values.{values_of}
use Rattle.header_ops.specs.Lists.{values_named}
use Rattle.header_ops.proofs.Listed.{values_among, among_here, few_values}
use Rattle.header_ops.proofs.values.count_values.Goals as goal

-- those so far and those of this header are among all
within : (c : goal.After-count_in) → c.loop-field.count + c.count_in.result ≤ load c.args.msg.now.blocks
within c =
    let name : List ℕ = c.args.name.now in
    let left : List (ℕ × List ℕ × List ℕ) = c.loop-field.field-iterator in
    let behind : List (ℕ × List ℕ × List ℕ) = c.next.new.self in
    let is : left ≡ (c.in-Some.field-0-0, c.in-Some.field.now, c.in-Some.value.now) ∷ behind = search rules in
    let same : same_name c.in-Some.field.now name ≡ true = sym c.eq_fold.ensures ∙ c.if-eq_fold.true in
    let parts : length (values_among name left) ≡ length (values_of c.in-Some.value.now) + length (values_among name behind) =
    ap (λ (fs : List (ℕ × List ℕ × List ℕ)). length (values_among name fs)) is
    ∙ among_here name (c.in-Some.field-0-0, c.in-Some.field.now, c.in-Some.value.now) behind same
    in
    let all : c.loop-field.count + length (values_among name left) ≡ length (values_named name c.args.msg.now.blocks) = c.loop-field.invariant in
    omega (arith, parts, all, c.count_in.ensures, few_values name c.args.msg.now.blocks)

pub overflow_add-count : goal.overflow_add-count
overflow_add-count c = omega (arith, within c)

pub overflow_cast-count : goal.overflow_cast-count
overflow_cast-count c = omega (arith, within c)
