use Rattle.std.proofs.Common.{◌≡◌, ◌+◌, ◌∷◌, List, ℕ, true, length, ap, sym, ◌∙◌, arith, rules}
use Rattle.http_model.specs.Fields.{same_name}
use Rattle.header_ops.specs.Lists.{fulls_named}
use Rattle.header_ops.proofs.Whole.{fulls_among, fulls_here, few_fulls}
use Rattle.header_ops.proofs.fulls.count_fulls.Goals as goal

-- those so far and this header are among all
pub overflow_add-count : goal.overflow_add-count
overflow_add-count c =
    let name : List ℕ = c.args.name.now in
    let left : List (ℕ × List ℕ × List ℕ) = c.loop-field.field-iterator in
    let behind : List (ℕ × List ℕ × List ℕ) = c.next.new.self in
    let is : left ≡ (c.in-Some.field-0-0, c.in-Some.field.now, c.in-Some.field-0-2.now) ∷ behind = search rules in
    let same : same_name c.in-Some.field.now name ≡ true = sym c.eq_fold.ensures ∙ c.if-eq_fold.true in
    let parts : length (fulls_among name left) ≡ length (fulls_among name behind) + 1 =
    ap (λ (fs : List (ℕ × List ℕ × List ℕ)). length (fulls_among name fs)) is ∙ fulls_here name (c.in-Some.field-0-0, c.in-Some.field.now, c.in-Some.field-0-2.now) behind same
    in
    let all : c.loop-field.count + length (fulls_among name left) ≡ length (fulls_named name c.args.msg.now.blocks) = c.loop-field.invariant in
    omega (arith, parts, all, few_fulls name c.args.msg.now.blocks, c.len-len.ensures)
