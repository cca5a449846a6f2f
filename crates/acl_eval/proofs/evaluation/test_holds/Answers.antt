use Rattle.std.proofs.Common.{ℕ, List, Option, refl, sym, ap, ◌∙◌}
use Rattle.std.specs.Prelude.{slice_get}
use Rattle.std.specs.List.{list_any}
use Rattle.px_sample.specs.Sample.{Value, value_in, within}
use Rattle.px_sample.specs.declared.fetch.Fetch.{Fetch}
use Rattle.px_expr.specs.Expr.{put_through, samples}
use Rattle.acl_eval.specs.Matches.{sample_matches}
use Rattle.acl_eval.proofs.Walking.{goes_on, decides, none_left, fewer}
use Rattle.acl_eval.proofs.evaluation.test_holds.Goals as goal

pub samples-init : goal.samples-init
samples-init g c =
    let size = c.args.buf.now.cap in
    let test = c.args.test.now in
    record {
      cap = refl;
      spare_cap = c.requires;
      left = ap (λ (xs : List (Option Value)). list_any (sample_matches size test) (samples size (λ (fetch : Fetch). xs) test.expr)) c.start-place.ensures;
    }

pub returns-then-branch-clause-value : goal.returns-then-branch-clause-value
returns-then-branch-clause-value g c =
    let test = c.args.test.now in
    let size = c.args.buf.now.cap in
    let left = g.E.Env.left c.args.env.now test.expr.fetch c.samples.place in
    let f = sample_matches size test in
    let tried = value_in c.in-Some.sample c.eval_next.new.buf.bytes in
    let stands = ap (λ (n : ℕ). slice_get (samples n (λ (fetch : Fetch). left) test.expr) 0) (sym c.samples.invariant.cap) ∙ sym (rw c.in-Some.is at c.in_ok-sample.ensures.value) in
    let same = ap (λ (n : ℕ). sample_matches n test tried) (c.in_ok-sample.ensures.cap ∙ c.samples.invariant.cap) in
    decides f (put_through size test.expr.convs) (within size) left tried _ stands
    (sym c.if-branch.true ∙ (c.in_ok-matches_sample-in-Some.ensures.value ∙ same)) c.samples.invariant.left

pub returns-in-None-clause-value : goal.returns-in-None-clause-value
returns-in-None-clause-value g c =
    let test = c.args.test.now in
    let size = c.args.buf.now.cap in
    let left = g.E.Env.left c.args.env.now test.expr.fetch c.samples.place in
    let none = ap (λ (n : ℕ). slice_get (samples n (λ (fetch : Fetch). left) test.expr) 0) (sym c.samples.invariant.cap) ∙ sym (rw c.in-None.is at c.in_ok-sample.ensures.value) in
    none_left (sample_matches size test) (put_through size test.expr.convs) (within size) left _ none c.samples.invariant.left

pub samples-preserved : goal.samples-preserved
samples-preserved g c =
    let test = c.args.test.now in
    let size = c.args.buf.now.cap in
    let left = g.E.Env.left c.args.env.now test.expr.fetch c.samples.place in
    let behind = g.E.Env.left c.args.env.now test.expr.fetch c.eval_next.new.place in
    let f = sample_matches size test in
    let tried = value_in c.in-Some.sample c.eval_next.new.buf.bytes in
    let stands = ap (λ (n : ℕ). slice_get (samples n (λ (fetch : Fetch). left) test.expr) 0) (sym c.samples.invariant.cap) ∙ sym (rw c.in-Some.is at c.in_ok-sample.ensures.value) in
    let same = ap (λ (n : ℕ). sample_matches n test tried) (c.in_ok-sample.ensures.cap ∙ c.samples.invariant.cap) in
    record {
      cap = c.in_ok-matches_sample-in-Some.ensures.cap ∙ (c.in_ok-sample.ensures.cap ∙ c.samples.invariant.cap);
      spare_cap = c.in_ok-sample.ensures.spare_cap ∙ c.samples.invariant.cap;
      left =
          goes_on f (put_through size test.expr.convs) (within size) left behind tried _ stands
          (sym c.if-branch.false ∙ (c.in_ok-matches_sample-in-Some.ensures.value ∙ same)) c.in_ok-sample.ensures.left c.samples.invariant.left;
    }

pub samples-smaller : goal.samples-smaller
samples-smaller g c =
    let test = c.args.test.now in
    let now = c.samples.buf.cap in
    let left = g.E.Env.left c.args.env.now test.expr.fetch c.samples.place in
    let behind = g.E.Env.left c.args.env.now test.expr.fetch c.eval_next.new.place in
    let stands = sym (rw c.in-Some.is at c.in_ok-sample.ensures.value) in
    fewer (put_through now test.expr.convs) (within now) left behind _ stands c.in_ok-sample.ensures.left
