use Rattle.cfg_expr.specs.Condition.Tests.{criterion_of, test_behind, test_of}
use Rattle.cfg_expr.specs.declared.condition.criterion.Criterion.{Criterion}
use Rattle.cfg_expr.specs.declared.condition.written.WrittenTest.{WrittenTest}
use Rattle.cfg_expr.proofs.ConditionLemmas.Steps.{reads_behind}
use Rattle.cfg_expr.proofs.condition.test.read_test.Goals as goal

pub returns : goal.returns
unfolding test_of
returns g c =
    reads_behind (λ (test : WrittenTest). test) (criterion_of c.args.place c.args.word.now) (λ (criterion : Criterion). test_behind criterion c.args.words) c.in_ok-criterion.criterion _ _ _ _ _
    c.in_ok-criterion.ensures.0 c.in_ok-criterion.ensures.1 c.test_behind.ensures
