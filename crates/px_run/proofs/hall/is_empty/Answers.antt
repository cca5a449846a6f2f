use Rattle.std.proofs.Common.{rules, ◌≡◌, false, arith}
use Rattle.std.specs.Prelude.{is_some}
use Rattle.px_run.proofs.Halls.{passes_none, none_left}
use Rattle.px_run.proofs.hall.is_empty.Goals as goal

pub loop-at-preserved : goal.loop-at-preserved
loop-at-preserved g c =
    let none : is_some c.at-item.result ≡ false = search rules in
    passes_none c.args.places.now c.loop-at.at-index _ c.at-item.result c.loop-at-test.true c.at-item.is none c.loop-at.invariant

pub returns : goal.returns
returns g c = λ e.
    let test = c.loop-at-test.false in
    none_left c.args.places.now c.loop-at.at-index _ (omega (arith, test)) c.loop-at.invariant
