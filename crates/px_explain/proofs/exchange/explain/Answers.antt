use Rattle.std.proofs.Common.{false}
use Rattle.px_explain.proofs.Shown.{lines_of_all}
use Rattle.px_explain.proofs.exchange.explain.Goals as goal

pub returns : goal.returns
returns c =
    let told = c.in_ok-told.ensures in
    (told.traced, told.is_traced, lines_of_all _ _ false told.traced.lines c.in_ok-new.ensures told.lines, told.status)
