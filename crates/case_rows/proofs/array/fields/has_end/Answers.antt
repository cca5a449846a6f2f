use Rattle.std.proofs.Common.{sym, ◌∙◌, arith}
use Rattle.case_rows.proofs.ArrayLemmas.Ends.{end_at}
use Rattle.case_rows.proofs.array.fields.has_end.Goals as goal

pub returns-in-EndHeaders : goal.returns-in-EndHeaders
returns-in-EndHeaders c =
    end_at c.args.msg.now.blocks c.loop-at.at (omega (arith, c.loop-at-test.true, c.len-at-end.ensures)) (sym c.kind.ensures ∙ c.in-EndHeaders.is)
