use Rattle.std.proofs.Common.{sym, ◌∙◌}
use Rattle.h1_body.proofs.Told.{closed_whole, closed_cut}
use Rattle.h1_body.proofs.reader.BodyReader.ended.Goals as goal

pub returns-clause-closed : goal.returns-clause-closed
returns-clause-closed c = λ t. closed_whole c.args.self.now (sym c.ends.ensures ∙ t)

pub returns-clause-cut : goal.returns-clause-cut
returns-clause-cut c = λ t. closed_cut c.args.self.now (sym c.ends.ensures ∙ t)
