use Rattle.rec_format.proofs.Formats as formats
use Rattle.rec_format.proofs.laws.reportable.Goals as goal

pub returns : goal.returns
returns c = formats.reportable
