use Rattle.cfg_laws.proofs.LawLemmas.Formats.{format_back}
use Rattle.cfg_laws.proofs.laws.formats_read_back.Goals as goal

pub returns : goal.returns
returns c = format_back
