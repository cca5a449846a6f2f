use Rattle.px_bytes.proofs.ValueLemmas.{values_of-append}
use Rattle.px_bytes.proofs.laws.joined_fields.Goals as goal

pub returns : goal.returns
returns c = values_of-append
