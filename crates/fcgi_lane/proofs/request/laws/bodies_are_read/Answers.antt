use Rattle.fcgi_lane.proofs.RequestLemmas.Chunks.{length_read, chunks_read, whole_read}
use Rattle.fcgi_lane.proofs.request.laws.bodies_are_read.Goals as goal

pub returns-clause-length : goal.returns-clause-length
returns-clause-length c = length_read

pub returns-clause-chunks : goal.returns-clause-chunks
returns-clause-chunks c = chunks_read c.hex_read_back.ensures

pub returns-clause-whole : goal.returns-clause-whole
returns-clause-whole c = whole_read c.hex_read_back.ensures
