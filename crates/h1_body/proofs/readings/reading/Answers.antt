use Rattle.h1_body.specs.Section.{section_limit}
use Rattle.h1_body.specs.BodyOf.{place_of}
use Rattle.h1_body.proofs.ReadingsLemmas.Places.{known_at}
use Rattle.h1_body.proofs.readings.reading.Goals as goal

pub returns : goal.returns
returns c = λ limits framing bytes end. c.reading_where_known.ensures limits framing bytes end (known_at (section_limit limits) (place_of framing bytes))
