use Rattle.std.proofs.Common.{◌∙◌}
use Rattle.std.proofs.lemmas.List.{take-append-le}
use Rattle.fcgi_link.proofs.Streams.{fed_alike_by}
use Rattle.fcgi_link.proofs.reading.read_on.Goals as goal

pub returns-else-count-eq0-clause-alike : goal.returns-else-count-eq0-clause-alike
returns-else-count-eq0-clause-alike g c =
    let reading = c.requires.reading in
    let gave = c.in-Ok.ensures.reads in
    fed_alike_by c.args.translator.now c.begin.new.self _ _ reading.given reading.taken c.read.new.into _ c.in-Ok.count (c.begin.ensures.limit ∙ c.feed.ensures.limit) reading.stands
    (c.begin.ensures.stands _ _ (c.feed.ensures.fed _ _ reading.stands)) (take-append-le c.in-Ok.count c.read.new.into _ gave.within) gave
