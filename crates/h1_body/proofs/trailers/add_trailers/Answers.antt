use Rattle.std.proofs.Common.{sym}
use Rattle.h1_body.proofs.Kept.{good_names_of, blocks_are, section_at}
use Rattle.h1_body.proofs.trailers.add_trailers.Goals as goal

pub push_section-requires-clause-named : goal.push_section-requires-clause-named
push_section-requires-clause-named c =
    let parsed = c.in-Ok-Complete in
    good_names_of c.args.section.now c.parse_headers.new.headers parsed._used parsed.count
    (section_at c.args.section.now c.parse_headers.new.headers parsed._used parsed.count parsed.field-0 parsed.field-0-is parsed.ensures.complete)
    c.requires.0 c.requires.1

pub returns-clause-fits : goal.returns-clause-fits
returns-clause-fits c = λ trailers has.
    let parsed = c.in-Ok-Complete in
    let found = section_at c.args.section.now c.parse_headers.new.headers parsed._used parsed.count parsed.field-0 parsed.field-0-is parsed.ensures.complete in
    rw (sym (blocks_are c.args.section.now c.parse_headers.new.headers parsed._used parsed.count found c.requires.0 c.requires.1 trailers has)) c.push_section.ensures.fits

pub returns-clause-ok : goal.returns-clause-ok
returns-clause-ok c = λ trailers has.
    let parsed = c.in-Ok-Complete in
    let found = section_at c.args.section.now c.parse_headers.new.headers parsed._used parsed.count parsed.field-0 parsed.field-0-is parsed.ensures.complete in
    rw (sym (blocks_are c.args.section.now c.parse_headers.new.headers parsed._used parsed.count found c.requires.0 c.requires.1 trailers has)) c.push_section.ensures.ok
