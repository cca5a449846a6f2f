use Rattle.fcgi_lane.proofs.AnswerLemmas.Sections.{section_reads, section_is}
use Rattle.fcgi_lane.proofs.answer.laws.section_is_the_grammar.Goals as goal

pub returns-clause-read : goal.returns-clause-read
returns-clause-read c = section_reads

pub returns-clause-only : goal.returns-clause-only
returns-clause-only c = λ bytes fields rest e.
    let is = section_is bytes (fields, rest) e in
    (is.fields, is.last, is.reads, is.are)
