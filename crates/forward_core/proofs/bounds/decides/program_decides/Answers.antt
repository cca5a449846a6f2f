use Rattle.std.proofs.Common.{[], ◌∷◌, ◌++◌, refl}
use Rattle.std.specs.Prelude.{Some}
use Rattle.http_model.specs.Reading.{Refused, Begins}
use Rattle.h1_head.specs.declared.answer.Side.TheVariants as sides
use Rattle.h1_body.specs.BodyOf.{Reads}
use Rattle.forward_core.specs.Meaning.Product.{meaning_of}
use Rattle.session_core.proofs.PublicLaws.{cut_request, cut_answer, interim_none}
use Rattle.forward_core.specs.Bounds.Decided.{with_more}
use Rattle.forward_core.proofs.BoundsLemmas.Stays.{front_of}
use Rattle.forward_core.proofs.BoundsLemmas.Made.{interim_more, request_made, answer_made}
use Rattle.forward_core.proofs.bounds.decides.program_decides.Goals as goal

pub returns-clause-refused : goal.returns-clause-refused
returns-clause-refused c = λ cfg valid vars window code h rest.
    record { head = Refused code; reads = c.readings_stay.ensures.refused cfg valid window code h rest.bytes; asks = refl }

pub returns-clause-asked : goal.returns-clause-asked
returns-clause-asked c = λ cfg vars window more received h rest.
    record { head = Begins received (more ++ rest.bytes); reads = c.head_stays.ensures sides.Request cfg.limits window rest.bytes received more h; asks = refl }

pub returns-clause-unanswered : goal.returns-clause-unanswered
returns-clause-unanswered c = λ cfg valid asker vars window code h rest. record {
  heads = [];
  interim = interim_none asker;
  final = (Refused code, c.readings_stay.ensures.response_refused cfg valid asker.head_asked window code h rest.bytes, refl);
}

pub returns-clause-interim : goal.returns-clause-interim
returns-clause-interim c = λ cfg asker vars window more received h interim rest answered a. record {
  heads = received.head ∷ a.heads;
  interim = interim_more asker received.head a.heads answered.interim a.interim;
  final = (received, more ++ rest.bytes, c.head_stays.ensures (sides.Response asker.head_asked) cfg.limits window rest.bytes received more h, interim, refl, a.final);
}

pub returns-clause-answered : goal.returns-clause-answered
returns-clause-answered c = λ cfg asker vars window more received h last rest final answers. record {
  heads = [];
  interim = interim_none asker;
  final = (Begins received (more ++ rest.bytes), c.head_stays.ensures (sides.Response asker.head_asked) cfg.limits window rest.bytes received more h, (last, answers));
}

pub returns-clause-request_body : goal.returns-clause-request_body
returns-clause-request_body c = λ cfg received head vars bytes body h rest read reads.
    request_made (meaning_of cfg) received head vars rest.ending body rest.bytes read
    (c.one_reading.ensures cfg.limits received.framing (bytes ++ rest.bytes) (Some rest.ending) (Reads read) (Reads (with_more body rest.bytes)) reads
    (c.readings_stay.ensures.body cfg received.framing bytes body h rest.bytes rest.ending))

pub returns-clause-answer_body : goal.returns-clause-answer_body
returns-clause-answer_body c = λ cfg asker received head vars bytes body h rest read reads.
    answer_made (meaning_of cfg) asker received head vars body rest.bytes read
    (c.one_reading.ensures cfg.limits received.framing (bytes ++ rest.bytes) (Some rest.ending) (Reads read) (Reads (with_more body rest.bytes)) reads
    (c.readings_stay.ensures.body cfg received.framing bytes body h rest.bytes rest.ending))

pub returns-clause-cut_request : goal.returns-clause-cut_request
returns-clause-cut_request c = λ cfg received head vars bytes front code so_far refuses rest read reads.
    let on = front_of c.joins.ensures cfg.limits received.framing bytes front rest.bytes (Some rest.ending) read so_far reads in
    cut_request (meaning_of cfg) received head vars front on.0 code (c.readings_stay.ensures.request_filters cfg) refuses rest.ending read on.1

pub returns-clause-cut_answer : goal.returns-clause-cut_answer
returns-clause-cut_answer c = λ cfg asker received head vars bytes front code so_far refuses rest read reads.
    let on = front_of c.joins.ensures cfg.limits received.framing bytes front rest.bytes (Some rest.ending) read so_far reads in
    cut_answer (meaning_of cfg) asker received head vars front on.0 code (c.readings_stay.ensures.response_filters cfg) refuses read on.1
