use Rattle.std.proofs.Common.{◌≡◌, ◌+◌, [], take, ap, subst, sym, ◌∙◌, refl, arith, get_or, Bool}
use Rattle.fcgi_lane.specs.Answer.Flow.{Flow, Place, Goes, tired, leads, adds}
use Rattle.fcgi_lane.specs.declared.answer.records.Stage.{Stage}
use Rattle.fcgi_lane.specs.Answer.Reader.{place_of}
use Rattle.fcgi_lane.specs.contracts.answer.records.RecordReader.{the_view}
use Rattle.fcgi_lane.proofs.answer.records.RecordReader.feed.Goals as goal
use Rattle.fcgi_lane.proofs.AnswerLemmas.Runs.{output_run_goes, skip_run_goes, one_byte_goes}

-- src/records.rt:219:5
pub returns-in-Output-clause-goes : goal.returns-in-Output-clause-goes
returns-in-Output-clause-goes c =
    let run = c.output_run-stage in
    let n = run.result.1 in
    let bytes = c.args.bytes.now in
    let new : Flow = the_view (record { stage = run.result.0; shut = c.self.inside.shut; idle = 0 }) in
    subst (λ (o : Flow). Goes o (take n bytes) new (take n bytes)) c.self.view_is
    (output_run_goes (the_view c.self.inside) new c.in-Output.left c.in-Output.pad n bytes (ap place_of c.in-Output.is) run.ensures.some run.ensures.within.0 run.ensures.within.1 run.ensures.place refl refl)

-- src/records.rt:219:5
pub returns-in-Skip-clause-goes : goal.returns-in-Skip-clause-goes
returns-in-Skip-clause-goes c =
    let run = c.skip_run-stage in
    let n = run.result.1 in
    let bytes = c.args.bytes.now in
    let new : Flow = the_view (record { stage = c.tire-self-inside.result; shut = c.self.inside.shut; idle = c.self.inside.idle + n }) in
    subst (λ (o : Flow). Goes o (take n bytes) new []) c.self.view_is
    (skip_run_goes (the_view c.self.inside) new c.in-Skip.left n bytes (ap place_of c.in-Skip.is) run.ensures.some run.ensures.within.0 run.ensures.within.1
    (omega (arith, run.ensures.some, run.ensures.within.2))
    (c.tire-self-inside.ensures.place ∙ ap (λ (p : Place). tired p (c.self.inside.idle + n)) run.ensures.place) refl refl)

-- src/records.rt:219:5
pub returns-in-End-clause-goes : goal.returns-in-End-clause-goes
returns-in-End-clause-goes c =
    let bytes = c.args.bytes.now in
    let new : Flow = the_view (record { stage = c.tire-self-inside-in-End.result; shut = c.self.inside.shut; idle = c.self.inside.idle + 1 }) in
    let shut = c.self.inside.shut in
    let to : (place_of c.end_byte-stage.result, shut) ≡ leads (place_of c.self.inside.stage) shut (get_or bytes 0 0)
    = c.end_byte-stage.ensures.place shut ∙ ap (λ (st : Stage). leads (place_of st) shut (get_or bytes 0 0)) (sym c.in-End.is) in
    subst (λ (o : Flow). Goes o (take 1 bytes) new []) c.self.view_is
    (one_byte_goes (the_view c.self.inside) new bytes c.requires.some (ap (λ (st : Stage). adds (place_of st)) c.in-End.is)
    (c.tire-self-inside-in-End.ensures.place ∙ ap (λ (q : Place × Bool). tired q.0 (c.self.inside.idle + 1)) to)
    (ap (λ (q : Place × Bool). q.1) to) refl)
