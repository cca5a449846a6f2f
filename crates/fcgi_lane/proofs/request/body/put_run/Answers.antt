use Rattle.std.proofs.Common.{◌<◌, ◌≤◌, ℕ, List, length, take, subst}
use Rattle.fcgi_lane.specs.declared.request.body_stages.BodyRun.{BodyRun}
use Rattle.fcgi_model.specs.Body.{Goes}
use Rattle.fcgi_lane.specs.Request.Stages.{place_of, used_by, found_by}
use Rattle.fcgi_lane.proofs.RequestLemmas.Bodies.{sends_run}
use Rattle.fcgi_lane.proofs.request.body.put_run.Goals as goal

pub returns-in_ok-push_record-in-Body-clause-sends : goal.returns-in_ok-push_record-in-Body-clause-sends
returns-in_ok-push_record-in-Body-clause-sends c =
    let bytes : List ℕ = c.args.bytes.now in
    let n : ℕ = c.in-Body.count in
    let run = c.read_run-next in
    let goes : Goes (place_of c.args.stage) (take n bytes) (place_of run.result.0) (take n bytes) =
    subst (λ (r : BodyRun). Goes (place_of c.args.stage) (take (used_by r) bytes) (place_of run.result.0) (found_by r bytes)) c.in-Body.is run.ensures.goes in
    let some : 0 < n = subst (λ (r : BodyRun). 0 < used_by r) c.in-Body.is run.ensures.some in
    let fits : n ≤ length bytes = subst (λ (r : BodyRun). used_by r ≤ length bytes) c.in-Body.is run.ensures.within in
    let short : n ≤ 8192 = subst (λ (r : BodyRun). used_by r ≤ 8192) c.in-Body.is run.ensures.short in
    sends_run (place_of c.args.stage) (place_of run.result.0) bytes c.args.made.now.items c.push_record.new.text.items n goes some fits short c.in_ok-push_record-in-Body.ensures
