use Rattle.std.proofs.Common.{◌≡◌, ℕ, ◌<◌, ◌≤◌, List, length, take, sym, ap, subst, arith}
use Rattle.fcgi_model.specs.Body.{Place, Goes, InLength, InChunk}
use Rattle.fcgi_lane.specs.Request.Stages.{place_of, IsStage}
use Rattle.fcgi_lane.proofs.RequestLemmas.Places.{length_run, chunk_run}
use Rattle.fcgi_lane.proofs.request.body_stages.read_run.Goals as goal

pub returns-in-Length-clause-goes : goal.returns-in-Length-clause-goes
returns-in-Length-clause-goes c =
    let left : ℕ = c.in-Length.left in
    let n : ℕ = c.min-count.result in
    let bytes : List ℕ = c.args.bytes.now in
    let at : place_of c.args.stage ≡ InLength left = ap place_of c.in-Length.is in
    let some : 0 < left = subst IsStage c.in-Length.is c.requires.stage in
    let fits : n ≤ length bytes = omega arith in
    let less : n ≤ left = omega arith in
    subst (λ (p : Place). Goes p (take n bytes) (place_of c.length_left.result) (take n bytes)) (sym at)
    (subst (λ (q : Place). Goes (InLength left) (take n bytes) q (take n bytes)) (sym c.length_left.ensures.place) (length_run n left bytes some fits less))

pub returns-in-Chunk-clause-goes : goal.returns-in-Chunk-clause-goes
returns-in-Chunk-clause-goes c =
    let left : ℕ = c.in-Chunk.left in
    let n : ℕ = c.min-count-in-Chunk.result in
    let bytes : List ℕ = c.args.bytes.now in
    let at : place_of c.args.stage ≡ InChunk left = ap place_of c.in-Chunk.is in
    let some : 0 < left = subst IsStage c.in-Chunk.is c.requires.stage in
    let fits : n ≤ length bytes = omega arith in
    let less : n ≤ left = omega arith in
    subst (λ (p : Place). Goes p (take n bytes) (place_of c.chunk_left.result) (take n bytes)) (sym at)
    (subst (λ (q : Place). Goes (InChunk left) (take n bytes) q (take n bytes)) (sym c.chunk_left.ensures.place) (chunk_run n left bytes some fits less))
