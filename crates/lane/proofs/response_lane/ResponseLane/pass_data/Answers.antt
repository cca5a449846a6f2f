use Rattle.std.proofs.Common.{◌≡◌, ◌≤◌, ◌<◌, ◌+◌, ℕ, List, take, length, true, refl, arith}
use Rattle.std.proofs.lemmas.List.{length-take-le}
use Rattle.lane.proofs.AnswerLemmas.{begins_now, begins_not}
use Rattle.lane.proofs.DataLemmas.{GoesStraight, passed_so}
use Rattle.lane.proofs.response_lane.ResponseLane.pass_data.Goals as goal

pub returns-then-output_len-before-clause-as_if : goal.returns-then-output_len-before-clause-as_if
returns-then-output_len-before-clause-as_if c = λ some.
    let old = c.args.self.now in
    let new = c.pass_data-count.new.self in
    let bytes : List ℕ = take c.pass_data-count.result c.args.bytes.now in
    let e = c.pass_data-count.ensures in
    let not_none : c.pass_data-count.result ≡ 0 → ⊥ = λ none. omega arith in
    let within = e.within in
    let room = c.requires.room in
    let size : length bytes ≡ c.pass_data-count.result = length-take-le c.pass_data-count.result c.args.bytes.now within in
    let fits : length old.lane.input.items + length bytes ≤ old.lane.input.capacity = omega arith in
    let more : length old.lane.output.items < length new.output.items = omega arith in
    let g : GoesStraight old.lane bytes new =
    record { straight = e.some not_none; stands = e.stands; same = e.same; sound = e.sound; window = e.window; put = e.grows.0; grows = e.grows.1 } in
    passed_so old bytes new true c.requires.open c.requires.sound fits (c.is_answering.ensures.answering c.if-not-is_answering.false) g
    (λ text h. begins_now g.put old.lane.output.items new.output.items g.grows more text) (λ _. refl)

pub returns-clause-as_if : goal.returns-clause-as_if
returns-clause-as_if c = λ some.
    let old = c.args.self.now in
    let new = c.pass_data-count.new.self in
    let bytes : List ℕ = take c.pass_data-count.result c.args.bytes.now in
    let e = c.pass_data-count.ensures in
    let not_none : c.pass_data-count.result ≡ 0 → ⊥ = λ none. omega arith in
    let within = e.within in
    let room = c.requires.room in
    let size : length bytes ≡ c.pass_data-count.result = length-take-le c.pass_data-count.result c.args.bytes.now within in
    let fits : length old.lane.input.items + length bytes ≤ old.lane.input.capacity = omega arith in
    let less : length new.output.items ≤ length old.lane.output.items = omega arith in
    let g : GoesStraight old.lane bytes new =
    record { straight = e.some not_none; stands = e.stands; same = e.same; sound = e.sound; window = e.window; put = e.grows.0; grows = e.grows.1 } in
    passed_so old bytes new old.begun c.requires.open c.requires.sound fits (c.is_answering.ensures.answering c.if-not-is_answering.false) g
    (begins_not old.begun g.put old.lane.output.items new.output.items g.grows less) (λ h. h)
