use Rattle.std.proofs.Common.{◌≡◌, ◌<◌, true, ◌+◌, ◌++◌, [], ℕ, List, subst, sym, ap, ◌∙◌, rules, arith, take, length}
use Rattle.std.specs.Prelude.{Some, None, Option, min, is_some, ◌-◌}
use Rattle.std.proofs.lemmas.List.{take_all}
use Rattle.h1_body.specs.declared.reader.Span.{Span}
use Rattle.h1_body.specs.Stands.{HasRead, bytes_of}
use Rattle.htx_model.specs.Blocks.{append_data}
use Rattle.h1_write.specs.Spelled.{Writes}
use Rattle.lane.specs.Direction.State.{LaneState}
use Rattle.lane.specs.Direction.Sends.{IsStraight}
use Rattle.lane.specs.contracts.direction.lane.Lane.{the_view}
use Rattle.lane.proofs.DirectionLemmas.PullLemmas.{Feeds, piece_length}
use Rattle.lane.proofs.DirectionLemmas.StraightLemmas.{Refuses, stands_passed, passes_some, passes_plain}
use Rattle.lane.proofs.direction.lane.Lane.pass_data.Goals as goal

pub returns-clause-stands : goal.returns-clause-stands
returns-clause-stands c =
    let l = the_view c.self.inside in
    let straight : IsStraight l = subst IsStraight (sym c.self.view_is) (c.is_straight.ensures.straight c.if-not-is_straight.false) in
    let writes : (data_ window : List ℕ) → Writes l.writer (append_data [] data_) window l.writer [] (window ++ data_) =
    subst (λ (s : LaneState). (data_ window : List ℕ) → Writes s.writer (append_data [] data_) window s.writer [] (window ++ data_)) (sym c.self.view_is) (c.is_straight.ensures.writes c.if-not-is_straight.false) in
    let none : c.feed-step.result.trailers ≡ None = search rules in
    let w : List ℕ = c.args.bytes.now in
    let used : ℕ = c.feed-step.result.used in
    let piece : Span = c.feed-step.result.piece in
    let some : used ≡ 0 → ⊥ = search rules in
    let within = c.feed-step.ensures.used in
    let small = c.feed-step.ensures.small in
    let span = c.feed-step.ensures.piece_within in
    let feeds : Feeds l.reader c.feed-step.new.self w c.room.result used piece [] c.feed-step.result.state = record {
      within = within;
      span = (small, span);
      leads = λ limits framing bytes found section h.
          subst (λ (o : Option Span). HasRead limits framing (bytes ++ take used w) (found ++ bytes_of w (Some piece)) (section ++ bytes_of w o) c.feed-step.new.self) none
          (c.feed-step.ensures.leads limits framing bytes found section h);
      told = c.feed-step.ensures.state;
      waits = c.feed-step.ensures.waits;
    } in
    let len : length (bytes_of w (Some piece)) ≡ piece.len = piece_length w used piece within span in
    let room : c.room.result + length l.output.items ≡ l.output.capacity = c.room.ensures in
    let count : c.push.result ≡ min (length (bytes_of w (Some piece))) (l.output.capacity - length l.output.items) = c.push.ensures.count in
    let items : c.push.new.self.items ≡ l.output.items ++ take c.push.result (bytes_of w (Some piece)) = c.push.ensures.items in
    let all : take c.push.result (bytes_of w (Some piece)) ≡ bytes_of w (Some piece) = take_all c.push.result (bytes_of w (Some piece)) (omega arith) in
    rw (← c.self.view_is) (λ p s. stands_passed l p c.feed-step.new.self c.push.new.self c.source_of-self-inside.result w c.room.result used piece c.feed-step.result.state (record {
      straight = straight;
      writes = writes;
      feeds = feeds;
      some = some;
      items = items ∙ ap (λ (t : List ℕ). l.output.items ++ t) all;
      capacity = c.push.ensures.capacity;
      told = c.source_of-self-inside.ensures;
    }) s)

pub returns-then-step-eq0-clause-takes : goal.returns-then-step-eq0-clause-takes
returns-then-step-eq0-clause-takes c =
    let l = the_view c.self.inside in
    let e = c.feed-step.ensures in
    let f : Refuses l.reader c.feed-step.new.self c.args.bytes.now c.room.result c.feed-step.result.used c.feed-step.result.piece c.feed-step.result.trailers =
    record { within = e.used; leads = e.leads; waits = e.waits; some = e.some; section_within = e.section_within } in
    let none : c.feed-step.result.used ≡ 0 = search rules in
    let room : c.room.result + length l.output.items ≡ l.output.capacity = c.room.ensures in
    rw (← c.self.view_is) (λ m.
    let free : length l.output.items < l.output.capacity = m.room in
    let some : 0 < c.room.result = omega arith in
    absurd (passes_some l c.feed-step.new.self c.args.bytes.now c.room.result c.feed-step.result.used c.feed-step.result.piece c.feed-step.result.trailers f some none m))

pub returns-then-is_some-clause-takes : goal.returns-then-is_some-clause-takes
returns-then-is_some-clause-takes c =
    let l = the_view c.self.inside in
    let e = c.feed-step.ensures in
    let f : Refuses l.reader c.feed-step.new.self c.args.bytes.now c.room.result c.feed-step.result.used c.feed-step.result.piece c.feed-step.result.trailers =
    record { within = e.used; leads = e.leads; waits = e.waits; some = e.some; section_within = e.section_within } in
    let is : is_some c.feed-step.result.trailers ≡ true = search rules in
    rw (← c.self.view_is) (λ m. absurd (passes_plain l c.feed-step.new.self c.args.bytes.now c.room.result c.feed-step.result.used c.feed-step.result.piece c.feed-step.result.trailers f is m))
