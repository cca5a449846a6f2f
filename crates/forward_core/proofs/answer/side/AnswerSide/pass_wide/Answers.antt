use Rattle.std.proofs.Common.{rules, ◌≡◌, ◌<◌, ◌+◌, ◌-◌, inr, ℕ, List, length, ◌∙◌, subst, arith}
use Rattle.std.specs.Prelude.{slice_range}
use Rattle.httparse.proofs.RunLemmas.{length-slice_range}
use Rattle.forward_core.specs.Answer.Seen.{seen}
use Rattle.forward_core.specs.Answer.Said.{AnswerPuts}
use Rattle.forward_core.specs.Answer.AtOnce.{TakesAtOnce}
use Rattle.forward_core.proofs.AnswerLemmas.PassLemmas.{puts_then, front_of, but_for_room}
use Rattle.forward_core.proofs.answer.side.AnswerSide.pass_wide.Goals as goal

pub parts-preserved : goal.parts-preserved
parts-preserved c =
    let mid = c.parts.self in
    let new = c.pass_on-passed.new.self in
    let bytes : List ℕ = c.args.bytes.now in
    let at : ℕ = c.parts.passed in
    let to : ℕ = at + c.room-in-parts.result in
    let n : ℕ = c.pass_on-passed.result in
    let i = c.parts.invariant in
    let e = c.pass_on-passed.ensures in
    let free : c.room.result ≡ (seen mid).room = c.room.ensures in
    let free_too : c.room-in-parts.result ≡ (seen mid).room = c.room-in-parts.ensures in
    let more : c.room.result < length bytes - at = search rules in
    let size : length (slice_range bytes at to) ≡ to - at = length-slice_range bytes at to (omega arith) (omega arith) in
    let goes : TakesAtOnce mid (length bytes - at) = but_for_room (length bytes - at) (seen mid).room (TakesAtOnce mid (length bytes - at)) i.room (omega arith) in
    let all = e.all (length bytes - at) goes (omega arith) in
    let count : n ≡ length (slice_range bytes at to) = all.0 in
    let left : length bytes - at - length (slice_range bytes at to) ≡ length bytes - (at + n) = omega arith in
    record {
      within = omega arith;
      none = λ z. e.none (omega arith) ∙ i.none (omega arith);
      leads = puts_then c.args.self.now mid new at n bytes i.leads (subst (AnswerPuts mid new) (front_of n at to bytes (omega arith) (omega arith)) e.leads);
      sound = e.sound;
      last = search rules;
      is_open = e.open ∙ i.is_open;
      room = inr (subst (TakesAtOnce new) left all.1);
      begun = λ b. e.begun (i.begun b);
      heard = e.heard ∙ i.heard;
      place = e.place ∙ i.place;
      size = e.size ∙ i.size;
      window_size = e.window_size ∙ i.window_size;
    }
