use Rattle.std.proofs.Common.{◌≡◌, ◌≤◌, ◌-◌, ◌⊎◌, length, take, true}
use Rattle.forward_core.specs.Answer.Seen as spec
use Rattle.forward_core.specs.Answer.Seen.{seen, place_of, size_of, window_size_of}
use Rattle.forward_core.specs.Answer.AtOnce.{TakesAtOnce}
use Rattle.forward_core.specs.Answer.Stands.{IsSoundSide}
use Rattle.forward_core.specs.Answer.Said.{AnswerPuts}
use Rattle.forward_core.proofs.answer.side.AnswerSide.pass_wide.Given as goal

abbrev pub invariant-parts : goal.invariant-parts
invariant-parts l = record {
  within : l.passed ≤ length l.bytes;
  none : l.passed ≡ 0 → l.self ≡ l.fn.self;
  leads : AnswerPuts l.fn.self l.self (take l.passed l.bytes);
  sound : IsSoundSide l.self;
  last : spec.is_last (place_of l.self) ≡ true;
  is_open : (seen l.self).is_open ≡ true;
  room : (length l.bytes - l.passed ≤ (seen l.self).room) ⊎ TakesAtOnce l.self (length l.bytes - l.passed);
  begun : (seen l.fn.self).begun ≡ true → (seen l.self).begun ≡ true;
  heard : (seen l.self).heard ≡ (seen l.fn.self).heard;
  place : place_of l.self ≡ place_of l.fn.self;
  size : size_of l.self ≡ size_of l.fn.self;
  window_size : window_size_of l.self ≡ window_size_of l.fn.self;
}

abbrev pub decreases-parts : goal.decreases-parts
decreases-parts l = length l.bytes - l.passed
