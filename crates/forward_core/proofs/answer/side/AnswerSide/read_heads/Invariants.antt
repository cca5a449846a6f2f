use Rattle.std.proofs.Common.{◌≡◌, ℕ, List, true, length}
use Rattle.px_sample.specs.Variables.{Variables}
use Rattle.http_rules.specs.declared.config.Config.{Config}
use Rattle.session_core.specs.History.{Coming}
use Rattle.session_core.specs.Sided.{Asking, Saying}
use Rattle.lane.specs.Answering.{stage_of, input_of}
use Rattle.lane.specs.declared.direction.stage.Stage.TheVariants as stage
use Rattle.forward_core.specs.Answer.Seen.{seen, size_of, window_size_of}
use Rattle.forward_core.specs.Answer.Stands.{AnswerStands}
use Rattle.forward_core.specs.Answer.Hearing.{IsBetween, Hears}
use Rattle.forward_core.specs.declared.answer.hearing.Heard.TheVariants as heard
use Rattle.forward_core.proofs.answer.side.AnswerSide.read_heads.Given as goal

abbrev pub invariant-heads : goal.invariant-heads
invariant-heads l = record {
  between : IsBetween l.self;
  reading : stage_of l.self.lane ≡ stage.Reading;
  leads : (cfg : Config) (asking : Asking Variables) (server : Coming) (put : List ℕ) (now : Variables) (saying : Saying) → AnswerStands cfg l.fn.self asking server put now saying → Hears cfg l.fn.self l.self asking server put now saying heard.Interim;
  is_open : (seen l.self).is_open ≡ (seen l.fn.self).is_open;
  heard_still : (seen l.fn.self).heard ≡ true → (seen l.self).heard ≡ true;
  size : size_of l.self ≡ size_of l.fn.self;
  window_size : window_size_of l.self ≡ window_size_of l.fn.self;
}

abbrev pub decreases-heads : goal.decreases-heads
decreases-heads l = length (input_of l.self.lane)
