use Rattle.std.proofs.Common.{◌≡◌, List, ◌≤◌, ◌-◌, length, drop}
use Rattle.http_model.specs.Head.{Head}
use Rattle.http_rules.specs.declared.config.Config.{Config}
use Rattle.session_model.specs.Asking.{Asker}
use Rattle.session_model.specs.Answering.{BeginsWithInterim}
use Rattle.forward_core.specs.Meaning.Product.{meaning_of}
use Rattle.px_explain.proofs.heads.find_final.Given as goal

-- interim heads alone were passed over
abbrev pub invariant-heads : goal.invariant-heads
invariant-heads l = record {
  within : l.from ≤ length l.stream;
  interim : (cfg : Config) (asker : Asker) → cfg.limits ≡ l.fn.limits → asker.head_asked ≡ l.head_asked → (heads : List Head) × BeginsWithInterim (meaning_of cfg) asker heads l.stream (λ rest. rest ≡ drop l.from l.stream);
  size : l.to.size ≡ l.initial.to.size;
}

abbrev pub decreases-heads : goal.decreases-heads
decreases-heads l = length l.stream - l.from
