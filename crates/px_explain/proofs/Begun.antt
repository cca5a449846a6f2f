-- A whole exchange was told.
use Rattle.std.proofs.Common.{◌≡◌, ℕ, List, [], refl, ap, subst}
use Rattle.std.specs.Prelude.{Some, None}
use Rattle.http_model.specs.Reading.{Received}
use Rattle.http_model.specs.Reading as reading
use Rattle.h1_head.specs.Request.{RequestOf}
use Rattle.session_model.specs.Asking.{asked_by}
use Rattle.session_model.specs.Env.{request_env}
use Rattle.px_sample.specs.Variables.{Variables, no_variables}
use Rattle.http_rules.specs.declared.config.Config.{Config}
use Rattle.http_rules.specs.Lives.{answering}
use Rattle.http_rules.specs.Rules.{rules_of}
use Rattle.forward_core.specs.Meaning.Product.{meaning_of}
use Rattle.rec_format.specs.Recorded.{Visit}
use Rattle.px_explain.specs.declared.trace.Which.TheVariants.{Request}
use Rattle.px_explain.specs.declared.trail.Trail.{Trail}
use Rattle.px_explain.specs.declared.walk.Walk.{Walk}
use Rattle.px_explain.specs.Told.{told}
use Rattle.px_explain.specs.Traced.{Traced, Answers, behind_lines, refused}
use Rattle.px_explain.specs.Walked.{IsTraced, Tells, IsToldBehind}
use Rattle.px_explain.proofs.Shown.{adds_nothing}
use Rattle.px_explain.proofs.Walking.{refused_as}

module _ (cfg : Config) (old new : Walk) (answer : ℕ) (visit : Visit) (vars : old.teller.vars ≡ no_variables) where
  -- the head was refused
  pub refused_head : (code : ℕ) → old.method.bytes ≡ [] → RequestOf cfg.limits visit.client.bytes (reading.Refused code) → Tells old new answer (refused cfg code old.method.bytes (answering old.teller.vars)) → IsTraced cfg old.teller.trail new.teller.trail (Some answer) visit
  refused_head code method reads t =
      let t1 = refused_as cfg old new answer code old.method.bytes [] (answering old.teller.vars) (answering no_variables) method (ap (λ (v : Variables). answering v) vars) t in
      record {
        traced = behind_lines [] (refused cfg code [] (answering no_variables));
        is_traced = record { head = reading.Refused code; reads = reads; behind = refused cfg code [] (answering no_variables); answers = refl; is = refl };
        lines = t1.lines;
        status = t1.status;
      }

  -- what a head asks for was told, under these variables
  abbrev ToldWith : Received → (rest : List ℕ) → Variables → Type 0
  ToldWith received rest v =
      (behind : Traced)
      × Answers cfg (asked_by (meaning_of cfg) received (record { bytes = rest; ending = visit.client.ending }) (rules_of cfg.limits.bufsize cfg.request (request_env v received.head))) visit.servers behind
      × Tells old new answer (behind_lines (told Request cfg.limits.bufsize cfg.request (request_env v received.head)) behind)

  -- a head came
  pub head_came : (received : Received) (rest : List ℕ) → RequestOf cfg.limits visit.client.bytes (reading.Begins received rest)
      → IsToldBehind cfg old new answer received (record { bytes = rest; ending = visit.client.ending }) visit.servers → IsTraced cfg old.teller.trail new.teller.trail (Some answer) visit
  head_came received rest reads t =
      let b = subst (λ (v : Variables). ToldWith received rest v) vars t in
      record {
        traced = behind_lines (told Request cfg.limits.bufsize cfg.request (request_env no_variables received.head)) b.0;
        is_traced = record { head = reading.Begins received rest; reads = reads; behind = b.0; answers = b.1; is = refl };
        lines = b.2.lines;
        status = b.2.status;
      }

-- nothing was asked
pub nothing_came : (cfg : Config) (trail : Trail) (visit : Visit) → RequestOf cfg.limits visit.client.bytes reading.Nothing → IsTraced cfg trail trail None visit
nothing_came cfg trail visit reads =
    let silent : Traced = record { lines = []; answer = None } in
    record {
      traced = silent;
      is_traced = record { head = reading.Nothing; reads = reads; behind = silent; answers = refl; is = refl };
      lines = adds_nothing trail;
      status = refl;
    }
