-- What the rules on a server's final head come to is told.
use Rattle.std.proofs.Common.{◌≡◌, ℕ, sym, subst}
use Rattle.http_model.specs.declared.Why.{Why}
use Rattle.http_model.specs.Head.{Message}
use Rattle.http_model.specs.Reading.{Received}
use Rattle.session_model.specs.Asking.{Asker}
use Rattle.session_model.specs.Env.{Pass, Reply, Deny, Fail, response_env}
use Rattle.http_rules.specs.declared.config.Config.{Config}
use Rattle.http_rules.specs.Action.Given.{Env}
use Rattle.http_rules.specs.Rules.{Comes, rules_of}
use Rattle.px_explain.specs.declared.trace.Which.TheVariants.{Response}
use Rattle.px_explain.specs.declared.walk.Walk.{Walk}
use Rattle.px_explain.specs.Shown.{Adds}
use Rattle.px_explain.specs.Told.{told}
use Rattle.px_explain.specs.Traced.{refused, replied, passed, judged, ruled}
use Rattle.px_explain.specs.Walked.{Tells}
use Rattle.px_explain.proofs.Walking.{tells_behind, refused_as, replied_as}

module _ (cfg : Config) (asker : Asker) (received : Received) (old mid new : Walk) (answer : ℕ) (lines : Adds old.teller.trail mid.teller.trail (told Response cfg.limits.bufsize cfg.response (response_env old.teller.vars asker.method received.head))) where
  abbrev comes : Comes
  comes = rules_of cfg.limits.bufsize cfg.response (response_env old.teller.vars asker.method received.head)

  by_verdict : (c : Comes) → comes ≡ c → Tells mid new answer (judged cfg asker received c) → Tells old new answer (ruled cfg asker old.teller.vars received)
  by_verdict c is t =
      tells_behind old mid new answer (told Response cfg.limits.bufsize cfg.response (response_env old.teller.vars asker.method received.head)) (judged cfg asker received comes) lines
      (subst (λ (x : Comes). Tells mid new answer (judged cfg asker received x)) (sym is) t)

  pub judged_passed : (left : Env) → comes ≡ Pass left → Tells mid new answer (passed cfg asker received left) → Tells old new answer (ruled cfg asker old.teller.vars received)
  judged_passed left is t = by_verdict (Pass left) is t

  module _ (left : Env) (vars : mid.teller.vars ≡ left.vars) (method : mid.method.bytes ≡ asker.method) where
    pub judged_denied : (code : ℕ) → comes ≡ Deny code left → Tells mid new answer (refused cfg code mid.method.bytes mid.teller.vars) → Tells old new answer (ruled cfg asker old.teller.vars received)
    judged_denied code is t = by_verdict (Deny code left) is (refused_as cfg mid new answer code mid.method.bytes asker.method mid.teller.vars left.vars method vars t)

    pub judged_failed : (why : Why) → comes ≡ Fail why left → Tells mid new answer (refused cfg 500 mid.method.bytes mid.teller.vars) → Tells old new answer (ruled cfg asker old.teller.vars received)
    judged_failed why is t = by_verdict (Fail why left) is (refused_as cfg mid new answer 500 mid.method.bytes asker.method mid.teller.vars left.vars method vars t)

    pub judged_replied : (m : Message) → comes ≡ Reply m left → Tells mid new answer (replied cfg m mid.method.bytes mid.teller.vars) → Tells old new answer (ruled cfg asker old.teller.vars received)
    judged_replied m is t = by_verdict (Reply m left) is (replied_as cfg mid new answer m mid.method.bytes asker.method mid.teller.vars left.vars method vars t)
