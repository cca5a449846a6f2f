use Rattle.std.proofs.Common.{◌∙◌, Option, Some, ap, sym}
use Rattle.std.proofs.lemmas.List.{drop-drop}
use Rattle.px_sample.specs.Sample.{Value, within}
use Rattle.px_expr.specs.MemEnv.{value_of, samples_in}
use Rattle.px_expr.proofs.GivenLemmas.{first_some, first_none, none_behind}
use Rattle.px_expr.proofs.mem_env.MemEnvEnv.next.Goals as goal

pub returns-in-Some-clause-given : goal.returns-in-Some-clause-given
returns-in-Some-clause-given c =
    ap (λ (v : Option Value). Some v) c.hand.ensures.value
    ∙ sym (first_some (within c.args.into.now.cap) (samples_in c.args.self.now.given.now c.args.fetch.now) c.args.place.now.at (value_of c.in-Some.given) (sym c.in-Some.ensures))

pub returns-in-Some-clause-left : goal.returns-in-Some-clause-left
returns-in-Some-clause-left c = sym (drop-drop 1 c.args.place.now.at (samples_in c.args.self.now.given.now c.args.fetch.now))

pub returns-in-None-clause-given : goal.returns-in-None-clause-given
returns-in-None-clause-given c =
    sym (first_none (within c.args.into.now.cap) (samples_in c.args.self.now.given.now c.args.fetch.now) c.args.place.now.at (sym c.in-None.ensures))

pub returns-in-None-clause-left : goal.returns-in-None-clause-left
returns-in-None-clause-left c = none_behind (samples_in c.args.self.now.given.now c.args.fetch.now) c.args.place.now.at (sym c.in-None.ensures)
