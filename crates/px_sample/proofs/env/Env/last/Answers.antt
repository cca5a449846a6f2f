use Rattle.std.proofs.Common.{◌∙◌, ap, refl, List, Option, None}
use Rattle.px_sample.specs.Sample.{Value, value_in}
use Rattle.px_sample.specs.Buffer.{Buffer}
use Rattle.px_sample.specs.Fetched.{all_within}
use Rattle.px_sample.proofs.FetchedLemmas.{last_after, last_all, last_more, last_none, fewer}
use Rattle.px_sample.proofs.env.Env.last.Goals as goal

pub samples-init : goal.samples-init
samples-init g c =
    record {
      cap = refl;
      value =
          ap (λ (xs : List (Option Value)). last_after None (all_within c.args.into.now.cap xs)) c.start-place.ensures
          ∙ last_all c.args.into.now.cap (g.Self.Env.samples c.args.self.now c.args.fetch.now);
    }

pub returns-in-None-clause-value : goal.returns-in-None-clause-value
returns-in-None-clause-value g c =
    ap (λ (into : Buffer). value_in c.samples.last into.bytes) c.in-None.ensures.past
    ∙ last_none c.samples.into.cap c.args.into.now.cap _ _ _ c.in-None.ensures.given c.samples.invariant.value

pub samples-preserved : goal.samples-preserved
samples-preserved g c =
    record {
      cap = c.in-Some.ensures.cap ∙ c.samples.invariant.cap;
      value =
          last_more c.samples.into.cap c.args.into.now.cap _ _ _ _ _ c.samples.invariant.cap c.in-Some.ensures.given c.in-Some.ensures.left c.samples.invariant.value;
    }

pub samples-smaller : goal.samples-smaller
samples-smaller g c =
    fewer c.samples.into.cap _ _ _ c.in-Some.ensures.given c.in-Some.ensures.left
