use Rattle.std.proofs.Common.{◌≡◌, ◌∙◌, ap, subst, [], false}
use Rattle.body_filter.specs.Filter.{filtered, ended}
use Rattle.body_filter.specs.declared.filter_spec.FedState.TheVariants.{Going}
use Rattle.body_filter.specs.Feeding.{Feeds, Meaning}
use Rattle.body_filter.specs.Chain.{Machines, machines_meaning, machines_fresh, chain_meaning}
use Rattle.body_filter.proofs.Chains.{goes, all_given}
use Rattle.body_filter.proofs.Ending.{never_early}
use Rattle.body_filter.proofs.chain.Chain.feed.Goals as goal

pub returns-clause-goes_on : goal.returns-clause-goes_on
returns-clause-goes_on c = λ filters used given stands more.
    let feeds : Feeds (chain_meaning c.args.self.now) c.args.piece.now c.args.last c.feed.result c.feed.new.out (machines_meaning c.feed.new.self)
    = subst (λ (m : Machines). Feeds (machines_meaning m) c.args.piece.now c.args.last c.feed.result c.feed.new.out (machines_meaning c.feed.new.self)) c.deref_mut.ensures.value c.feed.ensures.feeds in
    let fresh : machines_fresh c.feed.new.self ≡ machines_fresh c.args.self.now.line.value
    = c.feed.ensures.fresh ∙ ap machines_fresh c.deref_mut.ensures.value in
    record {
      is = λ whole rest. ap (λ (m : Meaning). m whole rest) fresh ∙ stands.is whole rest;
      goes_on = goes (filtered filters) (chain_meaning c.args.self.now) (machines_meaning c.feed.new.self) c.args.piece.now c.args.last c.feed.result c.feed.new.out used given feeds stands.goes_on more;
    }

pub returns-clause-all : goal.returns-clause-all
returns-clause-all c = λ on none nought filters used given stands.
    let waits : machines_meaning c.feed.new.self false [] ≡ ended Going = (c.feed.ensures.feeds.idle on none nought).2 in
    all_given (filtered filters) (machines_meaning c.feed.new.self) used given stands.goes_on waits

pub returns-clause-early : goal.returns-clause-early
returns-clause-early c = λ filters used given stands. never_early filters (machines_meaning c.feed.new.self) used given c.feed.result.state stands.goes_on c.feed.ensures.feeds.told
