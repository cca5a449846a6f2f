use Rattle.std.proofs.Common.{rules, ◌≡◌, ◌<◌, ℕ, sym, ap, subst}
use Rattle.px_proxyproto.specs.Greeting.{Greets}
use Rattle.px_proxyproto.specs.declared.greeting.Greeting.{Greeting}
use Rattle.px_run.specs.Callers.{count_read}
use Rattle.px_run.specs.declared.caller.Caller.TheVariants as callers
use Rattle.px_run.proofs.Callers.{reads_from}
use Rattle.px_run.proofs.caller.greet_on.Goals as goal

pub returns-in-Some-Got-clause-reads : goal.returns-in-Some-Got-clause-reads
returns-in-Some-Got-clause-reads g c = λ first r.
    let e : c.args.caller.now ≡ callers.Greets c.in-Greets.greeter = search rules in
    let P : Greeting → Type 0 = λ o. Greets first (g.L.Link.seen c.read_on.new.link) o in
    subst P c.in-Some-Got.field-0-is (c.in-Some-Got.ensures.goes first (reads_from c.args.caller.now c.in-Greets.greeter first (g.L.Link.seen c.args.client.now) e r))

pub returns-in-Some-Bad-clause-reads : goal.returns-in-Some-Bad-clause-reads
returns-in-Some-Bad-clause-reads g c = λ first r.
    let e : c.args.caller.now ≡ callers.Greets c.in-Greets.greeter = search rules in
    let P : Greeting → Type 0 = λ o. Greets first (g.L.Link.seen c.read_on.new.link) o in
    subst P c.in-Some-Bad.field-0-is (c.in-Some-Bad.ensures.goes first (reads_from c.args.caller.now c.in-Greets.greeter first (g.L.Link.seen c.args.client.now) e r))

pub returns-in-None-clause-further : goal.returns-in-None-clause-further
returns-in-None-clause-further g c =
    let e : c.args.caller.now ≡ callers.Greets c.in-Greets.greeter = search rules in
    let more = c.read_on.ensures.further (search rules) in
    let P : ℕ → Type 0 = λ n. n < c.read_on.new.self.count in
    (subst P (sym (ap count_read e)) more.0, more.1)
