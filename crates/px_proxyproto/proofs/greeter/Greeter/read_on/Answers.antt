use Rattle.std.proofs.Common.{Option, sym, subst}
use Rattle.px_proxyproto.specs.declared.greeting.Greeting.{Greeting}
use Rattle.px_proxyproto.specs.declared.state.ProxyState.TheVariants as states
use Rattle.px_proxyproto.specs.Greeting.{GreetsSoFar, WentOn}
use Rattle.px_proxyproto.specs.Reading.{Read}
use Rattle.px_proxyproto.proofs.LinkReads.{went_on}
use Rattle.px_proxyproto.proofs.greeter.Greeter.read_on.Goals as goal
use Rattle.px_proxyproto.proofs.greeter.Greeter.read_on.Goals.{in-More, in-Got, in-Bad}

pub returns-clause-goes : goal.returns-clause-goes
returns-clause-goes g c = λ first so_far.
    let old = g.L.Link.seen c.args.link.now in
    let new = g.L.Link.seen c.read_piece.new.link in
    let w : GreetsSoFar c.self.inside.reader first old = subst (λ (r : Read). GreetsSoFar r first old) (sym c.self.view_is) so_far in
    let Goes : Option Greeting → Type 0 = λ told. WentOn c.read_piece.new.reader first new told in
    elim c.match-read_piece.branch [
      | in-More m ↦ subst Goes (sym m.result-is) (went_on states.More first old new c.self.inside.reader c.read_piece.new.reader w (m.in-More.ensures.reads w.0 w.3))
      | in-Got m ↦ subst Goes (sym m.result-is) (went_on (states.Got m.in-Got.pair) first old new c.self.inside.reader c.read_piece.new.reader w (m.in-Got.ensures.reads w.0 w.3))
      | in-Bad m ↦ subst Goes (sym m.result-is) (went_on states.Bad first old new c.self.inside.reader c.read_piece.new.reader w (m.in-Bad.ensures.reads w.0 w.3))
    ]
