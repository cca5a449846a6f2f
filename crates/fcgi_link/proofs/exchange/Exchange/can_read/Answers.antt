use Rattle.fcgi_link.proofs.exchange.Exchange.can_read.Goals as goal

pub returns-clause-seen : goal.returns-clause-seen
returns-clause-seen g c = let asks = c.args.self.now.asks in c.can_read.ensures.seen asks.translating.application asks.faults
