use Rattle.fcgi_link.proofs.exchange.Exchange.read.Goals as goal

pub returns-clause-reads : goal.returns-clause-reads
returns-clause-reads g c = let asks = c.args.self.now.asks in c.read.ensures.reads asks.translating.application asks.faults
