use Rattle.fcgi_link.proofs.exchange.Exchange.write.Goals as goal

pub returns-clause-writes : goal.returns-clause-writes
returns-clause-writes g c = c.write.ensures.writes c.args.self.now.answers
