use Rattle.proxy_sessions.proofs.serving.serve_clients.Goals as goal

pub returns-clause-good : goal.returns-clause-good
returns-clause-good g c = rw (c.new-2.ensures.opener, c.new-2.ensures.to, c.new-2.ensures.accepts_header, c.new-2.ensures.sends_header, c.new-2.ensures.responder, c.responder_of.ensures, c.new.ensures) at c.serve-served.ensures.good

pub returns-clause-net : goal.returns-clause-net
returns-clause-net g c = rw (c.new-2.ensures.opener, c.new-2.ensures.to, c.new-2.ensures.accepts_header, c.new-2.ensures.sends_header, c.new-2.ensures.responder, c.responder_of.ensures, c.new.ensures) at c.serve-served.ensures.net

pub returns-clause-front : goal.returns-clause-front
returns-clause-front g c = rw (c.new-2.ensures.opener, c.new-2.ensures.to, c.new-2.ensures.accepts_header, c.new-2.ensures.sends_header, c.new-2.ensures.responder, c.responder_of.ensures, c.new.ensures) at c.serve-served.ensures.front
