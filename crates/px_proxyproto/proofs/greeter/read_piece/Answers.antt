use Rattle.px_proxyproto.proofs.LinkReads.{read_failed, read_ended, read_told}
use Rattle.px_proxyproto.proofs.greeter.read_piece.Goals as goal

pub returns-in_default-clause-reads : goal.returns-in_default-clause-reads
returns-in_default-clause-reads g c = λ before has. read_failed before _ _ c.args.reader.now has.may.none_yet c.in_default.ensures.reads

pub returns-then-n-eq0-clause-reads : goal.returns-then-n-eq0-clause-reads
returns-then-n-eq0-clause-reads g c = λ before has. read_ended before _ _ c.args.reader.now _ c.in-Ok.n c.if-n-eq0.true has.may.none_yet c.in-Ok.ensures.reads

pub returns-clause-reads : goal.returns-clause-reads
returns-clause-reads g c = λ before has.
    read_told c.feed.result before _ _ c.feed.new.self _ c.in-Ok.n c.in-Ok.ensures.reads (c.feed.ensures.told before has)
