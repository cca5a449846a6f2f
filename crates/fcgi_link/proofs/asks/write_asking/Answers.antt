use Rattle.std.proofs.Common.{length, true, refl, ◌∙◌, arith}
use Rattle.px_link.specs.Link.{Took, WriteFailed}
use Rattle.fcgi_link.specs.Asking.{AsksSeen}
use Rattle.fcgi_link.proofs.Asking.{took, write_failed, by_these}
use Rattle.fcgi_link.proofs.asks.write_asking.Goals as goal

pub returns-in-Ok-send-clause-writes : goal.returns-in-Ok-send-clause-writes
returns-in-Ok-send-clause-writes g c = λ answers old new is now.
    let v = g.L.Link.wrote c.args.inner.now in
    let w = g.L.Link.wrote c.send.new.inner in
    let s = g.L.Link.seen c.args.inner.now in
    let t = g.L.Link.seen c.send.new.inner in
    let piece = c.args.piece.now in
    let o : AsksSeen = record { translating = c.args.translator.now; stopped = c.args.stopped.now; faults = c.args.faults.now } in
    let n : AsksSeen = record { translating = c.send.new.translator; stopped = c.args.stopped.now; faults = c.args.faults.now } in
    by_these o n old new v w s t answers (λ v w s t. Took v w s t piece (length piece)) is now
    (took o n answers c.feed.new.self v w s t piece c.requires.some c.if-stopped.false (c.requires.unfailed c.if-stopped.false) refl c.in-Ok-send.ensures.all (c.send.ensures.application ∙ c.feed.ensures.application)
    (λ given text x. c.in-Ok.ensures.fed given text x) c.send.ensures.sends c.send.ensures.unread)

pub returns-in-Err-Failed-clause-writes : goal.returns-in-Err-Failed-clause-writes
returns-in-Err-Failed-clause-writes g c = λ answers old new is now.
    let v = g.L.Link.wrote c.args.inner.now in
    let w = g.L.Link.wrote c.send.new.inner in
    let s = g.L.Link.seen c.args.inner.now in
    let t = g.L.Link.seen c.send.new.inner in
    let o : AsksSeen = record { translating = c.args.translator.now; stopped = c.args.stopped.now; faults = c.args.faults.now } in
    let n : AsksSeen = record { translating = c.send.new.translator; stopped = true; faults = c.saturating_add.result } in
    by_these o n old new v w s t answers WriteFailed is now
    (write_failed o n answers c.feed.new.self v w s t c.args.piece.now c.if-stopped.false refl (omega (arith, c.requires.unfailed c.if-stopped.false)) c.saturating_add.ensures (c.send.ensures.application ∙ c.feed.ensures.application)
    (λ given text x. c.in-Ok.ensures.fed given text x) c.send.ensures.sends c.send.ensures.unread)
