use Rattle.std.proofs.Common.{ℕ, ◌≤◌, sym, subst}
use Rattle.forward_core.proofs.RequestLemmas.Lines.{words_pushed, words_none}
use Rattle.forward_core.proofs.request.line.keep_words.Goals as goal

pub returns-in-Some-clause-kept : goal.returns-in-Some-clause-kept
returns-in-Some-clause-kept c =
    let blocks = c.args.msg.now.blocks in
    let parts = c.in-Some.parts in
    let first = c.push-method.new.self in
    let second = c.push_byte-space.new.self in
    let third = c.push-target.new.self in
    words_pushed blocks parts.a.now parts.b.now parts.c.now c.room-room.result c.args.msg.now.size c.clear.new.self.cap first.cap second.cap c.clear.new.self.bytes first.bytes second.bytes third.bytes
    c.push-method.result c.push_byte-space.result c.push-target.result c.in-Some.ensures c.room-room.ensures (subst (λ (n : ℕ). c.args.msg.now.size ≤ n) (sym c.clear.ensures.cap) c.requires) c.clear.ensures.bytes
    c.push-method.ensures.fits c.push-method.ensures.pushed c.push-method.ensures.cap
    c.push_byte-space.ensures.fits c.push_byte-space.ensures.pushed c.push_byte-space.ensures.cap
    c.push-target.ensures.fits c.push-target.ensures.pushed

pub returns-in-None-clause-kept : goal.returns-in-None-clause-kept
returns-in-None-clause-kept c = words_none c.args.msg.now.blocks c.clear.new.self.bytes c.in-None.ensures c.clear.ensures.bytes
