use Rattle.std.proofs.Common.{ℕ, ◌≤◌, sym, subst}
use Rattle.px_explain.proofs.Methods.{method_pushed, method_none}
use Rattle.px_explain.proofs.asking.keep_method.Goals as goal

pub returns-in-Some-clause-kept : goal.returns-in-Some-clause-kept
returns-in-Some-clause-kept c =
    let blocks = c.args.msg.now.blocks in
    let line = c.in-Some.line in
    method_pushed blocks line.a.now line.b.now line.c.now c.room-room.result c.args.msg.now.size c.clear.new.self.cap c.clear.new.self.bytes c.push-fits.new.self.bytes c.push-fits.result c.in-Some.ensures c.room-room.ensures (subst (λ (n : ℕ). c.args.msg.now.size ≤ n) (sym c.clear.ensures.cap) c.requires)
    c.clear.ensures.bytes c.push-fits.ensures.fits c.push-fits.ensures.pushed

pub returns-in-None-clause-kept : goal.returns-in-None-clause-kept
returns-in-None-clause-kept c = method_none c.args.msg.now.blocks c.clear.new.self.bytes c.in-None.ensures c.clear.ensures.bytes
