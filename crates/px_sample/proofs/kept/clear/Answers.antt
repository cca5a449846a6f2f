use Rattle.std.proofs.Common.{ap, arith, refl}
use Rattle.px_sample.specs.declared.share.Share.{Share}
use Rattle.px_sample.proofs.HeldLemmas.{bytes_inside, cleared}
use Rattle.px_sample.proofs.kept.clear.Goals as goal

pub close-requires-2 : goal.close-requires-2
close-requires-2 c =
    let own = ap (λ (s : Share). s.bytes) c.of-own.ensures in
    omega (arith, bytes_inside c.args.kept.now c.args.scope c.requires.held, c.start-start.ensures.byte, c.args.kept.now.bytes.ok.0)

pub returns-clause-held : goal.returns-clause-held
returns-clause-held c =
    (cleared c.args.kept.now (record { slots = c.close.new.items; bytes = c.close-2.new.items; shares = c.set.new.self }) c.args.scope _ _ _ _ _ c.requires.held c.start-start.ensures.slot c.start-start.ensures.byte
    (ap (λ (s : Share). s.slots) c.of-own.ensures) (ap (λ (s : Share). s.bytes) c.of-own.ensures) refl refl c.set.ensures c.close.ensures.items c.close-2.ensures.items c.close-2.ensures.len
    (omega (arith, c.close.ensures.capacity)) (omega (arith, c.close-2.ensures.capacity))).0

pub returns-clause-variables : goal.returns-clause-variables
returns-clause-variables c =
    (cleared c.args.kept.now (record { slots = c.close.new.items; bytes = c.close-2.new.items; shares = c.set.new.self }) c.args.scope _ _ _ _ _ c.requires.held c.start-start.ensures.slot c.start-start.ensures.byte
    (ap (λ (s : Share). s.slots) c.of-own.ensures) (ap (λ (s : Share). s.bytes) c.of-own.ensures) refl refl c.set.ensures c.close.ensures.items c.close-2.ensures.items c.close-2.ensures.len
    (omega (arith, c.close.ensures.capacity)) (omega (arith, c.close-2.ensures.capacity))).1
