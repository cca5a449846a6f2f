use Rattle.std.proofs.Common.{arith}
use Rattle.px_sample.proofs.HeldLemmas.{bytes_inside, own_within, freed_within}
use Rattle.px_sample.proofs.kept.find_in.Goals as goal

pub rest_of-requires : goal.rest_of-requires
rest_of-requires c =
    omega (arith, bytes_inside c.args.kept.now c.args.scope c.requires, c.start-start.ensures.byte, c.deref-2.ensures.len, c.args.kept.now.bytes.ok.0)

pub find-requires : goal.find-requires
find-requires c =
    rw (c.part_of-slots.ensures.part, c.rest_of.ensures, c.deref.ensures.value, c.deref-2.ensures.value, c.start-start.ensures.slot, c.start-start.ensures.byte, c.of-own.ensures)
    (own_within c.args.kept.now c.args.scope c.requires)

pub returns-clause-freed : goal.returns-clause-freed
returns-clause-freed c =
    freed_within c.args.kept.now c.args.scope c.args.name.now c.find.result c.requires
    (rw (c.part_of-slots.ensures.part, c.rest_of.ensures, c.deref.ensures.value, c.deref-2.ensures.value, c.start-start.ensures.slot, c.start-start.ensures.byte, c.of-own.ensures) at c.find.ensures.found)
