use Rattle.std.proofs.Common.{◌+◌, ◌∙◌, ap, sym, arith}
use Rattle.px_sample.specs.Sample.{within}
use Rattle.px_sample.proofs.HeldLemmas.{bytes_inside, bytes_small, found_some, found_there, value_none, value_found}
use Rattle.px_sample.proofs.kept.get.Goals as goal

pub returns-in_default-clause-value : goal.returns-in_default-clause-value
returns-in_default-clause-value c =
    sym (ap (within c.args.into.now.cap) (value_none c.args.kept.now c.args.scope c.args.name.now c.find_in.result c.requires c.find_in.ensures.found c.in_default.is))

pub overflow_add-start : goal.overflow_add-start
overflow_add-start c =
    let there = found_there c.args.kept.now c.args.scope c.args.name.now c.in-Some.spot c.requires (found_some c.args.kept.now c.args.scope c.args.name.now c.find_in.result c.in-Some.spot c.in-Some.is c.find_in.ensures.found) in
    omega (arith, there.counts, c.start.ensures.byte, bytes_inside c.args.kept.now c.args.scope c.requires, bytes_small c.args.kept.now c.requires)

pub overflow_add-start-2 : goal.overflow_add-start-2
overflow_add-start-2 c =
    let there = found_there c.args.kept.now c.args.scope c.args.name.now c.in-Some.spot c.requires (found_some c.args.kept.now c.args.scope c.args.name.now c.find_in.result c.in-Some.spot c.in-Some.is c.find_in.ensures.found) in
    omega (arith, there.counts, c.start.ensures.byte, bytes_inside c.args.kept.now c.args.scope c.requires, bytes_small c.args.kept.now c.requires)

pub part_of-value-requires : goal.part_of-value-requires
part_of-value-requires c =
    let there = found_there c.args.kept.now c.args.scope c.args.name.now c.in-Some.spot c.requires (found_some c.args.kept.now c.args.scope c.args.name.now c.find_in.result c.in-Some.spot c.in-Some.is c.find_in.ensures.found) in
    omega (arith, there.counts, c.start.ensures.byte, bytes_inside c.args.kept.now c.args.scope c.requires, c.deref.ensures.len, c.args.kept.now.bytes.ok.0)

pub read-requires : goal.read-requires
read-requires c = rw c.part_of-value.ensures.len c.in-Some.spot.slot.shaped

pub returns-clause-value : goal.returns-clause-value
returns-clause-value c =
    let start = c.start.result.byte + c.in-Some.spot.at + c.in-Some.spot.slot.name in
    let value = value_found c.args.kept.now c.args.scope c.args.name.now c.find_in.result c.in-Some.spot start c.requires c.find_in.ensures.found c.in-Some.is (omega (arith, c.start.ensures.byte)) in
    c.read.ensures.value ∙ rw (c.part_of-value.ensures.part, c.deref.ensures.value) (ap (within c.args.into.now.cap) (sym value))
