use Rattle.std.proofs.Common.{◌∙◌, ap, arith}
use Rattle.px_sample.specs.declared.share.Share.{Share}
use Rattle.px_sample.specs.declared.share.Shares.{Shares}
use Rattle.px_sample.specs.Slot.{freed_by}
use Rattle.px_sample.specs.Shares.{share_of}
use Rattle.px_sample.proofs.PartLemmas.{share_of-with}
use Rattle.px_sample.proofs.HeldLemmas.{found_some, found_there, bytes_inside, bytes_small, unset_found, unset_none}
use Rattle.px_sample.proofs.kept.clear_name.Goals as goal

pub returns-in_default-clause-variables : goal.returns-in_default-clause-variables
returns-in_default-clause-variables c = unset_none _ _ _ _ c.requires.held c.requires.found c.in_default.is

pub overflow_add-there-2 : goal.overflow_add-there-2
overflow_add-there-2 c =
    let there = found_there c.args.kept.now c.args.scope c.args.name.now c.in-Some.spot c.requires.held (found_some c.args.kept.now c.args.scope c.args.name.now c.args.found c.in-Some.spot c.in-Some.is c.requires.found) in
    omega (arith, there.counts, c.start-start.ensures.byte, bytes_inside c.args.kept.now c.args.scope c.requires.held, bytes_small c.args.kept.now c.requires.held)

pub take_out-requires-clause-starts : goal.take_out-requires-clause-starts
take_out-requires-clause-starts c =
    let there = found_there c.args.kept.now c.args.scope c.args.name.now c.in-Some.spot c.requires.held (found_some c.args.kept.now c.args.scope c.args.name.now c.args.found c.in-Some.spot c.in-Some.is c.requires.found) in
    rw (c.start-start.ensures.slot, c.start-start.ensures.byte) there.starts

pub overflow_add-rest : goal.overflow_add-rest
overflow_add-rest c =
    let there = found_there c.args.kept.now c.args.scope c.args.name.now c.in-Some.spot c.requires.held (found_some c.args.kept.now c.args.scope c.args.name.now c.args.found c.in-Some.spot c.in-Some.is c.requires.found) in
    omega (arith, there.counts, bytes_inside c.args.kept.now c.args.scope c.requires.held, bytes_small c.args.kept.now c.requires.held)

pub overflow_sub-rest-2 : goal.overflow_sub-rest-2
overflow_sub-rest-2 c =
    let there = found_there c.args.kept.now c.args.scope c.args.name.now c.in-Some.spot c.requires.held (found_some c.args.kept.now c.args.scope c.args.name.now c.args.found c.in-Some.spot c.in-Some.is c.requires.found) in
    omega (arith, there.counts, ap (λ (s : Share). s.bytes) c.of-own.ensures)

pub returns-clause-held : goal.returns-clause-held
returns-clause-held c =
    let at = found_some c.args.kept.now c.args.scope c.args.name.now c.args.found c.in-Some.spot c.in-Some.is c.requires.found in
    let there = found_there c.args.kept.now c.args.scope c.args.name.now c.in-Some.spot c.requires.held at in
    let slots = ap (λ (s : Share). s.slots) c.of-own.ensures in
    let bytes = ap (λ (s : Share). s.bytes) c.of-own.ensures in
    (unset_found c.args.kept.now (record { slots = c.take_out.new.slots; bytes = c.take_out.new.bytes; shares = c.set.new.self }) c.args.scope c.args.name.now c.in-Some.spot _ _ c.requires.held at c.start-start.ensures.slot c.set.ensures c.take_out.ensures.entries (omega (arith, there.index)) (omega (arith, there.counts)) c.take_out.ensures.gapless
    (omega (arith, c.take_out.ensures.slot_room)) (omega (arith, c.take_out.ensures.byte_room))).0

pub returns-clause-variables : goal.returns-clause-variables
returns-clause-variables c =
    let at = found_some c.args.kept.now c.args.scope c.args.name.now c.args.found c.in-Some.spot c.in-Some.is c.requires.found in
    let there = found_there c.args.kept.now c.args.scope c.args.name.now c.in-Some.spot c.requires.held at in
    let slots = ap (λ (s : Share). s.slots) c.of-own.ensures in
    let bytes = ap (λ (s : Share). s.bytes) c.of-own.ensures in
    (unset_found c.args.kept.now (record { slots = c.take_out.new.slots; bytes = c.take_out.new.bytes; shares = c.set.new.self }) c.args.scope c.args.name.now c.in-Some.spot _ _ c.requires.held at c.start-start.ensures.slot c.set.ensures c.take_out.ensures.entries (omega (arith, there.index)) (omega (arith, there.counts)) c.take_out.ensures.gapless
    (omega (arith, c.take_out.ensures.slot_room)) (omega (arith, c.take_out.ensures.byte_room))).1

pub returns-clause-freed : goal.returns-clause-freed
returns-clause-freed c =
    let there = found_there c.args.kept.now c.args.scope c.args.name.now c.in-Some.spot c.requires.held (found_some c.args.kept.now c.args.scope c.args.name.now c.args.found c.in-Some.spot c.in-Some.is c.requires.found) in
    let own = ap (λ (s : Share). s.bytes) c.of-own.ensures in
    let is = ap freed_by c.in-Some.is in
    let set = ap (λ (s : Share). s.bytes) (ap (λ (s : Shares). share_of s c.args.scope) c.set.ensures ∙ share_of-with _ c.args.scope _) in
    omega (arith, there.counts)
