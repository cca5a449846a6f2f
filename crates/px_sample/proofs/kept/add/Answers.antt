use Rattle.std.proofs.Common.{◌+◌, ap, arith, length}
use Rattle.px_sample.specs.declared.share.Share.{Share}
use Rattle.px_sample.proofs.HeldLemmas.{bytes_inside, bytes_small, ends_at}
use Rattle.px_sample.proofs.SetLemmas.{few_slots, few_entries, room_bytes, added}
use Rattle.px_sample.proofs.kept.add.Goals as goal

pub overflow_add-end-2 : goal.overflow_add-end-2
overflow_add-end-2 c =
    let own = ap (λ (s : Share). s.bytes) c.of-own.ensures in
    omega (arith, bytes_inside c.args.kept.now c.args.scope c.requires.held, bytes_small c.args.kept.now c.requires.held, c.start-start.ensures.byte)

pub put_in-requires-clause-starts : goal.put_in-requires-clause-starts
put_in-requires-clause-starts c = rw (c.start-start.ensures.slot, c.start-start.ensures.byte, c.of-own.ensures) (ends_at c.args.kept.now c.args.scope c.requires.held)

pub put_in-requires-clause-few : goal.put_in-requires-clause-few
put_in-requires-clause-few c = few_slots c.args.kept.now c.args.scope c.args.name.now c.args.value.now c.requires.held c.requires.short c.requires.absent

pub put_in-requires-clause-room : goal.put_in-requires-clause-room
put_in-requires-clause-room c =
    let room = room_bytes c.args.kept.now c.args.scope (length c.args.name.now + length c.args.value.now) c.requires.held (omega (arith, c.requires.short)) in
    omega (arith, c.args.kept.now.bytes.ok.0)

pub overflow_add-more : goal.overflow_add-more
overflow_add-more c =
    let own = ap (λ (s : Share). s.slots) c.of-own.ensures in
    omega (arith, few_entries _ _ (c.requires.held.each c.args.scope))

pub returns-clause-held : goal.returns-clause-held
returns-clause-held c =
    let slots = ap (λ (s : Share). s.slots) c.of-own.ensures in
    let bytes = ap (λ (s : Share). s.bytes) c.of-own.ensures in
    (added c.args.kept.now (record { slots = c.put_in.new.slots; bytes = c.put_in.new.bytes; shares = c.set.new.self }) c.args.scope _ _ c.args.name.now c.args.value.now c.args.form c.requires.held
    c.requires.shaped c.requires.absent c.requires.short (omega (arith, c.start-start.ensures.slot)) c.set.ensures (omega arith) (omega (arith, c.requires.short)) c.put_in.ensures.entries c.put_in.ensures.gapless
    c.put_in.ensures.slot_room c.put_in.ensures.byte_room).0

pub returns-clause-variables : goal.returns-clause-variables
returns-clause-variables c =
    let slots = ap (λ (s : Share). s.slots) c.of-own.ensures in
    let bytes = ap (λ (s : Share). s.bytes) c.of-own.ensures in
    (added c.args.kept.now (record { slots = c.put_in.new.slots; bytes = c.put_in.new.bytes; shares = c.set.new.self }) c.args.scope _ _ c.args.name.now c.args.value.now c.args.form c.requires.held
    c.requires.shaped c.requires.absent c.requires.short (omega (arith, c.start-start.ensures.slot)) c.set.ensures (omega arith) (omega (arith, c.requires.short)) c.put_in.ensures.entries c.put_in.ensures.gapless
    c.put_in.ensures.slot_room c.put_in.ensures.byte_room).1
