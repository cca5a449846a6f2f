use Rattle.std.proofs.Common.{◌∙◌, sym, ap, arith}
use Rattle.std.proofs.lemmas.Bool.{leb-false}
use Rattle.px_sample.specs.declared.share.Share.{Share}
use Rattle.px_sample.specs.Slot.{value_of}
use Rattle.px_sample.specs.Held.{variables_of}
use Rattle.px_sample.proofs.SetLemmas.{absent_behind, set_fits, set_passes}
use Rattle.px_sample.proofs.kept.set.Goals as goal

pub add-requires-clause-absent : goal.add-requires-clause-absent
add-requires-clause-absent c = absent_behind (variables_of c.args.kept.now) (variables_of c.clear_name.new.kept) c.args.scope c.args.name.now c.clear_name.ensures.variables

pub returns-then-is_room-clause-variables : goal.returns-then-is_room-clause-variables
returns-then-is_room-clause-variables c =
    let own = c.add.ensures.held.each c.args.scope in
    set_fits (variables_of c.args.kept.now) (variables_of c.clear_name.new.kept) (variables_of c.add.new.kept) c.args.scope c.args.name.now (value_of c.args.form c.args.value.now)
    c.clear_name.ensures.variables c.add.ensures.variables (omega (arith, own.counts, own.small))

pub returns-else-is_room-clause-variables : goal.returns-else-is_room-clause-variables
returns-else-is_room-clause-variables c =
    let bytes = ap (λ (s : Share). s.bytes) c.of.ensures in
    let large = leb-false _ 4096 (sym c.is_room.ensures ∙ c.if-is_room.false) in
    set_passes c.args.kept.now c.args.scope c.args.name.now c.args.value.now c.find_in-found.result c.args.form c.requires.held c.find_in-found.ensures.found c.requires.shaped
    (omega (arith, large, c.freed.ensures))
