use Rattle.std.proofs.Common.{◌≡◌, ◌+◌, ◌∙◌, subst, sym, ap, arith, drop, ℕ, List}
use Rattle.htx_arena.specs.declared.space.space.Desc.{Desc}
use Rattle.htx_arena.specs.Layout.Raw.{addr_in, payload_in}
use Rattle.htx_arena.specs.Layout.Moves.{IsRenewed}
use Rattle.htx_arena.proofs.LayoutLemmas.GrowLemmas.{redescribed}
use Rattle.htx_arena.proofs.LayoutLemmas.ChangeLemmas.{trimmed, trimmed_is}
use Rattle.htx_arena.proofs.layout.change.trim.Goals as goal

pub returns : goal.returns
returns c =
    let raw = c.args.space.now in
    let n = c.args.count in
    let i = c.args.index in
    let cut = c.args.cut in
    let info = c.args.info.0 in
    let addr : c.descriptor.result.addr ≡ addr_in raw i = ap (λ (d : Desc). d.addr) c.descriptor.ensures in
    let now : c.set_descriptor.new.self ≡ trimmed raw i cut info =
    c.set_descriptor.ensures ∙ ap (λ (a : ℕ). redescribed raw i (record { addr = a + cut; info = info })) addr in
    let ends = c.requires.sound.within i c.requires.within in
    let small = c.requires.small in
    let len = c.requires.len in
    subst (λ (s : List ℕ). IsRenewed raw s n i (record { addr = addr_in raw i + cut; info = info }) (drop cut (payload_in raw i))) (sym now)
    (trimmed_is raw n i cut info c.requires.sound c.requires.small c.requires.within c.requires.len (omega arith) (omega arith))
