use Rattle.std.proofs.Common.{◌≡◌, ◌+◌, ◌++◌, ◌∙◌, subst, sym, ap, arith, take, ℕ, List}
use Rattle.htx_arena.specs.declared.space.space.Desc.{Desc}
use Rattle.htx_arena.specs.Space.Windows.{overwritten}
use Rattle.htx_arena.specs.Layout.Raw.{addr_in, payload_in}
use Rattle.htx_arena.specs.Layout.Moves.{IsRenewed}
use Rattle.htx_arena.proofs.LayoutLemmas.GrowLemmas.{redescribed}
use Rattle.htx_arena.proofs.LayoutLemmas.ChangeLemmas.{rewritten, rewritten_is}
use Rattle.htx_arena.proofs.layout.change.rewrite.Goals as goal

pub returns : goal.returns
returns c =
    let raw = c.args.space.now in
    let n = c.args.count in
    let i = c.args.index in
    let keep = c.args.keep in
    let info = c.args.info.0 in
    let piece = c.args.more.now in
    let addr : c.descriptor-addr.result.addr ≡ addr_in raw i = ap (λ (d : Desc). d.addr) c.descriptor-addr.ensures in
    let F : List ℕ → ℕ → List ℕ = λ s a. redescribed s i (record { addr = a; info = info }) in
    let now : c.set_descriptor.new.self ≡ rewritten raw i keep info piece =
    c.set_descriptor.ensures ∙ ap (λ (s : List ℕ). F s c.descriptor-addr.result.addr) c.put.ensures ∙ ap (λ (a : ℕ). F (overwritten raw (a + keep) piece) a) addr in
    let room = c.requires.can.room in
    let most = c.requires.can.most in
    subst (λ (s : List ℕ). IsRenewed raw s n i (record { addr = addr_in raw i; info = info }) (take keep (payload_in raw i) ++ piece)) (sym now)
    (rewritten_is raw n i keep info piece c.requires.can c.requires.part c.requires.len (omega arith) (omega arith))
