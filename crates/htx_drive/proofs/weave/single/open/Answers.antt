use Rattle.std.proofs.Common.{sym, None}
use Rattle.px_link.specs.Net.{address_of}
use Rattle.htx_drive.specs.Underway.{LeftSo}
use Rattle.htx_drive.specs.declared.SessionFault.TheVariants as faults
use Rattle.htx_drive.proofs.WeaveLemmas.Moving.{at_server}
use Rattle.htx_drive.proofs.WeaveLemmas.Single.{as_memory}
use Rattle.htx_drive.proofs.weave.single.open.Goals as goal

pub returns-in-Ok-clause-goes : goal.returns-in-Ok-clause-goes
returns-in-Ok-clause-goes g c = λ cfg all ahead count first first_net r.
    let s = at_server _ g.L.Link.seen g.L.Link.wrote first _ c.args.conn.now.server None (address_of c.args.to.now) _ _ count c.requires.none r in
    at_server _ g.L.Link.seen g.L.Link.wrote first _ _ _ (address_of c.args.to.now) _ _ _ (sym c.put.ensures) (c.in-Ok.ensures.goes cfg all ahead count first _ first_net s.past s.under s.more)

pub returns-in-Err-OutOfMemory-clause-goes : goal.returns-in-Err-OutOfMemory-clause-goes
returns-in-Err-OutOfMemory-clause-goes g c = λ cfg all ahead count first first_net r.
    let s = at_server _ g.L.Link.seen g.L.Link.wrote first _ c.args.conn.now.server None (address_of c.args.to.now) _ _ count c.requires.none r in (
      ahead,
      as_memory (λ failed. LeftSo (g.C.Machine.meaning cfg) (g.C.Machine.stands cfg) g.C.Machine.seen all ahead count c.open_server.new.core failed) g.L.Link.seen g.L.Link.wrote first _ (address_of c.args.to.now) _ _ count c.in-Err-OutOfMemory.field-0 faults.OutOfMemory c.in-Err-OutOfMemory.field-0-is
          (c.in-Err-OutOfMemory.ensures.goes cfg all ahead count first _ first_net s.past s.under s.more),
    )
