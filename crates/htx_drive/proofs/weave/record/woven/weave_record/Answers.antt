use Rattle.std.proofs.Common.{List, map, sym, subst, ◌∙◌, arith}
use Rattle.std.specs.List.{AllByRecursion, AllZip}
use Rattle.std.proofs.lemmas.Result.{IfOk-weaker}
use Rattle.std.proofs.lemmas.Slice.Zip.{AllZip-long}
use Rattle.px_link.specs.Net.{address_of}
use Rattle.rec_format.specs.Read.{visits}
use Rattle.rec_format.specs.ReportParts.{out_of}
use Rattle.htx_drive.specs.Weave.Memory.{MemConn, IsFreshConn, HasRun, ComesTo}
use Rattle.htx_drive.proofs.RecordLemmas.Zips.{lent_back}
use Rattle.htx_drive.proofs.RecordLemmas.Woven.{fresh_slices, all_run, all_woven, all_at_once}
use Rattle.htx_drive.proofs.weave.record.woven.weave_record.Goals as goal

pub reports_for-requires : goal.reports_for-requires
reports_for-requires g c =
    let r = c.args.recorded.now in
    let cfg = g.K.Cores.settings c.args.cores.now in
    let given = c.deref_mut.result.now in
    let fresh = fresh_slices r.conns.items c.deref.result.now c.in_ok-conns.conns.items given c.deref.ensures.value c.deref_mut.ensures.value c.in_ok-conns.ensures in
    let A : List MemConn → Type 0 = λ l. AllByRecursion HasRun l in
    let made = c.in_ok-conns.conns in
    let same = c.deref-2.ensures.value ∙ lent_back made.len c.weave_over.new.conns given made.items made.ok.0 c.deref_mut.ensures.value c.in_ok-weave_over.ensures.length in
    subst A (sym same)
    (all_run (g.C.Machine.meaning cfg) (g.C.Machine.stands cfg) g.C.Machine.seen r.turns.items (address_of c.args.to.now) (visits r.conns.items) given c.weave_over.new.conns fresh c.in_ok-weave_over.ensures.length c.in_ok-weave_over.ensures.ended)

pub returns-clause-woven : goal.returns-clause-woven
returns-clause-woven g c =
    let r = c.args.recorded.now in
    let cfg = g.K.Cores.settings c.args.cores.now in
    let given = c.deref_mut.result.now in
    let fresh = fresh_slices r.conns.items c.deref.result.now c.in_ok-conns.conns.items given c.deref.ensures.value c.deref_mut.ensures.value c.in_ok-conns.ensures in
    let made = c.in_ok-conns.conns in
    let same = c.deref-2.ensures.value ∙ lent_back made.len c.weave_over.new.conns given made.items made.ok.0 c.deref_mut.ensures.value c.in_ok-weave_over.ensures.length in
    IfOk-weaker c.reports_for.result _ _
    (λ reports comes.
    let outs = map out_of reports.items in
    let Z : List MemConn → Type 0 = λ l. AllZip ComesTo l outs in
    all_woven (g.C.Machine.meaning cfg) (g.C.Machine.stands cfg) g.C.Machine.seen r.turns.items (address_of c.args.to.now) (visits r.conns.items) given c.weave_over.new.conns fresh c.in_ok-weave_over.ensures.length c.in_ok-weave_over.ensures.ended outs (subst Z same comes))
    c.reports_for.ensures

pub returns-clause-at_once : goal.returns-clause-at_once
returns-clause-at_once g c = λ enough.
    let r = c.args.recorded.now in
    let cfg = g.K.Cores.settings c.args.cores.now in
    let given = c.deref_mut.result.now in
    let fresh = fresh_slices r.conns.items c.deref.result.now c.in_ok-conns.conns.items given c.deref.ensures.value c.deref_mut.ensures.value c.in_ok-conns.ensures in
    let made = c.in_ok-conns.conns in
    let same = c.deref-2.ensures.value ∙ lent_back made.len c.weave_over.new.conns given made.items made.ok.0 c.deref_mut.ensures.value c.in_ok-weave_over.ensures.length in
    let as_many = AllZip-long IsFreshConn (visits r.conns.items) given fresh in
    let each = c.in_ok-weave_over.ensures.at_once (omega (arith, enough, as_many)) in
    IfOk-weaker c.reports_for.result _ _
    (λ reports comes.
    let outs = map out_of reports.items in
    let Z : List MemConn → Type 0 = λ l. AllZip ComesTo l outs in
    all_at_once (g.C.Machine.meaning cfg) (g.C.Machine.stands cfg) g.C.Machine.seen r.turns.items (address_of c.args.to.now) (visits r.conns.items) given c.weave_over.new.conns fresh c.in_ok-weave_over.ensures.length c.in_ok-weave_over.ensures.ended each outs (subst Z same comes))
    c.reports_for.ensures
