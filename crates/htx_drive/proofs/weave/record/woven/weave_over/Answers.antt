use Rattle.std.proofs.Common.{ℕ, List, ◌∙◌, subst, arith}
use Rattle.px_link.specs.Net.{address_of}
use Rattle.px_link.specs.MemLink.{link_of}
use Rattle.px_link.specs.declared.turns.Turn.{Turn}
use Rattle.session_model.specs.Meaning.{Meaning}
use Rattle.rec_format.specs.Read.{visits}
use Rattle.htx_drive.specs.Replay.Seen.{wrote_by}
use Rattle.htx_drive.specs.Weave.Memory.{sees_net}
use Rattle.htx_drive.specs.Weave.Outcome.{AllEndedAtOnce}
use Rattle.htx_drive.proofs.RecordLemmas.Woven.{few_conns, new_conns, within_conns}
use Rattle.htx_drive.proofs.RecordLemmas.Paid.{budget_is, never_spent, only_memory}
use Rattle.htx_drive.proofs.weave.record.woven.weave_over.Goals as goal

pub weave-requires-clause-number : goal.weave-requires-clause-number
weave-requires-clause-number g c =
    few_conns (visits c.args.recorded.now.conns.items) c.args.conns.now c.requires.new c.requires.numbered.few

pub weave-requires-clause-new : goal.weave-requires-clause-new
weave-requires-clause-new g c = new_conns (visits c.args.recorded.now.conns.items) c.args.conns.now c.requires.new

pub weave-requires-clause-within : goal.weave-requires-clause-within
weave-requires-clause-within g c =
    let r = c.args.recorded.now in
    within_conns (visits r.conns.items) c.args.conns.now c.new-turns.result.left.now r.turns.items c.requires.new (c.new-turns.ensures ∙ c.deref-2.ensures.value) c.requires.numbered.turns

pub only_memory-requires : goal.only_memory-requires
only_memory-requires g c =
    let r = c.args.recorded.now in
    let cores = c.args.cores.now in
    let cfg = g.K.Cores.settings cores in
    let M : Meaning = g.C.Machine.meaning cfg in
    let to = address_of c.args.to.now in
    let law = c.each_pays_less.ensures in
    let enough = budget_is c.in-Some.budget r.conns.items c.deref.result.now c.bufsize.result M.limits.bufsize c.deref.ensures.value c.bufsize.ensures c.in-Some.ensures in
    only_memory c.in-Err.fault
    (never_spent M (g.C.Machine.stands cfg) g.C.Machine.seen to (λ turns entry first conn ran count fresh done. law.ended cores turns entry to first conn ran count c.requires.ready fresh done)
    (λ turns entry first conn failed count fresh given. law.given_up cores turns entry to first conn failed count c.requires.ready fresh given) c.new-turns.result.left.now (visits r.conns.items) c.args.conns.now c.weave.new.conns c.in-Some.budget c.in-Err.fault c.requires.new c.in-Err.ensures.length enough
    (c.in-Err.ensures.given_up cfg c.in_ok-pool.ensures.fresh))

pub returns-in-Ok-clause-at_once : goal.returns-in-Ok-clause-at_once
returns-in-Ok-clause-at_once g c = λ enough.
    let cfg = g.K.Cores.settings c.args.cores.now in
    let sets = c.in_ok-pool.ensures.sets in
    let T : List (ℕ × Turn) → Type 0 = λ l. AllEndedAtOnce (g.C.Machine.meaning cfg) (g.C.Machine.stands cfg) g.C.Machine.seen link_of wrote_by sees_net (address_of c.args.to.now) l c.args.conns.now c.weave.new.conns in
    subst T (c.new-turns.ensures ∙ c.deref-2.ensures.value) (c.in-Ok.ensures.at_once cfg c.in_ok-pool.ensures.fresh (omega (arith, enough, sets)))
