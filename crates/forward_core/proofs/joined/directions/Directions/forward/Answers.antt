use Rattle.std.proofs.Common.{Bool, refl, sym, ◌∙◌, subst}
use Rattle.std.proofs.lemmas.Result.{IfOk-weaker}
use Rattle.http_rules.specs.declared.verdict.Verdict.TheVariants as verdicts
use Rattle.session_core.specs.declared.sides.Asked.TheVariants as asks
use Rattle.forward_core.specs.Joined.Joined.{settings_of}
use Rattle.forward_core.specs.declared.joined.directions.Directions.{Directions}
use Rattle.forward_core.proofs.JoinedLemmas.Finished.{Finishes, finishes_for, head_finished, sends_so}
use Rattle.forward_core.proofs.JoinedLemmas.Judged.{as_asked, limit_of, framing_sent, too_long, unfit, goes_to_server}
use Rattle.forward_core.proofs.joined.directions.Directions.forward.Goals as goal

pub refuse_asked-requires : goal.refuse_asked-requires
refuse_asked-requires c = c.requires.read.still

pub returns-then-declares_too_much-clause-asks : goal.returns-then-declares_too_much-clause-asks
returns-then-declares_too_much-clause-asks c =
    let d = c.args.self.now in
    let new = c.refuse_asked.new.self in
    let kept = c.args.kept in
    let long = limit_of d (record c.config.result.now { peer = (settings_of d).peer }) c.config.ensures ∙ sym c.declares_too_much.ensures ∙ c.if-declares_too_much.true in
    IfOk-weaker c.refuse_asked.result _ _
    (λ asked h. as_asked d new kept verdicts.Pass verdicts.Pass asked asks.Refuse refl h.0 (too_long d new kept c.body_stays.ensures c.requires.read long h.1))
    c.refuse_asked.ensures.refuses

pub finish_head-requires-clause-idle : goal.finish_head-requires-clause-idle
finish_head-requires-clause-idle c = c.requires.read.still.idle

pub finish_head-requires-clause-has : goal.finish_head-requires-clause-has
finish_head-requires-clause-has c = c.requires.read.has

-- ---- it fits

pub send-requires-clause-sound : goal.send-requires-clause-sound
send-requires-clause-sound c = c.finish_head.ensures.edits.sound c.requires.read.still.sound.request

pub send-requires-clause-idle : goal.send-requires-clause-idle
send-requires-clause-idle c = c.finish_head.ensures.edits.place ∙ c.requires.read.still.idle

pub send-requires-clause-has : goal.send-requires-clause-has
send-requires-clause-has c = c.finish_head.ensures.edits.has

pub send-requires-clause-head : goal.send-requires-clause-head
send-requires-clause-head c =
    let d = c.args.self.now in
    let r = c.finish_head.new.request in
    let framing = c.sent_framing-framing.result in
    let f = finishes_for d r framing c.finish_head.result c.requires.read c.finish_head.ensures in
    head_finished d (record d { request = r }) framing c.requires.head (subst (λ (b : Bool). Finishes d (record d { request = r }) framing b) c.if-finish_head.true f)

pub begin-requires-clause-idle : goal.begin-requires-clause-idle
begin-requires-clause-idle c = c.requires.read.still.silent

pub returns-then-finish_head-clause-asks : goal.returns-then-finish_head-clause-asks
returns-then-finish_head-clause-asks c =
    let d = c.args.self.now in
    let r = c.finish_head.new.request in
    let mid : Directions = record d { request = r } in
    let framing = c.sent_framing-framing.result in
    let kept = c.args.kept in
    let f = finishes_for d r framing c.finish_head.result c.requires.read c.finish_head.ensures in
    let short = limit_of d (record c.config.result.now { peer = (settings_of d).peer }) c.config.ensures ∙ sym c.declares_too_much.ensures ∙ c.if-declares_too_much.false in
    let b = c.begin.ensures in
    let s = c.send.ensures in
    goes_to_server d mid (record mid { answer = c.begin.new.self; request = c.send.new.self }) kept framing c.body_stays.ensures short
    (framing_sent d (record c.config.result.now { peer = (settings_of d).peer }) framing c.config.ensures c.sent_framing-framing.ensures)
    (subst (λ (x : Bool). Finishes d mid framing x) c.if-finish_head.true f)
    (sends_so mid c.begin.new.self c.send.new.self c.asker_of.result framing kept c.requests.ensures f.read c.asker_of.ensures
    (record { leads = b.leads; seen = b.seen; place = b.place; sound = b.sound; size = b.size; window_size = b.window_size })
    (record { sound = s.sound; leads = s.leads; place = s.place; is_open = s.open; window = s.window; list = s.list; source = s.source; sent = s.sent; dropped = s.dropped; awaits = s.waits; limits = s.limits; window_size = s.window_size }))

-- ---- it doesn't

pub refuse_asked-requires-else-finish_head : goal.refuse_asked-requires-else-finish_head
refuse_asked-requires-else-finish_head c =
    (finishes_for c.args.self.now c.finish_head.new.request c.sent_framing-framing.result c.finish_head.result c.requires.read c.finish_head.ensures).read.still

pub returns-else-finish_head-clause-asks : goal.returns-else-finish_head-clause-asks
returns-else-finish_head-clause-asks c =
    let d = c.args.self.now in
    let r = c.finish_head.new.request in
    let mid : Directions = record d { request = r } in
    let new = c.refuse_asked-else-finish_head.new.self in
    let kept = c.args.kept in
    let framing = c.sent_framing-framing.result in
    let short = limit_of d (record c.config.result.now { peer = (settings_of d).peer }) c.config.ensures ∙ sym c.declares_too_much.ensures ∙ c.if-declares_too_much.false in
    let f = subst (λ (b : Bool). Finishes d mid framing b) c.if-finish_head.false (finishes_for d r framing c.finish_head.result c.requires.read c.finish_head.ensures) in
    IfOk-weaker c.refuse_asked-else-finish_head.result _ _
    (λ asked h. as_asked d new kept verdicts.Pass verdicts.Pass asked asks.Refuse refl h.0
    (unfit d mid new kept framing c.body_stays.ensures c.requires.read short (framing_sent d (record c.config.result.now { peer = (settings_of d).peer }) framing c.config.ensures c.sent_framing-framing.ensures) f h.1))
    c.refuse_asked-else-finish_head.ensures.refuses
