use Rattle.std.proofs.Common.{[], false, refl}
use Rattle.std.proofs.lemmas.Result.{IfOk-weaker}
use Rattle.session_model.specs.Asking.{Asker}
use Rattle.px_explain.proofs.Walking.{refused_as}
use Rattle.px_explain.proofs.Finding.{head_there, told_head, told_nothing, told_refused}
use Rattle.px_explain.proofs.answering.answer.Goals as goal

pub judge-requires-clause-head : goal.judge-requires-clause-head
judge-requires-clause-head c =
    let asker : Asker = record { method = []; head_asked = c.args.kept.head_asked; is_http_11 = false; keep = false } in
    head_there c.args.config.now asker c.in-Head.head c.find_final.new.to.blocks c.args.stream.now (c.in-Head.ensures.found c.args.config.now asker refl refl)

pub returns-in-Head : goal.returns-in-Head
returns-in-Head c =
    let cfg = c.args.config.now in
    let walk = c.args.walk.now in
    IfOk-weaker c.judge.result _ _
    (λ answer t. λ asker known method.
    told_head cfg asker walk _ answer c.args.stream.now c.find_final.new.to.blocks _ c.begin_answer.ensures c.in-Head.head (c.in-Head.ensures.found cfg asker refl known.head_asked)
    (λ received stands. let told = t asker received known method stands in record { lines = told.lines; status = told.status })) c.judge.ensures

pub returns-in-Nothing : goal.returns-in-Nothing
returns-in-Nothing c =
    let cfg = c.args.config.now in
    let walk = c.args.walk.now in
    IfOk-weaker c.refuse.result _ _
    (λ answer t. λ asker known method.
    let told = refused_as cfg _ _ answer 502 walk.method.bytes asker.method _ _ method c.begin_answer.ensures t in
    told_nothing cfg asker walk _ answer c.args.stream.now c.find_final.new.to.blocks _ c.begin_answer.ensures (c.in-Nothing.ensures.found cfg asker refl known.head_asked)
    (record { lines = told.lines; status = told.status })) c.refuse.ensures

pub returns-in-Refused : goal.returns-in-Refused
returns-in-Refused c =
    let cfg = c.args.config.now in
    let walk = c.args.walk.now in
    IfOk-weaker c.refuse-in-Refused.result _ _
    (λ answer t. λ asker known method.
    let told = refused_as cfg _ _ answer 502 walk.method.bytes asker.method _ _ method c.begin_answer.ensures t in
    told_refused cfg asker walk _ answer c.args.stream.now c.find_final.new.to.blocks _ c.begin_answer.ensures c.in-Refused.field-0 (c.in-Refused.ensures.found cfg asker refl known.head_asked)
    (record { lines = told.lines; status = told.status })) c.refuse-in-Refused.ensures
