use Rattle.std.proofs.Common.{ap, ◌∙◌}
use Rattle.htx_arena.specs.Layout.Contents.{Contents}
use Rattle.forward_core.proofs.JoinedLemmas.Finished.{array_sized}
use Rattle.forward_core.proofs.JoinedLemmas.Judged.{rules_ran_on, method_room}
use Rattle.forward_core.proofs.joined.directions.Directions.run_rules.Goals as goal

pub on_request-requires-clause-ready : goal.on_request-requires-clause-ready
on_request-requires-clause-ready c = c.requires.read.still.sound.rules

pub on_request-requires-clause-size : goal.on_request-requires-clause-size
on_request-requires-clause-size c =
    ap (λ (m : Contents). m.size) c.head.ensures.value ∙ array_sized (record { size = c.edited.ensures.size; edits = c.edited.ensures.edits }) c.args.self.now c.requires.read

pub on_request-requires-clause-head : goal.on_request-requires-clause-head
on_request-requires-clause-head c = (c.requires.head.0, ap (λ (m : Contents). m.blocks) c.head.ensures.value ∙ c.requires.head.1)

pub keep_method-requires : goal.keep_method-requires
keep_method-requires c =
    method_room (record { size = c.edited.ensures.size; edits = c.edited.ensures.edits }) c.args.self.now c.head.result.now c.on_request.new.msg c.head-2.result.now c.requires.read c.head.ensures.value
    c.on_request.ensures.size c.head-2.ensures.value

pub returns-clause-ran : goal.returns-clause-ran
returns-clause-ran c =
    let e = c.on_request.ensures in
    rules_ran_on (record { size = c.edited.ensures.size; edits = c.edited.ensures.edits }) c.args.self.now c.head.result.now c.on_request.new.msg c.head-2.result.now c.on_request.new.self c.keep_method.new.method c.in_ok-verdict.verdict
    c.body_stays.ensures c.replies_are_plain.ensures.trailers c.requires.read c.requires.head c.head.ensures.value e.size c.head-2.ensures.value e.ready e.config c.keep_method.ensures.cap c.keep_method.ensures.kept
    c.in_ok-verdict.ensures.runs
