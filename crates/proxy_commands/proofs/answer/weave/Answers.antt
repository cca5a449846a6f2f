use Rattle.std.proofs.Common.{inl, inr}
use Rattle.rec_format.specs.Read.{meaning_of}
use Rattle.proxy_commands.specs.Files.{Builder, told_by}
use Rattle.proxy_commands.specs.Stops.{Input, given}
use Rattle.proxy_commands.proofs.Causes.{answers_err}
use Rattle.proxy_commands.proofs.answer.weave.Goals as goal

pub returns-in_err-said : goal.returns-in_err-said
returns-in_err-said g c =
    let builder : Builder = told_by (g.P.Patterns.refusals c.args.pats.now) (g.P.Patterns.refusals c.two_files.new.pats) (g.P.Patterns.last_refused c.two_files.new.pats) in
    λ words is.
    let input : Input = given words (g.F.Files.files c.args.files.now) builder (g.F.Files.last_failed c.two_files.new.files) (g.F.Files.faults c.args.files.now) (g.F.Files.faults c.two_files.new.files) in
    answers_err input c.from_residual.result c.in_err-said.field-0.0 c.from_residual.ensures.1 (c.in_err-said.ensures.stop words (c.args.cores, is))

pub returns : goal.returns
returns g c = λ words is. (
  inr (inr (inr (inr (inl (c.args.cfg_name.now, c.args.rec_name.now, c.args.cores, is, (c.in_ok-said.said.config, meaning_of c.in_ok-said.said.record, c.in_ok-said.ensures.say, c.in_ok-said.ensures.taken, record { woven = c.in_ok-weave_report.ensures.woven; at_once = c.in_ok-weave_report.ensures.at_once })))))),
  c.in_ok-said.ensures.built,
)
