use Rattle.std.proofs.Common.{◌≡◌, true, false, sym, ap, ◌∙◌}
use Rattle.fcgi_lane.specs.declared.answer.translator.Progress.{Progress}
use Rattle.fcgi_lane.specs.Answer.Cgi.{Behind}
use Rattle.fcgi_lane.specs.Answer.Progress.{head_of}
use Rattle.fcgi_lane.proofs.AnswerLemmas.Translating.{at, left_at_end}
use Rattle.fcgi_lane.proofs.answer.translator.Translator.state.Goals as goal

pub returns-in-Behind-clause-over : goal.returns-in-Behind-clause-over
returns-in-Behind-clause-over c =
    let inside = c.self.inside in
    let was : c.args.self.now ≡ at inside.limit (Behind inside.left.bytes) inside.records =
    sym c.self.view_is ∙ ap (λ (p : Progress). at inside.limit (head_of p inside.head.bytes inside.left.bytes) inside.records) c.in-Behind.is in
    λ is.
    let stands = c.state_behind.ensures.over is in
    left_at_end c.args.self.now inside.limit inside.left.bytes inside.records true was stands.0 stands.1

pub returns-in-Behind-clause-broken : goal.returns-in-Behind-clause-broken
returns-in-Behind-clause-broken c =
    let inside = c.self.inside in
    let was : c.args.self.now ≡ at inside.limit (Behind inside.left.bytes) inside.records =
    sym c.self.view_is ∙ ap (λ (p : Progress). at inside.limit (head_of p inside.head.bytes inside.left.bytes) inside.records) c.in-Behind.is in
    λ is.
    let stands = c.state_behind.ensures.broken is in
    left_at_end c.args.self.now inside.limit inside.left.bytes inside.records false was stands.0 stands.1
