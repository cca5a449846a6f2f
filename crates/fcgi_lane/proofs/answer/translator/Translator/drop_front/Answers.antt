use Rattle.std.proofs.Common.{◌≡◌, List, ℕ, drop, sym, ap, ◌∙◌}
use Rattle.fcgi_lane.specs.declared.answer.translator.Progress.{Progress}
use Rattle.fcgi_lane.specs.Answer.Cgi.{Behind}
use Rattle.fcgi_lane.specs.Answer.Progress.{head_of}
use Rattle.fcgi_lane.proofs.AnswerLemmas.Translating.{at, dropped}
use Rattle.fcgi_lane.proofs.answer.translator.Translator.drop_front.Goals as goal

pub returns-clause-given : goal.returns-clause-given
returns-clause-given c =
    let inside = c.self.inside in
    let items : List ℕ = inside.left.bytes in
    let new : List ℕ = c.drop_front.new.self.bytes in
    let was : c.args.self.now ≡ at inside.limit (Behind items) inside.records =
    sym c.self.view_is ∙ ap (λ (p : Progress). at inside.limit (head_of p inside.head.bytes items) inside.records) c.in-Behind.is in
    let is : Behind (drop c.args.count items) ≡ head_of inside.progress inside.head.bytes new =
    ap Behind (sym c.drop_front.ensures.bytes) ∙ ap (λ (p : Progress). head_of p inside.head.bytes new) (sym c.in-Behind.is) in
    dropped c.args.self.now inside.limit c.args.count items inside.records (head_of inside.progress inside.head.bytes new) was is
