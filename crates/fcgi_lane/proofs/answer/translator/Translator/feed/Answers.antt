use Rattle.std.proofs.Common.{◌≡◌, ◌≤◌, length, sym, ap, ◌∙◌, arith, subst}
use Rattle.fcgi_lane.specs.declared.answer.translator.Progress.{Progress}
use Rattle.fcgi_lane.specs.Answer.Cgi.{InHead, Behind}
use Rattle.fcgi_lane.specs.Answer.Progress.{head_of}
use Rattle.fcgi_lane.specs.Answer.Stands.{Translating}
use Rattle.fcgi_lane.specs.Answer.Room.{room_in}
use Rattle.fcgi_lane.proofs.AnswerLemmas.Translating.{at}
use Rattle.fcgi_lane.proofs.answer.translator.Translator.feed.Goals as goal

-- src/answer/translator.rt:110:31
pub push_output-requires : goal.push_output-requires
push_output-requires c =
    let inside = c.self.inside in
    let was : c.args.self.now ≡ at inside.limit (InHead inside.head.bytes) inside.records =
    sym c.self.view_is ∙ ap (λ (p : Progress). at inside.limit (head_of p inside.head.bytes inside.left.bytes) inside.records) c.in-Head.is in
    let fits : length c.args.bytes.now ≤ room_in (at inside.limit (InHead inside.head.bytes) inside.records) = subst (λ (t : Translating). length c.args.bytes.now ≤ room_in t) was c.requires in
    omega (arith, fits, c.self.invariant.0)

-- src/answer/translator.rt:111:33
pub push_output-requires-in-Behind : goal.push_output-requires-in-Behind
push_output-requires-in-Behind c =
    let inside = c.self.inside in
    let was : c.args.self.now ≡ at inside.limit (Behind inside.left.bytes) inside.records =
    sym c.self.view_is ∙ ap (λ (p : Progress). at inside.limit (head_of p inside.head.bytes inside.left.bytes) inside.records) c.in-Behind.is in
    let fits : length c.args.bytes.now ≤ room_in (at inside.limit (Behind inside.left.bytes) inside.records) = subst (λ (t : Translating). length c.args.bytes.now ≤ room_in t) was c.requires in
    omega (arith, fits, c.self.invariant.1)
