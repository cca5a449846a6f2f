use Rattle.std.proofs.Common.{◌≡◌, sym, ap, subst, ◌∙◌}
use Rattle.fcgi_lane.specs.declared.answer.head_reading.HeadRead.{HeadRead}
use Rattle.fcgi_lane.specs.declared.answer.translator.Progress.{Progress}
use Rattle.fcgi_lane.specs.Answer.Cgi.{InHead}
use Rattle.fcgi_lane.specs.Answer.Found.{TellsHead}
use Rattle.fcgi_lane.specs.Answer.Progress.{head_of}
use Rattle.fcgi_lane.proofs.AnswerLemmas.Translating.{at, made, ended}
use Rattle.fcgi_lane.proofs.answer.translator.Translator.begin.Goals as goal

pub returns-in-Whole-clause-stands : goal.returns-in-Whole-clause-stands
returns-in-Whole-clause-stands c =
    let inside = c.self.inside in
    let was : c.args.self.now ≡ at inside.limit (InHead inside.head.bytes) inside.records =
    sym c.self.view_is ∙ ap (λ (p : Progress). at inside.limit (head_of p inside.head.bytes inside.left.bytes) inside.records) c.in-Head.is in
    let tells : TellsHead inside.limit c.as_slice.result.now c.read_head.new.http.bytes HeadRead.Whole =
    subst (λ (r : HeadRead). TellsHead inside.limit c.as_slice.result.now c.read_head.new.http.bytes r) c.in-Whole.is c.read_head.ensures.tells in
    made c.args.self.now inside.limit c.as_slice.result.now inside.head.bytes c.read_head.new.http.bytes inside.records tells.0 was c.as_slice.ensures.bytes tells.1 tells.2

pub returns-then-not-is_going-clause-stands : goal.returns-then-not-is_going-clause-stands
returns-then-not-is_going-clause-stands c =
    let inside = c.self.inside in
    let was : c.args.self.now ≡ at inside.limit (InHead inside.head.bytes) inside.records =
    sym c.self.view_is ∙ ap (λ (p : Progress). at inside.limit (head_of p inside.head.bytes inside.left.bytes) inside.records) c.in-Head.is in
    let tells : TellsHead inside.limit c.as_slice.result.now c.read_head.new.http.bytes HeadRead.More =
    subst (λ (r : HeadRead). TellsHead inside.limit c.as_slice.result.now c.read_head.new.http.bytes r) c.in-More.is c.read_head.ensures.tells in
    ended c.args.self.now inside.limit c.as_slice.result.now inside.head.bytes inside.records was c.as_slice.ensures.bytes tells.0 (sym c.is_going.ensures.going ∙ c.if-not-is_going.true)
