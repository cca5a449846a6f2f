use Rattle.std.proofs.Common.{◌≡◌, ℕ, List, ◌++◌, Option, Some, None, sym, ap, subst, ◌∙◌}
use Rattle.std.specs.List.{fold}
use Rattle.fcgi_model.specs.Application.{Application}
use Rattle.fcgi_lane.specs.declared.request.opening.Opened.{Opened}
use Rattle.fcgi_lane.specs.declared.request.translator.Progress.{Progress}
use Rattle.fcgi_model.specs.Flow.{InHead, next}
use Rattle.fcgi_lane.specs.Request.Stages.{place_of}
use Rattle.fcgi_lane.specs.Request.Stands.{AtHead, AtBody, Stopped, Translating, Stands}
use Rattle.fcgi_lane.specs.Request.Opening.{IsHeadFed, reading_at}
use Rattle.fcgi_lane.proofs.RequestLemmas.Translating.{at, head_fed, head_still, body_fed, stopped_fed}
use Rattle.fcgi_lane.proofs.request.translator.Translator.feed.Goals as goal

pub returns-in-None-clause-fed : goal.returns-in-None-clause-fed
returns-in-None-clause-fed c =
    let inside = c.self.inside in
    let application : Application = inside.application in
    let text : List ℕ = inside.head.items in
    let bytes : List ℕ = c.args.bytes.now in
    let new : List ℕ = c.feed_head.new.head.items in
    let was : c.args.self.now ≡ at application (AtHead text) inside.left.items = sym c.self.view_is ∙ ap (λ (p : Progress). at application (reading_at p text) inside.left.items) c.in-Head.is in
    let fed : IsHeadFed (fold (next application) (InHead text) bytes) new None =
    subst (λ (o : Option Opened). IsHeadFed (fold (next application) (InHead text) bytes) new o) c.in-None.is c.in_ok-feed_head-in-Head.ensures.fed in
    λ given taken s.
    subst (λ (p : Progress). Stands (at application (reading_at p new) inside.left.items) given (taken ++ bytes)) (sym c.in-Head.is)
    (head_still c.args.self.now application text inside.left.items bytes (AtHead new) was fed given taken s)

pub returns-in-Some-Body-clause-fed : goal.returns-in-Some-Body-clause-fed
returns-in-Some-Body-clause-fed c =
    let inside = c.self.inside in
    let application : Application = inside.application in
    let text : List ℕ = inside.head.items in
    let bytes : List ℕ = c.args.bytes.now in
    let new : List ℕ = c.feed_head.new.head.items in
    let some = c.in-Some-Body in
    let was : c.args.self.now ≡ at application (AtHead text) inside.left.items = sym c.self.view_is ∙ ap (λ (p : Progress). at application (reading_at p text) inside.left.items) c.in-Head.is in
    let fed : IsHeadFed (fold (next application) (InHead text) bytes) new (Some (Opened.Body some.stage some.left)) =
    subst (λ (o : Option Opened). IsHeadFed (fold (next application) (InHead text) bytes) new o) (some.is ∙ ap Some some.field-0-is) c.in_ok-feed_head-in-Head.ensures.fed in
    head_fed c.args.self.now application text inside.left.items bytes some.left.items (AtBody (place_of some.stage)) was fed.1

pub returns-in-Some-Refused-clause-fed : goal.returns-in-Some-Refused-clause-fed
returns-in-Some-Refused-clause-fed c =
    let inside = c.self.inside in
    let application : Application = inside.application in
    let text : List ℕ = inside.head.items in
    let bytes : List ℕ = c.args.bytes.now in
    let new : List ℕ = c.feed_head.new.head.items in
    let some = c.in-Some-Refused in
    let was : c.args.self.now ≡ at application (AtHead text) inside.left.items = sym c.self.view_is ∙ ap (λ (p : Progress). at application (reading_at p text) inside.left.items) c.in-Head.is in
    let fed : IsHeadFed (fold (next application) (InHead text) bytes) new (Some (Opened.Refused some.why)) =
    subst (λ (o : Option Opened). IsHeadFed (fold (next application) (InHead text) bytes) new o) (some.is ∙ ap Some some.field-0-is) c.in_ok-feed_head-in-Head.ensures.fed in
    head_still c.args.self.now application text inside.left.items bytes (Stopped some.why) was fed

pub returns-in_ok-extend_from_slice-in-Body-clause-fed : goal.returns-in_ok-extend_from_slice-in-Body-clause-fed
returns-in_ok-extend_from_slice-in-Body-clause-fed c =
    let inside = c.self.inside in
    let application : Application = inside.application in
    let left : List ℕ = inside.left.items in
    let bytes : List ℕ = c.args.bytes.now in
    let next_one = c.in_ok-stage-in-Body in
    let was : c.args.self.now ≡ at application (AtBody (place_of c.in-Body.stage)) left = sym c.self.view_is ∙ ap (λ (p : Progress). at application (reading_at p inside.head.items) left) c.in-Body.is in
    let all : c.extend_from_slice.new.self.items ≡ left ++ next_one.made.items =
    c.in_ok-extend_from_slice-in-Body.ensures.items ∙ ap (λ (t : List ℕ). left ++ t) c.deref.ensures.value in
    body_fed c.args.self.now application left bytes next_one.made.items c.extend_from_slice.new.self.items (place_of c.in-Body.stage) (place_of next_one.stage) was next_one.ensures.continues all

pub returns-in-Stopped-clause-fed : goal.returns-in-Stopped-clause-fed
returns-in-Stopped-clause-fed c =
    let inside = c.self.inside in
    let application : Application = inside.application in
    let left : List ℕ = inside.left.items in
    let bytes : List ℕ = c.args.bytes.now in
    let why = c.in-Stopped.field-0 in
    let was : c.args.self.now ≡ at application (Stopped why) left = sym c.self.view_is ∙ ap (λ (p : Progress). at application (reading_at p inside.head.items) left) c.in-Stopped.is in
    λ given taken s. subst (λ (t : Translating). Stands t given (taken ++ bytes)) (sym was) (stopped_fed c.args.self.now application left bytes why was given taken s)
