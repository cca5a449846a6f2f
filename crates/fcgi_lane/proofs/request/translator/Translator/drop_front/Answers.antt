use Rattle.std.proofs.Common.{◌≡◌, sym}
use Rattle.fcgi_lane.specs.Request.Opening.{reading_at}
use Rattle.fcgi_lane.proofs.RequestLemmas.Translating.{at, front_given}
use Rattle.fcgi_lane.proofs.request.translator.Translator.drop_front.Goals as goal

pub returns-clause-given : goal.returns-clause-given
returns-clause-given c =
    let inside = c.self.inside in
    let was : c.args.self.now ≡ at inside.application (reading_at inside.progress inside.head.items) inside.left.items = sym c.self.view_is in
    front_given c.args.self.now inside.application inside.left.items c.drop_front.new.text.items (reading_at inside.progress inside.head.items) c.args.count was c.drop_front.ensures.items
