use Rattle.std.proofs.Common.{◌≡◌, ◌<◌, ◌∙◌, inr, ap, sym, subst, length, rules}
use Rattle.htx_arena.specs.Layout.Contents.{Contents}
use Rattle.h1_write.specs.Spelled.{IsEven}
use Rattle.lane.specs.Direction.Carried.{EndIsOut}
use Rattle.http_model.specs.declared.Source.{Source}
use Rattle.http_model.specs.declared.Source.TheVariants as source
use Rattle.lane.proofs.DirectionLemmas.StallLemmas.{drained}
use Rattle.lane.proofs.direction.lane.Lane.turn.Goals as goal

pub returns-clause-rests : goal.returns-clause-rests
returns-clause-rests c = λ p s no_more.
    let free : length c.drain.new.self.output.items < c.drain.new.self.output.capacity = c.is_full.ensures.room c.if-is_full.false in
    let d = drained c.drain.new.self c.drain.ensures.rests free in
    let w = c.read_body.ensures.waits p (c.drain.ensures.leads p s) no_more in
    let was : c.drain.new.self.source ≡ source.Going = search rules in
    let going : c.read_body.new.self.source ≡ source.Going = w.0 ∙ was in
    inr (record {
      msg = w.1;
      out = ap (λ (a : Contents). a.blocks) c.read_body.ensures.same.1 ∙ d.out;
      rests = subst IsEven (sym c.read_body.ensures.same.2) d.rests;
      end = subst (λ (x : Source). EndIsOut x c.read_body.new.self.writer) (sym going) tt;
      for = w.2;
    })
