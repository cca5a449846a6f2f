use Rattle.std.proofs.Common.{◌∙◌, ap, arith}
use Rattle.htx_arena.specs.Layout.Contents.{Contents}
use Rattle.htx_arena.specs.Layout.Place.{settled}
use Rattle.htx_arena.proofs.LayoutLemmas.WholeLemmas.{first}
use Rattle.htx_arena.proofs.LayoutLemmas.KnownLemmas.{known_is}
use Rattle.htx_arena.proofs.layout.array.Array.truncate.Goals as goal

pub overflow_sub-self : goal.overflow_sub-self
overflow_sub-self c =
    let loads = (first c.self.inside c.args.self.now c.args.at c.self.invariant c.self.view_is c.requires).loads in
    let gone = c.weight_from.ensures in
    omega arith

pub ends_of-self-inside-requires : goal.ends_of-self-inside-requires
ends_of-self-inside-requires c = record { laid = (first c.self.inside c.args.self.now c.args.at c.self.invariant c.self.view_is c.requires).laid }

pub invariant_of-self : goal.invariant_of-self
invariant_of-self c =
    let q = first c.self.inside c.args.self.now c.args.at c.self.invariant c.self.view_is c.requires in
    let loads = q.loads in
    let gone = c.weight_from.ensures in
    let fits = c.self.invariant.fits in
    let e = c.ends_of-self-inside.ensures in
    record { laid = e.laid; loaded = omega arith; topped = e.topped; known = known_is _ _ _ _ e.low; fits = omega arith }

pub returns : goal.returns
returns c =
    let q = first c.self.inside c.args.self.now c.args.at c.self.invariant c.self.view_is c.requires in
    let s = c.settle.ensures in
    record {
      blocks = s.blocks ∙ q.blocks;
      size = s.size ∙ ap (λ (x : Contents). x.size) c.self.view_is;
      addrs = s.addrs ∙ q.addrs;
      front = s.front ∙ (λ j. settled ((c.ends_of-self-inside.ensures.front ∙ ap (λ (x : Contents). x.front) c.self.view_is) j) (q.addrs j));
    }
