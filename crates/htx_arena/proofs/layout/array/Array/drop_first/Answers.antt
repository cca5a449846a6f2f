use Rattle.std.proofs.Common.{ap, arith}
use Rattle.htx_model.specs.Blocks.{load}
use Rattle.htx_arena.proofs.LayoutLemmas.TopLemmas.{top_dropped}
use Rattle.htx_arena.proofs.LayoutLemmas.KnownLemmas.{unknown}
use Rattle.htx_arena.proofs.LayoutLemmas.WholeLemmas.{first, numbers}
use Rattle.htx_arena.proofs.layout.array.Array.drop_first.Goals as goal

pub weigh-gone-requires : goal.weigh-gone-requires
weigh-gone-requires c =
    let q = first c.self.inside c.args.self.now c.args.n c.self.invariant c.self.view_is c.requires in
    let loads = q.loads in
    let fits = c.self.invariant.fits in
    let most = q.laid.most in
    record { sound = q.laid.sound; told = q.laid.told; most = omega arith; small = q.laid.most; within = omega arith }

pub overflow_sub-self-2 : goal.overflow_sub-self-2
overflow_sub-self-2 c =
    let loads = (first c.self.inside c.args.self.now c.args.n c.self.invariant c.self.view_is c.requires).loads in
    let gone = c.weigh-gone.ensures.weight in
    omega arith

pub ends_behind-self-inside-requires : goal.ends_behind-self-inside-requires
ends_behind-self-inside-requires c =
    let a = c.self.inside in
    let laid = c.drop_first.ensures.laid a.ends.front c.self.invariant.laid in
    let count = (numbers a c.args.self.now c.self.invariant c.self.view_is).count in
    let within = c.requires in
    record {
      laid = laid;
      stayed = λ below. top_dropped a.space c.drop_first.new.space a.count c.args.n a.ends.top a.ends.front c.self.invariant.laid.told c.self.invariant.topped (omega arith) c.drop_first.ensures.blocks c.drop_first.ensures.addrs laid (λ j small. let under = c.weigh-gone.ensures.up_to j (omega arith) small in omega arith);
      known = unknown _ _ _;
    }

pub invariant_of-self : goal.invariant_of-self
invariant_of-self c =
    let loads = (first c.self.inside c.args.self.now c.args.n c.self.invariant c.self.view_is c.requires).loads in
    let now = ap load c.drop_first.ensures.blocks in
    let gone = c.weigh-gone.ensures.weight in
    let fits = c.self.invariant.fits in
    let size = c.drop_first.ensures.size in
    let e = c.ends_behind-self-inside.ensures in
    record { laid = e.laid; loaded = omega arith; topped = e.topped; known = e.known; fits = omega arith }
