use Rattle.std.proofs.Common.{arith}
use Rattle.px_proxyproto.specs.declared.state.ProxyState.TheVariants as states
use Rattle.px_proxyproto.proofs.Whole.{told_front, all_read, other_in_front}
use Rattle.px_proxyproto.proofs.front.front_of.Goals as goal

pub returns-then-most-eq0 : goal.returns-then-most-eq0
returns-then-most-eq0 c =
    all_read c.pieces.reader c.args.bytes.now c.pieces.at c.min-most.result c.wants.result c.min-most.ensures c.if-most-eq0.true (c.wants.ensures.lacks _ c.pieces.invariant.has).0 c.pieces.invariant.has

pub pieces-preserved : goal.pieces-preserved
pieces-preserved c =
    record {
      within = omega (arith, c.min-most.ensures, c.pieces.invariant.within);
      has = told_front states.More c.feed.new.self c.args.bytes.now c.piece_at.result.now c.pieces.at c.min-most.result c.piece_at.ensures (c.in-More.ensures.told _ c.pieces.invariant.has);
    }

pub returns-in-Got : goal.returns-in-Got
returns-in-Got c = (
  omega (arith, c.min-most.ensures, c.pieces.invariant.within),
  told_front (states.Got c.in-Got.pair) c.feed.new.self c.args.bytes.now c.piece_at.result.now c.pieces.at c.min-most.result c.piece_at.ensures (c.in-Got.ensures.told _ c.pieces.invariant.has),
)

pub returns-in-Bad : goal.returns-in-Bad
returns-in-Bad c =
    let t = told_front states.Bad c.feed.new.self c.args.bytes.now c.piece_at.result.now c.pieces.at c.min-most.result c.piece_at.ensures (c.in-Bad.ensures.told _ c.pieces.invariant.has) in
    other_in_front c.args.bytes.now _ t.0 t.1
