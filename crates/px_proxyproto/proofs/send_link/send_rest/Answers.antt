use Rattle.std.proofs.Common.{◌<◌, length, arith, rules}
use Rattle.std.proofs.lemmas.List.{take_rest}
use Rattle.px_proxyproto.proofs.Sending.{stays_both, header_took}
use Rattle.px_proxyproto.proofs.send_link.send_rest.Goals as goal

pub pieces-preserved : goal.pieces-preserved
pieces-preserved g c =
    let more : c.pieces.sent < length c.args.header.now = omega arith in
    record {
      within = omega (arith, c.in-Ok.ensures.writes.within);
      stays = stays_both _ _ _ _ _ _ c.pieces.invariant.stays (header_took c.args.header.now _ c.pieces.sent c.in-Ok.n _ _ _ _ more (search (rules, take_rest)) c.in-Ok.ensures.writes);
    }
