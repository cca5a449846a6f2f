use Rattle.std.proofs.Common.{◌≡◌, ◌≤◌, ap, length, arith, refl}
use Rattle.lane.proofs.DirectionLemmas.HeadLemmas.{reads_anew}
use Rattle.lane.proofs.direction.lane.Lane.new.Goals as goal

pub returns-clause-reading : goal.returns-clause-reading
returns-clause-reading c = λ side.
    let none : length c.in_ok-new.field-0.items ≡ 0 = ap length c.in_ok-new.ensures.empty in
    let window : c.in_ok-new-4.field-0.capacity ≡ c.args.window = c.in_ok-new-4.ensures.capacity in
    let some : 64 ≤ c.args.window = c.requires.window in
    reads_anew side _ c.stays_scanned.ensures.none
    (record {
      sized = record {
        least = c.requires.least;
        msg = c.in_ok-new-2.ensures.size;
        out = c.in_ok-new-3.ensures.size;
        input = c.in_ok-new.ensures.capacity;
        output = omega arith;
        sieve = c.in_ok-sieve_of.ensures.size;
        filters = (c.args.filters.now, c.in_ok-sieve_of.ensures.these);
      };
      most = c.requires.most;
      reserve = c.requires.reserve;
      held = omega arith;
    }) c.in_ok-new-3.ensures.empty refl refl refl c.in_ok-new-2.ensures.empty
