use Rattle.std.proofs.Common.{◌-◌, arith, ◌∙◌, append-nil, length-set, refl, false}
use Rattle.std.specs.Fmt.{digits}
use Rattle.px_bytes.proofs.HexLemmas.{place_fewer, written_more, written_last, written_len, copied}
use Rattle.px_bytes.proofs.texts.write_hex.Goals as goal

pub loop-left-init : goal.loop-left-init
loop-left-init c = record { long = refl; some = omega arith; most = omega arith; small = omega arith; written = append-nil (digits 16 false c.args.n) }

pub loop-left-preserved : goal.loop-left-preserved
loop-left-preserved c =
    let l = c.loop-left in
    let i = l.invariant in
    let fewer = place_fewer l.at l.left c.loop-left-test.true i.small in
    record {
      long = length-set l.text (l.at - 1) c.hex_digit.result ∙ i.long;
      some = omega (arith, fewer.0);
      most = omega arith;
      small = fewer.1;
      written = written_more l.text l.at l.left c.args.n c.hex_digit.result i.some (omega arith) c.loop-left-test.true (omega arith) c.hex_digit.ensures i.written;
    }

pub returns-clause-size : goal.returns-clause-size
returns-clause-size c =
    let l = c.loop-left in
    let i = l.invariant in
    written_len l.text l.at c.hex_digit-2.result (digits 16 false c.args.n) i.long
    (written_last l.text l.at l.left c.args.n c.hex_digit-2.result i.some (omega (arith, i.long)) c.loop-left-test.false c.hex_digit-2.ensures i.written)

pub returns-clause-text : goal.returns-clause-text
returns-clause-text c =
    let l = c.loop-left in
    let i = l.invariant in
    let written = written_last l.text l.at l.left c.args.n c.hex_digit-2.result i.some (omega (arith, i.long)) c.loop-left-test.false c.hex_digit-2.ensures i.written in
    copied _ c.copy_from_slice.new.self _ _ (digits 16 false c.args.n) c.copy_from_slice.ensures.after written
    (written_len l.text l.at c.hex_digit-2.result (digits 16 false c.args.n) i.long written)
