use Rattle.std.proofs.Common.{refl, ap, ◌∙◌, arith, length}
use Rattle.std.specs.Str.{str_to_ascii_uppercase}
use Rattle.std.proofs.lemmas.Bool.{false≢true}
use Rattle.hex.specs.Hex.{encode_lower, lower_digits}
use Rattle.hex.proofs.HexLemmas.{length-encode_with}
use Rattle.px_conv.specs.Encode.{hex_text}
use Rattle.px_conv.proofs.EncodeLemmas.{length-hex_text, upper_hex, said_ok, refilled}
use Rattle.px_conv.proofs.encode.write_hex.Goals as goal

pub returns-then-not-resize-clause-fits : goal.returns-then-not-resize-clause-fits
returns-then-not-resize-clause-fits c =
    let size = length-hex_text c.args.bytes.now in
    let len = c.in-Some.ensures.1 in
    (λ never. absurd (false≢true never), λ fits. c.if-not-resize.ensures.fits.1 (omega (arith, size, len, fits)))

pub returns-clause-fits : goal.returns-clause-fits
returns-clause-fits c =
    let size = length-hex_text c.args.bytes.now in
    let len = c.in-Some.ensures.1 in
    let room = ap length c.bytes_mut.ensures.value ∙ c.if-not-resize.ensures.len in
    let ok = c.encode_to_slice.ensures.fits.1 (omega (arith, len, room)) in
    let cap = c.if-not-resize.ensures.fits.0 refl in
    (λ _. omega (arith, size, len, cap), λ _. c.is_ok-written.ensures.value ∙ ok)

pub returns-clause-written : goal.returns-clause-written
unfolding hex_text
returns-clause-written c =
    let len = c.in-Some.ensures.1 in
    let room = ap length c.bytes_mut.ensures.value ∙ c.if-not-resize.ensures.len in
    let ok = c.encode_to_slice.ensures.fits.1 (omega (arith, len, room)) in
    let written = said_ok c.encode_to_slice.result ok c.encode_to_slice.ensures.written in
    let long = length-encode_with lower_digits c.args.bytes.now ∙ omega (arith, len, c.if-not-resize.ensures.len) in
    let same = refilled (encode_lower c.args.bytes.now) c.encode_to_slice.new.output c.resize.new.self.bytes (length c.resize.new.self.bytes) long written in
    rw (c.is_ok-written.ensures.value ∙ ok) (c.make_upper.ensures.bytes ∙ ap str_to_ascii_uppercase same ∙ upper_hex c.args.bytes.now)
