use Rattle.std.proofs.Common.{refl, ap, ◌∙◌, arith, length}
use Rattle.std.specs.Result.{is_ok}
use Rattle.std.proofs.lemmas.Bool.{false≢true}
use Rattle.px_conv.specs.Encode.{base64_text}
use Rattle.px_conv.proofs.EncodeLemmas.{length-base64_text, length_told, filled}
use Rattle.px_conv.proofs.encode.write_base64.Goals as goal

pub returns-then-not-resize-clause-fits : goal.returns-then-not-resize-clause-fits
returns-then-not-resize-clause-fits c =
    let size = length-base64_text c.args.bytes.now in
    let len = length_told _ _ c.in-Some.ensures.fits c.in-Some.ensures.too_long in
    (λ never. absurd (false≢true never), λ fits. c.if-not-resize.ensures.fits.1 (omega (arith, size, len)))

pub returns-clause-fits : goal.returns-clause-fits
returns-clause-fits c =
    let size = length-base64_text c.args.bytes.now in
    let len = length_told _ _ c.in-Some.ensures.fits c.in-Some.ensures.too_long in
    let room = ap length c.bytes_mut.ensures.value ∙ c.if-not-resize.ensures.len in
    let ok = c.encode_slice.ensures.fits (omega (arith, len, room)) in
    let cap = c.if-not-resize.ensures.fits.0 refl in
    (λ _. omega (arith, size, len, cap), λ _. c.is_ok.ensures.value ∙ ap is_ok ok)

pub returns-clause-written : goal.returns-clause-written
unfolding base64_text
returns-clause-written c =
    let size = length-base64_text c.args.bytes.now in
    let len = length_told _ _ c.in-Some.ensures.fits c.in-Some.ensures.too_long in
    let room = ap length c.bytes_mut.ensures.value ∙ c.if-not-resize.ensures.len in
    let ok = c.encode_slice.ensures.fits (omega (arith, len, room)) in
    let written = rw ok at c.encode_slice.ensures.written in
    let same = filled (base64_text c.args.bytes.now) c.bytes_mut.result.now c.encode_slice.new.output c.resize.new.self.bytes _ _ size (room ∙ len) (c.if-not-resize.ensures.len ∙ len) written in
    rw (c.is_ok.ensures.value ∙ ap is_ok ok) same
