use Rattle.std.proofs.Common.{◌≡◌, ◌++◌, length, ◌∙◌, sym, ap, arith, length-append, ℕ}
use Rattle.std.proofs.lemmas.Bool.{false≢true, OnTrue_at}
use Rattle.log_format.specs.Format.{part_text, text}
use Rattle.log_format.proofs.Joined.{next_part, part_fits, not_this_part}
use Rattle.log_format.proofs.writing.format.Goals as goal

pub returns-in_err-fits-clause-succeeds : goal.returns-in_err-fits-clause-succeeds
returns-in_err-fits-clause-succeeds g c =
    λ none. absurd (false≢true (c.in_err-fits.ensures.succeeds (not_this_part c.args.fmt.now.parts c.loop-at.at c.get.result.now c.get.ensures none)))

pub returns-then-not-fits-clause-fits : goal.returns-then-not-fits-clause-fits
returns-then-not-fits-clause-fits g c =
    let part = c.get.result.now in
    let given = g.E.Env.samples c.args.env.now in
    let same = ap (λ (n : ℕ). part_text n given part) c.loop-at.invariant.cap in (
      λ never. absurd (false≢true never),
      λ within.
          sym c.if-not-fits.true
          ∙ c.in_ok-fits.ensures.fits.1
          (part_fits (part_text c.args.buf.now.cap given) c.args.fmt.now.parts c.loop-at.at part c.loop-at.into.bytes (part_text c.loop-at.buf.cap given part) (text c.args.buf.now.cap given c.args.fmt.now) c.args.into.now.cap c.loop-at.into.cap
          c.get.ensures same c.loop-at.invariant.joined c.loop-at.invariant.into_cap within),
    )

pub loop-at-preserved : goal.loop-at-preserved
loop-at-preserved g c =
    let part = c.get.result.now in
    let given = g.E.Env.samples c.args.env.now in
    let piece = part_text c.loop-at.buf.cap given part in
    let same = ap (λ (n : ℕ). part_text n given part) c.loop-at.invariant.cap in
    let put : c.put_part.new.into.bytes ≡ c.loop-at.into.bytes ++ piece = OnTrue_at c.if-not-fits.false c.in_ok-fits.ensures.put in
    record {
      into_cap = c.in_ok-fits.ensures.into_cap ∙ c.loop-at.invariant.into_cap;
      cap = c.in_ok-fits.ensures.cap ∙ c.loop-at.invariant.cap;
      spare_cap = c.in_ok-fits.ensures.spare_cap ∙ c.loop-at.invariant.cap;
      within = omega (arith, ap length put, length-append c.loop-at.into.bytes piece, c.in_ok-fits.ensures.fits.0 c.if-not-fits.false, c.in_ok-fits.ensures.into_cap);
      joined =
          next_part (part_text c.args.buf.now.cap given) c.args.fmt.now.parts c.loop-at.at part c.loop-at.into.bytes piece c.put_part.new.into.bytes _
          c.get.ensures same put c.loop-at.invariant.joined;
    }
