use Rattle.std.proofs.Common.{refl, sym, ◌∙◌}
use Rattle.std.proofs.lemmas.Bool.{false≢true, eqb-true}
use Rattle.px_conv.proofs.TemplateLemmas.{piece_fits, whole_fits, expanded_nil}
use Rattle.px_conv.proofs.template.expand.Goals as goal

pub returns-then-not-push-clause-fits : goal.returns-then-not-push-clause-fits
returns-then-not-push-clause-fits c =
    (λ never. absurd (false≢true never), λ fits. c.if-not-push.ensures.fits.1 (piece_fits _ _ _ _ _ _ _ _ c.pieces.invariant.whole c.next_piece.ensures.joined c.pieces.invariant.cap fits))

pub returns-clause-fits : goal.returns-clause-fits
returns-clause-fits c =
    let end = eqb-true _ 0 (sym c.is_empty.ensures ∙ c.pieces-test.false) in
    (λ _. whole_fits _ _ _ _ _ _ c.pieces.invariant.whole (expanded_nil _ _ c.pieces.rest.now end) c.pieces.invariant.cap c.pieces.invariant.within, λ _. refl)
