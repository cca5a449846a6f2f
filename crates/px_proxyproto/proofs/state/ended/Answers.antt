use Rattle.std.proofs.Common.{◌≡◌, [], ◌∷◌, ◌++◌, sym, ◌∙◌, arith, rules}
use Rattle.std.proofs.lemmas.Bool.Decides.{Decides-eqb, not_from_Decides}
use Rattle.std.proofs.lemmas.Slice.Eq.{slice_eq-Decides}
use Rattle.px_proxyproto.proofs.Lines.{no_header, too_long, not_ended, waits, got}
use Rattle.px_proxyproto.proofs.state.ended.Goals as goal

pub returns-then-line-gt-LINE : goal.returns-then-line-gt-LINE
returns-then-line-gt-LINE c =
    no_header (c.args.line.now ++ c.args.end.now) c.requires.unsigned (too_long c.args.line.now c.args.end.now c.requires.inside c.requires.leaves (omega arith))

pub returns-then-eq : goal.returns-then-eq
returns-then-eq c =
    let text : c.as_slice.result.now ≡ 13 ∷ [] = search rules in
    let is = (slice_eq-Decides Decides-eqb c.args.end.now c.as_slice.result.now _ c.eq.ensures).0 c.if-eq.true in
    waits c.args.line.now c.args.end.now c.requires.unsigned c.requires.inside c.requires.leaves (omega arith) (is ∙ text)

pub returns-then-eq-2 : goal.returns-then-eq-2
returns-then-eq-2 c =
    let text : c.as_slice-2.result.now ≡ 13 ∷ (10 ∷ []) = search rules in
    let is = (slice_eq-Decides Decides-eqb c.args.end.now c.as_slice-2.result.now _ c.eq-2.ensures).0 c.if-eq-2.true in
    got c.args.line.now c.args.end.now c.args.told c.requires.inside (omega arith) c.requires.told (is ∙ text)

pub returns : goal.returns
returns c =
    let one_text : c.as_slice.result.now ≡ 13 ∷ [] = search rules in
    let two_text : c.as_slice-2.result.now ≡ 13 ∷ (10 ∷ []) = search rules in
    let one = not_from_Decides _ (slice_eq-Decides Decides-eqb c.args.end.now c.as_slice.result.now _ c.eq.ensures) c.if-eq.false in
    let two = not_from_Decides _ (slice_eq-Decides Decides-eqb c.args.end.now c.as_slice-2.result.now _ c.eq-2.ensures) c.if-eq-2.false in
    no_header (c.args.line.now ++ c.args.end.now) c.requires.unsigned (not_ended c.args.line.now c.args.end.now c.requires.inside c.requires.leaves (λ e. one (e ∙ sym one_text)) (λ e. two (e ∙ sym two_text)))
