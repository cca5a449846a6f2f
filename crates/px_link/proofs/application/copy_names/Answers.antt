use Rattle.std.proofs.Common.{◌≡◌, ◌+◌, ◌++◌, ◌∷◌, [], ◌∙◌, sym, ap, take, rules}
use Rattle.std.proofs.lemmas.List.{take_more}
use Rattle.std.proofs.lemmas.Option.{slice_get_within, get_or_from_slice_get}
use Rattle.px_link.proofs.application.copy_names.Goals as goal

pub loop-at-preserved : goal.loop-at-preserved
loop-at-preserved c =
    let all = c.args.names.now in
    let name = c.get.result.now in
    let one = c.in_ok-copy.field-0 in
    let same : one ≡ name = c.in_ok-copy.ensures ∙ c.as_slice.ensures in
    let pushed : c.push.new.self ≡ c.loop-at.copied ++ one ∷ [] = search rules in
    let so_far : c.loop-at.copied ≡ take c.loop-at.at all = c.loop-at.invariant in
    let read : take (c.loop-at.at + 1) all ≡ take c.loop-at.at all ++ name ∷ [] =
    take_more all c.loop-at.at name (slice_get_within all c.loop-at.at name c.get.ensures) ∙ ap (λ y. take c.loop-at.at all ++ y ∷ []) (get_or_from_slice_get all c.loop-at.at name name c.get.ensures) in
    pushed ∙ ap (λ front. front ++ one ∷ []) so_far ∙ ap (λ x. take c.loop-at.at all ++ x ∷ []) same ∙ sym read
