use Rattle.std.proofs.Common.{rules, ◌≡◌, ◌<◌, ◌∙◌, sym, subst, length, false}
use Rattle.std.proofs.lemmas.Bool.{both_ways}
use Rattle.body_filter.specs.Machines.{SearchAt, searcher_meaning}
use Rattle.body_filter.proofs.Machines.{exit_wait, waiting, no_bytes}
use Rattle.body_filter.proofs.searcher.Searcher.feed.Goals as goal
use Rattle.body_filter.proofs.searcher.Searcher.feed.Goals.{else-last-via-then-last+else-is_empty, else-last-via-else-last}

pub returns-then-is_empty-2-clause-feeds : goal.returns-then-is_empty-2-clause-feeds
returns-then-is_empty-2-clause-feeds c =
    let more : c.args.last ≡ false = elim c.else-last.branch [
      | else-last-via-then-last+else-is_empty w ↦ absurd (both_ways w.is_empty.result w.if-is_empty.false (w.is_empty.ensures ∙ sym c.is_empty-2.ensures ∙ c.if-is_empty-2.true))
      | else-last-via-else-last w ↦ w.if-last.false
    ] in
    let fits : c.args.self.now.kept < length c.args.self.now.needle = subst (λ (s : SearchAt). s.kept < length s.needle) c.self.view_is c.self.invariant.fits in
    exit_wait (searcher_meaning c.args.self.now) c.args.piece.now c.args.last c.args.out.now (no_bytes c.args.piece.now (sym c.is_empty-2.ensures ∙ c.if-is_empty-2.true)) more
    (waiting c.args.self.now (search rules) (search rules) (search rules) fits)
