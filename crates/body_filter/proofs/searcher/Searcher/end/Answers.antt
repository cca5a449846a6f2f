use Rattle.std.proofs.Common.{◌<◌, ◌∙◌, ap, sym, take, length, subst}
use Rattle.body_filter.specs.declared.filter_spec.FedState.TheVariants.{Over}
use Rattle.body_filter.specs.Filter.{behind, ended}
use Rattle.body_filter.specs.Machines.{SearchAt}
use Rattle.body_filter.proofs.Machines.{ends}
use Rattle.body_filter.proofs.searcher.Searcher.end.Goals as goal

pub returns-clause-meaning : goal.returns-clause-meaning
returns-clause-meaning c = λ whole rest.
    let fits : c.args.self.now.kept < length c.args.self.now.needle = subst (λ (s : SearchAt). s.kept < length s.needle) c.self.view_is c.self.invariant.fits in
    ends c.args.self.now c.requires.going c.requires.empty fits
    ∙ ap (λ s. behind (take s.kept s.needle) (ended Over)) (sym c.self.view_is)
    ∙ ap (λ xs. behind (take c.self.inside.kept xs) (ended Over)) (sym c.as_slice.ensures.value)
    ∙ ap (λ xs. behind xs (ended Over)) (sym c.put.ensures.items)
