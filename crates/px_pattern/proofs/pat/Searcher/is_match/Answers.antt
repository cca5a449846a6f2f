use Rattle.std.proofs.Common.{◌∙◌, ap, arith, is_some}
use Rattle.regex.specs.Patterns.{find}
use Rattle.px_pattern.specs.Pattern.{Pattern}
use Rattle.px_pattern.specs.Meaning.{pattern_of}
use Rattle.px_pattern.proofs.Alike.{matches_alike}
use Rattle.px_pattern.proofs.pat.Searcher.is_match.Goals as goal

pub returns-clause-found : goal.returns-clause-found
returns-clause-found c =
    c.is_match.ensures.found ∙ matches_alike c.self.invariant c.args.text.now (λ k. omega (arith, c.type_inv.text k))
    ∙ ap (λ (p : Pattern). is_some (find (pattern_of p) c.args.text.now 0)) c.self.view_is
