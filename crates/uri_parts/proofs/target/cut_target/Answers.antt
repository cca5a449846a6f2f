use Rattle.std.proofs.Common.{rules, ◌≡◌, ◌∙◌, ap, true, nat_eq}
use Rattle.std.proofs.lemmas.List.{take_rest}
use Rattle.std.specs.List.{starts_with}
use Rattle.uri_parts.specs.Target.{begins_with_letter, mark, cut_authority}
use Rattle.uri_parts.proofs.Cuts.{cut_at}
use Rattle.uri_parts.proofs.target.cut_target.Goals as goal

pub returns : goal.returns
returns c =
    let letter : begins_with_letter c.args.target.now ≡ true = search rules in
    let is_marked : starts_with nat_eq c.split_at.result.1.now mark ≡ true = search rules in
    c.cut_authority.ensures
    ∙ ap (cut_authority c.split_at.result.0.now) (take_rest c.split_at.result.1.now 3)
    ∙ cut_at c.args.target.now c.scheme_len.result c.split_at.result.0.now c.split_at.result.1.now c.scheme_len.ensures.count c.split_at.ensures.front c.split_at.ensures.back letter is_marked
