use Rattle.std.proofs.Common.{arith}
use Rattle.std.proofs.lemmas.List.Sums.{prefix_len-le-length}
use Rattle.px_conv.proofs.TemplateLemmas.{expanded_plain, is_plain}
use Rattle.px_conv.proofs.template.next_piece.Goals as goal

pub split_at-requires : goal.split_at-requires
split_at-requires c = omega (arith, prefix_len-le-length is_plain c.args.template.now, c.plain_len-plain.ensures)

pub returns-then-plain-gt0-clause-joined : goal.returns-then-plain-gt0-clause-joined
returns-then-plain-gt0-clause-joined c =
    rw (c.split_at.ensures.front, c.split_at.ensures.back) (expanded_plain _ _ c.plain_len-plain.result c.args.template.now (omega (arith, c.plain_len-plain.ensures)))
