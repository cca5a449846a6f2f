use Rattle.std.proofs.Common.{◌+◌, ap, ◌∙◌, length}
use Rattle.px_pool.specs.Owners.{count_out}
use Rattle.px_pool.proofs.Taken.{fresh_more, length_more}
use Rattle.px_pool.proofs.pool.nobody.Goals as goal

pub loop-preserved : goal.loop-preserved
loop-preserved c =
    let items = c.in_ok-push.ensures.items in
    record {
      len = ap (λ l. length l) items ∙ length_more c.loop.owners.items ∙ ap (λ n. n + 1) c.loop.invariant.len;
      out = ap (λ l. count_out l) items ∙ fresh_more c.loop.owners.items c.loop.invariant.out;
    }
