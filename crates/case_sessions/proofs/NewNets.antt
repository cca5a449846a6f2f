-- A net in memory on which no call was made yet.
use Rattle.std.proofs.Common.{◌≡◌, List, [], Some, map, refl, sym, ap, ◌∙◌}
use Rattle.px_link.specs.MemNet.{MemNetSeen, net_of, keeping}
use Rattle.px_run.specs.Course.{IsNewNet}

pub new_net : (net : MemNetSeen) → net.lent ≡ 0 → net.dialled ≡ [] → net.kept ≡ [] → IsNewNet (net_of net)
new_net net l d k =
    record {
      none_lent = l;
      none_dialled = d;
      none_kept = λ kept e. let same : map keeping net.kept ≡ kept = cc in sym same ∙ ap (λ links. map keeping links) k;
      as_it_is = refl;
    }
