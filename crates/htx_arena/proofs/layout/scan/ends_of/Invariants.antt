use Rattle.std.proofs.Common.{◌≡◌, ◌≤◌, ◌-◌, max}
use Rattle.htx_arena.specs.Layout.Raw.{blocks_of, addrs_of}
use Rattle.htx_arena.specs.Layout.Place.{top, low}
use Rattle.htx_arena.proofs.LayoutLemmas.ScanLemmas.{top_from, low_from, merged}
use Rattle.htx_arena.proofs.layout.scan.ends_of.Given as goal

abbrev pub invariant-loop-i : goal.invariant-loop-i
invariant-loop-i l = record {
  told : max l.top (top_from l.space l.i (l.count - l.i)) ≡ top (blocks_of l.space l.count) (addrs_of l.space l.count);
  small : l.top ≤ 262144;
  least : merged l.low (low_from l.space l.front l.i (l.count - l.i)) ≡ low l.front (addrs_of l.space l.count);
}
