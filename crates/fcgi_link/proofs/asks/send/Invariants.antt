use Rattle.std.proofs.Common.{◌≡◌, ℕ, List, false, length}
use Rattle.fcgi_link.specs.Asking.{IsUnread}
use Rattle.fcgi_link.proofs.Asking.{Sends}
use Rattle.fcgi_link.proofs.asks.send.Given as goal

abbrev pub invariant-records : goal.invariant-records
invariant-records g l = record {
  application : l.translator.application ≡ l.fn.translator.application;
  sends : Sends l.fn.translator (g.L.Link.wrote l.fn.inner) l.translator (g.L.Link.wrote l.inner);
  nothing : l.some ≡ false → (bytes : List ℕ) → g.L.Link.wrote l.fn.inner bytes → g.L.Link.wrote l.inner bytes;
  unread : IsUnread (g.L.Link.seen l.fn.inner) (g.L.Link.seen l.inner);
}

abbrev pub decreases-records : goal.decreases-records
decreases-records g l = length l.translator.left
