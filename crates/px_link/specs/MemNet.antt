-- What contracts see of a net in memory.
use Rattle.std.specs.Prelude.{ℕ, ◌+◌, ◌-◌, ◌^◌, min, Bool, true, false, ◌||◌, ◌==◌, List, [], ◌∷◌, map, Option, Some, None, option_map}
use Rattle.px_link.specs.Calls.{next_call, is_listed, fails_none}
use Rattle.px_link.specs.Net.{Coming, Kept, NetSeen, Place, kept_link}
use Rattle.px_link.specs.Link.{AsItIs}
use Rattle.px_link.specs.MemLink.{MemLinkSeen, link_of, is_plain}

-- the links still to be accepted, the servers of the coming connects (none for a refused one), the links that were kept; the
-- addresses of all binds and the different ones of all connects; how many links are lent; the numbers of the calls that are to
-- fail; how many calls and how many connects there were; how many binds and accepts, and how many connects, have failed
pub record MemNetSeen : Type 0 where
  pub accepts : List MemLinkSeen
  pub servers : List (Option MemLinkSeen)
  pub kept : List MemLinkSeen
  pub bound : List Place
  pub dialled : List Place
  pub lent : ℕ
  pub failing : List ℕ
  pub calls : ℕ
  pub connects : ℕ
  pub bind_faults : ℕ
  pub connect_faults : ℕ

-- a link in memory as one that is to come
abbrev pub coming : MemLinkSeen → Coming
coming seen = record { bytes = seen.to_come; ending = seen.ending; plain = is_plain seen; takes = (link_of seen).takes }

-- a link in memory as one that was kept
abbrev pub keeping : MemLinkSeen → Kept
keeping seen = kept_link (link_of seen) seen.written

-- the net in the words of every net; it is plain while no call is to fail
abbrev pub net_of : MemNetSeen → NetSeen
net_of seen = record {
  accepts = Some (map coming seen.accepts);
  answers = Some (map (option_map coming) seen.servers);
  kept = Some (map keeping seen.kept);
  manner = AsItIs;
  plain = fails_none seen.failing;
  lent = seen.lent;
  bound = seen.bound;
  dialled = seen.dialled;
  bind_faults = seen.bind_faults;
  connect_faults = seen.connect_faults;
}

-- the next call is to fail: its number is listed
abbrev pub fails_next : MemNetSeen → Bool
fails_next seen = is_listed (next_call seen.calls) seen.failing

-- the number of connects after one more; it stays at the last value of a u32
abbrev pub next_connect : ℕ → ℕ
next_connect connects = min (connects + 1) (2 ^ 32 - 1)

-- no more links can be lent
abbrev pub lends_no_more : ℕ → Bool
lends_no_more lent = lent == 2 ^ 64 - 1

-- no link is to come
abbrev pub is_over : List MemLinkSeen → Bool
is_over [] = true
is_over (link ∷ links) = false

-- the next accept is to fail: its number is listed, or there is no link
abbrev pub fails_accept : MemNetSeen → Bool
fails_accept seen = fails_next seen || (is_over seen.accepts || lends_no_more seen.lent)

-- the next server is refused, or there is none
abbrev pub is_refused : List (Option MemLinkSeen) → Bool
is_refused [] = true
is_refused (None ∷ servers) = true
is_refused (Some link ∷ servers) = false

-- the next connect is to fail: its number is listed, or the next server is refused, or there is none
abbrev pub fails_connect : MemNetSeen → Bool
fails_connect seen = fails_next seen || (is_refused seen.servers || lends_no_more seen.lent)
