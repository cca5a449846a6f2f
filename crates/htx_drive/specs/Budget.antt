-- How many turns a session needs.
use Rattle.std.specs.Prelude.{◌≡◌, ℕ, ◌+◌, ◌*◌, ◌≤◌, List, ◌++◌, length, sum_by, Option, Some, None}
use Rattle.http_model.specs.declared.Ending.{Ending}
use Rattle.session_model.specs.Stream.{Server}
use Rattle.session_model.specs.Meaning.{Meaning}
use Rattle.session_model.specs.Session.{Session, Out}
use Rattle.session_core.specs.MeaningLaws.Bound.{IsBounded}
use Rattle.px_link.specs.Link.{Seen}
use Rattle.px_link.specs.Net.{Coming, Kept, NetSeen}

abbrev pub coming_size : Option Coming → ℕ
coming_size None = 0
coming_size (Some c) = length c.bytes

-- no front of these bytes makes more exchanges than so many requests and one more
abbrev pub HasRequests : (M : Meaning) → List ℕ → ℕ → Type 0
HasRequests M xs m =
    (front rest : List ℕ) (ending : Ending) (servers : List Server) (out : Out) → xs ≡ front ++ rest
    → (s : Session M (record { bytes = front; ending = ending }) servers out) → length s.exchanges ≤ m + 1

-- the client's bytes, those of all servers, and a buffer for each request and one more
abbrev pub enough : (client servers requests bufsize : ℕ) → ℕ
enough client servers requests bufsize = 2048 * (client + servers + (requests + 1) * bufsize)

-- P of what is enough, where cores are bounded, and these are the bytes that come from the client, a number of its requests, and the answers of the net
abbrev pub WithTexts : Meaning → Seen → NetSeen → List ℕ → ℕ → List (Option Coming) → List Kept → (ℕ → Type 0) → Type 0
WithTexts M client net bytes requests answers kept P =
    IsBounded M → 1 ≤ M.limits.bufsize → HasRequests M bytes requests → client.to_come ≡ Some bytes → net.answers ≡ Some answers → net.kept ≡ Some kept
    → P (enough (length bytes) (sum_by coming_size answers) requests M.limits.bufsize)
