-- An address that is read can be said again.
use Rattle.std.proofs.Common.{◌≡◌, ℕ, ◌+◌, ◌≤◌, Bool, true, false, cond, List, [], ◌∷◌, length, take, drop, zero, suc, Ok, Err, refl, sym, ap, ◌∙◌, arith}
use Rattle.std.proofs.lemmas.Bool.{false≢true, and_parts, and_from, or_parts, leb-true}
use Rattle.std.proofs.lemmas.Bool.Decides.{nat_tests}
use Rattle.std.specs.Prelude.{◌==◌, ◌&&◌, ◌||◌, not, nat_le, position, Option, Some, None, codes}
use Rattle.std.specs.List.{list_any}
use Rattle.std.specs.Str.{bytes_eq}
use Rattle.std.specs.Net.Reader.{read_ipv6, read_segments, read_segment, read_number, read_ipv4, read_octet}
use Rattle.px_bytes.specs.Numbers.{decimal_of}
use Rattle.px_link.specs.declared.address.Address.{Address}
use Rattle.uri_parts.specs.Authority.{is_ipv6}
use Rattle.cfg_parse.specs.declared.fault.CfgKind.TheVariants.{Argument}
use Rattle.cfg_parse.specs.Limits.{most_digits}
use Rattle.cfg_parse.specs.Addresses.{is_opening_bracket, as_port, port_of, with_port, named_at, named, with_port_behind, bracketed_at, bracketed, address_of, server_address_of}
use Rattle.cfg_print.specs.Printed.{is_colon}
use Rattle.cfg_laws.specs.SpelledSettings.{is_closing_bracket, begins_bracketed, is_spelled_host}
use Rattle.cfg_laws.specs.Laws.ReadSettings.{CanSayAddress, CanSayServer}
use Rattle.cfg_laws.proofs.ReadLemmas.Calls.{before_place}
use Rattle.cfg_laws.proofs.ReadLemmas.Steps.{GivesSo, so_given}
use Rattle.cfg_laws.proofs.ReadLemmas.SettingSteps.{so_step, so_unless, so_if, so_either}

-- ---- ports

-- a number that is a port
abbrev IsPort : ℕ → Type 0
IsPort port = (1 ≤ port) × (port ≤ 65535)

port_if : (number : Option ℕ) → GivesSo IsPort (as_port number)
port_if None = tt
port_if (Some port) =
    so_if IsPort (nat_le 1 port && nat_le port 65535) Argument (Ok port)
    (λ h. let both = and_parts (nat_le 1 port) (nat_le port 65535) h in (leb-true 1 port both.0, leb-true port 65535 both.1))

ported : (host digits : List ℕ) → is_spelled_host host ≡ true → GivesSo CanSayAddress (with_port host digits)
unfolding with_port port_of
ported host digits h =
    let number = decimal_of most_digits digits in
    so_step CanSayAddress (as_port number) (λ port. Ok (record { host = host; port = port }))
    (λ port is. let within = so_given IsPort (as_port number) port (port_if number) is in record { port = record { least = within.0; most = within.1 }; host = h })

-- ---- a host without a colon

plain_host : (host : List ℕ) → list_any is_colon host ≡ false → begins_bracketed host ≡ false → is_spelled_host host ≡ true
unfolding is_spelled_host
plain_host host none plain = ap (λ t. cond t (is_ipv6 host && not (list_any is_closing_bracket host)) (not (begins_bracketed host))) none ∙ ap not plain

plain_front : (word : List ℕ) (at : ℕ) → begins_bracketed word ≡ false → begins_bracketed (take at word) ≡ false
plain_front [] zero h = refl
plain_front [] (suc at) h = refl
plain_front (b ∷ word) zero h = refl
plain_front (b ∷ word) (suc at) h = h

named_said : (word : List ℕ) (at : Option ℕ) → begins_bracketed word ≡ false → position is_colon word ≡ at → GivesSo CanSayAddress (named_at word at)
named_said word None plain is = tt
named_said word (Some at) plain is = ported (take at word) (drop (at + 1) word) (plain_host (take at word) (before_place is_colon word at is) (plain_front word at plain))

-- ---- one in brackets

-- no IPv6 address begins with a bracket
bracket_is_none : (host : List ℕ) → is_ipv6 (91 ∷ host) ≡ false
unfolding is_ipv6 read_ipv6 read_segments read_segment read_number read_ipv4 read_octet
bracket_is_none host = refl

by_bracket : (b : ℕ) (host : List ℕ) (t : Bool) → (b == 91) ≡ t → is_ipv6 (b ∷ host) ≡ true → t ≡ false
by_bracket b host true is ipv6 =
    let same : b ≡ 91 = grind (arith, nat_tests) in
    absurd (false≢true (sym (bracket_is_none host) ∙ ap (λ n. is_ipv6 (n ∷ host)) (sym same) ∙ ipv6))
by_bracket b host false is ipv6 = refl

no_bracket : (host : List ℕ) → is_ipv6 host ≡ true → begins_bracketed host ≡ false
no_bracket [] h = refl
no_bracket (b ∷ host) h = by_bracket b host (b == 91) refl h

by_colon : (host : List ℕ) (t : Bool) → is_ipv6 host ≡ true → list_any is_closing_bracket host ≡ false → cond t (is_ipv6 host && not (list_any is_closing_bracket host)) (not (begins_bracketed host)) ≡ true
by_colon host true ipv6 none = and_from (is_ipv6 host) (not (list_any is_closing_bracket host)) ipv6 (ap not none)
by_colon host false ipv6 none = ap not (no_bracket host ipv6)

ipv6_host : (host : List ℕ) → is_ipv6 host ≡ true → list_any is_closing_bracket host ≡ false → is_spelled_host host ≡ true
unfolding is_spelled_host
ipv6_host host ipv6 none = by_colon host (list_any is_colon host) ipv6 none

behind_said : (host behind : List ℕ) → is_spelled_host host ≡ true → GivesSo CanSayAddress (with_port_behind host behind)
unfolding with_port_behind
behind_said host [] h = tt
behind_said host (b ∷ digits) h = so_if CanSayAddress (is_colon b) Argument (with_port host digits) (λ colon. ported host digits h)

bracketed_said : (text : List ℕ) (at : Option ℕ) → position is_closing_bracket text ≡ at → GivesSo CanSayAddress (bracketed_at text at)
bracketed_said text None is = tt
bracketed_said text (Some at) is =
    let host = take at text in
    let behind = drop (at + 1) text in
    so_if CanSayAddress (is_ipv6 host) Argument (with_port_behind host behind)
    (λ ipv6. behind_said host behind (ipv6_host host ipv6 (before_place is_closing_bracket text at is)))

-- ---- both

address_said : (word : List ℕ) → GivesSo CanSayAddress (address_of word)
unfolding address_of named bracketed
address_said [] = tt
address_said (b ∷ bs) =
    so_either CanSayAddress (is_opening_bracket b) (bracketed bs) (named (b ∷ bs))
    (λ h. bracketed_said bs (position is_closing_bracket bs) refl) (λ h. named_said (b ∷ bs) (position is_colon (b ∷ bs)) h refl)

server_said : (word : List ℕ) → GivesSo CanSayServer (server_address_of word)
unfolding server_address_of
server_said word =
    so_step CanSayServer (address_of word) (λ a. cond (length a.host == 0 || bytes_eq a.host (codes "*")) (Err Argument) (Ok a))
    (λ a is. so_unless CanSayServer (length a.host == 0 || bytes_eq a.host (codes "*")) Argument (Ok a)
    (λ h. let both = or_parts (length a.host == 0) (bytes_eq a.host (codes "*")) h in
    record { said = so_given CanSayAddress (address_of word) a (address_said word) is; host = record { some = not_empty a.host both.0; one = both.1 } }))
  where
    not_empty : (host : List ℕ) → (length host == 0) ≡ false → 1 ≤ length host
    not_empty host h = grind (arith, nat_tests)

-- as laws
pub addresses_spelled : (word : List ℕ) (address : Address) → address_of word ≡ Ok address → CanSayAddress address
addresses_spelled word address is = so_given CanSayAddress (address_of word) address (address_said word) is

pub servers_spelled : (word : List ℕ) (address : Address) → server_address_of word ≡ Ok address → CanSayServer address
servers_spelled word address is = so_given CanSayServer (server_address_of word) address (server_said word) is
