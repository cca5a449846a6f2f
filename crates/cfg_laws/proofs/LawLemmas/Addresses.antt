-- Addresses as they are spelled, and read.
use Rattle.std.proofs.Common.{◌≡◌, ℕ, ◌+◌, ◌≤◌, Bool, true, false, cond, List, [], ◌∷◌, ◌++◌, length, drop, refl, ap, ◌∙◌, append_assoc, arith}
use Rattle.std.proofs.lemmas.Bool.{not-true}
use Rattle.std.proofs.Math.Seq.{take-append_seam, drop-append-add}
use Rattle.std.specs.Prelude.{◌==◌, ◌&&◌, ◌||◌, not, Result, Ok, Err, codes}
use Rattle.std.specs.Fmt.{decimal}
use Rattle.std.specs.List.{list_any}
use Rattle.std.specs.Str.{bytes_eq}
use Rattle.px_link.specs.declared.address.Address.{Address}
use Rattle.uri_parts.specs.Authority.{is_ipv6}
use Rattle.http_rules.specs.Valid.{HasPort, HasHost}
use Rattle.cfg_parse.specs.declared.fault.CfgKind.{CfgKind}
use Rattle.cfg_parse.specs.declared.fault.CfgKind.TheVariants.{Argument}
use Rattle.cfg_parse.specs.Reading.{◌>>=◌}
use Rattle.cfg_parse.specs.Addresses.{with_port, named_at, named, with_port_behind, bracketed_at, bracketed, address_of, server_address_of}
use Rattle.cfg_print.specs.Printed.{is_colon, address_text}
use Rattle.cfg_laws.specs.SpelledSettings.{is_closing_bracket, begins_bracketed, is_spelled_host}
use Rattle.cfg_laws.proofs.LawLemmas.Words.{both_left, both_right}
use Rattle.cfg_laws.proofs.LawLemmas.Calls.{first_at}
use Rattle.cfg_laws.proofs.LawLemmas.Sizes.{port_back}

-- an address is read back from a text
abbrev IsAddress : Address → List ℕ → Type 0
IsAddress address text = address_of text ≡ Ok address

ported : (address : Address) → HasPort address → with_port address.host (decimal address.port) ≡ Ok address
unfolding with_port
ported address has = ap (λ (read : Result ℕ CfgKind). read >>= λ port. Ok (record { host = address.host; port = port })) (port_back address.port has.least has.most)

-- ---- a host without a colon

named_back : (address : Address) → HasPort address → list_any is_colon address.host ≡ false → named (address.host ++ 58 ∷ decimal address.port) ≡ Ok address
unfolding named
named_back address has none =
    let host = address.host in
    let ds = decimal address.port in
    let word = host ++ 58 ∷ ds in
    ap (named_at word) (first_at is_colon host 58 ds none refl)
    ∙ ap (λ (front : List ℕ). with_port front (drop (length host + 1) word)) (take-append_seam host (58 ∷ ds))
    ∙ ap (with_port host) (drop-append-add host (58 ∷ ds) 1) ∙ ported address has

plain_front : (host rest : List ℕ) → begins_bracketed host ≡ false → address_of (host ++ 58 ∷ rest) ≡ named (host ++ 58 ∷ rest)
unfolding address_of
plain_front [] rest h = refl
plain_front (b ∷ host) rest h = ap (λ t. cond t (bracketed (host ++ 58 ∷ rest)) (named (b ∷ host ++ 58 ∷ rest))) h

-- ---- one in brackets

behind_bracket : (address : Address) → HasPort address → with_port_behind address.host (58 ∷ decimal address.port) ≡ Ok address
unfolding with_port_behind
behind_bracket address has = ported address has

bracketed_back : (address : Address) → HasPort address → is_ipv6 address.host ≡ true → list_any is_closing_bracket address.host ≡ false
    → bracketed (address.host ++ 93 ∷ 58 ∷ decimal address.port) ≡ Ok address
unfolding bracketed
bracketed_back address has ipv6 none =
    let host = address.host in
    let behind = 58 ∷ decimal address.port in
    let text = host ++ 93 ∷ behind in
    ap (bracketed_at text) (first_at is_closing_bracket host 93 behind none refl)
    ∙ ap (λ (front : List ℕ). cond (is_ipv6 front) (with_port_behind front (drop (length host + 1) text)) (Err Argument)) (take-append_seam host (93 ∷ behind))
    ∙ ap (λ t. cond t (with_port_behind host (drop (length host + 1) text)) (Err Argument)) ipv6
    ∙ ap (with_port_behind host) (drop-append-add host (93 ∷ behind) 1) ∙ behind_bracket address has

bracket_front : (host rest : List ℕ) → address_of ((91 ∷ host ++ 93 ∷ []) ++ rest) ≡ bracketed (host ++ 93 ∷ rest)
unfolding address_of
bracket_front host rest = ap bracketed (append_assoc host (93 ∷ []) rest)

-- ---- both

by_colon : (address : Address) (t : Bool) → HasPort address → list_any is_colon address.host ≡ t
    → cond t (is_ipv6 address.host && not (list_any is_closing_bracket address.host)) (not (begins_bracketed address.host)) ≡ true
    → IsAddress address (cond t (91 ∷ address.host ++ 93 ∷ []) address.host ++ 58 ∷ decimal address.port)
by_colon address true has colon h =
    let host = address.host in
    let ipv6 = both_left (is_ipv6 host) (not (list_any is_closing_bracket host)) h in
    let none = not-true (list_any is_closing_bracket host) (both_right (is_ipv6 host) (not (list_any is_closing_bracket host)) h) in
    bracket_front host (58 ∷ decimal address.port) ∙ bracketed_back address has ipv6 none
by_colon address false has none h =
    plain_front address.host (decimal address.port) (not-true (begins_bracketed address.host) h) ∙ named_back address has none

pub address_back : (address : Address) → HasPort address → is_spelled_host address.host ≡ true → address_of (address_text address) ≡ Ok address
unfolding address_text is_spelled_host
address_back address has h = by_colon address (list_any is_colon address.host) has refl h

-- ---- of a server

a_host : (empty any : Bool) (address : Address) → empty ≡ false → any ≡ false → cond (empty || any) (Err Argument) (Ok address) ≡ Ok address
a_host empty any address x y = cc

not_empty : (host : List ℕ) → 1 ≤ length host → (length host == 0) ≡ false
not_empty host h = grind (arith)

pub server_address_back : (address : Address) → HasPort address → HasHost address → is_spelled_host address.host ≡ true → server_address_of (address_text address) ≡ Ok address
unfolding server_address_of
server_address_back address has host h =
    ap (λ (read : Result Address CfgKind). read >>= λ a. cond (length a.host == 0 || bytes_eq a.host (codes "*")) (Err Argument) (Ok a)) (address_back address has h)
    ∙ a_host (length address.host == 0) (bytes_eq address.host (codes "*")) address (not_empty address.host host.some) host.one
