-- What an address has that was taken: a port, and of a server a host.
use Rattle.std.proofs.Common.{◌≡◌, ℕ, ◌+◌, ◌≤◌, Bool, true, false, cond, leb, eqb, List, [], ◌∷◌, length, take, drop, Option, Some, None, Ok, Err, ap, subst, arith}
use Rattle.std.specs.Prelude.{◌&&◌, ◌||◌, codes, position}
use Rattle.std.specs.Str.{bytes_eq}
use Rattle.std.proofs.lemmas.Bool.Decides.{nat_tests}
use Rattle.px_bytes.specs.Numbers.{decimal_of}
use Rattle.px_link.specs.declared.address.Address.{Address}
use Rattle.uri_parts.specs.Authority.{is_ipv6}
use Rattle.http_rules.specs.Valid.{HasPort, HasHost}
use Rattle.cfg_parse.specs.declared.fault.CfgKind.TheVariants.{Argument}
use Rattle.cfg_parse.specs.Addresses.{is_colon, is_opening_bracket, is_closing_bracket, as_port, port_of, with_port, named_at, named, with_port_behind, bracketed_at, bracketed, address_of, server_address_of}
use Rattle.cfg_parse.proofs.StepLemmas.{bind_ok, guard_ok, passed, ok_is, or_false, and_true}

as_port-within : (number : Option ℕ) (port : ℕ) → as_port number ≡ Ok port → (1 ≤ port) × (port ≤ 65535)
as_port-within None port e = absurd cc
as_port-within (Some n) port e =
    let test = passed (leb 1 n && leb n 65535) Argument (Ok n) port e in
    let both = and_true (leb 1 n) (leb n 65535) test.0 in
    let same : n ≡ port = ok_is n port test.1 in
    let low : 1 ≤ n = grind (arith, nat_tests) in
    let high : n ≤ 65535 = grind (arith, nat_tests) in
    (omega arith, omega arith)

with_port-port : (host digits : List ℕ) (address : Address) → with_port host digits ≡ Ok address → HasPort address
unfolding with_port port_of
with_port-port host digits address e =
    let b = bind_ok (port_of digits) (λ port. Ok (record { host = host; port = port })) address e in
    let within = as_port-within (decimal_of 18 digits) b.0 b.1.0 in
    let made : Address = record { host = host; port = b.0 } in
    let port : b.0 ≡ address.port = ap (λ (a : Address). a.port) (ok_is made address b.1.1) in
    record { least = omega (arith, within.0, port); most = omega (arith, within.1, port) }

named_at-port : (word : List ℕ) (at : Option ℕ) (address : Address) → named_at word at ≡ Ok address → HasPort address
named_at-port word None address e = absurd cc
named_at-port word (Some at) address e = with_port-port (take at word) (drop (at + 1) word) address e

with_port_behind-port : (host behind : List ℕ) (address : Address) → with_port_behind host behind ≡ Ok address → HasPort address
unfolding with_port_behind
with_port_behind-port host [] address e = absurd cc
with_port_behind-port host (b ∷ digits) address e =
    let test = passed (is_colon b) Argument (with_port host digits) address e in
    with_port-port host digits address test.1

bracketed_at-port : (text : List ℕ) (at : Option ℕ) (address : Address) → bracketed_at text at ≡ Ok address → HasPort address
bracketed_at-port text None address e = absurd cc
bracketed_at-port text (Some at) address e =
    let test = passed (is_ipv6 (take at text)) Argument (with_port_behind (take at text) (drop (at + 1) text)) address e in
    with_port_behind-port (take at text) (drop (at + 1) text) address test.1

either-port : (bracket : Bool) (text word : List ℕ) (address : Address) → cond bracket (bracketed text) (named word) ≡ Ok address → HasPort address
unfolding bracketed named
either-port true text word address e = bracketed_at-port text (position is_closing_bracket text) address e
either-port false text word address e = named_at-port word (position is_colon word) address e

pub address_of-port : (word : List ℕ) (address : Address) → address_of word ≡ Ok address → HasPort address
unfolding address_of
address_of-port [] address e = absurd cc
address_of-port (b ∷ bs) address e = either-port (is_opening_bracket b) bs (b ∷ bs) address e

pub server_address_of-good : (word : List ℕ) (address : Address) → server_address_of word ≡ Ok address → HasPort address × HasHost address
unfolding server_address_of
server_address_of-good word address e =
    let b = bind_ok (address_of word) (λ a. cond (eqb (length a.host) 0 || bytes_eq a.host (codes "*")) (Err Argument) (Ok a)) address e in
    let test = guard_ok (eqb (length b.0.host) 0 || bytes_eq b.0.host (codes "*")) Argument (Ok b.0) address b.1.1 in
    let both = or_false (eqb (length b.0.host) 0) (bytes_eq b.0.host (codes "*")) test.0 in
    let port = address_of-port word b.0 b.1.0 in
    let some : 1 ≤ length b.0.host = grind (arith, nat_tests) in
    let host : HasHost b.0 = record { some = some; one = both.1 } in
    subst (λ (a : Address). HasPort a × HasHost a) (ok_is b.0 address test.1) (port, host)
