-- The number of a place is its own.
use Rattle.std.proofs.Common.{◌≡◌, ℕ, ◌+◌, ◌*◌, ◌-◌, ◌/◌, ◌%◌, ◌^◌, ◌<◌, ◌==◌, min, cond, ap, ◌∙◌, arith}
use Rattle.std.proofs.lemmas.Bool.{eq-eqb, ne_eqb}
use Rattle.px_link.specs.declared.wakes.Watched.TheVariants.{Listener, Client, Server}
use Rattle.px_sock.specs.Tokens.{watched_of}

-- an even number is a client's
even_is_client : (token place : ℕ) → token < 2 ^ 64 - 1 → token % 2 ≡ 0 → token / 2 ≡ place → watched_of token ≡ Client place
even_is_client token place below even half =
    ap (λ t. cond t Listener (cond (token % 2 == 0) (Client (token / 2)) (Server (token / 2)))) (ne_eqb token (2 ^ 64 - 1) (λ e. omega arith))
    ∙ ap (λ t. cond t (Client (token / 2)) (Server (token / 2))) (eq-eqb (token % 2) 0 even)
    ∙ ap Client half

-- an odd number is a server's
odd_is_server : (token place : ℕ) → token < 2 ^ 64 - 1 → token % 2 ≡ 1 → token / 2 ≡ place → watched_of token ≡ Server place
odd_is_server token place below odd half =
    ap (λ t. cond t Listener (cond (token % 2 == 0) (Client (token / 2)) (Server (token / 2)))) (ne_eqb token (2 ^ 64 - 1) (λ e. omega arith))
    ∙ ap (λ t. cond t (Client (token / 2)) (Server (token / 2))) (ne_eqb (token % 2) 0 (λ e. omega arith))
    ∙ ap Server half

pub client_back : (token place : ℕ) → token ≡ min (place * 2) (2 ^ 64 - 1) → place < 2 ^ 62 → watched_of token ≡ Client place
client_back token place made below = even_is_client token place (omega arith) (omega arith) (omega arith)

pub server_back : (token place : ℕ) → token ≡ min (min (place * 2) (2 ^ 64 - 1) + 1) (2 ^ 64 - 1) → place < 2 ^ 62 → watched_of token ≡ Server place
server_back token place made below = odd_is_server token place (omega arith) (omega arith) (omega arith)

pub ruleset sides = (client_back, server_back)
