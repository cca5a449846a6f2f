-- The numbers by which a poll names what it watches.
use Rattle.std.specs.Prelude.{ℕ, ◌-◌, ◌^◌, ◌/◌, ◌%◌, ◌==◌, ◌<◌, ⊤, if◌then◌else◌}
use Rattle.px_link.specs.declared.wakes.Watched.{Watched}
use Rattle.px_link.specs.declared.wakes.Watched.TheVariants.{Listener, Client, Server}

-- the number of the listener, the last of all
abbrev pub listener_token : ℕ
listener_token = 2 ^ 64 - 1

-- what has this number: twice the place is a client, one more its server
abbrev pub watched_of : ℕ → Watched
watched_of token = if token == listener_token then Listener else (if token % 2 == 0 then Client (token / 2) else Server (token / 2))

-- a place that has numbers of its own
abbrev pub HasNumbers : Watched → Type 0
HasNumbers Listener = ⊤
HasNumbers (Client place) = place < 2 ^ 62
HasNumbers (Server place) = place < 2 ^ 62
