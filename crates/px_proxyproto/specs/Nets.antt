-- With which header the connected links of a net begin, and a net that has them begin so.
use Rattle.std.specs.Prelude.{ℕ, Option, Some, None, option_map}
use Rattle.px_link.specs.Link.{Manner, AsItIs, Behind, Asks}
use Rattle.px_link.specs.Net.{NetSeen}
use Rattle.px_peer.specs.declared.Pair.{Pair}
use Rattle.px_proxyproto.specs.declared.heading.Heading.{Heading}
use Rattle.px_proxyproto.specs.Texts.{header_of}

-- the heading of this version, where there is one, with this pair
abbrev pub heading_for : Option ℕ → Option Pair → Option Heading
heading_for version pair = option_map (λ (n : ℕ). let heading : Heading = record { version = n; pair = pair } in heading) version

-- how a link passes on what is written to it that begins with this header, or with none
abbrev pub manner_of : Option Heading → Manner
manner_of None = AsItIs
manner_of (Some heading) = Behind (header_of heading.version heading.pair) AsItIs

-- how links pass on what is written to them that did so in this manner, once they are told this header, or none: an application is told none
abbrev pub manner_under : Option Heading → Manner → Manner
manner_under heading AsItIs = manner_of heading
manner_under heading (Behind header manner) = manner_of heading
manner_under heading (Asks application) = Asks application

-- a net that was told with which header the links begin that it connects next, or with none: nothing else of it changes
abbrev pub introduced : Option Heading → NetSeen → NetSeen
introduced heading seen = record seen { manner = manner_under heading seen.manner }

-- a net whose next connected links begin with this header, or with none
abbrev pub headed : Option Heading → NetSeen → NetSeen
headed heading seen = record seen { manner = manner_of heading }

-- the net below, and the header with which the links begin that are connected next
pub record SendNetSeen (N : Type 0) : Type 0 where
  pub inner : N
  pub heading : Option Heading

-- the net in words of the net below
abbrev pub net_behind : {N : Type 0} → (seen : N → NetSeen) → SendNetSeen N → NetSeen
net_behind seen net = headed net.heading (seen net.inner)
