-- How a net in memory keeps addresses.
use Rattle.std.specs.Prelude.{List, map}
use Rattle.px_link.specs.declared.address.Address.{Address}
use Rattle.px_link.specs.Net.{Place, address_of}

-- these, as contracts see them
abbrev pub addresses_of : List Address → List Place
addresses_of addresses = map address_of addresses
