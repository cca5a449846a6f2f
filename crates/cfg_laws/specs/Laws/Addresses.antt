-- Addresses of a canonical text, and what is read of them.
use Rattle.std.specs.Prelude.{◌≡◌, true, Ok}
use Rattle.px_link.specs.declared.address.Address.{Address}
use Rattle.http_rules.specs.Valid.{HasPort, HasHost}
use Rattle.cfg_parse.specs.Addresses.{address_of, server_address_of}
use Rattle.cfg_print.specs.Printed.{address_text}
use Rattle.cfg_laws.specs.SpelledSettings.{is_spelled_host}

abbrev pub AddressesReadBack : Type 0
AddressesReadBack = (address : Address) → HasPort address → is_spelled_host address.host ≡ true → address_of (address_text address) ≡ Ok address

-- the same of a server
abbrev pub ServersReadBack : Type 0
ServersReadBack = (address : Address) → HasPort address → HasHost address → is_spelled_host address.host ≡ true → server_address_of (address_text address) ≡ Ok address
