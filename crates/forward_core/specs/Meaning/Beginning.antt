-- The variables with which a session begins: the address and the port of its client, where a peer is told.
use Rattle.std.specs.Prelude.{Option, Some, None, pos}
use Rattle.px_peer.specs.declared.Peer.{Peer}
use Rattle.px_peer.specs.Names.{src_name, src_port_name}
use Rattle.px_proxyproto.specs.Texts.{address_text}
use Rattle.px_sample.specs.Sample.{Value, Bytes, Number}
use Rattle.px_sample.specs.Variables.{Variables, no_variables, set_variable}
use Rattle.px_sample.specs.declared.scope.Scope.TheVariants.{Sess}

-- the text of the address: four numbers with a dot between them, or eight groups
unfoldable pub src_of : Peer → Value
src_of peer = Bytes (address_text peer.v6 peer.addr)

abbrev pub src_port_of : Peer → Value
src_port_of peer = Number (pos peer.port)

-- both are set, where a peer is told
abbrev pub with_peer : Option Peer → Variables → Variables
with_peer None vars = vars
with_peer (Some peer) vars = set_variable (set_variable vars Sess src_name (Some (src_of peer))) Sess src_port_name (Some (src_port_of peer))

abbrev pub beginning : Option Peer → Variables
beginning peer = with_peer peer no_variables
