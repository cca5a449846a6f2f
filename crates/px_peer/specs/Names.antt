-- The variables of a session in which its client's address stands. A configuration can't spell these names: a colon is no part of one.
use Rattle.std.specs.Prelude.{ℕ, List, codes}

-- the text of the address
abbrev pub src_name : List ℕ
src_name = codes ":src"

-- the number of the port
abbrev pub src_port_name : List ℕ
src_port_name = codes ":src_port"
