-- What the process ends with.
use Rattle.std.specs.Prelude.{ℕ}
use Rattle.proxy_commands.specs.declared.status.Status.{Status}
use Rattle.proxy_commands.specs.declared.status.Status.TheVariants.{Good, Usage, Config, Record, FileFault, OutFault, NetFault, OutOfMemory}

-- the number of each status
abbrev pub number_of : Status → ℕ
number_of Good = 0
number_of Usage = 1
number_of Config = 2
number_of Record = 3
number_of FileFault = 4
number_of OutFault = 5
number_of NetFault = 6
number_of OutOfMemory = 7
