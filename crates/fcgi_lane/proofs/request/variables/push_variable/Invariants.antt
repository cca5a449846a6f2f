use Rattle.std.proofs.Common.{◌≡◌, ◌++◌, drop, map}
use Rattle.fcgi_model.specs.Pairs.{variable_byte}
use Rattle.fcgi_lane.proofs.request.variables.push_variable.Given as goal

abbrev pub invariant-loop-byte : goal.invariant-loop-byte
invariant-loop-byte l = l.text.items ++ map variable_byte (drop l.byte-index l.name) ≡ l.fn.text.items ++ map variable_byte l.name
