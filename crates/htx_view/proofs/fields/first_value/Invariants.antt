use Rattle.std.proofs.Common.{◌≡◌}
use Rattle.htx_view.specs.Values.{first_of}
use Rattle.htx_view.proofs.FirstValues.{first_in}
use Rattle.htx_view.proofs.fields.first_value.Given as goal

-- the answer depends on the headers that are left
abbrev pub invariant-loop-field : goal.invariant-loop-field
invariant-loop-field l = first_in l.name l.field-iterator ≡ first_of l.name l.msg.blocks
