-- Where the value of a block lies in its payload.
use Rattle.std.specs.Prelude.{ℕ, ◌+◌, ◌%◌, ◌^◌, List}
use Rattle.htx_model.specs.declared.Kind.{Kind}
use Rattle.htx_model.specs.declared.Kind.TheVariants as kinds
use Rattle.htx_arena.specs.Space.Windows.{desc_at}
use Rattle.htx_arena.specs.Layout.Raw.{name_len, value_len, info_kind, addr_in}

-- where in a payload the value lies: behind the name of a field
abbrev pub value_off : Kind → ℕ → ℕ
value_off kinds.Header info = name_len info
value_off kinds.Trailer info = name_len info
value_off _ info = 0

-- how long the value is
abbrev pub value_size : Kind → ℕ → ℕ
value_size kinds.Header info = value_len info
value_size kinds.Trailer info = value_len info
value_size _ info = info % 2 ^ 28

-- where the value of the block of this number stands
abbrev pub value_start : List ℕ → ℕ → ℕ
value_start raw i = addr_in raw i + value_off (info_kind (desc_at raw i).info) (desc_at raw i).info

-- how long it is
abbrev pub value_length : List ℕ → ℕ → ℕ
value_length raw i = value_size (info_kind (desc_at raw i).info) (desc_at raw i).info
