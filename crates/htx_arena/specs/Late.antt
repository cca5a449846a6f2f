-- An arena whose memory may still wait.
use Rattle.std.specs.Prelude.{ℕ, ◌≡◌, ◌≤◌, List, [], Option, Some, None, ⊤, vec_capacity}
use Rattle.std.specs.declared.alloc.Global.{Global}
use Rattle.std.specs.declared.vec.Vec.{Vec}
use Rattle.htx_arena.specs.Layout.Contents.{Contents}

-- what callers see: an empty list of this size while memory waits, and else the arena in it
abbrev pub shown_by : Option (Vec ℕ Global) → ℕ → Contents → Contents
shown_by None size arena = arena
shown_by (Some bytes) size arena = record { size = size; blocks = []; addrs = []; front = 0 }

-- memory that waits holds nothing, and has room for all bytes
pub record IsWaiting (bytes : Vec ℕ Global) (size : ℕ) : Type 0 where
  pub empty : bytes.items ≡ []
  pub room : size ≤ vec_capacity bytes
  pub small : size ≤ 262144

abbrev pub Waits : Option (Vec ℕ Global) → ℕ → Type 0
Waits None size = ⊤
Waits (Some bytes) size = IsWaiting bytes size
