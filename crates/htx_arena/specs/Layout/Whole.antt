use Rattle.std.specs.Prelude.{◌≡◌, ◌≤◌, length}
use Rattle.htx_model.specs.Blocks.{load}
use Rattle.htx_arena.specs.Layout.Raw.{blocks_of}
use Rattle.htx_arena.specs.Layout.Sound.{IsLaid, IsTop, IsKnown}
use Rattle.htx_arena.specs.declared.layout.array.Array.TheInside.{Inside}

-- the array is laid out as its descriptors tell, and the load, which is within the size, the top and, if it is kept, the least address are known
pub record IsWhole (a : Inside) : Type 0 where
  pub laid : IsLaid a.space a.count a.ends.front
  pub loaded : a.load ≡ load (blocks_of a.space a.count)
  pub topped : IsTop a.space a.count a.ends.top
  pub known : IsKnown a.space a.count a.ends.front a.ends.low
  pub fits : a.load ≤ length a.space
