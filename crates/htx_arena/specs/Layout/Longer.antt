-- A payload that becomes longer: bytes of its own that stand in the array, and others behind them.
use Rattle.std.specs.Prelude.{ℕ, ◌≡◌, ◌+◌, ◌<◌, ◌≤◌, ◌++◌, List, length}
use Rattle.htx_arena.specs.Space.Windows.{window}
use Rattle.htx_arena.specs.Layout.Raw.{info_len, Tells}
use Rattle.htx_arena.specs.declared.layout.longer.Longer.{Longer}

-- the bytes of its own that stay
abbrev pub kept_bytes : List ℕ → Longer → List ℕ
kept_bytes raw l = window raw l.from (info_len l.kept.0)

-- all of its bytes
abbrev pub longer_bytes : List ℕ → Longer → List ℕ
longer_bytes raw l = kept_bytes raw l ++ l.more.now

-- its two info words tell what stays and what it becomes
pub record IsLonger (raw : List ℕ) (l : Longer) : Type 0 where
  pub source : l.from + info_len l.kept.0 ≤ length raw
  pub some : 0 < info_len l.kept.0
  pub kept_tells : Tells l.kept.0 (kept_bytes raw l)
  pub len : info_len l.info.0 ≡ info_len l.kept.0 + length l.more.now
  pub tells : Tells l.info.0 (longer_bytes raw l)
