-- What the sessions of a record ask of a configuration.
use Rattle.std.specs.Prelude.{ℕ, ◌≤◌}
use Rattle.http_rules.specs.declared.config.Config.{Config}
use Rattle.http_rules.specs.Valid.{IsValid}
use Rattle.forward_core.specs.Meaning.Product.{meaning_of}
use Rattle.session_core.specs.Consequences.{IsTotal}
use Rattle.session_core.specs.MeaningLaws.Bound.{IsBounded}

-- It is valid, and an output window has room for the shortest text that isn't split; each stream has a reading, and what is put out is bounded.
pub record IsReady (cfg : Config) (window : ℕ) : Type 0 where
  pub valid : IsValid cfg
  pub window_room : 64 ≤ window
  pub some_room : 1 ≤ cfg.limits.bufsize
  pub bounded : IsBounded (meaning_of cfg)
  pub total : IsTotal (meaning_of cfg)
