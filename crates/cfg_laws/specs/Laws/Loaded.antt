-- The configuration of any text can be said, and its canonical text loads to it again.
use Rattle.std.specs.Prelude.{◌≡◌, ℕ, true, List, Option, None, Ok}
use Rattle.http_rules.specs.Valid.{IsValid}
use Rattle.http_rules.specs.declared.config.Config.{Config}
use Rattle.cfg_parse.specs.Whole.{config_of}
use Rattle.cfg_print.specs.Fits.{fits}
use Rattle.cfg_print.specs.Printed.{config_text}
use Rattle.cfg_laws.specs.Laws.Configs.{IsSpelledConfig}

-- A configuration that was loaded can be said; one that is loaded is valid.
abbrev pub LoadedIsSpelled : Type 0
LoadedIsSpelled = (text : List ℕ) (r : Option ℕ) (config : Config) → config_of text r ≡ Ok config → IsValid config → IsSpelledConfig config

-- Where its canonical text fits the limits of a text, that loads to the same configuration, if each of its patterns is built.
abbrev pub LoadedReadsBack : Type 0
LoadedReadsBack = (text : List ℕ) (r : Option ℕ) (config : Config) → config_of text r ≡ Ok config → IsValid config → fits config ≡ true → config_of (config_text config) None ≡ Ok config
