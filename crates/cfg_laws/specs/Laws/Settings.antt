-- Settings of a canonical text, and what is read of them.
use Rattle.std.specs.Prelude.{◌≡◌, ℕ, ◌+◌, List, [], ◌++◌, length, Bool, true, Option, None, Some, codes}
use Rattle.std.specs.List.{list_all}
use Rattle.std.specs.Str.Lines.{lines}
use Rattle.http_model.specs.declared.Limits.{Limits}
use Rattle.fcgi_model.specs.Application.{Application}
use Rattle.body_filter.specs.declared.filter_spec.FilterSpec.{FilterSpec}
use Rattle.http_rules.specs.Valid.{AreLimits, IsChain, IsValid}
use Rattle.http_rules.specs.declared.config.Config.{Config}
use Rattle.cfg_parse.specs.declared.draft.ApplicationLines.{ApplicationLines}
use Rattle.cfg_parse.specs.declared.draft.Draft.{Draft}
use Rattle.cfg_parse.specs.declared.draft.Section.TheVariants as sections
use Rattle.cfg_parse.specs.declared.draft.Listen.TheVariants as listens
use Rattle.cfg_parse.specs.Draft.{no_application}
use Rattle.cfg_parse.specs.Whole.{lines_from}
use Rattle.cfg_print.specs.Printed.{global_text, settings_text, filters_text}
use Rattle.cfg_print.specs.Fits.{has_words}
use Rattle.cfg_laws.specs.SpelledSettings.{are_spelled_settings, are_spelled_filters}

-- each line has words
abbrev pub have_words : List ℕ → Bool
have_words text = list_all has_words (lines text)

-- So many lines of a text make the one draft of the other, and ask for no pattern, whatever stands behind them; where each line has words, those behind them have.
abbrev pub Makes : (text : List ℕ) → (draft next : Draft) → (count : ℕ) → Type 0
Makes text draft next count = (number : ℕ) (rest : List ℕ) → have_words (text ++ rest) ≡ true
    → (lines_from number draft (lines (text ++ rest)) ≡ lines_from (number + count) next (lines rest)) × (have_words rest ≡ true)

-- ---- sizes

abbrev pub with_limits : Draft → Limits → Draft
with_limits draft limits = record draft { section = sections.Global; bufsize = Some limits.bufsize; maxrewrite = Some limits.maxrewrite }

-- the sizes are read back
abbrev pub GlobalReadBack : Type 0
GlobalReadBack = (draft : Draft) (limits : Limits) → AreLimits limits → Makes (global_text limits) draft (with_limits draft limits) 3

-- ---- what stands in `listen` without rules

-- how many lines say what an application is
abbrev pub count_path : Option (List ℕ) → ℕ
count_path None = 0
count_path (Some path) = 1

abbrev pub count_application : Option Application → ℕ
count_application None = 0
count_application (Some app) = 1 + (count_path app.index + count_path app.script)

-- what lines say of an application, without its pairs
abbrev pub application_lines : Option Application → ApplicationLines
application_lines None = no_application
application_lines (Some app) = record { is_asked = true; root = Some app.root; index = app.index; script = app.script; params = [] }

abbrev pub with_settings : Draft → Config → Draft
with_settings draft config =
    record draft {
      section = sections.Listen;
      listen = listens.Begun;
      timeouts = config.timeouts;
      bind = Some config.bind;
      accept_proxy = config.accept_proxy;
      server = Some config.server;
      send_proxy = config.send_proxy;
      application = application_lines config.application;
    }

-- no line of `listen` came
pub record IsFresh (draft : Draft) : Type 0 where
  pub listen : draft.listen ≡ listens.Missing
  pub bind : draft.bind ≡ None
  pub server : draft.server ≡ None
  pub application : draft.application ≡ no_application

-- the settings are read back
abbrev pub ListenReadBack : Type 0
ListenReadBack = (draft : Draft) (config : Config) → IsValid config → are_spelled_settings config ≡ true → IsFresh draft
    → Makes (settings_text config) draft (with_settings draft config) (10 + count_application config.application)

-- ---- filters

-- the filters of requests are read back
abbrev pub RequestFiltersReadBack : Type 0
RequestFiltersReadBack = (draft : Draft) (chain : List FilterSpec) → IsChain chain → are_spelled_filters chain ≡ true → draft.section ≡ sections.Listen → draft.req_filters ≡ []
    → Makes (filters_text (codes "req") chain) draft (record draft { req_filters = chain }) (length chain)

-- the same of responses
abbrev pub ResponseFiltersReadBack : Type 0
ResponseFiltersReadBack = (draft : Draft) (chain : List FilterSpec) → IsChain chain → are_spelled_filters chain ≡ true → draft.section ≡ sections.Listen → draft.res_filters ≡ []
    → Makes (filters_text (codes "res") chain) draft (record draft { res_filters = chain }) (length chain)
