-- What all lines of a canonical text made, and what it comes to.
use Rattle.std.specs.Prelude.{◌≡◌, true, Option, None, Some, Ok}
use Rattle.fcgi_model.specs.Application.{Application}
use Rattle.http_rules.specs.Valid.{IsValid}
use Rattle.http_rules.specs.declared.config.Config.{Config}
use Rattle.cfg_parse.specs.declared.draft.ApplicationLines.{ApplicationLines}
use Rattle.cfg_parse.specs.declared.draft.Draft.{Draft}
use Rattle.cfg_parse.specs.declared.draft.Listen.TheVariants as listens
use Rattle.cfg_parse.specs.Whole.{whole}
use Rattle.cfg_print.specs.Pairs.{pair_names}
use Rattle.cfg_print.specs.Printed.{plain_rules, pair_rules}
use Rattle.cfg_laws.specs.SpelledPairs.{are_spelled_pairs}
use Rattle.cfg_laws.specs.Laws.Settings.{application_lines}

-- what lines say of an application, with its pairs
abbrev pub application_and_pairs : Option Application → ApplicationLines
application_and_pairs app = record (application_lines app) { params = pair_names app }

-- A draft with all that the lines of a configuration tell. The section, the `acl` lines and the number of tests stay: they tell nothing of what is made.
abbrev pub with_all : Draft → Config → Draft
with_all draft config =
    record draft {
      listen = listens.Begun;
      bufsize = Some config.limits.bufsize;
      maxrewrite = Some config.limits.maxrewrite;
      timeouts = config.timeouts;
      bind = Some config.bind;
      accept_proxy = config.accept_proxy;
      server = Some config.server;
      send_proxy = config.send_proxy;
      application = application_and_pairs config.application;
      request = plain_rules config;
      response = config.response;
      after = config.after;
      param_rules = pair_rules config;
      req_filters = config.req_filters;
      res_filters = config.res_filters;
      forwarding = None;
    }

-- the configuration is made again; a text tells no peer
abbrev pub WholeReadBack : Type 0
WholeReadBack = (draft : Draft) (config : Config) → IsValid config → are_spelled_pairs config ≡ true → config.peer ≡ None → whole (with_all draft config) ≡ Ok config
