-- The configuration so far, while lines are read.
use Rattle.std.specs.Prelude.{[], Bool, true, false, None}
use Rattle.http_rules.specs.declared.config.Timeouts.{Timeouts}
use Rattle.cfg_parse.specs.declared.draft.ApplicationLines.{ApplicationLines}
use Rattle.cfg_parse.specs.declared.draft.Draft.{Draft}
use Rattle.cfg_parse.specs.declared.draft.Section.{Section}
use Rattle.cfg_parse.specs.declared.draft.Section.TheVariants as sections
use Rattle.cfg_parse.specs.declared.draft.Listen.{Listen}
use Rattle.cfg_parse.specs.declared.draft.Listen.TheVariants as listens
use Rattle.cfg_parse.specs.declared.keywords.Places.{Places}
use Rattle.cfg_parse.specs.declared.keywords.Places.TheVariants.{InGlobal, InBoth, InListen}

-- where no line gives them, in milliseconds
abbrev pub default_timeouts : Timeouts
default_timeouts = record { client = 60000; server = 60000; connect = 5000; http_request = 10000; http_keep_alive = 10000 }

-- no line says how an application is asked
abbrev pub no_application : ApplicationLines
no_application = record { is_asked = false; root = None; index = None; script = None; params = [] }

-- before the first line
abbrev pub start : Draft
start =
    record {
      section = sections.Before;
      listen = listens.Missing;
      bufsize = None;
      maxrewrite = None;
      timeouts = default_timeouts;
      bind = None;
      accept_proxy = false;
      server = None;
      send_proxy = None;
      application = no_application;
      acls = [];
      tests = 0;
      request = [];
      response = [];
      after = [];
      param_rules = [];
      req_filters = [];
      res_filters = [];
      forwarding = None;
    }

-- no section has begun
abbrev pub is_before : Section → Bool
is_before sections.Before = true
is_before sections.Global = false
is_before sections.Defaults = false
is_before sections.Listen = false

-- the sections in which a setting may stand
abbrev pub belongs : Places → Section → Bool
belongs InGlobal sections.Global = true
belongs InBoth sections.Defaults = true
belongs InBoth sections.Listen = true
belongs InListen sections.Listen = true
belongs _ _ = false

-- lines stand in `listen`
abbrev pub is_listen : Section → Bool
is_listen sections.Before = false
is_listen sections.Global = false
is_listen sections.Defaults = false
is_listen sections.Listen = true

-- a `listen` section has begun
abbrev pub has_listen : Listen → Bool
has_listen listens.Missing = false
has_listen listens.Begun = true
