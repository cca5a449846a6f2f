-- The meaning that a configuration gives to a session: how streams are read, what rules and filters make of messages, and the
-- lives of variables.
use Rattle.std.specs.Prelude.{ℕ, List, [], ◌∷◌, Bool, true, false, nat_lt, if◌then◌else◌, Option, Some, None}
use Rattle.std.specs.List.{list_any}
use Rattle.h1_head.specs.Request.{RequestOf}
use Rattle.h1_head.specs.Response.{ResponseOf}
use Rattle.h1_body.specs.BodyOf.{BodyOf}
use Rattle.body_filter.specs.declared.filter_spec.FilterSpec.{FilterSpec}
use Rattle.body_filter.specs.declared.filter_spec.FilterSpec.TheVariants.{Limit, Deny, Replace}
use Rattle.body_filter.specs.declared.filter_spec.FedState.{FedState}
use Rattle.body_filter.specs.declared.filter_spec.FedState.TheVariants.{Going, Over, Refused}
use Rattle.body_filter.specs.Filter as filter
use Rattle.session_model.specs.Meaning.{Meaning, Filters, Filtered}
use Rattle.px_sample.specs.Variables.{Variables}
use Rattle.http_rules.specs.declared.config.Config.{Config}
use Rattle.http_rules.specs.Rules.{rules_of, after_of}
use Rattle.http_rules.specs.Lives.{renewed, answering}
use Rattle.http_rules.specs.Valid as valid
use Rattle.forward_core.specs.Meaning.Beginning.{beginning}

-- ---- filters of one direction

-- the code of the refusal, where a filter refused the body
abbrev pub refused_in : FedState → Option ℕ
refused_in Going = None
refused_in Over = None
refused_in (Refused code) = Some code

-- what was given, and the refusal
abbrev pub filtered_as : filter.Filtered → Filtered
filtered_as made = record { output = made.output; refused = refused_in made.state }

abbrev pub is_replace : FilterSpec → Bool
is_replace spec = valid.is_replace spec

-- a filter changes the length of bodies, so they are sent in chunks
abbrev pub replaces : List FilterSpec → Bool
replaces filters = list_any is_replace filters

-- whether a filter decides that a length is within the limits or passes one: a filter that replaces ends the search
abbrev pub decided_by : FilterSpec → (length : ℕ) → Option Bool
decided_by (Limit most) length = if nat_lt most length then Some true else None
decided_by (Deny needle) length = None
decided_by (Replace from to) length = Some false

abbrev pub or_else : Option Bool → Bool → Bool
or_else (Some decided) others = decided
or_else None others = others

-- the length passes a limit that stands in front of any filter that replaces
unfoldable pub passes_limit : List FilterSpec → (length : ℕ) → Bool
passes_limit [] length = false
passes_limit (filter ∷ filters) length = or_else (decided_by filter length) (passes_limit filters length)

abbrev pub filters_of : List FilterSpec → Filters
filters_of filters =
    record {
      filter = λ body. filtered_as (filter.filtered filters true body);
      filter_so_far = λ front. filtered_as (filter.filtered filters false front);
      replaces = replaces filters;
      passes_limit = passes_limit filters;
    }

-- ---- a configuration

abbrev pub meaning_of : Config → Meaning
meaning_of cfg =
    record {
      limits = cfg.limits;
      Vars = Variables;
      begins = beginning cfg.peer;
      renewed = renewed;
      answering = answering;
      reads_request = RequestOf cfg.limits;
      reads_response = λ head_asked. ResponseOf head_asked cfg.limits;
      reads_body = BodyOf cfg.limits;
      request_rules = rules_of cfg.limits.bufsize cfg.request;
      response_rules = rules_of cfg.limits.bufsize cfg.response;
      after_rules = after_of cfg.limits.bufsize cfg.after;
      request_filters = filters_of cfg.req_filters;
      response_filters = filters_of cfg.res_filters;
    }
