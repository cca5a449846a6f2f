-- The configuration of generated sessions is accepted.
use Rattle.std.proofs.Common.{◌≡◌, ℕ, refl, Bool, true, false, List}
use Rattle.std.specs.Prelude.{[], ◌∷◌, Option, Some, None, Result, Ok, Err, ◌&&◌, IsSomeAnd, slice_get}
use Rattle.px_bytes.specs.Tokens.{is_token_byte}
use Rattle.px_pattern.specs.Pattern.{Pattern}
use Rattle.px_pattern.specs.Refusals.{Kept}
use Rattle.http_rules.specs.Rule.Actions.{field_action}
use Rattle.http_rules.specs.declared.config.Config.{Config}
use Rattle.cfg_lex.specs.Items as items
use Rattle.cfg_lex.specs.Words.{verdict, words_of}
use Rattle.cfg_expr.specs.Calls as calls
use Rattle.cfg_expr.specs.Exprs as exprs
use Rattle.cfg_expr.specs.Fetches as fetches
use Rattle.cfg_expr.specs.Formats as formats
use Rattle.cfg_expr.specs.Condition.Conditions.{rule_end}
use Rattle.cfg_parse.specs.Action.Actions as actions
use Rattle.cfg_parse.specs.Action.Arguments as arguments
use Rattle.cfg_parse.specs.Action.Asked.{format_at}
use Rattle.cfg_parse.specs.Action.Rules.{rule_of}
use Rattle.cfg_parse.specs.Addresses as addresses
use Rattle.cfg_parse.specs.Keywords as keywords
use Rattle.cfg_parse.specs.Lines as lines
use Rattle.cfg_parse.specs.Rules as rules
use Rattle.cfg_parse.specs.Settings as settings
use Rattle.cfg_parse.specs.Whole.{Builds, Loads, Refusal, application_of, config_of, lines_from, pattern_at, read_whole, whole}
use Rattle.cfg_parse.specs.declared.fault.CfgKind.{CfgKind}
use Rattle.cfg_parse.specs.declared.fault.CfgFault.{CfgFault}
use Rattle.cfg_parse.specs.declared.fault.CfgFault.TheVariants as faults
use Rattle.htx_drive.specs.Drill.Drill.{configuration}
use Rattle.proxy_commands.specs.Stops.{Input, StopsBy, stop_of_configuration}

abbrev asks_none : List (ℕ × Pattern) → Bool
asks_none [] = true
asks_none (first ∷ others) = false

abbrev gives_one : Result Config Refusal → Bool
gives_one (Ok cfg) = true
gives_one (Err refusal) = false

-- it asks for no pattern, and gives a configuration: by computation
reads : asks_none (read_whole configuration).asks && gives_one (read_whole configuration).gives ≡ true
unfolding configuration read_whole lines_from whole application_of lines.line_of lines.words_line lines.known_line lines.setting_line
    keywords.section_word keywords.general_setting keywords.listen_setting items.item_at items.plain verdict words_of
    settings.section_line settings.bind_line settings.bind_options settings.server_line settings.server_options
    addresses.address_of addresses.server_address_of addresses.named addresses.with_port addresses.port_of
    rules.rule_line rules.rule_added rules.has_room rule_of field_action rule_end format_at is_token_byte
    actions.action_parts actions.field_at actions.name_and_format actions.field_deleted arguments.made_name_at arguments.made_name arguments.is_framing
    formats.format_of formats.parts_from formats.part_at formats.sample_at formats.literal_in
    exprs.expr_of exprs.expr_at exprs.written_at exprs.convs_from
    calls.form_in calls.stop_in calls.argument fetches.source_of fetches.bare_fetch fetches.fetch_with fetches.field_fetch
reads = refl

both_true : (a b : Bool) → a && b ≡ true → (a ≡ true) × (b ≡ true)
both_true true b is = (refl, is)
both_true false b is = absurd cc

given_one : (r : Result Config Refusal) → gives_one r ≡ true → (cfg : Config) × (r ≡ Ok cfg)
given_one (Ok cfg) is = (cfg, refl)
given_one (Err refusal) is = absurd cc

pub drilled : (cfg : Config) × (config_of configuration None ≡ Ok cfg)
unfolding config_of
drilled = given_one (read_whole configuration).gives (both_true (asks_none (read_whole configuration).asks) (gives_one (read_whole configuration).gives) reads).1

no_pattern : (asks : List (ℕ × Pattern)) (number : ℕ) (P : ℕ × Pattern → Type 0) → asks_none asks ≡ true → IsSomeAnd (slice_get asks number) P → ⊥
no_pattern [] number P none there = there
no_pattern (first ∷ others) number P none there = absurd cc

unbuilt : (number : ℕ) (P : ℕ × Pattern → Type 0) → IsSomeAnd (pattern_at configuration number) P → ⊥
unfolding pattern_at
unbuilt number P there =
    no_pattern (read_whole configuration).asks number P (both_true (asks_none (read_whole configuration).asks) (gives_one (read_whole configuration).gives) reads).0 there

ok_or_err : (r : Result Config Refusal) (cfg : Config) (refusal : Refusal) → r ≡ Ok cfg → r ≡ Err refusal → ⊥
ok_or_err r cfg refusal p q = cc

-- so loading it is refused neither by its text nor by a builder
never_refused : (before now : ℕ) (kept : Kept) (line : ℕ) (kind : CfgKind) → Loads configuration before now kept (Err (faults.Refused line kind)) → ⊥
never_refused before now kept line kind loads = by_build loads.r loads.configures loads.builds
  where
    by_build : (r : Option ℕ) → config_of configuration r ≡ Err (line, kind) → Builds configuration r before now kept → ⊥
    by_build None refuses builds = ok_or_err (config_of configuration None) drilled.0 (line, kind) drilled.1 refuses
    by_build (Some number) refuses builds = unbuilt number _ builds.1

-- only want of memory stops it
pub drill_stops : (input : Input) (before now : ℕ) (kept : Kept) (fault : CfgFault) → Loads configuration before now kept (Err fault) → StopsBy input (stop_of_configuration fault)
drill_stops input before now kept (faults.Refused line kind) loads = absurd (never_refused before now kept line kind loads)
drill_stops input before now kept faults.OutOfMemory loads = tt
