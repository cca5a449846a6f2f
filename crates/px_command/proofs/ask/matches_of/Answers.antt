use Rattle.std.proofs.Common.{map}
use Rattle.std.specs.Prelude.{string_bytes}
use Rattle.clap.specs.Words.{app_of}
use Rattle.px_command.proofs.Passes.{all_refused}
use Rattle.px_command.proofs.ask.matches_of.Goals as goal

pub returns-in-Ok : goal.returns-in-Ok
returns-in-Ok c =
    all_refused (app_of c.in-Ok.command) (map string_bytes c.args.words.now) c.try_get_matches_from.result c.in-Ok.ensures c.try_get_matches_from.ensures.kinds
