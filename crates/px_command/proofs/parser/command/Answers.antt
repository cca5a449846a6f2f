use Rattle.std.proofs.Common.{codes}
use Rattle.clap.specs.Words.{App, with_subcommand}
use Rattle.px_command.specs.Parser.{check_shape, explain_shape, run_shape, top_level, two_words, weave_shape}
use Rattle.px_command.proofs.parser.command.Goals as goal

abbrev with_check : App → App
with_check level = with_subcommand level check_shape.top

abbrev with_replay : App → App
with_replay level = with_subcommand level (two_words (codes "replay") (codes "CFG") (codes "REC")).top

abbrev with_explain : App → App
with_explain level = with_subcommand level explain_shape.top

abbrev with_weave : App → App
with_weave level = with_subcommand level weave_shape.top

abbrev with_serve : App → App
with_serve level = with_subcommand level (two_words (codes "serve") (codes "CFG") (codes "COUNT")).top

abbrev with_run : App → App
with_run level = with_subcommand level run_shape.top

abbrev with_drill : App → App
with_drill level = with_subcommand level (two_words (codes "drill") (codes "SEED") (codes "COUNT")).top

pub returns : goal.returns
returns c =
    let replay_shape = two_words (codes "replay") (codes "CFG") (codes "REC") in
    let serve_shape = two_words (codes "serve") (codes "CFG") (codes "COUNT") in
    let drill_shape = two_words (codes "drill") (codes "SEED") (codes "COUNT") in
    let check = c.with_command-check.ensures.app top_level check_shape c.top_command.ensures.app c.check_command.ensures.app in
    let replay = c.with_command-replay.ensures.app (with_check top_level) replay_shape check c.replay_command.ensures.app in
    let explain = c.with_command-explain.ensures.app (with_replay (with_check top_level)) explain_shape replay c.explain_command.ensures.app in
    let weave = c.with_command-weave.ensures.app (with_explain (with_replay (with_check top_level))) weave_shape explain c.weave_command.ensures.app in
    let serve = c.with_command-serve.ensures.app (with_weave (with_explain (with_replay (with_check top_level)))) serve_shape weave c.serve_command.ensures.app in
    let run = c.with_command-run.ensures.app (with_serve (with_weave (with_explain (with_replay (with_check top_level))))) run_shape serve c.run_command.ensures.app in
    c.with_command.ensures.app (with_run (with_serve (with_weave (with_explain (with_replay (with_check top_level)))))) drill_shape run c.drill_command.ensures.app
