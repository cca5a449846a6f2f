use Rattle.std.proofs.Common.{rules, ◌≡◌, map}
use Rattle.std.specs.Prelude.{string_bytes}
use Rattle.clap.specs.Words.{kind_of}
use Rattle.clap.specs.declared.error.kind.ErrorKind.TheVariants.{OutOfMemory}
use Rattle.px_command.proofs.Passes.{refused_usage}
use Rattle.px_command.proofs.ask.refused.Goals as goal

pub returns : goal.returns
returns c =
    let other : kind_of c.args.error.now ≡ OutOfMemory → ⊥ = search rules in
    (refused_usage (map string_bytes c.args.words.now) c.args.error.now c.requires.refused other c.requires.text c.requires.run, c.in_ok-text.ensures)
