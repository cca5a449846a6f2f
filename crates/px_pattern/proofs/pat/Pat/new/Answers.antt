use Rattle.px_pattern.proofs.Alike.{is_pattern}
use Rattle.px_pattern.proofs.pat.Pat.new.Goals as goal

pub returns-clause-read : goal.returns-clause-read
returns-clause-read c =
    rw c.leak-regex.ensures.value (rw c.in_ok-new.ensures.ok (is_pattern c.args.regex c.args.icase c.requires.config c.requires.source))
