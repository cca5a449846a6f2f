use Rattle.std.proofs.Common.{◌≡◌, rules}
use Rattle.regex.specs.Bytes.{matcher_pattern, regex_pattern}
use Rattle.px_pattern.proofs.Alike.{alike}
use Rattle.px_pattern.proofs.pat.Pat.searcher.Goals as goal

pub invariant_of-result : goal.invariant_of-result
invariant_of-result c =
    let same : matcher_pattern c.in_ok-matcher.matcher ≡ regex_pattern c.self.inside.regex.now = search rules in
    rw same (alike c.self.inside.regex.now c.self.inside.icase c.self.invariant.config c.self.invariant.read)
