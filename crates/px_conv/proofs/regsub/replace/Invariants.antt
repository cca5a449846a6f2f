use Rattle.std.proofs.Common.{◌≡◌, ◌++◌, length}
use Rattle.px_pattern.specs.Meaning.{pattern_of}
use Rattle.px_conv.specs.Regsub.{regsub}
use Rattle.px_conv.proofs.regsub.replace.Given as goal

-- what was put in, with what becomes of the text that is left, is the whole
abbrev pub invariant-matches : goal.invariant-matches
invariant-matches l = record {
  cap : l.into.cap ≡ l.initial.into.cap;
  whole : l.into.bytes ++ regsub (pattern_of l.by.pat.now) l.by.template.now l.by.which l.rest ≡ l.initial.into.bytes ++ regsub (pattern_of l.by.pat.now) l.by.template.now l.by.which l.text;
}

abbrev pub decreases-matches : goal.decreases-matches
decreases-matches l = length l.rest
