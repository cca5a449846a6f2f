use Rattle.std.proofs.Common.{◌≡◌, ◌++◌, drop}
use Rattle.std.specs.List.{flat_map}
use Rattle.px_explain.specs.Lines.{line_text}
use Rattle.px_explain.proofs.text.push_lines.Given as goal

-- what is left of the lines is still to come
abbrev pub invariant-loop-line : goal.invariant-loop-line
invariant-loop-line l = l.text ++ flat_map line_text (drop l.line-index l.lines) ≡ l.initial.text ++ flat_map line_text l.lines
