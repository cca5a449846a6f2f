-- The line of a rule as text.
use Rattle.std.specs.Prelude.{ℕ, List, ◌++◌, codes, decimal}
use Rattle.http_rules.specs.declared.step.Step.{Step}
use Rattle.http_rules.specs.declared.step.Step.TheVariants.{Passed, Next, Skipped, Stop, Reply, Deny, Fail}
use Rattle.px_explain.specs.declared.trace.Which.{Which}
use Rattle.px_explain.specs.declared.trace.Which.TheVariants.{Request, Response, After}
use Rattle.px_explain.specs.declared.trace.TraceLine.{TraceLine}

-- the word of a list
abbrev pub which_name : Which → List ℕ
which_name Request = codes "request"
which_name Response = codes "response"
which_name After = codes "after"

-- what a rule came to
abbrev pub step_text : Step → List ℕ
step_text Passed = codes "passed"
step_text Next = codes "done"
step_text (Skipped why) = codes "skipped"
step_text Stop = codes "stop"
step_text Reply = codes "reply"
step_text (Deny code) = codes "deny " ++ decimal code
step_text (Fail why) = codes "fail"

-- the line of a rule: its list, its number and what it came to
unfoldable pub line_text : TraceLine → List ℕ
line_text line = which_name line.which ++ codes " rule " ++ decimal line.rule ++ codes " " ++ step_text line.step ++ codes "\n"
