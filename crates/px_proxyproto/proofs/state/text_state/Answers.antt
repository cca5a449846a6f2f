use Rattle.std.proofs.Common.{◌≡◌, ℕ, false, List, ◌++◌, sym, subst, rules}
use Rattle.px_proxyproto.specs.Binary.{signature}
use Rattle.px_proxyproto.specs.Lines.{Agrees}
use Rattle.px_proxyproto.specs.Headers.{NoHeader}
use Rattle.px_proxyproto.proofs.Lines.{no_header, no_line_told}
use Rattle.px_proxyproto.proofs.state.text_state.Goals as goal

pub returns-then-not-may_begin : goal.returns-then-not-may_begin
returns-then-not-may_begin c =
    let is : c.may_begin.result ≡ false = search rules in
    no_header c.args.bytes.now c.requires (c.may_begin.ensures is)

pub returns-in_default-read_line : goal.returns-in_default-read_line
returns-in_default-read_line c =
    let cut = c.in-Some.ensures.some in
    let line : List ℕ = c.in-Some.line.now in
    let end : List ℕ = c.in-Some.end.now in
    let never = no_header (c.in-Some.line.now ++ c.in-Some.end.now) (λ a. c.requires (subst (λ (t : List ℕ). Agrees t signature) (sym cut.0) a))
    (no_line_told c.in-Some.line.now c.in-Some.end.now cut.1 cut.2 c.in_default-read_line.ensures.none) in
    subst NoHeader (sym cut.0) never
