use Rattle.std.proofs.Common.{◌≡◌, ℕ, List, arith, subst, sym, ◌∙◌}
use Rattle.std.specs.Prelude.{Ok}
use Rattle.httparse.specs.declared.Error.{Error}
use Rattle.httparse.specs.declared.Status.{Status}
use Rattle.httparse.specs.declared.spans.HeaderSpan.{HeaderSpan}
use Rattle.httparse.specs.Outcome.{IfComplete, OnPartial}
use Rattle.httparse.specs.Grammar.{HasNoSection}
use Rattle.httparse.specs.Spans.{IsSectionOf, IsSectionWithin}
use Rattle.h1_body.proofs.Sections.{found_whole, found_long, found_named, overflows, filled, crowded}
use Rattle.h1_body.proofs.section.read_section.Goals as goal

within_at : (w : List ℕ) (headers : List HeaderSpan) (used count : ℕ) (s : Status (ℕ × ℕ)) → s ≡ Status.Complete (used, count)
    → IfComplete {E = Error} (Ok s) (λ r. IsSectionWithin w headers r.0 r.1) → IsSectionWithin w headers used count
within_at w headers used count s is within = subst (λ (t : Status (ℕ × ℕ)). IfComplete {E = Error} (Ok t) (λ r. IsSectionWithin w headers r.0 r.1)) is within

section_at : (w : List ℕ) (headers : List HeaderSpan) (used count : ℕ) (s : Status (ℕ × ℕ)) → s ≡ Status.Complete (used, count)
    → IfComplete {E = Error} (Ok s) (IsSectionOf w 0 headers) → IsSectionOf w 0 headers (used, count)
section_at w headers used count s is found = subst (λ (t : Status (ℕ × ℕ)). IfComplete {E = Error} (Ok t) (IsSectionOf w 0 headers)) is found

pub returns-then-used-limit : goal.returns-then-used-limit
returns-then-used-limit c =
    let w = c.args.window.now in
    let headers = c.parse_headers.new.headers in
    let parsed = c.in-Ok-Complete in
    let within = within_at w headers parsed.used parsed.count parsed.field-0 parsed.field-0-is parsed.ensures.within in
    found_long c.args.limit parsed.used parsed.count w headers within.len_fits
    (section_at w headers parsed.used parsed.count parsed.field-0 parsed.field-0-is parsed.ensures.complete) (omega arith)

pub returns-then-has_short_names : goal.returns-then-has_short_names
returns-then-has_short_names c =
    let w = c.args.window.now in
    let headers = c.parse_headers.new.headers in
    let parsed = c.in-Ok-Complete in
    let within = within_at w headers parsed.used parsed.count parsed.field-0 parsed.field-0-is parsed.ensures.within in
    found_whole c.args.limit parsed.used parsed.count w headers (omega arith) within.len_fits
    (section_at w headers parsed.used parsed.count parsed.field-0 parsed.field-0-is parsed.ensures.complete) (omega arith)
    (sym c.has_short_names.ensures ∙ c.if-has_short_names.true)

pub returns-else-has_short_names : goal.returns-else-has_short_names
returns-else-has_short_names c =
    let w = c.args.window.now in
    let headers = c.parse_headers.new.headers in
    let parsed = c.in-Ok-Complete in
    found_named c.args.limit parsed.used parsed.count w headers
    (section_at w headers parsed.used parsed.count parsed.field-0 parsed.field-0-is parsed.ensures.complete)
    (sym c.has_short_names.ensures ∙ c.if-has_short_names.false)

none_at : (w : List ℕ) (s : Status (ℕ × ℕ)) → s ≡ Status.Partial → OnPartial {E = Error} (Ok s) (HasNoSection w) → HasNoSection w
none_at w s is h = subst (λ (t : Status (ℕ × ℕ)). OnPartial {E = Error} (Ok t) (HasNoSection w)) is h

pub returns-then-window-limit : goal.returns-then-window-limit
returns-then-window-limit c =
    let none = none_at c.args.window.now c.in-Ok-Partial.field-0 c.in-Ok-Partial.field-0-is c.in-Ok-Partial.ensures.partial in
    filled c.args.limit c.args.window.now none c.if-window-limit.true

pub returns-then-line_feeds-ge-MAX_LINES : goal.returns-then-line_feeds-ge-MAX_LINES
returns-then-line_feeds-ge-MAX_LINES c =
    let none = none_at c.args.window.now c.in-Ok-Partial.field-0 c.in-Ok-Partial.field-0-is c.in-Ok-Partial.ensures.partial in
    crowded c.args.limit c.args.window.now none (omega (arith, c.line_feeds.ensures))

pub returns-in-Err : goal.returns-in-Err
returns-in-Err c = overflows c.args.limit c.args.window.now c.in-Err.ensures.no_room
