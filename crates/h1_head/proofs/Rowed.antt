-- A decision names a row.
use Rattle.std.proofs.Common.{◌≡◌, true, false, Bool, List, refl}
use Rattle.std.specs.Prelude.{cond, Option, Some, None, Ok, Err}
use Rattle.http_model.specs.declared.Framing.{Framing}
use Rattle.http_model.specs.declared.Limits.{Limits}
use Rattle.http_model.specs.Head.{Field, StartLine}
use Rattle.http_model.specs.Reading.{Received}
use Rattle.h1_head.specs.declared.answer.HeadWhy.{HeadWhy}
use Rattle.h1_head.specs.declared.answer.HeadWhy.TheVariants as why
use Rattle.h1_head.specs.Rows.{is_over, kept_reading, unless_refused, decided}
use Rattle.h1_head.proofs.Lawful.{row_or_none, row_or_kept}

weighed : (r : Option HeadWhy) (heavy : Bool) (k : Received) → row_or_none r ≡ true → row_or_kept (unless_refused r (cond heavy (Err why.Receive) (Ok k))) ≡ true
weighed None true k e = refl
weighed None false k e = refl
weighed (Some w) heavy k e = e

pub decides_row : (r : Option HeadWhy) (framed : Framing) (limits : Limits) (line : StartLine) (fields : List Field) → row_or_none r ≡ true → row_or_kept (decided r framed limits line fields) ≡ true
unfolding decided
decides_row r framed limits line fields e = weighed r (is_over limits line fields) (kept_reading line framed fields) e
