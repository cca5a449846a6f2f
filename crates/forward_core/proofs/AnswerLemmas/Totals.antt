-- Every stream of a server has a reading.
use Rattle.std.proofs.Common.{◌≡◌, ℕ, List, sym, subst}
use Rattle.std.specs.Prelude.{Some}
use Rattle.http_model.specs.declared.Ending.{Ending}
use Rattle.http_model.specs.declared.Ending.TheVariants as ending
use Rattle.http_model.specs.declared.Framing.{Framing}
use Rattle.http_model.specs.declared.Limits.{Limits}
use Rattle.http_model.specs.Reading.{BodyReading}
use Rattle.h1_body.specs.Body.{BodyAt, Left, UntilClose, InLine, InData, AtReturn, AtFeed, InSection, Over, Hopeless}
use Rattle.h1_body.specs.BodyOf.{BodyRead, Reads, More, IsBodyOf, BodyOf, Tells, unfinished, closes}

abbrev is_read : BodyRead → Type 0
is_read (Reads reading) = Unit {0}
is_read (More body) = ⊥

read_by : (found : List ℕ) (how : Ending) (read : BodyRead) → read ≡ unfinished found (Some how) → is_read read
read_by found how read e = subst is_read (sym e) tt

closed_by : (found : List ℕ) (how : Ending) (read : BodyRead) → read ≡ closes found (Some how) → is_read read
closed_by found ending.Closed read e = subst is_read (sym e) tt
closed_by found ending.Broke read e = subst is_read (sym e) tt

-- a stream that has ended leaves no body open
over_at : (most : ℕ) (at : BodyAt) (found : List ℕ) (how : Ending) (read : BodyRead) → Tells most at found (Some how) read → is_read read
over_at most (Over rest) found how read t = subst is_read (sym t) tt
over_at most UntilClose found how read t = closed_by found how read t
over_at most Hopeless found how read t = subst is_read (sym t) tt
over_at most (InSection section) found how (Reads reading) t = tt
over_at most (InSection section) found how (More body) t = read_by found how (More body) (sym t.0)
over_at most (Left left) found how read t = read_by found how read t
over_at most (InLine place n) found how read t = read_by found how read t
over_at most (InData left) found how read t = read_by found how read t
over_at most AtReturn found how read t = read_by found how read t
over_at most AtFeed found how read t = read_by found how read t

pub reads_over : (limits : Limits) (framing : Framing) (bytes : List ℕ) (how : Ending) (read : BodyRead) → IsBodyOf limits framing bytes (Some how) read → (body : BodyReading) × BodyOf limits framing bytes how body
reads_over limits framing bytes how (Reads reading) x = (reading, x)
reads_over limits framing bytes how (More body) x = absurd (over_at _ x.at x.found how (More body) x.tells)
