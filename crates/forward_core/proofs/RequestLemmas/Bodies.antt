-- The bodies that a stream comes to, behind what a lane has taken.
use Rattle.std.proofs.Common.{◌≡◌, ℕ, List, [], ◌++◌, refl, ap, sym, ◌∙◌, subst, append_assoc}
use Rattle.std.specs.Prelude.{Option, Some, None}
use Rattle.std.proofs.lemmas.List.{append-nil}
use Rattle.http_model.specs.declared.Ending.{Ending}
use Rattle.http_model.specs.declared.Ending.TheVariants as ending
use Rattle.http_model.specs.declared.Limits.{Limits}
use Rattle.http_model.specs.declared.Framing.{Framing}
use Rattle.http_model.specs.Reading.{Broke}
use Rattle.session_model.specs.Stream.{Stream}
use Rattle.session_core.specs.History.{ContinuesBy}
use Rattle.h1_body.specs.Body.{BodyAt, Left, UntilClose, InLine, InData, AtReturn, AtFeed, InSection, Over, Hopeless}
use Rattle.h1_body.specs.BodyOf.{BodyRead, Reads, More, IsBodyOf, Tells}
use Rattle.h1_body.specs.Section.{section_limit}
use Rattle.lane.specs.Direction.Sends.{Past}
use Rattle.lane.specs.Direction.Promise.{OnEachBody, GoesOnWith}
use Rattle.lane.specs.declared.direction.lane.Lane.{Lane}
use Rattle.forward_core.proofs.RequestLemmas.Messages.{reading_in}

-- ---- how streams go on

-- what follows the bytes so far
pub record Follows (ended : Option Ending) (bytes : List ℕ) (rest : Stream) : Type 0 where
  pub more : List ℕ
  pub is : rest.bytes ≡ bytes ++ more
  pub goes : GoesOnWith ended more (Some rest.ending)

pub follows : (ended : Option Ending) (bytes : List ℕ) (rest : Stream) → ContinuesBy ended bytes rest → Follows ended bytes rest
follows None bytes rest c = record { more = c.0; is = c.1; goes = tt }
follows (Some how) bytes rest c = record { more = []; is = c.0 ∙ sym (append-nil bytes); goes = (refl, ap Some c.1) }

no_ending : (ended : Option Ending) (more : List ℕ) (last : Option Ending) → ended ≡ None → GoesOnWith ended more last
no_ending ended more last e = subst (λ (o : Option Ending). GoesOnWith o more last) (sym e) tt

with_limits : (was now : Limits) (reads : Framing) (bytes : List ℕ) (last : Option Ending) (read : BodyRead) → now ≡ was → IsBodyOf now reads bytes last read → IsBodyOf was reads bytes last read
with_limits was now reads bytes last read e x = subst (λ (l : Limits). IsBodyOf l reads bytes last read) e x

-- what holds of each body that may come holds where more bytes came
pub each_more : (old new : Lane) (p : Past) (bytes : List ℕ) (P : BodyRead → Type 0) → old.ended ≡ None → new.limits ≡ old.limits → OnEachBody old p P → OnEachBody new (record p { bytes = p.bytes ++ bytes }) P
each_more old new p bytes P open_ limits each more last g read x =
    each (bytes ++ more) last (no_ending old.ended (bytes ++ more) last open_) read
    (subst (λ (all : List ℕ). IsBodyOf old.limits p.reads all last read) (append_assoc p.bytes bytes more) (with_limits old.limits new.limits p.reads ((p.bytes ++ bytes) ++ more) last read limits x))

-- where the stream ended
pub each_ended : (old new : Lane) (p : Past) (P : BodyRead → Type 0) → old.ended ≡ None → new.limits ≡ old.limits → OnEachBody old p P → OnEachBody new p P
each_ended old new p P open_ limits each more last g read x = each more last (no_ending old.ended more last open_) read (with_limits old.limits new.limits p.reads (p.bytes ++ more) last read limits x)

-- and where neither did
pub each_same : (old new : Lane) (p : Past) (P : BodyRead → Type 0) → new.ended ≡ old.ended → new.limits ≡ old.limits → OnEachBody old p P → OnEachBody new p P
each_same old new p P ended limits each more last g read x =
    each more last (subst (λ (o : Option Ending). GoesOnWith o more last) ended g) read (with_limits old.limits new.limits p.reads (p.bytes ++ more) last read limits x)

-- ---- readings

-- behind an ending no body is still to be whole
no_more : (most : ℕ) (at : BodyAt) (found : List ℕ) (how : Ending) (body : List ℕ) → Tells most at found (Some how) (More body) → ⊥
no_more most (Over rest) found how body h = cc
no_more most UntilClose found ending.Closed body h = cc
no_more most UntilClose found ending.Broke body h = cc
no_more most Hopeless found how body h = cc
no_more most (InSection section) found how body h = let e : Reads (Broke found) ≡ More body = h.0 in cc
no_more most (Left left) found how body h = cc
no_more most (InLine place n) found how body h = cc
no_more most (InData left) found how body h = cc
no_more most AtReturn found how body h = cc
no_more most AtFeed found how body h = cc

pub is_read : (limits : Limits) (framing : Framing) (bytes : List ℕ) (how : Ending) (read : BodyRead) → IsBodyOf limits framing bytes (Some how) read → read ≡ Reads (reading_in read)
is_read limits framing bytes how (Reads b) x = refl
is_read limits framing bytes how (More body) x = absurd (no_more (section_limit limits) x.at x.found how body x.tells)
