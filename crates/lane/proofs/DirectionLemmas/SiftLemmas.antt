-- What a step of the filters makes of a message that is sent.
use Rattle.std.proofs.Common.{◌≡◌, ℕ, ◌+◌, ◌<◌, ◌≤◌, inl, inr, List, [], ◌++◌, true, false, refl, sym, ap, ◌∙◌, subst, length, arith}
use Rattle.std.specs.Prelude.{Option, Some, None}
use Rattle.std.proofs.lemmas.List.{append-nil}
use Rattle.htx_model.specs.Block.{Block}
use Rattle.htx_model.specs.Blocks.{append_data, load, Fits}
use Rattle.htx_arena.specs.Layout.Contents.{Contents}
use Rattle.http_model.specs.declared.Limits.{Limits}
use Rattle.http_model.specs.declared.Framing.{Framing}
use Rattle.http_model.specs.declared.Ending.{Ending}
use Rattle.http_model.specs.Head.{Field, message_blocks}
use Rattle.h1_body.specs.Body.{BodyAt}
use Rattle.h1_body.specs.BodyOf.{StateTells}
use Rattle.h1_body.specs.Section.{HasTrailers, section_limit}
use Rattle.h1_body.specs.Trailers.{trailer_blocks}
use Rattle.h1_body.specs.Stands.{HasRead, Stands, section_in as read_section}
use Rattle.h1_body.specs.declared.reader.BodyReader.{BodyReader}
use Rattle.h1_body.specs.declared.reader.BodyState.{BodyState}
use Rattle.h1_body.specs.declared.reader.BodyState.TheVariants as state
use Rattle.h1_body.specs.declared.stages.Stage.{Stage}
use Rattle.h1_body.specs.declared.stages.Stage.TheVariants as stage
use Rattle.h1_body.proofs.PublicLaws.{told}
use Rattle.body_filter.specs.declared.filter_spec.FilterSpec.{FilterSpec}
use Rattle.lane.specs.Sieve.Sieved.{HasSieved, SievedAt, is_ended, Sifts, end_of, section_in, is_open, sift_left}
use Rattle.lane.specs.declared.sieve.sieve.BodyEnd.{BodyEnd}
use Rattle.lane.specs.declared.sieve.sieve.BodyEnd.TheVariants as body_end
use Rattle.lane.specs.declared.sieve.sieve.Sifted.{Sifted}
use Rattle.lane.specs.declared.sieve.sieve.Sifted.TheVariants as sifted
use Rattle.lane.specs.declared.sieve.sieve.Sieve.{Sieve}
use Rattle.lane.specs.Direction.Carried.{Carried, CarriesFront, Carries}
use Rattle.lane.specs.Direction.Coming.{ComesTo, Comes, ComesBy, Given, EndsWith, SameEnd, IsCutNow, came_at}
use Rattle.lane.specs.Direction.Filtering.{HasPassed, AreThese, SieveFits, SieveRests, IsWholeAt, EndsAt, GoesOnBy, IsEndAt, CutBy, Broken, RefusedNow, RefusedAtEnd, held_left}
use Rattle.lane.specs.Direction.Sent.{message_of}
use Rattle.lane.specs.Direction.Sends.{Past, Sends, SourceIs, put_out, is_going, end_left}
use Rattle.lane.specs.declared.direction.sift.Came.{Came}
use Rattle.lane.specs.declared.direction.sift.Came.TheVariants as came
use Rattle.http_model.specs.declared.Source.{Source}
use Rattle.http_model.specs.declared.Source.TheVariants as source
use Rattle.lane.specs.Direction.State.{LaneState}
use Rattle.lane.proofs.DirectionLemmas.RoomLemmas.{trailers_fit}
use Rattle.lane.proofs.DirectionLemmas.ReadLemmas.{carried, further, read_on, read_last}
use Rattle.lane.proofs.DirectionLemmas.SendLemmas.{sends_goes}

-- ---- what a step comes to

abbrev given_of : (filters : List FilterSpec) (found passed : List ℕ) (old new : Sieve) (answer : Sifted) (blocks : List Block) (x : Sifts old new answer blocks) → section_in new ≡ section_in old → HasSieved filters found passed old
    → Given filters found passed old new blocks
given_of filters found passed old new answer blocks x section has = record { piece = x.piece; put = x.put; sieved = x.sieved filters found passed has; section = section }

pub comes : (answer : Sifted) (size : ℕ) (old new : Sieve) (blocks : List Block) → Sifts old new answer blocks → section_in new ≡ section_in old → Comes (came_at answer) size old new blocks
comes sifted.Gave size old new blocks x section filters found passed has =
    let t = x.tells filters found passed has in (given_of filters found passed old new sifted.Gave blocks x section has, inl t.0, t.1)
comes sifted.Accepted size old new blocks x section filters found passed has =
    let t = x.tells filters found passed has in (given_of filters found passed old new sifted.Accepted blocks x section has, inr (t.0, t.1), t.2)
comes sifted.Cut size old new blocks x section filters found passed has =
    let t = x.tells filters found passed has in (given_of filters found passed old new sifted.Cut blocks x section has, inl (t.1, refl, t.3), t.2)
comes (sifted.Refused code) size old new blocks x section filters found passed has =
    let t = x.tells filters found passed has in (given_of filters found passed old new (sifted.Refused code) blocks x section has, inr t.2, t.1)
comes sifted.Idle size old new blocks x section filters found passed has =
    let t = x.tells filters found passed has in
    let same : passed ++ x.piece ≡ passed = ap (λ (b : List ℕ). passed ++ b) t.3 ∙ append-nil passed in (
      x.put ∙ ap (append_data []) t.3,
      subst (λ (b : List ℕ). HasSieved filters found b new) same (x.sieved filters found passed has),
      record { end = t.0 ∙ t.1; held = t.2 },
      x.still refl,
      t.0,
      section,
    )

-- ---- the filters stay these

these_to : (answer : Came) (filters : List FilterSpec) (found passed : List ℕ) (size : ℕ) (old new : Sieve) (blocks : List Block) → HasSieved filters found passed old → ComesTo answer filters found passed size old new blocks → AreThese (Some new) filters
these_to came.More filters found passed size old new blocks has t = (found, passed ++ t.0.piece, t.0.sieved)
these_to came.Waits filters found passed size old new blocks has t = (found, passed, t.1)
these_to (came.Ends source.Going) filters found passed size old new blocks has t = absurd t
these_to (came.Ends source.Whole) filters found passed size old new blocks has t = (found, passed, subst (λ (s : Sieve). HasSieved filters found passed s) (sym t.1) has)
these_to (came.Ends (source.Cut code)) filters found passed size old new blocks has t = (found, passed ++ t.0.piece, t.0.sieved)

pub these_on : (answer : Came) (size : ℕ) (old new : Option Sieve) (blocks : List Block) → ComesBy answer size old new blocks → (filters : List FilterSpec) → AreThese old filters → AreThese new filters
these_on answer size None new blocks x filters these = subst (λ (o : Option Sieve). AreThese o filters) (sym x.0) these
these_on answer size (Some old) new blocks x filters (found, passed, has) =
    subst (λ (o : Option Sieve). AreThese o filters) (sym x.1) (these_to answer filters found passed size old x.0 blocks has (x.2 filters found passed has))

-- ---- less is left

open_within : (old new : BodyEnd) → SameEnd old new → is_open new ≤ is_open old
open_within old new (inl e) = subst (λ (b : BodyEnd). is_open b ≤ is_open old) (sym e) (omega arith)
open_within old new (inr (is, e)) = subst (λ (b : BodyEnd). is_open b ≤ is_open old) (sym e) (omega arith)

pub more_left : (size : ℕ) (old new : Option Sieve) (blocks : List Block) → ComesBy came.More size old new blocks → (filters : List FilterSpec) × AreThese old filters
    → (held_left new < held_left old) × (end_left source.Going new ≤ end_left source.Going old)
more_left size None new blocks x these = absurd (let both : came.More ≡ came.Waits = x.1 in cc both)
more_left size (Some old) new blocks x (filters, (found, passed, has)) =
    let t = x.2 filters found passed has in
    subst (λ (o : Option Sieve). (held_left o < sift_left old) × (end_left source.Going o ≤ is_open (end_of old))) (sym x.1) (t.2, open_within (end_of old) (end_of x.0) t.1)

ends_within : (src : Source) (filters : List FilterSpec) (found passed : List ℕ) (size : ℕ) (old new : Sieve) (blocks : List Block) → EndsWith src filters found passed size old new blocks
    → (sift_left new ≤ sift_left old) × (is_going src ≡ 0) × ((o : Option Sieve) → end_left src o ≡ 0)
ends_within source.Going filters found passed size old new blocks t = absurd t
ends_within source.Whole filters found passed size old new blocks t = (subst (λ (s : Sieve). sift_left s ≤ sift_left old) (sym t.1) (omega arith), refl, λ o. refl)
ends_within (source.Cut code) filters found passed size old new blocks t = (t.2, refl, λ o. refl)

pub ends_left : (src : Source) (size : ℕ) (old new : Option Sieve) (blocks : List Block) → ComesBy (came.Ends src) size old new blocks → (filters : List FilterSpec) × AreThese old filters
    → (held_left new ≤ held_left old) × (is_going src ≡ 0) × (end_left src new ≡ 0)
ends_left src size None new blocks x these = absurd (let both : came.Ends src ≡ came.Waits = x.1 in cc both)
ends_left src size (Some old) new blocks x (filters, (found, passed, has)) =
    let t = ends_within src filters found passed size old x.0 blocks (x.2 filters found passed has) in
    (subst (λ (o : Option Sieve). held_left o ≤ sift_left old) (sym x.1) t.0, t.1, t.2 new)

pub waits_left : (size : ℕ) (old new : Option Sieve) (blocks : List Block) → ComesBy came.Waits size old new blocks → (filters : List FilterSpec) × AreThese old filters
    → SieveRests new × (blocks ≡ []) × (end_left source.Going new ≤ end_left source.Going old)
waits_left size None new blocks x these = (subst SieveRests (sym x.0) tt, x.2, subst (λ (o : Option Sieve). end_left source.Going o ≤ 1) (sym x.0) (omega arith))
waits_left size (Some old) new blocks x (filters, (found, passed, has)) =
    let t = x.2 filters found passed has in (
      subst SieveRests (sym x.1) (t.2, t.3),
      t.0,
      subst (λ (o : Option Sieve). end_left source.Going o ≤ is_open (end_of old)) (sym x.1) (subst (λ (b : BodyEnd). is_open b ≤ is_open (end_of old)) (sym t.4) (omega arith)),
    )

-- ---- the message that is sent

-- what a step of the filters leaves
abbrev pub after_sift : LaneState → Option Sieve → Contents → Source → LaneState
after_sift l sieve msg src = record l { sieve = sieve; msg = msg; source = src }

pub record Steps (l : LaneState) (sieve : Option Sieve) (msg : Contents) (answer : Came) : Type 0 where
  pub comes : ComesBy answer l.msg.size l.sieve sieve msg.blocks
  pub fits : SieveFits l.msg.size sieve
  pub size : msg.size ≡ l.msg.size
  pub empty : l.msg.blocks ≡ []
  pub going : l.source ≡ source.Going

sends_as : (l : LaneState) (p : Past) (sieve : Option Sieve) (msg : Contents) (answer : Came) (src : Source) (passed : List ℕ) (x : Steps l sieve msg answer) (s : Sends l p) → HasPassed sieve p.filters s.found passed
    → SourceIs src sieve p.filters l.reader l.ended l.input.items s.section s.found passed
    → (l.dropped ≡ false → Carries src l.writer p.sent (p.sent.given ++ passed) s.section (put_out l p) l.out.blocks msg.blocks) → Sends (after_sift l sieve msg src) p
sends_as l p sieve msg answer src passed x s has is text = record {
  used = s.used;
  found = s.found;
  section = s.section;
  passed = passed;
  sized = record {
    least = s.sized.least;
    msg = x.size ∙ s.sized.msg;
    out = s.sized.out;
    input = s.sized.input;
    output = s.sized.output;
    sieve = subst (λ (n : ℕ). SieveFits n sieve) s.sized.msg x.fits;
    filters = (s.sized.filters.0, these_on answer l.msg.size l.sieve sieve msg.blocks x.comes s.sized.filters.0 s.sized.filters.1);
  };
  has_read = s.has_read;
  bytes = s.bytes;
  has_passed = has;
  source = is;
  text = text;
}

-- some bytes more passed
given_text : (l : LaneState) (p : Past) (s : Sends l p) (filters : List FilterSpec) (old new : Sieve) (msg : Contents) (g : Given filters s.found s.passed old new msg.blocks) → l.source ≡ source.Going → l.msg.blocks ≡ [] → l.dropped ≡ false
    → CarriesFront l.writer p.sent (p.sent.given ++ (s.passed ++ g.piece)) (put_out l p) l.out.blocks msg.blocks
given_text l p s filters old new msg g going empty d =
    further l p s.passed g.piece msg.blocks (read_on l.writer p.sent (p.sent.given ++ s.passed) g.piece (put_out l p) l.out.blocks msg.blocks (carried l p s going empty d) g.put)

same_ends : (old new : BodyEnd) (reader : BodyReader) (ended : Option Ending) (input section : List ℕ) → SameEnd old new → EndsAt old reader ended input section → EndsAt new reader ended input section
same_ends old new reader ended input section (inl e) h = subst (λ (b : BodyEnd). EndsAt b reader ended input section) (sym e) h
same_ends old new reader ended input section (inr (is, e)) h =
    let whole : IsWholeAt reader ended input section = subst (λ (b : BodyEnd). EndsAt b reader ended input section) is h in
    subst (λ (b : BodyEnd). EndsAt b reader ended input section) (sym e) whole

-- the section is within its limit
short_at : (most : ℕ) (st : Stage) (at : BodyAt) → Stands most st at → length (read_section st at) ≤ most
short_at most stage.Over at (inl over) = subst (λ (a : BodyAt). length (read_section stage.Over a) ≤ most) (sym over) (omega arith)
short_at most stage.Over at (inr (section, is, (fields, begins))) = let short : length section ≤ most + 0 = begins.short in subst (λ (a : BodyAt). length (read_section stage.Over a) ≤ most) (sym is) (omega arith)
short_at most stage.UntilClose at s = omega arith
short_at most stage.Dead at s = omega arith
short_at most (stage.Left left) at s = omega arith
short_at most stage.Line at s = omega arith
short_at most (stage.Data left) at s = omega arith
short_at most stage.LineEnd at s = omega arith
short_at most stage.Section at s = omega arith

pub section_short : (limits : Limits) (framing : Framing) (used found section : List ℕ) (reader : BodyReader) → HasRead limits framing used found section reader → length section ≤ section_limit limits
section_short limits framing used found section reader h = subst (λ (xs : List ℕ). length xs ≤ section_limit limits) h.sections (short_at (section_limit limits) reader.stage h.at h.stands)

-- a whole body has trailers
pub some_trailers : (limits : Limits) (framing : Framing) (used found section input : List ℕ) (reader : BodyReader) (ended : Option Ending) → HasRead limits framing used found section reader → IsWholeAt reader ended input section
    → (trailers : List Field) × HasTrailers section trailers
some_trailers limits framing used found section input reader ended h (inl whole) =
    let says : StateTells limits framing used found section state.Whole = subst (λ (t : BodyState). StateTells limits framing used found section t) whole (told limits framing used found section reader h) in
    (says.0, says.1)
some_trailers limits framing used found section input reader ended h (inr (closed, ends, empty, none)) = ([], inl (none, refl))

pub sends_given : (o : Option Sieve) (l : LaneState) (p : Past) (sieve : Option Sieve) (msg : Contents) → l.sieve ≡ o → Steps l sieve msg came.More → Sends l p → Sends (after_sift l sieve msg l.source) p
sends_given None l p sieve msg is x s =
    let c : ComesBy came.More l.msg.size None sieve msg.blocks = subst (λ (o : Option Sieve). ComesBy came.More l.msg.size o sieve msg.blocks) is x.comes in
    absurd (let both : came.More ≡ came.Waits = c.1 in cc both)
sends_given (Some old) l p sieve msg is x s =
    let c : ComesBy came.More l.msg.size (Some old) sieve msg.blocks = subst (λ (o : Option Sieve). ComesBy came.More l.msg.size o sieve msg.blocks) is x.comes in
    let has : HasSieved p.filters s.found s.passed old = subst (λ (o : Option Sieve). HasPassed o p.filters s.found s.passed) is s.has_passed in
    let goes : GoesOnBy (Some old) l.reader l.ended l.input.items s.section = subst (λ (o : Option Sieve). GoesOnBy o l.reader l.ended l.input.items s.section) is (sends_goes l p s x.going) in
    let t = c.2 p.filters s.found s.passed has in
    let g = t.0 in
    let on : GoesOnBy (Some c.0) l.reader l.ended l.input.items s.section = (same_ends (end_of old) (end_of c.0) l.reader l.ended l.input.items s.section t.1 goes.0, g.section ∙ goes.1) in
    sends_as l p sieve msg came.More l.source (s.passed ++ g.piece) x s
    (subst (λ (o : Option Sieve). HasPassed o p.filters s.found (s.passed ++ g.piece)) (sym c.1) g.sieved)
    (subst (λ (src : Source). SourceIs src sieve p.filters l.reader l.ended l.input.items s.section s.found (s.passed ++ g.piece)) (sym x.going) (subst (λ (o : Option Sieve). GoesOnBy o l.reader l.ended l.input.items s.section) (sym c.1) on))
    (λ d. subst (λ (src : Source). Carries src l.writer p.sent (p.sent.given ++ (s.passed ++ g.piece)) s.section (put_out l p) l.out.blocks msg.blocks) (sym x.going) (given_text l p s p.filters old c.0 msg g x.going x.empty d))

pub sends_waiting : (o : Option Sieve) (l : LaneState) (p : Past) (sieve : Option Sieve) (msg : Contents) → l.sieve ≡ o → Steps l sieve msg came.Waits → Sends l p → Sends (after_sift l sieve msg l.source) p
sends_waiting None l p sieve msg is x s =
    let c : ComesBy came.Waits l.msg.size None sieve msg.blocks = subst (λ (o : Option Sieve). ComesBy came.Waits l.msg.size o sieve msg.blocks) is x.comes in
    let same : l.sieve ≡ sieve = is ∙ sym c.0 in
    let blocks : l.msg.blocks ≡ msg.blocks = x.empty ∙ sym c.2 in
    sends_as l p sieve msg came.Waits l.source s.passed x s
    (subst (λ (o : Option Sieve). HasPassed o p.filters s.found s.passed) same s.has_passed)
    (subst (λ (o : Option Sieve). SourceIs l.source o p.filters l.reader l.ended l.input.items s.section s.found s.passed) same s.source)
    (λ d. subst (λ (bs : List Block). Carries l.source l.writer p.sent (p.sent.given ++ s.passed) s.section (put_out l p) l.out.blocks bs) blocks (s.text d))
sends_waiting (Some old) l p sieve msg is x s =
    let c : ComesBy came.Waits l.msg.size (Some old) sieve msg.blocks = subst (λ (o : Option Sieve). ComesBy came.Waits l.msg.size o sieve msg.blocks) is x.comes in
    let has : HasSieved p.filters s.found s.passed old = subst (λ (o : Option Sieve). HasPassed o p.filters s.found s.passed) is s.has_passed in
    let goes : GoesOnBy (Some old) l.reader l.ended l.input.items s.section = subst (λ (o : Option Sieve). GoesOnBy o l.reader l.ended l.input.items s.section) is (sends_goes l p s x.going) in
    let t = c.2 p.filters s.found s.passed has in
    let on : GoesOnBy (Some c.0) l.reader l.ended l.input.items s.section = (same_ends (end_of old) (end_of c.0) l.reader l.ended l.input.items s.section (inl t.4) goes.0, t.5 ∙ goes.1) in
    let blocks : l.msg.blocks ≡ msg.blocks = x.empty ∙ sym t.0 in
    sends_as l p sieve msg came.Waits l.source s.passed x s
    (subst (λ (o : Option Sieve). HasPassed o p.filters s.found s.passed) (sym c.1) t.1)
    (subst (λ (src : Source). SourceIs src sieve p.filters l.reader l.ended l.input.items s.section s.found s.passed) (sym x.going) (subst (λ (o : Option Sieve). GoesOnBy o l.reader l.ended l.input.items s.section) (sym c.1) on))
    (λ d. subst (λ (bs : List Block). Carries l.source l.writer p.sent (p.sent.given ++ s.passed) s.section (put_out l p) l.out.blocks bs) blocks (s.text d))

-- its end has come
end_at : (at : BodyEnd) (reader : BodyReader) (ended : Option Ending) (input section : List ℕ) → is_ended at ≡ true → EndsAt at reader ended input section → IsEndAt reader ended input section
end_at body_end.Open reader ended input section is h = absurd (let both : true ≡ false = sym is in cc both)
end_at body_end.Whole reader ended input section is h = inl h
end_at body_end.Accepted reader ended input section is h = inl h
end_at body_end.Cut reader ended input section is h = inr h

-- why it is cut
cut_now : (l : LaneState) (p : Past) (s : Sends l p) (old : Sieve) (passed : List ℕ) (code : ℕ) → EndsAt (end_of old) l.reader l.ended l.input.items s.section → IsCutNow (end_of old) p.filters s.found passed code
    → CutBy p.filters l.reader l.ended l.input.items s.section s.found passed code
cut_now l p s old passed code ends (inl (is, four, all)) =
    Broken four (subst (λ (b : BodyEnd). EndsAt b l.reader l.ended l.input.items s.section) is ends) all
cut_now l p s old passed code ends (inr (inl now)) = RefusedNow now
cut_now l p s old passed code ends (inr (inr (is, whole))) = RefusedAtEnd (end_at (end_of old) l.reader l.ended l.input.items s.section is ends) whole

pub sends_ended : (o : Option Sieve) (src : Source) (l : LaneState) (p : Past) (sieve : Option Sieve) (msg : Contents) → l.sieve ≡ o → Steps l sieve msg (came.Ends src) → Sends l p → Sends (after_sift l sieve msg src) p
sends_ended None src l p sieve msg is x s =
    let c : ComesBy (came.Ends src) l.msg.size None sieve msg.blocks = subst (λ (o : Option Sieve). ComesBy (came.Ends src) l.msg.size o sieve msg.blocks) is x.comes in
    absurd (let both : came.Ends src ≡ came.Waits = c.1 in cc both)
sends_ended (Some old) source.Going l p sieve msg is x s =
    let c : ComesBy (came.Ends source.Going) l.msg.size (Some old) sieve msg.blocks = subst (λ (o : Option Sieve). ComesBy (came.Ends source.Going) l.msg.size o sieve msg.blocks) is x.comes in
    let has : HasSieved p.filters s.found s.passed old = subst (λ (o : Option Sieve). HasPassed o p.filters s.found s.passed) is s.has_passed in
    absurd (c.2 p.filters s.found s.passed has)
sends_ended (Some old) source.Whole l p sieve msg is x s =
    let c : ComesBy (came.Ends source.Whole) l.msg.size (Some old) sieve msg.blocks = subst (λ (o : Option Sieve). ComesBy (came.Ends source.Whole) l.msg.size o sieve msg.blocks) is x.comes in
    let has : HasSieved p.filters s.found s.passed old = subst (λ (o : Option Sieve). HasPassed o p.filters s.found s.passed) is s.has_passed in
    let goes : GoesOnBy (Some old) l.reader l.ended l.input.items s.section = subst (λ (o : Option Sieve). GoesOnBy o l.reader l.ended l.input.items s.section) is (sends_goes l p s x.going) in
    let t = c.2 p.filters s.found s.passed has in
    let whole : IsWholeAt l.reader l.ended l.input.items s.section = subst (λ (b : BodyEnd). EndsAt b l.reader l.ended l.input.items s.section) t.0 goes.0 in
    let at : SievedAt body_end.Accepted p.filters s.found s.passed old.chain old.held.items = subst (λ (b : BodyEnd). SievedAt b p.filters s.found s.passed old.chain old.held.items) t.0 has in
    let trailers = some_trailers l.limits p.reads s.used s.found s.section l.input.items l.reader l.ended s.has_read whole in
    let light : load (trailer_blocks trailers.0) ≤ l.limits.bufsize = trailers_fit l.limits s.section trailers.0 s.sized.least (section_short l.limits p.reads s.used s.found s.section l.reader s.has_read) trailers.1 in
    let fits : Fits (trailer_blocks trailers.0) l.msg.size = subst (λ (n : ℕ). load (trailer_blocks trailers.0) ≤ n) (sym s.sized.msg) light in
    let put : msg.blocks ≡ trailer_blocks trailers.0 = t.2 trailers.0 (subst (λ (xs : List ℕ). HasTrailers xs trailers.0) (sym goes.1) trailers.1) fits in
    sends_as l p sieve msg (came.Ends source.Whole) source.Whole s.passed x s
    (subst (λ (o : Option Sieve). HasPassed o p.filters s.found s.passed) (sym c.1) (subst (λ (v : Sieve). HasSieved p.filters s.found s.passed v) (sym t.1) has))
    (whole, at.1)
    (λ d. (let f = carried l p s x.going x.empty d in (
      trailers.0,
      trailers.1,
      subst (λ (b : List ℕ). Carried l.writer p.sent (put_out l p) l.out.blocks msg.blocks (message_blocks (message_of p.sent b trailers.0))) (append-nil (p.sent.given ++ s.passed))
          (read_last l.writer p.sent (p.sent.given ++ s.passed) [] (put_out l p) l.out.blocks msg.blocks trailers.0 f (inr (put, refl))),
      λ e. let both : true ≡ false = sym e ∙ f.0 in absurd (cc both),
    )))
sends_ended (Some old) (source.Cut code) l p sieve msg is x s =
    let c : ComesBy (came.Ends (source.Cut code)) l.msg.size (Some old) sieve msg.blocks = subst (λ (o : Option Sieve). ComesBy (came.Ends (source.Cut code)) l.msg.size o sieve msg.blocks) is x.comes in
    let has : HasSieved p.filters s.found s.passed old = subst (λ (o : Option Sieve). HasPassed o p.filters s.found s.passed) is s.has_passed in
    let goes : GoesOnBy (Some old) l.reader l.ended l.input.items s.section = subst (λ (o : Option Sieve). GoesOnBy o l.reader l.ended l.input.items s.section) is (sends_goes l p s x.going) in
    let t = c.2 p.filters s.found s.passed has in
    let g = t.0 in
    sends_as l p sieve msg (came.Ends (source.Cut code)) (source.Cut code) (s.passed ++ g.piece) x s
    (subst (λ (o : Option Sieve). HasPassed o p.filters s.found (s.passed ++ g.piece)) (sym c.1) g.sieved)
    (cut_now l p s old (s.passed ++ g.piece) code goes.0 t.1)
    (λ d. given_text l p s p.filters old c.0 msg g x.going x.empty d)
