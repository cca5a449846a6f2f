-- What a step of the reader brings to the filters.
use Rattle.std.proofs.Common.{◌≡◌, ◌≢◌, ℕ, ◌+◌, ◌*◌, ◌<◌, inl, inr, List, [], ◌++◌, Bool, true, false, refl, sym, ap, ◌∙◌, subst, length, take, drop, arith, append_assoc}
use Rattle.std.specs.Prelude.{Option, Some, None}
use Rattle.std.proofs.lemmas.List.{take-append-drop, length-take-le, length-append, nil_from_length}
use Rattle.wire_buf.specs.Buffer.{Buffer}
use Rattle.http_model.specs.declared.Limits.{Limits}
use Rattle.http_model.specs.declared.Framing.{Framing}
use Rattle.http_model.specs.declared.Ending.{Ending}
use Rattle.h1_body.specs.Stands.{HasRead, state_of, bytes_of}
use Rattle.h1_body.specs.declared.reader.BodyReader.{BodyReader}
use Rattle.h1_body.specs.declared.reader.BodyState.{BodyState}
use Rattle.h1_body.specs.declared.reader.BodyState.TheVariants as state
use Rattle.h1_body.specs.declared.reader.Span.{Span}
use Rattle.body_filter.specs.declared.filter_spec.FilterSpec.{FilterSpec}
use Rattle.lane.specs.Sieve.Sieved.{HasSieved, SievedAt, IsIdle, IsStill, end_of, held_in, section_in, is_open}
use Rattle.lane.specs.declared.sieve.sieve.BodyEnd.{BodyEnd}
use Rattle.lane.specs.declared.sieve.sieve.BodyEnd.TheVariants as body_end
use Rattle.lane.specs.declared.sieve.sieve.Sieve.{Sieve}
use Rattle.lane.specs.Direction.Pulled.{IsWaiting}
use Rattle.lane.specs.Direction.Carried.{Carries}
use Rattle.lane.specs.Direction.Filtering.{HasPassed, AreThese, SieveFits, SieveRests, EndsAt, GoesOnBy}
use Rattle.lane.specs.Direction.Holding.{Holds, MeetsEnd, HoldsSo, HoldsNext, HoldsBy}
use Rattle.lane.specs.Direction.Sends.{Past, Sends, SourceIs, RestsFor, put_out, end_left}
use Rattle.lane.specs.Direction.Sends as sends
use Rattle.http_model.specs.declared.Source.{Source}
use Rattle.http_model.specs.declared.Source.TheVariants as source
use Rattle.lane.specs.Direction.State.{LaneState}
use Rattle.lane.proofs.DirectionLemmas.PullLemmas.{Feeds, piece_length, waits_here}
use Rattle.lane.proofs.DirectionLemmas.ReadLemmas.{more_section}
use Rattle.lane.proofs.DirectionLemmas.SendLemmas.{closed_at, sends_going, sends_section}

-- what `feed` says, as bytes that are held
pub held : (old new : BodyReader) (w : List ℕ) (room used : ℕ) (piece : Span) (given : List ℕ) (st : BodyState) → Feeds old new w room used piece given st → 0 < room
    → Holds old new w (drop used w) (bytes_of w (Some piece)) given used st
held old new w room used piece given st f some = record {
  used = take used w;
  window = sym (take-append-drop used w);
  count = length-take-le used w f.within;
  nothing = λ e. (let span = f.span in nil_from_length (bytes_of w (Some piece)) (piece_length w used piece f.within f.span.1 ∙ omega arith));
  reads = f.leads;
  told = f.told;
  waits = λ limits framing bytes found before read e. waits_here new w room used some e (f.waits limits framing bytes found before read e);
}

-- ---- an open body that is held, and its end

-- of a sieve whose body is open: what comes of it where the end is met
ended_sieve : (filters : List FilterSpec) (found passed : List ℕ) (sieve : Sieve) → end_of sieve ≡ body_end.Open → HasSieved filters found passed sieve
    → HasSieved filters found passed (record sieve { end = body_end.Whole }) × HasSieved filters found passed (record sieve { end = body_end.Cut })
ended_sieve filters found passed sieve open_ has =
    let u : SievedAt body_end.Open filters found passed sieve.chain sieve.held.items = subst (λ (e : BodyEnd). SievedAt e filters found passed sieve.chain sieve.held.items) open_ has in
    (inl u, inl u)

-- what was read into the sieve
pub record Read (reader reader' : BodyReader) (before after : List ℕ) (sieve held_ : Sieve) (used : ℕ) (st : BodyState) : Type 0 where
  pub holds : Holds reader reader' before after (held_in held_) (section_in held_) used st
  pub open_ : end_of held_ ≡ body_end.Open
  pub was : end_of sieve ≡ body_end.Open
  pub still : IsStill sieve → IsStill held_
  pub sieved : (filters : List FilterSpec) (found passed : List ℕ) → HasSieved filters found passed sieve → HasSieved filters (found ++ held_in held_) passed held_

-- what it makes, whatever the end is then
so : (limits : Limits) (framing : Framing) (filters : List FilterSpec) (ended : Option Ending) (reader reader' : BodyReader) (used found passed before after : List ℕ) (sieve held_ new : Sieve) (n : ℕ) (st : BodyState) (more : Bool)
    → Read reader reader' before after sieve held_ n st → HasRead limits framing used found [] reader
    → HasSieved filters (found ++ held_in held_) passed new
    → ((h : (u : List ℕ) × HasRead limits framing (used ++ u) (found ++ held_in held_) (section_in held_) reader') → EndsAt (end_of new) reader' ended after (section_in held_)) → section_in new ≡ section_in held_
    → (more ≡ false → IsWaiting reader' after × (state_of reader' ≡ state.More))
    → HoldsSo limits framing filters ended reader' used found passed before after new more
so limits framing filters ended reader reader' used found passed before after sieve held_ new n st more x read sieved ends same waits =
    let h = x.holds.reads limits framing used found [] read in
    record {
      more_used = x.holds.used;
      piece = held_in held_;
      section = section_in held_;
      window = x.holds.window;
      has_read = h;
      sieved = sieved;
      goes = (ends (x.holds.used, h), same);
      waits = waits;
    }

nearer_by : (reader reader' : BodyReader) (before after : List ℕ) (sieve held_ : Sieve) (n : ℕ) (st : BodyState) → Read reader reader' before after sieve held_ n st → length before ≡ n + length after
nearer_by reader reader' before after sieve held_ n st x = ap length x.holds.window ∙ length-append x.holds.used after ∙ ap (λ (k : ℕ). k + length after) x.holds.count

-- the reader said that it is whole
pub next_whole : (ended : Option Ending) (reader reader' : BodyReader) (before after : List ℕ) (sieve held_ new : Sieve) (n : ℕ) (st : BodyState) → Read reader reader' before after sieve held_ n st → st ≡ state.Whole
    → new ≡ record held_ { end = body_end.Whole } → HoldsNext ended reader reader' before after sieve new true
next_whole ended reader reader' before after sieve held_ new n st x is e = subst (λ (s : Sieve). HoldsNext ended reader reader' before after sieve s true) (sym e) (record {
  nearer = λ _. (let len = nearer_by reader reader' before after sieve held_ n st x in omega arith);
  idle = λ h. absurd (let both : true ≡ false = h in cc both);
  these = λ filters found passed has. (found ++ held_in held_, passed, (ended_sieve filters (found ++ held_in held_) passed held_ x.open_ (x.sieved filters found passed has)).0);
  leads = λ limits framing filters used found passed read has.
      so limits framing filters ended reader reader' used found passed before after sieve held_ (record held_ { end = body_end.Whole }) n st true x read
      (ended_sieve filters (found ++ held_in held_) passed held_ x.open_ (x.sieved filters found passed has)).0
      (λ h. inl (sym x.holds.told ∙ is)) refl (λ h. absurd (let both : true ≡ false = h in cc both));
})

-- that the bytes are none
pub next_bad : (ended : Option Ending) (reader reader' : BodyReader) (before after : List ℕ) (sieve held_ new : Sieve) (n : ℕ) (st : BodyState) → Read reader reader' before after sieve held_ n st → st ≡ state.Bad
    → new ≡ record held_ { end = body_end.Cut } → HoldsNext ended reader reader' before after sieve new true
next_bad ended reader reader' before after sieve held_ new n st x is e = subst (λ (s : Sieve). HoldsNext ended reader reader' before after sieve s true) (sym e) (record {
  nearer = λ _. (let len = nearer_by reader reader' before after sieve held_ n st x in omega arith);
  idle = λ h. absurd (let both : true ≡ false = h in cc both);
  these = λ filters found passed has. (found ++ held_in held_, passed, (ended_sieve filters (found ++ held_in held_) passed held_ x.open_ (x.sieved filters found passed has)).1);
  leads = λ limits framing filters used found passed read has.
      so limits framing filters ended reader reader' used found passed before after sieve held_ (record held_ { end = body_end.Cut }) n st true x read
      (ended_sieve filters (found ++ held_in held_) passed held_ x.open_ (x.sieved filters found passed has)).1
      (λ h. inl (sym x.holds.told ∙ is)) refl (λ h. absurd (let both : true ≡ false = h in cc both));
})

-- an open body has no section
no_section : (reader' : BodyReader) (limits : Limits) (framing : Framing) (used found section : List ℕ) → state_of reader' ≡ state.More → HasRead limits framing used found section reader' → section ≡ []
no_section reader' limits framing used found section more h = sym h.sections ∙ more_section reader'.stage h.at more

open_ends : (at : BodyEnd) (reader : BodyReader) (ended : Option Ending) (input section : List ℕ) → at ≡ body_end.Open → section ≡ [] → EndsAt at reader ended input section
open_ends at reader ended input section e none = subst (λ (b : BodyEnd). EndsAt b reader ended input section) (sym e) none

-- that more of it comes
pub next_more : (ended : Option Ending) (reader reader' : BodyReader) (before after : List ℕ) (sieve held_ : Sieve) (n : ℕ) (st : BodyState) → Read reader reader' before after sieve held_ n st → st ≡ state.More → 0 < n
    → HoldsNext ended reader reader' before after sieve held_ true
next_more ended reader reader' before after sieve held_ n st x is some =
    let one : is_open (end_of held_) ≡ 1 = ap is_open x.open_ in
    record {
      nearer = λ _. (let len = nearer_by reader reader' before after sieve held_ n st x in omega arith);
      idle = λ h. absurd (let both : true ≡ false = h in cc both);
      these = λ filters found passed has. (found ++ held_in held_, passed, x.sieved filters found passed has);
      leads = λ limits framing filters used found passed read has.
          so limits framing filters ended reader reader' used found passed before after sieve held_ held_ n st true x read (x.sieved filters found passed has)
          (λ h. open_ends (end_of held_) reader' ended after (section_in held_) x.open_ (no_section reader' limits framing (used ++ h.0) (found ++ held_in held_) (section_in held_) (sym x.holds.told ∙ is) h.1))
          refl (λ h. absurd (let both : true ≡ false = h in cc both));
    }

-- that it waits, and the stream goes on
pub next_waits : (ended : Option Ending) (reader reader' : BodyReader) (before after : List ℕ) (sieve held_ new : Sieve) (n : ℕ) (st : BodyState) → Read reader reader' before after sieve held_ n st → st ≡ state.More → n ≡ 0 → ended ≡ None
    → new ≡ held_ → HoldsNext ended reader reader' before after sieve new false
next_waits ended reader reader' before after sieve held_ new n st x is none open_ e = subst (λ (s : Sieve). HoldsNext ended reader reader' before after sieve s false) (sym e) (record {
  nearer = λ h. absurd (let both : false ≡ true = h in cc both);
  idle = λ _. (open_, record { end = x.open_; held = x.holds.nothing none }, x.still);
  these = λ filters found passed has. (found ++ held_in held_, passed, x.sieved filters found passed has);
  leads = λ limits framing filters used found passed read has.
      so limits framing filters ended reader reader' used found passed before after sieve held_ held_ n st false x read (x.sieved filters found passed has)
      (λ h. open_ends (end_of held_) reader' ended after (section_in held_) x.open_ (no_section reader' limits framing (used ++ h.0) (found ++ held_in held_) (section_in held_) (sym x.holds.told ∙ is) h.1))
      refl (λ _. (x.holds.waits limits framing used found [] read none, sym x.holds.told ∙ is));
})

-- that it waits, and the stream has ended
pub next_ended : (ended : Option Ending) (reader reader' : BodyReader) (before after : List ℕ) (sieve held_ new : Sieve) (n : ℕ) (st : BodyState) → Read reader reader' before after sieve held_ n st → st ≡ state.More → n ≡ 0
    → MeetsEnd ended reader' held_ new → HoldsNext ended reader reader' before after sieve new true
next_ended ended reader reader' before after sieve held_ new n st x is none (inl (closed, ends, e)) = subst (λ (s : Sieve). HoldsNext ended reader reader' before after sieve s true) (sym e) (record {
  nearer = λ _. (let len = nearer_by reader reader' before after sieve held_ n st x in omega arith);
  idle = λ h. absurd (let both : true ≡ false = h in cc both);
  these = λ filters found passed has. (found ++ held_in held_, passed, (ended_sieve filters (found ++ held_in held_) passed held_ x.open_ (x.sieved filters found passed has)).0);
  leads = λ limits framing filters used found passed read has. (
      let waits = x.holds.waits limits framing used found [] read none in
      so limits framing filters ended reader reader' used found passed before after sieve held_ (record held_ { end = body_end.Whole }) n st true x read
      (ended_sieve filters (found ++ held_in held_) passed held_ x.open_ (x.sieved filters found passed has)).0
      (λ h. inr (closed, ends, closed_at reader'.stage reader'.section_limit after ends (sym x.holds.told ∙ is) waits, no_section reader' limits framing (used ++ h.0) (found ++ held_in held_) (section_in held_) (sym x.holds.told ∙ is) h.1))
      refl (λ h. absurd (let both : true ≡ false = h in cc both)));
})
next_ended ended reader reader' before after sieve held_ new n st x is none (inr (how, broke, open_, e)) = subst (λ (s : Sieve). HoldsNext ended reader reader' before after sieve s true) (sym e) (record {
  nearer = λ _. (let len = nearer_by reader reader' before after sieve held_ n st x in omega arith);
  idle = λ h. absurd (let both : true ≡ false = h in cc both);
  these = λ filters found passed has. (found ++ held_in held_, passed, (ended_sieve filters (found ++ held_in held_) passed held_ x.open_ (x.sieved filters found passed has)).1);
  leads = λ limits framing filters used found passed read has.
      so limits framing filters ended reader reader' used found passed before after sieve held_ (record held_ { end = body_end.Cut }) n st true x read
      (ended_sieve filters (found ++ held_in held_) passed held_ x.open_ (x.sieved filters found passed has)).1
      (λ h. inr (how, broke, sym x.holds.told ∙ is, x.holds.waits limits framing used found [] read none, open_)) refl (λ h. absurd (let both : true ≡ false = h in cc both));
})

-- ---- the message that is sent

pub record Took (l : LaneState) (input : Buffer ℕ) (reader : BodyReader) (sieve : Option Sieve) (more : Bool) : Type 0 where
  pub holds : HoldsBy l.ended l.reader reader l.input.items input.items l.sieve sieve more
  pub capacity : input.capacity ≡ l.input.capacity
  pub fits : SieveFits l.limits.bufsize sieve
  pub rests : SieveRests l.sieve
  pub going : l.source ≡ source.Going
  pub some : l.sieve ≢ None

abbrev pub after_hold : LaneState → Buffer ℕ → BodyReader → Option Sieve → LaneState
after_hold l input reader sieve = record l { input = input; reader = reader; sieve = sieve }

-- of the lane's own sieve
pub record TookBy (l : LaneState) (input : Buffer ℕ) (reader : BodyReader) (sieve : Option Sieve) (more : Bool) : Type 0 where
  pub old : Sieve
  pub new : Sieve
  pub was : l.sieve ≡ Some old
  pub is : sieve ≡ Some new
  pub next : HoldsNext l.ended l.reader reader l.input.items input.items old new more
  pub idle : IsIdle old × IsStill old

pub took_by : (o : Option Sieve) (l : LaneState) (input : Buffer ℕ) (reader : BodyReader) (sieve : Option Sieve) (more : Bool) → l.sieve ≡ o → Took l input reader sieve more → TookBy l input reader sieve more
took_by None l input reader sieve more e x = absurd (x.some e)
took_by (Some old) l input reader sieve more e x =
    let h : HoldsBy l.ended l.reader reader l.input.items input.items (Some old) sieve more = subst (λ (o : Option Sieve). HoldsBy l.ended l.reader reader l.input.items input.items o sieve more) e x.holds in
    record { old = old; new = h.0; was = e; is = h.1; next = h.2; idle = subst SieveRests e x.rests }

-- the filters stay these, since some body is read by each reader
pub took_nearer : (l : LaneState) (input : Buffer ℕ) (reader : BodyReader) (sieve : Option Sieve) (x : Took l input reader sieve true) → 2 * length input.items + end_left l.source sieve < 2 * length l.input.items + end_left l.source l.sieve
took_nearer l input reader sieve x =
    let t = took_by l.sieve l input reader sieve true refl x in
    let one : end_left l.source l.sieve ≡ 1 = ap (λ (src : Source). end_left src l.sieve) x.going ∙ ap (end_left source.Going) t.was ∙ ap is_open t.idle.0.end in
    let two : end_left l.source sieve ≡ is_open (end_of t.new) = ap (λ (src : Source). end_left src sieve) x.going ∙ ap (end_left source.Going) t.is in
    let three = t.next.nearer refl in
    omega arith

pub took_these : (l : LaneState) (input : Buffer ℕ) (reader : BodyReader) (sieve : Option Sieve) (more : Bool) → Took l input reader sieve more → (filters : List FilterSpec) → AreThese l.sieve filters → AreThese sieve filters
took_these l input reader sieve more x filters these =
    let t = took_by l.sieve l input reader sieve more refl x in
    let old : AreThese (Some t.old) filters = subst (λ (o : Option Sieve). AreThese o filters) t.was these in
    subst (λ (o : Option Sieve). AreThese o filters) (sym t.is) (t.next.these filters old.0 old.1 old.2)

-- the input shrinks
pub took_shrinks : (l : LaneState) (p : Past) (input : Buffer ℕ) (reader : BodyReader) (sieve : Option Sieve) (more : Bool) (t : TookBy l input reader sieve more) (s : Sends l p) → l.source ≡ source.Going → SieveRests l.sieve
    → HoldsSo l.limits p.reads p.filters l.ended reader s.used s.found s.passed l.input.items input.items t.new more
took_shrinks l p input reader sieve more t s going rests =
    let none = sends_section l p s going rests in
    let read : HasRead l.limits p.reads s.used s.found [] l.reader = subst (λ (xs : List ℕ). HasRead l.limits p.reads s.used s.found xs l.reader) none s.has_read in
    let has : HasSieved p.filters s.found s.passed t.old = subst (λ (o : Option Sieve). HasPassed o p.filters s.found s.passed) t.was s.has_passed in
    t.next.leads l.limits p.reads p.filters s.used s.found s.passed read has

pub sends_held : (l : LaneState) (p : Past) (input : Buffer ℕ) (reader : BodyReader) (sieve : Option Sieve) (more : Bool) → Took l input reader sieve more → Sends l p → Sends (after_hold l input reader sieve) p
sends_held l p input reader sieve more x s =
    let t = took_by l.sieve l input reader sieve more refl x in
    let h = took_shrinks l p input reader sieve more t s x.going x.rests in
    record {
      used = s.used ++ h.more_used;
      found = s.found ++ h.piece;
      section = h.section;
      passed = s.passed;
      sized = record {
        least = s.sized.least;
        msg = s.sized.msg;
        out = s.sized.out;
        input = x.capacity ∙ s.sized.input;
        output = s.sized.output;
        sieve = x.fits;
        filters = (s.sized.filters.0, took_these l input reader sieve more x s.sized.filters.0 s.sized.filters.1);
      };
      has_read = h.has_read;
      bytes = s.bytes ∙ ap (λ xs. s.used ++ xs) h.window ∙ sym (append_assoc s.used h.more_used input.items);
      has_passed = subst (λ (o : Option Sieve). HasPassed o p.filters (s.found ++ h.piece) s.passed) (sym t.is) h.sieved;
      source = subst (λ (src : Source). SourceIs src sieve p.filters reader l.ended input.items h.section (s.found ++ h.piece) s.passed) (sym x.going)
          (subst (λ (o : Option Sieve). GoesOnBy o reader l.ended input.items h.section) (sym t.is) h.goes);
      text = λ d. subst (λ (src : Source). Carries src l.writer p.sent (p.sent.given ++ s.passed) h.section (put_out l p) l.out.blocks l.msg.blocks) (sym x.going)
          (sends_going l p s x.going d);
    }

pub held_rests : (l : LaneState) (p : Past) (input : Buffer ℕ) (reader : BodyReader) (sieve : Option Sieve) → Took l input reader sieve false → Sends l p → RestsFor (after_hold l input reader sieve)
held_rests l p input reader sieve x s =
    let t = took_by l.sieve l input reader sieve false refl x in
    let h = took_shrinks l p input reader sieve false t s x.going x.rests in
    let idle = t.next.idle refl in
    let waits = h.waits refl in
    sends.Waits x.going idle.0 waits.0 waits.1 (subst SieveRests (sym t.is) (idle.1, idle.2 t.idle.1))

-- what an end makes of it, or that none came
pub next_met : (ended : Option Ending) (reader reader' : BodyReader) (before after : List ℕ) (sieve held_ new : Sieve) (n : ℕ) (st : BodyState) → Read reader reader' before after sieve held_ n st → st ≡ state.More → n ≡ 0
    → (met : Bool) → (met ≡ false → (ended ≡ None) × (new ≡ held_)) → (met ≡ true → MeetsEnd ended reader' held_ new) → HoldsNext ended reader reader' before after sieve new met
next_met ended reader reader' before after sieve held_ new n st x is none true open_ met = next_ended ended reader reader' before after sieve held_ new n st x is none (met refl)
next_met ended reader reader' before after sieve held_ new n st x is none false open_ met = let o = open_ refl in next_waits ended reader reader' before after sieve held_ new n st x is none o.0 o.1
