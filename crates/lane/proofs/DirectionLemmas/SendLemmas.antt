-- What an end of the stream makes of a message that is sent.
use Rattle.std.proofs.Common.{◌≡◌, ℕ, ◌<◌, inl, inr, List, [], ◌++◌, Bool, true, false, refl, sym, ap, ◌∙◌, subst, arith}
use Rattle.std.specs.Prelude.{Option, Some, None}
use Rattle.std.proofs.lemmas.List.{nil_from_length}
use Rattle.http_model.specs.declared.Ending.{Ending}
use Rattle.http_model.specs.declared.Ending.TheVariants as ending
use Rattle.h1_body.specs.declared.stages.Stage.{Stage}
use Rattle.h1_body.specs.declared.stages.Stage.TheVariants as stage
use Rattle.h1_body.specs.declared.reader.BodyReader.{BodyReader}
use Rattle.h1_body.specs.declared.reader.BodyState.TheVariants as state
use Rattle.h1_body.specs.Stands.{WaitsAt, state_at, ends_at, state_of, ends_of}
use Rattle.lane.specs.Direction.Pulled.{IsWaiting}
use Rattle.lane.specs.Direction.Carried.{Carries, CarriesFront}
use Rattle.body_filter.specs.declared.filter_spec.FilterSpec.{FilterSpec}
use Rattle.body_filter.specs.declared.filter_spec.FedState.TheVariants as fed
use Rattle.body_filter.specs.Filter.{filtered}
use Rattle.lane.specs.declared.sieve.sieve.BodyEnd.{BodyEnd}
use Rattle.lane.specs.declared.sieve.sieve.Sieve.{Sieve}
use Rattle.lane.specs.Direction.Filtering.{HasPassed, SieveRests, GoesOnBy, EndsAt, Broken}
use Rattle.lane.specs.Direction.Sends.{Past, Sends, SourceIs, put_out}
use Rattle.http_model.specs.declared.Source.{Source}
use Rattle.http_model.specs.declared.Source.TheVariants as source
use Rattle.lane.specs.Direction.State.{LaneState}
use Rattle.lane.proofs.DirectionLemmas.CarryLemmas.{carries_closed}

-- a body that a close ends waits for no byte that stands in the window
pub closed_at : (st : Stage) (most : ℕ) (w : List ℕ) → ends_at st ≡ true → state_at st ≡ state.More → WaitsAt most st w 1 → w ≡ []
closed_at stage.Over most w ends more waits = absurd (cc)
closed_at stage.UntilClose most w ends more (inl e) = absurd (omega arith)
closed_at stage.UntilClose most w ends more (inr e) = nil_from_length w e
closed_at stage.Dead most w ends more waits = absurd (cc)
closed_at (stage.Left left) most w ends more waits = absurd (cc)
closed_at stage.Line most w ends more waits = absurd (cc)
closed_at (stage.Data left) most w ends more waits = absurd (cc)
closed_at stage.LineEnd most w ends more waits = absurd (cc)
closed_at stage.Section most w ends more waits = absurd (cc)

-- with room, whatever room there is
pub waits_at : (st : Stage) (most : ℕ) (w : List ℕ) (room : ℕ) → 0 < room → WaitsAt most st w room → WaitsAt most st w 1
waits_at stage.Over most w room some waits = waits
waits_at stage.UntilClose most w room some (inl e) = absurd (omega arith)
waits_at stage.UntilClose most w room some (inr e) = inr e
waits_at stage.Dead most w room some waits = waits
waits_at (stage.Left left) most w room some (inl e) = absurd (omega arith)
waits_at (stage.Left left) most w room some (inr e) = inr e
waits_at stage.Line most w room some waits = waits
waits_at (stage.Data left) most w room some (inl e) = absurd (omega arith)
waits_at (stage.Data left) most w room some (inr e) = inr e
waits_at stage.LineEnd most w room some waits = waits
waits_at stage.Section most w room some waits = waits

-- where nothing is held, the body still comes
rests_section : (sieve : Option Sieve) (reader : BodyReader) (ended : Option Ending) (input section : List ℕ) → SieveRests sieve → GoesOnBy sieve reader ended input section → section ≡ []
rests_section None reader ended input section rests h = h
rests_section (Some sieve) reader ended input section rests h =
    let ends : EndsAt sieve.end reader ended input section = h.0 in
    subst (λ (e : BodyEnd). EndsAt e reader ended input section) rests.0.end ends

pub sends_goes : (l : LaneState) (p : Past) (s : Sends l p) → l.source ≡ source.Going → GoesOnBy l.sieve l.reader l.ended l.input.items s.section
sends_goes l p s is = subst (λ (src : Source). SourceIs src l.sieve p.filters l.reader l.ended l.input.items s.section s.found s.passed) is s.source

pub sends_section : (l : LaneState) (p : Past) (s : Sends l p) → l.source ≡ source.Going → SieveRests l.sieve → s.section ≡ []
sends_section l p s is rests = rests_section l.sieve l.reader l.ended l.input.items s.section rests (sends_goes l p s is)

pub sends_going : (l : LaneState) (p : Past) (s : Sends l p) → l.source ≡ source.Going → l.dropped ≡ false
    → CarriesFront l.writer p.sent (p.sent.given ++ s.passed) (put_out l p) l.out.blocks l.msg.blocks
sends_going l p s is d = subst (λ (src : Source). Carries src l.writer p.sent (p.sent.given ++ s.passed) s.section (put_out l p) l.out.blocks l.msg.blocks) is (s.text d)

-- ---- without filters all passes

pub no_filters : (sieve : Option Sieve) → sieve ≡ None → (filters : List FilterSpec) (found passed : List ℕ) → HasPassed sieve filters found passed → (filters ≡ []) × (passed ≡ found)
no_filters sieve none filters found passed h = subst (λ (o : Option Sieve). HasPassed o filters found passed) none h

all_settled : (body : List ℕ) → filtered [] false body ≡ record { output = body; state = fed.Going }
unfolding filtered
all_settled body = refl

all_over : (body : List ℕ) → filtered [] true body ≡ record { output = body; state = fed.Over }
unfolding filtered
all_over body = refl

pub plain_settled : (sieve : Option Sieve) → sieve ≡ None → (filters : List FilterSpec) (found passed : List ℕ) → HasPassed sieve filters found passed → filtered filters false found ≡ record { output = passed; state = fed.Going }
plain_settled sieve none filters found passed h =
    let is = no_filters sieve none filters found passed h in
    ap (λ (fs : List FilterSpec). filtered fs false found) is.0 ∙ all_settled found ∙ ap (λ (b : List ℕ). record { output = b; state = fed.Going }) (sym is.1)

pub plain_over : (sieve : Option Sieve) → sieve ≡ None → (filters : List FilterSpec) (found passed : List ℕ) → HasPassed sieve filters found passed → filtered filters true found ≡ record { output = passed; state = fed.Over }
plain_over sieve none filters found passed h =
    let is = no_filters sieve none filters found passed h in
    ap (λ (fs : List FilterSpec). filtered fs true found) is.0 ∙ all_over found ∙ ap (λ (b : List ℕ). record { output = b; state = fed.Over }) (sym is.1)

pub none_rests : (sieve : Option Sieve) → sieve ≡ None → SieveRests sieve
none_rests sieve none = subst SieveRests (sym none) tt

-- ---- the stream ends

-- the body broke off
pub sends_cut : (l : LaneState) (p : Past) (how : Ending) → Sends l p → l.source ≡ source.Going → l.sieve ≡ None → l.ended ≡ Some how → IsWaiting l.reader l.input.items → state_of l.reader ≡ state.More
    → (how ≡ ending.Closed → ends_of l.reader ≡ false) → Sends (record l { source = source.Cut 400 }) p
sends_cut l p how s is none ended waits more open_ = record {
  used = s.used;
  found = s.found;
  section = s.section;
  passed = s.passed;
  sized = record { least = s.sized.least; msg = s.sized.msg; out = s.sized.out; input = s.sized.input; output = s.sized.output; sieve = s.sized.sieve; filters = s.sized.filters };
  has_read = s.has_read;
  bytes = s.bytes;
  has_passed = s.has_passed;
  source = Broken refl (inr (how, ended, more, waits, open_)) (plain_over l.sieve none p.filters s.found s.passed s.has_passed);
  text = λ d. sends_going l p s is d;
}

-- it was whole
pub sends_closed : (l : LaneState) (p : Past) → Sends l p → l.source ≡ source.Going → l.sieve ≡ None → l.ended ≡ Some ending.Closed → IsWaiting l.reader l.input.items → state_of l.reader ≡ state.More
    → ends_of l.reader ≡ true → Sends (record l { source = source.Whole }) p
sends_closed l p s is plain ended waits more ends =
    let none = sends_section l p s is (none_rests l.sieve plain) in
    record {
      used = s.used;
      found = s.found;
      section = s.section;
      passed = s.passed;
      sized = record { least = s.sized.least; msg = s.sized.msg; out = s.sized.out; input = s.sized.input; output = s.sized.output; sieve = s.sized.sieve; filters = s.sized.filters };
      has_read = s.has_read;
      bytes = s.bytes;
      has_passed = s.has_passed;
      source = (inr (ended, ends, closed_at l.reader.stage l.reader.section_limit l.input.items ends more waits, none), plain_over l.sieve plain p.filters s.found s.passed s.has_passed);
      text = λ d. subst (λ (xs : List ℕ). Carries source.Whole l.writer p.sent (p.sent.given ++ s.passed) xs (put_out l p) l.out.blocks l.msg.blocks) (sym none)
          (carries_closed l.writer p.sent (p.sent.given ++ s.passed) (put_out l p) l.out.blocks l.msg.blocks (sends_going l p s is d));
    }

-- what the end makes of it
pub sends_source : (l : LaneState) (p : Past) (src : Source) → (ends_of l.reader ≡ true → src ≡ source.Whole) → (ends_of l.reader ≡ false → src ≡ source.Cut 400)
    → Sends l p → l.source ≡ source.Going → l.sieve ≡ None → l.ended ≡ Some ending.Closed → IsWaiting l.reader l.input.items → state_of l.reader ≡ state.More → Sends (record l { source = src }) p
sends_source l p src whole cut s is none ended waits more = by (ends_of l.reader) refl
  where
    by : (b : Bool) → ends_of l.reader ≡ b → Sends (record l { source = src }) p
    by true e = subst (λ (x : Source). Sends (record l { source = x }) p) (sym (whole e)) (sends_closed l p s is none ended waits more e)
    by false e = subst (λ (x : Source). Sends (record l { source = x }) p) (sym (cut e)) (sends_cut l p ending.Closed s is none ended waits more (λ _. e))
