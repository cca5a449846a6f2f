-- A lane that waits has room.
use Rattle.std.proofs.Common.{◌≡◌, ◌≢◌, ℕ, ◌+◌, ◌*◌, ◌<◌, ◌≤◌, ◌⊎◌, inl, inr, List, [], ◌++◌, true, false, refl, sym, ap, ◌∙◌, subst, length, arith, append_assoc}
use Rattle.std.specs.Prelude.{Option, Some, None, nat_lt, if◌then◌else◌}
use Rattle.h1_body.specs.Body.{line_start}
use Rattle.h1_body.specs.declared.stages.Stage.{Stage}
use Rattle.h1_body.specs.declared.stages.Stage.TheVariants as at
use Rattle.h1_body.specs.declared.reader.BodyState.TheVariants as state
use Rattle.h1_body.specs.Section.{section_limit}
use Rattle.h1_body.specs.Stands.{WaitsAt, state_at, state_of}
use Rattle.h1_body.specs.Live.{Live}
use Rattle.h1_body.proofs.PublicLaws.{run_live, goes_short}
use Rattle.lane.specs.Direction.Pulled.{IsWaiting}
use Rattle.wire_buf.specs.Buffer.{Buffer}
use Rattle.htx_arena.specs.Layout.Contents.{Contents}
use Rattle.htx_model.specs.Block.{Block}
use Rattle.http_model.specs.declared.Ending.{Ending}
use Rattle.http_model.specs.declared.Ending.TheVariants as ending
use Rattle.h1_body.specs.declared.reader.BodyReader.{BodyReader}
use Rattle.body_filter.specs.declared.filter_spec.FilterSpec.{FilterSpec}
use Rattle.lane.specs.declared.sieve.sieve.BodyEnd.{BodyEnd}
use Rattle.lane.specs.declared.sieve.sieve.BodyEnd.TheVariants as body_end
use Rattle.lane.specs.declared.sieve.sieve.Sieve.{Sieve}
use Rattle.lane.specs.Direction.Filtering.{IsWholeAt, IsCutAt, EndsAt, GoesOnBy, IsEndAt, CutBy, Broken, RefusedNow, RefusedAtEnd, held_left}
use Rattle.http_model.specs.declared.Source.{Source}
use Rattle.lane.specs.Direction.Sends.{Past, Sends, SourceIs, IsAtRest, IsDrained, RestsFor, IsOver, Waits, GoesOn, IsAllOut, Stands, reads_left, brings_left, end_left, is_going}
use Rattle.lane.specs.declared.direction.stage.Stage.{Stage as LaneStage}
use Rattle.lane.specs.declared.direction.stage.Stage.TheVariants as stage
use Rattle.http_model.specs.declared.Source.TheVariants as source
use Rattle.lane.specs.Direction.State.{LaneState}

-- a window in which nothing can be used is short
waits_short : (st : Stage) (most : ℕ) (w : List ℕ) → state_at st ≡ state.More → WaitsAt most st w 1 → (length w ≤ 255) ⊎ (length w < most)
waits_short at.Over most w more waits = absurd (cc)
waits_short at.Dead most w more waits = absurd (cc)
waits_short at.UntilClose most w more (inl e) = absurd (omega arith)
waits_short at.UntilClose most w more (inr e) = inl (omega arith)
waits_short (at.Left left) most w more (inl e) = absurd (omega arith)
waits_short (at.Left left) most w more (inr e) = inl (omega arith)
waits_short (at.Data left) most w more (inl e) = absurd (omega arith)
waits_short (at.Data left) most w more (inr e) = inl (omega arith)
waits_short at.Line most w more (place, goes) = inl (goes_short place (length w) (subst Live goes.place (run_live w line_start refl)))
waits_short at.LineEnd most w more (inl e) = let len = ap length e in inl (omega arith)
waits_short at.LineEnd most w more (inr e) = let len = ap length e in inl (omega arith)
waits_short at.Section most w more may = inr may.short

pub waiting_room : (l : LaneState) (p : Past) → Sends l p → IsWaiting l.reader l.input.items → state_of l.reader ≡ state.More → length l.input.items < l.input.capacity
waiting_room l p s waits more = by (waits_short l.reader.stage l.reader.section_limit l.input.items more waits)
  where
    by : (length l.input.items ≤ 255) ⊎ (length l.input.items < l.reader.section_limit) → length l.input.items < l.input.capacity
    by (inl few) = let a = s.sized.least in let b = s.sized.input in omega arith
    by (inr few) = let a = s.sized.least in let b = s.sized.input in let c : l.reader.section_limit ≡ section_limit l.limits = s.has_read.limit in omega arith

rests_stage : (l : LaneState) (x : LaneStage) → RestsFor l → RestsFor (record l { stage = x })
rests_stage l x (IsOver over) = IsOver over
rests_stage l x (Waits going ended waits more still) = Waits going ended waits more still

at_rest_stage : (l : LaneState) (x : LaneStage) → IsAtRest l → IsAtRest (record l { stage = x })
at_rest_stage l x r = record { msg = r.msg; out = r.out; rests = r.rests; end = r.end; for = rests_stage l x r.for }

pub goes_on : (l : LaneState) (p : Past) → Sends l p → (l.output.capacity ≤ length l.output.items) ⊎ IsAtRest l → (IsAtRest l → l.source ≢ source.Going → ⊥) → GoesOn l
goes_on l p s (inl full) over = let a = s.sized.output in inl (omega arith)
goes_on l p s (inr r) over = by r.for
  where
    by : RestsFor l → GoesOn l
    by (IsOver is) = absurd (over r is)
    by (Waits going ended waits more still) = inr (going, waiting_room l p s waits more, ended)

pub at_rest : (l : LaneState) (x : LaneStage) (new : LaneState) (p : Past) → Sends l p → (l.output.capacity ≤ length l.output.items) ⊎ IsAtRest l → new ≡ record l { stage = x } → new.output.items ≡ [] → IsAtRest new
at_rest l x new p s (inl full) same none =
    let a = s.sized.output in
    let b : l.output.items ≡ [] = ap (λ (n : LaneState). n.output.items) (sym same) ∙ none in
    let c : length l.output.items ≡ 0 = ap length b in
    absurd (omega arith)
at_rest l x new p s (inr r) same none = subst IsAtRest (sym same) (at_rest_stage l x r)

pub going_on : (l : LaneState) (p : Past) → Sends l p → RestsFor l → l.source ≡ source.Going → GoesOn l
going_on l p s (IsOver is) going = absurd (is going)
going_on l p s (Waits going ended waits more still) is = inr (going, waiting_room l p s waits more, ended)

-- the same lane at another stage
pub stands_at : (l : LaneState) (x : LaneStage) (p : Past) → Sends l p → (x ≡ stage.Done → IsAllOut l) → Stands (record l { stage = x }) p
stands_at l x p s out = record {
  sends = record {
    used = s.used;
    found = s.found;
    section = s.section;
    passed = s.passed;
    sized = record { least = s.sized.least; msg = s.sized.msg; out = s.sized.out; input = s.sized.input; output = s.sized.output; sieve = s.sized.sieve; filters = s.sized.filters };
    has_read = s.has_read;
    bytes = s.bytes;
    has_passed = s.has_passed;
    source = s.source;
    text = s.text;
  };
  over = λ e d. (let o = out e in record { msg = o.msg; out = o.out; source = o.source; end = o.end });
  done = λ e. (out e).source;
}

-- ---- what is left

pub reads_same : (old new : LaneState) → new.input ≡ old.input → new.source ≡ old.source → new.sieve ≡ old.sieve → reads_left new ≡ reads_left old
reads_same old new input src sieve =
    ap (λ (b : Buffer ℕ). 2 * length b.items + end_left new.source new.sieve) input ∙ ap (λ (x : Source). 2 * length old.input.items + end_left x new.sieve) src
    ∙ ap (λ (o : Option Sieve). 2 * length old.input.items + end_left old.source o) sieve

-- with nothing in the first array
pub brings_none : (old new : LaneState) → new.msg.blocks ≡ [] → new.source ≡ old.source → new.sieve ≡ old.sieve → brings_left new ≡ 2 * (held_left old.sieve + is_going old.source)
brings_none old new none src sieve =
    ap (λ (bs : List Block). 2 * (held_left new.sieve + is_going new.source) + (if nat_lt 0 (length bs) then 1 else 0)) none
    ∙ ap (λ (o : Option Sieve). 2 * (held_left o + is_going new.source) + 0) sieve ∙ ap (λ (x : Source). 2 * (held_left old.sieve + is_going x) + 0) src ∙ omega arith

pub brings_same : (old new : LaneState) → new.msg ≡ old.msg → new.source ≡ old.source → new.sieve ≡ old.sieve → brings_left new ≡ brings_left old
brings_same old new msg src sieve =
    ap (λ (m : Contents). 2 * (held_left new.sieve + is_going new.source) + (if nat_lt 0 (length m.blocks) then 1 else 0)) msg
    ∙ ap (λ (o : Option Sieve). 2 * (held_left o + is_going new.source) + (if nat_lt 0 (length old.msg.blocks) then 1 else 0)) sieve
    ∙ ap (λ (x : Source). 2 * (held_left old.sieve + is_going x) + (if nat_lt 0 (length old.msg.blocks) then 1 else 0)) src

-- where the window is not full, all was brought
pub drained : (l : LaneState) → (l.output.capacity ≤ length l.output.items) ⊎ IsDrained l → length l.output.items < l.output.capacity → IsDrained l
drained l (inl full) free = absurd (omega arith)
drained l (inr d) free = d

-- text that is dropped stands nowhere, so the array may be emptied
pub sends_cleared : (l : LaneState) (p : Past) (msg : Contents) → l.dropped ≡ true → msg.size ≡ l.msg.size → Sends l p → Sends (record l { msg = msg }) p
sends_cleared l p msg dropped size s = record {
  used = s.used;
  found = s.found;
  section = s.section;
  passed = s.passed;
  sized = record { least = s.sized.least; msg = size ∙ s.sized.msg; out = s.sized.out; input = s.sized.input; output = s.sized.output; sieve = s.sized.sieve; filters = s.sized.filters };
  has_read = s.has_read;
  bytes = s.bytes;
  has_passed = s.has_passed;
  source = s.source;
  text = λ d. absurd (let both : true ≡ false = sym dropped ∙ d in cc both);
}

-- ---- the stream goes on, or ends

whole_open : (reader : BodyReader) (ended : Option Ending) (input section : List ℕ) → ended ≡ None → IsWholeAt reader ended input section → state_of reader ≡ state.Whole
whole_open reader ended input section open_ (inl whole) = whole
whole_open reader ended input section open_ (inr h) = absurd (let both : None ≡ Some ending.Closed = sym open_ ∙ h.0 in cc both)

cut_open : (reader : BodyReader) (ended : Option Ending) (input : List ℕ) → ended ≡ None → IsCutAt reader ended input → state_of reader ≡ state.Bad
cut_open reader ended input open_ (inl bad) = bad
cut_open reader ended input open_ (inr h) = absurd (let both : None ≡ Some h.0 = sym open_ ∙ h.1 in cc both)

end_open : (reader : BodyReader) (ended later : Option Ending) (input grown section : List ℕ) → ended ≡ None → IsEndAt reader ended input section → IsEndAt reader later grown section
end_open reader ended later input grown section open_ (inl whole) = inl (inl (whole_open reader ended input section open_ whole))
end_open reader ended later input grown section open_ (inr cut) = inr (inl (cut_open reader ended input open_ cut))

ends_open : (e : BodyEnd) (reader : BodyReader) (ended later : Option Ending) (input grown section : List ℕ) → ended ≡ None → EndsAt e reader ended input section → EndsAt e reader later grown section
ends_open body_end.Open reader ended later input grown section open_ h = h
ends_open body_end.Whole reader ended later input grown section open_ h = inl (whole_open reader ended input section open_ h)
ends_open body_end.Accepted reader ended later input grown section open_ h = inl (whole_open reader ended input section open_ h)
ends_open body_end.Cut reader ended later input grown section open_ h = inl (cut_open reader ended input open_ h)

goes_open : (sieve : Option Sieve) (reader : BodyReader) (ended later : Option Ending) (input grown section : List ℕ) → ended ≡ None → GoesOnBy sieve reader ended input section → GoesOnBy sieve reader later grown section
goes_open None reader ended later input grown section open_ h = h
goes_open (Some sieve) reader ended later input grown section open_ h = (ends_open sieve.end reader ended later input grown section open_ h.0, h.1)

cuts_open : (filters : List FilterSpec) (reader : BodyReader) (ended later : Option Ending) (input grown section found passed : List ℕ) (code : ℕ) → ended ≡ None → CutBy filters reader ended input section found passed code
    → CutBy filters reader later grown section found passed code
cuts_open filters reader ended later input grown section found passed code open_ (Broken four at all) = Broken four (inl (cut_open reader ended input open_ at)) all
cuts_open filters reader ended later input grown section found passed code open_ (RefusedNow now) = RefusedNow now
cuts_open filters reader ended later input grown section found passed code open_ (RefusedAtEnd at whole) = RefusedAtEnd (end_open reader ended later input grown section open_ at) whole

source_open : (src : Source) (sieve : Option Sieve) (filters : List FilterSpec) (reader : BodyReader) (ended later : Option Ending) (input grown section found passed : List ℕ) → ended ≡ None
    → SourceIs src sieve filters reader ended input section found passed → SourceIs src sieve filters reader later grown section found passed
source_open source.Going sieve filters reader ended later input grown section found passed open_ h = goes_open sieve reader ended later input grown section open_ h
source_open source.Whole sieve filters reader ended later input grown section found passed open_ h = (inl (whole_open reader ended input section open_ h.0), h.1)
source_open (source.Cut code) sieve filters reader ended later input grown section found passed open_ h = cuts_open filters reader ended later input grown section found passed code open_ h

-- these bytes more, and this ending or none
pub stands_open : (l : LaneState) (p : Past) (input : Buffer ℕ) (later : Option Ending) (bytes : List ℕ) → l.ended ≡ None → input.items ≡ l.input.items ++ bytes → input.capacity ≡ l.input.capacity → Stands l p
    → Stands (record l { input = input; ended = later }) (record p { bytes = p.bytes ++ bytes })
stands_open l p input later bytes open_ items capacity st =
    let s = st.sends in
    record {
      sends = record {
        used = s.used;
        found = s.found;
        section = s.section;
        passed = s.passed;
        sized = record { least = s.sized.least; msg = s.sized.msg; out = s.sized.out; input = capacity ∙ s.sized.input; output = s.sized.output; sieve = s.sized.sieve; filters = s.sized.filters };
        has_read = s.has_read;
        bytes = ap (λ (b : List ℕ). b ++ bytes) s.bytes ∙ append_assoc s.used l.input.items bytes ∙ ap (λ (b : List ℕ). s.used ++ b) (sym items);
        has_passed = s.has_passed;
        source = source_open l.source l.sieve p.filters l.reader l.ended later l.input.items input.items s.section s.found s.passed open_ s.source;
        text = s.text;
      };
      over = λ e d. (let o = st.over e d in record { msg = o.msg; out = o.out; source = o.source; end = o.end });
      done = st.done;
    }

-- the stream ends
pub stands_ended : (l : LaneState) (p : Past) (how : Ending) → l.ended ≡ None → Stands l p → Stands (record l { ended = Some how }) p
stands_ended l p how open_ st =
    let s = st.sends in
    record {
      sends = record {
        used = s.used;
        found = s.found;
        section = s.section;
        passed = s.passed;
        sized = record { least = s.sized.least; msg = s.sized.msg; out = s.sized.out; input = s.sized.input; output = s.sized.output; sieve = s.sized.sieve; filters = s.sized.filters };
        has_read = s.has_read;
        bytes = s.bytes;
        has_passed = s.has_passed;
        source = source_open l.source l.sieve p.filters l.reader l.ended (Some how) l.input.items l.input.items s.section s.found s.passed open_ s.source;
        text = s.text;
      };
      over = λ e d. (let o = st.over e d in record { msg = o.msg; out = o.out; source = o.source; end = o.end });
      done = st.done;
    }
