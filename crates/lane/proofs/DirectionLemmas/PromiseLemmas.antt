-- What a lane that sends a message says of the bytes that came.
use Rattle.std.proofs.Common.{◌≡◌, ℕ, inl, inr, List, [], ◌++◌, Bool, true, false, refl, sym, ap, ◌∙◌, subst, append_assoc}
use Rattle.std.specs.Prelude.{Option, Some, map}
use Rattle.std.proofs.lemmas.List.{append-nil}
use Rattle.htx_model.specs.Block.{Block}
use Rattle.htx_model.specs.Blocks.{flow, append_data}
use Rattle.http_model.specs.Head.{Field, front_blocks, message_blocks, ended_trailers, trailer_block}
use Rattle.http_model.specs.Reading.{Whole, Broke, Bad}
use Rattle.http_model.specs.declared.Ending.{Ending}
use Rattle.http_model.specs.declared.Ending.TheVariants as ending
use Rattle.h1_body.specs.BodyOf.{BodyRead, Reads, More, IsBodyOf}
use Rattle.h1_body.specs.Section.{HasTrailers}
use Rattle.h1_body.proofs.PublicLaws.{one_reading, closed_whole}
use Rattle.body_filter.specs.declared.filter_spec.FilterSpec.{FilterSpec}
use Rattle.body_filter.specs.declared.filter_spec.FedState.{FedState}
use Rattle.body_filter.specs.declared.filter_spec.FedState.TheVariants as state
use Rattle.body_filter.specs.Filter.{Filtered, filtered}
use Rattle.h1_write.specs.declared.writer.Stage.{Stage}
use Rattle.h1_write.specs.declared.writer.Stage.TheVariants as at
use Rattle.h1_write.specs.declared.writer.Writer.{Writer}
use Rattle.h1_write.specs.Spelled.{IsEven, done_at, ended_at}
use Rattle.h1_write.proofs.PublicLaws.{front_told, cut_front_told, whole_told, cut_told}
use Rattle.lane.specs.Direction.Sent.{Sent, Finish, Cut, Ends, SpellsAs, IsFrontOf, message_of}
use Rattle.lane.specs.Direction.Carried.{Carried, CarriesFront, Carries, EndIsOut}
use Rattle.lane.specs.Direction.Sends.{Past, Sends, Stands, SourceIs, IsAllOut, put_out}
use Rattle.lane.specs.Direction.Filtering.{IsWholeAt, IsCutAt, CutBy, Broken, RefusedNow, RefusedAtEnd}
use Rattle.lane.specs.Direction.Promise.{Promise, BodyTaken, HasBody, OnEachBody, GoesOnWith, body_in, body_sent, filter_of, finish_of, ends_as, IsCut, IsCutWith}
use Rattle.http_model.specs.declared.Source.{Source}
use Rattle.http_model.specs.declared.Source.TheVariants as source
use Rattle.lane.specs.Direction.State.{LaneState}
use Rattle.htx_model.proofs.PublicLaws.{flow-front}
use Rattle.lane.proofs.DirectionLemmas.FlowLemmas.{front_flow, front_more, front_ended}
use Rattle.lane.proofs.DirectionLemmas.ReadLemmas.{no_trailers}
use Rattle.lane.proofs.DirectionLemmas.BodyLemmas.{grows, whole_stays, bad_stays, waiting_body, waiting_cut}
use Rattle.lane.proofs.DirectionLemmas.SiftLemmas.{some_trailers}
use Rattle.lane.proofs.DirectionLemmas.PassLemmas.{Passes, Came, GoesOn, CutHere, WholeHere, came_by}

-- ---- a message that is carried

-- more behind what is carried
carried_on : (w : Writer) (s : Sent) (put : List ℕ) (left msg all more : List Block) (c : Carried w s put left msg all) → flow all ≡ all → flow (c.taken ++ (left ++ (msg ++ more))) ≡ flow (all ++ more)
carried_on w s put left msg all more c flat =
    ap (λ (bs : List Block). flow (c.taken ++ bs)) (sym (append_assoc left msg more)) ∙ ap flow (sym (append_assoc c.taken (left ++ msg) more))
    ∙ flow-front (c.taken ++ (left ++ msg)) all more (c.flows ∙ sym flat)

-- a front of the message, cut behind a body that goes on
front_cut : (w : Writer) (s : Sent) (found more put : List ℕ) (left msg : List Block) → CarriesFront w s found put left msg → IsFrontOf s (found ++ more) Cut put
front_cut w s found more put left msg c =
    let told = cut_front_told s.framing s.no_body c.1.taken left (msg ++ append_data [] more) c.1.text w (message_of s (found ++ more) []) c.1.has c.0 refl
    (carried_on w s put left msg (front_blocks s.head found) (append_data [] more) c.1 (front_flow s.head found) ∙ front_more s.head found more) in
    (c.1.text, told.0, c.1.put_is, told.1)

-- a front of the message, whole with a body that goes on
front_whole : (w : Writer) (s : Sent) (found more put : List ℕ) (left msg : List Block) (trailers : List Field) → CarriesFront w s found put left msg → IsFrontOf s (found ++ more) (Ends trailers) put
front_whole w s found more put left msg trailers c =
    let ended : List Block = ended_trailers (map trailer_block trailers) in
    let all : flow (front_blocks s.head found ++ (append_data [] more ++ ended)) ≡ front_blocks s.head (found ++ more) ++ ended =
    ap flow (sym (append_assoc (front_blocks s.head found) (append_data [] more) ended))
    ∙ flow-front (front_blocks s.head found ++ append_data [] more) (front_blocks s.head (found ++ more)) ended (front_more s.head found more ∙ sym (front_flow s.head (found ++ more)))
    ∙ front_ended s.head (found ++ more) trailers in
    let told = front_told s.framing s.no_body c.1.taken left (msg ++ (append_data [] more ++ ended)) c.1.text w (message_of s (found ++ more) trailers) c.1.has
    (λ e. absurd (let both : true ≡ false = sym e ∙ c.0 in cc both)) refl
    (carried_on w s put left msg (front_blocks s.head found) (append_data [] more ++ ended) c.1 (front_flow s.head found) ∙ all) in
    (c.1.text, told.0, c.1.put_is, told.1)

-- a front of any message that goes on from here
front_as : (w : Writer) (s : Sent) (passed more put : List ℕ) (left msg : List Block) (finish : Finish) (b : List ℕ) → CarriesFront w s passed put left msg → b ≡ passed ++ more → IsFrontOf s b finish put
front_as w s passed more put left msg Cut b c e = subst (λ (b : List ℕ). IsFrontOf s b Cut put) (sym e) (front_cut w s passed more put left msg c)
front_as w s passed more put left msg (Ends trailers) b c e = subst (λ (b : List ℕ). IsFrontOf s b (Ends trailers) put) (sym e) (front_whole w s passed more put left msg trailers c)

not_done : (st : Stage) → ended_at st ≡ false → done_at st ≡ false
not_done (at.Block pos size) e = refl
not_done (at.End pos) e = refl
not_done at.Done e = absurd (let both : true ≡ false = e in cc both)

nothing_left : (w : Writer) (s : Sent) (put : List ℕ) (left msg all : List Block) (c : Carried w s put left msg all) → left ≡ [] → msg ≡ [] → flow c.taken ≡ all
nothing_left w s put left msg all c none empty = ap flow (sym (append-nil c.taken)) ∙ ap flow ((λ i. c.taken ++ (sym none i ++ sym empty i))) ∙ c.flows

-- all of the message that is cut
pub spelled_cut : (w : Writer) (s : Sent) (found put : List ℕ) (left msg : List Block) → CarriesFront w s found put left msg → left ≡ [] → msg ≡ [] → IsEven w → SpellsAs s found Cut put
spelled_cut w s found put left msg c none empty even =
    (c.1.text, c.1.put_is, cut_told s.framing s.no_body c.1.taken left c.1.text w (message_of s found []) c.1.has even (not_done w.stage c.0) refl (nothing_left w s put left msg (front_blocks s.head found) c.1 none empty))

-- ---- what the bytes come to

-- the reading of the bytes taken and of those that follow
reading : (l : LaneState) (p : Past) (s : Sends l p) (more : List ℕ) (ending : Option Ending) (read : BodyRead) → BodyTaken l p more ending read → IsBodyOf l.limits p.reads (s.used ++ (l.input.items ++ more)) ending read
reading l p s more ending read x =
    subst (λ (bytes : List ℕ). IsBodyOf l.limits p.reads bytes ending read) (ap (λ (b : List ℕ). b ++ more) s.bytes ∙ append_assoc s.used l.input.items more) x

ended_more : (ended : Option Ending) (more : List ℕ) (ending : Option Ending) (how : Ending) → ended ≡ Some how → GoesOnWith ended more ending → (more ≡ []) × (ending ≡ Some how)
ended_more ended more ending how e g = subst (λ (o : Option Ending). GoesOnWith o more ending) e g

-- it is whole, with what follows it
whole_is : (l : LaneState) (p : Past) (s : Sends l p) (trailers : List Field) → IsWholeAt l.reader l.ended l.input.items s.section → HasTrailers s.section trailers
    → (more : List ℕ) (last : Option Ending) → GoesOnWith l.ended more last → (read : BodyRead) → BodyTaken l p more last read → read ≡ Reads (Whole s.found trailers (l.input.items ++ more))
whole_is l p s trailers (inl whole) has more last g read x =
    one_reading l.limits p.reads (s.used ++ (l.input.items ++ more)) last read (Reads (Whole s.found trailers (l.input.items ++ more))) (reading l p s more last read x)
    (whole_stays l.limits p.reads s.used s.found s.section (l.input.items ++ more) l.reader last trailers s.has_read whole has)
whole_is l p s trailers (inr (ended, ends, empty, none)) has more last g read x =
    let end = ended_more l.ended more last ending.Closed ended g in
    let closed = closed_whole l.reader ends l.limits p.reads s.used s.found s.section s.has_read in
    let same : closed.0 ≡ trailers = no_trailers s.section closed.0 none closed.1 ∙ sym (no_trailers s.section trailers none has) in
    let nothing : l.input.items ++ more ≡ [] = ap (λ (b : List ℕ). b ++ more) empty ∙ end.0 in
    let here : IsBodyOf l.limits p.reads s.used (Some ending.Closed) read =
    subst (λ (bytes : List ℕ). IsBodyOf l.limits p.reads bytes (Some ending.Closed) read) (ap (λ (b : List ℕ). s.used ++ b) nothing ∙ append-nil s.used)
    (subst (λ (e : Option Ending). IsBodyOf l.limits p.reads (s.used ++ (l.input.items ++ more)) e read) end.1 (reading l p s more last read x)) in
    one_reading l.limits p.reads s.used (Some ending.Closed) read (Reads (Whole s.found closed.0 [])) here closed.2
    ∙ ap (λ (ts : List Field). Reads (Whole s.found ts [])) same ∙ ap (λ (b : List ℕ). Reads (Whole s.found trailers b)) (sym nothing)

-- a reading of the bytes behind the head
taken : (l : LaneState) (p : Past) (s : Sends l p) (more : List ℕ) (ending : Option Ending) (read : BodyRead) → IsBodyOf l.limits p.reads (s.used ++ (l.input.items ++ more)) ending read → BodyTaken l p more ending read
taken l p s more ending read x =
    subst (λ (bytes : List ℕ). IsBodyOf l.limits p.reads bytes ending read) (sym (ap (λ (b : List ℕ). b ++ more) s.bytes ∙ append_assoc s.used l.input.items more)) x

-- a body that is whole has a reading, whatever follows it
whole_read : (l : LaneState) (p : Past) (s : Sends l p) (trailers : List Field) → IsWholeAt l.reader l.ended l.input.items s.section → HasTrailers s.section trailers → HasBody l p
whole_read l p s trailers (inl whole) has more last g = (
  Reads (Whole s.found trailers (l.input.items ++ more)),
  taken l p s more last (Reads (Whole s.found trailers (l.input.items ++ more)))
      (whole_stays l.limits p.reads s.used s.found s.section (l.input.items ++ more) l.reader last trailers s.has_read whole has),
)
whole_read l p s trailers (inr (ended, ends, empty, none)) has more last g =
    let end = ended_more l.ended more last ending.Closed ended g in
    let closed = closed_whole l.reader ends l.limits p.reads s.used s.found s.section s.has_read in
    let nothing : l.input.items ++ more ≡ [] = ap (λ (b : List ℕ). b ++ more) empty ∙ end.0 in
    let read : BodyRead = Reads (Whole s.found closed.0 []) in
    let here : IsBodyOf l.limits p.reads (s.used ++ (l.input.items ++ more)) (Some ending.Closed) read =
    subst (λ (bytes : List ℕ). IsBodyOf l.limits p.reads bytes (Some ending.Closed) read) (sym (ap (λ (b : List ℕ). s.used ++ b) nothing ∙ append-nil s.used)) closed.2 in
    (read, taken l p s more last read (subst (λ (e : Option Ending). IsBodyOf l.limits p.reads (s.used ++ (l.input.items ++ more)) e read) (sym end.1) here))

-- it is cut where the bytes were read to
record IsCutHere (found : List ℕ) (read : BodyRead) : Type 0 where
  pub body : body_in read ≡ found
  pub cut : IsCut read

cut_is : (l : LaneState) (p : Past) (s : Sends l p) → IsCutAt l.reader l.ended l.input.items
    → (more : List ℕ) (ending : Option Ending) → GoesOnWith l.ended more ending → (read : BodyRead) → BodyTaken l p more ending read → IsCutHere s.found read
cut_is l p s (inl bad) more ending g read x =
    let same : read ≡ Reads (Bad s.found) = one_reading l.limits p.reads (s.used ++ (l.input.items ++ more)) ending read (Reads (Bad s.found)) (reading l p s more ending read x)
    (bad_stays l.limits p.reads s.used s.found s.section (l.input.items ++ more) l.reader ending s.has_read bad) in
    record { body = ap body_in same; cut = subst IsCut (sym same) tt }
cut_is l p s (inr (how, ended, wait, waits, ends)) more ending g read x =
    let end = ended_more l.ended more ending how ended g in
    let all : l.input.items ++ more ≡ l.input.items = ap (λ (b : List ℕ). l.input.items ++ b) end.0 ∙ append-nil l.input.items in
    let here : IsBodyOf l.limits p.reads (s.used ++ l.input.items) (Some how) read =
    subst (λ (b : List ℕ). IsBodyOf l.limits p.reads (s.used ++ b) (Some how) read) all
    (subst (λ (e : Option Ending). IsBodyOf l.limits p.reads (s.used ++ (l.input.items ++ more)) e read) end.1 (reading l p s more ending read x)) in
    record {
      body = waiting_body l.limits p.reads s.used s.found s.section l.input.items l.reader (Some how) read s.has_read wait waits here;
      cut = waiting_cut l.limits p.reads s.used s.found s.section l.input.items l.reader how read s.has_read wait waits ends here;
    }

-- of a body that is cut the filters make what they make of all that came
all_that_came : (filters : List FilterSpec) (read : BodyRead) → IsCut read → filter_of filters read ≡ filtered filters true (body_in read)
all_that_came filters (Reads (Whole body trailers rest)) h = absurd h
all_that_came filters (Reads (Broke body)) h = refl
all_that_came filters (Reads (Bad body)) h = refl
all_that_came filters (More body) h = absurd h

-- and so of one that is cut where the bytes were read to
cut_filtered : (l : LaneState) (p : Past) (s : Sends l p) → IsCutAt l.reader l.ended l.input.items
    → (more : List ℕ) (ending : Option Ending) → GoesOnWith l.ended more ending → (read : BodyRead) → BodyTaken l p more ending read → filter_of p.filters read ≡ filtered p.filters true s.found
cut_filtered l p s at more ending g read x =
    let here = cut_is l p s at more ending g read x in
    all_that_came p.filters read here.cut ∙ ap (filtered p.filters true) here.body

cut_finish : (filters : List FilterSpec) (read : BodyRead) → IsCut read → finish_of filters read ≡ Cut
cut_finish filters (Reads (Whole body trailers rest)) h = absurd h
cut_finish filters (Reads (Broke body)) h = refl
cut_finish filters (Reads (Bad body)) h = refl
cut_finish filters (More body) h = refl

-- what the filters make of any reading, whole or so far
either_way : (filters : List FilterSpec) (read : BodyRead) → (whole : Bool) × (filter_of filters read ≡ filtered filters whole (body_in read))
either_way filters (Reads (Whole body trailers rest)) = (true, refl)
either_way filters (Reads (Broke body)) = (true, refl)
either_way filters (Reads (Bad body)) = (true, refl)
either_way filters (More body) = (false, refl)

refused_ends : (st : FedState) (code : ℕ) (trailers : List Field) → st ≡ state.Refused code → ends_as st trailers ≡ Cut
refused_ends st code trailers e = ap (λ (s : FedState). ends_as s trailers) e

refused_finish : (filters : List FilterSpec) (read : BodyRead) (code : ℕ) → (filter_of filters read).state ≡ state.Refused code → finish_of filters read ≡ Cut
refused_finish filters (Reads (Whole body trailers rest)) code e = refused_ends (filtered filters true body).state code trailers e
refused_finish filters (Reads (Broke body)) code e = refl
refused_finish filters (Reads (Bad body)) code e = refl
refused_finish filters (More body) code e = refl

-- ---- a source that is cut

record CutSource (p : Past) (passed : List ℕ) (code : ℕ) (read : BodyRead) : Type 0 where
  pub output : (filter_of p.filters read).output ≡ passed
  pub finish : finish_of p.filters read ≡ Cut
  pub why : IsCutWith code p.filters read

cut_source : (l : LaneState) (p : Past) (s : Sends l p) (code : ℕ) → CutBy p.filters l.reader l.ended l.input.items s.section s.found s.passed code
    → (more : List ℕ) (ending : Option Ending) → GoesOnWith l.ended more ending → (read : BodyRead) → BodyTaken l p more ending read → CutSource p s.passed code read
cut_source l p s code (Broken four at all) more ending g read x =
    let here = cut_is l p s at more ending g read x in
    let is : filter_of p.filters read ≡ record { output = s.passed; state = state.Over } = cut_filtered l p s at more ending g read x ∙ all in
    record { output = ap (λ (f : Filtered). f.output) is; finish = cut_finish p.filters read here.cut; why = inr (four, here.cut, ap (λ (f : Filtered). f.state) is) }
cut_source l p s code (RefusedNow now) more ending g read x =
    let body = grows l.limits p.reads s.used s.found s.section (l.input.items ++ more) l.reader ending read s.has_read (reading l p s more ending read x) in
    let way = either_way p.filters read in
    let is : filter_of p.filters read ≡ record { output = s.passed; state = state.Refused code } = way.1 ∙ ap (filtered p.filters way.0) body.1 ∙ now way.0 body.0 in
    let st : (filter_of p.filters read).state ≡ state.Refused code = ap (λ (f : Filtered). f.state) is in
    record { output = ap (λ (f : Filtered). f.output) is; finish = refused_finish p.filters read code st; why = inl st }
cut_source l p s code (RefusedAtEnd (inr at) refused) more ending g read x =
    let is : filter_of p.filters read ≡ record { output = s.passed; state = state.Refused code } = cut_filtered l p s at more ending g read x ∙ refused in
    let st : (filter_of p.filters read).state ≡ state.Refused code = ap (λ (f : Filtered). f.state) is in
    record { output = ap (λ (f : Filtered). f.output) is; finish = refused_finish p.filters read code st; why = inl st }
cut_source l p s code (RefusedAtEnd (inl at) whole) more ending g read x =
    let trailers = some_trailers l.limits p.reads s.used s.found s.section l.input.items l.reader l.ended s.has_read at in
    let same = whole_is l p s trailers.0 at trailers.1 more ending g read x in
    let is : filter_of p.filters read ≡ record { output = s.passed; state = state.Refused code } = ap (filter_of p.filters) same ∙ whole in
    let st : (filter_of p.filters read).state ≡ state.Refused code = ap (λ (f : Filtered). f.state) is in
    record { output = ap (λ (f : Filtered). f.output) is; finish = refused_finish p.filters read code st; why = inl st }

-- ---- the promise

source_is : (l : LaneState) (p : Past) (s : Sends l p) (src : Source) → l.source ≡ src → SourceIs src l.sieve p.filters l.reader l.ended l.input.items s.section s.found s.passed
source_is l p s src e = subst (λ (x : Source). SourceIs x l.sieve p.filters l.reader l.ended l.input.items s.section s.found s.passed) e s.source

pub text_is : (l : LaneState) (p : Past) (s : Sends l p) (src : Source) → l.source ≡ src → l.dropped ≡ false → Carries src l.writer p.sent (p.sent.given ++ s.passed) s.section (put_out l p) l.out.blocks l.msg.blocks
text_is l p s src e d = subst (λ (x : Source). Carries x l.writer p.sent (p.sent.given ++ s.passed) s.section (put_out l p) l.out.blocks l.msg.blocks) e (s.text d)

-- while it goes on
going_front : (l : LaneState) (p : Past) (s : Sends l p) → CarriesFront l.writer p.sent (p.sent.given ++ s.passed) (put_out l p) l.out.blocks l.msg.blocks
    → (more : List ℕ) (ending : Option Ending) → GoesOnWith l.ended more ending → (read : BodyRead) → BodyTaken l p more ending read → (rest : List ℕ) → (filter_of p.filters read).output ≡ s.passed ++ rest
    → IsFrontOf p.sent (body_sent p read) (finish_of p.filters read) (put_out l p)
going_front l p s c more ending g read x rest e =
    front_as l.writer p.sent (p.sent.given ++ s.passed) rest (put_out l p) l.out.blocks l.msg.blocks (finish_of p.filters read) (body_sent p read) c
    (ap (λ (b : List ℕ). p.sent.given ++ b) e ∙ sym (append_assoc p.sent.given s.passed rest))

passes_read : (l : LaneState) (p : Past) (s : Sends l p) → Passes p.filters s.found s.passed → (more : List ℕ) (ending : Option Ending) (read : BodyRead) → BodyTaken l p more ending read
    → (rest : List ℕ) × ((filter_of p.filters read).output ≡ s.passed ++ rest)
passes_read l p s h more ending read x =
    let body = grows l.limits p.reads s.used s.found s.section (l.input.items ++ more) l.reader ending read s.has_read (reading l p s more ending read x) in
    let way = either_way p.filters read in
    let on = h.on way.0 body.0 in
    (on.0, ap (λ (f : Filtered). f.output) way.1 ∙ ap (λ (b : List ℕ). (filtered p.filters way.0 b).output) body.1 ∙ on.1)

front_going : (l : LaneState) (p : Past) (s : Sends l p) → Came p.filters l.reader l.ended l.input.items s.section s.found s.passed → CarriesFront l.writer p.sent (p.sent.given ++ s.passed) (put_out l p) l.out.blocks l.msg.blocks
    → OnEachBody l p (λ read. IsFrontOf p.sent (body_sent p read) (finish_of p.filters read) (put_out l p))
front_going l p s (GoesOn h) c more ending g read x = let on = passes_read l p s h more ending read x in going_front l p s c more ending g read x on.0 on.1
front_going l p s (CutHere at h) c more ending g read x =
    going_front l p s c more ending g read x h.all.0 (ap (λ (f : Filtered). f.output) (cut_filtered l p s at more ending g read x) ∙ h.all.1)
front_going l p s (WholeHere at h) c more ending g read x =
    let trailers = some_trailers l.limits p.reads s.used s.found s.section l.input.items l.reader l.ended s.has_read at in
    let same = whole_is l p s trailers.0 at trailers.1 more ending g read x in
    going_front l p s c more ending g read x h.all.0 (ap (λ (r : BodyRead). (filter_of p.filters r).output) same ∙ h.all.1)

-- a source that is whole: the reading, and what is sent of it
record WholeSource (l : LaneState) (p : Past) (s : Sends l p) (trailers : List Field) (more : List ℕ) (read : BodyRead) : Type 0 where
  pub is : read ≡ Reads (Whole s.found trailers (l.input.items ++ more))
  pub sent : body_sent p read ≡ p.sent.given ++ s.passed
  pub finish : finish_of p.filters read ≡ Ends trailers

whole_source : (l : LaneState) (p : Past) (s : Sends l p) (trailers : List Field) → HasTrailers s.section trailers → IsWholeAt l.reader l.ended l.input.items s.section → filtered p.filters true s.found ≡ record { output = s.passed; state = state.Over }
    → (more : List ℕ) (ending : Option Ending) → GoesOnWith l.ended more ending → (read : BodyRead) → BodyTaken l p more ending read → WholeSource l p s trailers more read
whole_source l p s trailers has at over more ending g read x =
    let same = whole_is l p s trailers at has more ending g read x in
    record {
      is = same;
      sent = ap (body_sent p) same ∙ ap (λ (f : Filtered). p.sent.given ++ f.output) over;
      finish = ap (finish_of p.filters) same ∙ ap (λ (f : Filtered). ends_as f.state trailers) over;
    }

front_of : (l : LaneState) (p : Past) → Stands l p → (src : Source) → l.source ≡ src → l.dropped ≡ false → OnEachBody l p (λ read. IsFrontOf p.sent (body_sent p read) (finish_of p.filters read) (put_out l p))
front_of l p st source.Going e d more ending g read x =
    let s = st.sends in
    front_going l p s (came_by l.sieve p.filters l.reader l.ended l.input.items s.section s.found s.passed (source_is l p s source.Going e) s.has_passed) (text_is l p s source.Going e d) more ending g read x
front_of l p st source.Whole e d more ending g read x =
    let s = st.sends in
    let c = text_is l p s source.Whole e d in
    let is = source_is l p s source.Whole e in
    let w = whole_source l p s c.0 c.1 is.0 is.1 more ending g read x in
    subst (λ (f : Finish). IsFrontOf p.sent (body_sent p read) f (put_out l p)) (sym w.finish) (subst (λ (b : List ℕ). IsFrontOf p.sent b (Ends c.0) (put_out l p)) (sym w.sent)
    (let told = front_told p.sent.framing p.sent.no_body c.2.taken l.out.blocks l.msg.blocks c.2.text l.writer (message_of p.sent (p.sent.given ++ s.passed) c.0) c.2.has c.3 refl c.2.flows in
    (c.2.text, told.0, c.2.put_is, told.1)))
front_of l p st (source.Cut code) e d more ending g read x =
    let s = st.sends in
    let c = text_is l p s (source.Cut code) e d in
    let here = cut_source l p s code (source_is l p s (source.Cut code) e) more ending g read x in
    going_front l p s c more ending g read x [] (here.output ∙ sym (append-nil s.passed))

spelled_at : (l : LaneState) (p : Past) → Stands l p → (src : Source) → l.source ≡ src → IsAllOut l → l.dropped ≡ false → OnEachBody l p (λ read. SpellsAs p.sent (body_sent p read) (finish_of p.filters read) (put_out l p))
spelled_at l p st source.Going e out d more ending g read x = absurd (out.source e)
spelled_at l p st source.Whole e out d more ending g read x =
    let s = st.sends in
    let c = text_is l p s source.Whole e d in
    let is = source_is l p s source.Whole e in
    let end : EndIsOut source.Whole l.writer = subst (λ (src : Source). EndIsOut src l.writer) e out.end in
    let w = whole_source l p s c.0 c.1 is.0 is.1 more ending g read x in
    subst (λ (f : Finish). SpellsAs p.sent (body_sent p read) f (put_out l p)) (sym w.finish) (subst (λ (b : List ℕ). SpellsAs p.sent b (Ends c.0) (put_out l p)) (sym w.sent) (
      c.2.text,
      c.2.put_is,
      whole_told p.sent.framing p.sent.no_body c.2.taken l.out.blocks c.2.text l.writer (message_of p.sent (p.sent.given ++ s.passed) c.0) c.2.has end refl
          (nothing_left l.writer p.sent (put_out l p) l.out.blocks l.msg.blocks (message_blocks (message_of p.sent (p.sent.given ++ s.passed) c.0)) c.2 out.out out.msg),
    ))
spelled_at l p st (source.Cut code) e out d more ending g read x =
    let s = st.sends in
    let c = text_is l p s (source.Cut code) e d in
    let end : EndIsOut (source.Cut code) l.writer = subst (λ (src : Source). EndIsOut src l.writer) e out.end in
    let here = cut_source l p s code (source_is l p s (source.Cut code) e) more ending g read x in
    subst (λ (f : Finish). SpellsAs p.sent (body_sent p read) f (put_out l p)) (sym here.finish)
    (subst (λ (b : List ℕ). SpellsAs p.sent b Cut (put_out l p)) (ap (λ (b : List ℕ). p.sent.given ++ b) (sym here.output)) (spelled_cut l.writer p.sent (p.sent.given ++ s.passed) (put_out l p) l.out.blocks l.msg.blocks c out.out out.msg end))

pub promise : (l : LaneState) (p : Past) → Stands l p → Promise l p
promise l p st = record {
  front = λ d. front_of l p st l.source refl d;
  spelled = λ done d. spelled_at l p st l.source refl (st.over done d) d;
  whole = λ e more ending g read x. (
      let s = st.sends in
      let is = source_is l p s source.Whole e in
      let some = some_trailers l.limits p.reads s.used s.found s.section l.input.items l.reader l.ended s.has_read is.0 in
      (s.found, some.0, whole_is l p s some.0 is.0 some.1 more ending g read x, ap (λ (f : Filtered). f.state) is.1));
  cut = λ code e more ending g read x. (let s = st.sends in (cut_source l p s code (source_is l p s (source.Cut code) e) more ending g read x).why);
}

pub has_body : (l : LaneState) (p : Past) → Stands l p → l.source ≡ source.Whole → HasBody l p
has_body l p st e =
    let s = st.sends in
    let is = source_is l p s source.Whole e in
    let some = some_trailers l.limits p.reads s.used s.found s.section l.input.items l.reader l.ended s.has_read is.0 in
    whole_read l p s some.0 is.0 some.1
