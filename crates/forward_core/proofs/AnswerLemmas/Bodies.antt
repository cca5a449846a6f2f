-- A response that a lane puts out, as its session spells it.
use Rattle.std.proofs.Common.{◌≡◌, ℕ, List, [], ◌∷◌, ◌++◌, Bool, true, false, inl, inr, refl, sym, ap, ◌∙◌, subst, append_assoc, cond}
use Rattle.std.specs.Prelude.{Option, Some, None, zero, suc, ◌-◌, length, nat_le, not, ◌&&◌, is_some}
use Rattle.std.proofs.lemmas.List.{append-nil, append_cancel_left}
use Rattle.std.proofs.lemmas.Bool.{cases_Bool}
use Rattle.http_model.specs.declared.Ending.{Ending}
use Rattle.http_model.specs.declared.Framing.{Framing}
use Rattle.http_model.specs.declared.Framing.TheVariants as framing
use Rattle.http_model.specs.declared.Limits.{Limits}
use Rattle.http_model.specs.Head.{Field, Head, Message}
use Rattle.http_model.specs.Reading.{BodyReading, Received, Whole, Broke, Bad}
use Rattle.http_model.specs.Finish.{response_framing}
use Rattle.http_model.specs.Spelling.{Spells, SpellsBodyUnless}
use Rattle.body_filter.specs.declared.filter_spec.FedState.{FedState}
use Rattle.body_filter.specs.declared.filter_spec.FedState.TheVariants.{Going, Over, Refused}
use Rattle.body_filter.specs.declared.filter_spec.FilterSpec.{FilterSpec}
use Rattle.body_filter.specs.declared.filter_spec.FilterSpec.TheVariants.{Limit, Deny, Replace}
use Rattle.body_filter.specs.Filter.{Filtered, begins, searched, is_over, joined, filtered, filtered_by}
use Rattle.body_filter.proofs.PublicLaws.{here, passes}
use Rattle.h1_body.specs.BodyOf.{BodyRead, Reads, IsBodyOf, BodyOf}
use Rattle.px_sample.specs.Variables.{Variables}
use Rattle.http_rules.specs.declared.config.Config.{Config}
use Rattle.forward_core.specs.Meaning.Product.{meaning_of, filters_of, replaces, refused_in}
use Rattle.session_model.specs.Stream.{Stream}
use Rattle.session_model.specs.Meaning.{Filters, sent_body}
use Rattle.session_model.specs.Asking.{Asker}
use Rattle.session_model.specs.Answering.{Final, Answers as FinalAnswers, answer_by, finished_response}
use Rattle.session_model.specs.Session.{SpellsFinal}
use Rattle.session_core.specs.Sided.{ToldIs, is_cut, goes_on_with}
use Rattle.session_core.specs.Lanes.{AnswerBody}
use Rattle.lane.specs.Direction.Sent.{Sent, SpellsAs, IsFrontOf, is_whole, trailers_in, message_of}
use Rattle.lane.specs.Direction.Sends.{Past, put_out}
use Rattle.lane.specs.Direction.Promise.{Promise, BodyTaken, GoesOnWith, ends_as, filter_of, finish_of, IsCutWith, IsWholeWith}
use Rattle.lane.specs.declared.direction.lane.Lane.{Lane}
use Rattle.http_model.specs.declared.Source.{Source}
use Rattle.http_model.specs.declared.Source.TheVariants as source
use Rattle.lane.specs.declared.direction.stage.Stage.TheVariants as stage
use Rattle.lane.specs.declared.direction.stage.Stage.{Stage}
use Rattle.forward_core.specs.Answer.Seen.{told_by, is_done}
use Rattle.forward_core.proofs.AnswerLemmas.Heads.{More}

-- ---- filters of a whole body come to an end

search_ends : (n : List ℕ) (to : Option (List ℕ)) (skip : ℕ) (body : List ℕ) → (searched n to skip true body).state ≡ Going → ⊥
unfolding searched
search_ends n to skip [] h = cc
search_ends n to (suc skip) (b ∷ bs) h = search_ends n to skip bs h
search_ends n None zero (b ∷ bs) h = elim (cases_Bool (begins n (b ∷ bs))) [
  | inl is ↦ let e : Refused 403 ≡ Going = sym (ap (λ (f : Filtered). f.state) (here n None true b bs is)) ∙ h in cc
  | inr off ↦ search_ends n None 0 bs (sym (ap (λ (f : Filtered). f.state) (passes n None true b bs off (whole_waits (begins (b ∷ bs) n)))) ∙ h)
]
  where
    whole_waits : (b : Bool) → (b && not true) ≡ false
    whole_waits true = refl
    whole_waits false = refl
search_ends n (Some to) zero (b ∷ bs) h = elim (cases_Bool (begins n (b ∷ bs))) [
  | inl is ↦ search_ends n (Some to) (length n - 1) bs (sym (ap (λ (f : Filtered). f.state) (here n (Some to) true b bs is)) ∙ h)
  | inr off ↦ search_ends n (Some to) 0 bs (sym (ap (λ (f : Filtered). f.state) (passes n (Some to) true b bs off (whole_waits (begins (b ∷ bs) n)))) ∙ h)
]
  where
    whole_waits : (b : Bool) → (b && not true) ≡ false
    whole_waits true = refl
    whole_waits false = refl

limit_ends : (t : Bool) → cond t Over (Refused 413) ≡ Going → ⊥
limit_ends true h = cc
limit_ends false h = cc

filter_ends : (f : FilterSpec) (body : List ℕ) → (filtered_by f true body).state ≡ Going → ⊥
filter_ends (Limit n) body h = limit_ends (nat_le (length body) n) h
filter_ends (Deny needle) body h = search_ends needle None 0 body h
filter_ends (Replace from to) body h = search_ends from (Some to) 0 body h

is_at_end : (st : FedState) → (st ≡ Going → ⊥) → is_over st ≡ true
is_at_end Going off = absurd (off refl)
is_at_end Over off = refl
is_at_end (Refused code) off = refl

joined_ends : (first next : FedState) → (first ≡ Going → ⊥) → (next ≡ Going → ⊥) → joined first next ≡ Going → ⊥
joined_ends first Going one two h = two refl
joined_ends first Over one two h = one h
joined_ends first (Refused code) one two h = cc

chain_ends : (fs : List FilterSpec) (body : List ℕ) → (filtered fs true body).state ≡ Going → ⊥
unfolding filtered
chain_ends [] body h = cc
chain_ends (f ∷ fs) body h =
    let x : Filtered = filtered_by f true body in
    joined_ends x.state (filtered fs (is_over x.state) x.output).state (filter_ends f body)
    (subst (λ (w : Bool). (filtered fs w x.output).state ≡ Going → ⊥) (sym (is_at_end x.state (filter_ends f body))) (chain_ends fs x.output)) h

-- ---- what the session sends of a body

output_by : (filters : Filters) (cut : Option ℕ) (body : List ℕ) (o : Option ℕ) → (filters.filter body).refused ≡ o → (sent_body filters cut body).output ≡ (filters.filter body).output
output_by filters cut body None e = rw e refl
output_by filters cut body (Some code) e = rw e refl

sent_output : (fs : List FilterSpec) (cut : Option ℕ) (body : List ℕ) → (sent_body (filters_of fs) cut body).output ≡ (filtered fs true body).output
sent_output fs cut body = output_by (filters_of fs) cut body ((filters_of fs).filter body).refused refl

refused_by : (filters : Filters) (cut : Option ℕ) (body : List ℕ) (code : ℕ) → (filters.filter body).refused ≡ Some code → (sent_body filters cut body).refused ≡ Some code
refused_by filters cut body code e = rw e refl

accepted_by : (filters : Filters) (cut : Option ℕ) (body : List ℕ) → (filters.filter body).refused ≡ None → (sent_body filters cut body).refused ≡ cut
accepted_by filters cut body e = rw e refl

always_cut : (filters : Filters) (body : List ℕ) (code : ℕ) (o : Option ℕ) → (filters.filter body).refused ≡ o → is_some (sent_body filters (Some code) body).refused ≡ true
always_cut filters body code None e = ap is_some (accepted_by filters (Some code) body e)
always_cut filters body code (Some other) e = ap is_some (refused_by filters (Some code) body other e)

cut_there : (fs : List FilterSpec) (body : List ℕ) → is_some (sent_body (filters_of fs) (Some 502) body).refused ≡ true
cut_there fs body = always_cut (filters_of fs) body 502 ((filters_of fs).filter body).refused refl

refused_there : (fs : List FilterSpec) (body : List ℕ) (code : ℕ) → (filtered fs true body).state ≡ Refused code → is_some (sent_body (filters_of fs) None body).refused ≡ true
refused_there fs body code e = ap is_some (refused_by (filters_of fs) None body code (ap refused_in e))

accepted_there : (fs : List FilterSpec) (body : List ℕ) → (filtered fs true body).state ≡ Over → is_some (sent_body (filters_of fs) None body).refused ≡ false
accepted_there fs body e = ap is_some (accepted_by (filters_of fs) None body (ap refused_in e))

-- ---- spellings

abbrev message : Head → Framing → List ℕ → List Field → Message
message head framed body trailers = record { head = head; framing = framed; body = body; trailers = trailers }

spells_same : (head : Head) (framed : Framing) (trailers : List Field) (no_body : Bool) (a b : Bool) (xs ys : List ℕ) (text : List ℕ) → a ≡ b → xs ≡ ys
    → Spells a no_body (message head framed xs trailers) text → Spells b no_body (message head framed ys trailers) text
spells_same head framed trailers no_body a b xs ys text e f s =
    subst (λ (w : Bool). Spells w no_body (message head framed ys trailers) text) e (subst (λ (zs : List ℕ). Spells a no_body (message head framed zs trailers) text) f s)

cut_body : (no_body : Bool) (head : Head) (framed : Framing) (body text : List ℕ) (trailers : List Field) → SpellsBodyUnless no_body false (message head framed body []) text
    → SpellsBodyUnless no_body false (message head framed body trailers) text
cut_body true head framed body text trailers s = s
cut_body false head framing.Absent body text trailers s = s
cut_body false head (framing.Length n) body text trailers s = s
cut_body false head framing.Chunked body text trailers s = s
cut_body false head framing.ToClose body text trailers s = s

-- a message that is cut has no trailers
spells_cut : (head : Head) (framed : Framing) (trailers : List Field) (no_body : Bool) (body text : List ℕ) → Spells false no_body (message head framed body []) text
    → Spells false no_body (message head framed body trailers) text
spells_cut head framed trailers no_body body text s = record { body = s.body; spelled = s.spelled; spells_body = cut_body no_body head framed body s.body trailers s.spells_body }

-- the head and framing of the response
abbrev head_for : Config → Asker → Received → Head → Head
head_for cfg asker received head = finished_response (meaning_of cfg) asker received head

abbrev framing_for : Config → Asker → Received → Framing
framing_for cfg asker received = response_framing (replaces cfg.res_filters) asker.is_http_11 received.framing

abbrev sent_as : Config → Asker → Received → Head → List ℕ → Sent
sent_as cfg asker received head before = record { head = head_for cfg asker received head; given = []; framing = framing_for cfg asker received; no_body = asker.head_asked; before = before }

-- what the lane spells of a body
abbrev LaneSpells : Config → Asker → Received → Head → (before : List ℕ) → BodyReading → (text : List ℕ) → Type 0
LaneSpells cfg asker received head before body text =
    Spells (is_whole (finish_of cfg.res_filters (Reads body))) asker.head_asked
    (message_of (sent_as cfg asker received head before) ([] ++ (filter_of cfg.res_filters (Reads body)).output) (trailers_in (finish_of cfg.res_filters (Reads body)))) text

abbrev final_of : Config → Asker → Received → Head → Variables → BodyReading → Final Variables
final_of cfg asker received head vars body = answer_by (meaning_of cfg) asker received head vars body

whole_final : (cfg : Config) (asker : Asker) (received : Received) (head : Head) (vars : Variables) (before : List ℕ) (body : List ℕ) (trailers : List Field) (rest : List ℕ) (text : List ℕ) (st : FedState)
    → (filtered cfg.res_filters true body).state ≡ st → LaneSpells cfg asker received head before (Whole body trailers rest) text
    → SpellsFinal (meaning_of cfg) asker (final_of cfg asker received head vars (Whole body trailers rest)) text
whole_final cfg asker received head vars before body trailers rest text Going e s = absurd (chain_ends cfg.res_filters body e)
whole_final cfg asker received head vars before body trailers rest text Over e s =
    let ended : Spells true asker.head_asked (message (head_for cfg asker received head) (framing_for cfg asker received) (filtered cfg.res_filters true body).output trailers) text =
    subst (λ (f : FedState). Spells (is_whole (ends_as f trailers)) asker.head_asked (message (head_for cfg asker received head) (framing_for cfg asker received) (filtered cfg.res_filters true body).output (trailers_in (ends_as f trailers))) text) e s in
    spells_same (head_for cfg asker received head) (framing_for cfg asker received) trailers asker.head_asked true (not (is_some (sent_body (filters_of cfg.res_filters) None body).refused))
    (filtered cfg.res_filters true body).output (sent_body (filters_of cfg.res_filters) None body).output text (sym (ap not (accepted_there cfg.res_filters body e))) (sym (sent_output cfg.res_filters None body)) ended
whole_final cfg asker received head vars before body trailers rest text (Refused code) e s =
    let ended : Spells false asker.head_asked (message (head_for cfg asker received head) (framing_for cfg asker received) (filtered cfg.res_filters true body).output []) text =
    subst (λ (f : FedState). Spells (is_whole (ends_as f trailers)) asker.head_asked (message (head_for cfg asker received head) (framing_for cfg asker received) (filtered cfg.res_filters true body).output (trailers_in (ends_as f trailers))) text) e s in
    spells_same (head_for cfg asker received head) (framing_for cfg asker received) trailers asker.head_asked false (not (is_some (sent_body (filters_of cfg.res_filters) None body).refused))
    (filtered cfg.res_filters true body).output (sent_body (filters_of cfg.res_filters) None body).output text (sym (ap not (refused_there cfg.res_filters body code e))) (sym (sent_output cfg.res_filters None body))
    (spells_cut (head_for cfg asker received head) (framing_for cfg asker received) trailers asker.head_asked (filtered cfg.res_filters true body).output text ended)

broken_final : (cfg : Config) (asker : Asker) (received : Received) (head : Head) (vars : Variables) (body text : List ℕ)
    → Spells false asker.head_asked (message (head_for cfg asker received head) (framing_for cfg asker received) (filtered cfg.res_filters true body).output []) text
    → Spells (not (is_some (sent_body (filters_of cfg.res_filters) (Some 502) body).refused)) asker.head_asked
    (message (head_for cfg asker received head) (framing_for cfg asker received) (sent_body (filters_of cfg.res_filters) (Some 502) body).output []) text
broken_final cfg asker received head vars body text s =
    spells_same (head_for cfg asker received head) (framing_for cfg asker received) [] asker.head_asked false (not (is_some (sent_body (filters_of cfg.res_filters) (Some 502) body).refused))
    (filtered cfg.res_filters true body).output (sent_body (filters_of cfg.res_filters) (Some 502) body).output text (sym (ap not (cut_there cfg.res_filters body))) (sym (sent_output cfg.res_filters (Some 502) body)) s

-- the lane spells what the session does
spells_final : (cfg : Config) (asker : Asker) (received : Received) (head : Head) (vars : Variables) (before : List ℕ) (body : BodyReading) (text : List ℕ)
    → LaneSpells cfg asker received head before body text → SpellsFinal (meaning_of cfg) asker (final_of cfg asker received head vars body) text
spells_final cfg asker received head vars before (Whole body trailers rest) text s = whole_final cfg asker received head vars before body trailers rest text (filtered cfg.res_filters true body).state refl s
spells_final cfg asker received head vars before (Broke body) text s = broken_final cfg asker received head vars body text s
spells_final cfg asker received head vars before (Bad body) text s = broken_final cfg asker received head vars body text s

-- ---- how it stands

whole_told : (cfg : Config) (asker : Asker) (received : Received) (head : Head) (vars : Variables) (body : BodyReading) (left : List ℕ) → IsWholeWith cfg.res_filters left (Reads body)
    → goes_on_with (meaning_of cfg) (final_of cfg asker received head vars body) ≡ Some vars
whole_told cfg asker received head vars (Whole body trailers rest) left w =
    let same : filtered cfg.res_filters true w.0 ≡ filtered cfg.res_filters true body = ap (filtered cfg.res_filters true) (body_same w.0 body w.1 trailers left rest w.2) in
    let ok : is_some (sent_body (filters_of cfg.res_filters) None body).refused ≡ false = accepted_there cfg.res_filters body (sym (ap (λ (f : Filtered). f.state) same) ∙ w.3) in
    let m : Message = message (head_for cfg asker received head) (framing_for cfg asker received) (sent_body (filters_of cfg.res_filters) None body).output trailers in
    ap (λ (b : Bool). goes_on_with (meaning_of cfg) (FinalAnswers m b vars)) ok
  where
    body_same : (a b : List ℕ) (ts us : List Field) (r q : List ℕ) → Reads (Whole b us q) ≡ Reads (Whole a ts r) → a ≡ b
    body_same a b ts us r q e = let P : BodyRead → List ℕ = λ x. body_of x in sym (ap P e)
      where
        body_of : BodyRead → List ℕ
        body_of (Reads (Whole body trailers rest)) = body
        body_of (Reads (Broke body)) = body
        body_of (Reads (Bad body)) = body
        body_of (Rattle.h1_body.specs.BodyOf.More body) = body
whole_told cfg asker received head vars (Broke body) left w = absurd (let e = w.2 in cc)
whole_told cfg asker received head vars (Bad body) left w = absurd (let e = w.2 in cc)

cut_told : (cfg : Config) (asker : Asker) (received : Received) (head : Head) (vars : Variables) (body : BodyReading) (code : ℕ) → IsCutWith code cfg.res_filters (Reads body)
    → is_cut (final_of cfg asker received head vars body) ≡ true
cut_told cfg asker received head vars (Whole body trailers rest) code (inl e) = refused_there cfg.res_filters body code e
cut_told cfg asker received head vars (Whole body trailers rest) code (inr e) = absurd e.1
cut_told cfg asker received head vars (Broke body) code w = cut_there cfg.res_filters body
cut_told cfg asker received head vars (Bad body) code w = cut_there cfg.res_filters body

-- ---- the response

pub goes_on : (ended : Option Ending) (left : List ℕ) (rest : Stream) (m : More ended left rest) → GoesOnWith ended m.more (Some rest.ending)
goes_on None left rest m = tt
goes_on (Some how) left rest m = (m.over refl, ap (λ (x : Ending). Some x) (m.ends how refl))

pub done_is : (st : Stage) → is_done st ≡ true → st ≡ stage.Done
done_is stage.Reading e = absurd (let both : false ≡ true = e in cc both)
done_is stage.Head e = absurd (let both : false ≡ true = e in cc both)
done_is stage.Sending e = absurd (let both : false ≡ true = e in cc both)
done_is stage.Done e = refl

-- the text of a response, as far as the lane has put it out
record Spelled (cfg : Config) (asker : Asker) (received : Received) (head : Head) (before : List ℕ) (done : Bool) (text : List ℕ) (body : BodyReading) : Type 0 where
  pub whole : List ℕ
  pub left : List ℕ
  pub all : text ++ left ≡ whole
  pub spells : LaneSpells cfg asker received head before body whole
  pub sent : done ≡ true → left ≡ []

spelled_at : (cfg : Config) (asker : Asker) (received : Received) (head : Head) (lane : Lane) (q : Past) (text : List ℕ) (more : List ℕ) (ending : Option Ending) (body : BodyReading) (done : Bool) → is_done lane.stage ≡ done
    → Promise lane q → lane.dropped ≡ false → q.filters ≡ cfg.res_filters → q.sent ≡ sent_as cfg asker received head q.sent.before → put_out lane q ≡ q.sent.before ++ text
    → GoesOnWith lane.ended more ending → BodyTaken lane q more ending (Reads body) → Spelled cfg asker received head q.sent.before done text body
spelled_at cfg asker received head lane q text more ending body false st promise kept filters is out goes taken =
    let f : IsFrontOf (sent_as cfg asker received head q.sent.before) ([] ++ (filter_of cfg.res_filters (Reads body)).output) (finish_of cfg.res_filters (Reads body)) (put_out lane q) =
    subst (λ (s : Sent). IsFrontOf s (s.given ++ (filter_of cfg.res_filters (Reads body)).output) (finish_of cfg.res_filters (Reads body)) (put_out lane q)) is
    (subst (λ (fs : List FilterSpec). IsFrontOf q.sent (q.sent.given ++ (filter_of fs (Reads body)).output) (finish_of fs (Reads body)) (put_out lane q)) filters (promise.front kept more ending goes (Reads body) taken)) in
    let same : f.0 ≡ text = append_cancel_left q.sent.before f.0 text (sym f.2 ∙ out) in
    record { whole = f.0 ++ f.1; left = f.1; all = ap (λ xs. xs ++ f.1) (sym same); spells = f.3; sent = λ e. absurd (let both : false ≡ true = e in cc both) }
spelled_at cfg asker received head lane q text more ending body true st promise kept filters is out goes taken =
    let f : SpellsAs (sent_as cfg asker received head q.sent.before) ([] ++ (filter_of cfg.res_filters (Reads body)).output) (finish_of cfg.res_filters (Reads body)) (put_out lane q) =
    subst (λ (s : Sent). SpellsAs s (s.given ++ (filter_of cfg.res_filters (Reads body)).output) (finish_of cfg.res_filters (Reads body)) (put_out lane q)) is
    (subst (λ (fs : List FilterSpec). SpellsAs q.sent (q.sent.given ++ (filter_of fs (Reads body)).output) (finish_of fs (Reads body)) (put_out lane q)) filters (promise.spelled (done_is lane.stage st) kept more ending goes (Reads body) taken)) in
    let same : f.0 ≡ text = append_cancel_left q.sent.before f.0 text (sym f.1 ∙ out) in
    record { whole = f.0; left = []; all = append-nil text ∙ sym same; spells = f.2; sent = λ e. refl }

told_is : (cfg : Config) (asker : Asker) (received : Received) (head : Head) (vars : Variables) (lane : Lane) (q : Past) (more : List ℕ) (ending : Option Ending) (body : BodyReading) (src : Source) → lane.source ≡ src
    → Promise lane q → q.filters ≡ cfg.res_filters → GoesOnWith lane.ended more ending → BodyTaken lane q more ending (Reads body)
    → ToldIs (meaning_of cfg) (told_by src) vars (final_of cfg asker received head vars body)
told_is cfg asker received head vars lane q more ending body source.Going is promise filters goes taken = tt
told_is cfg asker received head vars lane q more ending body source.Whole is promise filters goes taken =
    whole_told cfg asker received head vars body (lane.input.items ++ more)
    (subst (λ (fs : List FilterSpec). IsWholeWith fs (lane.input.items ++ more) (Reads body)) filters (promise.whole is more ending goes (Reads body) taken))
told_is cfg asker received head vars lane q more ending body (source.Cut code) is promise filters goes taken =
    cut_told cfg asker received head vars body code (subst (λ (fs : List FilterSpec). IsCutWith code fs (Reads body)) filters (promise.cut code is more ending goes (Reads body) taken))

-- what a lane knows of the response that it puts out
pub record Serving (cfg : Config) (asker : Asker) (received : Received) (head : Head) (interim put : List ℕ) (begun : Bool) (lane : Lane) (q : Past) (text : List ℕ) : Type 0 where
  pub limits : lane.limits ≡ cfg.limits
  pub promise : Promise lane q
  pub kept : lane.dropped ≡ false
  pub framed : q.reads ≡ received.framing
  pub filters : q.filters ≡ cfg.res_filters
  pub sent : q.sent ≡ record { head = finished_response (meaning_of cfg) asker received head; given = []; framing = response_framing (replaces cfg.res_filters) asker.is_http_11 received.framing; no_body = asker.head_asked; before = q.sent.before }
  pub out : put_out lane q ≡ q.sent.before ++ text
  pub put_is : put ≡ interim ++ text
  pub began : begun ≡ true → (byte : ℕ) × (more : List ℕ) × (text ≡ byte ∷ more)

taken_by : (cfg : Config) (asker : Asker) (received : Received) (head : Head) (interim put : List ℕ) (begun : Bool) (lane : Lane) (q : Past) (text : List ℕ) → Serving cfg asker received head interim put begun lane q text
    → (rest : Stream) (m : More lane.ended q.bytes rest) (body : BodyReading) → BodyOf cfg.limits received.framing rest.bytes rest.ending body → BodyTaken lane q m.more (Some rest.ending) (Reads body)
taken_by cfg asker received head interim put begun lane q text s rest m body reads =
    subst (λ (l : Limits). IsBodyOf l q.reads (q.bytes ++ m.more) (Some rest.ending) (Reads body)) (sym s.limits)
    (subst (λ (f : Framing). IsBodyOf cfg.limits f (q.bytes ++ m.more) (Some rest.ending) (Reads body)) (sym s.framed)
    (subst (λ (xs : List ℕ). IsBodyOf cfg.limits received.framing xs (Some rest.ending) (Reads body)) m.bytes reads))

-- what it puts out is a front of the session's response, with this body
pub body_goes : (cfg : Config) (asker : Asker) (received : Received) (head : Head) (vars : Variables) (interim put : List ℕ) (begun : Bool) (lane : Lane) (q : Past) (text : List ℕ)
    → Serving cfg asker received head interim put begun lane q text → (rest : Stream) → More lane.ended q.bytes rest → (body : BodyReading) → BodyOf cfg.limits received.framing rest.bytes rest.ending body
    → AnswerBody (meaning_of cfg) asker interim received head vars (told_by lane.source) vars (is_done lane.stage) begun put rest
body_goes cfg asker received head vars interim put begun lane q text s rest m body reads =
    let goes = goes_on lane.ended q.bytes rest m in
    let taken = taken_by cfg asker received head interim put begun lane q text s rest m body reads in
    let t : Spelled cfg asker received head q.sent.before (is_done lane.stage) text body = spelled_at cfg asker received head lane q text m.more (Some rest.ending) body (is_done lane.stage) refl s.promise s.kept s.filters s.sent s.out goes taken in
    let front : put ++ t.left ≡ interim ++ t.whole = ap (λ xs. xs ++ t.left) s.put_is ∙ append_assoc interim text t.left ∙ ap (λ xs. interim ++ xs) t.all in
    record {
      body = body;
      reads = reads;
      text = t.whole;
      spelled = spells_final cfg asker received head vars q.sent.before body t.whole t.spells;
      front = (t.left, front);
      told = told_is cfg asker received head vars lane q m.more (Some rest.ending) body lane.source refl s.promise s.filters goes taken;
      sent = λ e. sym (append-nil put) ∙ ap (λ xs. put ++ xs) (sym (t.sent e)) ∙ front;
      began = λ e. let b = s.began e in (b.0, b.1, s.put_is ∙ ap (λ xs. interim ++ xs) b.2);
    }
