-- The message that a lane sends of a body, and the request that the session makes of it.
use Rattle.std.proofs.Common.{◌≡◌, ℕ, ◌⊎◌, inl, inr, List, [], Bool, true, false, refl, ap, sym, ◌∙◌, subst}
use Rattle.std.specs.Prelude.{Option, Some, None, is_none}
use Rattle.http_model.specs.declared.Framing.{Framing}
use Rattle.http_model.specs.declared.Framing.TheVariants.{Absent, Length, Chunked, ToClose}
use Rattle.http_model.specs.Head.{Field, Head}
use Rattle.http_model.specs.Finish.{finish_request, request_framing}
use Rattle.http_model.specs.Reading.{BodyReading, Whole, Broke, Bad}
use Rattle.http_model.specs.Spelling.{Spells, SpellsBody}
use Rattle.session_model.specs.Stream.{Stream}
use Rattle.session_model.specs.Meaning.{Filters, sent_body}
use Rattle.session_core.specs.Sided.{Asking, request_to}
use Rattle.px_sample.specs.Variables.{Variables}
use Rattle.http_rules.specs.declared.config.Config.{Config}
use Rattle.forward_core.specs.Meaning.Product.{meaning_of, filters_of, replaces, refused_in}
use Rattle.h1_body.specs.BodyOf.{BodyRead, Reads, More}
use Rattle.body_filter.specs.declared.filter_spec.FilterSpec.{FilterSpec}
use Rattle.body_filter.specs.declared.filter_spec.FedState.{FedState}
use Rattle.body_filter.specs.declared.filter_spec.FedState.TheVariants as state
use Rattle.body_filter.specs.Filter.{filtered}
use Rattle.lane.specs.Direction.Sent.{message_of, is_whole, trailers_in}
use Rattle.lane.specs.Direction.Promise.{filter_of, finish_of, ends_as, IsCutWith, IsWholeWith}
use Rattle.forward_core.specs.Request.Stands.{message_to}
use Rattle.forward_core.proofs.RequestLemmas.Filters.{IsEnd, whole_ends}

-- ---- a body behind filters

output_by : (filters : Filters) (cut : Option ℕ) (body : List ℕ) (o : Option ℕ) → (filters.filter body).refused ≡ o → (sent_body filters cut body).output ≡ (filters.filter body).output
output_by filters cut body None e = rw e refl
output_by filters cut body (Some code) e = rw e refl

sent_output : (filters : Filters) (cut : Option ℕ) (body : List ℕ) → (sent_body filters cut body).output ≡ (filters.filter body).output
sent_output filters cut body = output_by filters cut body (filters.filter body).refused refl

-- the refusal of the filters, or the cut
abbrev or_cut : Option ℕ → Option ℕ → Option ℕ
or_cut None cut = cut
or_cut (Some code) cut = Some code

sent_code : (filters : Filters) (cut : Option ℕ) (body : List ℕ) (o : Option ℕ) → (filters.filter body).refused ≡ o → (sent_body filters cut body).refused ≡ or_cut o cut
sent_code filters cut body None e = rw e refl
sent_code filters cut body (Some code) e = rw e refl

cut_is_none : (o : Option ℕ) (code : ℕ) → is_none (or_cut o (Some code)) ≡ false
cut_is_none None code = refl
cut_is_none (Some refusal) code = refl

-- ---- spelling

cut_body : (framing : Framing) (body : List ℕ) (was now : List Field) (text : List ℕ) → SpellsBody false framing body was text → SpellsBody false framing body now text
cut_body Absent body was now text h = h
cut_body (Length n) body was now text h = h
cut_body Chunked body was now text h = h
cut_body ToClose body was now text h = h

-- a message that is cut has no trailers in its text
cut_trailers : (head : Head) (framing : Framing) (body : List ℕ) (was now : List Field) (text : List ℕ)
    → Spells false false (record { head = head; framing = framing; body = body; trailers = was }) text → Spells false false (record { head = head; framing = framing; body = body; trailers = now }) text
cut_trailers head framing body was now text h = record { body = h.body; spelled = h.spelled; spells_body = cut_body framing body was now h.body h.spells_body }

-- the same message with this cut
with_cut : (head : Head) (framing : Framing) (trailers : List Field) (body now text : List ℕ) (cut : Option ℕ) (whole : Bool) → now ≡ body → is_none cut ≡ whole
    → Spells whole false (record { head = head; framing = framing; body = body; trailers = trailers }) text → Spells (is_none cut) false (record { head = head; framing = framing; body = now; trailers = trailers }) text
with_cut head framing trailers body now text cut whole same is h =
    subst (λ (w : Bool). Spells w false (record { head = head; framing = framing; body = now; trailers = trailers }) text) (sym is)
    (subst (λ (bytes : List ℕ). Spells whole false (record { head = head; framing = framing; body = bytes; trailers = trailers }) text) (sym same) h)

-- what the lane spells of a reading
abbrev pub LaneSpells : (cfg : Config) → Asking Variables → BodyReading → List ℕ → Type 0
LaneSpells cfg asking b text =
    Spells (is_whole (finish_of cfg.req_filters (Reads b))) false (message_of (message_to cfg asking) (filter_of cfg.req_filters (Reads b)).output (trailers_in (finish_of cfg.req_filters (Reads b)))) text

-- what the session spells of it
abbrev pub SessionSpells : (cfg : Config) → Asking Variables → Stream → BodyReading → List ℕ → Type 0
SessionSpells cfg asking rest b text = Spells (is_none (request_to (meaning_of cfg) asking rest b).cut) false (request_to (meaning_of cfg) asking rest b).message text

whole_by : (cfg : Config) (asking : Asking Variables) (rest : Stream) (bytes : List ℕ) (trailers : List Field) (left text : List ℕ) (st : FedState) → (filtered cfg.req_filters true bytes).state ≡ st → IsEnd st
    → Spells (is_whole (ends_as st trailers)) false (message_of (message_to cfg asking) (filtered cfg.req_filters true bytes).output (trailers_in (ends_as st trailers))) text
    → SessionSpells cfg asking rest (Whole bytes trailers left) text
whole_by cfg asking rest bytes trailers left text state.Going is end h = absurd end
whole_by cfg asking rest bytes trailers left text state.Over is end h =
    let fs : Filters = filters_of cfg.req_filters in
    with_cut (finish_request asking.head (request_framing (replaces cfg.req_filters) asking.received.framing)) (request_framing (replaces cfg.req_filters) asking.received.framing) trailers
    (filtered cfg.req_filters true bytes).output (sent_body fs None bytes).output text (sent_body fs None bytes).refused true
    (sent_output fs None bytes) (ap is_none (sent_code fs None bytes None (ap refused_in is))) h
whole_by cfg asking rest bytes trailers left text (state.Refused code) is end h =
    let fs : Filters = filters_of cfg.req_filters in
    let head : Head = finish_request asking.head (request_framing (replaces cfg.req_filters) asking.received.framing) in
    let framing : Framing = request_framing (replaces cfg.req_filters) asking.received.framing in
    with_cut head framing trailers
    (filtered cfg.req_filters true bytes).output (sent_body fs None bytes).output text (sent_body fs None bytes).refused false
    (sent_output fs None bytes) (ap is_none (sent_code fs None bytes (Some code) (ap refused_in is)))
    (cut_trailers head framing (filtered cfg.req_filters true bytes).output [] trailers text h)

broken_by : (cfg : Config) (asking : Asking Variables) (bytes text : List ℕ)
    → Spells false false (message_of (message_to cfg asking) (filtered cfg.req_filters true bytes).output []) text
    → Spells (is_none (sent_body (filters_of cfg.req_filters) (Some 400) bytes).refused) false (message_of (message_to cfg asking) (sent_body (filters_of cfg.req_filters) (Some 400) bytes).output []) text
broken_by cfg asking bytes text h =
    let fs : Filters = filters_of cfg.req_filters in
    with_cut (finish_request asking.head (request_framing (replaces cfg.req_filters) asking.received.framing)) (request_framing (replaces cfg.req_filters) asking.received.framing) []
    (filtered cfg.req_filters true bytes).output (sent_body fs (Some 400) bytes).output text (sent_body fs (Some 400) bytes).refused false
    (sent_output fs (Some 400) bytes)
    (ap is_none (sent_code fs (Some 400) bytes (refused_in (filtered cfg.req_filters true bytes).state) refl) ∙ cut_is_none (refused_in (filtered cfg.req_filters true bytes).state) 400) h

-- both spell the same
pub spelled : (cfg : Config) (asking : Asking Variables) (rest : Stream) (b : BodyReading) (text : List ℕ) → LaneSpells cfg asking b text → SessionSpells cfg asking rest b text
spelled cfg asking rest (Whole bytes trailers left) text h =
    whole_by cfg asking rest bytes trailers left text (filtered cfg.req_filters true bytes).state refl (whole_ends cfg.req_filters bytes) h
spelled cfg asking rest (Broke bytes) text h = broken_by cfg asking bytes text h
spelled cfg asking rest (Bad bytes) text h = broken_by cfg asking bytes text h

-- ---- why it is cut

broken_code : (filters : List FilterSpec) (bytes : List ℕ) (code : ℕ)
    → ((filtered filters true bytes).state ≡ state.Refused code) ⊎ ((code ≡ 400) × Unit {0} × ((filtered filters true bytes).state ≡ state.Over)) → (sent_body (filters_of filters) (Some 400) bytes).refused ≡ Some code
broken_code filters bytes code (inl is) = sent_code (filters_of filters) (Some 400) bytes (Some code) (ap refused_in is)
broken_code filters bytes code (inr (four, cut, is)) = sent_code (filters_of filters) (Some 400) bytes None (ap refused_in is) ∙ ap Some (sym four)

-- the code of the lane is that of the session
pub cut_code : (cfg : Config) (asking : Asking Variables) (rest : Stream) (b : BodyReading) (code : ℕ) → IsCutWith code cfg.req_filters (Reads b) → (request_to (meaning_of cfg) asking rest b).cut ≡ Some code
cut_code cfg asking rest (Whole bytes trailers left) code (inl is) = sent_code (filters_of cfg.req_filters) None bytes (Some code) (ap refused_in is)
cut_code cfg asking rest (Whole bytes trailers left) code (inr (four, cut, is)) = absurd cut
cut_code cfg asking rest (Broke bytes) code h = broken_code cfg.req_filters bytes code h
cut_code cfg asking rest (Bad bytes) code h = broken_code cfg.req_filters bytes code h

-- the reading of a body that was read
abbrev pub reading_in : BodyRead → BodyReading
reading_in (Reads b) = b
reading_in (More body) = Broke body

-- a whole body that was accepted is not cut, and what follows it is left
pub record IsUncutWith (cfg : Config) (asking : Asking Variables) (rest : Stream) (b : BodyReading) (left : List ℕ) : Type 0 where
  pub cut : (request_to (meaning_of cfg) asking rest b).cut ≡ None
  pub behind : (request_to (meaning_of cfg) asking rest b).rest ≡ record { bytes = left; ending = rest.ending }

pub uncut : (cfg : Config) (asking : Asking Variables) (rest : Stream) (b : BodyReading) (left : List ℕ) → IsWholeWith cfg.req_filters left (Reads b) → IsUncutWith cfg asking rest b left
uncut cfg asking rest b left (body, trailers, is, over) =
    subst (λ (x : BodyReading). IsUncutWith cfg asking rest x left) (sym (ap reading_in is))
    (record { cut = sent_code (filters_of cfg.req_filters) None body None (ap refused_in over); behind = refl })
