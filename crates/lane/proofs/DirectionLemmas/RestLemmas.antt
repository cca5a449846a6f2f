-- What a lane that waits says: nothing that may go out is held back, and nothing shows that a body is cut.
use Rattle.std.proofs.Common.{◌≡◌, ℕ, ◌⊎◌, inl, inr, List, [], ◌++◌, false, refl, sym, ap, ◌∙◌, subst}
use Rattle.std.specs.Prelude.{Option, Some, None}
use Rattle.std.proofs.lemmas.List.{append-nil}
use Rattle.http_model.specs.declared.Ending.{Ending}
use Rattle.h1_body.specs.BodyOf.{BodyRead, More, IsBodyOf}
use Rattle.h1_body.specs.Stands.{state_of}
use Rattle.h1_body.specs.declared.reader.BodyState.TheVariants as body_state
use Rattle.body_filter.specs.declared.filter_spec.FilterSpec.{FilterSpec}
use Rattle.body_filter.specs.declared.filter_spec.FedState.TheVariants as state
use Rattle.body_filter.specs.Filter.{Filtered, filtered}
use Rattle.lane.specs.Sieve.Sieved.{SievedAt}
use Rattle.lane.specs.declared.sieve.sieve.BodyEnd.{BodyEnd}
use Rattle.lane.specs.declared.sieve.sieve.BodyEnd.TheVariants as body_end
use Rattle.lane.specs.declared.sieve.sieve.Sieve.{Sieve}
use Rattle.lane.specs.Direction.Sent.{Cut, SpellsAs}
use Rattle.lane.specs.Direction.Pulled.{IsWaiting}
use Rattle.lane.specs.Direction.Sends.{Past, Sends, Stands, IsAtRest, RestsFor, IsOver, Waits, put_out}
use Rattle.lane.specs.Direction.Filtering.{HasPassed, SieveRests}
use Rattle.lane.specs.Direction.Promise.{BodyTaken, body_in, sent_so_far, ShowsNoCut, EndsInSection}
use Rattle.http_model.specs.declared.Source.TheVariants as source
use Rattle.lane.specs.Direction.State.{LaneState}
use Rattle.lane.proofs.DirectionLemmas.BodyLemmas.{waiting_body, waiting_open}
use Rattle.lane.proofs.DirectionLemmas.SendLemmas.{plain_settled}
use Rattle.lane.proofs.DirectionLemmas.PromiseLemmas.{spelled_cut, text_is}

-- ---- at rest

-- all that came passed, but what the filters keep back
settled_by : (sieve : Option Sieve) (filters : List FilterSpec) (found passed : List ℕ) → SieveRests sieve → HasPassed sieve filters found passed → filtered filters false found ≡ record { output = passed; state = state.Going }
settled_by None filters found passed rests h = plain_settled None refl filters found passed h
settled_by (Some sieve) filters found passed rests h =
    let u : SievedAt body_end.Open filters found passed sieve.chain sieve.held.items = subst (λ (e : BodyEnd). SievedAt e filters found passed sieve.chain sieve.held.items) rests.0.end h in
    let all : found ≡ u.used = u.found_is ∙ ap (λ (b : List ℕ). u.used ++ b) rests.0.held ∙ append-nil u.used in
    ap (filtered filters false) all ∙ rests.1 filters u.used passed u.has

-- what is known of the bytes taken where the lane waits
record AtRest (l : LaneState) (p : Past) (s : Sends l p) (read : BodyRead) : Type 0 where
  pub body : body_in read ≡ s.found
  pub open_ : (read ≡ More s.found) ⊎ EndsInSection l.limits p.reads p.bytes
  pub passed : filtered p.filters false (body_in read) ≡ record { output = s.passed; state = state.Going }

taken_here : (l : LaneState) (p : Past) (s : Sends l p) (read : BodyRead) → BodyTaken l p [] l.ended read → IsBodyOf l.limits p.reads (s.used ++ l.input.items) l.ended read
taken_here l p s read x = subst (λ (bytes : List ℕ). IsBodyOf l.limits p.reads bytes l.ended read) (append-nil p.bytes ∙ s.bytes) x

at_rest : (l : LaneState) (p : Past) (s : Sends l p) → l.ended ≡ None → IsWaiting l.reader l.input.items → state_of l.reader ≡ body_state.More → SieveRests l.sieve → (read : BodyRead) → BodyTaken l p [] l.ended read → AtRest l p s read
at_rest l p s ended waits more still read x =
    let here : IsBodyOf l.limits p.reads (s.used ++ l.input.items) None read = subst (λ (end : Option Ending). IsBodyOf l.limits p.reads (s.used ++ l.input.items) end read) ended (taken_here l p s read x) in
    let body = waiting_body l.limits p.reads s.used s.found s.section l.input.items l.reader None read s.has_read more waits here in
    record {
      body = body;
      open_ = subst (λ (bytes : List ℕ). (read ≡ More s.found) ⊎ EndsInSection l.limits p.reads bytes) (sym s.bytes) (waiting_open l.limits p.reads s.used s.found s.section l.input.items l.reader read s.has_read more waits here);
      passed = ap (filtered p.filters false) body ∙ settled_by l.sieve p.filters s.found s.passed still s.has_passed;
    }

pub nothing_held_back : (l : LaneState) (p : Past) → Stands l p → l.dropped ≡ false → l.source ≡ source.Going → IsAtRest l → (read : BodyRead) → BodyTaken l p [] l.ended read → SpellsAs p.sent (sent_so_far p read) Cut (put_out l p)
nothing_held_back l p st d e rest read x = by rest.for
  where
    by : RestsFor l → SpellsAs p.sent (sent_so_far p read) Cut (put_out l p)
    by (IsOver over) = absurd (over e)
    by (Waits going ended waits more still) =
        let s = st.sends in
        let r = at_rest l p s ended waits more still read x in
        subst (λ (b : List ℕ). SpellsAs p.sent b Cut (put_out l p)) (ap (λ (f : Filtered). p.sent.given ++ f.output) (sym r.passed))
        (spelled_cut l.writer p.sent (p.sent.given ++ s.passed) (put_out l p) l.out.blocks l.msg.blocks (text_is l p s source.Going e d) rest.out rest.msg rest.rests)

pub no_cut_shown : (l : LaneState) (p : Past) → Stands l p → l.source ≡ source.Going → RestsFor l → ShowsNoCut l p
no_cut_shown l p st e (IsOver over) = absurd (over e)
no_cut_shown l p st e (Waits going ended waits more still) =
    let s = st.sends in
    record {
      ended = ended;
      still = λ read x. (let r = at_rest l p s ended waits more still read x in either read s.found r.body r.open_);
      accepted = λ read x. ap (λ (f : Filtered). f.state) (at_rest l p s ended waits more still read x).passed;
    }
  where
    either : (read : BodyRead) (found : List ℕ) → body_in read ≡ found → (read ≡ More found) ⊎ EndsInSection l.limits p.reads p.bytes → (read ≡ More (body_in read)) ⊎ EndsInSection l.limits p.reads p.bytes
    either read found body (inl is) = inl (is ∙ ap More (sym body))
    either read found body (inr section) = inr section
