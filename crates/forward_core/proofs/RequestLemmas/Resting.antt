-- What a direction at rest has left undone: nothing.
use Rattle.std.proofs.Common.{◌≡◌, ◌≢◌, ℕ, ◌<◌, ◌⊎◌, inl, inr, List, [], ◌++◌, Bool, true, false, refl, ap, sym, ◌∙◌, subst, length}
use Rattle.std.specs.Prelude.{Option, None, count_by}
use Rattle.std.proofs.lemmas.List.{append-nil}
use Rattle.http_model.specs.declared.Ending.{Ending}
use Rattle.http_model.specs.declared.Framing.{Framing}
use Rattle.http_model.specs.declared.Limits.{Limits}
use Rattle.session_core.specs.History.{Coming}
use Rattle.session_core.specs.Sided.{Asking, Reply}
use Rattle.http_model.specs.declared.Source.TheVariants as source
use Rattle.px_sample.specs.Variables.{Variables}
use Rattle.http_rules.specs.declared.config.Config.{Config}
use Rattle.body_filter.specs.declared.filter_spec.FilterSpec.{FilterSpec}
use Rattle.body_filter.specs.declared.filter_spec.FedState.TheVariants as state
use Rattle.body_filter.specs.Filter.{filtered}
use Rattle.h1_head.specs.declared.answer.Side.TheVariants as side
use Rattle.h1_head.specs.Decides.{MayWait, is_line_feed}
use Rattle.h1_head.specs.Kind.{request_heads}
use Rattle.h1_head.specs.Numbers.{most_lines}
use Rattle.h1_head.specs.Stream.{behind, HasNone}
use Rattle.h1_body.specs.BodyOf.{BodyRead, More, IsBodyOf}
use Rattle.lane.specs.Direction.Sent.{Sent, Cut, SpellsAs}
use Rattle.lane.specs.Direction.Sends.{Past, put_out, IsAtRest, RestsFor, Stands}
use Rattle.lane.specs.Direction.Heads.{Waits}
use Rattle.lane.specs.Direction.Promise.{BodyTaken, EndsInSection, body_in, sent_so_far}
use Rattle.lane.specs.Direction.Promise as lanes
use Rattle.lane.specs.declared.direction.stage.Stage.{Stage}
use Rattle.lane.specs.declared.direction.stage.Stage.TheVariants as stage
use Rattle.lane.specs.Direction.State.{LaneState}
use Rattle.forward_core.specs.declared.request.place.Place.{Place}
use Rattle.forward_core.specs.declared.request.place.Place.TheVariants as place
use Rattle.forward_core.specs.Request.Seen.{source_at}
use Rattle.forward_core.specs.Request.Rests.{IsStill, WaitsForHead, RestsAt}
use Rattle.forward_core.specs.Request.Stands.{IsFor, ReadsOn, SoundAt, HasPut, GoesOut, StandsAt, coming, message_to}
use Rattle.forward_core.specs.Request.Shown.{ShowsNoCut, PutsAll, NoHeadCame}

-- ---- where calls leave it

-- a direction that isn't at rest owes nothing
pub unrested : (at : Place) (lane : LaneState) → false ≡ true → RestsAt at lane
unrested at lane e = absurd (cc)

done_at : (st : Stage) → (st ≡ stage.Sending) ⊎ (st ≡ stage.Done) → st ≢ stage.Sending → st ≡ stage.Done
done_at st (inl is) over = absurd (over is)
done_at st (inr is) over = is

-- behind a step
pub step_rests : (at : Place) (old new : LaneState) → at ≡ place.Sending → ((p : Past) → Stands old p → IsStill new) → SoundAt at old → RestsAt at new
step_rests place.Reading old new e stills s = absurd (cc)
step_rests place.Sending old new e stills s = λ going. stills s.past s.sends
step_rests place.Idle old new e stills s = absurd (cc)
step_rests place.Replied old new e stills s = absurd (cc)

-- where nothing is to go out
pub rest_rests : (at : Place) (lane : LaneState) → at ≢ place.Reading → (at ≡ place.Sending → lane.stage ≢ stage.Sending) → SoundAt at lane → RestsAt at lane
rest_rests place.Reading lane begun over s = absurd (begun refl)
rest_rests place.Sending lane begun over s = λ going. absurd (s.sends.done (done_at lane.stage s.stage (over refl)) going)
rest_rests place.Idle lane begun over s = tt
rest_rests place.Replied lane begun over s = tt

-- ---- where no head came

-- bytes alike behind their empty lines wait alike
waits_alike : (limits : Limits) (a b : List ℕ) → behind b ≡ behind a → MayWait request_heads limits false a → MayWait request_heads limits false b
waits_alike limits a b e h = record {
  ended = λ whole. e ∙ h.ended whole;
  no_head = subst (λ (xs : List ℕ). HasNone request_heads xs) (sym e) h.no_head;
  short = subst (λ (xs : List ℕ). length xs < limits.bufsize) (sym e) h.short;
  few_lines = subst (λ (xs : List ℕ). count_by is_line_feed xs < most_lines) (sym e) h.few_lines;
}

-- a lane that asks for more waits for a head
waits_for : (old new : LaneState) → new.limits ≡ old.limits → new.ended ≡ old.ended → Waits side.Request old new → WaitsForHead new
waits_for old new limits ended w = record {
  ended = ended ∙ w.ended;
  waits = subst (λ (l : Limits). MayWait request_heads l false new.input.items) (sym limits) (waits_alike old.limits old.input.items new.input.items w.same w.waits);
}

pub more_rests : (at : Place) (old new : LaneState) → at ≡ place.Reading → new.limits ≡ old.limits → new.ended ≡ old.ended → Waits side.Request old new → RestsAt at new
more_rests place.Reading old new e limits ended w = waits_for old new limits ended w
more_rests place.Sending old new e limits ended w = absurd (cc)
more_rests place.Idle old new e limits ended w = absurd (cc)
more_rests place.Replied old new e limits ended w = absurd (cc)

no_head : (cfg : Config) (lane : LaneState) (came_ : Coming) → IsFor cfg lane → ReadsOn lane came_ → WaitsForHead lane → NoHeadCame cfg came_
no_head cfg lane came_ is on w =
    let same : behind came_.bytes ≡ behind lane.input.items = ap behind (sym (append-nil came_.bytes)) ∙ on.lines [] ∙ ap behind (append-nil lane.input.items) in
    record {
      ended = on.ending ∙ w.ended;
      waits = waits_alike cfg.limits lane.input.items came_.bytes same (subst (λ (l : Limits). MayWait request_heads l false lane.input.items) is.limits w.waits);
    }

pub no_head_at : (at : Place) (cfg : Config) (lane : LaneState) (vars : Variables) (came_ : Coming) (asks : Asking Variables) (to_server : List ℕ) (reply : Reply Variables) → at ≡ place.Reading
    → StandsAt at cfg lane vars came_ asks to_server reply → IsFor cfg lane → RestsAt at lane → NoHeadCame cfg came_
no_head_at place.Reading cfg lane vars came_ asks to_server reply e h is w = no_head cfg lane came_ is h w
no_head_at place.Sending cfg lane vars came_ asks to_server reply e h is w = absurd (cc)
no_head_at place.Idle cfg lane vars came_ asks to_server reply e h is w = absurd (cc)
no_head_at place.Replied cfg lane vars came_ asks to_server reply e h is w = absurd (cc)

-- ---- where a request goes out

-- a reading of what came behind the head is one of what the lane took
taken : (cfg : Config) (lane : LaneState) (asks : Asking Variables) (p : Past) (read : BodyRead) → lane.limits ≡ cfg.limits → p.reads ≡ asks.received.framing → lane.ended ≡ None
    → IsBodyOf cfg.limits asks.received.framing p.bytes None read → BodyTaken lane p [] lane.ended read
taken cfg lane asks p read limits reads ended x =
    subst (λ (o : Option Ending). IsBodyOf lane.limits p.reads (p.bytes ++ []) o read) (sym ended)
    (subst (λ (bytes : List ℕ). IsBodyOf lane.limits p.reads bytes None read) (sym (append-nil p.bytes))
    (subst (λ (framing : Framing). IsBodyOf lane.limits framing p.bytes None read) (sym reads)
    (subst (λ (l : Limits). IsBodyOf l asks.received.framing p.bytes None read) (sym limits) x)))

in_section : (limits : Limits) (lane : LaneState) (reads framing : Framing) (bytes : List ℕ) (read : BodyRead) → lane.limits ≡ limits → reads ≡ framing
    → (read ≡ More (body_in read)) ⊎ EndsInSection lane.limits reads bytes → (read ≡ More (body_in read)) ⊎ EndsInSection limits framing bytes
in_section limits lane reads framing bytes read e same h =
    subst (λ (f : Framing). (read ≡ More (body_in read)) ⊎ EndsInSection limits f bytes) same
    (subst (λ (l : Limits). (read ≡ More (body_in read)) ⊎ EndsInSection l reads bytes) e h)

-- what the lane shows, in the words of the configuration
shows : (cfg : Config) (lane : LaneState) (vars : Variables) (came_ : Coming) (asks : Asking Variables) (to_server : List ℕ) (g : GoesOut cfg lane vars came_ asks to_server) → IsFor cfg lane → lanes.ShowsNoCut lane g.past
    → ShowsNoCut cfg came_ asks
shows cfg lane vars came_ asks to_server g is h =
    let p : Past = g.past in
    record {
      used = g.used;
      left = coming lane p.bytes;
      head = g.head;
      ended = h.ended;
      still = λ read x. in_section cfg.limits lane p.reads asks.received.framing p.bytes read is.limits g.reads (h.still read (taken cfg lane asks p read is.limits g.reads h.ended x));
      accepted = λ read x. subst (λ (fs : List FilterSpec). (filtered fs false (body_in read)).state ≡ state.Going) g.filters (h.accepted read (taken cfg lane asks p read is.limits g.reads h.ended x));
    }

-- what the lane has put out, in the words of the configuration
spells_all : (cfg : Config) (lane : LaneState) (asks : Asking Variables) (to_server : List ℕ) (p : Past) (read : BodyRead) → p.sent ≡ message_to cfg asks → p.filters ≡ cfg.req_filters → to_server ≡ put_out lane p
    → SpellsAs p.sent (sent_so_far p read) Cut (put_out lane p) → SpellsAs (message_to cfg asks) (filtered cfg.req_filters false (body_in read)).output Cut to_server
spells_all cfg lane asks to_server p read message filters put h =
    let body : List FilterSpec → List ℕ = λ fs. (filtered fs false (body_in read)).output in
    let k : SpellsAs p.sent (p.sent.given ++ body cfg.req_filters) Cut (put_out lane p) =
    subst (λ (fs : List FilterSpec). SpellsAs p.sent (p.sent.given ++ body fs) Cut (put_out lane p)) filters h in
    let l : SpellsAs (message_to cfg asks) (body cfg.req_filters) Cut (put_out lane p) =
    subst (λ (s : Sent). SpellsAs s (s.given ++ body cfg.req_filters) Cut (put_out lane p)) message k in
    subst (λ (text : List ℕ). SpellsAs (message_to cfg asks) (body cfg.req_filters) Cut text) (sym put) l

puts : (cfg : Config) (lane : LaneState) (vars : Variables) (came_ : Coming) (asks : Asking Variables) (to_server : List ℕ) (g : GoesOut cfg lane vars came_ asks to_server) → IsFor cfg lane → lane.dropped ≡ false → lane.ended ≡ None
    → ((read : BodyRead) → BodyTaken lane g.past [] lane.ended read → SpellsAs g.past.sent (sent_so_far g.past read) Cut (put_out lane g.past)) → PutsAll cfg came_ asks to_server
puts cfg lane vars came_ asks to_server g is kept ended h =
    let p : Past = g.past in
    let put : to_server ≡ put_out lane p = subst (λ (d : Bool). HasPut d lane p to_server) kept g.put in
    record {
      used = g.used;
      left = coming lane p.bytes;
      head = g.head;
      ended = ended;
      spelled = λ read x. spells_all cfg lane asks to_server p read g.message g.filters put (h read (taken cfg lane asks p read is.limits g.reads ended x));
    }

-- what a lane of requests shows where it waits
abbrev pub Shows : LaneState → Type 0
Shows lane = (p : Past) → Stands lane p → lane.source ≡ source.Going → RestsFor lane → lanes.ShowsNoCut lane p

-- what it has put out where it holds nothing back
abbrev pub Puts : LaneState → Type 0
Puts lane = (p : Past) → Stands lane p → lane.dropped ≡ false → lane.source ≡ source.Going → IsAtRest lane
    → (read : BodyRead) → BodyTaken lane p [] lane.ended read → SpellsAs p.sent (sent_so_far p read) Cut (put_out lane p)

pub shows_at : (at : Place) (cfg : Config) (lane : LaneState) (vars : Variables) (came_ : Coming) (asks : Asking Variables) (to_server : List ℕ) (reply : Reply Variables) → at ≡ place.Sending
    → StandsAt at cfg lane vars came_ asks to_server reply → IsFor cfg lane → RestsAt at lane → source_at at lane.source ≡ source.Going → Shows lane
    → (lane.output.items ≡ []) ⊎ (lane.dropped ≡ true) → ShowsNoCut cfg came_ asks
shows_at place.Reading cfg lane vars came_ asks to_server reply e h is rests going law waits = absurd (cc)
shows_at place.Sending cfg lane vars came_ asks to_server reply e h is rests going law waits =
    shows cfg lane vars came_ asks to_server h is (law h.past h.sends going ((rests going).no_cut waits))
shows_at place.Idle cfg lane vars came_ asks to_server reply e h is rests going law waits = absurd (cc)
shows_at place.Replied cfg lane vars came_ asks to_server reply e h is rests going law waits = absurd (cc)

pub puts_at : (at : Place) (cfg : Config) (lane : LaneState) (vars : Variables) (came_ : Coming) (asks : Asking Variables) (to_server : List ℕ) (reply : Reply Variables) → at ≡ place.Sending
    → StandsAt at cfg lane vars came_ asks to_server reply → IsFor cfg lane → RestsAt at lane → source_at at lane.source ≡ source.Going → Shows lane → Puts lane
    → lane.output.items ≡ [] → lane.dropped ≡ false → PutsAll cfg came_ asks to_server
puts_at place.Reading cfg lane vars came_ asks to_server reply e h is rests going law all none kept = absurd (cc)
puts_at place.Sending cfg lane vars came_ asks to_server reply e h is rests going law all none kept =
    let still : IsStill lane = rests going in
    puts cfg lane vars came_ asks to_server h is kept (law h.past h.sends going (still.no_cut (inl none))).ended (all h.past h.sends kept going (still.nothing_back none kept))
puts_at place.Idle cfg lane vars came_ asks to_server reply e h is rests going law all none kept = absurd (cc)
puts_at place.Replied cfg lane vars came_ asks to_server reply e h is rests going law all none kept = absurd (cc)
