-- What the calls of a lane that answers make of an exchange.
use Rattle.std.proofs.Common.{◌≡◌, ◌≢◌, ℕ, ◌<◌, ◌≤◌, ◌⊎◌, inl, inr, List, [], ◌∷◌, ◌++◌, Bool, true, false, refl, sym, ap, ◌∙◌, subst, length, append_assoc, arith, ◌+◌, length-append}
use Rattle.std.specs.Prelude.{Option, Some}
use Rattle.std.proofs.lemmas.List.{append-nil, nil_from_length}
use Rattle.wire_buf.specs.Buffer.{Buffer}
use Rattle.http_model.specs.Head.{Head}
use Rattle.http_model.specs.Reading.{Received, Begins}
use Rattle.body_filter.specs.declared.filter_spec.FilterSpec.{FilterSpec}
use Rattle.h1_head.specs.declared.answer.Side.TheVariants.{Response}
use Rattle.h1_write.specs.Spelled.{is_done}
use Rattle.lane.specs.Direction.Sends.{Past, Stands, IsSound, IsReading, put_out, said}
use Rattle.lane.specs.Direction.Shown.{Shows, Goes}
use Rattle.lane.specs.Answering.{Exchange, Last, NotYet, Serves, Replies, HeadsCame, Reads, HeadsAt, ShowsLast, AnswersLast, AnswersAt, Answers, IsSoundAt, IsSoundAnswer, IsLast, interim_text, fresh, with_bytes, with_put, is_interim, shows_head, HasBegun, AnswerPromise}
use Rattle.lane.specs.declared.direction.stage.Stage.{Stage}
use Rattle.lane.specs.declared.direction.stage.Stage.TheVariants as stage
use Rattle.http_model.specs.declared.Source.TheVariants as source
use Rattle.lane.specs.declared.direction.lane.Lane.{Lane}
use Rattle.lane.specs.declared.phase.Phase.{Phase}
use Rattle.lane.specs.declared.phase.Phase.TheVariants as phase
use Rattle.lane.specs.declared.response_lane.ResponseLane.{ResponseLane}
use Rattle.lane.proofs.InterimLemmas.{SameStream, came_same, reads_same, came_more, interim_one}
use Rattle.lane.proofs.DirectionLemmas.ShowLemmas.{shown_whole, shown_front}
use Rattle.lane.proofs.DirectionLemmas.PromiseLemmas.{promise}

abbrev pub made : Lane → Phase → Bool → ResponseLane
made lane ph begun_ = record { lane = lane; phase = ph; begun = begun_ }

-- ---- heads are read

pub reads_heads : (lane : Lane) (p : Exchange) → IsReading (Response p.asked) lane → p.put ≡ interim_text p.passed → HeadsCame p.asked lane.limits lane.ended p.read p.bytes lane.input.items
    → Answers (made lane phase.Heads false) p
reads_heads lane p r put came = (put, refl, subst (λ (st : Stage). HeadsAt st lane p) (sym r.stage) (r, (lane.input.items, came, λ more. refl)))

pub fresh_heads : (lane : Lane) (asked : Bool) → IsReading (Response asked) lane → Answers (made lane phase.Heads false) (with_bytes (fresh asked) lane.input.items)
fresh_heads lane asked r = reads_heads lane (with_bytes (fresh asked) lane.input.items) r refl (λ more ends. refl)

pub none_heads : (lane : Lane) (asked : Bool) → IsReading (Response asked) lane → lane.input.items ≡ [] → Answers (made lane phase.Heads false) (fresh asked)
none_heads lane asked r none = reads_heads lane (fresh asked) r refl (λ more ends. ap (λ (xs : List ℕ). xs ++ more) (sym none))

not_sending : (st : Stage) → st ≡ stage.Reading → st ≢ stage.Sending
not_sending st e f = let both : stage.Reading ≡ stage.Sending = sym e ∙ f in absurd (cc both)

pub sound_heads : (lane : Lane) → ((asked : Bool) → IsReading (Response asked) lane) → IsSoundAnswer (made lane phase.Heads false)
sound_heads lane r =
    let one = r true in
    record {
      sound = one.ready.sound;
      kept = one.ready.kept;
      at = (λ _ asked. r asked, not_sending lane.stage one.stage, one.ready.out, refl);
    }

-- ---- a head stands in the array

phase_at : (ph : Phase) (lane : ResponseLane) → IsSoundAt ph lane → lane.lane.stage ≡ stage.Head → ph ≡ phase.Heads
phase_at phase.Heads lane s e = refl
phase_at phase.Passing lane s e = absurd (let both : stage.Head ≡ stage.Sending = sym e ∙ s.0 in cc both)
phase_at (phase.Turning no_body) lane s e = absurd (let both : stage.Head ≡ stage.Sending = sym e ∙ s.0 in cc both)
phase_at phase.Answering lane (inl s) e = absurd (let both : stage.Head ≡ stage.Sending = sym e ∙ s in cc both)
phase_at phase.Answering lane (inr s) e = absurd (let both : stage.Head ≡ stage.Done = sym e ∙ s in cc both)

pub record AtHead (lane : ResponseLane) (p : Exchange) : Type 0 where
  pub put : p.put ≡ interim_text p.passed
  pub got : Received
  pub left : List ℕ
  pub pending : p.pending ≡ Some got
  pub came : HeadsCame p.asked lane.lane.limits lane.lane.ended p.read p.bytes left
  pub reads : Reads p.asked lane.lane.limits lane.lane.ended left (λ more. Begins got (lane.lane.input.items ++ more))
  pub framed : got.framing ≡ lane.lane.framing

pub at_head : (lane : ResponseLane) (p : Exchange) → IsSoundAnswer lane → lane.lane.stage ≡ stage.Head → Answers lane p → AtHead lane p
at_head lane p s e a =
    let h : AnswersAt phase.Heads lane p = subst (λ (ph : Phase). AnswersAt ph lane p) (phase_at lane.phase lane s.at e) a in
    let f : HeadsAt stage.Head lane.lane p = subst (λ (st : Stage). HeadsAt st lane.lane p) e h.2 in
    record { put = h.0; got = f.0; left = f.1; pending = f.2; came = f.3; reads = f.4; framed = f.5 }

pub head_sound : (lane : ResponseLane) → IsSoundAnswer lane → lane.lane.stage ≡ stage.Head → (lane.begun ≡ false) × (lane.lane.out.blocks ≡ [])
head_sound lane s e =
    let h : IsSoundAt phase.Heads lane = subst (λ (ph : Phase). IsSoundAt ph lane) (phase_at lane.phase lane s.at e) s.at in
    (h.3, h.2)

same_got : (o : Option Received) (a b : Received) → o ≡ Some a → o ≡ Some b → a ≡ b
same_got o a b e f = let both : Some a ≡ Some b = sym e ∙ f in cc

-- what follows an interim head
pub came_behind : (lane : ResponseLane) (p : Exchange) (h : AtHead lane p) (got : Received) → p.pending ≡ Some got → is_interim got.head ≡ true
    → HeadsCame p.asked lane.lane.limits lane.lane.ended (p.read ++ got.head ∷ []) p.bytes lane.lane.input.items
came_behind lane p h got e is =
    let same : h.got ≡ got = same_got p.pending h.got got h.pending e in
    came_more p.asked lane.lane.limits lane.lane.ended p.read p.bytes h.left lane.lane.input.items got
    (subst (λ (g : Received). Reads p.asked lane.lane.limits lane.lane.ended h.left (λ more. Begins g (lane.lane.input.items ++ more))) same h.reads) is h.came

-- ---- a head is shown

pub shows_first : (lane : Lane) (p : Exchange) (head : Head) → p.put ≡ interim_text p.passed → Shows lane.writer head [] lane.out.blocks → IsSound lane → lane.dropped ≡ false → lane.stage ≡ stage.Sending
    → (q : Exchange) → q.passed ≡ p.passed ++ head ∷ [] → q.put ≡ p.put → ShowsLast lane q
shows_first lane p head put shows sound kept at q passed same = record {
  before = p.passed;
  head = head;
  text = [];
  passed = passed;
  put = same ∙ put ∙ sym (append-nil (interim_text p.passed));
  shows = shows;
  sound = sound;
  kept = kept;
  stage = at;
}

-- all of it was put out: the text is that of interim heads, each whole
pub shown_all : (lane : Lane) (p : Exchange) → ShowsLast lane p → is_done lane.writer ≡ true → p.put ≡ interim_text p.passed
shown_all lane p s done =
    s.put ∙ ap (λ (t : List ℕ). interim_text s.before ++ t) (shown_whole lane.writer s.head s.text lane.out.blocks s.shows done)
    ∙ sym (interim_one s.before s.head) ∙ ap interim_text (sym s.passed)

-- ---- the last that answers

pub begins_last : (lane : Lane) (p : Exchange) (past : Past) → Stands lane past → IsSound lane → lane.dropped ≡ false → lane.stage ≡ stage.Sending → IsLast p.last lane p past
    → put_out lane past ≡ past.sent.before → p.put ≡ interim_text p.passed → Answers (made lane phase.Answering false) p
begins_last lane p past stands sound kept at last out put = record {
  past = past;
  text = [];
  stands = stands;
  sound = sound;
  kept = kept;
  last = last;
  out = out ∙ sym (append-nil past.sent.before);
  put = put ∙ sym (append-nil (interim_text p.passed));
  begun = refl;
  sent = inl at;
}

-- more of a head is put out
pub shows_more : (old new : Lane) (p : Exchange) → ShowsLast old p → (g : Goes old new) → new ≡ record old { writer = new.writer; out = new.out; output = new.output } → (IsSound old → IsSound new) → ShowsLast new (with_put p g.put)
shows_more old new p s g same sound = record {
  before = s.before;
  head = s.head;
  text = s.text ++ g.put;
  passed = s.passed;
  put = ap (λ (t : List ℕ). t ++ g.put) s.put ∙ append_assoc (interim_text s.before) s.text g.put;
  shows = g.shows s.head s.text s.shows;
  sound = sound s.sound;
  kept = ap (λ (l : Lane). l.dropped) same ∙ s.kept;
  stage = ap (λ (l : Lane). l.stage) same ∙ s.stage;
}

pub sound_passing : (lane : ResponseLane) → IsSoundAnswer lane → lane.phase ≡ phase.Passing → IsSoundAt phase.Passing lane
sound_passing lane s e = subst (λ (ph : Phase). IsSoundAt ph lane) e s.at

pub at_passing : (lane : ResponseLane) (p : Exchange) → lane.phase ≡ phase.Passing → Answers lane p → AnswersAt phase.Passing lane p
at_passing lane p e a = subst (λ (ph : Phase). AnswersAt ph lane p) e a

-- an interim head is put out
pub at_showing : (ph : Phase) (lane : ResponseLane) (p : Exchange) → shows_head ph ≡ true → AnswersAt ph lane p
    → ShowsLast lane.lane p × ((left : List ℕ) × HeadsCame p.asked lane.lane.limits lane.lane.ended p.read p.bytes left)
at_showing phase.Heads lane p e a = absurd (let both : false ≡ true = e in cc both)
at_showing phase.Passing lane p e a = (a.0, (lane.lane.input.items, a.3))
at_showing (phase.Turning no_body) lane p e a = (a.0, a.2)
at_showing phase.Answering lane p e a = absurd (let both : false ≡ true = e in cc both)

pub sound_showing : (ph : Phase) (lane : ResponseLane) → shows_head ph ≡ true → IsSoundAt ph lane → (lane.lane.stage ≡ stage.Sending) × (lane.begun ≡ false) × (lane.lane.source ≡ source.Whole)
sound_showing phase.Heads lane e s = absurd (let both : false ≡ true = e in cc both)
sound_showing phase.Passing lane e s = s
sound_showing (phase.Turning no_body) lane e s = s
sound_showing phase.Answering lane e s = absurd (let both : false ≡ true = e in cc both)

-- the interim heads were put out whole, and nothing of the last
came_at : (st : Stage) (lane : Lane) (p : Exchange) → HeadsAt st lane p → (left : List ℕ) × HeadsCame p.asked lane.limits lane.ended p.read p.bytes left
came_at stage.Reading lane p h = (h.1.0, h.1.1)
came_at stage.Head lane p h = (h.1, h.3)
came_at stage.Sending lane p h = absurd h
came_at stage.Done lane p h = (h.0, h.1)

came_last : (last : Last) (lane : Lane) (p : Exchange) (q : Past) → IsLast last lane p q → (left : List ℕ) × HeadsCame p.asked lane.limits lane.ended p.read p.bytes left
came_last NotYet lane p q h = absurd h
came_last (Serves filters head framed no_body) lane p q h = (h.1, h.3)
came_last (Replies head body no_body) lane p q h = h.0

unbegun : (b : Bool) (text : List ℕ) → HasBegun b text → b ≡ false → text ≡ []
unbegun true text h e = absurd (let both : true ≡ false = e in cc both)
unbegun false text h e = h

pub before_last : (ph : Phase) (lane : ResponseLane) (p : Exchange) → lane.begun ≡ false → shows_head ph ≡ false → AnswersAt ph lane p
    → (p.put ≡ interim_text p.passed) × ((left : List ℕ) × HeadsCame p.asked lane.lane.limits lane.lane.ended p.read p.bytes left)
before_last phase.Heads lane p none e a = (a.0, came_at lane.lane.stage lane.lane p a.2)
before_last phase.Passing lane p none e a = absurd (let both : true ≡ false = e in cc both)
before_last (phase.Turning no_body) lane p none e a = absurd (let both : true ≡ false = e in cc both)
before_last phase.Answering lane p none e a = (
  a.put ∙ ap (λ (t : List ℕ). interim_text p.passed ++ t) (unbegun lane.begun a.text a.begun none) ∙ append-nil (interim_text p.passed),
  came_last p.last lane.lane p a.past a.last,
)

-- a head goes on being shown where other blocks come into the first array
pub shows_by : (old new : Lane) (p q : Exchange) → q.passed ≡ p.passed → q.put ≡ p.put → new ≡ record old { msg = new.msg } → (IsSound old → IsSound new) → ShowsLast old p → ShowsLast new q
shows_by old new p q passed put same sound s = record {
  before = s.before;
  head = s.head;
  text = s.text;
  passed = passed ∙ s.passed;
  put = put ∙ s.put;
  shows = subst (λ (l : Lane). Shows l.writer s.head s.text l.out.blocks) (sym same) s.shows;
  sound = sound s.sound;
  kept = ap (λ (l : Lane). l.dropped) same ∙ s.kept;
  stage = ap (λ (l : Lane). l.stage) same ∙ s.stage;
}

pub last_same : (last : Last) (old new : Lane) → SameStream old new → (p : Exchange) (q : Past) → IsLast last old p q → IsLast last new p q
last_same NotYet old new s p q h = h
last_same (Serves filters head framed no_body) old new s p q h = (
  h.0,
  h.1,
  h.2,
  came_same old new s p.asked p.read p.bytes h.1 h.3,
  reads_same old new s p.asked h.1 (λ (more : List ℕ). Begins h.0 (q.bytes ++ more)) h.4,
  h.5,
  h.6,
  h.7,
)
last_same (Replies head body no_body) old new s p q h = ((h.0.0, came_same old new s p.asked p.read p.bytes h.0.0 h.0.1), h.1, h.2)

pub at_last : (lane : ResponseLane) (p : Exchange) → lane.phase ≡ phase.Answering → Answers lane p → AnswersLast lane p
at_last lane p e a = subst (λ (ph : Phase). AnswersAt ph lane p) e a

last_put : (last : Last) (lane : Lane) (p : Exchange) (put : List ℕ) (q : Past) → IsLast last lane p q → IsLast last lane (with_put p put) q
last_put NotYet lane p put q h = h
last_put (Serves filters head framed no_body) lane p put q h = h
last_put (Replies head body no_body) lane p put q h = h

-- some text of the last was put out
pub last_more : (old : ResponseLane) (new : Lane) (begun_ : Bool) (put : List ℕ) (p : Exchange) → AnswersLast old p → SameStream old.lane new → ((q : Past) → Stands old.lane q → Stands new q) → IsSound new → new.dropped ≡ false
    → new.output.items ≡ old.lane.output.items ++ put → (new.stage ≡ stage.Sending) ⊎ (new.stage ≡ stage.Done) → ((text : List ℕ) → HasBegun old.begun text → HasBegun begun_ (text ++ put))
    → Answers (made new phase.Answering begun_) (with_put p put)
last_more old new begun_ put p a same stands sound kept out sent begins = record {
  past = a.past;
  text = a.text ++ put;
  stands = stands a.past a.stands;
  sound = sound;
  kept = kept;
  last = last_put p.last new p put a.past (last_same p.last old.lane new same p a.past a.last);
  out = ap (λ (t : List ℕ). a.past.took ++ t) out ∙ sym (append_assoc a.past.took old.lane.output.items put) ∙ ap (λ (t : List ℕ). t ++ put) a.out ∙ append_assoc a.past.sent.before a.text put;
  put = ap (λ (t : List ℕ). t ++ put) a.put ∙ append_assoc (interim_text p.passed) a.text put;
  begun = begins a.text a.begun;
  sent = sent;
}

pub begins_now : (put old new : List ℕ) → new ≡ old ++ put → length old < length new → (text : List ℕ) → 0 < length (text ++ put)
begins_now put old new e more text =
    let all : length new ≡ length old + length put = ap length e ∙ length-append old put in
    let both : length (text ++ put) ≡ length text + length put = length-append text put in
    omega arith

pub begins_not : (b : Bool) (put old new : List ℕ) → new ≡ old ++ put → length new ≤ length old → (text : List ℕ) → HasBegun b text → HasBegun b (text ++ put)
begins_not b put old new e more text h =
    let all : length new ≡ length old + length put = ap length e ∙ length-append old put in
    let none : put ≡ [] = nil_from_length put (omega arith) in
    subst (HasBegun b) (sym (append-nil text) ∙ ap (λ (t : List ℕ). text ++ t) (sym none)) h

pub put_twice : (p : Exchange) (a b : List ℕ) → with_put (with_put p a) b ≡ with_put p (a ++ b)
put_twice p a b = ap (λ (t : List ℕ). record p { put = t }) (append_assoc p.put a b)

pub at_turning : (lane : ResponseLane) (p : Exchange) (no_body : Bool) → lane.phase ≡ phase.Turning no_body → Answers lane p → AnswersAt (phase.Turning no_body) lane p
at_turning lane p no_body e a = subst (λ (ph : Phase). AnswersAt ph lane p) e a

pub sound_turning : (lane : ResponseLane) (no_body : Bool) → IsSoundAnswer lane → lane.phase ≡ phase.Turning no_body → IsSoundAt (phase.Turning no_body) lane
sound_turning lane no_body s e = subst (λ (ph : Phase). IsSoundAt ph lane) e s.at

-- the reply begins behind an interim head that was put out whole
pub turned : (lane said_ : Lane) (p : Exchange) (filters : List FilterSpec) (head : Head) (body : List ℕ) (no_body : Bool) → p.last ≡ Replies head body no_body → Stands said_ (said lane filters head body no_body) → IsSound said_ → said_.dropped ≡ false → said_.stage ≡ stage.Sending
    → said_.output ≡ lane.output → (left : List ℕ) → HeadsCame p.asked said_.limits said_.ended p.read p.bytes left → p.put ≡ interim_text p.passed → Answers (made said_ phase.Answering false) p
turned lane said_ p filters head body no_body e stands sound kept at out left came put =
    begins_last said_ p (said lane filters head body no_body) stands sound kept at
    (subst (λ (last : Last). IsLast last said_ p (said lane filters head body no_body)) (sym e) ((left, came), refl, refl))
    (ap (λ (b : Buffer ℕ). b.items) out) put

-- ---- the contract

came_any : (ph : Phase) (lane : ResponseLane) (p : Exchange) → AnswersAt ph lane p → (left : List ℕ) × HeadsCame p.asked lane.lane.limits lane.lane.ended p.read p.bytes left
came_any phase.Heads lane p a = came_at lane.lane.stage lane.lane p a.2
came_any phase.Passing lane p a = (lane.lane.input.items, a.3)
came_any (phase.Turning no_body) lane p a = a.2
came_any phase.Answering lane p a = came_last p.last lane.lane p a.past a.last

showing : (lane : Lane) (p : Exchange) → ShowsLast lane p → (rest : List ℕ) × (p.put ++ rest ≡ interim_text p.passed)
showing lane p s =
    let front = shown_front lane.writer s.head s.text lane.out.blocks s.shows in (
      front.0,
      ap (λ (t : List ℕ). t ++ front.0) s.put ∙ append_assoc (interim_text s.before) s.text front.0 ∙ ap (λ (t : List ℕ). interim_text s.before ++ t) front.1
          ∙ sym (interim_one s.before s.head) ∙ ap interim_text (sym s.passed),
    )

pub interim_any : (ph : Phase) (lane : ResponseLane) (p : Exchange) → lane.begun ≡ false → AnswersAt ph lane p → (rest : List ℕ) × (p.put ++ rest ≡ interim_text p.passed)
interim_any phase.Heads lane p none a = ([], append-nil p.put ∙ a.0)
interim_any phase.Passing lane p none a = showing lane.lane p a.0
interim_any (phase.Turning no_body) lane p none a = showing lane.lane p a.0
interim_any phase.Answering lane p none a = ([], append-nil p.put ∙ (before_last phase.Answering lane p none refl a).0)

pub answer_promise : (lane : ResponseLane) (p : Exchange) → Answers lane p → AnswerPromise lane p
answer_promise lane p a = record {
  came = came_any lane.phase lane p a;
  interim = λ none. interim_any lane.phase lane p none a;
  last = λ e. (let l = at_last lane p e a in (l.past, l.text, promise lane.lane l.past l.stands, l.last, l.out, l.put, l.begun));
}
