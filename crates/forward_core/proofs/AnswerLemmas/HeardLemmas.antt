-- Whether a response head was read is told of the server's stream, however it goes on.
use Rattle.std.proofs.Common.{◌≡◌, ◌≢◌, ◌⊎◌, inl, inr, ℕ, List, [], ◌∷◌, ◌++◌, Bool, true, false, refl, sym, ap, ◌∙◌, subst}
use Rattle.std.specs.Prelude.{Option, is_some}
use Rattle.http_model.specs.declared.Ending.{Ending}
use Rattle.http_model.specs.declared.Limits.{Limits}
use Rattle.http_model.specs.Head.{Head}
use Rattle.http_model.specs.Reading.{Received, HeadReading, Begins, Refused, Nothing}
use Rattle.http_rules.specs.declared.config.Config.{Config}
use Rattle.h1_head.specs.Response.{ResponseOf}
use Rattle.session_model.specs.Asking.{Asker}
use Rattle.session_core.specs.History.{Coming, gains, ends}
use Rattle.session_core.proofs.PublicLaws.{continues_gains, continues_ends}
use Rattle.lane.specs.declared.direction.stage.Stage.{Stage}
use Rattle.lane.specs.declared.direction.stage.Stage.TheVariants as stage
use Rattle.lane.specs.Answering.{Exchange, BeginsWithInterim, Answers, AnswersAt, HeadsAt, HeadsCame, Reads, IsSoundAnswer, IsSoundAt, ended_of, phase_of, stage_of, shows_last, with_bytes, with_put}
use Rattle.lane.specs.declared.phase.Phase.{Phase}
use Rattle.lane.specs.declared.phase.Phase.TheVariants as phase
use Rattle.lane.specs.declared.response_lane.ResponseLane.{ResponseLane}
use Rattle.forward_core.specs.Answer.Seen.{is_last}
use Rattle.forward_core.specs.Answer.Stands.{IsFor, IsInHand}
use Rattle.forward_core.specs.Answer.HeadsRead.{BeginsWithHead, BeginsWithNone, HasRead, ReadsNone, IsUnread, ReadBefore, HeardAt}
use Rattle.forward_core.specs.declared.answer.place.Place.{Place}
use Rattle.forward_core.specs.declared.answer.place.Place.TheVariants as place
use Rattle.forward_core.proofs.AnswerLemmas.Events.{Takes, Ends, Took}
use Rattle.forward_core.proofs.AnswerLemmas.Heads.{More, more_of}
use Rattle.forward_core.proofs.AnswerLemmas.Putting.{Puts}

-- ---- a lane of the same stream

read_on : (cfg : Config) (asker : Asker) (old new : ResponseLane) (server : Coming) → ended_of new ≡ ended_of old → HasRead cfg asker old server → HasRead cfg asker new server
read_on cfg asker old new server ended h = record { ending = ended ∙ h.ending; begins = h.begins }

none_on : (cfg : Config) (asker : Asker) (old new : ResponseLane) (server : Coming) → ended_of new ≡ ended_of old → ReadsNone cfg asker old server → ReadsNone cfg asker new server
none_on cfg asker old new server ended h = record { ending = ended ∙ h.ending; none = h.none }

-- the last that answers goes out
pub heard_last : (heard : Bool) (at : Place) (cfg : Config) (asker : Asker) (old new : ResponseLane) (server : Coming) → is_last at ≡ true → ended_of new ≡ ended_of old → ReadBefore heard cfg asker old server → HeardAt heard at cfg asker new server
heard_last true at cfg asker old new server last ended h = read_on cfg asker old new server ended h
heard_last false place.Idle cfg asker old new server last ended h = tt
heard_last false place.Heads cfg asker old new server last ended h = absurd (let both : false ≡ true = last in cc both)
heard_last false place.Response cfg asker old new server last ended h = none_on cfg asker old new server ended h
heard_last false place.Closing cfg asker old new server last ended h = none_on cfg asker old new server ended h
heard_last false place.Keeping cfg asker old new server last ended h = none_on cfg asker old new server ended h
heard_last false place.Saying cfg asker old new server last ended h = tt

-- a text is said in place of an answer
pub heard_said : (heard : Bool) (at : Place) (cfg : Config) (asker : Asker) (old new : ResponseLane) (server : Coming) → ended_of new ≡ ended_of old → HeardAt heard at cfg asker old server → HeardAt heard place.Saying cfg asker new server
heard_said true at cfg asker old new server ended h = read_on cfg asker old new server ended h
heard_said false at cfg asker old new server ended h = tt

-- a lane that stands for the same exchange, where heads are read
pub heard_heads : (heard : Bool) (cfg : Config) (asker : Asker) (old new : ResponseLane) (server : Coming) → ended_of new ≡ ended_of old → ((e : Exchange) → e.asked ≡ asker.head_asked → Answers old e → Answers new e)
    → HeardAt heard place.Heads cfg asker old server → HeardAt heard place.Heads cfg asker new server
heard_heads true cfg asker old new server ended answers h = read_on cfg asker old new server ended h
heard_heads false cfg asker old new server ended answers h =
    record { e = h.e; answers = answers h.e h.asked h.answers; asked = h.asked; bytes = h.bytes; ending = ended ∙ h.ending; read = h.read; passed = h.passed }

pub heard_puts : (heard : Bool) (at : Place) (cfg : Config) (asker : Asker) (old new : ResponseLane) (server : Coming) (more : List ℕ) → Puts old new more → HeardAt heard at cfg asker old server → HeardAt heard at cfg asker new server
heard_puts true at cfg asker old new server more t h = read_on cfg asker old new server t.ended h
heard_puts false place.Idle cfg asker old new server more t h = tt
heard_puts false place.Heads cfg asker old new server more t h =
    record { e = with_put h.e more; answers = t.answers h.e h.answers; asked = h.asked; bytes = h.bytes; ending = t.ended ∙ h.ending; read = h.read; passed = h.passed }
heard_puts false place.Response cfg asker old new server more t h = none_on cfg asker old new server t.ended h
heard_puts false place.Closing cfg asker old new server more t h = none_on cfg asker old new server t.ended h
heard_puts false place.Keeping cfg asker old new server more t h = none_on cfg asker old new server t.ended h
heard_puts false place.Saying cfg asker old new server more t h = tt

-- where no head was read, and none is looked for
pub not_heard : (heard : Bool) (at : Place) (cfg : Config) (asker : Asker) (lane : ResponseLane) (server : Coming) → heard ≡ false → HeardAt false at cfg asker lane server → HeardAt heard at cfg asker lane server
not_heard heard at cfg asker lane server e h = subst (λ (b : Bool). HeardAt b at cfg asker lane server) (sym e) h

-- ---- bytes come

none_more : (cfg : Config) (asker : Asker) (old new : ResponseLane) (server : Coming) (more : List ℕ) → Takes old new more → ReadsNone cfg asker old server → ReadsNone cfg asker new (gains server more)
none_more cfg asker old new server more t h = record { ending = t.ended ∙ h.ending; none = λ stream c. h.none stream (continues_gains server more stream (sym h.ending ∙ t.is_open) c) }

pub heard_takes : (heard : Bool) (at : Place) (cfg : Config) (asker : Asker) (old new : ResponseLane) (server : Coming) (more : List ℕ) → Takes old new more → HeardAt heard at cfg asker old server → HeardAt heard at cfg asker new (gains server more)
heard_takes true at cfg asker old new server more t h =
    record { ending = t.ended ∙ h.ending; begins = λ stream c. h.begins stream (continues_gains server more stream (sym h.ending ∙ t.is_open) c) }
heard_takes false place.Idle cfg asker old new server more t h = tt
heard_takes false place.Heads cfg asker old new server more t h =
    record { e = with_bytes h.e more; answers = t.answers h.e h.answers; asked = h.asked; bytes = ap (λ xs. xs ++ more) h.bytes; ending = t.ended ∙ h.ending; read = h.read; passed = h.passed }
heard_takes false place.Response cfg asker old new server more t h = none_more cfg asker old new server more t h
heard_takes false place.Closing cfg asker old new server more t h = none_more cfg asker old new server more t h
heard_takes false place.Keeping cfg asker old new server more t h = none_more cfg asker old new server more t h
heard_takes false place.Saying cfg asker old new server more t h = tt

-- ---- the stream ends, and bytes are taken

none_ends : (cfg : Config) (asker : Asker) (old new : ResponseLane) (server : Coming) (how : Ending) → Ends old new how → ReadsNone cfg asker old server → ReadsNone cfg asker new (ends server how)
none_ends cfg asker old new server how t h = record { ending = t.ended; none = λ stream c. h.none stream (continues_ends server how stream (sym h.ending ∙ t.is_open) c) }

pub heard_ends : (heard : Bool) (at : Place) (cfg : Config) (asker : Asker) (old new : ResponseLane) (server : Coming) (how : Ending) → Ends old new how → HeardAt heard at cfg asker old server → HeardAt heard at cfg asker new (ends server how)
heard_ends true at cfg asker old new server how t h = record { ending = t.ended; begins = λ stream c. h.begins stream (continues_ends server how stream (sym h.ending ∙ t.is_open) c) }
heard_ends false place.Idle cfg asker old new server how t h = tt
heard_ends false place.Heads cfg asker old new server how t h =
    record { e = h.e; answers = t.answers h.e h.answers; asked = h.asked; bytes = h.bytes; ending = t.ended; read = h.read; passed = h.passed }
heard_ends false place.Response cfg asker old new server how t h = none_ends cfg asker old new server how t h
heard_ends false place.Closing cfg asker old new server how t h = none_ends cfg asker old new server how t h
heard_ends false place.Keeping cfg asker old new server how t h = none_ends cfg asker old new server how t h
heard_ends false place.Saying cfg asker old new server how t h = tt

pub heard_took : (heard : Bool) (at : Place) (cfg : Config) (asker : Asker) (old new : ResponseLane) (server : Coming) → Took old new → HeardAt heard at cfg asker old server → HeardAt heard at cfg asker new server
heard_took true at cfg asker old new server t h = read_on cfg asker old new server t.ended h
heard_took false place.Idle cfg asker old new server t h = tt
heard_took false place.Heads cfg asker old new server t h =
    record { e = h.e; answers = t.answers h.e h.answers; asked = h.asked; bytes = h.bytes; ending = t.ended ∙ h.ending; read = h.read; passed = h.passed }
heard_took false place.Response cfg asker old new server t h = none_on cfg asker old new server t.ended h
heard_took false place.Closing cfg asker old new server t h = none_on cfg asker old new server t.ended h
heard_took false place.Keeping cfg asker old new server t h = none_on cfg asker old new server t.ended h
heard_took false place.Saying cfg asker old new server t h = tt

-- ---- what the lane holds of the head that it read last

heads_phase : (ph : Phase) (lane : ResponseLane) → IsSoundAt ph lane → shows_last ph ≡ false → stage_of lane ≢ stage.Sending → ph ≡ phase.Heads
heads_phase phase.Heads lane s first off = refl
heads_phase phase.Passing lane s first off = absurd (off s.0)
heads_phase (phase.Turning no_body) lane s first off = absurd (let both : true ≡ false = first in cc both)
heads_phase phase.Answering lane s first off = absurd (let both : true ≡ false = first in cc both)

pub heads_at : (lane : ResponseLane) (e : Exchange) → IsSoundAnswer lane → shows_last (phase_of lane) ≡ false → stage_of lane ≢ stage.Sending → Answers lane e → HeadsAt (stage_of lane) lane.lane e
heads_at lane e s first off a =
    let h : AnswersAt phase.Heads lane e = subst (λ (ph : Phase). AnswersAt ph lane e) (heads_phase lane.phase lane s.at first off) a in
    h.2

pub as_reads : (cfg : Config) (asker : Asker) (lane : ResponseLane) (server : Coming) (put : List ℕ) (e : Exchange) → IsFor cfg lane → IsInHand asker lane server put e → (left : List ℕ) (reading : List ℕ → HeadReading)
    → Reads e.asked lane.lane.limits lane.lane.ended left reading → Reads asker.head_asked cfg.limits server.ending left reading
as_reads cfg asker lane server put e for h left reading x =
    subst (λ (a : Bool). Reads a cfg.limits server.ending left reading) h.asked
    (subst (λ (l : Limits). Reads e.asked l server.ending left reading) for.limits
    (subst (λ (o : Option Ending). Reads e.asked lane.lane.limits o left reading) h.ending x))

pub as_came : (cfg : Config) (asker : Asker) (lane : ResponseLane) (server : Coming) (put : List ℕ) (e : Exchange) → IsFor cfg lane → IsInHand asker lane server put e → (left : List ℕ)
    → HeadsCame e.asked lane.lane.limits lane.lane.ended e.read e.bytes left → HeadsCame asker.head_asked cfg.limits server.ending e.read e.bytes left
as_came cfg asker lane server put e for h left x =
    subst (λ (a : Bool). HeadsCame a cfg.limits server.ending e.read e.bytes left) h.asked
    (subst (λ (l : Limits). HeadsCame e.asked l server.ending e.read e.bytes left) for.limits
    (subst (λ (o : Option Ending). HeadsCame e.asked lane.lane.limits o e.read e.bytes left) h.ending x))

pub head_not_sending : (st : Stage) → st ≡ stage.Head → st ≢ stage.Sending
head_not_sending st e f = let both : stage.Head ≡ stage.Sending = sym e ∙ f in absurd (cc both)

pub not_sending : (st : Stage) → st ≡ stage.Done → st ≢ stage.Sending
not_sending st e f = let both : stage.Done ≡ stage.Sending = sym e ∙ f in absurd (cc both)

-- the bytes begin with the first of the interim heads, or with the head behind none
head_there : (asked : Bool) (limits : Limits) (heads : List Head) (bytes left : List ℕ) (got : Received) (rest : List ℕ) → BeginsWithInterim asked limits heads bytes (λ b. b ≡ left) → ResponseOf asked limits left (Begins got rest)
    → (received : Received) × (behind : List ℕ) × ResponseOf asked limits bytes (Begins received behind)
head_there asked limits [] bytes left got rest h r = (got, rest, subst (λ (b : List ℕ). ResponseOf asked limits b (Begins got rest)) (sym h) r)
head_there asked limits (x ∷ heads) bytes left got rest h r = (h.0, h.1, h.2)

-- where a head stands in the array, one was read
pub has_read : (cfg : Config) (asker : Asker) (lane : ResponseLane) (server : Coming) (put : List ℕ) (e : Exchange) → IsSoundAnswer lane → shows_last (phase_of lane) ≡ false → stage_of lane ≡ stage.Head → IsFor cfg lane → IsInHand asker lane server put e
    → HasRead cfg asker lane server
has_read cfg asker lane server put e sound first head for h =
    let at : HeadsAt stage.Head lane.lane e = subst (λ (st : Stage). HeadsAt st lane.lane e) head (heads_at lane e sound first (head_not_sending (stage_of lane) head) h.answers) in
    let came = as_came cfg asker lane server put e for h at.1 at.3 in
    let reads = as_reads cfg asker lane server put e for h at.1 (λ more. Begins at.0 (lane.lane.input.items ++ more)) at.4 in
    record {
      ending = h.ending;
      begins = λ stream c.
          let m : More server.ending server.bytes stream = more_of server.ending server.bytes stream c in
          let heads : BeginsWithInterim asker.head_asked cfg.limits e.read (server.bytes ++ m.more) (λ b. b ≡ at.1 ++ m.more) =
          subst (λ (xs : List ℕ). BeginsWithInterim asker.head_asked cfg.limits e.read (xs ++ m.more) (λ b. b ≡ at.1 ++ m.more)) h.bytes (came m.more m.over) in
          subst (λ (xs : List ℕ). BeginsWithHead cfg asker xs) (sym m.bytes)
          (head_there asker.head_asked cfg.limits e.read (server.bytes ++ m.more) (at.1 ++ m.more) at.0 (lane.lane.input.items ++ m.more) heads (reads m.more m.over));
    }

-- ---- none is to be had

-- where none of the heads was read, all of the stream is left
pub all_left : (asked : Bool) (limits : Limits) (heads : List Head) (bytes left : List ℕ) → heads ≡ [] → BeginsWithInterim asked limits heads bytes (λ b. b ≡ left) → bytes ≡ left
all_left asked limits heads bytes left none h = subst (λ (hs : List Head). BeginsWithInterim asked limits hs bytes (λ b. b ≡ left)) none h

reads_so : (asked other : Bool) (limits most : Limits) (bytes text : List ℕ) (reading : HeadReading) → asked ≡ other → limits ≡ most → bytes ≡ text → ResponseOf asked limits bytes reading → ResponseOf other most text reading
reads_so asked other limits most bytes text reading a l t r =
    subst (λ (b : Bool). ResponseOf b most text reading) a (subst (λ (m : Limits). ResponseOf asked m text reading) l (subst (λ (xs : List ℕ). ResponseOf asked limits xs reading) t r))

reads_none : (cfg : Config) (asker : Asker) (lane : ResponseLane) (server : Coming) → IsFor cfg lane → IsSoundAnswer lane → shows_last (phase_of lane) ≡ false → stage_of lane ≡ stage.Done → IsUnread asker lane server → ReadsNone cfg asker lane server
reads_none cfg asker lane server for sound first done u =
    let at : HeadsAt stage.Done lane.lane u.e = subst (λ (st : Stage). HeadsAt st lane.lane u.e) done (heads_at lane u.e sound first (not_sending (stage_of lane) done) u.answers) in
    record {
      ending = u.ending;
      none = λ stream c.
          let m : More server.ending server.bytes stream = more_of server.ending server.bytes stream c in
          let over = λ (e : is_some lane.lane.ended ≡ true). m.over (sym (ap is_some u.ending) ∙ e) in
          let left : u.e.bytes ++ m.more ≡ at.0 ++ m.more = all_left u.e.asked lane.lane.limits u.e.read (u.e.bytes ++ m.more) (at.0 ++ m.more) u.read (at.1 m.more over) in
          let text : at.0 ++ m.more ≡ stream.bytes = sym left ∙ ap (λ xs. xs ++ m.more) u.bytes ∙ sym m.bytes in
          by stream.bytes at.0 m.more over text at.2;
    }
  where
    by : (bytes left more : List ℕ) → (is_some lane.lane.ended ≡ true → more ≡ []) → left ++ more ≡ bytes
        → (Reads u.e.asked lane.lane.limits lane.lane.ended left (λ more. Refused 502) ⊎ ((is_some lane.lane.ended ≡ true) × Reads u.e.asked lane.lane.limits lane.lane.ended left (λ more. Nothing)))
        → BeginsWithNone cfg asker bytes
    by bytes left more over text (inl refused) = inl (reads_so u.e.asked asker.head_asked lane.lane.limits cfg.limits (left ++ more) bytes (Refused 502) u.asked for.limits text (refused more over))
    by bytes left more over text (inr nothing) = inr (reads_so u.e.asked asker.head_asked lane.lane.limits cfg.limits (left ++ more) bytes Nothing u.asked for.limits text (nothing.1 more over))

-- where there is no head to be had behind those that were read
pub read_before : (heard : Bool) (cfg : Config) (asker : Asker) (lane : ResponseLane) (server : Coming) → IsFor cfg lane → IsSoundAnswer lane → shows_last (phase_of lane) ≡ false → stage_of lane ≡ stage.Done → HeardAt heard place.Heads cfg asker lane server
    → ReadBefore heard cfg asker lane server
read_before true cfg asker lane server for sound first done h = h
read_before false cfg asker lane server for sound first done h = reads_none cfg asker lane server for sound first done h
