-- What a side at rest has put out, in words of its session.
use Rattle.std.proofs.Common.{◌≡◌, inl, inr, ℕ, List, [], ◌∷◌, ◌++◌, Bool, true, false, refl, sym, ap, ◌∙◌, subst}
use Rattle.std.specs.Prelude.{Option, Some, None}
use Rattle.std.proofs.lemmas.List.{append-nil}
use Rattle.http_model.specs.declared.Ending.{Ending}
use Rattle.http_model.specs.declared.Framing.{Framing}
use Rattle.http_model.specs.declared.Limits.{Limits}
use Rattle.http_model.specs.Finish.{response_framing}
use Rattle.http_model.specs.Head.{Head}
use Rattle.http_model.specs.Reading.{Received, HeadReading, Begins}
use Rattle.body_filter.specs.declared.filter_spec.FilterSpec.{FilterSpec}
use Rattle.h1_body.specs.BodyOf.{BodyRead, IsBodyOf}
use Rattle.h1_head.specs.Decides.{MayWait}
use Rattle.h1_head.specs.Kind.{response_heads}
use Rattle.h1_head.specs.Response.{ResponseOf}
use Rattle.h1_head.specs.Stream.{behind}
use Rattle.px_sample.specs.Variables.{Variables}
use Rattle.http_rules.specs.declared.config.Config.{Config}
use Rattle.http_rules.specs.Lives.{answering}
use Rattle.forward_core.specs.Meaning.Product.{meaning_of, replaces}
use Rattle.session_model.specs.Meaning.{is_interim}
use Rattle.session_model.specs.Asking.{Asker}
use Rattle.session_model.specs.Answering.{finished_response}
use Rattle.session_model.specs.Session.{interim_text}
use Rattle.session_core.specs.History.{Coming}
use Rattle.session_core.specs.Sided.{Asking, asker_in, Saying}
use Rattle.session_core.specs.declared.Told.TheVariants as told
use Rattle.http_model.specs.declared.Source.{Source}
use Rattle.http_model.specs.declared.Source.TheVariants as source
use Rattle.lane.specs.declared.direction.stage.Stage.TheVariants as stage
use Rattle.lane.specs.Answering.{BeginsWithInterim, Exchange, Answers, AnswersAt, AnswerPromise, Serves, HeadsCame, Reads, SameLines, IsSoundAnswer, HoldsNothingBack, phase_of, source_of, stage_of, output_of, input_of, has_begun, shows_last, limits_of}
use Rattle.lane.specs.Resting.{IsAllServed}
use Rattle.lane.specs.declared.phase.Phase.{Phase}
use Rattle.lane.specs.declared.phase.Phase.TheVariants as phase
use Rattle.lane.specs.declared.response_lane.ResponseLane.{ResponseLane}
use Rattle.lane.proofs.PublicLaws.{at_reading, may_wait}
use Rattle.forward_core.specs.Answer.Seen.{seen, told_by, told_at}
use Rattle.forward_core.specs.Answer.Stands.{IsFor, IsInHand, IsResponse, StandsAt, AnswerStands, HeadRests, IsPutOut, RestsAt, is_serving}
use Rattle.forward_core.specs.Answer.Resting.{AwaitsHead, PutsOutBody}
use Rattle.forward_core.specs.declared.answer.place.Place.{Place}
use Rattle.forward_core.specs.declared.answer.place.Place.TheVariants as place
use Rattle.forward_core.specs.declared.answer.side.AnswerSide.{AnswerSide}
use Rattle.forward_core.proofs.AnswerLemmas.Answering.{as_server, same_pending, answering_at, begins_with}

-- what the lane below says of the last that answers
pub record Laws (lane : ResponseLane) : Type 0 where
  pub promise : (e : Exchange) → Answers lane e → AnswerPromise lane e
  pub rests : (e : Exchange) → Answers lane e → phase_of lane ≡ phase.Answering → HoldsNothingBack lane → has_begun lane ≡ true
  pub done : (e : Exchange) → Answers lane e → phase_of lane ≡ phase.Answering → stage_of lane ≡ stage.Done → has_begun lane ≡ true

-- ---- a final head is waited for

-- what is left of the stream differs from the window by empty lines alone
pub waits_behind : (asked : Bool) (limits : Limits) (left input : List ℕ) → SameLines left input → MayWait (response_heads asked) limits false input → MayWait (response_heads asked) limits false left
waits_behind asked limits left input same w =
    may_wait (response_heads asked) limits input left (ap behind (sym (append-nil input)) ∙ sym (same []) ∙ ap behind (append-nil left)) w

awaits : (cfg : Config) (asker : Asker) (lane : ResponseLane) (server : Coming) (put : List ℕ) (e : Exchange) → IsSoundAnswer lane → IsFor cfg lane → IsInHand asker lane server put e → AnswerPromise lane e
    → HeadRests asker.head_asked lane → output_of lane ≡ [] → AwaitsHead cfg asker server put
awaits cfg asker lane server put e sound for h promise (inl shows) none = absurd (shows.1 none)
awaits cfg asker lane server put e sound for h promise (inr waits) none =
    let r = at_reading lane e sound waits.0 h.answers in
    record {
      heads = e.read;
      begins = begins_with cfg asker lane server put e for h promise;
      out = sym h.put_is ∙ r.put ∙ ap (λ hs. interim_text hs) h.passed;
      is_open = sym h.ending ∙ waits.1;
      left = r.left;
      came = as_server cfg asker lane server put e for h e.read r.left r.came;
      waits = subst (λ (l : Limits). MayWait (response_heads asker.head_asked) l false r.left) for.limits
          (waits_behind asker.head_asked (limits_of lane) r.left (input_of lane) r.same waits.2);
    }

begun_not : {A : Type 0} (b : Bool) → b ≡ true → b ≡ false → A
begun_not b yes_ no_ = absurd (let both : true ≡ false = sym yes_ ∙ no_ in cc both)

-- where the last that answers is out, it has begun
begun_by : (src : Source) (lane : ResponseLane) (e : Exchange) → Laws lane → phase_of lane ≡ phase.Answering → Answers lane e → IsPutOut src lane → has_begun lane ≡ true
begun_by source.Going lane e laws at a out = laws.rests e a at out
begun_by source.Whole lane e laws at a out = laws.done e a at out
begun_by (source.Cut code) lane e laws at a out = laws.done e a at out

-- what is done answers
answering_done : (ph : Phase) (lane : ResponseLane) (e : Exchange) → lane.phase ≡ ph → shows_last ph ≡ true → stage_of lane ≡ stage.Done → AnswersAt ph lane e → lane.phase ≡ phase.Answering
answering_done phase.Heads lane e at shows done a = absurd (let both : false ≡ true = shows in cc both)
answering_done phase.Passing lane e at shows done a = absurd (let both : false ≡ true = shows in cc both)
answering_done (phase.Turning no_body) lane e at shows done a = absurd (let both : stage.Sending ≡ stage.Done = sym a.0.stage ∙ done in cc both)
answering_done phase.Answering lane e at shows done a = at

begun_done : (lane : ResponseLane) (e : Exchange) → Laws lane → shows_last (phase_of lane) ≡ true → stage_of lane ≡ stage.Done → Answers lane e → has_begun lane ≡ true
begun_done lane e laws shows done a = laws.done e a (answering_done lane.phase lane e refl shows done a) done

awaits_at : (at : Place) (status : Option ℕ) (cfg : Config) (asker : Asker) (before : Variables) (lane : ResponseLane) (server : Coming) (put : List ℕ) (now : Variables) (saying : Saying) → IsSoundAnswer lane → IsFor cfg lane → Laws lane
    → is_serving at ≡ true → output_of lane ≡ [] → has_begun lane ≡ false → StandsAt at status cfg asker before lane server put now saying → RestsAt at asker.head_asked lane → AwaitsHead cfg asker server put
awaits_at place.Idle status cfg asker before lane server put now saying sound for laws serves none unbegun s rests = absurd (let both : false ≡ true = serves in cc both)
awaits_at place.Saying status cfg asker before lane server put now saying sound for laws serves none unbegun s rests = absurd (let both : false ≡ true = serves in cc both)
awaits_at place.Heads status cfg asker before lane server put now saying sound for laws serves none unbegun s rests = awaits cfg asker lane server put s.0 sound for s.1 (laws.promise s.0 s.1.answers) rests none
awaits_at place.Response status cfg asker before lane server put now saying sound for laws serves none unbegun s rests =
    let a = answering_at lane.phase lane s.0 _ _ _ _ refl s.2.shows s.3.last s.1.answers in
    begun_not (has_begun lane) (begun_by (source_of lane) lane s.0 laws a.0 s.1.answers (rests none)) unbegun
awaits_at place.Closing status cfg asker before lane server put now saying sound for laws serves none unbegun s rests = begun_not (has_begun lane) (begun_done lane s.0 laws s.2.shows (rests none) s.1.answers) unbegun
awaits_at place.Keeping status cfg asker before lane server put now saying sound for laws serves none unbegun s rests = begun_not (has_begun lane) (begun_done lane s.0 laws s.2.shows (rests none) s.1.answers) unbegun

pub begun_or_waits : (cfg : Config) (side : AnswerSide) (asking : Asking Variables) (server : Coming) (put : List ℕ) (now : Variables) (saying : Saying) → Laws side.lane → IsSoundAnswer side.lane → AnswerStands cfg side asking server put now saying
    → is_serving side.place ≡ true → side.at_rest ≡ true → output_of side.lane ≡ [] → has_begun side.lane ≡ false → AwaitsHead cfg (asker_in asking) server put
begun_or_waits cfg side asking server put now saying laws sound s serves rest none unbegun =
    awaits_at side.place side.status cfg (asker_in asking) (answering asking.vars) side.lane server put now saying sound s.for_it laws serves none unbegun s.at (s.rests rest)

-- ---- when it has begun

-- a stream has one reading
abbrev pub OneReading : Type 0
OneReading = (asked : Bool) (limits : Limits) (stream : List ℕ) (r q : HeadReading) → ResponseOf asked limits stream r → ResponseOf asked limits stream q → r ≡ q

same_got : (got other : Received) (rest more : List ℕ) → Begins got rest ≡ Begins other more → got ≡ other
same_got got other rest more both = cc

same_rest : (got other : Received) (rest more : List ℕ) → Begins got rest ≡ Begins other more → rest ≡ more
same_rest got other rest more both = cc

-- where no head stands, none begins
pub none_begins : (asked : Bool) (limits : Limits) (bytes left : List ℕ) (got : Received) (rest : List ℕ) → bytes ≡ left → MayWait (response_heads asked) limits false left → ResponseOf asked limits bytes (Begins got rest) → ⊥
none_begins asked limits bytes left got rest is w r = w.no_head r.0 rest (subst (λ (b : List ℕ). (response_heads asked).Parses (behind b) r.0 rest) is r.1.reads.0)

-- behind the interim heads that came there is one place
one_place : OneReading → (asked : Bool) (limits : Limits) (heads others : List Head) (bytes left place_ : List ℕ) → BeginsWithInterim asked limits heads bytes (λ rest. rest ≡ left) → BeginsWithInterim asked limits others bytes (λ rest. rest ≡ place_)
    → ((got : Received) (rest : List ℕ) → ResponseOf asked limits left (Begins got rest) → is_interim got.head ≡ false) → MayWait (response_heads asked) limits false place_ → MayWait (response_heads asked) limits false left
one_place one asked limits [] [] bytes left place_ h k final w = subst (λ (b : List ℕ). MayWait (response_heads asked) limits false b) (sym k ∙ h) w
one_place one asked limits [] (o ∷ others) bytes left place_ h k final w =
    begun_not (is_interim k.0.head) k.3 (final k.0 k.1 (subst (λ (b : List ℕ). ResponseOf asked limits b (Begins k.0 k.1)) h k.2))
one_place one asked limits (x ∷ heads) [] bytes left place_ h k final w = absurd (none_begins asked limits bytes place_ h.0 h.1 k w h.2)
one_place one asked limits (x ∷ heads) (o ∷ others) bytes left place_ h k final w =
    let same = same_rest k.0 h.0 k.1 h.1 (one asked limits bytes (Begins k.0 k.1) (Begins h.0 h.1) k.2 h.2) in
    one_place one asked limits heads others h.1 left place_ h.5 (subst (λ (b : List ℕ). BeginsWithInterim asked limits others b (λ rest. rest ≡ place_)) same k.5) final w

-- so what is waited for is in the place of each head that may come
waits_there : OneReading → (cfg : Config) (asker : Asker) (server : Coming) (put : List ℕ) → AwaitsHead cfg asker server put → (heads : List Head) (left : List ℕ) → HeadsCame asker.head_asked cfg.limits server.ending heads server.bytes left
    → ((got : Received) (rest : List ℕ) → ResponseOf asker.head_asked cfg.limits left (Begins got rest) → is_interim got.head ≡ false) → MayWait (response_heads asker.head_asked) cfg.limits false left
waits_there one cfg asker server put a heads left came final =
    let asked : Bool = asker.head_asked in
    subst (λ (b : List ℕ). MayWait (response_heads asked) cfg.limits false b) (append-nil left)
    (one_place one asked cfg.limits heads a.heads (server.bytes ++ []) (left ++ []) (a.left ++ []) (came [] (λ e. refl)) (a.came [] (λ e. refl))
    (λ got rest r. final got rest (subst (λ (b : List ℕ). ResponseOf asked cfg.limits b (Begins got rest)) (append-nil left) r))
    (subst (λ (b : List ℕ). MayWait (response_heads asked) cfg.limits false b) (sym (append-nil a.left)) a.waits))

-- a last that hasn't begun only where a head is waited for has begun where none is
begun_if : {A : Type 0} (b : Bool) → (b ≡ false → A) → (A → ⊥) → b ≡ true
begun_if true waits off = refl
begun_if false waits off = absurd (off (waits refl))

pub begun_ended : (cfg : Config) (asker : Asker) (server : Coming) (put : List ℕ) (b : Bool) → (b ≡ false → AwaitsHead cfg asker server put) → (how : Ending) → server.ending ≡ Some how → b ≡ true
begun_ended cfg asker server put b waits how e = begun_if b waits (λ a. (let both : None ≡ Some how = sym a.is_open ∙ e in cc both))

pub begun_hopeless : OneReading → (cfg : Config) (asker : Asker) (server : Coming) (put : List ℕ) (b : Bool) → (b ≡ false → AwaitsHead cfg asker server put) → (heads : List Head) (left : List ℕ)
    → HeadsCame asker.head_asked cfg.limits server.ending heads server.bytes left → ((got : Received) (rest : List ℕ) → ResponseOf asker.head_asked cfg.limits left (Begins got rest) → is_interim got.head ≡ false)
    → (MayWait (response_heads asker.head_asked) cfg.limits false left → ⊥) → b ≡ true
begun_hopeless one cfg asker server put b waits heads left came final off = begun_if b waits (λ a. off (waits_there one cfg asker server put a heads left came final))

pub begun_final : OneReading → (cfg : Config) (asker : Asker) (server : Coming) (put : List ℕ) (b : Bool) → (b ≡ false → AwaitsHead cfg asker server put) → (heads : List Head) (left : List ℕ)
    → HeadsCame asker.head_asked cfg.limits server.ending heads server.bytes left → (received : Received) (rest : List ℕ) → ResponseOf asker.head_asked cfg.limits left (Begins received rest) → is_interim received.head ≡ false → b ≡ true
begun_final one cfg asker server put b waits heads left came received rest reads is =
    begun_hopeless one cfg asker server put b waits heads left came
    (λ got more r. ap (λ (g : Received). is_interim g.head) (same_got got received more rest (one asker.head_asked cfg.limits left (Begins got more) (Begins received rest) r reads)) ∙ is)
    (λ w. none_begins asker.head_asked cfg.limits left left received rest refl w reads)

-- ---- all of a body so far

is_going : (src : Source) → told_by src ≡ told.Going → src ≡ source.Going
is_going source.Going e = refl
is_going source.Whole e = absurd (let both : told.Whole ≡ told.Going = e in cc both)
is_going (source.Cut code) e = absurd (let both : told.Cut ≡ told.Going = e in cc both)

-- the reading of the final head, in the words of the session
reads_so : (cfg : Config) (asker : Asker) (lane : ResponseLane) (server : Coming) (put : List ℕ) (e : Exchange) → IsFor cfg lane → IsInHand asker lane server put e → (left bytes : List ℕ) (got received : Received) → got ≡ received
    → Reads e.asked lane.lane.limits lane.lane.ended left (λ more. Begins got (bytes ++ more)) → Reads asker.head_asked cfg.limits server.ending left (λ more. Begins received (bytes ++ more))
reads_so cfg asker lane server put e for h left bytes got received is x =
    subst (λ (g : Received). Reads asker.head_asked cfg.limits server.ending left (λ more. Begins g (bytes ++ more))) is
    (subst (λ (b : Bool). Reads b cfg.limits server.ending left (λ more. Begins got (bytes ++ more))) h.asked
    (subst (λ (l : Limits). Reads e.asked l server.ending left (λ more. Begins got (bytes ++ more))) for.limits
    (subst (λ (o : Option Ending). Reads e.asked lane.lane.limits o left (λ more. Begins got (bytes ++ more))) h.ending x)))

-- a body that the session reads is one that the lane reads
body_so : (cfg : Config) (asker : Asker) (lane : ResponseLane) (server : Coming) (put : List ℕ) (e : Exchange) → IsFor cfg lane → IsInHand asker lane server put e → (bytes : List ℕ) (got received : Received) → got ≡ received → (read : BodyRead)
    → IsBodyOf cfg.limits received.framing bytes server.ending read → IsBodyOf lane.lane.limits got.framing bytes lane.lane.ended read
body_so cfg asker lane server put e for h bytes got received is read x =
    subst (λ (o : Option Ending). IsBodyOf lane.lane.limits got.framing bytes o read) (sym h.ending)
    (subst (λ (l : Limits). IsBodyOf l got.framing bytes server.ending read) (sym for.limits)
    (subst (λ (f : Framing). IsBodyOf cfg.limits f bytes server.ending read) (sym (ap (λ (g : Received). g.framing) is)) x))

puts_out : (cfg : Config) (asker : Asker) (before : Variables) (lane : ResponseLane) (server : Coming) (put : List ℕ) (now : Variables) (e : Exchange) → IsFor cfg lane → IsInHand asker lane server put e → (r : IsResponse cfg asker before now e)
    → IsAllServed lane e cfg.res_filters (finished_response (meaning_of cfg) asker r.received r.head) (response_framing (replaces cfg.res_filters) asker.is_http_11 r.received.framing) asker.head_asked → PutsOutBody cfg asker before server put now
puts_out cfg asker before lane server put now e for h r all =
    let f = all.follows in
    let got : all.got ≡ r.received = same_pending all.got r.received e.pending f.pending r.pending in
    record {
      heads = e.read;
      left = f.left;
      came = as_server cfg asker lane server put e for h e.read f.left f.came;
      received = r.received;
      bytes = all.bytes;
      reads = reads_so cfg asker lane server put e for h f.left all.bytes all.got r.received got f.reads;
      is_final = r.is_final;
      at = r.at;
      rules = r.rules;
      head = r.head;
      after = r.after;
      text = all.text;
      put_is = sym h.put_is ∙ all.put ∙ ap (λ hs. interim_text hs ++ all.text) h.passed;
      spells = λ read x. all.spells read (body_so cfg asker lane server put e for h all.bytes all.got r.received got read x);
    }

pub body_put_out : (cfg : Config) (side : AnswerSide) (asking : Asking Variables) (server : Coming) (put : List ℕ) (now : Variables) (saying : Saying)
    → ((e : Exchange) (filters : List FilterSpec) (head : Head) (framed : Framing) (no_body : Bool) → Answers side.lane e → phase_of side.lane ≡ phase.Answering → e.last ≡ Serves filters head framed no_body → source_of side.lane ≡ source.Going → HoldsNothingBack side.lane
    → IsAllServed side.lane e filters head framed no_body)
    → AnswerStands cfg side asking server put now saying → side.place ≡ place.Response → (seen side).told ≡ told.Going → side.at_rest ≡ true → output_of side.lane ≡ [] → PutsOutBody cfg (asker_in asking) (answering asking.vars) server put now
body_put_out cfg side asking server put now saying law s response going rest none =
    let asker : Asker = asker_in asking in
    let lane : ResponseLane = side.lane in
    let at : StandsAt place.Response side.status cfg asker (answering asking.vars) lane server put now saying = subst (λ (p : Place). StandsAt p side.status cfg asker (answering asking.vars) lane server put now saying) response s.at in
    let rests : RestsAt place.Response asker.head_asked lane = subst (λ (p : Place). RestsAt p asker.head_asked lane) response (s.rests rest) in
    let goes : source_of lane ≡ source.Going = is_going (source_of lane) (sym (ap (λ (p : Place). told_at p (source_of lane)) response) ∙ going) in
    let out : IsPutOut source.Going lane = subst (λ (src : Source). IsPutOut src lane) goes (rests none) in
    let a = answering_at lane.phase lane at.0 _ _ _ _ refl at.2.shows at.3.last at.1.answers in
    puts_out cfg asker (answering asking.vars) lane server put now at.0 s.for_it at.1 at.3 (law at.0 _ _ _ _ at.1.answers a.0 at.3.last goes out)
