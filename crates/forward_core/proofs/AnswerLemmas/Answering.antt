-- What an answer direction that stands for its past has put out.
use Rattle.std.proofs.Common.{◌≡◌, ℕ, List, [], ◌∷◌, ◌++◌, Bool, true, false, refl, sym, ap, ◌∙◌, subst, append_assoc}
use Rattle.std.specs.Prelude.{Option, Some, None}
use Rattle.std.proofs.lemmas.List.{append-nil}
use Rattle.http_model.specs.declared.Ending.{Ending}
use Rattle.http_model.specs.declared.Framing.{Framing}
use Rattle.http_model.specs.declared.Limits.{Limits}
use Rattle.http_model.specs.Head.{Head}
use Rattle.http_model.specs.Reading.{BodyReading, Received, Begins}
use Rattle.body_filter.specs.declared.filter_spec.FilterSpec.{FilterSpec}
use Rattle.h1_head.specs.Response.{ResponseOf}
use Rattle.h1_body.specs.BodyOf.{BodyOf}
use Rattle.px_sample.specs.Variables.{Variables}
use Rattle.http_rules.specs.declared.config.Config.{Config}
use Rattle.http_rules.specs.Lives.{answering}
use Rattle.forward_core.specs.Meaning.Product.{meaning_of}
use Rattle.session_model.specs.Stream.{Stream}
use Rattle.session_model.specs.Asking.{Asker}
use Rattle.session_model.specs.Answering.{sent_interim}
use Rattle.session_model.specs.Session.{interim_text}
use Rattle.session_core.specs.History.{Coming, Continues, IsPrefix, prepend}
use Rattle.session_core.specs.Sided.{Asking, asker_in, AnswerGoes, Interims, IsTold, BeginsAlways, Saying}
use Rattle.session_core.specs.Lanes.{LastSo, IsTotalAnswers}
use Rattle.session_core.specs.declared.Told.{Told}
use Rattle.session_core.specs.declared.Told.TheVariants as told
use Rattle.session_core.specs.Splits.{Splits}
use Rattle.session_core.proofs.PublicLaws.{split_past, answers_open, answers_last, interims_so, body_is_last}
use Rattle.lane.specs.Direction.Promise.{Promise}
use Rattle.lane.specs.Direction.Sends.{Past, Stands}
use Rattle.http_model.specs.declared.Source.{Source}
use Rattle.http_model.specs.declared.Source.TheVariants as source
use Rattle.lane.specs.Answering.{Exchange, BeginsWithInterim, Last, Answers, AnswersAt, AnswersLast, AnswerPromise, IsLast, HeadsCame, Reads, NotYet, Serves, Replies, phase_of, has_begun, stage_of, source_of, shows_last}
use Rattle.lane.specs.declared.phase.Phase.{Phase}
use Rattle.lane.specs.declared.phase.Phase.TheVariants as phase
use Rattle.lane.specs.declared.response_lane.ResponseLane.{ResponseLane}
use Rattle.forward_core.specs.Answer.Seen.{told_by, is_done, told_at, answered_at, is_last}
use Rattle.forward_core.specs.Answer.Stands.{IsInHand, IsResponse, IsInstead, IsFor, Decides, StandsAt, AnswerStands, list_text, is_serving}
use Rattle.forward_core.specs.declared.answer.place.Place.{Place}
use Rattle.forward_core.specs.declared.answer.place.Place.TheVariants as place
use Rattle.forward_core.specs.declared.answer.side.AnswerSide.{AnswerSide}
use Rattle.forward_core.proofs.AnswerLemmas.Heads.{More, more_of, as_session, Came, came, response_end}
use Rattle.forward_core.proofs.AnswerLemmas.Texts.{ListGoes, list_goes, some_bytes}
use Rattle.forward_core.proofs.AnswerLemmas.Bodies.{Serving, body_goes, done_is}

-- ---- while no final head has come

unbegun_at : (ph : Phase) (lane : ResponseLane) (e : Exchange) → e.last ≡ NotYet → AnswersAt ph lane e → lane.begun ≡ false
unbegun_at phase.Heads lane e last a = a.1
unbegun_at phase.Passing lane e last a = a.1
unbegun_at (phase.Turning no_body) lane e last a = a.1
unbegun_at phase.Answering lane e last a = absurd (subst (λ (l : Last). IsLast l lane.lane e a.past) last a.last)

-- an answer has not begun before a final head came
pub unbegun : (lane : ResponseLane) (e : Exchange) → e.last ≡ NotYet → Answers lane e → has_begun lane ≡ false
unbegun lane e last a = unbegun_at lane.phase lane e last a

pub as_server : (cfg : Config) (asker : Asker) (lane : ResponseLane) (server : Coming) (put : List ℕ) (e : Exchange) → IsFor cfg lane → IsInHand asker lane server put e → (heads : List Head) (left : List ℕ)
    → HeadsCame e.asked lane.lane.limits lane.lane.ended heads e.bytes left → HeadsCame asker.head_asked cfg.limits server.ending heads server.bytes left
as_server cfg asker lane server put e for h heads left x =
    subst (λ (a : Bool). HeadsCame a cfg.limits server.ending heads server.bytes left) h.asked
    (subst (λ (l : Limits). HeadsCame e.asked l server.ending heads server.bytes left) for.limits
    (subst (λ (o : Option Ending). HeadsCame e.asked lane.lane.limits o heads server.bytes left) h.ending
    (subst (λ (xs : List ℕ). HeadsCame e.asked lane.lane.limits lane.lane.ended heads xs left) h.bytes x)))

-- the interim heads that came, in the words of the session
pub heads_came : (cfg : Config) (asker : Asker) (lane : ResponseLane) (server : Coming) (put : List ℕ) (e : Exchange) → IsFor cfg lane → IsInHand asker lane server put e → AnswerPromise lane e
    → (left : List ℕ) × HeadsCame asker.head_asked cfg.limits server.ending e.read server.bytes left
heads_came cfg asker lane server put e for h promise = (promise.came.0, as_server cfg asker lane server put e for h e.read promise.came.0 promise.came.1)

-- while the last hasn't begun, the client got a front of the interim heads
pub interim_front : (asker : Asker) (lane : ResponseLane) (server : Coming) (put : List ℕ) (e : Exchange) → IsInHand asker lane server put e → AnswerPromise lane e → has_begun lane ≡ false
    → IsPrefix put (interim_text (sent_interim asker e.read))
interim_front asker lane server put e h promise none =
    let rest = promise.interim none in
    (rest.0, ap (λ xs. xs ++ rest.0) (sym h.put_is) ∙ rest.1 ∙ ap (λ hs. interim_text hs) h.passed)

-- ---- a list in place of the response

-- what was put out of a list that answers
list_last : (cfg : Config) (asker : Asker) (before : Variables) (lane : ResponseLane) (server : Coming) (put : List ℕ) (e : Exchange) (so : Told) (now : Variables) → IsInHand asker lane server put e
    → (i : IsInstead cfg asker before server so now e) → ListGoes lane e (list_text asker.head_asked i.head i.body)
    → (rest : Stream) → Decides (meaning_of cfg) asker before so now (list_text asker.head_asked i.head i.body) rest
    → LastSo (meaning_of cfg) asker before (interim_text (sent_interim asker e.read)) so now (is_done (stage_of lane)) (has_begun lane) put rest
list_last cfg asker before lane server put e so now h i g rest d =
    let text : List ℕ = list_text asker.head_asked i.head i.body in
    let said : put ++ g.left ≡ interim_text (sent_interim asker e.read) ++ text =
    ap (λ xs. xs ++ g.left) (sym h.put_is) ∙ g.said ∙ ap (λ hs. interim_text hs ++ text) h.passed in
    record {
      last = d.last;
      head = d.head;
      reads = d.reads;
      answers = d.answers;
      text = text;
      spelled = d.spelled;
      front = (g.left, said);
      told = d.told;
      sent = λ done. sym (append-nil put) ∙ ap (λ xs. put ++ xs) (sym (g.sent (done_is (stage_of lane) done))) ∙ said;
      began = λ b. let some = g.began b in (some.0, some.1, sym h.put_is ∙ some.2 ∙ ap (λ hs. interim_text hs ++ some.0 ∷ some.1) h.passed);
    }

-- so it is for a refusal, and for a reply behind which the connection is kept
instead_closes : (cfg : Config) (asking : Asking Variables) (lane : ResponseLane) (server : Coming) (put : List ℕ) (e : Exchange) (now : Variables) → IsFor cfg lane → IsInHand (asker_in asking) lane server put e
    → shows_last (phase_of lane) ≡ true → AnswerPromise lane e → IsInstead cfg (asker_in asking) (answering asking.vars) server told.Closes now e
    → (stream : Stream) → Continues server stream → AnswerGoes (meaning_of cfg) told.Closes (is_done (stage_of lane)) (has_begun lane) asking put now stream
instead_closes cfg asking lane server put e now for h shows promise i stream c =
    let asker : Asker = asker_in asking in
    let g = list_goes lane e i.head i.body asker.head_asked shows i.last h.answers promise in
    let heads : Came cfg asker server e.read i.left = came cfg asker server e.read i.left (subst (λ (xs : List ℕ). HeadsCame asker.head_asked cfg.limits server.ending e.read xs i.left) h.bytes i.came) in
    answers_last (meaning_of cfg) asking server (record { bytes = i.left; ending = server.ending }) e.read heads.used put told.Closes now (is_done (stage_of lane)) (has_begun lane) heads.passed
    (λ rest cr. list_last cfg asker (answering asking.vars) lane server put e told.Closes now h i g rest (i.decides rest cr)) stream c

instead_keeps : (cfg : Config) (asking : Asking Variables) (lane : ResponseLane) (server : Coming) (put : List ℕ) (e : Exchange) (now : Variables) → IsFor cfg lane → IsInHand (asker_in asking) lane server put e
    → shows_last (phase_of lane) ≡ true → AnswerPromise lane e → IsInstead cfg (asker_in asking) (answering asking.vars) server told.Whole now e
    → (stream : Stream) → Continues server stream → AnswerGoes (meaning_of cfg) told.Whole (is_done (stage_of lane)) (has_begun lane) asking put now stream
instead_keeps cfg asking lane server put e now for h shows promise i stream c =
    let asker : Asker = asker_in asking in
    let g = list_goes lane e i.head i.body asker.head_asked shows i.last h.answers promise in
    let heads : Came cfg asker server e.read i.left = came cfg asker server e.read i.left (subst (λ (xs : List ℕ). HeadsCame asker.head_asked cfg.limits server.ending e.read xs i.left) h.bytes i.came) in
    answers_last (meaning_of cfg) asking server (record { bytes = i.left; ending = server.ending }) e.read heads.used put told.Whole now (is_done (stage_of lane)) (has_begun lane) heads.passed
    (λ rest cr. list_last cfg asker (answering asking.vars) lane server put e told.Whole now h i g rest (i.decides rest cr)) stream c

-- ---- the server's response

-- what a lane knows of the response that goes out, with the server's bytes behind its head
pub record ResponseGoes (cfg : Config) (asker : Asker) (received : Received) (head : Head) (interim put : List ℕ) (lane : ResponseLane) (server : Coming) (read : List Head) : Type 0 where
  pub past : Past
  pub text : List ℕ
  pub left : List ℕ
  pub stands : Stands lane.lane past
  pub came : HeadsCame asker.head_asked cfg.limits server.ending read server.bytes left
  pub reads : Reads asker.head_asked cfg.limits server.ending left (λ more. Begins received (past.bytes ++ more))
  pub serving : Serving cfg asker received head interim put (has_begun lane) lane.lane past text

pub same_pending : (a b : Received) (o : Option Received) → o ≡ Some a → o ≡ Some b → a ≡ b
same_pending a b o e f = let P : Option Received → Received = λ o. by o in ap P (sym e ∙ f)
  where
    by : Option Received → Received
    by None = a
    by (Some x) = x

pub response_goes : (cfg : Config) (asker : Asker) (before : Variables) (lane : ResponseLane) (server : Coming) (put : List ℕ) (e : Exchange) (now : Variables) → IsFor cfg lane → IsInHand asker lane server put e
    → AnswersLast lane e → ((q : Past) → Stands lane.lane q → Promise lane.lane q) → (r : IsResponse cfg asker before now e)
    → ResponseGoes cfg asker r.received r.head (interim_text (sent_interim asker e.read)) put lane server e.read
response_goes cfg asker before lane server put e now for h a promise r =
    let is = subst (λ (l : Last). IsLast l lane.lane e a.past) r.last a.last in
    let got : is.0 ≡ r.received = same_pending is.0 r.received e.pending is.2 r.pending in
    let left : List ℕ = is.1 in
    record {
      past = a.past;
      text = a.text;
      left = left;
      stands = a.stands;
      came = as_server cfg asker lane server put e for h e.read left is.3;
      reads = subst (λ (g : Received). Reads asker.head_asked cfg.limits server.ending left (λ more. Begins g (a.past.bytes ++ more))) got
          (subst (λ (b : Bool). Reads b cfg.limits server.ending left (λ more. Begins is.0 (a.past.bytes ++ more))) h.asked
          (subst (λ (l : Limits). Reads e.asked l server.ending left (λ more. Begins is.0 (a.past.bytes ++ more))) for.limits
          (subst (λ (o : Option Ending). Reads e.asked lane.lane.limits o left (λ more. Begins is.0 (a.past.bytes ++ more))) h.ending is.4)));
      serving = record {
        limits = for.limits;
        promise = promise a.past a.stands;
        kept = a.kept;
        framed = is.5 ∙ ap (λ (g : Received). g.framing) got;
        filters = is.7;
        sent = is.6;
        out = a.out;
        put_is = sym h.put_is ∙ a.put ∙ ap (λ hs. interim_text hs ++ a.text) h.passed;
        began = some_bytes (has_begun lane) a.text a.begun;
      };
    }

-- where a body has a reading, it is the last
response_last : (cfg : Config) (asker : Asker) (before : Variables) (lane : ResponseLane) (server : Coming) (put : List ℕ) (e : Exchange) (now : Variables) → IsInHand asker lane server put e
    → (r : IsResponse cfg asker before now e) (g : ResponseGoes cfg asker r.received r.head (interim_text (sent_interim asker e.read)) put lane server e.read)
    → (rest : Stream) (used : List ℕ) (behind : Stream) → rest ≡ prepend used behind → g.left ≡ used ++ g.past.bytes → Continues (record { bytes = g.past.bytes; ending = server.ending }) behind
    → (body : BodyReading) → BodyOf cfg.limits r.received.framing behind.bytes behind.ending body
    → LastSo (meaning_of cfg) asker before (interim_text (sent_interim asker e.read)) (told_by (source_of lane)) now (is_done (stage_of lane)) (has_begun lane) put rest
response_last cfg asker before lane server put e now h r g rest used behind is left c body reads =
    let interim : List ℕ = interim_text (sent_interim asker e.read) in
    let m : More server.ending g.past.bytes behind = more_of server.ending g.past.bytes behind c in
    let m_lane : More lane.lane.ended g.past.bytes behind = subst (λ (o : Option Ending). More o g.past.bytes behind) (sym h.ending) m in
    let text : g.left ++ m.more ≡ used ++ behind.bytes = ap (λ xs. xs ++ m.more) left ∙ append_assoc used g.past.bytes m.more ∙ ap (λ xs. used ++ xs) (sym m.bytes) in
    let head : ResponseOf asker.head_asked cfg.limits (used ++ behind.bytes) (Begins r.received behind.bytes) =
    subst (λ (xs : List ℕ). ResponseOf asker.head_asked cfg.limits (used ++ behind.bytes) (Begins r.received xs)) (sym m.bytes)
    (subst (λ (xs : List ℕ). ResponseOf asker.head_asked cfg.limits xs (Begins r.received (g.past.bytes ++ m.more))) text (g.reads m.more m.over)) in
    subst (λ (s : Stream). LastSo (meaning_of cfg) asker before interim (told_by (source_of lane)) now (is_done (stage_of lane)) (has_begun lane) put s) (sym is)
    (body_is_last (meaning_of cfg) asker before interim r.received r.at r.head now now (told_by (source_of lane)) (is_done (stage_of lane)) (has_begun lane) put used behind r.is_final head r.rules r.short r.after r.fits
    (body_goes cfg asker r.received r.head now interim put (has_begun lane) lane.lane g.past g.text g.serving behind m_lane body reads))

response_answers : (cfg : Config) (asking : Asking Variables) (lane : ResponseLane) (server : Coming) (put : List ℕ) (e : Exchange) (now : Variables) → IsTotalAnswers (meaning_of cfg)
    → IsFor cfg lane → IsInHand (asker_in asking) lane server put e → AnswersLast lane e → ((q : Past) → Stands lane.lane q → Promise lane.lane q) → IsResponse cfg (asker_in asking) (answering asking.vars) now e
    → (stream : Stream) → Continues server stream → AnswerGoes (meaning_of cfg) (told_by (source_of lane)) (is_done (stage_of lane)) (has_begun lane) asking put now stream
response_answers cfg asking lane server put e now total for h a promises r stream c =
    let asker : Asker = asker_in asking in
    let g : ResponseGoes cfg asker r.received r.head (interim_text (sent_interim asker e.read)) put lane server e.read = response_goes cfg asker (answering asking.vars) lane server put e now for h a promises r in
    let heads : Came cfg asker server e.read g.left = came cfg asker server e.read g.left g.came in
    let now_reads : ResponseOf asker.head_asked cfg.limits g.left (Begins r.received g.past.bytes) =
    subst (λ (xs : List ℕ). ResponseOf asker.head_asked cfg.limits g.left (Begins r.received xs)) (append-nil g.past.bytes)
    (subst (λ (xs : List ℕ). ResponseOf asker.head_asked cfg.limits xs (Begins r.received (g.past.bytes ++ []))) (append-nil g.left) (g.reads [] (λ e. refl))) in
    let used = response_end asker.head_asked cfg.limits g.left r.received g.past.bytes now_reads in
    let C : List ℕ → Coming = λ xs. record { bytes = xs; ending = server.ending } in
    answers_last (meaning_of cfg) asking server (C g.left) e.read heads.used put (told_by (source_of lane)) now (is_done (stage_of lane)) (has_begun lane) heads.passed
    (λ rest cr.
    let s : Splits used.0 (C g.past.bytes) rest = split_past used.0 (C g.past.bytes) (C g.left) rest (ap C used.1) cr in
    let body = total.bodies r.received.framing s.rest.bytes s.rest.ending in
    response_last cfg asker (answering asking.vars) lane server put e now h r g rest used.0 s.rest s.is used.1 s.continues body.0 body.1) stream c

-- ---- the whole

pub answering_at : (ph : Phase) (lane : ResponseLane) (e : Exchange) (filters : List FilterSpec) (head : Head) (framing : Framing) (no_body : Bool) → lane.phase ≡ ph → shows_last ph ≡ true → e.last ≡ Serves filters head framing no_body
    → AnswersAt ph lane e → (lane.phase ≡ phase.Answering) × AnswersLast lane e
answering_at phase.Heads lane e filters head framing no_body at shows last a = absurd (let both : false ≡ true = shows in cc both)
answering_at phase.Passing lane e filters head framing no_body at shows last a = absurd (let both : false ≡ true = shows in cc both)
answering_at (phase.Turning silent) lane e filters head framing no_body at shows last a = absurd (let both : Serves filters head framing no_body ≡ Replies a.3.0 a.3.1 silent = sym last ∙ a.3.2 in cc both)
answering_at phase.Answering lane e filters head framing no_body at shows last a = (at, a)

settled : (src : Source) → (src ≡ source.Going → ⊥) → IsTold (told_by src)
settled source.Going off = off refl
settled source.Whole off = tt
settled (source.Cut code) off = tt

done_told : (lane : ResponseLane) (e : Exchange) → AnswersLast lane e → is_done (stage_of lane) ≡ true → IsTold (told_by (source_of lane))
done_told lane e a done = settled lane.lane.source (a.stands.done (done_is lane.lane.stage done))

pub so_at : (at : Place) (status : Option ℕ) (cfg : Config) (asking : Asking Variables) (lane : ResponseLane) (server : Coming) (put : List ℕ) (now : Variables) (saying : Saying) → IsTotalAnswers (meaning_of cfg)
    → ((e : Exchange) → Answers lane e → AnswerPromise lane e) → ((q : Past) → Stands lane.lane q → Promise lane.lane q) → IsFor cfg lane → is_serving at ≡ true → StandsAt at status cfg (asker_in asking) (answering asking.vars) lane server put now saying
    → (answered_at at (stage_of lane) ≡ true → IsTold (told_at at (source_of lane)))
    × ((stream : Stream) → Continues server stream → AnswerGoes (meaning_of cfg) (told_at at (source_of lane)) (answered_at at (stage_of lane)) (has_begun lane) asking put now stream)
so_at place.Idle status cfg asking lane server put now saying total promise promises for serves s = absurd (let both : false ≡ true = serves in cc both)
so_at place.Saying status cfg asking lane server put now saying total promise promises for serves s = absurd (let both : false ≡ true = serves in cc both)
so_at place.Heads status cfg asking lane server put now saying total promise promises for serves s =
    let e : Exchange = s.0 in
    let none : has_begun lane ≡ false = unbegun lane e s.2 s.1.answers in
    let left = heads_came cfg (asker_in asking) lane server put e for s.1 (promise e s.1.answers) in
    let heads : Came cfg (asker_in asking) server e.read left.0 = came cfg (asker_in asking) server e.read left.0 left.1 in (
      λ answered. absurd (let both : false ≡ true = answered in cc both),
      λ stream c. subst (λ (b : Bool). AnswerGoes (meaning_of cfg) told.Going false b asking put now stream) (sym none)
          (answers_open (meaning_of cfg) total asking server (record { bytes = left.0; ending = server.ending }) e.read heads.used put now heads.passed
          (interim_front (asker_in asking) lane server put e s.1 (promise e s.1.answers) none) stream c),
    )
so_at place.Response status cfg asking lane server put now saying total promise promises for serves s =
    let e : Exchange = s.0 in
    let a = answering_at lane.phase lane e _ _ _ _ refl s.2.shows s.3.last s.1.answers in
    (done_told lane e a.1, response_answers cfg asking lane server put e now total for s.1 a.1 promises s.3)
so_at place.Closing status cfg asking lane server put now saying total promise promises for serves s =
    (λ answered. tt, instead_closes cfg asking lane server put s.0 now for s.1 s.2.shows (promise s.0 s.1.answers) s.3)
so_at place.Keeping status cfg asking lane server put now saying total promise promises for serves s =
    (λ answered. tt, instead_keeps cfg asking lane server put s.0 now for s.1 s.2.shows (promise s.0 s.1.answers) s.3)

pub in_hand_at : (at : Place) (status : Option ℕ) (cfg : Config) (asking : Asking Variables) (lane : ResponseLane) (server : Coming) (put : List ℕ) (now : Variables) (saying : Saying) → is_serving at ≡ true
    → StandsAt at status cfg (asker_in asking) (answering asking.vars) lane server put now saying → (e : Exchange) × IsInHand (asker_in asking) lane server put e
in_hand_at place.Idle status cfg asking lane server put now saying serves s = absurd (let both : false ≡ true = serves in cc both)
in_hand_at place.Heads status cfg asking lane server put now saying serves s = (s.0, s.1)
in_hand_at place.Response status cfg asking lane server put now saying serves s = (s.0, s.1)
in_hand_at place.Closing status cfg asking lane server put now saying serves s = (s.0, s.1)
in_hand_at place.Keeping status cfg asking lane server put now saying serves s = (s.0, s.1)
in_hand_at place.Saying status cfg asking lane server put now saying serves s = absurd (let both : false ≡ true = serves in cc both)

pub before_at : (cfg : Config) (side : AnswerSide) (asking : Asking Variables) (server : Coming) (put : List ℕ) (now : Variables) (saying : Saying) → ((e : Exchange) → Answers side.lane e → AnswerPromise side.lane e)
    → is_serving side.place ≡ true → has_begun side.lane ≡ false → AnswerStands cfg side asking server put now saying → Interims (meaning_of cfg) (asker_in asking) server put
before_at cfg side asking server put now saying promise serves none s =
    let h = in_hand_at side.place side.status cfg asking side.lane server put now saying serves s.at in
    let left = heads_came cfg (asker_in asking) side.lane server put h.0 s.for_it h.1 (promise h.0 h.1.answers) in
    let heads : Came cfg (asker_in asking) server h.0.read left.0 = came cfg (asker_in asking) server h.0.read left.0 left.1 in
    interims_so (meaning_of cfg) (asker_in asking) server (record { bytes = left.0; ending = server.ending }) h.0.read heads.used put heads.passed
    (interim_front (asker_in asking) side.lane server put h.0 h.1 (promise h.0 h.1.answers) none)

-- the server's stream begins with the heads that were read, however it goes on
pub begins_with : (cfg : Config) (asker : Asker) (lane : ResponseLane) (server : Coming) (put : List ℕ) (e : Exchange) → IsFor cfg lane → IsInHand asker lane server put e → AnswerPromise lane e
    → BeginsAlways (meaning_of cfg) asker server e.read
begins_with cfg asker lane server put e for h promise =
    let left = heads_came cfg asker lane server put e for h promise in
    λ stream c.
    let m = more_of server.ending server.bytes stream c in
    as_session cfg asker e.read stream.bytes (λ b. b ≡ left.0 ++ m.more) (λ b. Unit {0}) (λ b is. tt)
    (subst (λ (xs : List ℕ). BeginsWithInterim asker.head_asked cfg.limits e.read xs (λ b. b ≡ left.0 ++ m.more)) (sym m.bytes) (left.1 m.more m.over))

-- a server answers where the last goes out
pub last_serves : (at : Place) → is_last at ≡ true → is_serving at ≡ true
last_serves place.Idle e = absurd (let both : false ≡ true = e in cc both)
last_serves place.Heads e = refl
last_serves place.Response e = refl
last_serves place.Closing e = refl
last_serves place.Keeping e = refl
last_serves place.Saying e = absurd (let both : false ≡ true = e in cc both)
