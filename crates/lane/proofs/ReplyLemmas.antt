-- What a reply puts out.
use Rattle.std.proofs.Common.{◌≡◌, ℕ, List, [], ◌∷◌, ◌++◌, Bool, true, false, refl, sym, ap, ◌∙◌, subst, append_assoc}
use Rattle.std.specs.Prelude.{Option, Some, None}
use Rattle.std.proofs.lemmas.List.{append-nil, append_cancel_left}
use Rattle.std.specs.List.{fold}
use Rattle.http_model.specs.declared.Framing.{Framing}
use Rattle.http_model.specs.declared.Framing.TheVariants as framing
use Rattle.http_model.specs.declared.Ending.{Ending}
use Rattle.http_model.specs.declared.Limits.{Limits}
use Rattle.http_model.specs.Head.{Head, Field}
use Rattle.http_model.specs.Reading.{Whole}
use Rattle.http_model.specs.Spelling.{head_text, Spells}
use Rattle.body_filter.specs.Filter.{Filtered}
use Rattle.h1_body.specs.Body.{Over, step, data_in}
use Rattle.h1_body.specs.BodyOf.{BodyRead, Reads, IsBodyOf}
use Rattle.lane.specs.Direction.Promise.{BodyTaken, GoesOnWith, body_sent, finish_of}
use Rattle.lane.specs.Direction.Sends.{Past}
use Rattle.lane.specs.Direction.Sent.{Sent, Finish, message_of, is_whole, trailers_in}
use Rattle.lane.specs.declared.direction.stage.Stage.TheVariants as stage
use Rattle.lane.proofs.DirectionLemmas.PromiseLemmas.{promise}
use Rattle.lane.proofs.DirectionLemmas.StepLemmas.{nothing_over}
use Rattle.lane.specs.Answering.{Exchange, Last, Replies, Answers, AnswersAt, AnswersLast, IsLast, ReplyPromise, reply_text, interim_text, stage_of}
use Rattle.lane.specs.declared.phase.Phase.{Phase}
use Rattle.lane.specs.declared.phase.Phase.TheVariants as phase
use Rattle.lane.specs.declared.response_lane.ResponseLane.{ResponseLane}
use Rattle.lane.proofs.AnswerLemmas.{interim_any}

-- ---- no body comes

over_at : (rest bytes : List ℕ) → fold step (Over rest) bytes ≡ Over (rest ++ bytes)
over_at rest [] = ap Over (sym (append-nil rest))
over_at rest (b ∷ bytes) = over_at (rest ++ b ∷ []) bytes ∙ ap Over (append_assoc rest (b ∷ []) bytes)

no_data : (rest bytes : List ℕ) → data_in (Over rest) bytes ≡ []
no_data rest [] = refl
no_data rest (b ∷ bytes) = no_data (rest ++ b ∷ []) bytes

absent_is : (limits : Limits) (bytes : List ℕ) (ending : Option Ending) → IsBodyOf limits framing.Absent bytes ending (Reads (Whole [] [] bytes))
absent_is limits bytes ending = record { at = Over bytes; found = []; goes = record { place = over_at [] bytes; piece = no_data [] bytes }; tells = refl }

goes_nowhere : (ended : Option Ending) → GoesOnWith ended [] ended
goes_nowhere None = tt
goes_nowhere (Some how) = (refl, refl)

-- ---- its text

-- what is spelled up to the close of the connection is the head, and the body as it is
closes_with : (whole : Bool) (head : Head) (body : List ℕ) (trailers : List Field) (no_body : Bool) (text : List ℕ)
    → Spells whole no_body (record { head = head; framing = framing.ToClose; body = body; trailers = trailers }) text → text ≡ reply_text head body no_body
closes_with whole head body trailers true text s = s.spelled ∙ ap (λ (b : List ℕ). head_text head ++ b) s.spells_body ∙ append-nil (head_text head)
closes_with whole head body trailers false text s = s.spelled ∙ ap (λ (b : List ℕ). head_text head ++ b) s.spells_body

-- so it is in the framing of a declared length
pub framed : (head : Head) (body : List ℕ) (no_body : Bool) (n : ℕ)
    → Spells true no_body (record { head = head; framing = framing.Length n; body = body; trailers = [] }) (reply_text head body no_body)
framed head body true n = record { body = []; spelled = sym (append-nil (head_text head)); spells_body = refl }
framed head body false n = record { body = body; spelled = refl; spells_body = refl }

-- what is sent in the place of an answer
sent_text : (s : Sent) (head : Head) (body b : List ℕ) (no_body : Bool) (finish : Finish) (text : List ℕ)
    → s ≡ record { head = head; given = body; framing = framing.ToClose; no_body = no_body; before = s.before } → b ≡ body
    → Spells (is_whole finish) s.no_body (message_of s b (trailers_in finish)) text → text ≡ reply_text head body no_body
sent_text s head body b no_body finish text is same spelled =
    closes_with (is_whole finish) head body (trailers_in finish) no_body text
    (subst (λ (x : Sent). Spells (is_whole finish) x.no_body (message_of x body (trailers_in finish)) text) is
    (subst (λ (x : List ℕ). Spells (is_whole finish) s.no_body (message_of s x (trailers_in finish)) text) same spelled))

-- ---- the lane

record IsText (lane : ResponseLane) (text : List ℕ) (head : Head) (body : List ℕ) (no_body : Bool) : Type 0 where
  pub rest : List ℕ
  pub front : text ++ rest ≡ reply_text head body no_body
  pub whole : stage_of lane ≡ stage.Done → text ≡ reply_text head body no_body

is_text : (lane : ResponseLane) (p : Exchange) (head : Head) (body : List ℕ) (no_body : Bool) (l : AnswersLast lane p) → IsLast (Replies head body no_body) lane.lane p l.past → IsText lane l.text head body no_body
is_text lane p head body no_body l is =
    let q : Past = l.past in
    let kept = promise lane.lane q l.stands in
    let bytes : List ℕ = q.bytes ++ [] in
    let read : BodyRead = Reads (Whole [] [] bytes) in
    let taken : BodyTaken lane.lane q [] lane.lane.ended read = subst (λ (f : Framing). IsBodyOf lane.lane.limits f bytes lane.lane.ended read) (sym is.2) (absent_is lane.lane.limits bytes lane.lane.ended) in
    let ends = goes_nowhere lane.lane.ended in
    let given : q.sent.given ≡ body = ap (λ (s : Sent). s.given) is.1 in
    let all : body_sent q read ≡ body = ap (λ (f : Filtered). q.sent.given ++ f.output) (nothing_over q.filters) ∙ append-nil q.sent.given ∙ given in
    let front = kept.front l.kept [] lane.lane.ended ends read taken in
    let same : front.0 ≡ l.text = append_cancel_left q.sent.before front.0 l.text (sym front.2 ∙ l.out) in
    record {
      rest = front.1;
      front = ap (λ (t : List ℕ). t ++ front.1) (sym same) ∙ sent_text q.sent head body (body_sent q read) no_body (finish_of q.filters read) (front.0 ++ front.1) is.1 all front.3;
      whole = λ done. (
          let spelled = kept.spelled done l.kept [] lane.lane.ended ends read taken in
          sym (append_cancel_left q.sent.before spelled.0 l.text (sym spelled.1 ∙ l.out)) ∙ sent_text q.sent head body (body_sent q read) no_body (finish_of q.filters read) spelled.0 is.1 all spelled.2);
    }

reply_last : (lane : ResponseLane) (p : Exchange) (head : Head) (body : List ℕ) (no_body : Bool) → p.last ≡ Replies head body no_body → AnswersLast lane p → ReplyPromise lane p head body no_body
reply_last lane p head body no_body e l =
    let t = is_text lane p head body no_body l (subst (λ (last : Last). IsLast last lane.lane p l.past) e l.last) in
    record {
      rest = t.rest;
      front = ap (λ (b : List ℕ). b ++ t.rest) l.put ∙ append_assoc (interim_text p.passed) l.text t.rest ∙ ap (λ (b : List ℕ). interim_text p.passed ++ b) t.front;
      whole = λ done begun. append_cancel_left l.text t.rest [] (t.front ∙ sym (t.whole done) ∙ sym (append-nil l.text));
    }

-- nothing of it was put out
reply_waits : (ph : Phase) (lane : ResponseLane) (p : Exchange) (head : Head) (body : List ℕ) (no_body : Bool) → lane.begun ≡ false → AnswersAt ph lane p → ReplyPromise lane p head body no_body
reply_waits ph lane p head body no_body none a =
    let front = interim_any ph lane p none a in
    record {
      rest = front.0 ++ reply_text head body no_body;
      front = sym (append_assoc p.put front.0 (reply_text head body no_body)) ∙ ap (λ (b : List ℕ). b ++ reply_text head body no_body) front.1;
      whole = λ done begun. absurd (let both : true ≡ false = sym begun ∙ none in cc both);
    }

reply_at : (ph : Phase) (lane : ResponseLane) (p : Exchange) (head : Head) (body : List ℕ) (no_body : Bool) → p.last ≡ Replies head body no_body → AnswersAt ph lane p → ReplyPromise lane p head body no_body
reply_at phase.Heads lane p head body no_body e a = reply_waits phase.Heads lane p head body no_body a.1 a
reply_at phase.Passing lane p head body no_body e a = reply_waits phase.Passing lane p head body no_body a.1 a
reply_at (phase.Turning silent) lane p head body no_body e a = reply_waits (phase.Turning silent) lane p head body no_body a.1 a
reply_at phase.Answering lane p head body no_body e a = reply_last lane p head body no_body e a

pub reply_promise : (lane : ResponseLane) (p : Exchange) (head : Head) (body : List ℕ) (no_body : Bool) → Answers lane p → p.last ≡ Replies head body no_body → ReplyPromise lane p head body no_body
reply_promise lane p head body no_body a e = reply_at lane.phase lane p head body no_body e a
