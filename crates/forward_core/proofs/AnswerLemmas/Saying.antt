-- Texts that no server answers.
use Rattle.std.proofs.Common.{◌≡◌, ◌≢◌, ◌⊎◌, inl, inr, ℕ, ◌+◌, ◌<◌, ◌≤◌, nat_lt, List, [], ◌++◌, Bool, true, false, refl, sym, ap, ◌∙◌, append_assoc, length, length-append, arith}
use Rattle.std.proofs.lemmas.Bool.{lt-ltb, le-ltb}
use Rattle.std.proofs.lemmas.List.{append_cancel_left}
use Rattle.http_model.specs.Head.{Head}
use Rattle.http_rules.specs.declared.config.Config.{Config}
use Rattle.forward_core.specs.Meaning.Product.{meaning_of}
use Rattle.session_model.specs.Asking.{Asker}
use Rattle.session_model.specs.Answering.{sent_interim}
use Rattle.session_model.specs.Session.{interim_text}
use Rattle.session_core.specs.History.{Coming}
use Rattle.session_core.specs.Sided.{BeginsAlways, Saying, unsaid}
use Rattle.lane.specs.declared.direction.stage.Stage.{Stage}
use Rattle.lane.specs.declared.direction.stage.Stage.TheVariants as stage
use Rattle.http_model.specs.declared.Source.TheVariants as source
use Rattle.lane.specs.Answering.{Exchange, Answers, AnswersAt, AnswerPromise, HasBegun, MayGoOn, replies, with_put, has_begun, phase_of, stage_of, source_of, output_of, shows_last}
use Rattle.lane.specs.declared.phase.Phase.{Phase}
use Rattle.lane.specs.declared.phase.Phase.TheVariants as phase
use Rattle.lane.specs.declared.response_lane.ResponseLane.{ResponseLane}
use Rattle.forward_core.specs.Answer.Seen.{is_done, answered_at}
use Rattle.forward_core.specs.Answer.Status.{is_status_line, line_status, last_status}
use Rattle.forward_core.specs.Answer.Stands.{IsInHand, IsSaid, BeginsSo, IsUnanswered, list_text}
use Rattle.forward_core.specs.declared.answer.place.Place.{Place}
use Rattle.forward_core.specs.declared.answer.place.Place.TheVariants as place
use Rattle.forward_core.proofs.AnswerLemmas.Texts.{list_goes}
use Rattle.forward_core.proofs.AnswerLemmas.Bodies.{done_is}

-- a list that is said where nothing was put out
pub said_at : (e : Exchange) (head : Head) (body : List ℕ) (no_body : Bool) → is_status_line head.line ≡ true → IsUnanswered e → IsSaid (unsaid (list_text no_body head body)) (replies e head body no_body)
said_at e head body no_body line u =
    record {
      head = head;
      body = body;
      no_body = no_body;
      line = line;
      last = refl;
      text = refl;
      said = ap (λ xs. xs ++ list_text no_body head body) u.put ∙ sym (ap (λ hs. Rattle.lane.specs.Answering.interim_text hs ++ list_text no_body head body) u.passed);
    }

-- so much more of it was put out
pub record Says (lane : ResponseLane) (e : Exchange) (saying : Saying) (put : List ℕ) : Type 0 where
  pub left : List ℕ
  pub said : saying.left ≡ put ++ left
  pub is_said : IsSaid (record saying { left = left }) (with_put e put)
  pub all : is_done (stage_of lane) ≡ true → left ≡ []

pub says : (new : ResponseLane) (e : Exchange) (saying : Saying) (put : List ℕ) → shows_last (phase_of new) ≡ true → Answers new (with_put e put) → AnswerPromise new (with_put e put) → IsSaid saying e → Says new e saying put
says new e saying put shows a promise s =
    let g = list_goes new (with_put e put) s.head s.body s.no_body shows s.last a promise in
    let both : e.put ++ saying.left ≡ e.put ++ (put ++ g.left) = s.said ∙ sym g.said ∙ append_assoc e.put put g.left in
    record {
      left = g.left;
      said = append_cancel_left e.put saying.left (put ++ g.left) both;
      is_said = record { head = s.head; body = s.body; no_body = s.no_body; line = s.line; last = s.last; text = s.text; said = g.said };
      all = λ done. g.sent (done_is (stage_of new) done);
    }

-- the same where nothing more was
pub says_nothing : (lane : ResponseLane) (e : Exchange) (saying : Saying) → shows_last (phase_of lane) ≡ true → Answers lane e → AnswerPromise lane e → IsSaid saying e → is_done (stage_of lane) ≡ true → saying.left ≡ []
says_nothing lane e saying shows a promise s done =
    let g = list_goes lane e s.head s.body s.no_body shows s.last a promise in
    append_cancel_left e.put saying.left g.left (s.said ∙ sym g.said) ∙ g.sent (done_is (stage_of lane) done)

-- ---- whether it has begun

-- nothing was put out yet
pub begins_unsaid : (begun : Bool) (text : List ℕ) → begun ≡ false → begun ≡ nat_lt (length text) (length text)
begins_unsaid begun text off = off ∙ sym (le-ltb (length text) (length text) (omega arith))

-- only a lane that answers has begun
answering_of : (ph : Phase) (lane : ResponseLane) (e : Exchange) → AnswersAt ph lane e → has_begun lane ≡ true → ph ≡ phase.Answering
answering_of phase.Heads lane e a on = absurd (let both : true ≡ false = sym on ∙ a.1 in cc both)
answering_of phase.Passing lane e a on = absurd (let both : true ≡ false = sym on ∙ a.1 in cc both)
answering_of (phase.Turning no_body) lane e a on = absurd (let both : true ≡ false = sym on ∙ a.1 in cc both)
answering_of phase.Answering lane e a on = refl

some_text : (begun : Bool) (text : List ℕ) → begun ≡ true → HasBegun begun text → 0 < length text
some_text true text on h = h
some_text false text on h = absurd (let both : false ≡ true = on in cc both)

-- sizes of what was put out and is left, in front of and behind the interim heads
less_left : (put left front text more : List ℕ) → put ++ left ≡ front ++ text → put ≡ front ++ more → 0 < length more → length left < length text
less_left put left front text more said out some =
    let both : length put + length left ≡ length front + length text = sym (length-append put left) ∙ ap length said ∙ length-append front text in
    let size : length put ≡ length front + length more = ap length out ∙ length-append front more in omega arith

all_left : (put left front text rest : List ℕ) → put ++ left ≡ front ++ text → put ++ rest ≡ front → length text ≤ length left
all_left put left front text rest said out =
    let both : length put + length left ≡ length front + length text = sym (length-append put left) ∙ ap length said ∙ length-append front text in
    let size : length put + length rest ≡ length front = sym (length-append put rest) ∙ ap length out in omega arith

begins_at : (begun : Bool) (lane : ResponseLane) (e : Exchange) (saying : Saying) → has_begun lane ≡ begun → Answers lane e → AnswerPromise lane e → IsSaid saying e → begun ≡ nat_lt (length saying.left) (length saying.text)
begins_at true lane e saying on a promise s =
    let text : List ℕ = list_text s.no_body s.head s.body in
    let last = promise.last (answering_of (phase_of lane) lane e a on) in
    let some : 0 < length last.1 = some_text (has_begun lane) last.1 on last.6 in
    let size : length saying.text ≡ length text = ap length s.text in
    let less : length saying.left < length text = less_left e.put saying.left (Rattle.lane.specs.Answering.interim_text e.passed) text last.1 s.said last.5 some in
    sym (lt-ltb (length saying.left) (length saying.text) (omega arith))
begins_at false lane e saying off a promise s =
    let text : List ℕ = list_text s.no_body s.head s.body in
    let front = promise.interim off in
    let size : length saying.text ≡ length text = ap length s.text in
    let most : length text ≤ length saying.left = all_left e.put saying.left (Rattle.lane.specs.Answering.interim_text e.passed) text front.0 s.said front.1 in
    sym (le-ltb (length saying.left) (length saying.text) (omega arith))

-- what a lane that says a text has put out tells whether it has begun
pub begins_said : (lane : ResponseLane) (e : Exchange) (saying : Saying) → Answers lane e → AnswerPromise lane e → IsSaid saying e → BeginsSo lane saying
begins_said lane e saying a promise s = begins_at (has_begun lane) lane e saying refl a promise s

-- a lane that has all of a list waits for its output to be taken
pub waits_for : (lane : ResponseLane) → source_of lane ≡ source.Whole → MayGoOn lane → output_of lane ≢ []
waits_for lane whole (inl some) = λ none. (let e : length (output_of lane) ≡ 0 = ap length none in omega (arith, some, e))
waits_for lane whole (inr waits) = λ none. (let both : source.Whole ≡ source.Going = sym whole ∙ waits.0 in cc both)

-- ---- in place of the server's answer

-- interim heads, each whole, and this list are to be said
pub record Turned (cfg : Config) (asker : Asker) (server : Coming) (put : List ℕ) (new : ResponseLane) (head : Head) (body : List ℕ) : Type 0 where
  pub e : Exchange
  pub answers : Answers new e
  pub left : List ℕ
  pub last : last_status e.last ≡ line_status head.line
  pub is_said : IsSaid (record { text = list_text asker.head_asked head body; left = left }) e
  pub heads : List Head
  pub said : put ++ left ≡ interim_text (sent_interim asker heads) ++ list_text asker.head_asked head body
  pub begins : BeginsAlways (meaning_of cfg) asker server heads

pub turned : (cfg : Config) (asker : Asker) (lane new : ResponseLane) (server : Coming) (put : List ℕ) (e : Exchange) (head : Head) (body : List ℕ) (no_body : Bool) → is_status_line head.line ≡ true → no_body ≡ asker.head_asked → IsInHand asker lane server put e → shows_last (phase_of new) ≡ true
    → Answers new (replies e head body no_body) → AnswerPromise new (replies e head body no_body) → BeginsAlways (meaning_of cfg) asker server e.read → Turned cfg asker server put new head body
turned cfg asker lane new server put e head body no_body line is h shows a promise begins =
    let g = list_goes new (replies e head body no_body) head body no_body shows refl a promise in
    record {
      e = replies e head body no_body;
      answers = a;
      left = g.left;
      last = refl;
      is_said = record { head = head; body = body; no_body = no_body; line = line; last = refl; text = ap (λ (b : Bool). list_text b head body) (sym is); said = g.said };
      heads = e.read;
      said = ap (λ xs. xs ++ g.left) (sym h.put_is) ∙ g.said ∙ ap (λ hs. interim_text hs ++ list_text no_body head body) h.passed
          ∙ ap (λ (b : Bool). interim_text (sent_interim asker e.read) ++ list_text b head body) is;
      begins = begins;
    }

-- where it is not all out, the lane sends
pub sends_still : (lane : ResponseLane) → (stage_of lane ≡ stage.Sending) ⊎ (stage_of lane ≡ stage.Done) → is_done (stage_of lane) ≡ false → stage_of lane ≡ stage.Sending
sends_still lane (inl sends) off = sends
sends_still lane (inr done) off = absurd (let both : true ≡ false = sym (ap is_done done) ∙ off in cc both)

pub says_at : (at : Place) (st : Stage) → at ≡ place.Saying → answered_at at st ≡ is_done st
says_at at st e = ap (λ (p : Place). answered_at p st) e
