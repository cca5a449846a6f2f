-- The text of a list that a lane puts out in place of a response.
use Rattle.std.proofs.Common.{◌≡◌, ℕ, List, [], ◌∷◌, ◌++◌, Bool, true, false, refl, sym, ap, ◌∙◌, subst, append_assoc, arith, cond}
use Rattle.std.specs.Prelude.{Option, Some, None, zero, suc, nat_le}
use Rattle.std.proofs.lemmas.List.{append-nil, append_cancel_left}
use Rattle.http_model.specs.declared.Ending.{Ending}
use Rattle.http_model.specs.declared.Framing.{Framing}
use Rattle.http_model.specs.declared.Framing.TheVariants as framing
use Rattle.http_model.specs.declared.Limits.{Limits}
use Rattle.http_model.specs.Head.{Head}
use Rattle.http_model.specs.Reading.{Whole}
use Rattle.http_model.specs.Spelling.{Spells, head_text}
use Rattle.body_filter.specs.declared.filter_spec.FedState.TheVariants.{Over, Refused}
use Rattle.body_filter.specs.declared.filter_spec.FilterSpec.{FilterSpec}
use Rattle.body_filter.specs.declared.filter_spec.FilterSpec.TheVariants.{Limit, Deny, Replace}
use Rattle.body_filter.specs.Filter.{Filtered, searched, ended, joined, through, filtered, filtered_by}
use Rattle.h1_body.specs.Body.{Over as OverAt, Goes}
use Rattle.h1_body.specs.BodyOf.{BodyRead, Reads, IsBodyOf}
use Rattle.lane.specs.Direction.Sent.{Sent, Ends, SpellsAs, IsFrontOf, message_of}
use Rattle.lane.specs.Direction.Sends.{Past, put_out}
use Rattle.lane.specs.Direction.Promise.{Promise, BodyTaken, GoesOnWith, ends_as}
use Rattle.lane.specs.declared.direction.lane.Lane.{Lane}
use Rattle.lane.specs.declared.direction.stage.Stage.TheVariants as stage
use Rattle.lane.specs.Answering.{Exchange, Last, Answers, AnswersAt, AnswerPromise, IsLast, HasBegun, Replies, interim_text, phase_of, has_begun, stage_of, shows_last}
use Rattle.lane.specs.declared.phase.Phase.{Phase}
use Rattle.lane.specs.declared.phase.Phase.TheVariants as phase
use Rattle.lane.specs.declared.response_lane.ResponseLane.{ResponseLane}
use Rattle.forward_core.specs.Answer.Stands.{list_text}

-- ---- filters of a body without bytes

least : (n : ℕ) → nat_le 0 n ≡ true
least n = grind arith

nothing_by : (f : FilterSpec) → filtered_by f true [] ≡ ended Over
unfolding searched
nothing_by (Limit zero) = refl
nothing_by (Limit (suc n)) = let F : Bool → Filtered = λ t. record { output = []; state = cond t Over (Refused 413) } in ap F (least (suc n))
nothing_by (Deny needle) = refl
nothing_by (Replace from to) = refl

pub nothing : (fs : List FilterSpec) → filtered fs true [] ≡ ended Over
unfolding filtered
nothing [] = refl
nothing (f ∷ fs) =
    ap (λ (x : Filtered). through x (filtered fs)) (nothing_by f) ∙ ap (λ (x : Filtered). let y : Filtered = record { output = x.output; state = joined Over x.state } in y) (nothing fs)

-- ---- a body without framing is none

over_goes : (rest front : List ℕ) → Goes (OverAt front) rest (OverAt (front ++ rest)) []
over_goes [] front = record { place = ap OverAt (sym (append-nil front)); piece = refl }
over_goes (b ∷ rest) front =
    let g = over_goes rest (front ++ b ∷ []) in
    record { place = g.place ∙ ap OverAt (append_assoc front (b ∷ []) rest); piece = g.piece }

none_read : (limits : Limits) (framed : Framing) (bytes : List ℕ) (end : Option Ending) → framed ≡ framing.Absent → IsBodyOf limits framed bytes end (Reads (Whole [] [] bytes))
none_read limits framed bytes end e =
    subst (λ (f : Framing). IsBodyOf limits f bytes end (Reads (Whole [] [] bytes))) (sym e) (record { at = OverAt bytes; found = []; goes = over_goes bytes []; tells = refl })

nothing_more : (ended_ : Option Ending) → GoesOnWith ended_ [] ended_
nothing_more None = tt
nothing_more (Some how) = (refl, refl)

-- ---- the text

-- so much of the text of a list is left
pub record ListGoes (lane : ResponseLane) (e : Exchange) (text : List ℕ) : Type 0 where
  pub left : List ℕ
  pub said : e.put ++ left ≡ interim_text e.passed ++ text
  pub sent : stage_of lane ≡ stage.Done → left ≡ []
  pub began : has_begun lane ≡ true → (byte : ℕ) × (more : List ℕ) × (e.put ≡ interim_text e.passed ++ byte ∷ more)

pub some_bytes : (begun : Bool) (text : List ℕ) → HasBegun begun text → begun ≡ true → (byte : ℕ) × (more : List ℕ) × (text ≡ byte ∷ more)
some_bytes true [] h e = absurd (omega (arith, h))
some_bytes true (x ∷ xs) h e = (x, xs, refl)
some_bytes false text h e = absurd (let both : false ≡ true = e in cc both)

pub no_more : (xs ys zs : List ℕ) → xs ++ ys ≡ zs → xs ≡ zs → ys ≡ []
no_more xs ys zs e f = append_cancel_left xs ys [] (e ∙ sym f ∙ sym (append-nil xs))

abbrev list_sent : Head → List ℕ → Bool → List ℕ → Sent
list_sent head body no_body before = record { head = head; given = body; framing = framing.ToClose; no_body = no_body; before = before }

spelled_list : (head : Head) (body before : List ℕ) (no_body : Bool) (text : List ℕ) → Spells true no_body (message_of (list_sent head body no_body before) (body ++ []) []) text → text ≡ list_text no_body head body
spelled_list head body before true text s = s.spelled ∙ ap (λ xs. head_text head ++ xs) s.spells_body ∙ append-nil (head_text head)
spelled_list head body before false text s = s.spelled ∙ ap (λ xs. head_text head ++ xs) (s.spells_body ∙ append-nil body)

-- what a lane that puts a list out promises of it
record ListSpelled (lane : Lane) (q : Past) (text whole : List ℕ) : Type 0 where
  pub left : List ℕ
  pub all : text ++ left ≡ whole
  pub sent : lane.stage ≡ stage.Done → left ≡ []

list_spelled : (lane : Lane) (q : Past) (text : List ℕ) (head : Head) (body : List ℕ) (no_body : Bool) → Promise lane q → lane.dropped ≡ false → q.reads ≡ framing.Absent
    → q.sent ≡ list_sent head body no_body q.sent.before → put_out lane q ≡ q.sent.before ++ text → ListSpelled lane q text (list_text no_body head body)
list_spelled lane q text head body no_body promise kept absent is out =
    let bytes : List ℕ = q.bytes ++ [] in
    let read : BodyRead = Reads (Whole [] [] bytes) in
    let taken : BodyTaken lane q [] lane.ended read = none_read lane.limits q.reads bytes lane.ended absent in
    let S : Sent = list_sent head body no_body q.sent.before in
    let front : IsFrontOf S (body ++ []) (Ends []) (put_out lane q) =
    subst (λ (s : Sent). IsFrontOf s (s.given ++ []) (Ends []) (put_out lane q)) is
    (subst (λ (f : Filtered). IsFrontOf q.sent (q.sent.given ++ f.output) (ends_as f.state []) (put_out lane q)) (nothing q.filters) (promise.front kept [] lane.ended (nothing_more lane.ended) read taken)) in
    let same : front.0 ≡ text = append_cancel_left q.sent.before front.0 text (sym front.2 ∙ out) in
    let all : front.0 ++ front.1 ≡ list_text no_body head body = spelled_list head body q.sent.before no_body (front.0 ++ front.1) front.3 in
    record {
      left = front.1;
      all = ap (λ xs. xs ++ front.1) (sym same) ∙ all;
      sent = λ done.
          let spelled : SpellsAs S (body ++ []) (Ends []) (put_out lane q) =
          subst (λ (s : Sent). SpellsAs s (s.given ++ []) (Ends []) (put_out lane q)) is
          (subst (λ (f : Filtered). SpellsAs q.sent (q.sent.given ++ f.output) (ends_as f.state []) (put_out lane q)) (nothing q.filters) (promise.spelled done kept [] lane.ended (nothing_more lane.ended) read taken)) in
          let whole : spelled.0 ≡ text = append_cancel_left q.sent.before spelled.0 text (sym spelled.1 ∙ out) in
          no_more front.0 front.1 (list_text no_body head body) all (same ∙ sym whole ∙ spelled_list head body q.sent.before no_body spelled.0 spelled.2);
    }

goes_at : (ph : Phase) (lane : ResponseLane) (e : Exchange) (head : Head) (body : List ℕ) (no_body : Bool) → lane.phase ≡ ph → shows_last ph ≡ true → e.last ≡ Replies head body no_body
    → AnswersAt ph lane e → AnswerPromise lane e → ListGoes lane e (list_text no_body head body)
goes_at phase.Heads lane e head body no_body at shows last a promise = absurd (let both : false ≡ true = shows in cc both)
goes_at phase.Passing lane e head body no_body at shows last a promise = absurd (let both : false ≡ true = shows in cc both)
goes_at (phase.Turning silent) lane e head body no_body at shows last a promise =
    let text : List ℕ = list_text no_body head body in
    let rest = promise.interim a.1 in
    record {
      left = rest.0 ++ text;
      said = sym (append_assoc e.put rest.0 text) ∙ ap (λ xs. xs ++ text) rest.1;
      sent = λ done. absurd (let both : stage.Sending ≡ stage.Done = sym a.0.stage ∙ done in cc both);
      began = λ begun. absurd (let both : false ≡ true = sym a.1 ∙ begun in cc both);
    }
goes_at phase.Answering lane e head body no_body at shows last a promise =
    let text : List ℕ = list_text no_body head body in
    let now = promise.last at in
    let is : IsLast (Replies head body no_body) lane.lane e now.0 = subst (λ (l : Last). IsLast l lane.lane e now.0) last now.3 in
    let l : ListSpelled lane.lane now.0 now.1 text = list_spelled lane.lane now.0 now.1 head body no_body now.2 a.kept is.2 is.1 now.4 in
    record {
      left = l.left;
      said = ap (λ xs. xs ++ l.left) now.5 ∙ append_assoc (interim_text e.passed) now.1 l.left ∙ ap (λ xs. interim_text e.passed ++ xs) l.all;
      sent = l.sent;
      began = λ begun. let some = some_bytes lane.begun now.1 now.6 begun in (some.0, some.1, now.5 ∙ ap (λ xs. interim_text e.passed ++ xs) some.2);
    }

-- the text of a list, as far as the lane has put it out
pub list_goes : (lane : ResponseLane) (e : Exchange) (head : Head) (body : List ℕ) (no_body : Bool) → shows_last (phase_of lane) ≡ true → e.last ≡ Replies head body no_body
    → Answers lane e → AnswerPromise lane e → ListGoes lane e (list_text no_body head body)
list_goes lane e head body no_body shows last a promise = goes_at lane.phase lane e head body no_body refl shows last a promise
