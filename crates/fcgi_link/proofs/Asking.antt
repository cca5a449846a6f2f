-- What counts as written to a link that asks an application, write by write.
use Rattle.std.proofs.Common.{◌≡◌, ℕ, ◌<◌, ◌^◌, ◌-◌, ◌==◌, inl, inr, Bool, not, List, [], ◌++◌, length, take, true, false, refl, sym, ap, subst, ◌∙◌, append_assoc, arith}
use Rattle.std.specs.Prelude.{Option, option_map}
use Rattle.std.proofs.lemmas.List.{append-nil, take_all}
use Rattle.std.proofs.lemmas.Bool.{cases_lt, false≢true, ne_eqb}
use Rattle.px_link.specs.Calls.{fault_after}
use Rattle.px_link.specs.Told.{Rose}
use Rattle.px_link.specs.Link.{Seen, SameInput, Took, WriteFailed, AsksBy, AsksFront}
use Rattle.fcgi_model.specs.Application.{Application}
use Rattle.fcgi_model.specs.Flow.{asked_of, IsSent}
use Rattle.fcgi_lane.specs.Request.Stands.{Translating, Stands}
use Rattle.fcgi_lane.specs.Answer.Stands.{left_in}
use Rattle.fcgi_lane.specs.Answer.Cgi.{HttpStream}
use Rattle.fcgi_link.specs.Asking.{AsksSeen, AnswersSeen, has_failed, seen_asking, WroteAsking, IsUnread}

-- ---- the link below

pub unread_both : (s t u : Seen) → IsUnread s t → IsUnread t u → IsUnread s u
unread_both s t u p q = record { to_come = q.to_come ∙ p.to_come; closed = q.closed ∙ p.closed; plain = q.plain ∙ p.plain; manner = q.manner ∙ p.manner }

pub unread_by : (s t : Seen) → SameInput s t → IsUnread s t
unread_by s t i = record { to_come = i.to_come; closed = i.closed; plain = i.kind.plain; manner = i.kind.manner }

-- what a link tells that asks an application, behind writes
input_asking : (old new : AsksSeen) (answers : AnswersSeen) (s t : Seen) (m n : ℕ) → new.translating.application ≡ old.translating.application → IsUnread s t
    → SameInput (seen_asking old.translating.application answers m s) (seen_asking new.translating.application answers n t)
input_asking old new answers s t m n same u = record {
  to_come = ap (λ (come : Option (List ℕ)). option_map (λ (x : HttpStream). x.bytes) (option_map (left_in answers.translating) come)) u.to_come;
  taken = refl;
  kind = record {
    ending = ap (λ (come : Option (List ℕ)). option_map (λ (x : HttpStream). x.ending) (option_map (left_in answers.translating) come)) u.to_come;
    plain = u.plain;
    takes = refl;
    manner = ap (λ (a : Application). (seen_asking a answers n t).manner) same;
  };
  closed = u.closed;
  reads = refl;
}

-- ---- records that were written

-- the records of this text are written from a link below where these were, and what follows changes nothing but these
abbrev pub Sends : Translating → (wrote_old : List ℕ → Type 0) → Translating → (wrote_new : List ℕ → Type 0) → Type 0
Sends a wrote_old b wrote_new = (given text : List ℕ) → Stands a given text → wrote_old given → (more : List ℕ) × Stands b (given ++ more) text × wrote_new (given ++ more)

pub sends_kept : (a b : Translating) (v w x : List ℕ → Type 0) → Sends a v b w → ((bytes : List ℕ) → w bytes → x bytes) → Sends a v b x
sends_kept a b v w x f k given text s h = let done = f given text s h in (done.0, done.1, k (given ++ done.0) done.2)

pub sends_more : (a b c : Translating) (v w x : List ℕ → Type 0) (out : List ℕ) → Sends a v b w → ((given text : List ℕ) → Stands b given text → Stands c (given ++ out) text)
    → ((bytes : List ℕ) → w bytes → x (bytes ++ out)) → Sends a v c x
sends_more a b c v w x out f g k given text s h =
    let done = f given text s h in
    let all : (given ++ done.0) ++ out ≡ given ++ (done.0 ++ out) = append_assoc given done.0 out in (
      done.0 ++ out,
      subst (λ (l : List ℕ). Stands c l text) all (g (given ++ done.0) text done.1),
      subst x all (k (given ++ done.0) done.2),
    )

-- ---- a piece

unfailed : (asks : AsksSeen) → asks.faults ≡ 0 → has_failed asks ≡ false
unfailed asks e = ap (λ (n : ℕ). not (n == 0)) e

asks_all : (application : Application) (failed : Bool) (given text : List ℕ) → failed ≡ false → IsSent (asked_of application text) given → AsksBy application failed given text
asks_all application true given text e h = absurd (false≢true (sym e))
asks_all application false given text e h = h

asks_front : (application : Application) (failed : Bool) (given text : List ℕ) → failed ≡ true → AsksFront application given text → AsksBy application failed given text
asks_front application true given text e h = h
asks_front application false given text e h = absurd (false≢true e)

rose : (before now : ℕ) → before < 2 ^ 64 → now ≡ fault_after before → Rose before now
rose before now below is =
    elim (cases_lt before (2 ^ 64 - 1)) [
      | inl less ↦ inl (omega (arith, less, is))
      | inr not_less ↦ inr (omega (arith, not_less, is))
    ]

has_risen : (n : ℕ) → 0 < n → not (n == 0) ≡ true
has_risen n h = ap not (ne_eqb n 0 (λ e. omega (arith, h, e)))

-- all records that a piece asks were written
pub took : (old new : AsksSeen) (answers : AnswersSeen) (fed : Translating) (v w : List ℕ → Type 0) (s t : Seen) (piece : List ℕ) → 0 < length piece → old.stopped ≡ false → old.faults ≡ 0 → new.faults ≡ old.faults
    → new.translating.left ≡ [] → new.translating.application ≡ old.translating.application
    → ((given text : List ℕ) → Stands old.translating given text → Stands fed given (text ++ piece)) → Sends fed v new.translating w → IsUnread s t
    → Took (WroteAsking old v) (WroteAsking new w) (seen_asking old.translating.application answers old.faults s) (seen_asking new.translating.application answers new.faults t) piece (length piece)
took old new answers fed v w s t piece some going none faults nothing same feeds sends unread = record {
  some = some;
  within = omega arith;
  wrote = λ text h.
      let done = sends h.given (text ++ piece) (feeds h.given text (h.stands going)) h.written in
      let all : text ++ piece ≡ text ++ take (length piece) piece = ap (λ (l : List ℕ). text ++ l) (sym (take_all (length piece) piece (omega arith))) in
      let sent : IsSent (asked_of new.translating.application (text ++ piece)) (h.given ++ done.0) =
      subst (λ (l : List ℕ). IsSent (asked_of new.translating.application (text ++ piece)) l) (ap (λ (l : List ℕ). (h.given ++ done.0) ++ l) nothing ∙ append-nil (h.given ++ done.0)) done.1.now.1 in
      let whole : WroteAsking new w (text ++ piece) = record {
        given = h.given ++ done.0;
        written = done.2;
        passed = asks_all new.translating.application (has_failed new) (h.given ++ done.0) (text ++ piece) (unfailed new (faults ∙ none)) sent;
        stands = λ _. done.1;
      } in
      subst (WroteAsking new w) all whole;
  limit = λ _ _. tt;
  input = input_asking old new answers s t old.faults new.faults same unread;
  writes = faults;
}

-- a write of the link below failed, or it wanted memory behind some of the records
pub write_failed : (old new : AsksSeen) (answers : AnswersSeen) (fed : Translating) (v w : List ℕ → Type 0) (s t : Seen) (piece : List ℕ) → old.stopped ≡ false → new.stopped ≡ true → old.faults < 2 ^ 64
    → new.faults ≡ fault_after old.faults → new.translating.application ≡ old.translating.application
    → ((given text : List ℕ) → Stands old.translating given text → Stands fed given (text ++ piece)) → Sends fed v new.translating w → IsUnread s t
    → WriteFailed (WroteAsking old v) (WroteAsking new w) (seen_asking old.translating.application answers old.faults s) (seen_asking new.translating.application answers new.faults t)
write_failed old new answers fed v w s t piece going stopped below faults same feeds sends unread = record {
  rose = rose old.faults new.faults below faults;
  never_falls = omega (arith, below, faults);
  full = λ _ _. tt;
  never = λ e. cc;
  wrote = λ text h.
      let done = sends h.given (text ++ piece) (feeds h.given text (h.stands going)) h.written in
      record {
        given = h.given ++ done.0;
        written = done.2;
        passed = asks_front new.translating.application (has_failed new) (h.given ++ done.0) text (has_risen new.faults (omega (arith, faults)))
            (record { more = piece; rest = new.translating.left; sent = done.1.now.1 });
        stands = λ e. absurd (false≢true (sym e ∙ stopped));
      };
  input = input_asking old new answers s t old.faults new.faults same unread;
}

-- ---- by what was there

abbrev Wrote : (old new : AsksSeen) → (v w : List ℕ → Type 0) → (s t : Seen) → AnswersSeen → ((v w : List ℕ → Type 0) → Seen → Seen → Type 0) → Type 0
Wrote old new v w s t answers P = P (WroteAsking old v) (WroteAsking new w) (seen_asking old.translating.application answers old.faults s) (seen_asking new.translating.application answers new.faults t)

pub by_these : (o n old new : AsksSeen) (v w : List ℕ → Type 0) (s t : Seen) (answers : AnswersSeen) (P : (v w : List ℕ → Type 0) → Seen → Seen → Type 0) → old ≡ o → new ≡ n
    → P (WroteAsking o v) (WroteAsking n w) (seen_asking o.translating.application answers o.faults s) (seen_asking n.translating.application answers n.faults t)
    → P (WroteAsking old v) (WroteAsking new w) (seen_asking old.translating.application answers old.faults s) (seen_asking new.translating.application answers new.faults t)
by_these o n old new v w s t answers P is now h =
    subst (λ (x : AsksSeen). Wrote x new v w s t answers P) (sym is) (subst (λ (x : AsksSeen). Wrote o x v w s t answers P) (sym now) h)
