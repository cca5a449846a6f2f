-- What a lane's heads and body make of the answer direction.
use Rattle.std.proofs.Common.{◌≡◌, ℕ, ◌<◌, suc, zero, List, [], ◌∷◌, ◌++◌, Bool, true, false, not, length, sym, ap, subst, ◌∙◌, refl, append_assoc, arith, map, if◌then◌else◌}
use Rattle.std.proofs.lemmas.Grind.{flat_map-append}
use Rattle.std.proofs.lemmas.List.{map-append}
use Rattle.http_model.specs.declared.Ending.{Ending}
use Rattle.http_model.specs.Head.{Head}
use Rattle.http_model.specs.Finish.{finish_interim}
use Rattle.http_model.specs.Reading.{Received, HeadReading}
use Rattle.http_model.specs.Reading as reading
use Rattle.http_model.specs.Spelling.{head_text}
use Rattle.session_model.specs.Stream.{Stream}
use Rattle.session_model.specs.Env.{Env, Verdict, Pass, Reply, Deny, Fail, Amended, Edited, response_env}
use Rattle.session_model.specs.Env as env
use Rattle.session_model.specs.Meaning.{Meaning, is_interim}
use Rattle.session_model.specs.Asking.{Asker}
use Rattle.session_model.specs.Amending.{refusal_sent, reply_sent, plain_refusal}
use Rattle.session_model.specs.Answering.{Final, Refuses, Replies, Answers, Plain, Answered, AnswersFrom, AnswersReading, AnswersBy, AnswersWith, AnswersAmended, BeginsWithInterim, sent_interim, answer_by, response_declares_too_much, response_fits}
use Rattle.session_model.specs.Session.{SpellsFinal, interim_text}
use Rattle.session_core.specs.History.{Coming, Continues, IsPrefix, prepend}
use Rattle.session_core.specs.Sided.{Asking, asker_in, AnswerGoes, Interims}
use Rattle.session_core.specs.Lanes.{HeadsPassed, LastSo, AnswerBody, IsTotalAnswers}
use Rattle.session_core.specs.declared.Told.{Told}
use Rattle.session_core.specs.declared.Told.TheVariants as told
use Rattle.session_core.specs.Splits.{Splits}
use Rattle.session_core.proofs.Consequences.{split_past}
use Rattle.session_core.proofs.Exists.{spelling_exists}

-- ---- every stream of a server is answered

-- what a server's bytes answer, with a text of the last
pub record AnswerExists (M : Meaning) (asker : Asker) (before : M.Vars) (bytes : List ℕ) (ending : Ending) : Type 0 where
  pub heads : List Head
  pub final : Final M.Vars
  pub begins : BeginsWithInterim M asker heads bytes (λ rest. (head : HeadReading) × M.reads_response asker.head_asked rest head × AnswersReading M asker before ending head final)
  pub text : List ℕ
  pub spelled : SpellsFinal M asker final text

final_exists : (M : Meaning) (asker : Asker) (f : Final M.Vars) → (text : List ℕ) × SpellsFinal M asker f text
final_exists M asker (Refuses code method vars) = spelling_exists true asker.head_asked (refusal_sent M code method vars)
final_exists M asker (Replies m method vars) = spelling_exists true asker.head_asked (reply_sent M m method vars asker.keep)
final_exists M asker (Answers m cut vars) = spelling_exists (not cut) asker.head_asked m
final_exists M asker Plain = spelling_exists true asker.head_asked plain_refusal

alone : (M : Meaning) (asker : Asker) (before : M.Vars) (bytes : List ℕ) (ending : Ending) (head : HeadReading) (final : Final M.Vars)
    → M.reads_response asker.head_asked bytes head → AnswersReading M asker before ending head final → AnswerExists M asker before bytes ending
alone M asker before bytes ending head final reads answers =
    let t : (text : List ℕ) × SpellsFinal M asker final text = final_exists M asker final in
    record { heads = []; final = final; begins = (head, reads, answers); text = t.0; spelled = t.1 }

edited_exists : (M : Meaning) → IsTotalAnswers M → (asker : Asker) (received : Received) (rest : Stream) (head : Head) (vars : M.Vars) (fits : Bool)
    → response_fits M asker received head ≡ fits → (final : Final M.Vars) × AnswersAmended M asker received rest (Edited head vars) final
edited_exists M total asker received rest head vars false f = (Plain, rw f refl)
edited_exists M total asker received rest head vars true f =
    let b = total.bodies received.framing rest.bytes rest.ending in
    (answer_by M asker received head vars b.0, rw f (b.0, b.1, refl))

amended_exists : (M : Meaning) → IsTotalAnswers M → (asker : Asker) (received : Received) (rest : Stream) (x : Amended M.Vars) → (final : Final M.Vars) × AnswersAmended M asker received rest x final
amended_exists M total asker received rest (Edited head vars) = edited_exists M total asker received rest head vars (response_fits M asker received head) refl
amended_exists M total asker received rest env.Plain = (Plain, refl)

with_exists : (M : Meaning) → IsTotalAnswers M → (asker : Asker) (received : Received) (rest : Stream) (at : Env M.Vars) (long : Bool)
    → response_declares_too_much M received ≡ long → (final : Final M.Vars) × AnswersWith M asker received rest at final
with_exists M total asker received rest at true l = (Refuses 502 asker.method at.vars, rw l refl)
with_exists M total asker received rest at false l = let x = amended_exists M total asker received rest (M.after_rules at) in (x.0, rw l x.1)

by_exists : (M : Meaning) → IsTotalAnswers M → (asker : Asker) (received : Received) (rest : Stream) (v : Verdict M.Vars) → (final : Final M.Vars) × AnswersBy M asker received rest v final
by_exists M total asker received rest (Deny code at) = (Refuses code asker.method at.vars, refl)
by_exists M total asker received rest (Fail why at) = (Refuses 500 asker.method at.vars, refl)
by_exists M total asker received rest (Reply m at) = (Replies m asker.method at.vars, refl)
by_exists M total asker received rest (Pass at) = with_exists M total asker received rest at (response_declares_too_much M received) refl

head_answers : (M : Meaning) → IsTotalAnswers M → (asker : Asker) (before : M.Vars) (bytes : List ℕ) (ending : Ending) (r : HeadReading) → M.reads_response asker.head_asked bytes r
    → ((received : Received) (rest : List ℕ) → M.reads_response asker.head_asked bytes (reading.Begins received rest) → AnswerExists M asker before rest ending) → AnswerExists M asker before bytes ending
head_answers M total asker before bytes ending reading.Nothing reads on = alone M asker before bytes ending reading.Nothing (Refuses 502 asker.method before) reads refl
head_answers M total asker before bytes ending (reading.Refused code) reads on = alone M asker before bytes ending (reading.Refused code) (Refuses 502 asker.method before) reads refl
head_answers M total asker before bytes ending (reading.Begins received rest) reads on = by (is_interim received.head) refl
  where
    by : (interim : Bool) → is_interim received.head ≡ interim → AnswerExists M asker before bytes ending
    by true is =
        let x : AnswerExists M asker before rest ending = on received rest reads in
        record { heads = received.head ∷ x.heads; final = x.final; begins = (received, rest, reads, is, refl, x.begins); text = x.text; spelled = x.spelled }
    by false is =
        let a = by_exists M total asker received (record { bytes = rest; ending = ending }) (M.response_rules (response_env before asker.method received.head)) in
        alone M asker before bytes ending (reading.Begins received rest) a.0 reads (is, a.1)

answers_within : (M : Meaning) → IsTotalAnswers M → (n : ℕ) (asker : Asker) (before : M.Vars) (bytes : List ℕ) (ending : Ending) → length bytes < n → AnswerExists M asker before bytes ending
answers_within M total zero asker before bytes ending short = absurd (omega (arith, short))
answers_within M total (suc n) asker before bytes ending short =
    let r = total.heads asker.head_asked bytes in
    head_answers M total asker before bytes ending r.0 r.1
    (λ received rest reads. answers_within M total n asker before rest ending (omega (arith, total.shorter asker.head_asked bytes received rest reads, short)))

answer_exists : (M : Meaning) → IsTotalAnswers M → (asker : Asker) (before : M.Vars) (bytes : List ℕ) (ending : Ending) → AnswerExists M asker before bytes ending
answer_exists M total asker before bytes ending = answers_within M total (suc (length bytes)) asker before bytes ending (omega arith)

-- ---- interim heads

-- heads in front of what follows them
begins_on : (M : Meaning) (asker : Asker) (heads more : List Head) (bytes behind : List ℕ) (P : List ℕ → Type 0)
    → BeginsWithInterim M asker heads bytes (λ rest. rest ≡ behind) → BeginsWithInterim M asker more behind P → BeginsWithInterim M asker (heads ++ more) bytes P
begins_on M asker [] more bytes behind P h m = let Q : List ℕ → Type 0 = λ b. BeginsWithInterim M asker more b P in subst Q (sym h) m
begins_on M asker (head ∷ heads) more bytes behind P h m = (h.0, h.1, h.2, h.3, h.4, begins_on M asker heads more h.1 behind P h.5 m)

begins_only : (M : Meaning) (asker : Asker) (heads : List Head) (bytes behind : List ℕ) → BeginsWithInterim M asker heads bytes (λ rest. rest ≡ behind) → BeginsWithInterim M asker heads bytes (λ rest. Unit {0})
begins_only M asker [] bytes behind h = tt
begins_only M asker (head ∷ heads) bytes behind h = (h.0, h.1, h.2, h.3, h.4, begins_only M asker heads h.1 behind h.5)

interim_on : (asker : Asker) (heads more : List Head) → interim_text (sent_interim asker (heads ++ more)) ≡ interim_text (sent_interim asker heads) ++ interim_text (sent_interim asker more)
interim_on asker heads more = by asker.is_http_11
  where
    by : (eleven : Bool) → interim_text (if eleven then map finish_interim (heads ++ more) else []) ≡ interim_text (if eleven then map finish_interim heads else []) ++ interim_text (if eleven then map finish_interim more else [])
    by true = ap (λ hs. interim_text hs) (map-append finish_interim heads more) ∙ flat_map-append head_text (map finish_interim heads) (map finish_interim more)
    by false = refl

-- ---- the answer

answer_open : (M : Meaning) (asking : Asking M.Vars) (server left : Coming) (heads : List Head) (used put : List ℕ) (now : M.Vars)
    → HeadsPassed M (asker_in asking) server heads used left → IsPrefix put (interim_text (sent_interim (asker_in asking) heads))
    → (stream : Stream) (s : Splits used left stream) → AnswerExists M (asker_in asking) (M.answering asking.vars) s.rest.bytes s.rest.ending → AnswerGoes M told.Going false false asking put now stream
answer_open M asking server left heads used put now h front stream s x =
    let asker : Asker = asker_in asking in
    let more : List ℕ = interim_text (sent_interim asker x.heads) ++ x.text in
    let a : Answered M.Vars = record { interim = sent_interim asker (heads ++ x.heads); final = x.final } in
    let from : AnswersFrom M asker asking.vars (prepend used s.rest) a =
    record {
      heads = heads ++ x.heads;
      interim = refl;
      final = begins_on M asker heads x.heads (used ++ s.rest.bytes) s.rest.bytes _ (h.begins s.rest s.continues) x.begins;
    } in
    let P : Stream → Type 0 = λ st. AnswersFrom M asker asking.vars st a in
    record {
      answered = a;
      answers = subst P (sym s.is) from;
      final = x.text;
      spelled = x.spelled;
      front = (
        front.0 ++ more,
        sym (append_assoc put front.0 more) ∙ ap (λ xs. xs ++ more) front.1
            ∙ sym (append_assoc (interim_text (sent_interim asker heads)) (interim_text (sent_interim asker x.heads)) x.text)
            ∙ ap (λ xs. xs ++ x.text) (sym (interim_on asker heads x.heads)),
      );
      told = tt;
      sent = λ e. absurd (grind (arith, e));
      began = λ e. absurd (grind (arith, e));
    }

-- until a final head has come: whatever comes, what was put out is a front of its answer
pub answers_open : (M : Meaning) → IsTotalAnswers M → (asking : Asking M.Vars) (server left : Coming) (heads : List Head) (used put : List ℕ) (now : M.Vars)
    → HeadsPassed M (asker_in asking) server heads used left → IsPrefix put (interim_text (sent_interim (asker_in asking) heads))
    → (stream : Stream) → Continues server stream → AnswerGoes M told.Going false false asking put now stream
answers_open M total asking server left heads used put now h front stream c =
    let s : Splits used left stream = split_past used left server stream h.server_is c in
    answer_open M asking server left heads used put now h front stream s (answer_exists M total (asker_in asking) (M.answering asking.vars) s.rest.bytes s.rest.ending)

-- and the client got interim heads alone
pub interims_so : (M : Meaning) (asker : Asker) (server left : Coming) (heads : List Head) (used put : List ℕ)
    → HeadsPassed M asker server heads used left → IsPrefix put (interim_text (sent_interim asker heads)) → Interims M asker server put
interims_so M asker server left heads used put h front =
    record {
      heads = heads;
      begins = λ stream c.
          let s : Splits used left stream = split_past used left server stream h.server_is c in
          let P : Stream → Type 0 = λ st. BeginsWithInterim M asker heads st.bytes (λ rest. Unit {0}) in
          subst P (sym s.is) (begins_only M asker heads (used ++ s.rest.bytes) s.rest.bytes (h.begins s.rest s.continues));
      front = front;
    }

last_goes : (M : Meaning) (asking : Asking M.Vars) (heads : List Head) (used put : List ℕ) (so : Told) (now : M.Vars) (all begun : Bool) (stream rest : Stream)
    → stream ≡ prepend used rest → BeginsWithInterim M (asker_in asking) heads (used ++ rest.bytes) (λ bytes. bytes ≡ rest.bytes)
    → LastSo M (asker_in asking) (M.answering asking.vars) (interim_text (sent_interim (asker_in asking) heads)) so now all begun put rest → AnswerGoes M so all begun asking put now stream
last_goes M asking heads used put so now all begun stream rest is begins l =
    let a : Answered M.Vars = record { interim = sent_interim (asker_in asking) heads; final = l.last } in
    let P : List ℕ → Type 0 = λ bytes. (head : HeadReading) × M.reads_response (asker_in asking).head_asked bytes head × AnswersReading M (asker_in asking) (M.answering asking.vars) rest.ending head l.last in
    let from : AnswersFrom M (asker_in asking) asking.vars (prepend used rest) a =
    record { heads = heads; interim = refl; final = at_end M (asker_in asking) heads (used ++ rest.bytes) rest.bytes P begins (l.head, l.reads, l.answers) } in
    let Q : Stream → Type 0 = λ st. AnswersFrom M (asker_in asking) asking.vars st a in
    record { answered = a; answers = subst Q (sym is) from; final = l.text; spelled = l.spelled; front = l.front; told = l.told; sent = l.sent; began = l.began }
  where
    at_end : (M : Meaning) (asker : Asker) (heads : List Head) (bytes behind : List ℕ) (P : List ℕ → Type 0)
        → BeginsWithInterim M asker heads bytes (λ rest. rest ≡ behind) → P behind → BeginsWithInterim M asker heads bytes P
    at_end M asker [] bytes behind P h p = subst P (sym h) p
    at_end M asker (head ∷ heads) bytes behind P h p = (h.0, h.1, h.2, h.3, h.4, at_end M asker heads h.1 behind P h.5 p)

-- a last that answers behind interim heads
pub answers_last : (M : Meaning) (asking : Asking M.Vars) (server left : Coming) (heads : List Head) (used put : List ℕ) (so : Told) (now : M.Vars) (all begun : Bool)
    → HeadsPassed M (asker_in asking) server heads used left
    → ((rest : Stream) → Continues left rest → LastSo M (asker_in asking) (M.answering asking.vars) (interim_text (sent_interim (asker_in asking) heads)) so now all begun put rest)
    → (stream : Stream) → Continues server stream → AnswerGoes M so all begun asking put now stream
answers_last M asking server left heads used put so now all begun h last stream c =
    let s : Splits used left stream = split_past used left server stream h.server_is c in
    last_goes M asking heads used put so now all begun stream s.rest s.is (h.begins s.rest s.continues) (last s.rest s.continues)

-- A final head, rules that pass, a length within the limits, a finished head that fits, and a body are such a last.
pub body_is_last : (M : Meaning) (asker : Asker) (before : M.Vars) (interim : List ℕ) (received : Received) (at : Env M.Vars) (head : Head) (vars now : M.Vars) (so : Told) (all begun : Bool) (put more : List ℕ) (rest : Stream)
    → is_interim received.head ≡ false → M.reads_response asker.head_asked (more ++ rest.bytes) (reading.Begins received rest.bytes)
    → M.response_rules (response_env before asker.method received.head) ≡ Pass at → response_declares_too_much M received ≡ false
    → M.after_rules at ≡ Edited head vars → response_fits M asker received head ≡ true
    → AnswerBody M asker interim received head vars so now all begun put rest
    → LastSo M asker before interim so now all begun put (prepend more rest)
body_is_last M asker before interim received at head vars now so all begun put more rest final reads rules short after fits b =
    let with_it : AnswersWith M asker received rest at (answer_by M asker received head vars b.body) = rw short (rw after (rw fits (b.body, b.reads, refl))) in
    record {
      last = answer_by M asker received head vars b.body;
      head = reading.Begins received rest.bytes;
      reads = reads;
      answers = (final, rw rules with_it);
      text = b.text;
      spelled = b.spelled;
      front = b.front;
      told = b.told;
      sent = b.sent;
      began = b.began;
    }
