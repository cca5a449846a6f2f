-- The answer direction in work.
use Rattle.std.proofs.Common.{◌≡◌, ◌≢◌, ℕ, List, [], ◌∷◌, ◌++◌, Bool, true, false, Option, Some, None, sym, ap, subst, ◌∙◌, refl, append_assoc, arith}
use Rattle.std.proofs.lemmas.List.{append-nil}
use Rattle.http_model.specs.declared.Ending.{Ending}
use Rattle.http_model.specs.Reading.{Received}
use Rattle.http_model.specs.Spelling.{Spells}
use Rattle.session_model.specs.Meaning.{Meaning}
use Rattle.session_core.specs.History.{Past, Connect, connected}
use Rattle.session_core.specs.Sided.{Sided, asker_in, RequestSeen, AnswerSeen, AnswersSo, unsaid}
use Rattle.session_core.specs.Stands.{Serves, IsOpenServer, Refusing, InPhase, Holds}
use Rattle.session_core.specs.Leads.{StepsAnswer, Says, Refuses}
use Rattle.http_model.specs.declared.Source.{Source}
use Rattle.session_core.specs.declared.machine.At.{At}
use Rattle.session_core.specs.declared.Phase.{Phase}
use Rattle.session_core.specs.declared.Phase.TheVariants as phase
use Rattle.session_core.proofs.Said.{unserved_sent, not_there}
use Rattle.session_core.proofs.Working.{holds_with, in_serving}

-- ---- the answer of a server

-- what is seen of an open server behind a step of its answer
answer_open : {so : Source} {sent dropped awaits : Bool} {window : List ℕ} {was is : Bool} {ending : Option Ending} {received : Received} → is ≡ was
    → IsOpenServer so sent dropped awaits window was ending received → IsOpenServer so sent dropped awaits window is ending received
answer_open same h = record { is_open = same ∙ h.is_open; settled = h.settled; drops = h.drops; waits = h.waits }

answer_serves : (M : Meaning) (S : Sided M → Type 0) (q : RequestSeen) (a b : AnswerSeen) (p : Sided M) (cut : Option Bool) → cut ≢ Some false
    → (st : StepsAnswer M S a b p) → Serves M q a p cut → Serves M q b (record p { to_client = p.to_client ++ st.put; now = st.behind }) cut
answer_serves M S q a b p None other st h = (h.0, st.answers, h.2, st.before h.3)
answer_serves M S q a b p (Some true) other st h = (h.0, st.answers, h.2, h.3, st.began h.4)
answer_serves M S q a b p (Some false) other st h = absurd (other refl)

answers_in : (M : Meaning) (q : RequestSeen) (a : AnswerSeen) (p : Sided M) (cut : Option Bool) → cut ≢ Some false → Serves M q a p cut → AnswersSo M a p
answers_in M q a p None other h = h.1
answers_in M q a p (Some true) other h = h.1
answers_in M q a p (Some false) other h = absurd (other refl)

-- what the step needs
pub answers_of : (M : Meaning) (at : At) (q : RequestSeen) (a : AnswerSeen) (p : Sided M) (past : Past)
    → at.phase ≡ phase.Serving → at.cut ≢ Some false → Holds M at q a p past → AnswersSo M a p
answers_of M at q a p past is other h =
    let P : Phase → Type 0 = λ ph. InPhase M q a p h.hand at.cut h.now ph in
    let serving : InPhase M q a p h.hand at.cut h.now phase.Serving = subst P is h.phase in
    answers_in M q a p at.cut other serving.2.2

pub answers_on : (M : Meaning) (S : Sided M → Type 0) (at : At) (q : RequestSeen) (a b : AnswerSeen) (p : Sided M) (past : Past)
    → at.phase ≡ phase.Serving → at.cut ≢ Some false → b.is_open ≡ a.is_open → (st : StepsAnswer M S a b p)
    → Holds M at q a p past → Holds M at q b (record p { to_client = p.to_client ++ st.put; now = st.behind }) (record past { note = at.cut })
answers_on M S at q a b p past is other opened st h =
    in_serving M at at q q a b p (record p { to_client = p.to_client ++ st.put; now = st.behind }) past st.put is is refl refl refl refl refl st.window
    (λ now c s. (s.0, s.1, answer_serves M S q a b p at.cut other st s.2, answer_open opened s.3, s.4)) h

-- ---- what is said in its place

said_on : (to_client put left saying text : List ℕ) → saying ≡ put ++ left → to_client ++ saying ≡ text → (to_client ++ put) ++ left ≡ text
said_on to_client put left saying text e h = append_assoc to_client put left ∙ ap (λ xs. to_client ++ xs) (sym e) ∙ h

says_serves : (M : Meaning) (S : Sided M → Type 0) (q : RequestSeen) (a b : AnswerSeen) (p : Sided M) (cut : Option Bool) → cut ≡ Some false
    → (st : Says M S a b p) → Serves M q a p cut → Serves M q b (record p { to_client = p.to_client ++ st.put; saying = record p.saying { left = st.left } }) cut
says_serves M S q a b p cut is st h =
    let P : Option Bool → Type 0 = λ c. Serves M q a p c in
    let Q : Option Bool → Type 0 = λ c. Serves M q b (record p { to_client = p.to_client ++ st.put; saying = record p.saying { left = st.left } }) c in
    let t : Serves M q a p (Some false) = subst P is h in
    subst Q (sym is) (
      t.0,
      t.1,
      t.2,
      record {
        heads = t.3.heads;
        begins = t.3.begins;
        spelled = t.3.spelled;
        said = said_on p.to_client st.put st.left p.saying.left _ st.saying t.3.said;
        sent = st.all;
      },
    )

pub says_turned : (M : Meaning) (S : Sided M → Type 0) (at : At) (q : RequestSeen) (a b : AnswerSeen) (p : Sided M) (past : Past)
    → at.phase ≡ phase.Serving → at.cut ≡ Some false → b.is_open ≡ a.is_open → (st : Says M S a b p)
    → Holds M at q a p past → Holds M at q b (record p { to_client = p.to_client ++ st.put; saying = record p.saying { left = st.left } }) (record past { note = at.cut })
says_turned M S at q a b p past is cut opened st h =
    in_serving M at at q q a b p (record p { to_client = p.to_client ++ st.put; saying = record p.saying { left = st.left } }) past st.put is is refl refl refl refl refl st.window
    (λ now c s. (s.0, s.1, says_serves M S q a b p at.cut cut st s.2, answer_open opened s.3, s.4)) h

refusing_on : (M : Meaning) (S : Sided M → Type 0) (a b : AnswerSeen) (p : Sided M) (now : List Connect) (st : Says M S a b p)
    → Refusing M a.answered p.vars p.came p.to_client p.saying now → Refusing M b.answered p.vars p.came (p.to_client ++ st.put) (record p.saying { left = st.left }) now
refusing_on M S a b p now st h =
    record { said = said_on p.to_client st.put st.left p.saying.left p.saying.text st.saying h.said; sent = st.all; goes = h.goes }

pub says_refusal : (M : Meaning) (S : Sided M → Type 0) (at : At) (q : RequestSeen) (a b : AnswerSeen) (p : Sided M) (past : Past)
    → at.phase ≡ phase.Refusing → (st : Says M S a b p)
    → Holds M at q a p past → Holds M at q b (record p { to_client = p.to_client ++ st.put; saying = record p.saying { left = st.left } }) (record past { note = at.cut })
says_refusal M S at q a b p past is st h =
    holds_with M at at q q a b p (record p { to_client = p.to_client ++ st.put; saying = record p.saying { left = st.left } }) past st.put refl refl refl refl refl st.window
    (λ hand now f.
    let P : Phase → Type 0 = λ ph. InPhase M q a p hand at.cut now ph in
    let Q : Phase → Type 0 = λ ph. InPhase M q b (record p { to_client = p.to_client ++ st.put; saying = record p.saying { left = st.left } }) hand at.cut now ph in
    let r : InPhase M q a p hand at.cut now phase.Refusing = subst P is f in
    subst Q (sym is) (r.0, r.1, r.2, refusing_on M S a b p now st r.3)) h

pub says_reply : (M : Meaning) (S : Sided M → Type 0) (at : At) (keep : Bool) (q : RequestSeen) (a b : AnswerSeen) (p : Sided M) (past : Past)
    → at.phase ≡ phase.Replying keep → (st : Says M S a b p)
    → Holds M at q a p past → Holds M at q b (record p { to_client = p.to_client ++ st.put; saying = record p.saying { left = st.left } }) (record past { note = at.cut })
says_reply M S at keep q a b p past is st h =
    holds_with M at at q q a b p (record p { to_client = p.to_client ++ st.put; saying = record p.saying { left = st.left } }) past st.put refl refl refl refl refl st.window
    (λ hand now f.
    let P : Phase → Type 0 = λ ph. InPhase M q a p hand at.cut now ph in
    let Q : Phase → Type 0 = λ ph. InPhase M q b (record p { to_client = p.to_client ++ st.put; saying = record p.saying { left = st.left } }) hand at.cut now ph in
    let r : InPhase M q a p hand at.cut now (phase.Replying keep) = subst P is f in
    subst Q (sym is) (
      r.0,
      r.1,
      r.2,
      record {
        spelled = r.3.spelled;
        said = said_on p.to_client st.put st.left p.saying.left p.saying.text st.saying r.3.said;
        sent = st.all;
        behind = r.3.behind;
        asks = r.3.asks;
      },
    )) h

-- ---- a server that was refused

refuses_unserved : (M : Meaning) (q : RequestSeen) (a b : AnswerSeen) (p : Sided M) (text : List ℕ) (hand : ℕ) (cut : Option Bool) (now : List Connect)
    → b.answered ≡ false → Spells true (asker_in p.asking).head_asked (unserved_sent M p.asking) text → now ≡ connected false ∷ []
    → InPhase M q a p hand cut (connected false ∷ []) phase.Unserved → InPhase M q b (record p { saying = unsaid text }) hand cut now phase.Refusing
refuses_unserved M q a b p text hand cut now starts spelled is h =
    let N : List Connect → Type 0 = λ now. InPhase M q b (record p { saying = unsaid text }) hand cut now phase.Refusing in
    subst N (sym is) (
      h.0,
      h.1,
      refl,
      record {
        said = ap (λ xs. xs ++ text) h.2;
        sent = λ e. let other : false ≡ true = sym starts ∙ e in absurd (grind (arith, other));
        goes = λ stream servers c z. not_there M p.vars p.asking stream text servers z (h.4 stream c) spelled;
      },
    )

pub refuses_server : (M : Meaning) (S : Sided M → Type 0) (at : At) (q : RequestSeen) (a b : AnswerSeen) (p : Sided M) (past : Past)
    → at.phase ≡ phase.Unserved → b.window ≡ a.window → b.answered ≡ false → (r : Refuses M S p 503)
    → Holds M at q a p past → Holds M (record at { phase = phase.Refusing }) q b (record p { saying = unsaid r.text }) (record past { note = at.cut })
refuses_server M S at q a b p past is window starts r h =
    holds_with M at (record at { phase = phase.Refusing }) q q a b p (record p { saying = unsaid r.text }) past [] refl refl refl refl (sym (append-nil p.to_client)) (window ∙ sym (append-nil a.window))
    (λ hand now f.
    let P : Phase → Type 0 = λ ph. InPhase M q a p hand at.cut now ph in
    let u : InPhase M q a p hand at.cut now phase.Unserved = subst P is f in
    let N : List Connect → Type 0 = λ now. InPhase M q a p hand at.cut now phase.Unserved in
    refuses_unserved M q a b p r.text hand at.cut now starts r.spelled u.3 (subst N u.3 u)) h
