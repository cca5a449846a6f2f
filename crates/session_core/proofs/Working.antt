-- What each part of work makes of a core that stands for a history.
use Rattle.std.proofs.Common.{◌≡◌, ℕ, List, [], ◌++◌, Bool, true, false, Option, Some, None, sym, ap, subst, ◌∙◌, refl, append_assoc, is_none}
use Rattle.std.proofs.lemmas.List.{append-nil}
use Rattle.http_model.specs.declared.Ending.{Ending}
use Rattle.http_model.specs.Reading.{Received}
use Rattle.session_model.specs.Meaning.{Meaning}
use Rattle.session_core.specs.History.{Past, Coming, Connect}
use Rattle.session_core.specs.Sided.{Sided, RequestSeen, AnswerSeen, Requests, IsBefore, IsUncut}
use Rattle.session_core.specs.Stands.{IsBehind, IsConnect, Serves, IsOpenServer, IsServing, InPhase, Holds}
use Rattle.session_core.specs.Leads.{StepsRequest, KeepsRequest, StaysSettled, Turns, Stands}
use Rattle.session_core.specs.declared.machine.At.{At}
use Rattle.http_model.specs.declared.Source.{Source}
use Rattle.http_model.specs.declared.Source.TheVariants as source
use Rattle.session_core.specs.declared.Phase.{Phase}
use Rattle.session_core.specs.declared.Phase.TheVariants as phase

-- what changes nothing but the exchange in hand, and puts text out to the client
pub holds_with : (M : Meaning) (at to : At) (q r : RequestSeen) (a b : AnswerSeen) (p s : Sided M) (past : Past) (put : List ℕ)
    → s.vars ≡ p.vars → s.came ≡ p.came → r.is_open ≡ q.is_open → to.exchanges ≡ at.exchanges
    → s.to_client ≡ p.to_client ++ put → b.window ≡ a.window ++ put
    → ((hand : ℕ) (now : List Connect) → InPhase M q a p hand at.cut now at.phase → InPhase M r b s hand to.cut now to.phase)
    → Holds M at q a p past → Holds M to r b s (record past { note = to.cut })
holds_with M at to q r a b p s past put vars came opened count client window then h =
    let B : M.Vars → Type 0 = λ v. IsBehind M v h.used s.came h.before h.done in
    let C : Coming → Type 0 = λ c. IsBehind M p.vars h.used c h.before h.done in
    record {
      used = h.used;
      done = h.done;
      hand = h.hand;
      before = h.before;
      now = h.now;
      is_open = opened ∙ h.is_open ∙ ap (λ c. is_none c.ending) (sym came);
      client = h.client ∙ ap (λ (c : Coming). let d : Coming = record { bytes = h.used ++ c.bytes; ending = c.ending } in d) (sym came);
      connects = h.connects;
      taken =
          ap (λ xs. past.taken ++ xs) window ∙ sym (append_assoc past.taken a.window put) ∙ ap (λ xs. xs ++ put) h.taken
          ∙ append_assoc h.done.client p.to_client put ∙ ap (λ xs. h.done.client ++ xs) (sym client);
      note = refl;
      count = count ∙ h.count;
      sent = h.sent;
      fronts = h.fronts;
      behind = subst B (sym vars) (subst C (sym came) h.behind);
      phase = then h.hand h.now h.phase;
    }

-- nothing changes
pub holds_still : (M : Meaning) (at : At) (q : RequestSeen) (a : AnswerSeen) (p : Sided M) (past : Past)
    → Holds M at q a p past → Holds M at q a p (record past { note = at.cut })
holds_still M at q a p past h =
    holds_with M at at q q a a p p past [] refl refl refl refl (sym (append-nil p.to_client)) (sym (append-nil a.window)) (λ hand now f. f) h

-- ---- the request direction

stays_cut : (old new : Source) (code : ℕ) → StaysSettled old new → old ≡ source.Cut code → new ≡ source.Cut code
stays_cut old new code s e = let P : Source → Type 0 = λ so. StaysSettled so new in subst P e s

step_serves : (M : Meaning) (q r : RequestSeen) (a : AnswerSeen) (p : Sided M) (put : List ℕ) (cut : Option Bool)
    → StaysSettled q.source r.source → Requests M r (record p { to_server = p.to_server ++ put }) → (cut ≡ None → IsUncut r.source)
    → Serves M q a p cut → Serves M r a (record p { to_server = p.to_server ++ put }) cut
step_serves M q r a p put None stays new uncut h = (new, h.1, uncut refl, h.3)
step_serves M q r a p put (Some true) stays new uncut h = (new, h.1, h.2, stays_cut q.source r.source h.2 stays h.3, h.4)
step_serves M q r a p put (Some false) stays new uncut h = (new, h.1, stays_cut q.source r.source h.1 stays h.2, h.3)

step_connect : (q r : RequestSeen) (server : Coming) (to_server put : List ℕ) (c : Connect) → r.dropped ≡ q.dropped → r.window ≡ q.window ++ put
    → IsConnect q.dropped q.window server to_server c → IsConnect r.dropped r.window server (to_server ++ put) c
step_connect q r server to_server put c dropped window h =
    record {
      there = h.there;
      stopped = h.stopped ∙ sym dropped;
      stream = h.stream;
      taken = ap (λ xs. c.taken ++ xs) window ∙ sym (append_assoc c.taken q.window put) ∙ ap (λ xs. xs ++ put) h.taken;
    }

-- what is seen of an open server behind a step
step_open : (q r : RequestSeen) (was is : Bool) (ending : Option Ending) (received : Received) → KeepsRequest q r → is ≡ was
    → IsOpenServer q.source q.sent q.dropped q.awaits q.window was ending received → IsOpenServer r.source r.sent r.dropped r.awaits r.window is ending received
step_open q r was is ending received k same h =
    record { is_open = same ∙ h.is_open; settled = k.settled; drops = λ e. k.drops e ∙ h.drops (sym k.dropped ∙ e); waits = k.awaits ∙ h.waits }

-- in the phase in hand, whatever becomes of the cut
pub in_serving : (M : Meaning) (at to : At) (q r : RequestSeen) (a b : AnswerSeen) (p s : Sided M) (past : Past) (put : List ℕ)
    → at.phase ≡ phase.Serving → to.phase ≡ phase.Serving → s.vars ≡ p.vars → s.came ≡ p.came → r.is_open ≡ q.is_open → to.exchanges ≡ at.exchanges
    → s.to_client ≡ p.to_client ++ put → b.window ≡ a.window ++ put
    → ((now : List Connect) (c : Connect) → IsServing M q a p at.cut now c → IsServing M r b s to.cut now c)
    → Holds M at q a p past → Holds M to r b s (record past { note = to.cut })
in_serving M at to q r a b p s past put is so vars came opened count client window then h =
    holds_with M at to q r a b p s past put vars came opened count client window
    (λ hand now f.
    let P : Phase → Type 0 = λ ph. InPhase M q a p hand at.cut now ph in
    let Q : Phase → Type 0 = λ ph. InPhase M r b s hand to.cut now ph in
    let serving : InPhase M q a p hand at.cut now phase.Serving = subst P is f in
    subst Q (sym so) (serving.0, serving.1, then now serving.1 serving.2)) h

-- a step that meets no cut
pub steps_on : (M : Meaning) (S : Sided M → Type 0) (at : At) (q r : RequestSeen) (a : AnswerSeen) (p : Sided M) (past : Past)
    → at.phase ≡ phase.Serving → (at.cut ≡ None → IsUncut r.source) → KeepsRequest q r → (st : StepsRequest M S q r p)
    → Holds M at q a p past → Holds M at r a (record p { to_server = p.to_server ++ st.put }) (record past { note = at.cut })
steps_on M S at q r a p past is uncut k st h =
    in_serving M at at q r a a p (record p { to_server = p.to_server ++ st.put }) past [] is is refl refl k.is_open refl (sym (append-nil p.to_client)) (sym (append-nil a.window))
    (λ now c s. (s.0, step_connect q r p.server p.to_server st.put c k.dropped st.window s.1, step_serves M q r a p st.put at.cut k.stays st.requests uncut s.2, step_open q r a.is_open a.is_open p.server.ending p.asking.received k refl s.3, s.4)) h

cut_was_none : (M : Meaning) (q : RequestSeen) (a : AnswerSeen) (p : Sided M) (cut : Option Bool) → cut ≡ None → Serves M q a p cut → Serves M q a p None
cut_was_none M q a p cut is h = let P : Option Bool → Type 0 = λ c. Serves M q a p c in subst P is h

-- a step that meets the cut once the answer has begun
pub steps_begun : (M : Meaning) (S : Sided M → Type 0) (at : At) (q r : RequestSeen) (a : AnswerSeen) (p : Sided M) (past : Past) (code : ℕ)
    → at.phase ≡ phase.Serving → at.cut ≡ None → r.source ≡ source.Cut code → a.begun ≡ true → KeepsRequest q r → (st : StepsRequest M S q r p)
    → Holds M at q a p past → Holds M (record at { cut = Some true }) r a (record p { to_server = p.to_server ++ st.put }) (record past { note = Some true })
steps_begun M S at q r a p past code is none met begun k st h =
    in_serving M at (record at { cut = Some true }) q r a a p (record p { to_server = p.to_server ++ st.put }) past [] is is refl refl k.is_open refl (sym (append-nil p.to_client)) (sym (append-nil a.window))
    (λ now c s. (
      s.0,
      step_connect q r p.server p.to_server st.put c k.dropped st.window s.1,
      (st.requests, (cut_was_none M q a p at.cut none s.2).1, code, met, begun),
      step_open q r a.is_open a.is_open p.server.ending p.asking.received k refl s.3,
      s.4,
    )) h

-- a step that meets the cut before the answer has begun, and the turn to a refusal
pub steps_before : (M : Meaning) (S T : Sided M → Type 0) (at : At) (q r : RequestSeen) (a b : AnswerSeen) (p : Sided M) (past : Past) (code : ℕ)
    → at.phase ≡ phase.Serving → at.cut ≡ None → r.source ≡ source.Cut code → KeepsRequest q r → (st : StepsRequest M S q r p)
    → b.window ≡ a.window → b.is_open ≡ a.is_open → (tu : Turns M T b (record p { to_server = p.to_server ++ st.put }) code)
    → Holds M at q a p past → Holds M (record at { cut = Some false }) r b (record p { to_server = p.to_server ++ st.put; saying = tu.saying }) (record past { note = Some false })
steps_before M S T at q r a b p past code is none met k st window opened tu h =
    in_serving M at (record at { cut = Some false }) q r a b p (record p { to_server = p.to_server ++ st.put; saying = tu.saying }) past [] is is refl refl k.is_open refl (sym (append-nil p.to_client)) (window ∙ sym (append-nil a.window))
    (λ now c s. (
      s.0,
      step_connect q r p.server p.to_server st.put c k.dropped st.window s.1,
      (st.requests, code, met, tu.turned),
      step_open q r a.is_open b.is_open p.server.ending p.asking.received k opened s.3,
      s.4,
    )) h

-- what the turn needs
pub before_of : (M : Meaning) (at : At) (q : RequestSeen) (a : AnswerSeen) (p : Sided M) (past : Past) (put : List ℕ)
    → at.phase ≡ phase.Serving → at.cut ≡ None → a.begun ≡ false → Holds M at q a p past → IsBefore M (record p { to_server = p.to_server ++ put })
before_of M at q a p past put is none begun h =
    let P : Phase → Type 0 = λ ph. InPhase M q a p h.hand at.cut h.now ph in
    let serving : InPhase M q a p h.hand at.cut h.now phase.Serving = subst P is h.phase in
    (cut_was_none M q a p at.cut none serving.2.2).3 begun

requests_in : (M : Meaning) (q : RequestSeen) (a : AnswerSeen) (p : Sided M) (cut : Option Bool) → Serves M q a p cut → Requests M q p
requests_in M q a p None h = h.0
requests_in M q a p (Some true) h = h.0
requests_in M q a p (Some false) h = h.0

-- what the step needs
pub requests_of : (M : Meaning) (at : At) (q : RequestSeen) (a : AnswerSeen) (p : Sided M) (past : Past)
    → at.phase ≡ phase.Serving → Holds M at q a p past → Requests M q p
requests_of M at q a p past is h =
    let P : Phase → Type 0 = λ ph. InPhase M q a p h.hand at.cut h.now ph in
    let serving : InPhase M q a p h.hand at.cut h.now phase.Serving = subst P is h.phase in
    requests_in M q a p at.cut serving.2.2

-- a core that nothing happens to
pub still : (M : Meaning) {D : Type 0} (request : D → RequestSeen) (answer : D → AnswerSeen) (stands : D → Sided M → Type 0) (sides : D) (at : At) (past : Past)
    → Stands M request answer stands sides at past → Stands M request answer stands sides at (record past { note = at.cut })
still M request answer stands sides at past s =
    record { sided = s.sided; stand = s.stand; holds = holds_still M at (request sides) (answer sides) s.sided past s.holds }

pub at_is : (M : Meaning) (at to : At) (q : RequestSeen) (a : AnswerSeen) (p : Sided M) (past : Past)
    → at ≡ to → Holds M to q a p (record past { note = to.cut }) → Holds M at q a p (record past { note = at.cut })
at_is M at to q a p past e h = let P : At → Type 0 = λ t. Holds M t q a p (record past { note = t.cut }) in subst P (sym e) h
