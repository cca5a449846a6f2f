-- A server is opened, or refused.
use Rattle.std.proofs.Common.{◌≡◌, ℕ, List, [], ◌∷◌, ◌++◌, Bool, true, false, Option, None, sym, ap, subst, ◌∙◌, refl, is_none}
use Rattle.std.proofs.lemmas.List.{append-nil}
use Rattle.session_model.specs.Meaning.{Meaning}
use Rattle.session_model.specs.Session.{interim_text}
use Rattle.session_model.specs.Answering.{sent_interim}
use Rattle.session_core.specs.History.{Past, Coming, Connect, prepended, no_stream, connected}
use Rattle.session_core.specs.Sided.{Sided, asker_in, RequestSeen, AnswerSeen, Requests, AnswersSo, IsBefore, IsUncut}
use Rattle.session_core.specs.Stands.{IsBehind, Serves, InPhase, Holds}
use Rattle.session_core.specs.declared.machine.At.{At}
use Rattle.session_core.specs.declared.Phase.{Phase}
use Rattle.session_core.specs.declared.Phase.TheVariants as phase

-- the exchange in hand gets its connect
pub connects_now : (M : Meaning) (at : At) (to : Phase) (q : RequestSeen) (a b : AnswerSeen) (p s : Sided M) (past : Past) (c : Connect)
    → at.phase ≡ phase.Opening → s.vars ≡ p.vars → s.came ≡ p.came → s.to_client ≡ p.to_client → b.window ≡ a.window
    → (InPhase M q a p 1 at.cut [] phase.Opening → InPhase M q b s 1 at.cut (c ∷ []) to)
    → Holds M at q a p past
    → Holds M (record at { phase = to }) q b s (record past { connects = past.connects ++ c ∷ [] })
connects_now M at to q a b p s past c is vars came client window then h =
    let P : Phase → Type 0 = λ ph. InPhase M q a p h.hand at.cut h.now ph in
    let opening : InPhase M q a p h.hand at.cut h.now phase.Opening = subst P is h.phase in
    let N : List Connect → Type 0 = λ now. InPhase M q a p h.hand at.cut now phase.Opening in
    let K : ℕ → Type 0 = λ n. InPhase M q a p n at.cut [] phase.Opening in
    let H : ℕ → Type 0 = λ n. InPhase M q b s n at.cut (c ∷ []) to in
    let B : M.Vars → Type 0 = λ v. IsBehind M v h.used s.came h.before h.done in
    let C : Coming → Type 0 = λ c. IsBehind M p.vars h.used c h.before h.done in
    record {
      used = h.used;
      done = h.done;
      hand = h.hand;
      before = h.before;
      now = c ∷ [];
      is_open = h.is_open ∙ ap (λ c. is_none c.ending) (sym came);
      client = h.client ∙ ap (λ c. prepended h.used c) (sym came);
      connects = ap (λ cs. cs ++ c ∷ []) (h.connects ∙ ap (λ cs. h.before ++ cs) opening.3 ∙ append-nil h.before);
      taken = ap (λ xs. past.taken ++ xs) window ∙ h.taken ∙ ap (λ xs. h.done.client ++ xs) (sym client);
      note = h.note;
      count = h.count;
      sent = h.sent;
      fronts = h.fronts;
      behind = subst B (sym vars) (subst C (sym came) h.behind);
      phase = subst H (sym opening.0) (then (subst K opening.0 (subst N opening.3 opening)));
    }

pub refused_server : (M : Meaning) (q : RequestSeen) (a : AnswerSeen) (p : Sided M) (cut : Option Bool)
    → InPhase M q a p 1 cut [] phase.Opening → InPhase M q a p 1 cut (connected false ∷ []) phase.Unserved
refused_server M q a p cut h = (refl, h.1, h.2, refl, h.6)

serves_first : (M : Meaning) (q : RequestSeen) (b : AnswerSeen) (p : Sided M) (cut : Option Bool) → cut ≡ None
    → Requests M q p → AnswersSo M b p → IsUncut q.source → IsBefore M p → Serves M q b p cut
serves_first M q b p cut e r s u i = let P : Option Bool → Type 0 = λ c. Serves M q b p c in subst P (sym e) (r, s, u, λ n. i)

pub opened_server : (M : Meaning) (q : RequestSeen) (a b : AnswerSeen) (p : Sided M) (cut : Option Bool)
    → b.is_open ≡ true → AnswersSo M b (record p { server = no_stream })
    → InPhase M q a p 1 cut [] phase.Opening → InPhase M q b (record p { server = no_stream }) 1 cut (connected true ∷ []) phase.Serving
opened_server M q a b p cut is answers h = (
  refl,
  connected true,
  (
    refl,
    record { there = refl; stopped = sym h.4.takes; stream = refl; taken = h.1.none ∙ sym h.4.none },
    serves_first M q b (record p { server = no_stream }) cut h.1.uncut h.5 answers h.4.uncut
        (record { heads = []; begins = λ s c. tt; front = (interim_text (sent_interim (asker_in p.asking) []), ap (λ xs. xs ++ interim_text (sent_interim (asker_in p.asking) [])) h.2) }),
    record { is_open = is; settled = h.4.settled; drops = λ e. h.1.none; waits = h.4.waits },
    h.6,
  ),
)

pub connected_so : (M : Meaning) (at : At) (q : RequestSeen) (a : AnswerSeen) (p : Sided M) (past : Past) (opened is : Bool) → opened ≡ is
    → Holds M at q a p (record past { connects = past.connects ++ connected is ∷ [] }) → Holds M at q a p (record past { connects = past.connects ++ connected opened ∷ [] })
connected_so M at q a p past opened is e h = let P : Bool → Type 0 = λ y. Holds M at q a p (record past { connects = past.connects ++ connected y ∷ [] }) in subst P (sym e) h
