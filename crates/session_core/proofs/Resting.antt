-- A fresh core with the count of exchanges of one that rests stands for its history.
use Rattle.std.proofs.Common.{◌≡◌, ◌+◌, ◌++◌, [], None, sym, ap, subst, ◌∙◌, refl, min, is_none}
use Rattle.session_model.specs.Meaning.{Meaning}
use Rattle.session_core.specs.History.{Past, Coming, prepended}
use Rattle.session_core.specs.Sided.{Sided, RequestSeen, AnswerSeen}
use Rattle.session_core.specs.Stands.{IsBehind, InPhase, Holds, most}
use Rattle.session_core.specs.Leads.{IsFresh}
use Rattle.session_core.specs.Resting.{IsUntouched}
use Rattle.session_core.specs.declared.machine.At.{At}
use Rattle.session_core.specs.declared.Phase.TheVariants as phase

pub holds_resumed : (M : Meaning) (at : At) (q r : RequestSeen) (a b : AnswerSeen) (p n : Sided M) (past : Past) → at.phase ≡ phase.Reading → a.window ≡ [] → IsUntouched M p
    → IsFresh M r b n → Holds M at q a p past → Holds M (record { phase = phase.Reading; cut = None; exchanges = at.exchanges }) r b n past
holds_resumed M at q r a b p n past reads empty un fresh h =
    let inside : InPhase M q a p h.hand at.cut h.now phase.Reading = subst (λ f. InPhase M q a p h.hand at.cut h.now f) reads h.phase in
    let came : p.came ≡ n.came = un.came ∙ sym fresh.came in
    let vars : p.vars ≡ n.vars = un.vars ∙ sym fresh.vars in
    record {
      used = h.used;
      done = h.done;
      hand = 0;
      before = h.before;
      now = [];
      is_open = fresh.is_open ∙ ap (λ (s : Coming). is_none s.ending) (sym fresh.came);
      client = h.client ∙ ap (prepended h.used) came;
      connects = h.connects ∙ ap (λ now. h.before ++ now) inside.3;
      taken = ap (λ w. past.taken ++ w) (fresh.to_client_window ∙ sym empty) ∙ h.taken ∙ ap (λ put. h.done.client ++ put) (inside.2 ∙ sym fresh.to_client);
      note = h.note ∙ inside.1.uncut;
      count = h.count ∙ ap (λ hand. min (h.done.count + hand) most) inside.0;
      sent = h.sent;
      fronts = h.fronts;
      behind = subst (λ came. IsBehind M n.vars h.used came h.before h.done) came (subst (λ vars. IsBehind M vars h.used p.came h.before h.done) vars h.behind);
      phase = (refl, record { none = fresh.to_server_window; uncut = refl }, fresh.to_client, refl);
    }
