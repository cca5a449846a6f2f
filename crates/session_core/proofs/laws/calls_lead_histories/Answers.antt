use Rattle.std.proofs.Common.{◌≡◌, ◌++◌, ◌∷◌, [], List, sym, subst, refl}
use Rattle.std.specs.List.{fold}
use Rattle.session_core.specs.History.{Event, Past, after, past_of, nothing_yet}
use Rattle.session_core.specs.Leads.{Stands}
use Rattle.session_core.proofs.laws.calls_lead_histories.Goals as goal

one_more : (p : Past) (h : List Event) (e : Event) → fold after p (h ++ e ∷ []) ≡ after (fold after p h) e
one_more p [] e = refl
one_more p (d ∷ h) e = one_more (after p d) h e

pub returns : goal.returns
returns g c = λ cfg old new old_at new_at h e leads s.
    let P : Past → Type 0 = λ p. Stands (g.S.Works.meaning cfg) g.S.Works.request g.S.Works.answer (g.S.Works.stands cfg) new new_at p in
    subst P (sym (one_more nothing_yet h e)) (leads cfg (past_of h) s)
