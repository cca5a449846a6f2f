-- Pasts all of whose connects are over.
use Rattle.std.proofs.Common.{ℕ, List, [], ◌∷◌, ◌++◌, Bool, Option, Some, None, sym, subst}
use Rattle.std.specs.List.{AllByRecursion}
use Rattle.session_core.specs.History.{Past, Connect, after, Work}
use Rattle.px_link.specs.Link.{Seen}
use Rattle.px_link.specs.Net.{Place, NetSeen}
use Rattle.htx_drive.specs.Driven.{Idle, IdleGoes, IsOver, Rests}
use Rattle.htx_drive.specs.Dialled.{Dials, Goes}

pub over_more : (cs : List Connect) (c : Connect) → AllByRecursion IsOver cs → IsOver c → AllByRecursion IsOver (cs ++ c ∷ [])
over_more [] c all is = (is, tt)
over_more (d ∷ cs) c all is = (all.0, over_more cs c all.1 is)

-- work changes no connect
pub rests_works : (S T : Past → Type 0) (note : Option Bool) → ((p : Past) → S p → T (after p (Work note))) → (p : Past) → Rests S p → Rests T (after p (Work note))
rests_works S T None leads p h = record { stand = leads p h.stand; over = h.over }
rests_works S T (Some begun) leads p h = record { stand = leads p h.stand; over = h.over }

pub idle_stand : {L : Type 0} (S : Past → Type 0) (seen : L → Seen) (wrote : L → List ℕ → Type 0) (first client : L) (failed : Bool) (past : Past) → Idle (Rests S) seen wrote first client failed past → Idle S seen wrote first client failed past
idle_stand S seen wrote first client failed past h = record { stand = h.stand.stand; came = h.came; put = h.put; closed = h.closed }

-- a turn of the client makes no connect
pub idle_rests : {L : Type 0} (S : Past → Type 0) (seen : L → Seen) (wrote : L → List ℕ → Type 0) (first client : L) (failed : Bool) (to : Place) (first_net net : NetSeen) (past : Past) (had has : ℕ)
    → AllByRecursion IsOver past.connects → Dials to first_net net past.connects → IdleGoes S seen wrote first client failed past had has → Goes (Rests S) seen wrote first client failed to first_net net past had has
idle_rests S seen wrote first client failed to first_net net past had has over d g =
    let P : List Connect → Type 0 = λ cs. Dials to first_net net cs in
    let Q : List Connect → Type 0 = λ cs. AllByRecursion IsOver cs in
    record {
      now = g.now;
      idle = record { stand = record { stand = g.idle.stand; over = subst Q (sym g.connects) over }; came = g.idle.came; put = g.idle.put; closed = g.idle.closed };
      dials = subst P (sym g.connects) d;
      more = g.more;
    }
