-- How both links stay tied to a past.
use Rattle.std.proofs.Common.{◌≡◌, ℕ, ◌+◌, ◌<◌, ◌≤◌, List, [], ◌∷◌, ◌++◌, Bool, true, false, Option, Some, None, sum_by, sym, ap, subst, ◌∙◌, refl, arith}
use Rattle.std.proofs.lemmas.List.Sums.{sum_by-append}
use Rattle.session_core.specs.History.{Past, Connect, Event, after, Work}
use Rattle.px_link.specs.Link.{Seen}
use Rattle.htx_drive.specs.Turned.{Makes}
use Rattle.htx_drive.specs.declared.act.Act.{Act}
use Rattle.htx_drive.specs.Driven.{Idle, ClientMoves, Linked, ServerMoves, Hand, HandGoes, moved, moved_by, client_moved}

pub client_in_hand : {L : Type 0} (S T U : Past → Type 0) (did : Act) (seen : L → Seen) (wrote : L → List ℕ → Type 0) (first old new first_link link : L) (before : List Connect) (past : Past) (c : Connect)
    → Hand S seen wrote first old first_link link false before past c → ClientMoves did T seen wrote first new past
    → ((now : Past) (event : Event) → Makes did event → after past event ≡ now → T now → U now) → HandGoes U seen wrote first new first_link link false before past 1 0
client_in_hand S T U did seen wrote first old new first_link link before past c h m w =
    let more : client_moved past.client past.taken < client_moved m.came m.taken = m.more in
    record {
      now = record past { client = m.came; taken = m.taken };
      c = c;
      hand = record { idle = record { stand = w _ m.event m.makes m.is m.idle.stand; came = m.idle.came; put = m.idle.put; closed = m.idle.closed }; connects = h.connects; linked = h.linked };
      more = omega arith;
    }

pub client_fails : {L : Type 0} (S T U : Past → Type 0) (seen : L → Seen) (wrote : L → List ℕ → Type 0) (first old new first_link link : L) (failed : Bool) (before : List Connect) (past : Past) (c : Connect)
    → Hand S seen wrote first old first_link link false before past c → Idle T seen wrote first new failed past → (T past → U past) → HandGoes U seen wrote first new first_link link failed before past 0 0
client_fails S T U seen wrote first old new first_link link failed before past c h m w =
    record { now = past; c = c; hand = record { idle = record { stand = w m.stand; came = m.came; put = m.put; closed = m.closed }; connects = h.connects; linked = h.linked }; more = omega arith }

pub moved_before : (before : List Connect) (c : Connect) → sum_by moved_by (before ++ c ∷ []) ≡ sum_by moved_by before + moved_by c
moved_before before c = sum_by-append moved_by before (c ∷ []) ∙ ap (λ n. sum_by moved_by before + n) (omega arith)

pub moved_more : (before : List Connect) (past : Past) (c next : Connect) → past.connects ≡ before ++ c ∷ [] → moved_by c < moved_by next
    → moved past + 1 ≤ moved (record past { connects = before ++ next ∷ [] }) + 0
moved_more before past c next e m =
    let old : sum_by moved_by past.connects ≡ sum_by moved_by before + moved_by c = ap (λ l. sum_by moved_by l) e ∙ moved_before before c in
    let new : sum_by moved_by (before ++ next ∷ []) ≡ sum_by moved_by before + moved_by next = moved_before before next in
    omega arith

pub server_in_hand : {L : Type 0} (S T U : Past → Type 0) (did : Act) (seen : L → Seen) (wrote : L → List ℕ → Type 0) (first client first_link old new : L) (before : List Connect) (past : Past) (c : Connect)
    → Hand S seen wrote first client first_link old false before past c → ServerMoves did T seen wrote first_link new before past c
    → ((now : Past) (event : Event) → Makes did event → after past event ≡ now → T now → U now) → HandGoes U seen wrote first client first_link new false before past 1 0
server_in_hand S T U did seen wrote first client first_link old new before past c h m w =
    record {
      now = record past { connects = before ++ m.next ∷ [] };
      c = m.next;
      hand = record { idle = record { stand = w _ m.event m.makes m.is m.stand; came = h.idle.came; put = h.idle.put; closed = h.idle.closed }; connects = refl; linked = m.linked };
      more = moved_more before past c m.next h.connects m.more;
    }

pub server_fails : {L : Type 0} (S T U : Past → Type 0) (seen : L → Seen) (wrote : L → List ℕ → Type 0) (first client first_link old new : L) (failed : Bool) (before : List Connect) (past : Past) (c : Connect)
    → Hand S seen wrote first client first_link old false before past c → (failed ≡ false) × T past × Linked seen wrote first_link new c → (T past → U past) → HandGoes U seen wrote first client first_link new failed before past 0 0
server_fails S T U seen wrote first client first_link old new failed before past c h m w =
    let P : Bool → Type 0 = λ b. HandGoes U seen wrote first client first_link new b before past 0 0 in
    subst P (sym m.0) (record {
      now = past;
      c = c;
      hand = record { idle = record { stand = w m.1; came = h.idle.came; put = h.idle.put; closed = h.idle.closed }; connects = h.connects; linked = m.2 };
      more = omega arith;
    })

-- so many more turns were paid for
pub goes_on : {L : Type 0} (S T U : Past → Type 0) (seen : L → Seen) (wrote : L → List ℕ → Type 0) (first mid new first_link mid_link link : L) (failed : Bool) (before : List Connect) (past : Past) (had has paid left : ℕ)
    → HandGoes S seen wrote first mid first_link mid_link false before past had has
    → ((p : Past) (c : Connect) → Hand S seen wrote first mid first_link mid_link false before p c → HandGoes T seen wrote first new first_link link failed before p paid 0)
    → (has ≤ left + paid → (p : Past) → T p → U p) → has ≤ left + paid → HandGoes U seen wrote first new first_link link failed before past had left
goes_on S T U seen wrote first mid new first_link mid_link link failed before past had has paid left h step w e =
    let n = step h.now h.c h.hand in
    let m : moved past + had ≤ moved h.now + has = h.more in
    let k : moved h.now + paid ≤ moved n.now + 0 = n.more in
    let idle = n.hand.idle in
    record { now = n.now; c = n.c; hand = record { idle = record { stand = w e n.now idle.stand; came = idle.came; put = idle.put; closed = idle.closed }; connects = n.hand.connects; linked = n.hand.linked }; more = omega arith }

-- the same past, of which less is said
pub hand_as : {L : Type 0} (S T : Past → Type 0) (seen : L → Seen) (wrote : L → List ℕ → Type 0) (first client first_link link : L) (failed : Bool) (before : List Connect) (past : Past) (had has : ℕ)
    → ((p : Past) → S p → T p) → HandGoes S seen wrote first client first_link link failed before past had has → HandGoes T seen wrote first client first_link link failed before past had has
hand_as S T seen wrote first client first_link link failed before past had has w h =
    record { now = h.now; c = h.c; hand = record { idle = record { stand = w h.now h.hand.idle.stand; came = h.hand.idle.came; put = h.hand.idle.put; closed = h.hand.idle.closed }; connects = h.hand.connects; linked = h.hand.linked }; more = h.more }

-- a turn that moves nothing
pub hand_rests : {L : Type 0} (S U : Past → Type 0) (seen : L → Seen) (wrote : L → List ℕ → Type 0) (first client first_link link : L) (before : List Connect) (past : Past) (c : Connect)
    → Hand S seen wrote first client first_link link false before past c → (S past → U past) → HandGoes U seen wrote first client first_link link false before past 0 0
hand_rests S U seen wrote first client first_link link before past c h w =
    record { now = past; c = c; hand = record { idle = record { stand = w h.idle.stand; came = h.idle.came; put = h.idle.put; closed = h.idle.closed }; connects = h.connects; linked = h.linked }; more = omega arith }

works : {L : Type 0} (S T : Past → Type 0) (seen : L → Seen) (wrote : L → List ℕ → Type 0) (first client first_link link : L) (before : List Connect) (past : Past) (c : Connect) (note : Option Bool)
    → ((p : Past) → S p → T (after p (Work note))) → Hand S seen wrote first client first_link link false before past c → HandGoes T seen wrote first client first_link link false before past 0 0
works S T seen wrote first client first_link link before past c None w h =
    record { now = past; c = c; hand = record { idle = record { stand = w past h.idle.stand; came = h.idle.came; put = h.idle.put; closed = h.idle.closed }; connects = h.connects; linked = h.linked }; more = omega arith }
works S T seen wrote first client first_link link before past c (Some begun) w h =
    record { now = record past { note = Some begun }; c = c; hand = record { idle = record { stand = w past h.idle.stand; came = h.idle.came; put = h.idle.put; closed = h.idle.closed }; connects = h.connects; linked = h.linked }; more = omega arith }

pub hand_works : {L : Type 0} (S T : Past → Type 0) (seen : L → Seen) (wrote : L → List ℕ → Type 0) (first client first_link link : L) (before : List Connect) (past : Past) (had has : ℕ) (note : Option Bool)
    → ((p : Past) → S p → T (after p (Work note))) → HandGoes S seen wrote first client first_link link false before past had has → HandGoes T seen wrote first client first_link link false before past had has
hand_works S T seen wrote first client first_link link before past had has note w h =
    goes_on S T T seen wrote first client client first_link link link false before past had has 0 has h (λ p c k. works S T seen wrote first client first_link link before p c note w k) (λ e p t. t) (omega arith)

pub no_both : (b : Bool) → b ≡ true → b ≡ false → ⊥
no_both b e f = cc
