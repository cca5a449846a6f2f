-- How a turn leads on.
use Rattle.std.proofs.Common.{◌≡◌, ℕ, ◌+◌, ◌≤◌, Bool, true, false, Option, None, List, sym, ap, subst, ◌∙◌, refl, arith}
use Rattle.px_link.specs.declared.turns.Turn.{Turn}
use Rattle.px_link.specs.Link.{Seen}
use Rattle.px_link.specs.Turns.{first_of, rest_of}
use Rattle.session_core.specs.History.{Event, Work, ServerOpened, Past, after, nothing_yet}
use Rattle.session_core.specs.declared.machine.Wants.{Wants}
use Rattle.htx_drive.specs.Acts.{act_of, is_nothing, is_write, moves_bytes, TakesTurn}
use Rattle.session_model.specs.Meaning.{Meaning}
use Rattle.htx_drive.specs.Driven.{Idle, Rests, Left, paid_by, paid_more}
use Rattle.htx_drive.specs.Machine.{CoreSeen, TookFront}
use Rattle.htx_drive.specs.Turned.{Makes, InTurns, UpToAFault, LedIn, LedInAtLeast, StandsIn, WorkedIn, FailsIn, starts, takes_none, rests, moves, none_failed, last_failed, none_yet, took_none, moved_one, turns_in, turns_up_to}
use Rattle.htx_drive.specs.declared.act.Act.{Act}
use Rattle.htx_drive.proofs.Dialling.{came_fresh, put_fresh}

-- a turn of the list, or what is done behind it, as a core with these wants does it
pub record Taken {C : Type 0} (seen : C → CoreSeen) (left new : List Turn) (core : C) (did : Act) : Type 0 where
  pub turn : Option Turn
  pub wants : Wants
  pub first : turn ≡ first_of left
  pub rest : new ≡ rest_of left
  pub is_seen : wants ≡ (seen core).wants
  pub is : did ≡ act_of turn wants
  pub takes : TakesTurn wants

pub taken_of : {C : Type 0} (seen : C → CoreSeen) (left new : List Turn) (core : C) (did : Act) (turn : Option Turn) (wants : Wants)
    → turn ≡ first_of left → new ≡ rest_of left → wants ≡ (seen core).wants → did ≡ act_of turn wants → TakesTurn wants → Taken seen left new core did
taken_of seen left new core did turn wants first rest is_seen is takes = record { turn = turn; wants = wants; first = first; rest = rest; is_seen = is_seen; is = is; takes = takes }

-- what a turn's conditions say of its wants
pub takes_turn : (wants : Wants) → moves_bytes wants ≡ true → wants.server_open ≡ false → wants.server_close ≡ None → wants.over ≡ None → TakesTurn wants
takes_turn wants some no_open no_close going = record { some = some; no_open = no_open; no_close = no_close; going = going }

does : {C : Type 0} (seen : C → CoreSeen) (left new : List Turn) (core : C) (did : Act) (t : Taken seen left new core did) → did ≡ act_of (first_of left) (seen core).wants
does seen left new core did t = t.is ∙ ap (λ o. act_of o t.wants) t.first ∙ ap (λ w. act_of (first_of left) w) t.is_seen

wanted : {C : Type 0} (seen : C → CoreSeen) (left new : List Turn) (core : C) (did : Act) (t : Taken seen left new core did) → TakesTurn (seen core).wants
wanted seen left new core did t = subst TakesTurn t.is_seen t.takes

-- it moved something, and takes one
pub turn_moves : {C : Type 0} (stands : C → Past → Type 0) (seen : C → CoreSeen) (all left new : List Turn) (budget spare : ℕ) (old core : C) (did : Act) (past : Past) → Taken seen left new old did → WorkedIn stands seen all left budget spare old past
    → (now : Past) (event : Event) → Makes did event → after past event ≡ now → stands core now → StandsIn stands seen all new (1 + budget) spare core now
turn_moves stands seen all left new budget spare old core did past t s now event m e k =
    let P : Act → Type 0 = λ a. Makes a event in
    let S : Past → Type 0 = λ p. stands core p in
    let Q : Past → Type 0 = λ p. StandsIn stands seen all (rest_of left) (1 + budget) spare core p in
    let R : List Turn → Type 0 = λ l. StandsIn stands seen all l (1 + budget) spare core now in
    let paid : 1 + budget ≤ 1 + turns_in s.turned + spare = omega (arith, s.paid) in
    subst R (sym t.rest) (subst Q e (record {
      stand = subst S (sym e) k;
      worked = false;
      turned = moves left past old event s.stand (wanted seen left new old did t) (subst P (does seen left new old did t) m) s.turned;
      paid = paid;
    }))

-- it moved nothing, as it was to
pub turn_rests : {C : Type 0} (stands : C → Past → Type 0) (seen : C → CoreSeen) (all left new : List Turn) (budget spare : ℕ) (core : C) (did : Act) (past : Past) → Taken seen left new core did → is_nothing did ≡ true
    → WorkedIn stands seen all left budget spare core past → StandsIn stands seen all new budget spare core past
turn_rests stands seen all left new budget spare core did past t z s =
    let R : List Turn → Type 0 = λ l. StandsIn stands seen all l budget spare core past in
    subst R (sym t.rest) (record {
      stand = s.stand;
      worked = true;
      turned = rests left past core s.stand (wanted seen left new core did t) (sym (ap is_nothing (does seen left new core did t)) ∙ z) s.turned;
      paid = s.paid;
    })

-- it was a write, and failed
pub turn_fails : {C : Type 0} (stands : C → Past → Type 0) (seen : C → CoreSeen) (all left new : List Turn) (budget spare : ℕ) (old core : C) (did : Act) (past : Past) → Taken seen left new old did → is_write did ≡ true
    → WorkedIn stands seen all left budget spare old past → stands core past → FailsIn stands seen all new budget spare core past
turn_fails stands seen all left new budget spare old core did past t z s k =
    record { stand = k; turned = last_failed left old t.rest s.stand (wanted seen left new old did t) (sym (ap is_write (does seen left new old did t)) ∙ z) s.turned; paid = s.paid }

-- work takes no turn
pub works_in : {C : Type 0} (stands : C → Past → Type 0) (seen : C → CoreSeen) (all left : List Turn) (budget spare : ℕ) (old core : C) (note : Option Bool)
    → ((p : Past) → stands old p → stands core (after p (Work note))) → (p : Past) → StandsIn stands seen all left budget spare old p → WorkedIn stands seen all left budget spare core (after p (Work note))
works_in stands seen all left budget spare old core note leads p s = record { stand = leads p s.stand; turned = takes_none s.worked left p (Work note) refl s.turned; paid = s.paid }

-- a core that has worked ends an exchange, which is work again
pub ends_in : {C : Type 0} (stands : C → Past → Type 0) (seen : C → CoreSeen) (all left : List Turn) (budget spare : ℕ) (old core : C) (note : Option Bool)
    → ((p : Past) → stands old p → stands core (after p (Work note))) → (p : Past) → WorkedIn stands seen all left budget spare old p → StandsIn stands seen all left budget spare core (after p (Work note))
ends_in stands seen all left budget spare old core note leads p s = record { stand = leads p s.stand; worked = true; turned = takes_none true left p (Work note) refl s.turned; paid = s.paid }

-- an opening takes no turn, and one of the budget
pub opens_in : {C : Type 0} (stands : C → Past → Type 0) (seen : C → CoreSeen) (all left : List Turn) (budget spare less : ℕ) (old core : C) (past : Past) (opened : Bool)
    → stands core (after past (ServerOpened opened)) → spare ≤ 1 + less → WorkedIn stands seen all left budget spare old past → StandsIn stands seen all left budget less core (after past (ServerOpened opened))
opens_in stands seen all left budget spare less old core past opened k e s =
    let paid : budget ≤ 1 + turns_in s.turned + less = omega (arith, s.paid, e) in
    record { stand = k; worked = false; turned = takes_none true left past (ServerOpened opened) refl s.turned; paid = paid }

-- turns were paid for
pub paid_for : {C : Type 0} (stands : C → Past → Type 0) (seen : C → CoreSeen) (all left : List Turn) (core : C) (moved : Bool) (budget spare less : ℕ) → spare ≤ less + paid_by moved
    → (p : Past) → StandsIn stands seen all left (paid_more moved budget) spare core p → StandsIn stands seen all left budget less core p
paid_for stands seen all left core true budget spare less e p s =
    let paid : budget ≤ turns_in s.turned + less = omega (arith, s.paid, e) in
    record { stand = s.stand; worked = s.worked; turned = s.turned; paid = paid }
paid_for stands seen all left core false budget spare less e p s =
    let paid : budget ≤ turns_in s.turned + less = omega (arith, s.paid, e) in
    record { stand = s.stand; worked = s.worked; turned = s.turned; paid = paid }

-- nothing has happened yet
pub begins : {C L : Type 0} (stands : C → Past → Type 0) (sees : C → CoreSeen) (all : List Turn) (budget : ℕ) (core : C) (seen : L → Seen) (wrote : L → List ℕ → Type 0) (client : L) → stands core nothing_yet
    → Idle (Rests (StandsIn stands sees all all budget budget core)) seen wrote client client false nothing_yet
begins stands sees all budget core seen wrote client s =
    let paid : budget ≤ 0 + budget = omega arith in
    record { stand = record { stand = record { stand = s; worked = false; turned = starts; paid = paid }; over = tt }; came = came_fresh (seen client); put = put_fresh (wrote client) (seen client); closed = refl }

-- what is left of a core that stands for the past
pub left_in : {C : Type 0} (M : Meaning) (stands : C → Past → Type 0) (seen : C → CoreSeen) (all left : List Turn) (budget spare : ℕ) (core : C) → ((p : Past) → stands core p → TookFront M p)
    → (p : Past) → WorkedIn stands seen all left budget spare core p → Left M stands seen all left budget spare core p
left_in M stands seen all left budget spare core front p s = record { front = front p s.stand; stand = λ e. s.stand; turned = none_failed true s.turned; paid = s.paid }

pub left_failing : {C : Type 0} (M : Meaning) (stands : C → Past → Type 0) (seen : C → CoreSeen) (all left : List Turn) (budget spare : ℕ) (core : C) → ((p : Past) → stands core p → TookFront M p)
    → (p : Past) → FailsIn stands seen all left budget spare core p → Left M stands seen all left budget spare core p
left_failing M stands seen all left budget spare core front p s = record { front = front p s.stand; stand = λ e. s.stand; turned = s.turned; paid = s.paid }

-- ---- turns, whoever stood for the pasts between them

led : {C : Type 0} {stands : C → Past → Type 0} {seen : C → CoreSeen} {turns : List Turn} {worked : Bool} {left : List Turn} {past : Past} (t : InTurns stands seen turns worked left past) → LedIn (turns_in t) past
led starts = none_yet
led (takes_none worked left past event none before) = took_none (turns_in before) past event none (led before)
led (rests left past core stand takes nothing before) = led before
led (moves left past core event stand takes makes before) = moved_one (turns_in before) past _ event makes (led before)

led_up_to : {C : Type 0} {stands : C → Past → Type 0} {seen : C → CoreSeen} {turns left : List Turn} {past : Past} (t : UpToAFault stands seen turns left past) → LedIn (turns_up_to t) past
led_up_to (none_failed worked before) = led before
led_up_to (last_failed before core rest stand takes write turned) = led turned

pub led_so : {C : Type 0} {stands : C → Past → Type 0} {seen : C → CoreSeen} {turns left : List Turn} {past : Past} (t : UpToAFault stands seen turns left past) (least : ℕ) → least ≤ turns_up_to t → LedInAtLeast least past
led_so t least e = (turns_up_to t, e, led_up_to t)
