-- Once all that can be done is done, some want stands.
use Rattle.std.proofs.Common.{◌≡◌, ◌≢◌, ℕ, ◌<◌, nat_lt, List, [], ◌∷◌, Bool, true, false, not, ◌&&◌, ◌||◌, Option, Some, None, is_some, sym, ap, subst, ◌∙◌, refl, ◌⊎◌, inl, inr, arith, if◌then◌else◌}
use Rattle.session_core.specs.Sided.{RequestSeen, AnswerSeen}
use Rattle.session_core.specs.Leads.{AnswerWaits}
use Rattle.session_core.specs.History.{close_by}
use Rattle.session_core.specs.Waits.{is_empty, is_serving, is_opening, takes_client, is_turned, has_ended, SayWaits, wants_of, wants_any, RequestWaits, AnswerWaitsAt, Stepped, Answered, Ready, IsSaying, refused_phase, Settled}
use Rattle.http_model.specs.declared.Source.TheVariants as source
use Rattle.session_core.specs.declared.Told.TheVariants as told
use Rattle.session_core.specs.declared.Phase.{Phase}
use Rattle.session_core.specs.declared.Phase.TheVariants as phase
use Rattle.session_core.specs.declared.machine.At.{At}
use Rattle.session_core.specs.declared.machine.Wants.{Wants}

full : (xs : List ℕ) → xs ≢ [] → is_empty xs ≡ false
full [] h = absurd (h refl)
full (x ∷ xs) h = refl

less : (n : ℕ) → 0 < n → nat_lt 0 n ≡ true
less n h = grind (arith, h)

or_left : (a b : Bool) → a ≡ true → a || b ≡ true
or_left a b e = rw e refl

or_right : (a b : Bool) → b ≡ true → a || b ≡ true
or_right true b e = refl
or_right false b e = e

and_all : (a b c : Bool) → a ≡ true → b ≡ true → c ≡ true → a && b && c ≡ true
and_all a b c d e f = rw d (rw e (rw f refl))

-- the wants one by one
reads : (w : Wants) → w.client_read ≡ true → wants_any w ≡ true
reads w e = rw e refl

writes : (w : Wants) → w.client_write ≡ true → wants_any w ≡ true
writes w e = or_left _ _ (or_left _ _ (or_left _ _ (or_left _ _ (or_left _ _ (or_right w.client_read w.client_write e)))))

opens : (w : Wants) → w.server_open ≡ true → wants_any w ≡ true
opens w e = or_left _ _ (or_left _ _ (or_left _ _ (or_left _ _ (or_right _ w.server_open e))))

server_reads : (w : Wants) → w.server_read ≡ true → wants_any w ≡ true
server_reads w e = or_left _ _ (or_left _ _ (or_left _ _ (or_right _ w.server_read e)))

server_writes : (w : Wants) → w.server_write ≡ true → wants_any w ≡ true
server_writes w e = or_left _ _ (or_left _ _ (or_right _ w.server_write e))

closes : (w : Wants) → is_some w.server_close ≡ true → wants_any w ≡ true
closes w e = or_left _ _ (or_right _ (is_some w.server_close) e)

overs : (w : Wants) → is_some w.over ≡ true → wants_any w ≡ true
overs w e = or_right _ (is_some w.over) e

client_takes : (q : RequestSeen) (a : AnswerSeen) (at : At) → a.window ≢ [] → wants_any (wants_of q a at) ≡ true
client_takes q a at h = writes (wants_of q a at) (ap not (full a.window h))

client_gives : (q : RequestSeen) (a : AnswerSeen) (at : At) → takes_client q.source at.phase ≡ true → q.is_open ≡ true → 0 < q.room → wants_any (wants_of q a at) ≡ true
client_gives q a at t o r = reads (wants_of q a at) (and_all (takes_client q.source at.phase) q.is_open (nat_lt 0 q.room) t o (less q.room r))

close_some : (b : Bool) (cut : Option Bool) → b ≡ true → is_some (if b then Some (close_by cut) else None) ≡ true
close_some b cut e = rw e refl

-- while a server is open, by what has ended
serving_wants : (q : RequestSeen) (a : AnswerSeen) (at : At) → at.phase ≡ phase.Serving → RequestWaits q → AnswerWaitsAt at.cut a → wants_any (wants_of q a at) ≡ true
serving_wants q a at is r s = by_sent q.sent refl
  where
    serving : is_serving at.phase ≡ true
    serving = ap is_serving is

    ended : q.sent ≡ true → (xs : List ℕ) → q.window ≡ xs → (answered : Bool) → a.answered ≡ answered → wants_any (wants_of q a at) ≡ true
    ended sent (x ∷ xs) w answered e = server_writes (wants_of q a at) (rw serving (rw w refl))
    ended sent [] w true e = closes (wants_of q a at) (close_some (is_serving at.phase && has_ended q a) at.cut (rw serving (rw sent (rw w (rw e refl)))))
    ended sent [] w false e = waits (s.1 e)
      where
        waits : (a.window ≢ []) ⊎ ((is_turned at.cut ≡ false) × (a.told ≡ told.Going) × (a.is_open ≡ true) × (0 < a.room)) → wants_any (wants_of q a at) ≡ true
        waits (inl h) = client_takes q a at h
        waits (inr h) = server_reads (wants_of q a at) (rw serving (rw h.0 (rw h.1 (rw h.2 (less a.room h.3)))))

    unsent : (q.window ≢ []) ⊎ ((q.source ≡ source.Going) × (q.is_open ≡ true) × (0 < q.room)) → wants_any (wants_of q a at) ≡ true
    unsent (inl h) = server_writes (wants_of q a at) (rw serving (ap not (full q.window h)))
    unsent (inr h) = client_gives q a at (rw is (rw h.0 refl)) h.1 h.2

    by_sent : (sent : Bool) → q.sent ≡ sent → wants_any (wants_of q a at) ≡ true
    by_sent true e = ended e q.window refl a.answered refl
    by_sent false e = unsent (r.1 e)

over_wants : (q : RequestSeen) (a : AnswerSeen) (at : At) (how : _) → at.phase ≡ phase.Over how → wants_any (wants_of q a at) ≡ true
over_wants q a at how is = by a.window refl
  where
    by : (xs : List ℕ) → a.window ≡ xs → wants_any (wants_of q a at) ≡ true
    by [] e = overs (wants_of q a at) (rw is (rw e refl))
    by (x ∷ xs) e = writes (wants_of q a at) (rw e refl)

by_phase : (q : RequestSeen) (a : AnswerSeen) (at : At) (ph : Phase) → at.phase ≡ ph → Settled ph at.cut q a → wants_any (wants_of q a at) ≡ true
by_phase q a at phase.Reading is h = client_gives q a at (rw is refl) h.1 h.2
by_phase q a at phase.Opening is h = opens (wants_of q a at) (ap is_opening is)
by_phase q a at phase.Unserved is h = absurd h
by_phase q a at phase.Serving is h = serving_wants q a at is h.0 h.1
by_phase q a at phase.Served is h = absurd h
by_phase q a at phase.Refusing is h = client_takes q a at h
by_phase q a at (phase.Replying kept) is h = client_takes q a at h
by_phase q a at (phase.Over how) is h = over_wants q a at how is

-- behind work some want stands, or the session is over
pub some_want : (q : RequestSeen) (a : AnswerSeen) (at : At) → Settled at.phase at.cut q a → wants_any (wants_of q a at) ≡ true
some_want q a at h = by_phase q a at at.phase refl h

-- ---- from one part of work to the next

pub ready_stepped : (ph : Phase) (cut : Option Bool) (q : RequestSeen) (a : AnswerSeen) → Stepped ph q → Answered (refused_phase ph) cut a → Ready (refused_phase ph) cut q a
ready_stepped phase.Reading cut q a s t = tt
ready_stepped phase.Opening cut q a s t = tt
ready_stepped phase.Unserved cut q a s t = t
ready_stepped phase.Serving cut q a s t = (s, t)
ready_stepped phase.Served cut q a s t = tt
ready_stepped phase.Refusing cut q a s t = t
ready_stepped (phase.Replying kept) cut q a s t = t
ready_stepped (phase.Over how) cut q a s t = tt

pub ready_saying : (ph : Phase) (cut : Option Bool) (q : RequestSeen) (a : AnswerSeen) → IsSaying ph → Answered ph cut a → Ready ph cut q a
ready_saying phase.Refusing cut q a s t = t
ready_saying (phase.Replying kept) cut q a s t = t
ready_saying _ cut q a s t = absurd s

pub serving_refused : (ph : Phase) → is_serving (refused_phase ph) ≡ is_serving ph
serving_refused phase.Unserved = refl
serving_refused _ = refl

pub not_turned : (cut : Option Bool) → cut ≢ Some false → is_turned cut ≡ false
not_turned None h = refl
not_turned (Some true) h = refl
not_turned (Some false) h = absurd (h refl)

pub waits_unturned : (cut : Option Bool) (a : AnswerSeen) → is_turned cut ≡ false → AnswerWaits a → AnswerWaitsAt cut a
waits_unturned cut a e w = (λ _. w.0, λ unanswered. by (w.1 unanswered))
  where
    by : (a.window ≢ []) ⊎ ((a.told ≡ told.Going) × (a.is_open ≡ true) × (0 < a.room)) → (a.window ≢ []) ⊎ ((is_turned cut ≡ false) × (a.told ≡ told.Going) × (a.is_open ≡ true) × (0 < a.room))
    by (inl h) = inl h
    by (inr h) = inr (e, h.0, h.1, h.2)

-- what is said in the answer's place
pub waits_said : (cut : Option Bool) (a : AnswerSeen) → cut ≡ Some false → SayWaits a → AnswerWaitsAt cut a
waits_said cut a e w = (λ t. let no : true ≡ false = ap is_turned (sym e) ∙ t in absurd (grind (arith, no)), λ un. inl (w un))

pub ready_first : (ph was now : Phase) (cut : Option Bool) (q r s : RequestSeen) (a : AnswerSeen)
    → Stepped ph q → was ≡ refused_phase ph → r ≡ q → now ≡ was → s ≡ r → Answered now cut a → Ready now cut s a
ready_first ph was now cut q r s a stepped e f g h answered =
    let A : Phase → Type 0 = λ x. Answered x cut a in
    let P : Phase → Type 0 = λ x. Ready x cut s a in
    let Q : RequestSeen → Type 0 = λ q. Ready (refused_phase ph) cut q a in
    subst P (sym (g ∙ e)) (subst Q (sym (h ∙ f)) (ready_stepped ph cut q a stepped (subst A (g ∙ e) answered)))

pub ready_again : (was now : Phase) (cut : Option Bool) (q : RequestSeen) (a : AnswerSeen) → IsSaying was → now ≡ was → Answered now cut a → Ready now cut q a
ready_again was now cut q a saying e answered = let P : Phase → Type 0 = λ x. IsSaying x in ready_saying now cut q a (subst P (sym e) saying) answered
