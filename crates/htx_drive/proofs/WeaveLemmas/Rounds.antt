-- Each move keeps the cores with connections that have not ended, and each round lowers what is left or how many these are.
use Rattle.std.proofs.Common.{◌≡◌, ◌≢◌, ℕ, suc, ◌+◌, ◌<◌, List, [], ◌∷◌, length, true, false, ◌||◌, Option, Some, None, refl, sym, ap, subst, ◌∙◌, inl, inr, arith}
use Rattle.std.specs.Prelude.{get_or, set, slice_get, drop, is_some, ◌⊎◌, Result}
use Rattle.std.proofs.Math.Seq.{drop-cons}
use Rattle.std.proofs.Math.Numerals.{suc-eq-add-one}
use Rattle.std.proofs.lemmas.Bool.{eq-eqb, cases_eq, true≢false, false≢true}
use Rattle.std.proofs.lemmas.List.{get_or-set_same, get_or-set_other, set-get_or}
use Rattle.std.proofs.lemmas.List.Sums.{sum_by-cons, sum_by-set, get_or-le-sum_by}
use Rattle.std.proofs.lemmas.Option.{slice_get-get_or, slice_get_within, get_or_from_slice_get}
use Rattle.px_pool.specs.Owners.{has_one, all_out, count_out, SameBeside}
use Rattle.px_pool.specs.Seats.{Seats}
use Rattle.htx_drive.specs.declared.Ran.{Ran}
use Rattle.htx_drive.specs.declared.SessionFault.{SessionFault}
use Rattle.htx_drive.specs.Weave.Rounds.{still_on, unended, Idles, Rested, MovedOn, RestedAt, AllMovedOn}
use Rattle.htx_drive.specs.Weave.All.{IsSeated}
use Rattle.htx_drive.specs.declared.weave.conn.Conn.{Conn}
use Rattle.htx_drive.proofs.WeaveLemmas.All.{some_is, set_length}

none_some : {X : Type 0} (o : Option X) → o ≡ None → is_some o ≡ true → ⊥
none_some o e h = true≢false (sym h ∙ ap is_some e)

-- ---- the connections that have cores

set_get : {X : Type 0} (xs : List X) (k : ℕ) (y d : X) → k < length xs → slice_get (set xs k y) k ≡ Some y
set_get xs k y d h =
    let same = set_length xs k y in
    slice_get-get_or (set xs k y) k d (omega (arith, h, same)) ∙ ap (λ z. Some z) (get_or-set_same xs k y d h)

set_still : {X : Type 0} (xs : List X) (k other : ℕ) (y x : X) → other ≢ k → slice_get xs other ≡ Some x → slice_get (set xs k y) other ≡ Some x
set_still xs k other y x ne e =
    let within : other < length xs = slice_get_within xs other x e in
    let same = set_length xs k y in
    slice_get-get_or (set xs k y) other x (omega (arith, within, same)) ∙ ap (λ z. Some z) (get_or-set_other xs k other y x ne ∙ get_or_from_slice_get xs other x x e)

module _ {C L N : Type 0} (old new : Seats C) (conns : List (Conn L N)) (k : ℕ) (was conn : Conn L N) where
  -- the connection that moved has not ended, if it has a core
  own_ran : (before now : Option (Result Ran SessionFault)) → was.ran ≡ before → conn.ran ≡ now → slice_get conns k ≡ Some was → (is_some was.ran ≡ true → (conn ≡ was) × (new ≡ old))
      → (was.ran ≡ None → is_some conn.ran ≡ true → has_one (suc k) new.owners ≡ false) → ((number : ℕ) → has_one number old.owners ≡ true → IsSeated number conns) → has_one (suc k) new.owners ≡ true → conn.ran ≡ None
  own_ran before None b n is ended gone all has = n
  own_ran None (Some r) b n is ended gone all has = absurd (false≢true (sym (gone b (ap is_some n)) ∙ has))
  own_ran (Some q) (Some r) b n is ended gone all has =
      let same = (ended (ap is_some b)).1 in
      let s = all (suc k) (sym (ap (λ (p : Seats C). has_one (suc k) p.owners) same) ∙ has) in
      let at : slice_get conns k ≡ Some s.conn = subst (λ (n : ℕ). slice_get conns n ≡ Some s.conn) (sym (not_suc k s.place s.is)) s.at in
      let none : was.ran ≡ None = ap (λ (x : Conn L N). x.ran) (some_is (slice_get conns k) was s.conn is at) ∙ s.goes_on in
      absurd (none_some was.ran none (ap is_some b))
    where
      not_suc : (a c : ℕ) → suc a ≡ suc c → a ≡ c
      not_suc a c e = omega (arith, e)

  seats_all : slice_get conns k ≡ Some was → SameBeside (suc k) old.owners new.owners → (is_some was.ran ≡ true → (conn ≡ was) × (new ≡ old))
      → (was.ran ≡ None → is_some conn.ran ≡ true → has_one (suc k) new.owners ≡ false) → ((number : ℕ) → has_one number old.owners ≡ true → IsSeated number conns)
      → (number : ℕ) → has_one number new.owners ≡ true → IsSeated number (set conns k conn)
  seats_all is beside ended gone all = λ number has. elim (cases_eq number (suc k)) [
    | inl e ↦ (let own : has_one (suc k) new.owners ≡ true = subst (λ (n : ℕ). has_one n new.owners ≡ true) e has in
        record { place = k; conn = conn; is = e; at = set_get conns k conn was (slice_get_within conns k was is); goes_on = own_ran was.ran conn.ran refl refl is ended gone all own })
    | inr ne ↦ (let s = all number (sym (beside.others number ne) ∙ has) in
        record { place = s.place; conn = s.conn; is = s.is; at = set_still conns k s.place conn s.conn (λ e. ne (s.is ∙ ap (λ (n : ℕ). suc n) e)) s.at; goes_on = s.goes_on })
  ]

  pub seats_at : (number : ℕ) → number ≡ suc k → slice_get conns k ≡ Some was → SameBeside number old.owners new.owners → (is_some was.ran ≡ true → (conn ≡ was) × (new ≡ old))
      → (was.ran ≡ None → is_some conn.ran ≡ true → has_one number new.owners ≡ false) → ((number : ℕ) → has_one number old.owners ≡ true → IsSeated number conns)
      → (other : ℕ) → has_one other new.owners ≡ true → IsSeated other (set conns k conn)
  seats_at number e is beside ended gone all =
      let P : ℕ → Type 0 = λ n. SameBeside n old.owners new.owners → (was.ran ≡ None → is_some conn.ran ≡ true → has_one n new.owners ≡ false) → (other : ℕ) → has_one other new.owners ≡ true → IsSeated other (set conns k conn) in
      subst P (sym e) (λ b g. seats_all is b ended g all) beside gone

  -- ---- what a move lowers

  moved_all : (before left : ℕ) → slice_get conns k ≡ Some was → MovedOn was conn before left → AllMovedOn conns (set conns k conn) before left
  moved_all before left is m =
      let within : k < length conns = slice_get_within conns k was is in
      let summed : unended (set conns k conn) + still_on (get_or conns k was).ran ≡ unended conns + still_on conn.ran = sum_by-set (λ (x : Conn L N). still_on x.ran) conns k conn was within in
      let own : still_on (get_or conns k was).ran ≡ still_on was.ran = ap (λ (x : Conn L N). still_on x.ran) (get_or_from_slice_get conns k was was is) in
      omega (arith, summed, own, m)

  rested_all : (number before left : ℕ) → number ≡ suc k → slice_get conns k ≡ Some was → Rested number old new was conn before left → RestedAt k old new conns (set conns k conn) before left
  rested_all number before left e is r =
      record {
        same_pool = r.same_pool;
        same_conns = ap (λ x. set conns k x) (r.same_conn ∙ sym (get_or_from_slice_get conns k was was is)) ∙ set-get_or conns k was;
        same_left = r.same_left;
        why = λ x hx.
            let P : Conn L N → Type 0 = λ y. Idles (suc k) old.owners y.ran in
            let Q : ℕ → Type 0 = λ n. Idles n old.owners was.ran in
            subst P (some_is (slice_get conns k) was x is hx) (subst Q e r.why);
      }

  pub lowers_at : (number before left : ℕ) → number ≡ suc k → slice_get conns k ≡ Some was → (MovedOn was conn before left ⊎ Rested number old new was conn before left)
      → AllMovedOn conns (set conns k conn) before left ⊎ RestedAt k old new conns (set conns k conn) before left
  lowers_at number before left e is (inl m) = inl (moved_all before left is m)
  lowers_at number before left e is (inr r) = inr (rested_all number before left e is r)

-- ---- a round

-- none of the connections up to this place made a move
pub record Rests {C L N : Type 0} (places : ℕ) (old new : Seats C) (were conns : List (Conn L N)) (before left : ℕ) : Type 0 where
  pub same_pool : new ≡ old
  pub same_conns : conns ≡ were
  pub same_left : left ≡ before
  pub why : (place : ℕ) (conn : Conn L N) → place < places → slice_get were place ≡ Some conn → Idles (suc place) old.owners conn.ran

module _ {C L N : Type 0} (place : ℕ) (old middle new : Seats C) (were conns next : List (Conn L N)) (before left behind : ℕ) where
  pub round_on : (at : ℕ) → at ≡ place → (AllMovedOn were conns before left ⊎ Rests place old middle were conns before left) → (AllMovedOn conns next left behind ⊎ RestedAt at middle new conns next left behind)
      → AllMovedOn were next before behind ⊎ Rests (place + 1) old new were next before behind
  round_on at e (inl a) (inl b) = inl (omega (arith, a, b))
  round_on at e (inl a) (inr r) =
      let same : unended next ≡ unended conns = ap (λ (l : List (Conn L N)). unended l) r.same_conns in
      let spare = r.same_left in
      inl (omega (arith, a, same, spare))
  round_on at e (inr s) (inl b) =
      let same : unended conns ≡ unended were = ap (λ (l : List (Conn L N)). unended l) s.same_conns in
      let spare = s.same_left in
      inl (omega (arith, b, same, spare))
  round_on at e (inr s) (inr r) =
      inr (record {
        same_pool = r.same_pool ∙ s.same_pool;
        same_conns = r.same_conns ∙ s.same_conns;
        same_left = r.same_left ∙ s.same_left;
        why = λ other x h hx. elim (cases_eq other place) [
          | inl is ↦ (
              let P : ℕ → Type 0 = λ n. slice_get were n ≡ Some x → Idles (suc n) old.owners x.ran in
              let Q : Seats C → Type 0 = λ p. Idles (suc at) p.owners x.ran in
              subst P (e ∙ sym is) (λ hat. subst Q s.same_pool (r.why x (subst (λ (l : List (Conn L N)). slice_get l at ≡ Some x) (sym s.same_conns) hat))) hx)
          | inr ne ↦ s.why other x (omega (arith, h, ne)) hx
        ];
      })

-- some connection has a core, where all are out
owned : (owners : List (Option ℕ)) → 0 < length owners → all_out owners ≡ true → (number : ℕ) × (has_one number owners ≡ true)
owned [] h e = absurd (omega (arith, h))
owned (None ∷ owners) h e = absurd (false≢true e)
owned (Some number ∷ owners) h e = (number, ap (λ b. b || has_one number owners) (eq-eqb number number refl))

ended_all : {L N : Type 0} (conns : List (Conn L N)) → ((place : ℕ) (conn : Conn L N) → slice_get conns place ≡ Some conn → still_on conn.ran ≡ 0) → unended conns ≡ 0
ended_all [] h = refl
ended_all (conn ∷ conns) h =
    let one = h 0 conn refl in
    let rest : unended conns ≡ 0 = ended_all conns (λ place x hx. h (suc place) x hx) in
    let both : unended (conn ∷ conns) ≡ still_on conn.ran + unended conns = sum_by-cons (λ (x : Conn _ _). still_on x.ran) conn conns in
    omega (arith, one, rest, both)

module _ {C L N : Type 0} (pool : Seats C) (conns : List (Conn L N)) where
  -- where none makes a move all have ended: the first that has a core makes one
  no_move : 0 < length pool.owners → ((number : ℕ) → has_one number pool.owners ≡ true → IsSeated number conns)
      → ((place : ℕ) (conn : Conn L N) → slice_get conns place ≡ Some conn → Idles (suc place) pool.owners conn.ran) → (place : ℕ) (conn : Conn L N) → Idles (suc place) pool.owners conn.ran → still_on conn.ran ≡ 0
  no_move some seated idle place conn (inl e) = e
  no_move some seated idle place conn (inr waits) =
      let o = owned pool.owners some waits.1 in
      let s = seated o.0 o.1 in
      absurd (moves s.place s.conn (subst (λ (n : ℕ). has_one n pool.owners ≡ true) s.is o.1) s.goes_on (idle s.place s.conn s.at))
    where
      moves : (at : ℕ) (x : Conn L N) → has_one (suc at) pool.owners ≡ true → x.ran ≡ None → Idles (suc at) pool.owners x.ran → ⊥
      moves at x has none (inl e) = let one : 1 ≡ 0 = sym (ap still_on none) ∙ e in omega (arith, one)
      moves at x has none (inr w) = false≢true (sym w.0 ∙ has)

  pub round_lowers : (new : Seats C) (next : List (Conn L N)) (places before left : ℕ) → places ≡ length conns → 0 < length pool.owners → ((number : ℕ) → has_one number pool.owners ≡ true → IsSeated number conns)
      → 0 < unended conns → (AllMovedOn conns next before left ⊎ Rests places pool new conns next before left) → left + unended next < before + unended conns
  round_lowers new next places before left e some seated h (inl a) = a
  round_lowers new next places before left e some seated h (inr r) =
      let idle : (place : ℕ) (conn : Conn L N) → slice_get conns place ≡ Some conn → Idles (suc place) pool.owners conn.ran = λ place conn hx. r.why place conn (subst (λ (n : ℕ). place < n) (sym e) (slice_get_within conns place conn hx)) hx in
      let none : unended conns ≡ 0 = ended_all conns (λ place conn hx. no_move some seated idle place conn (idle place conn hx)) in
      absurd (omega (arith, h, none))

-- ---- whether all have ended

next_on : {L N : Type 0} (conns : List (Conn L N)) (i : ℕ) (d : Conn L N) → i < length conns → unended (drop i conns) ≡ still_on (get_or conns i d).ran + unended (drop (i + 1) conns)
next_on {L = L} {N = N} conns i d h =
    ap (λ (l : List (Conn L N)). unended l) (drop-cons conns i d h ∙ ap (λ k. get_or conns i d ∷ drop k conns) (suc-eq-add-one i)) ∙ sum_by-cons (λ (x : Conn L N). still_on x.ran) (get_or conns i d) (drop (i + 1) conns)

on_some : (ran : Option (Result Ran SessionFault)) → is_some ran ≡ true → still_on ran ≡ 0
on_some None e = absurd (false≢true e)
on_some (Some ran) e = refl

on_none : (ran : Option (Result Ran SessionFault)) → is_some ran ≡ false → still_on ran ≡ 1
on_none None e = refl
on_none (Some ran) e = absurd (true≢false e)

pub passes_one : {L N : Type 0} (conns : List (Conn L N)) (i total : ℕ) (x : Conn L N) → i < length conns → x ≡ get_or conns i x → is_some x.ran ≡ true → unended (drop i conns) ≡ total → unended (drop (i + 1) conns) ≡ total
passes_one {L = L} {N = N} conns i total x h is e p =
    let own : still_on (get_or conns i x).ran ≡ 0 = sym (ap (λ (y : Conn L N). still_on y.ran) is) ∙ on_some x.ran e in
    let next = next_on conns i x h in
    omega (arith, own, next, p)

pub finds_one : {L N : Type 0} (conns : List (Conn L N)) (i total : ℕ) (x : Conn L N) → i < length conns → x ≡ get_or conns i x → is_some x.ran ≡ false → unended (drop i conns) ≡ total → 0 < total
finds_one {L = L} {N = N} conns i total x h is e p =
    let own : still_on (get_or conns i x).ran ≡ 1 = sym (ap (λ (y : Conn L N). still_on y.ran) is) ∙ on_none x.ran e in
    let next = next_on conns i x h in
    omega (arith, own, next, p)

-- ---- all have ended

pub has_ended : {L N : Type 0} (conns : List (Conn L N)) (place : ℕ) (conn : Conn L N) → unended conns ≡ 0 → slice_get conns place ≡ Some conn → still_on conn.ran ≡ 0
has_ended {L = L} {N = N} conns place conn none is =
    let within : place < length conns = slice_get_within conns place conn is in
    let most = get_or-le-sum_by (λ (x : Conn L N). still_on x.ran) conns place conn within in
    let own : still_on (get_or conns place conn).ran ≡ still_on conn.ran = ap (λ (x : Conn L N). still_on x.ran) (get_or_from_slice_get conns place conn conn is) in
    omega (arith, most, own, none)

none_out : (owners : List (Option ℕ)) → ((number : ℕ) → has_one number owners ≡ true → ⊥) → count_out owners ≡ 0
none_out [] h = refl
none_out (None ∷ owners) h = let rest = none_out owners (λ number e. h number e) in omega (arith, rest)
none_out (Some number ∷ owners) h = absurd (h number (ap (λ b. b || has_one number owners) (eq-eqb number number refl)))

pub all_back : {L N : Type 0} (owners : List (Option ℕ)) (conns : List (Conn L N)) → unended conns ≡ 0 → ((number : ℕ) → has_one number owners ≡ true → IsSeated number conns) → count_out owners ≡ 0
all_back owners conns none seated = none_out owners (λ number has.
    let s = seated number has in
    let one : 1 ≡ 0 = sym (ap still_on s.goes_on) ∙ has_ended conns s.place s.conn none s.at in
    omega (arith, one))
