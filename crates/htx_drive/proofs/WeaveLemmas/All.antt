-- A move of one connection leads from a place of all to a place of all.
use Rattle.std.proofs.Common.{◌≡◌, ◌≢◌, ℕ, suc, ◌+◌, ◌-◌, ◌<◌, List, [], ◌∷◌, length, map, Bool, true, false, cond, eqb, Option, Some, None, refl, sym, ap, subst, ◌∙◌, inl, inr, arith}
use Rattle.std.specs.Prelude.{get_or, set, slice_get, Result, Ok, Err, OnOk, OnErr}
use Rattle.std.specs.List.{AllByRecursion, filter, sum_by}
use Rattle.std.proofs.lemmas.Bool.{eq-eqb, ne_eqb, cases_eq}
use Rattle.std.proofs.lemmas.List.{get_or-set_same, get_or-set_other, length-set}
use Rattle.std.proofs.lemmas.List.Sums.{sum_by-set}
use Rattle.std.proofs.lemmas.Option.{slice_get-get_or, slice_get_within, get_or_from_slice_get}
use Rattle.session_model.specs.Meaning.{Meaning}
use Rattle.session_core.specs.History.{Past}
use Rattle.px_link.specs.declared.turns.Turn.{Turn}
use Rattle.px_link.specs.Turns.{first_of, rest_of}
use Rattle.px_link.specs.Link.{Seen}
use Rattle.px_link.specs.Net.{Place, NetSeen}
use Rattle.px_pool.specs.Seats.{Seats, core_of, free_of}
use Rattle.htx_drive.specs.Machine.{CoreSeen}
use Rattle.htx_drive.specs.Replay.Memory.{turns_of}
use Rattle.htx_drive.specs.Weave.Woven.{Pays}
use Rattle.htx_drive.specs.Weave.State.{IsAt, IsFresh, MayMove}
use Rattle.htx_drive.specs.Weave.All.{IsNext, AreWithin, AllMay, AtPlace, AllAt}
use Rattle.htx_drive.specs.declared.weave.conn.Conn.{Conn}

-- ---- whose turn it is

abbrev of_cons : (number : ℕ) → (mine : Bool) → Turn → List (ℕ × Turn) → List Turn
of_cons number mine turn rest = cond mine (turn ∷ turns_of number rest) (turns_of number rest)

cons_turns : (number owner : ℕ) (turn : Turn) (rest : List (ℕ × Turn)) → turns_of number ((owner, turn) ∷ rest) ≡ of_cons number (eqb owner number) turn rest
cons_turns number owner turn rest = by_case (eqb owner number)
  where
    by_case : (mine : Bool) → map (λ (t : ℕ × Turn). t.1) (cond mine ((owner, turn) ∷ filter (λ (t : ℕ × Turn). eqb t.0 number) rest) (filter (λ (t : ℕ × Turn). eqb t.0 number) rest)) ≡ of_cons number mine turn rest
    by_case true = refl
    by_case false = refl

own_turns : (number : ℕ) (turn : Turn) (rest : List (ℕ × Turn)) → turns_of number ((number, turn) ∷ rest) ≡ turn ∷ turns_of number rest
own_turns number turn rest = cons_turns number number turn rest ∙ ap (λ b. of_cons number b turn rest) (eq-eqb number number refl)

pub next_first : (number : ℕ) (turn : Option Turn) (left : List (ℕ × Turn)) → IsNext number turn left → turn ≡ first_of (turns_of number left)
next_first number None left e = sym (ap (λ l. first_of (turns_of number l)) e)
next_first number (Some turn) left h = sym (ap (λ l. first_of (turns_of number l)) h.1 ∙ ap (λ l. first_of l) (own_turns number turn h.0))

pub next_rest : (number : ℕ) (turn : Option Turn) (left : List (ℕ × Turn)) → IsNext number turn left → rest_of (turns_of number left) ≡ turns_of number (rest_of left)
next_rest number None left e = ap (λ l. rest_of (turns_of number l)) e ∙ sym (ap (λ l. turns_of number (rest_of l)) e)
next_rest number (Some turn) left h = ap (λ l. rest_of (turns_of number l)) h.1 ∙ ap (λ l. rest_of l) (own_turns number turn h.0) ∙ sym (ap (λ l. turns_of number (rest_of l)) h.1)

pub other_rest : (number other : ℕ) (turn : Option Turn) (left : List (ℕ × Turn)) → other ≢ number → IsNext number turn left → turns_of other left ≡ turns_of other (rest_of left)
other_rest number other None left ne e = ap (λ l. turns_of other l) e ∙ sym (ap (λ l. turns_of other (rest_of l)) e)
other_rest number other (Some turn) left ne h =
    ap (λ l. turns_of other l) h.1 ∙ cons_turns other number turn h.0 ∙ ap (λ b. of_cons other b turn h.0) (ne_eqb number other (λ e. ne (sym e))) ∙ sym (ap (λ l. turns_of other (rest_of l)) h.1)

-- ---- one of them changed

pub some_is : {X : Type 0} (o : Option X) (x y : X) → o ≡ Some x → o ≡ Some y → x ≡ y
some_is o x y e f = cc

pub set_at : {X : Type 0} (xs : List X) (k : ℕ) (y x : X) → k < length xs → slice_get (set xs k y) k ≡ Some x → x ≡ y
set_at xs k y x h e = sym (get_or_from_slice_get (set xs k y) k x y e) ∙ get_or-set_same xs k y y h

pub set_length : {X : Type 0} (xs : List X) (k : ℕ) (y : X) → length (set xs k y) ≡ length xs
set_length xs k y = length-set xs k y

pub set_past : {X : Type 0} (xs : List X) (k other : ℕ) (y x : X) → other ≢ k → slice_get (set xs k y) other ≡ Some x → slice_get xs other ≡ Some x
set_past xs k other y x ne e =
    let within : other < length (set xs k y) = slice_get_within (set xs k y) other x e in
    let same = set_length xs k y in
    slice_get-get_or xs other x (omega (arith, within, same)) ∙ ap (λ z. Some z) (sym (get_or-set_other xs k other y x ne) ∙ get_or_from_slice_get (set xs k y) other x x e)

-- the others may be moved as before, and so may the one that was moved
pub may_all : {C L N : Type 0} (sees : C → CoreSeen) (sound : C → Type 0) (sees_net : N → NetSeen) (old new : Seats C) (conns : List (Conn L N)) (k : ℕ) (conn : Conn L N) → k < length conns
    → ((other : ℕ) → other ≢ suc k → core_of other new ≡ core_of other old) → MayMove sees sound conn.server (sees_net conn.net).lent conn.ran (core_of (suc k) new) → AllMay sees sound sees_net old conns → AllMay sees sound sees_net new (set conns k conn)
may_all {L = L} {N = N} sees sound sees_net old new conns k conn within others one all = λ place x e. elim (cases_eq place k) [
  | inl is ↦ (let at : slice_get (set conns k conn) k ≡ Some x = subst (λ (n : ℕ). slice_get (set conns k conn) n ≡ Some x) is e in
      let same : x ≡ conn = set_at conns k conn x within at in
      subst (λ (n : ℕ). MayMove sees sound x.server (sees_net x.net).lent x.ran (core_of (suc n) new)) (sym is)
      (subst (λ (y : Conn L N). MayMove sees sound y.server (sees_net y.net).lent y.ran (core_of (suc k) new)) (sym same) one))
  | inr ne ↦ (let was : slice_get conns place ≡ Some x = set_past conns k place conn x ne e in
      subst (λ o. MayMove sees sound x.server (sees_net x.net).lent x.ran o) (sym (others (suc place) (λ f. ne (not_suc place k f)))) (all place x was))
]
  where
    not_suc : (a b : ℕ) → suc a ≡ suc b → a ≡ b
    not_suc a b f = omega (arith, f)

pub may_at : {C L N : Type 0} (sees : C → CoreSeen) (sound : C → Type 0) (sees_net : N → NetSeen) (old new : Seats C) (conns : List (Conn L N)) (number k : ℕ) (conn : Conn L N) → number ≡ suc k → k < length conns
    → ((other : ℕ) → other ≢ number → core_of other new ≡ core_of other old) → MayMove sees sound conn.server (sees_net conn.net).lent conn.ran (core_of number new) → AllMay sees sound sees_net old conns → AllMay sees sound sees_net new (set conns k conn)
may_at sees sound sees_net old new conns number k conn e within =
    let P : ℕ → Type 0 = λ n. ((other : ℕ) → other ≢ n → core_of other new ≡ core_of other old) → MayMove sees sound conn.server (sees_net conn.net).lent conn.ran (core_of n new) → AllMay sees sound sees_net old conns → AllMay sees sound sees_net new (set conns k conn) in
    subst P (sym e) (may_all sees sound sees_net old new conns k conn within)

-- what it paid is still part of the budget
pub paid_on : (counts : List ℕ) (k count spare next budget : ℕ) → k < length counts → count + next ≡ get_or counts k 0 + spare → sum_by (λ (n : ℕ). n) counts + spare ≡ budget → sum_by (λ (n : ℕ). n) (set counts k count) + next ≡ budget
paid_on counts k count spare next budget h pays paid =
    let summed = sum_by-set (λ (n : ℕ). n) counts k count 0 h in
    omega (arith, summed, pays, paid)

-- ---- where all are

module _ {C L N : Type 0} (M : Meaning) (stands : C → Past → Type 0) (sees : C → CoreSeen) (sound : C → Type 0) (seen : L → Seen) (wrote : L → List ℕ → Type 0) (sees_net : N → NetSeen) (to : Place) (prompt : Bool) (turns : List (ℕ × Turn)) where
  -- it leads from its place to its place
  abbrev Stays : (left behind : List (ℕ × Turn)) → (old new : Seats C) → (spare next number : ℕ) → (was conn : Conn L N) → Type 0
  Stays left behind old new spare next number was conn =
      (first : Conn L N) (total : ℕ) → Pays total spare (AtPlace M stands sees sound seen wrote sees_net to prompt turns left first was old number) → Pays total next (AtPlace M stands sees sound seen wrote sees_net to prompt turns behind first conn new number)

  -- behind it nothing has happened to the free cores
  abbrev Frees : (left : List (ℕ × Turn)) → (old new : Seats C) → (spare number : ℕ) → (was : Conn L N) → Type 0
  Frees left old new spare number was = (first : Conn L N) (total : ℕ) → Pays total spare (AtPlace M stands sees sound seen wrote sees_net to prompt turns left first was old number) → AllByRecursion (IsFresh stands) (free_of new)

  same_place : (behind : List (ℕ × Turn)) (firsts conns : List (Conn L N)) (new : Seats C) (counts : List ℕ) (k count : ℕ) (first conn : Conn L N) → k < length conns → k < length counts → slice_get firsts k ≡ Some first
      → AtPlace M stands sees sound seen wrote sees_net to prompt turns behind first conn new (suc k) count
      → (f x : Conn L N) → slice_get firsts k ≡ Some f → slice_get (set conns k conn) k ≡ Some x → AtPlace M stands sees sound seen wrote sees_net to prompt turns behind f x new (suc k) (get_or (set counts k count) k 0)
  same_place behind firsts conns new counts k count first conn within counted has so f x hf hx =
      let a : Conn L N → Type 0 = λ z. AtPlace M stands sees sound seen wrote sees_net to prompt turns behind z conn new (suc k) count in
      let b : Conn L N → Type 0 = λ z. AtPlace M stands sees sound seen wrote sees_net to prompt turns behind f z new (suc k) count in
      let d : ℕ → Type 0 = λ n. AtPlace M stands sees sound seen wrote sees_net to prompt turns behind f x new (suc k) n in
      subst d (sym (get_or-set_same counts k count 0 counted)) (subst b (sym (set_at conns k conn x within hx)) (subst a (some_is (slice_get firsts k) first f has hf) so))

  other_place : (left behind : List (ℕ × Turn)) (old new : Seats C) (counts : List ℕ) (k count place : ℕ) (f x : Conn L N) → place ≢ k → turns_of (suc place) left ≡ turns_of (suc place) behind → core_of (suc place) new ≡ core_of (suc place) old
      → AtPlace M stands sees sound seen wrote sees_net to prompt turns left f x old (suc place) (get_or counts place 0) → AtPlace M stands sees sound seen wrote sees_net to prompt turns behind f x new (suc place) (get_or (set counts k count) place 0)
  other_place left behind old new counts k count place f x ne turned same so =
      let a : List Turn → Type 0 = λ l. IsAt M stands sees sound prompt (turns_of (suc place) turns) l seen wrote f.client x.client x.server to (sees_net f.net) (sees_net x.net) x.ran (core_of (suc place) old) (get_or counts place 0) in
      let b : Option C → Type 0 = λ o. IsAt M stands sees sound prompt (turns_of (suc place) turns) (turns_of (suc place) behind) seen wrote f.client x.client x.server to (sees_net f.net) (sees_net x.net) x.ran o (get_or counts place 0) in
      let d : ℕ → Type 0 = λ n. AtPlace M stands sees sound seen wrote sees_net to prompt turns behind f x new (suc place) n in
      subst d (sym (get_or-set_other counts k place count 0 ne)) (subst b (sym same) (subst a turned so))

  -- the one that moves, with what it has paid
  pub record Found (left : List (ℕ × Turn)) (firsts conns : List (Conn L N)) (old : Seats C) (counts : List ℕ) (spare k : ℕ) (was : Conn L N) : Type 0 where
    pub within : k < length conns
    pub counted : k < length counts
    pub first : Conn L N
    pub has : slice_get firsts k ≡ Some first
    pub at : Pays (get_or counts k 0 + spare) spare (AtPlace M stands sees sound seen wrote sees_net to prompt turns left first was old (suc k))

  pub finds : (left : List (ℕ × Turn)) (firsts conns : List (Conn L N)) (old : Seats C) (budget spare k : ℕ) (was : Conn L N) → slice_get conns k ≡ Some was → (all : AllAt M stands sees sound seen wrote sees_net to prompt turns left firsts conns old budget spare)
      → Found left firsts conns old all.counts spare k was
  finds left firsts conns old budget spare k was is all =
      let within : k < length conns = slice_get_within conns k was is in
      let as_many : length firsts ≡ length conns = all.as_many in
      let as_counted : length all.counts ≡ length conns = all.counted in
      let first : Conn L N = get_or firsts k was in
      let has : slice_get firsts k ≡ Some first = slice_get-get_or firsts k was (omega (arith, within, as_many)) in
      record { within = within; counted = omega (arith, within, as_counted); first = first; has = has; at = record { count = get_or all.counts k 0; is = refl; so = all.each k first was has is } }

  moves_all : (left behind : List (ℕ × Turn)) (firsts conns : List (Conn L N)) (old new : Seats C) (budget spare next k : ℕ) (was conn : Conn L N) → slice_get conns k ≡ Some was → length new.owners ≡ length old.owners → Stays left behind old new spare next (suc k) was conn
      → ((other : ℕ) → other ≢ suc k → core_of other new ≡ core_of other old) → ((other : ℕ) → other ≢ suc k → turns_of other left ≡ turns_of other behind) → Frees left old new spare (suc k) was
      → AllAt M stands sees sound seen wrote sees_net to prompt turns left firsts conns old budget spare → AllAt M stands sees sound seen wrote sees_net to prompt turns behind firsts (set conns k conn) new budget next
  moves_all left behind firsts conns old new budget spare next k was conn is sets one others turned fresh all =
      let found = finds left firsts conns old budget spare k was is all in
      let within = found.within in
      let counted = found.counted in
      let first = found.first in
      let has = found.has in
      let as_many : length firsts ≡ length conns = all.as_many in
      let as_counted : length all.counts ≡ length conns = all.counted in
      let p = one first (get_or all.counts k 0 + spare) found.at in
      record {
        counts = set all.counts k p.count;
        room = λ e. let room = all.room e in let same = set_length conns k conn in omega (arith, room, same, sets);
        as_many = as_many ∙ sym (set_length conns k conn);
        counted = set_length all.counts k p.count ∙ as_counted ∙ sym (set_length conns k conn);
        each = λ place f x hf hx. elim (cases_eq place k) [
          | inl e ↦ (
              let P : ℕ → Type 0 = λ n. slice_get firsts n ≡ Some f → slice_get (set conns k conn) n ≡ Some x → AtPlace M stands sees sound seen wrote sees_net to prompt turns behind f x new (suc n) (get_or (set all.counts k p.count) n 0) in
              subst P (sym e) (same_place behind firsts conns new all.counts k p.count first conn within counted has p.so f x) hf hx)
          | inr ne ↦ other_place left behind old new all.counts k p.count place f x ne (turned (suc place) (λ e. ne (not_suc place k e))) (others (suc place) (λ e. ne (not_suc place k e))) (all.each place f x hf (set_past conns k place conn x ne hx))
        ];
        paid = paid_on all.counts k p.count spare next budget counted p.is all.paid;
        fresh = fresh first (get_or all.counts k 0 + spare) found.at;
      }
    where
      not_suc : (a b : ℕ) → suc a ≡ suc b → a ≡ b
      not_suc a b e = omega (arith, e)

  -- of the connection of this number
  pub moves_at : (left behind : List (ℕ × Turn)) (firsts conns : List (Conn L N)) (old new : Seats C) (budget spare next number k : ℕ) (was conn : Conn L N) → number ≡ suc k → slice_get conns k ≡ Some was → length new.owners ≡ length old.owners → Stays left behind old new spare next number was conn
      → ((other : ℕ) → other ≢ number → core_of other new ≡ core_of other old) → ((other : ℕ) → other ≢ number → turns_of other left ≡ turns_of other behind) → Frees left old new spare number was
      → AllAt M stands sees sound seen wrote sees_net to prompt turns left firsts conns old budget spare → AllAt M stands sees sound seen wrote sees_net to prompt turns behind firsts (set conns k conn) new budget next
  moves_at left behind firsts conns old new budget spare next number k was conn e is sets =
      let P : ℕ → Type 0 = λ n. Stays left behind old new spare next n was conn
      → ((other : ℕ) → other ≢ n → core_of other new ≡ core_of other old) → ((other : ℕ) → other ≢ n → turns_of other left ≡ turns_of other behind) → Frees left old new spare n was
      → AllAt M stands sees sound seen wrote sees_net to prompt turns left firsts conns old budget spare → AllAt M stands sees sound seen wrote sees_net to prompt turns behind firsts (set conns k conn) new budget next in
      subst P (sym e) (moves_all left behind firsts conns old new budget spare next k was conn is sets)

-- ---- what a call answers

pub of_number : (n : ℕ) → 0 < n → n ≡ suc (n - 1)
of_number n h = omega (arith, h)

pub on_ok_at : {A E : Type 0} (r : Result A E) (Q : Type 0) → ((a : A) → r ≡ Ok a → Q) → OnOk r Q
on_ok_at (Ok a) Q f = f a refl
on_ok_at (Err e) Q f = tt

pub on_err_at : {A E : Type 0} (r : Result A E) (Q : Type 0) → ((e : E) → r ≡ Err e → Q) → OnErr r Q
on_err_at (Ok a) Q f = tt
on_err_at (Err e) Q f = f e refl

pub of_on_ok : {A E : Type 0} (r : Result A E) (P : Type 0) (a : A) → r ≡ Ok a → OnOk r P → P
of_on_ok {A = A} {E = E} r P a is h = let Q : Result A E → Type 0 = λ x. OnOk x P in subst Q is h

pub of_on_err : {A E : Type 0} (r : Result A E) (P : Type 0) (e : E) → r ≡ Err e → OnErr r P → P
of_on_err {A = A} {E = E} r P e is h = let Q : Result A E → Type 0 = λ x. OnErr x P in subst Q is h

-- ---- the list

pub none_left : {X : Type 0} (l : List X) → first_of l ≡ None → l ≡ []
none_left [] e = refl
none_left (x ∷ l) e = absurd (no_some e)
  where
    no_some : Some x ≡ None → ⊥
    no_some e = cc

pub head_is : {X : Type 0} (l : List X) (x : X) → first_of l ≡ Some x → l ≡ x ∷ rest_of l
head_is [] x e = absurd (no_some e)
  where
    no_some : None ≡ Some x → ⊥
    no_some e = cc
head_is (y ∷ l) x e = ap (λ z. z ∷ l) (same e)
  where
    same : Some y ≡ Some x → y ≡ x
    same e = cc

pub rest_within : (conns now : ℕ) (left behind : List (ℕ × Turn)) → now ≡ conns → behind ≡ rest_of left → AreWithin conns left → AreWithin now behind
rest_within conns now left behind e r all = subst (λ (n : ℕ). AreWithin n behind) (sym e) (subst (λ (l : List (ℕ × Turn)). AreWithin conns l) (sym r) (rest_all left all))
  where
    rest_all : (l : List (ℕ × Turn)) → AreWithin conns l → AreWithin conns (rest_of l)
    rest_all [] all = tt
    rest_all (t ∷ l) all = all.1
