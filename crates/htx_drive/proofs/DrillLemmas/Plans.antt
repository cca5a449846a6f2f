-- Draws in turn.
use Rattle.std.proofs.Common.{◌≡◌, ℕ, suc, ◌+◌, ◌-◌, ◌<◌, ◌%◌, List, [], ◌∷◌, ◌++◌, sym, ap, ◌∙◌, refl, append_assoc, arith}
use Rattle.htx_drive.specs.Drill.Plan.{next_state, draw_of, lengths_of, plan_of, plans_of}

abbrev behind : List ℕ → List ℕ × ℕ → List ℕ × ℕ
behind front rest = (front ++ rest.0, rest.1)

lengths_step : (more state : ℕ) → lengths_of (suc more) state ≡ behind (draw_of (next_state state) % 32 ∷ []) (lengths_of more (next_state state))
unfolding lengths_of
lengths_step more state = refl

behind_twice : (front : List ℕ) (n : ℕ) (rest : List ℕ × ℕ) → behind front (behind (n ∷ []) rest) ≡ behind (front ++ n ∷ []) rest
behind_twice front n rest = ap (λ (l : List ℕ). (l, rest.1)) (sym (append_assoc front (n ∷ []) rest.0))

-- one more length is drawn
pub lengths_more : (front : List ℕ) (count at state next drawn : ℕ) (all : List ℕ × ℕ) → at < count → next ≡ next_state state → drawn ≡ draw_of (next_state state) → behind front (lengths_of (count - at) state) ≡ all
    → behind (front ++ drawn % 32 ∷ []) (lengths_of (count - (at + 1)) next) ≡ all
lengths_more front count at state next drawn all less to is so =
    let left : count - at ≡ suc (count - (at + 1)) = omega arith in
    ap (λ (s : ℕ). behind (front ++ drawn % 32 ∷ []) (lengths_of (count - (at + 1)) s)) to
    ∙ ap (λ (d : ℕ). behind (front ++ d % 32 ∷ []) (lengths_of (count - (at + 1)) (next_state state))) is
    ∙ sym (behind_twice front (draw_of (next_state state) % 32) (lengths_of (count - (at + 1)) (next_state state)))
    ∙ ap (behind front) (sym (lengths_step (count - (at + 1)) state))
    ∙ ap (λ (n : ℕ). behind front (lengths_of n state)) (sym left)
    ∙ so

plans_suc : (more state : ℕ) → plans_of (suc more) state ≡ (plan_of state).0 ∷ plans_of more (plan_of state).1
unfolding plans_of
plans_suc more state = refl

plans_zero : (state : ℕ) → plans_of 0 state ≡ []
unfolding plans_of
plans_zero state = refl

pub plans_step : (count at state : ℕ) → at < count → plans_of (count - at) state ≡ (plan_of state).0 ∷ plans_of (count - (at + 1)) (plan_of state).1
plans_step count at state less =
    let left : count - at ≡ suc (count - (at + 1)) = omega arith in ap (λ (n : ℕ). plans_of n state) left ∙ plans_suc (count - (at + 1)) state

pub plans_none : (count at state : ℕ) → count - at ≡ 0 → plans_of (count - at) state ≡ []
plans_none count at state none = ap (λ (n : ℕ). plans_of n state) none ∙ plans_zero state
