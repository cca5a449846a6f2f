-- One connection more, and its line.
use Rattle.std.proofs.Common.{◌≡◌, ℕ, ◌+◌, ◌<◌, ◌≤◌, ◌⊎◌, inl, inr, List, [], ◌∷◌, ◌++◌, length, Option, sym, subst, refl, arith}
use Rattle.px_link.specs.Net.{NetSeen}
use Rattle.px_link.specs.Told.{Gains, GainsFront}
use Rattle.serve_run.specs.declared.outcome.Outcome.{Outcome}
use Rattle.serve_run.specs.Lines.{line_of, lines_from}
use Rattle.serve_run.specs.Served.{Serves, NotAccepted, StopsAt}
use Rattle.serve_run.proofs.Chain.{serves_more}
use Rattle.serve_run.proofs.Outputs.{gains_as, gains_then, front_as, front_then, front_whole, lines_more}

length_more : (outcomes : List Outcome) (outcome : Outcome) → length (outcomes ++ outcome ∷ []) ≡ length outcomes + 1
length_more [] outcome = refl
length_more (first ∷ outcomes) outcome = let rest = length_more outcomes outcome in omega (rest, arith)

-- so many connections were served, and their lines written
abbrev Rounds : {N : Type 0} (One : N → N → Outcome → Type 0) (first now : N) (served : ℕ) (old new : Option (List ℕ)) → Type 0
Rounds One first now served old new = (outcomes : List Outcome) × (length outcomes ≡ served) × Serves One first outcomes now × Gains old new (lines_from 1 outcomes)

pub round_more : {N : Type 0} (One : N → N → Outcome → Type 0) (first last now : N) (served : ℕ) (old mid new : Option (List ℕ))
    → Rounds One first last served old mid → (outcome : Outcome) → One last now outcome → Gains mid new (line_of (served + 1) outcome)
    → Rounds One first now (served + 1) old new
round_more One first last now served old mid new h outcome one line =
    let count = h.1 in
    let number : served + 1 ≡ 1 + length h.0 = omega (count, arith) in
    let longer = length_more h.0 outcome in (
      h.0 ++ outcome ∷ [],
      omega (count, longer, arith),
      serves_more One first h.0 last now outcome h.2 one,
      gains_as old new (lines_from 1 h.0 ++ line_of (served + 1) outcome) (lines_from 1 (h.0 ++ outcome ∷ [])) (sym (lines_more 1 h.0 outcome (served + 1) number)) (gains_then old mid new (lines_from 1 h.0) (line_of (served + 1) outcome) h.3 line),
    )

-- at most so many connections were served, serving stopped behind them, and a prefix of their lines was written
abbrev Begun : {N : Type 0} (net_seen : N → NetSeen) (One : N → N → Outcome → Type 0) (Lost : N → N → Type 0) (first now : N) (count : ℕ) (old new : Option (List ℕ)) → Type 0
Begun {N} net_seen One Lost first now count old new =
    (outcomes : List Outcome) × (length outcomes ≤ count) × (last : N) × Serves One first outcomes last × StopsAt net_seen Lost last now × GainsFront old new (lines_from 1 outcomes)

pub round_broken : {N : Type 0} (net_seen : N → NetSeen) (One : N → N → Outcome → Type 0) (Lost : N → N → Type 0) (first last now : N) (served count : ℕ) (old mid new : Option (List ℕ))
    → served < count → Rounds One first last served old mid
    → (((new ≡ mid) × (NotAccepted (net_seen last) (net_seen now) ⊎ Lost last now)) ⊎ ((outcome : Outcome) × One last now outcome × GainsFront mid new (line_of (served + 1) outcome)))
    → Begun net_seen One Lost first now count old new
round_broken net_seen One Lost first last now served count old mid new fewer h (inl (same, stops)) =
    let length_is = h.1 in
    let P : Option (List ℕ) → Type 0 = λ o. Gains old o (lines_from 1 h.0) in
    (h.0, omega (length_is, arith), last, h.2, inr stops, front_whole old new (lines_from 1 h.0) (subst P (sym same) h.3))
round_broken net_seen One Lost first last now served count old mid new fewer h (inr k) =
    let length_is = h.1 in
    let number : served + 1 ≡ 1 + length h.0 = omega (length_is, arith) in
    let longer = length_more h.0 k.0 in (
      h.0 ++ k.0 ∷ [],
      omega (length_is, longer, arith),
      now,
      serves_more One first h.0 last now k.0 h.2 k.1,
      inl refl,
      front_as old new (lines_from 1 h.0 ++ line_of (served + 1) k.0) (lines_from 1 (h.0 ++ k.0 ∷ [])) (sym (lines_more 1 h.0 k.0 (served + 1) number)) (front_then old mid new (lines_from 1 h.0) (line_of (served + 1) k.0) h.3 k.2),
    )
