-- Where a server stops that takes so many bytes.
use Rattle.std.proofs.Common.{◌≡◌, ℕ, ◌+◌, ◌<◌, ◌≤◌, List, [], ◌∷◌, ◌++◌, Bool, true, false, Option, Some, None, length, take, sym, ap, ◌∙◌, refl, arith, length-append}
use Rattle.std.specs.Prelude.{◌≢◌}
use Rattle.std.proofs.Math.Seq.{take-append_seam}
use Rattle.std.proofs.lemmas.Bool.{false≢true}
use Rattle.std.proofs.lemmas.List.{take_all}
use Rattle.htx_drive.specs.Replay.Replayed.{TakesSo, StopsSo}

more : (n : ℕ) (text taken rest : List ℕ) → text ≡ taken ++ rest → rest ≢ [] → length taken ≡ n → n < length text
more n text taken [] is some full = absurd (some refl)
more n text taken (x ∷ rest) is some full =
    let long : length text ≡ length taken + length (x ∷ rest) = ap length is ∙ length-append taken (x ∷ rest) in omega (arith, long, full)

front : (n : ℕ) (text taken rest : List ℕ) → text ≡ taken ++ rest → length taken ≡ n → taken ≡ take n text
front n text taken rest is full =
    sym (take-append_seam taken rest) ∙ ap (λ (k : ℕ). take k (taken ++ rest)) full ∙ ap (take n) (sym is)

whole : (n : ℕ) (text taken : List ℕ) → taken ≡ text → length taken ≤ n → (taken ≡ take n text) × (n < length text → ⊥)
whole n text taken is within =
    let long : length taken ≡ length text = ap length is in
    (is ∙ sym (take_all n text (omega (arith, long, within))), λ more. absurd (omega (arith, long, within, more)))

-- a server that took so stopped exactly where its text is longer
pub stops_so : (takes : Option ℕ) (stopped : Bool) (taken : List ℕ) → TakesSo takes stopped taken → StopsSo takes stopped taken
stops_so None stopped taken h = tt
stops_so (Some n) true taken h = λ text took. (front n text taken took.0 took.1 h, (λ _. more n text taken took.0 took.1 took.2 h, λ _. refl))
stops_so (Some n) false taken h = λ text took. let w = whole n text taken took h in (w.0, (λ e. absurd (false≢true e), λ long. absurd (w.1 long)))
