-- Where the directions of a core stand when it asks them.
use Rattle.std.proofs.Common.{◌≡◌, Bool, true, false, refl, if◌then◌else◌, Option, Some, None, sym, ap, subst, inl, inr}
use Rattle.session_core.specs.Sided.{AnswerSeen}
use Rattle.session_core.specs.Waits.{is_turned}
use Rattle.session_core.specs.Place.{Place, Says, Serves, is_reading, place_serving, IsSomewhere, IsAtServer, Stay, IsPlaced}
use Rattle.session_core.specs.declared.Phase.{Phase}
use Rattle.session_core.specs.declared.Phase.TheVariants as phase

pub is_somewhere : (placed : Place → Type 0) (a : AnswerSeen) (at : Phase) (cut : Option Bool) → IsPlaced placed a at cut → IsSomewhere placed
is_somewhere placed a phase.Reading cut h = (_, h.0)
is_somewhere placed a phase.Opening cut h = (_, h.0)
is_somewhere placed a phase.Unserved cut h = (_, h)
is_somewhere placed a phase.Serving cut h = (_, h)
is_somewhere placed a phase.Served cut h = (_, h.0)
is_somewhere placed a phase.Refusing cut h = (_, h)
is_somewhere placed a (phase.Replying kept) cut h = (_, h.0)
is_somewhere placed a (phase.Over how) cut h = (h.0, h.2)

pub stay_somewhere : (old new : Place → Type 0) → Stay old new → IsSomewhere old → IsSomewhere new
stay_somewhere old new stay h = (h.0, stay h.0 h.1)

-- a call that leaves the directions where they stand
pub stay_placed : (old new : Place → Type 0) (a b : AnswerSeen) (at : Phase) (cut : Option Bool) → Stay old new → b.answered ≡ a.answered → IsPlaced old a at cut → IsPlaced new b at cut
stay_placed old new a b phase.Reading cut stay same h = (stay _ h.0, h.1)
stay_placed old new a b phase.Opening cut stay same h = (stay _ h.0, h.1)
stay_placed old new a b phase.Unserved cut stay same h = stay _ h
stay_placed old new a b phase.Serving cut stay same h = stay _ h
stay_placed old new a b phase.Served cut stay same h = (stay _ h.0, rw same h.1)
stay_placed old new a b phase.Refusing cut stay same h = stay _ h
stay_placed old new a b (phase.Replying kept) cut stay same h = (stay _ h.0, h.1)
stay_placed old new a b (phase.Over how) cut stay same h = (h.0, h.1, stay h.0 h.2)

-- in the phase that it has
pub placed_in : (placed : Place → Type 0) (a : AnswerSeen) (at phase : Phase) (cut : Option Bool) → at ≡ phase → IsPlaced placed a at cut → IsPlaced placed a phase cut
placed_in placed a at phase cut e h = subst (λ f. IsPlaced placed a f cut) e h

pub placed_at : (placed : Place → Type 0) (a : AnswerSeen) (at phase : Phase) (cut : Option Bool) → at ≡ phase → IsPlaced placed a phase cut → IsPlaced placed a at cut
placed_at placed a at phase cut e h = placed_in placed a phase at cut (sym e) h

-- ---- while a server is open, by whether a refusal took its answer's place

pub serves : (placed : Place → Type 0) (cut : Option Bool) → is_turned cut ≡ false → placed (place_serving cut) → placed Serves
serves placed cut e h = subst (λ b. placed (if b then Says else Serves)) e h

pub served : (placed : Place → Type 0) (cut : Option Bool) → is_turned cut ≡ false → placed Serves → placed (place_serving cut)
served placed cut e h = subst (λ b. placed (if b then Says else Serves)) (sym e) h

pub serves_uncut : (placed : Place → Type 0) (cut : Option Bool) → cut ≡ None → placed Serves → placed (place_serving cut)
serves_uncut placed cut e h = served placed cut (ap is_turned e) h

pub serving_asked : (cut : Option Bool) → is_reading (place_serving cut) ≡ false
serving_asked None = refl
serving_asked (Some true) = refl
serving_asked (Some false) = refl

pub says : (placed : Place → Type 0) (cut : Option Bool) → cut ≡ Some false → placed (place_serving cut) → placed Says
says placed cut e h = subst (λ c. placed (place_serving c)) e h

pub said : (placed : Place → Type 0) (cut : Option Bool) → cut ≡ Some false → placed Says → placed (place_serving cut)
said placed cut e h = subst (λ c. placed (place_serving c)) (sym e) h

pub at_server : (placed : Place → Type 0) (cut : Option Bool) → placed (place_serving cut) → IsAtServer placed
at_server placed None h = inl h
at_server placed (Some true) h = inl h
at_server placed (Some false) h = inr h
