-- Data of a server goes to the client at once.
use Rattle.std.proofs.Common.{◌≡◌, ◌<◌, ◌++◌, ℕ, List, sym, subst, take}
use Rattle.http_rules.specs.declared.config.Config.{Config}
use Rattle.forward_core.specs.Meaning.Product.{meaning_of}
use Rattle.session_core.specs.History.{gains}
use Rattle.session_core.specs.Place as at
use Rattle.session_core.specs.Sided.{Sided}
use Rattle.forward_core.specs.Answer.Seen as answers
use Rattle.forward_core.specs.Answer.Said.{PutsSome, AnswerPuts}
use Rattle.forward_core.specs.Answer.Stands.{IsSoundSide}
use Rattle.forward_core.specs.declared.answer.side.AnswerSide.{AnswerSide}
use Rattle.forward_core.specs.Joined.Joined.{Placed, HasPast, DirectionsStand}
use Rattle.forward_core.specs.declared.joined.directions.Directions.{Directions}
use Rattle.forward_core.proofs.AnswerLemmas.PassLemmas.{none_or_some}
use Rattle.forward_core.proofs.JoinedLemmas.Joining.{at_answer, stands_answer}

-- both stand for what was put out
pub puts_on : (d : Directions) (a : AnswerSide) (bytes : List ℕ) → answers.place_of a ≡ answers.place_of d.answer → (cfg : Config) (p : Sided (meaning_of cfg))
    → DirectionsStand cfg d p → (x : PutsSome cfg d.answer a p.asking (gains p.server bytes) p.to_client p.now p.saying)
    → DirectionsStand cfg (record d { answer = a }) (record p { server = gains p.server bytes; to_client = p.to_client ++ x.put })
puts_on d a bytes place cfg p s x = stands_answer cfg d a p (gains p.server bytes) (p.to_client ++ x.put) p.saying place s x.stands

-- they stand for a past, whether something came or not
past_behind : (d : Directions) (a : AnswerSide) (bytes : List ℕ) (count : ℕ) → answers.place_of a ≡ answers.place_of d.answer → (count ≡ 0 → a ≡ d.answer)
    → (0 < count → AnswerPuts d.answer a (take count bytes)) → HasPast d → HasPast (record d { answer = a })
past_behind d a bytes count place none puts (cfg, p, s) =
    none_or_some count
    (λ is. subst (λ (x : AnswerSide). HasPast (record d { answer = x })) (sym (none is)) (cfg, p, s))
    (λ some.
    let x = puts some cfg p.asking p.server p.to_client p.now p.saying s.answer in
    (cfg, record p { server = gains p.server (take count bytes); to_client = p.to_client ++ x.put }, puts_on d a (take count bytes) place cfg p s x))

pub passes_placed : (d : Directions) (a : AnswerSide) (bytes : List ℕ) (count : ℕ) → answers.place_of a ≡ answers.place_of d.answer → (count ≡ 0 → a ≡ d.answer)
    → (0 < count → AnswerPuts d.answer a (take count bytes)) → IsSoundSide a → answers.size_of a ≡ answers.size_of d.answer → Placed d at.Serves → Placed (record d { answer = a }) at.Serves
passes_placed d a bytes count place none puts sound size x =
    record { is_at = at_answer d a at.Serves sound size place x.is_at; past = past_behind d a bytes count place none puts x.past }
