-- What keeps the two directions standing together where one of them goes on.
use Rattle.std.proofs.Common.{◌≡◌, ℕ, List, true, false, sym, ap, ◌∙◌, subst}
use Rattle.px_sample.specs.Variables.{Variables}
use Rattle.http_rules.specs.declared.config.Config.{Config}
use Rattle.http_rules.specs.Lives.{answering}
use Rattle.forward_core.specs.Meaning.Product.{meaning_of}
use Rattle.session_core.specs.History.{Coming}
use Rattle.session_core.specs.Place.{Place}
use Rattle.session_core.specs.Sided.{Sided, Asking, asker_in, Saying}
use Rattle.forward_core.specs.Rules.Ruling.{config_of, IsReady}
use Rattle.forward_core.specs.declared.rules.rules.SessionRules.{SessionRules}
use Rattle.forward_core.specs.Request.Seen as requests
use Rattle.forward_core.specs.Request.Stands.{IsSound, RequestStands, Leads}
use Rattle.forward_core.specs.declared.request.place.Place.{Place as Asked}
use Rattle.forward_core.specs.declared.request.place.Place.TheVariants as asked
use Rattle.forward_core.specs.declared.request.side.RequestSide.{RequestSide}
use Rattle.forward_core.specs.Answer.Seen as answers
use Rattle.forward_core.specs.Answer.Stands.{IsSoundSide, AnswerStands, is_serving}
use Rattle.forward_core.specs.Answer.Stepping.{VarsAt}
use Rattle.forward_core.specs.declared.answer.place.Place.{Place as Answered}
use Rattle.forward_core.specs.declared.answer.place.Place.TheVariants as answered
use Rattle.forward_core.specs.declared.answer.side.AnswerSide.{AnswerSide}
use Rattle.forward_core.specs.Joined.Joined.{IsSoundPair, StandAt, IsAt, Placed, Holds, KeepsMethod, DirectionsStand}
use Rattle.forward_core.specs.declared.joined.directions.Directions.{Directions}

-- ---- where they stand

pub sound_request : (d : Directions) (r : RequestSide) → IsSound r → requests.limits_of r ≡ requests.limits_of d.request → IsSoundPair d → IsSoundPair (record d { request = r })
sound_request d r sound limits s =
    record { request = sound; answer = s.answer; rules = s.rules; request_limits = limits ∙ s.request_limits; answer_size = s.answer_size; method = s.method }

pub sound_answer : (d : Directions) (a : AnswerSide) → IsSoundSide a → answers.size_of a ≡ answers.size_of d.answer → IsSoundPair d → IsSoundPair (record d { answer = a })
sound_answer d a sound size s =
    record { request = s.request; answer = sound; rules = s.rules; request_limits = s.request_limits; answer_size = size ∙ s.answer_size; method = s.method }

pub sound_rules : (d : Directions) (rules : SessionRules) → IsReady rules → config_of rules ≡ config_of d.rules → IsSoundPair d → IsSoundPair (record d { rules = rules })
sound_rules d rules ready config s =
    record {
      request = s.request;
      answer = s.answer;
      rules = ready;
      request_limits = s.request_limits ∙ ap (λ (cfg : Config). cfg.limits) (sym config);
      answer_size = s.answer_size ∙ ap (λ (cfg : Config). cfg.limits.bufsize) (sym config);
      method = s.method ∙ ap (λ (cfg : Config). cfg.limits.bufsize) (sym config);
    }

pub at_request : (d : Directions) (r : RequestSide) (at : Place) → IsSound r → requests.limits_of r ≡ requests.limits_of d.request → requests.place_of r ≡ requests.place_of d.request
    → IsAt d at → IsAt (record d { request = r }) at
at_request d r at sound limits place p =
    record {
      sound = sound_request d r sound limits p.sound;
      stand = subst (λ (x : Asked). StandAt at x (answers.place_of d.answer)) (sym place) p.stand;
    }

pub at_answer : (d : Directions) (a : AnswerSide) (at : Place) → IsSoundSide a → answers.size_of a ≡ answers.size_of d.answer → answers.place_of a ≡ answers.place_of d.answer
    → IsAt d at → IsAt (record d { answer = a }) at
at_answer d a at sound size place p =
    record {
      sound = sound_answer d a sound size p.sound;
      stand = subst (λ (x : Answered). StandAt at (requests.place_of d.request) x) (sym place) p.stand;
    }

-- ---- what they stand for

-- the request direction goes on, in its place
pub stands_request : (cfg : Config) (d : Directions) (r : RequestSide) (p : Sided (meaning_of cfg)) (came : Coming) (to_server : List ℕ)
    → requests.place_of r ≡ requests.place_of d.request → DirectionsStand cfg d p → RequestStands cfg r p.vars came p.asking to_server p.reply
    → DirectionsStand cfg (record d { request = r }) (record p { came = came; to_server = to_server })
stands_request cfg d r p came to_server place s stands =
    record {
      config = s.config;
      laws = s.laws;
      request = stands;
      answer = s.answer;
      vars = subst (λ (x : Asked). Holds x (answers.place_of d.answer) d.rules.vars p.vars p.asking.vars p.now) (sym place) s.vars;
      method = subst (λ (x : Asked). KeepsMethod x d.method.bytes (asker_in p.asking).method) (sym place) s.method;
    }

-- the answer direction goes on, in its place
pub stands_answer : (cfg : Config) (d : Directions) (a : AnswerSide) (p : Sided (meaning_of cfg)) (server : Coming) (to_client : List ℕ) (saying : Saying)
    → answers.place_of a ≡ answers.place_of d.answer → DirectionsStand cfg d p → AnswerStands cfg a p.asking server to_client p.now saying
    → DirectionsStand cfg (record d { answer = a }) (record p { server = server; to_client = to_client; saying = saying })
stands_answer cfg d a p server to_client saying place s stands =
    record {
      config = s.config;
      laws = s.laws;
      request = s.request;
      answer = stands;
      vars = subst (λ (x : Answered). Holds (requests.place_of d.request) x d.rules.vars p.vars p.asking.vars p.now) (sym place) s.vars;
      method = s.method;
    }

-- ---- the variables while a server answers

pub vars_at : (a : Answered) (held before asking now : Variables) → is_serving a ≡ true → Holds asked.Sending a held before asking now → VarsAt a (answering asking) now held
vars_at answered.Idle held before asking now serves h = absurd (let e : false ≡ true = serves in cc e)
vars_at answered.Heads held before asking now serves h = h
vars_at answered.Response held before asking now serves h = h
vars_at answered.Closing held before asking now serves h = h
vars_at answered.Keeping held before asking now serves h = h
vars_at answered.Saying held before asking now serves h = absurd (let e : false ≡ true = serves in cc e)

pub held_at : (a : Answered) (held before asking now : Variables) → is_serving a ≡ true → VarsAt a (answering asking) now held → Holds asked.Sending a held before asking now
held_at answered.Idle held before asking now serves h = absurd (let e : false ≡ true = serves in cc e)
held_at answered.Heads held before asking now serves h = h
held_at answered.Response held before asking now serves h = h
held_at answered.Closing held before asking now serves h = h
held_at answered.Keeping held before asking now serves h = h
held_at answered.Saying held before asking now serves h = absurd (let e : false ≡ true = serves in cc e)

-- where a request goes out
pub held_sending : (r : Asked) (a : Answered) (held before asking now : Variables) → r ≡ asked.Sending → Holds r a held before asking now → Holds asked.Sending a held before asking now
held_sending r a held before asking now sends h = subst (λ (x : Asked). Holds x a held before asking now) sends h

pub kept_sending : (r : Asked) (kept method : List ℕ) → r ≡ asked.Sending → KeepsMethod r kept method → kept ≡ method
kept_sending r kept method sends h = subst (λ (x : Asked). KeepsMethod x kept method) sends h

-- ---- one direction goes on

pub request_goes : (d : Directions) (r : RequestSide) (comes : Coming → Coming) (puts : List ℕ → List ℕ) → Leads d.request r comes puts → requests.place_of r ≡ requests.place_of d.request
    → (cfg : Config) (p : Sided (meaning_of cfg)) → DirectionsStand cfg d p
    → DirectionsStand cfg (record d { request = r }) (record p { came = comes p.came; to_server = puts p.to_server })
request_goes d r comes puts leads place cfg p s =
    stands_request cfg d r p (comes p.came) (puts p.to_server) place s (leads cfg p.vars p.came p.asking p.to_server p.reply s.request)

pub request_placed : (d : Directions) (r : RequestSide) (comes : Coming → Coming) (puts : List ℕ → List ℕ) → Leads d.request r comes puts → requests.place_of r ≡ requests.place_of d.request
    → IsSound r → requests.limits_of r ≡ requests.limits_of d.request → (at : Place) → Placed d at → Placed (record d { request = r }) at
request_placed d r comes puts leads place sound limits at p =
    record {
      is_at = at_request d r at sound limits place p.is_at;
      past = (p.past.0, record p.past.1 { came = comes p.past.1.came; to_server = puts p.past.1.to_server }, request_goes d r comes puts leads place p.past.0 p.past.1 p.past.2);
    }

-- each past of an answer direction is led to another by a call
abbrev pub AnswerLeads : AnswerSide → AnswerSide → (Coming → Coming) → Type 0
AnswerLeads old new comes =
    (cfg : Config) (asking : Asking Variables) (server : Coming) (put : List ℕ) (now : Variables) (saying : Saying)
    → AnswerStands cfg old asking server put now saying → AnswerStands cfg new asking (comes server) put now saying

pub answer_goes : (d : Directions) (a : AnswerSide) (comes : Coming → Coming) → AnswerLeads d.answer a comes → answers.place_of a ≡ answers.place_of d.answer
    → (cfg : Config) (p : Sided (meaning_of cfg)) → DirectionsStand cfg d p → DirectionsStand cfg (record d { answer = a }) (record p { server = comes p.server })
answer_goes d a comes leads place cfg p s =
    stands_answer cfg d a p (comes p.server) p.to_client p.saying place s (leads cfg p.asking p.server p.to_client p.now p.saying s.answer)

pub answer_placed : (d : Directions) (a : AnswerSide) (comes : Coming → Coming) → AnswerLeads d.answer a comes → answers.place_of a ≡ answers.place_of d.answer
    → IsSoundSide a → answers.size_of a ≡ answers.size_of d.answer → (at : Place) → Placed d at → Placed (record d { answer = a }) at
answer_placed d a comes leads place sound size at p =
    record {
      is_at = at_answer d a at sound size place p.is_at;
      past = (p.past.0, record p.past.1 { server = comes p.past.1.server }, answer_goes d a comes leads place p.past.0 p.past.1 p.past.2);
    }
