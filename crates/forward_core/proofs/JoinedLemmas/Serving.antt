-- A server's answer, and what is said in its place.
use Rattle.std.proofs.Common.{◌≡◌, ◌≢◌, ℕ, List, [], ◌++◌, Bool, true, false, sym, ap, ◌∙◌, subst}
use Rattle.px_sample.specs.Variables.{Variables}
use Rattle.http_model.specs.Spelling.{Spells}
use Rattle.http_rules.specs.declared.config.Config.{Config}
use Rattle.http_rules.specs.Lives.{answering, renewed}
use Rattle.forward_core.specs.Meaning.Product.{meaning_of}
use Rattle.session_model.specs.Amending.{refusal_sent}
use Rattle.session_core.specs.History.{Coming, no_stream}
use Rattle.session_core.specs.Leads.{Refuses, renewed_at}
use Rattle.session_core.specs.Place.{Place, is_saying}
use Rattle.session_core.specs.Place as at
use Rattle.session_core.specs.Sided.{Sided, asker_in, Saying, unsaid}
use Rattle.forward_core.specs.Rules.Ruling.{config_of, holds_pattern, IsReady}
use Rattle.forward_core.specs.declared.rules.rules.SessionRules.{SessionRules}
use Rattle.lane.specs.declared.direction.stage.Stage.{Stage}
use Rattle.forward_core.specs.Request.Seen as requests
use Rattle.forward_core.specs.Request.Stands.{IsSound, RequestStands, left_of}
use Rattle.forward_core.specs.Request.Steps.{ReadsNext}
use Rattle.lane.specs.Answering.{stage_of}
use Rattle.forward_core.specs.declared.request.place.Place.{Place as Asked}
use Rattle.forward_core.specs.declared.request.place.Place.TheVariants as asked
use Rattle.forward_core.specs.declared.request.side.RequestSide.{RequestSide}
use Rattle.forward_core.specs.Answer.Seen as answers
use Rattle.forward_core.specs.Answer.Seen.{answered_at}
use Rattle.forward_core.specs.Answer.Stands.{IsSoundSide, AnswerStands, is_serving}
use Rattle.forward_core.specs.Answer.Stepping.{VarsAt, StepsOn, RunsFor}
use Rattle.forward_core.specs.declared.answer.place.Place.{Place as Answered}
use Rattle.forward_core.specs.declared.answer.place.Place.TheVariants as answered
use Rattle.forward_core.specs.declared.answer.side.AnswerSide.{AnswerSide}
use Rattle.forward_core.specs.Joined.Asks.{SaysRefusal}
use Rattle.forward_core.specs.Joined.Joined.{IsSoundPair, IsAt, Holds, KeepsMethod, DirectionsStand, settings_of}
use Rattle.forward_core.specs.declared.joined.directions.Directions.{Directions}
use Rattle.forward_core.proofs.JoinedLemmas.Joining.{sound_request, sound_answer, sound_rules, vars_at, held_at, held_sending, kept_sending}

-- both the answer direction and the rules go on, while a request goes to a server
pub serves_with : (cfg : Config) (d : Directions) (a : AnswerSide) (rules : SessionRules) (p : Sided (meaning_of cfg)) (server : Coming) (to_client : List ℕ) (now : Variables) (saying : Saying)
    → requests.place_of d.request ≡ asked.Sending → config_of rules ≡ config_of d.rules → DirectionsStand cfg d p
    → AnswerStands cfg a p.asking server to_client now saying
    → Holds asked.Sending (answers.place_of a) rules.vars p.vars p.asking.vars now
    → DirectionsStand cfg (record d { answer = a; rules = rules }) (record p { server = server; to_client = to_client; now = now; saying = saying })
serves_with cfg d a rules p server to_client now saying sends config s stands held =
    record {
      config = config ∙ s.config;
      laws = s.laws;
      request = s.request;
      answer = stands;
      vars = subst (λ (x : Asked). Holds x (answers.place_of a) rules.vars p.vars p.asking.vars now) (sym sends) held;
      method = s.method;
    }

pub sound_both : (d : Directions) (a : AnswerSide) (rules : SessionRules) → IsSoundSide a → answers.size_of a ≡ answers.size_of d.answer → IsReady rules → config_of rules ≡ config_of d.rules
    → IsSoundPair d → IsSoundPair (record d { answer = a; rules = rules })
sound_both d a rules sound size ready config s = sound_rules (record d { answer = a }) rules ready config (sound_answer d a sound size s)

-- what says nothing of variables
pub held_saying : (a : Answered) (held before asking now : Variables) → a ≡ answered.Saying → Holds asked.Sending a held before asking now
held_saying a held before asking now e = subst (λ (x : Answered). Holds asked.Sending x held before asking now) (sym e) tt

-- in front of the rules on an answer
pub held_heads : (a : Answered) (held before asking now : Variables) → a ≡ answered.Heads → held ≡ answering asking → Holds asked.Sending a held before asking now
held_heads a held before asking now e h = subst (λ (x : Answered). Holds asked.Sending x held before asking now) (sym e) h

pub held_idle : (a : Answered) (held before asking now : Variables) → a ≡ answered.Idle → Holds asked.Sending a held before asking now → held ≡ asking
held_idle a held before asking now e h = subst (λ (x : Answered). Holds asked.Sending x held before asking now) e h

-- behind an answer that is put out
pub held_answered : (a : Answered) (stage : Stage) (held before asking now : Variables) → is_serving a ≡ true → answered_at a stage ≡ true → Holds asked.Sending a held before asking now → held ≡ now
held_answered answered.Idle stage held before asking now serves done h = absurd (let e : false ≡ true = serves in cc e)
held_answered answered.Heads stage held before asking now serves done h = absurd (let e : false ≡ true = done in cc e)
held_answered answered.Response stage held before asking now serves done h = h
held_answered answered.Closing stage held before asking now serves done h = h
held_answered answered.Keeping stage held before asking now serves done h = h
held_answered answered.Saying stage held before asking now serves done h = absurd (let e : false ≡ true = serves in cc e)

-- the refusal of a request for which no server is open
pub refuses : (cfg : Config) (d : Directions) (a : AnswerSide) (rules : SessionRules) (p : Sided (meaning_of cfg)) (code : ℕ) (no_body : Bool)
    → requests.place_of d.request ≡ asked.Sending → answers.place_of d.answer ≡ answered.Idle → config_of rules ≡ config_of d.rules → answers.place_of a ≡ answered.Saying
    → no_body ≡ (answers.asker_of d.answer).head_asked
    → DirectionsStand cfg d p → SaysRefusal (config_of d.rules) d.answer a code d.method.bytes d.rules.vars no_body
    → Refuses (meaning_of cfg) (DirectionsStand cfg (record d { answer = a; rules = rules })) p code
refuses cfg d a rules p code no_body sends idle config says asks s r =
    let R = λ (x : Config). SaysRefusal x d.answer a code d.method.bytes d.rules.vars no_body in
    let q : SaysRefusal cfg d.answer a code d.method.bytes d.rules.vars no_body = subst R s.config r in
    let vars : d.rules.vars ≡ p.asking.vars = held_idle (answers.place_of d.answer) d.rules.vars p.vars p.asking.vars p.now idle
    (held_sending (requests.place_of d.request) (answers.place_of d.answer) d.rules.vars p.vars p.asking.vars p.now sends s.vars) in
    let method : d.method.bytes ≡ (asker_in p.asking).method = kept_sending (requests.place_of d.request) d.method.bytes (asker_in p.asking).method sends s.method in
    let head : no_body ≡ (asker_in p.asking).head_asked = asks ∙ s.answer.asks.head_asked in
    record {
      text = q.text;
      spelled = subst (λ (x : Bool). Spells true x (refusal_sent (meaning_of cfg) code (asker_in p.asking).method (answering p.asking.vars)) q.text) head
          (subst (λ (x : List ℕ). Spells true no_body (refusal_sent (meaning_of cfg) code x (answering p.asking.vars)) q.text) method
          (subst (λ (x : Variables). Spells true no_body (refusal_sent (meaning_of cfg) code d.method.bytes (answering x)) q.text) vars q.spelled));
      stands = serves_with cfg d a rules p p.server p.to_client p.now (unsaid q.text) sends config s (q.says p.asking p.server p.to_client p.now p.saying s.answer)
          (held_saying (answers.place_of a) rules.vars p.vars p.asking.vars p.now says);
    }

-- in front of the next exchange
pub renews_at : (cfg : Config) (d : Directions) (r : RequestSide) (a : AnswerSide) (rules : SessionRules) (p : Sided (meaning_of cfg)) (left : Coming)
    → requests.place_of r ≡ asked.Reading → config_of rules ≡ config_of d.rules → rules.vars ≡ renewed d.rules.vars → d.rules.vars ≡ p.now → DirectionsStand cfg d p
    → RequestStands cfg r (renewed p.now) left p.asking [] p.reply → AnswerStands cfg a p.asking no_stream [] p.now (unsaid [])
    → DirectionsStand cfg (record d { request = r; answer = a; rules = rules }) (renewed_at p left)
renews_at cfg d r a rules p left reads config renews held s stands stands_a =
    record {
      config = config ∙ s.config;
      laws = s.laws;
      request = stands;
      answer = stands_a;
      vars = subst (λ (x : Asked). Holds x (answers.place_of a) rules.vars (renewed p.now) p.asking.vars p.now) (sym reads) (renews ∙ ap renewed held);
      method = subst (λ (x : Asked). KeepsMethod x d.method.bytes (asker_in p.asking).method) (sym reads) tt;
    }

-- a server is opened
pub opens : (cfg : Config) (d : Directions) (a : AnswerSide) (rules : SessionRules) (p : Sided (meaning_of cfg))
    → requests.place_of d.request ≡ asked.Sending → answers.place_of d.answer ≡ answered.Idle → answers.place_of a ≡ answered.Heads → config_of rules ≡ config_of d.rules
    → rules.vars ≡ answering d.rules.vars → DirectionsStand cfg d p → AnswerStands cfg a p.asking no_stream p.to_client p.now p.saying
    → DirectionsStand cfg (record d { answer = a; rules = rules }) (record p { server = no_stream })
opens cfg d a rules p sends idle heads config vars s stands =
    serves_with cfg d a rules p no_stream p.to_client p.now p.saying sends config s stands
    (held_heads (answers.place_of a) rules.vars p.vars p.asking.vars p.now heads (vars ∙ ap answering (held_idle (answers.place_of d.answer) d.rules.vars p.vars p.asking.vars p.now idle
    (held_sending (requests.place_of d.request) (answers.place_of d.answer) d.rules.vars p.vars p.asking.vars p.now sends s.vars))))

-- the next exchange begins behind what was answered
pub renews_now : (cfg : Config) (d : Directions) (r : RequestSide) (a : AnswerSide) (rules : SessionRules) (p : Sided (meaning_of cfg))
    → ReadsNext d.request r → requests.place_of r ≡ asked.Reading → config_of rules ≡ config_of d.rules → rules.vars ≡ renewed d.rules.vars
    → d.rules.vars ≡ p.now → DirectionsStand cfg d p → AnswerStands cfg a p.asking no_stream [] p.now (unsaid [])
    → DirectionsStand cfg (record d { request = r; answer = a; rules = rules }) (renewed_at p (left_of d.request))
renews_now cfg d r a rules p next reads config renews held s stands_a =
    renews_at cfg d r a rules p (left_of d.request) reads config renews held s
    (next cfg p.vars (renewed p.now) p.came p.asking p.asking p.to_server [] p.reply p.reply s.request) stands_a

pub at_start : (d : Directions) (r : RequestSide) (a : AnswerSide) (rules : SessionRules) → IsSound r → requests.limits_of r ≡ requests.limits_of d.request → IsSoundSide a → answers.size_of a ≡ answers.size_of d.answer
    → IsReady rules → config_of rules ≡ config_of d.rules → requests.place_of r ≡ asked.Reading → answers.place_of a ≡ answered.Idle → IsSoundPair d → IsAt (record d { request = r; answer = a; rules = rules }) at.Reads
at_start d r a rules sound limits sound_a size ready config reads idle s =
    record { sound = sound_both (record d { request = r }) a rules sound_a size ready config (sound_request d r sound limits s); stand = (reads, idle) }

pub busy_sending : (pl : Asked) → pl ≡ asked.Sending → pl ≢ asked.Idle
busy_sending pl e i = let x : asked.Sending ≡ asked.Idle = sym e ∙ i in cc x

pub begun_sending : (pl : Asked) → pl ≡ asked.Sending → pl ≢ asked.Reading
begun_sending pl e i = let x : asked.Sending ≡ asked.Reading = sym e ∙ i in cc x

pub begun_idle : (pl : Asked) → pl ≡ asked.Idle → pl ≢ asked.Reading
begun_idle pl e i = let x : asked.Idle ≡ asked.Reading = sym e ∙ i in cc x

pub busy_replied : (pl : Asked) → pl ≡ asked.Replied → pl ≢ asked.Idle
busy_replied pl e i = let x : asked.Replied ≡ asked.Idle = sym e ∙ i in cc x

-- the variables behind what was answered
pub held_served : (cfg : Config) (d : Directions) (p : Sided (meaning_of cfg)) → requests.place_of d.request ≡ asked.Sending → is_serving (answers.place_of d.answer) ≡ true → (answers.seen d.answer).answered ≡ true
    → DirectionsStand cfg d p → d.rules.vars ≡ p.now
held_served cfg d p sends serves done s =
    held_answered (answers.place_of d.answer) (stage_of d.answer.lane) d.rules.vars p.vars p.asking.vars p.now serves done
    (held_sending (requests.place_of d.request) (answers.place_of d.answer) d.rules.vars p.vars p.asking.vars p.now sends s.vars)

pub held_replied : (cfg : Config) (d : Directions) (p : Sided (meaning_of cfg)) → requests.place_of d.request ≡ asked.Replied → DirectionsStand cfg d p → d.rules.vars ≡ p.now
held_replied cfg d p replied s = subst (λ (x : Asked). Holds x (answers.place_of d.answer) d.rules.vars p.vars p.asking.vars p.now) replied s.vars

-- a step of a server's answer
pub steps_on : (cfg : Config) (d : Directions) (a : AnswerSide) (rules : SessionRules) (p : Sided (meaning_of cfg)) → (x : StepsOn cfg d.answer a p.asking p.server p.to_client p.saying rules.vars)
    → requests.place_of d.request ≡ asked.Sending → is_serving (answers.place_of a) ≡ true → config_of rules ≡ config_of d.rules → DirectionsStand cfg d p
    → DirectionsStand cfg (record d { answer = a; rules = rules }) (record p { to_client = p.to_client ++ x.put; now = x.behind })
steps_on cfg d a rules p x sends serves config s =
    serves_with cfg d a rules p p.server (p.to_client ++ x.put) x.behind p.saying sends config s x.stands
    (held_at (answers.place_of a) rules.vars p.vars p.asking.vars x.behind serves x.vars)

-- what a step of the answer direction takes
pub runs_for : (cfg : Config) (d : Directions) (method : List ℕ) (p : Sided (meaning_of cfg)) → method ≡ d.method.bytes → requests.place_of d.request ≡ asked.Sending → DirectionsStand cfg d p → RunsFor d.rules method cfg p.asking
runs_for cfg d method p is sends s =
    record { config = s.config; asked = is ∙ kept_sending (requests.place_of d.request) d.method.bytes (asker_in p.asking).method sends s.method }

pub vars_for : (cfg : Config) (d : Directions) (p : Sided (meaning_of cfg)) → requests.place_of d.request ≡ asked.Sending → is_serving (answers.place_of d.answer) ≡ true → DirectionsStand cfg d p
    → VarsAt (answers.place_of d.answer) (answering p.asking.vars) p.now d.rules.vars
vars_for cfg d p sends serves s =
    vars_at (answers.place_of d.answer) d.rules.vars p.vars p.asking.vars p.now serves
    (held_sending (requests.place_of d.request) (answers.place_of d.answer) d.rules.vars p.vars p.asking.vars p.now sends s.vars)

-- what is said in place of a server's answer
pub turns : (cfg : Config) (d : Directions) (a : AnswerSide) (rules : SessionRules) (p : Sided (meaning_of cfg)) (saying : Saying)
    → requests.place_of d.request ≡ asked.Sending → answers.place_of a ≡ answered.Saying → config_of rules ≡ config_of d.rules → DirectionsStand cfg d p
    → AnswerStands cfg a p.asking p.server p.to_client p.now saying → DirectionsStand cfg (record d { answer = a; rules = rules }) (record p { saying = saying })
turns cfg d a rules p saying sends says config s stands =
    serves_with cfg d a rules p p.server p.to_client p.now saying sends config s stands (held_saying (answers.place_of a) rules.vars p.vars p.asking.vars p.now says)

-- rules without patterns take no memory, by the configuration of a past
pub needs_of : (cfg : Config) (d : Directions) (p : Sided (meaning_of cfg)) → DirectionsStand cfg d p → holds_pattern cfg ≡ false → holds_pattern (settings_of d) ≡ false
needs_of cfg d p s none = ap holds_pattern s.config ∙ none
