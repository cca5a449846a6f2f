-- A head that goes to a server.
use Rattle.std.proofs.Common.{◌≡◌, ℕ, List, [], Bool, true, false, Option, refl, sym, ap, ◌∙◌, subst}
use Rattle.http_model.specs.declared.Framing.{Framing}
use Rattle.http_model.specs.Finish.{finish_request, request_framing}
use Rattle.http_model.specs.Head.{Head, head_blocks}
use Rattle.http_model.specs.Reading.{Received}
use Rattle.px_sample.specs.Buffer.{Buffer}
use Rattle.px_sample.specs.Variables.{Variables}
use Rattle.http_rules.specs.declared.rule.rule.Rule.{Rule}
use Rattle.http_rules.specs.Action.Given.{Env}
use Rattle.http_rules.specs.declared.config.Config.{Config}
use Rattle.http_rules.specs.declared.verdict.Verdict.TheVariants as verdicts
use Rattle.http_rules.specs.Rules.{Comes, rules_of}
use Rattle.forward_core.specs.Meaning.Product.{meaning_of, replaces}
use Rattle.session_model.specs.Stream.{Stream}
use Rattle.session_model.specs.Env.{Pass, request_env, method_of}
use Rattle.session_model.specs.Meaning.{Meaning, declares_too_much}
use Rattle.session_model.specs.Asking.{Sends, Asks, request_fits}
use Rattle.session_core.specs.Sided.{Sided, AnswerSeen, Asking, asker_in, forwarded_to, IsUncut, IsSettled}
use Rattle.session_core.specs.Leads.{AsksServer}
use Rattle.http_model.specs.declared.Source.{Source}
use Rattle.http_model.specs.declared.Source.TheVariants as source
use Rattle.session_core.specs.declared.sides.Asked.TheVariants as asks
use Rattle.forward_core.specs.Rules.Ruling.{config_of}
use Rattle.forward_core.specs.declared.rules.rules.SessionRules.{SessionRules}
use Rattle.forward_core.specs.declared.request.kept.Kept.{Kept}
use Rattle.forward_core.specs.Request.Kept.{IsKept}
use Rattle.forward_core.specs.Request.Seen as requests
use Rattle.forward_core.specs.Request.Seen.{list_of}
use Rattle.forward_core.specs.Request.Edits.{framing_of, declared_of}
use Rattle.forward_core.specs.Request.Stands.{RequestStands, left_of}
use Rattle.forward_core.specs.declared.request.place.Place.{Place as Asked}
use Rattle.forward_core.specs.declared.request.place.Place.TheVariants as asked
use Rattle.lane.specs.Answering.{stage_of}
use Rattle.forward_core.specs.Answer.Seen as answers
use Rattle.forward_core.specs.Answer.Seen.{answered_at}
use Rattle.forward_core.specs.Answer.Stands.{AnswerStands, IsAsker, IsSoundSide, FitsAt}
use Rattle.forward_core.specs.declared.answer.place.Place.{Place as Answered}
use Rattle.forward_core.specs.declared.answer.place.Place.TheVariants as answered
use Rattle.forward_core.specs.declared.answer.side.AnswerSide.{AnswerSide}
use Rattle.forward_core.specs.Joined.Joined.{Holds, KeepsMethod, DirectionsStand, settings_of, request_of}
use Rattle.forward_core.specs.Joined.Asks.{Ruled, GoesOn, asker_for, fits_in}
use Rattle.forward_core.specs.declared.joined.directions.Directions.{Directions}
use Rattle.forward_core.proofs.JoinedLemmas.Finished.{Finishes, SendsSo}
use Rattle.forward_core.proofs.JoinedLemmas.AskLemmas.{asks_behind}
use Rattle.forward_core.proofs.JoinedLemmas.Forwarding.{asks_server}
use Rattle.forward_core.proofs.JoinedLemmas.Methods.{head_alone}
use Rattle.forward_core.proofs.JoinedLemmas.Verdicts.{Left, passes_with, method_left}

-- rules that pass leave the body behind the head
abbrev pub BodyStays : Type 0
BodyStays = (size : ℕ) (rules : List Rule) (env left : Env) → rules_of size rules env ≡ Pass left → left.body ≡ env.body

-- ---- behind rules that passed

-- the head that they left stands in the array, with its method and its variables beside it
pub record Passed (cfg : Config) (d : Directions) (p : Sided (meaning_of cfg)) (received : Received) : Type 0 where
  pub left : Env
  pub is : (meaning_of cfg).request_rules (request_env p.vars received.head) ≡ Pass left
  pub blocks : list_of d.request ≡ head_blocks left.head
  pub vars : d.rules.vars ≡ left.vars
  pub method : d.method.bytes ≡ method_of left.head.line

pub has_passed : (cfg : Config) (d : Directions) (p : Sided (meaning_of cfg)) (received : Received) (kept : Kept) → BodyStays → Ruled cfg d p received kept verdicts.Pass → Passed cfg d p received
has_passed cfg d p received kept stays r =
    let comes : Comes = (meaning_of cfg).request_rules (request_env p.vars received.head) in
    let x : Left comes (λ left. Pass left) (list_of d.request) d.rules.vars = passes_with comes (list_of d.request) d.rules.vars d.rules.said.blocks r.leaves in
    record {
      left = x.left;
      is = x.is;
      blocks = head_alone (list_of d.request) x.left.head x.left.body x.at.blocks_are (stays cfg.limits.bufsize cfg.request (request_env p.vars received.head) x.left x.is);
      vars = x.at.vars_are;
      method = r.method ∙ method_left x.left (list_of d.request) d.rules.vars x.at;
    }

-- what the code asks of the length that was declared is what the definitions ask
pub declares_at : (cfg : Config) (d : Directions) (p : Sided (meaning_of cfg)) (received : Received) (kept : Kept) (declares : Bool) → Ruled cfg d p received kept verdicts.Pass
    → declares_too_much (meaning_of (settings_of d)).request_filters (declared_of d.request) ≡ declares → declares_too_much (meaning_of cfg).request_filters received.declared ≡ declares
declares_at cfg d p received kept declares r is =
    sym (ap (λ (x : Option ℕ). declares_too_much (meaning_of cfg).request_filters x) r.declared)
    ∙ (sym (ap (λ (x : Config). declares_too_much (meaning_of x).request_filters (declared_of d.request)) r.config) ∙ is)

-- and the framing in which the body is sent
framing_at : (cfg : Config) (d : Directions) (p : Sided (meaning_of cfg)) (received : Received) (kept : Kept) (framing : Framing) → Ruled cfg d p received kept verdicts.Pass
    → framing ≡ request_framing (replaces (settings_of d).req_filters) (framing_of d.request) → framing ≡ request_framing (replaces cfg.req_filters) received.framing
framing_at cfg d p received kept framing r is =
    is ∙ (ap (λ (x : Config). request_framing (replaces x.req_filters) (framing_of d.request)) r.config ∙ ap (λ (x : Framing). request_framing (replaces cfg.req_filters) x) r.framing)

-- and whether the finished head fits
pub fits_at : (cfg : Config) (d : Directions) (p : Sided (meaning_of cfg)) (received : Received) (kept : Kept) (framing : Framing) (fits : Bool) (x : Passed cfg d p received) → Ruled cfg d p received kept verdicts.Pass
    → framing ≡ request_framing (replaces (settings_of d).req_filters) (framing_of d.request) → fits_in (settings_of d).limits.bufsize x.left.head framing ≡ fits
    → request_fits (meaning_of cfg) received x.left.head ≡ fits
fits_at cfg d p received kept framing fits x r framed is =
    sym (ap (λ (f : Framing). fits_in cfg.limits.bufsize x.left.head f) (framing_at cfg d p received kept framing r framed))
    ∙ (sym (ap (λ (c : Config). fits_in c.limits.bufsize x.left.head framing) r.config) ∙ is)

-- ---- what goes out

kept_asker : (received : Received) (kept : Kept) (head : Head) (vars : Variables) → IsKept received kept → IsAsker (asker_for kept) (asker_in (record { received = received; head = head; vars = vars }))
kept_asker received kept head vars k = record { head_asked = k.head_asked; is_http_11 = k.is_http_11; keep = k.keep }

uncut_going : (so : Source) → so ≡ source.Going → IsUncut so
uncut_going so e = subst (λ (x : Source). IsUncut x) (sym e) tt

unsent : (sent : Bool) (so : Source) → sent ≡ false → sent ≡ true → IsSettled so
unsent sent so off is = absurd (let e : false ≡ true = sym off ∙ is in cc e)

holds_sent : (r : Asked) (a : Answered) (held before asking now : Variables) → r ≡ asked.Sending → a ≡ answered.Idle → held ≡ asking → Holds r a held before asking now
holds_sent r a held before asking now e f h =
    subst (λ (x : Asked). Holds x a held before asking now) (sym e) (subst (λ (x : Answered). Holds asked.Sending x held before asking now) (sym f) h)

keeps_sent : (r : Asked) (kept method : List ℕ) → r ≡ asked.Sending → kept ≡ method → KeepsMethod r kept method
keeps_sent r kept method e h = subst (λ (x : Asked). KeepsMethod x kept method) (sym e) h

-- the request direction sends it
request_sends : (cfg : Config) (old mid new : Directions) (p : Sided (meaning_of cfg)) (received : Received) (kept : Kept) (framing : Framing) (x : Passed cfg old p received) → Ruled cfg old p received kept verdicts.Pass
    → Finishes old mid framing true → SendsSo mid new framing kept → framing ≡ request_framing (replaces (settings_of old).req_filters) (framing_of old.request)
    → declares_too_much (meaning_of (settings_of old)).request_filters (declared_of old.request) ≡ false
    → RequestStands cfg new.request p.vars p.came (record { received = received; head = x.left.head; vars = x.left.vars }) [] p.reply
request_sends cfg old mid new p received kept framing x r f s framed short =
    s.leads cfg p.vars p.came received x.left p.reply (f.edits.came cfg p.came received r.read) (f.edits.framing ∙ r.framing) x.is (declares_at cfg old p received kept false r short)
    (fits_at cfg old p received kept framing true x r framed (f.fits_is x.left.head x.blocks)) (framing_at cfg old p received kept framing r framed) (f.finished refl x.left.head x.blocks)

-- both stand for the request
stand_sending : (cfg : Config) (old mid new : Directions) (p : Sided (meaning_of cfg)) (received : Received) (kept : Kept) (framing : Framing) (x : Passed cfg old p received) → Ruled cfg old p received kept verdicts.Pass
    → Finishes old mid framing true → SendsSo mid new framing kept → RequestStands cfg new.request p.vars p.came (record { received = received; head = x.left.head; vars = x.left.vars }) [] p.reply
    → DirectionsStand cfg new (record p { asking = record { received = received; head = x.left.head; vars = x.left.vars }; to_server = [] })
stand_sending cfg old mid new p received kept framing x r f s request =
    let asking : Asking Variables = record { received = received; head = x.left.head; vars = x.left.vars } in
    let rules : new.rules ≡ old.rules = s.rules ∙ f.rules in
    record {
      config = ap (λ (y : SessionRules). config_of y) rules ∙ r.config;
      laws = r.laws;
      request = request;
      answer = s.knows cfg p.asking asking p.server p.to_client p.now p.saying
          (subst (λ (y : AnswerSide). AnswerStands cfg y p.asking p.server p.to_client p.now p.saying) (sym f.answer) r.answer) (kept_asker received kept x.left.head x.left.vars r.kept_is);
      vars = holds_sent (requests.place_of new.request) (answers.place_of new.answer) new.rules.vars p.vars x.left.vars p.now s.placed.stand.0 s.placed.stand.1 (ap (λ (y : SessionRules). y.vars) rules ∙ x.vars);
      method = keeps_sent (requests.place_of new.request) new.method.bytes (asker_in asking).method s.placed.stand.0 (ap (λ (y : Buffer). y.bytes) (s.method ∙ f.method) ∙ x.method);
    }

pub sends_head : (cfg : Config) (old mid new : Directions) (p : Sided (meaning_of cfg)) (received : Received) (kept : Kept) (framing : Framing) → BodyStays → Ruled cfg old p received kept verdicts.Pass
    → Finishes old mid framing true → SendsSo mid new framing kept → framing ≡ request_framing (replaces (settings_of old).req_filters) (framing_of old.request)
    → declares_too_much (meaning_of (settings_of old)).request_filters (declared_of old.request) ≡ false
    → AsksServer (meaning_of cfg) (DirectionsStand cfg new) (request_of new) p
sends_head cfg old mid new p received kept framing stays r f s framed short =
    let x : Passed cfg old p received = has_passed cfg old p received kept stays r in
    let M : Meaning = meaning_of cfg in
    let asking : Asking Variables = record { received = received; head = x.left.head; vars = x.left.vars } in
    let request : RequestStands cfg new.request p.vars p.came asking [] p.reply = request_sends cfg old mid new p received kept framing x r f s framed short in
    let comes : Comes = M.request_rules (request_env p.vars received.head) in
    let fits : request_fits M received x.left.head ≡ true = fits_at cfg old p received kept framing true x r framed (f.fits_is x.left.head x.blocks) in
    record {
      asking = asking;
      stands = stand_sending cfg old mid new p received kept framing x r f s request;
      requests = s.goes cfg p.vars p.came asking p.reply request;
      asks = λ stream on.
          let y : (rest : Stream) × Asks M p.vars stream (Sends (forwarded_to asking rest)) =
          asks_behind M p.vars p.came received r.read.used (left_of old.request) r.read.head (λ rest. Sends (forwarded_to asking rest))
          (asks_server M received comes x.left x.is (declares_at cfg old p received kept false r short) fits) stream on in
          record { rest = y.0; asks = y.1 };
      uncut = uncut_going (request_of new).source s.begins.going;
      dropped = s.begins.dropped;
      settled = unsent (request_of new).sent (request_of new).source s.begins.sent;
      awaits = s.begins.awaits ∙ r.kept_is.awaits;
      held = s.begins.list ∙ (f.finished refl x.left.head x.blocks ∙ ap (λ (y : Framing). head_blocks (finish_request x.left.head y)) (framing_at cfg old p received kept framing r framed));
    }

-- ---- what a core sees of it

pub idle_starts : (side : AnswerSide) → answers.place_of side ≡ answered.Idle → (answers.seen side).answered ≡ false
idle_starts side e = ap (λ (x : Answered). answered_at x (stage_of side.lane)) e

pub idle_heard : (side : AnswerSide) → IsSoundSide side → answers.place_of side ≡ answered.Idle → (answers.seen side).heard ≡ false
idle_heard side s e = (subst (λ (x : Answered). FitsAt x side) e s.at).2

pub sending_goes : (old mid new : Directions) (kept : Kept) (framing : Framing) → Finishes old mid framing true → SendsSo mid new framing kept → GoesOn old new asks.Send
sending_goes old mid new kept framing f s =
    record {
      placed = s.placed;
      windows = λ n h. s.windows n (f.edits.window_size ∙ h.0, ap (λ (a : AnswerSide). answers.window_size_of a) f.answer ∙ h.1);
      is_open = s.is_open ∙ f.edits.is_open;
      window = s.window ∙ f.edits.window;
      waits = tt;
      less = λ before h. tt;
      answer = ap (λ (a : AnswerSeen). a.window) s.answer ∙ ap (λ (a : AnswerSide). (answers.seen a).window) f.answer;
      starts = idle_starts new.answer s.placed.stand.1;
      heard = idle_heard new.answer s.placed.sound.answer s.placed.stand.1;
    }
