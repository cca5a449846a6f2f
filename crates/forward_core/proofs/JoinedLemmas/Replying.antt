-- A reply of the rules, for which no server is asked.
use Rattle.std.proofs.Common.{◌≡◌, ◌≢◌, ℕ, ◌<◌, List, [], Bool, true, ◌&&◌, length, refl, sym, ap, ◌∙◌, subst}
use Rattle.http_model.specs.declared.Framing.{Framing}
use Rattle.http_model.specs.declared.Framing.TheVariants as framed
use Rattle.http_model.specs.Head.{Message, message_blocks}
use Rattle.http_model.specs.Reading.{Received}
use Rattle.http_model.specs.Spelling.{SpellsBody}
use Rattle.px_sample.specs.Variables.{Variables}
use Rattle.http_rules.specs.declared.rule.action.Direction.{Direction}
use Rattle.http_rules.specs.declared.rule.action.Direction.TheVariants as directions
use Rattle.http_rules.specs.declared.rule.rule.Rule.{Rule}
use Rattle.http_rules.specs.Rule.Valid.{AreRules}
use Rattle.http_rules.specs.Action.Given.{Env}
use Rattle.http_rules.specs.declared.config.Config.{Config}
use Rattle.http_rules.specs.declared.verdict.Verdict.TheVariants as verdicts
use Rattle.http_rules.specs.Lives.{answering}
use Rattle.http_rules.specs.Rules.{Comes, rules_of}
use Rattle.forward_core.specs.Meaning.Product.{meaning_of}
use Rattle.session_model.specs.Env.{Verdict, Reply, request_env, method_in}
use Rattle.session_model.specs.Meaning.{Meaning, is_head_request, is_bodiless, keeps}
use Rattle.session_model.specs.Asking.{asked_by}
use Rattle.session_core.specs.History.{Coming}
use Rattle.session_core.specs.Sided.{Sided, Asking, asker_in, replied_to, Saying, unsaid}
use Rattle.session_core.specs.Sided as sided
use Rattle.session_core.specs.Leads.{AsksReply}
use Rattle.session_core.specs.declared.sides.Asked.TheVariants as asks
use Rattle.forward_core.specs.Rules.Ruling.{config_of}
use Rattle.forward_core.specs.declared.rules.rules.SessionRules.{SessionRules}
use Rattle.forward_core.specs.declared.request.kept.Kept.{Kept}
use Rattle.forward_core.specs.Request.Reads.{RepliesTo, reply_to}
use Rattle.forward_core.specs.Request.Seen as requests
use Rattle.forward_core.specs.Request.Seen.{list_of, unread_at}
use Rattle.forward_core.specs.Request.Stands.{IsSound, RequestStands, left_of}
use Rattle.forward_core.specs.declared.request.place.Place.{Place as Asked}
use Rattle.forward_core.specs.declared.request.place.Place.TheVariants as asked
use Rattle.forward_core.specs.declared.request.side.RequestSide.{RequestSide}
use Rattle.forward_core.proofs.AnswerLemmas.Lines.{replied_line}
use Rattle.forward_core.specs.Answer.Listed.{IsListed, IsSentAsItIs}
use Rattle.forward_core.specs.Answer.Seen as answers
use Rattle.forward_core.specs.Answer.Stands.{AnswerStands, StandsAt}
use Rattle.forward_core.specs.declared.answer.place.Place.{Place as Answered}
use Rattle.forward_core.specs.declared.answer.place.Place.TheVariants as answered
use Rattle.forward_core.specs.declared.answer.side.AnswerSide.{AnswerSide}
use Rattle.forward_core.specs.Joined.Joined.{Holds, KeepsMethod, DirectionsStand, settings_of, IsLawful}
use Rattle.forward_core.specs.Joined.Asks.{SaysReply, HasRead, Ruled, GoesOn, AsksOn}
use Rattle.forward_core.specs.declared.joined.directions.Directions.{Directions}
use Rattle.forward_core.proofs.JoinedLemmas.AskLemmas.{asks_behind}
use Rattle.forward_core.proofs.JoinedLemmas.Joining.{sound_request}
use Rattle.forward_core.proofs.JoinedLemmas.Refusing.{SaysOn}
use Rattle.forward_core.proofs.JoinedLemmas.Serving.{sound_both}
use Rattle.forward_core.proofs.JoinedLemmas.Verdicts.{LeftReply, replies_with, method_asked}

-- ---- its message

-- what http_rules say of replies
pub record ArePlain : Type 0 where
  pub trailers : (size : ℕ) (rules : List Rule) (env left : Env) (m : Message) → rules_of size rules env ≡ Reply m left → m.trailers ≡ []
  pub framing : (size : ℕ) (rules : List Rule) (env left : Env) (m : Message) → rules_of size rules env ≡ Reply m left → m.framing ≢ framed.Chunked
  pub body : (size : ℕ) (direction : Direction) (rules : List Rule) (env left : Env) (m : Message) → AreRules direction rules → rules_of size rules env ≡ Reply m left → SpellsBody true m.framing m.body m.trailers m.body

sent_as_it_is : (f : Framing) (body : List ℕ) (trailers : List (List ℕ × List ℕ)) → f ≢ framed.Chunked → SpellsBody true f body trailers body → IsSentAsItIs f body
sent_as_it_is framed.Absent body trailers other h = h
sent_as_it_is (framed.Length n) body trailers other h = tt
sent_as_it_is framed.Chunked body trailers other h = absurd (other refl)
sent_as_it_is framed.ToClose body trailers other h = tt

pub reply_listed : (cfg : Config) (env left : Env) (m : Message) → ArePlain → AreRules directions.Request cfg.request → (meaning_of cfg).request_rules env ≡ Reply m left → IsListed m
reply_listed cfg env left m plain good is =
    record {
      line = replied_line cfg.limits.bufsize cfg.request env left m is;
      trailers = plain.trailers cfg.limits.bufsize cfg.request env left m is;
      framed = sent_as_it_is m.framing m.body m.trailers (plain.framing cfg.limits.bufsize cfg.request env left m is)
          (plain.body cfg.limits.bufsize directions.Request cfg.request env left m good is);
    }

-- ---- what it is said by

-- nothing was put out, whatever the variables behind an answer are
any_now : (cfg : Config) (side : AnswerSide) (asking : Asking Variables) (server : Coming) (put : List ℕ) (now other : Variables) (saying : Saying) → answers.place_of side ≡ answered.Idle
    → AnswerStands cfg side asking server put now saying → AnswerStands cfg side asking server put other saying
any_now cfg side asking server put now other saying idle s =
    record {
      asks = s.asks;
      for_it = s.for_it;
      heard = s.heard;
      rests = s.rests;
      at = subst (λ (x : Answered). StandsAt x side.status cfg (asker_in asking) (answering asking.vars) side.lane server put other saying) (sym idle)
          (subst (λ (x : Answered). StandsAt x side.status cfg (asker_in asking) (answering asking.vars) side.lane server put now saying) idle s.at);
    }

reply_at : (cfg now : Config) (old new : AnswerSide) (m : Message) (method other : List ℕ) (vars held behind : Variables) (no_body alone keep goes kept : Bool) → cfg ≡ now → method ≡ other → vars ≡ held → no_body ≡ alone → keep ≡ goes
    → SaysReply cfg old new m method vars behind no_body keep kept → SaysReply now old new m other held behind alone goes kept
reply_at cfg now old new m method other vars held behind no_body alone keep goes kept e f g h i says =
    subst (λ (x : Bool). SaysReply now old new m other held behind alone x kept) i
    (subst (λ (x : Bool). SaysReply now old new m other held behind x keep kept) h
    (subst (λ (x : Variables). SaysReply now old new m other x behind no_body keep kept) g
    (subst (λ (x : List ℕ). SaysReply now old new m x vars behind no_body keep kept) f
    (subst (λ (x : Config). SaysReply x old new m method vars behind no_body keep kept) e says))))

-- what `reply` says of every message that stands there
abbrev pub SaysEach : (d : Directions) (a : AnswerSide) (rules : SessionRules) (method : List ℕ) (no_body keep kept : Bool) → Type 0
SaysEach d a rules method no_body keep kept =
    (m : Message) → IsListed m → d.rules.said.blocks ≡ message_blocks m → SaysReply (settings_of d) d.answer a m method d.rules.vars rules.vars no_body keep kept

-- how the directions stand behind it
replied_stands : (cfg : Config) (d : Directions) (a : AnswerSide) (rules : SessionRules) (r : RequestSide) (p : Sided (meaning_of cfg)) (reply : sided.Reply Variables) (text : List ℕ)
    → settings_of d ≡ cfg → config_of rules ≡ config_of d.rules → IsLawful cfg → requests.place_of r ≡ asked.Replied
    → RequestStands cfg r p.vars p.came p.asking p.to_server reply → AnswerStands cfg a p.asking p.server p.to_client rules.vars (unsaid text)
    → DirectionsStand cfg (record d { answer = a; rules = rules; request = r }) (record p { reply = reply; now = rules.vars; saying = unsaid text })
replied_stands cfg d a rules r p reply text config same laws place request answer =
    record {
      config = same ∙ config;
      laws = laws;
      request = request;
      answer = answer;
      vars = subst (λ (x : Asked). Holds x (answers.place_of a) rules.vars p.vars p.asking.vars rules.vars) (sym place) refl;
      method = subst (λ (x : Asked). KeepsMethod x d.method.bytes (asker_in p.asking).method) (sym place) tt;
    }

keeps_on : (a b c d : Bool) → a ≡ c → b ≡ d → (a && b) ≡ (c && d)
keeps_on a b c d e f = ap (λ (x : Bool). x && b) e ∙ ap (λ (x : Bool). c && x) f

pub asks_reply : (cfg : Config) (d : Directions) (a : AnswerSide) (rules : SessionRules) (r : RequestSide) (p : Sided (meaning_of cfg)) (received : Received) (kept : Kept) (keep going : Bool) → ArePlain → HasRead d
    → Ruled cfg d p received kept verdicts.Reply → keep ≡ (kept.keep && kept.is_bodiless) → SaysEach d a rules d.method.bytes kept.head_asked keep going → config_of rules ≡ config_of d.rules → requests.place_of r ≡ asked.Replied
    → RepliesTo d.request r → AsksReply (meaning_of cfg) (DirectionsStand cfg (record d { answer = a; rules = rules; request = r })) p going
asks_reply cfg d a rules r p received kept keep going plain read ruled keep_is says same place replies =
    let M : Meaning = meaning_of cfg in
    let comes : Comes = M.request_rules (request_env p.vars received.head) in
    let x : LeftReply comes (list_of d.request) d.rules.vars d.rules.said.blocks = replies_with comes (list_of d.request) d.rules.vars d.rules.said.blocks ruled.leaves in
    let good : AreRules directions.Request cfg.request = subst (λ (c : Config). AreRules directions.Request c.request) ruled.config read.still.sound.rules.valid.request in
    let listed : IsListed x.message = reply_listed cfg (request_env p.vars received.head) x.left x.message plain good x.is in
    let said : SaysReply cfg d.answer a x.message (method_in x.left) x.left.vars rules.vars (is_head_request received.head) (keeps received && is_bodiless received.framing) going =
    reply_at (settings_of d) cfg d.answer a x.message d.method.bytes (method_in x.left) d.rules.vars x.left.vars rules.vars kept.head_asked (is_head_request received.head) keep (keeps received && is_bodiless received.framing) going
    ruled.config (ruled.method ∙ method_asked x.left (list_of d.request) d.rules.vars x.at) x.at.vars_are ruled.kept_is.head_asked
    (keep_is ∙ keeps_on kept.keep kept.is_bodiless (keeps received) (is_bodiless received.framing) ruled.kept_is.keep ruled.kept_is.is_bodiless) (says x.message listed x.stands) in
    let reply : sided.Reply Variables = reply_to received x.message x.left in
    record {
      reply = reply;
      now = rules.vars;
      text = said.text;
      spelled = said.spelled;
      behind = said.behind;
      stands = replied_stands cfg d a rules r p reply said.text ruled.config same ruled.laws place
          (replies cfg p.vars p.came received x.message x.left p.asking p.to_server ruled.read x.is)
          (said.says p.asking p.server p.to_client rules.vars p.saying (any_now cfg d.answer p.asking p.server p.to_client p.now rules.vars p.saying read.still.silent ruled.answer));
      asks = asks_behind M p.vars p.came received ruled.read.used (left_of d.request) ruled.read.head (λ rest. replied_to reply rest)
          (λ rest. sym (ap (λ (v : Verdict Variables). asked_by M received rest v) x.is));
    }

-- ---- what a core sees of it

less_replied : (pl : Asked) (input : List ℕ) (before : ℕ) → pl ≡ asked.Replied → length input < before → unread_at pl input < before
less_replied pl input before e h = subst (λ (x : Asked). unread_at x input < before) (sym e) h

pub reply_goes : (d : Directions) (a : AnswerSide) (rules : SessionRules) (r : RequestSide) (going : Bool) → HasRead d → SaysOn d a rules → IsSound r → requests.limits_of r ≡ requests.limits_of d.request → requests.window_size_of r ≡ requests.window_size_of d.request
    → requests.place_of r ≡ asked.Replied → requests.is_open r ≡ requests.is_open d.request → requests.window_of r ≡ requests.window_of d.request → requests.input_size_of r ≡ requests.input_size_of d.request
    → GoesOn d (record d { answer = a; rules = rules; request = r }) (asks.Reply going)
reply_goes d a rules r going read s sound limits size place is_open window input =
    record {
      placed = record {
        sound = sound_both (record d { request = r }) a rules s.sound s.size s.ready s.config (sound_request d r sound limits read.still.sound);
        stand = (place, s.place);
      };
      windows = λ n h. (size ∙ h.0, s.window_size ∙ h.1);
      is_open = is_open;
      window = window;
      waits = tt;
      less = λ before h. less_replied (requests.place_of r) r.lane.input.items before place (subst (λ (n : ℕ). n < before) (sym input) h);
      answer = s.window;
      starts = s.starts;
      heard = s.heard;
    }

pub replies_on : (d : Directions) (a : AnswerSide) (rules : SessionRules) (r : RequestSide) (kept : Kept) (keep going : Bool) → ArePlain → HasRead d → SaysOn d a rules → keep ≡ (kept.keep && kept.is_bodiless)
    → SaysEach d a rules d.method.bytes kept.head_asked keep going → IsSound r → requests.limits_of r ≡ requests.limits_of d.request → requests.window_size_of r ≡ requests.window_size_of d.request → requests.place_of r ≡ asked.Replied → requests.is_open r ≡ requests.is_open d.request
    → requests.window_of r ≡ requests.window_of d.request → requests.input_size_of r ≡ requests.input_size_of d.request → RepliesTo d.request r
    → AsksOn d (record d { answer = a; rules = rules; request = r }) kept verdicts.Reply (asks.Reply going)
replies_on d a rules r kept keep going plain read s keep_is says sound limits size place is_open window input replies =
    record {
      leads = λ cfg p received ruled. asks_reply cfg d a rules r p received kept keep going plain read ruled keep_is says s.config place replies;
      goes = reply_goes d a rules r going read s sound limits size place is_open window input;
    }
