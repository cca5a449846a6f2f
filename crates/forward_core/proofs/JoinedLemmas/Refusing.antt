-- What is said to a client before a server is asked for: a refusal.
use Rattle.std.proofs.Common.{◌≡◌, ℕ, ◌<◌, List, [], Bool, false, length, refl, sym, ap, ◌∙◌, subst, inr, arith}
use Rattle.http_model.specs.Reading.{Received}
use Rattle.px_sample.specs.Buffer.{Buffer}
use Rattle.px_sample.specs.Variables.{Variables}
use Rattle.http_rules.specs.declared.config.Config.{Config}
use Rattle.http_rules.specs.declared.verdict.Verdict.{Verdict}
use Rattle.forward_core.specs.Meaning.Product.{meaning_of}
use Rattle.session_model.specs.Stream.{Stream}
use Rattle.session_model.specs.Env.{request_env}
use Rattle.session_model.specs.Meaning.{is_head_request}
use Rattle.session_model.specs.Asking.{Asks, Refused, asked_by}
use Rattle.session_core.specs.History.{Coming, Continues}
use Rattle.session_core.specs.Sided.{Sided, Asking, Reply, asker_in, unsaid}
use Rattle.session_core.specs.Leads.{AsksRefusal}
use Rattle.session_core.specs.Lines.{ShowsLine}
use Rattle.session_core.specs.declared.sides.Asked.TheVariants as asks
use Rattle.forward_core.specs.Rules.Ruling.{config_of, IsReady}
use Rattle.forward_core.specs.declared.rules.rules.SessionRules.{SessionRules}
use Rattle.forward_core.specs.declared.request.kept.Kept.{Kept}
use Rattle.forward_core.specs.Request.Seen as requests
use Rattle.forward_core.specs.Request.Seen.{unread_at}
use Rattle.forward_core.specs.Request.Stands.{IsFor, RequestStands, StandsAt, TellsLine, IsUntouchedAt, left_of}
use Rattle.forward_core.proofs.RequestLemmas.Untouched.{behind_none}
use Rattle.forward_core.specs.declared.request.place.Place.{Place as Asked}
use Rattle.forward_core.specs.declared.request.place.Place.TheVariants as asked
use Rattle.forward_core.specs.declared.request.side.RequestSide.{RequestSide}
use Rattle.forward_core.specs.Answer.Seen as answers
use Rattle.forward_core.specs.Answer.Stands.{IsSoundSide, AnswerStands}
use Rattle.forward_core.specs.declared.answer.place.Place.TheVariants as answered
use Rattle.forward_core.specs.declared.answer.side.AnswerSide.{AnswerSide}
use Rattle.forward_core.specs.Joined.Joined.{IsSoundPair, Holds, KeepsMethod, DirectionsStand, settings_of, IsLawful}
use Rattle.forward_core.specs.Joined.Asks.{SaysText, SaysRefusal, IsSilent, Ruled, RefusesSo, GoesOn}
use Rattle.forward_core.specs.declared.joined.directions.Directions.{Directions}
use Rattle.forward_core.proofs.JoinedLemmas.AskLemmas.{asks_always}
use Rattle.forward_core.proofs.JoinedLemmas.Serving.{sound_both, begun_idle}

-- ---- nothing is read and nothing goes out

pub idle_stands : (cfg : Config) (side : RequestSide) (vars : Variables) (came : Coming) (asking : Asking Variables) (to_server : List ℕ) (reply : Reply Variables)
    → requests.place_of side ≡ asked.Idle → IsFor cfg side.lane → came.ending ≡ side.lane.ended → ShowsLine (meaning_of cfg) came (requests.line_of side) → RequestStands cfg side vars came asking to_server reply
idle_stands cfg side vars came asking to_server reply idle is_for ending line =
    record {
      is_for = is_for;
      at = subst (λ (x : Asked). StandsAt x cfg side.lane vars came asking to_server reply) (sym idle) tt;
      ending = ending;
      line = subst (λ (x : Asked). TellsLine x cfg came (requests.line_of side)) (sym idle) line;
      untouched = subst (λ (x : Asked). IsUntouchedAt x side.untouched came) (sym idle) (behind_none came side.untouched);
    }

-- the directions stand so for this past
pub record Stills (cfg : Config) (d : Directions) (p : Sided (meaning_of cfg)) : Type 0 where
  pub config : settings_of d ≡ cfg
  pub laws : IsLawful cfg
  pub is_for : IsFor cfg d.request.lane
  pub ending : p.came.ending ≡ d.request.lane.ended
  pub line : ShowsLine (meaning_of cfg) p.came (requests.line_of d.request)
  pub answer : AnswerStands cfg d.answer p.asking p.server p.to_client p.now p.saying

-- a text is said, and the request direction stays where nothing is read
text_stands : (cfg : Config) (old new : Directions) (p : Sided (meaning_of cfg)) (text : List ℕ) → Stills cfg old p → requests.place_of old.request ≡ asked.Idle → new.request ≡ old.request
    → settings_of new ≡ settings_of old → SaysText cfg old.answer new.answer text → DirectionsStand cfg new (record p { saying = unsaid text })
text_stands cfg old new p text s idle request config says =
    let still : requests.place_of new.request ≡ asked.Idle = ap (λ (x : RequestSide). requests.place_of x) request ∙ idle in
    record {
      config = config ∙ s.config;
      laws = s.laws;
      request = idle_stands cfg new.request p.vars p.came p.asking p.to_server p.reply still (subst (λ (x : RequestSide). IsFor cfg x.lane) (sym request) s.is_for)
          (subst (λ (x : RequestSide). p.came.ending ≡ x.lane.ended) (sym request) s.ending) (subst (λ (x : RequestSide). ShowsLine (meaning_of cfg) p.came (requests.line_of x)) (sym request) s.line);
      answer = says p.asking p.server p.to_client p.now p.saying s.answer;
      vars = subst (λ (x : Asked). Holds x (answers.place_of new.answer) new.rules.vars p.vars p.asking.vars p.now) (sym still) tt;
      method = subst (λ (x : Asked). KeepsMethod x new.method.bytes (asker_in p.asking).method) (sym still) tt;
    }

-- ---- a refusal

refusal_at : (cfg now : Config) (old new : AnswerSide) (code : ℕ) (method other : List ℕ) (vars held : Variables) (no_body alone : Bool) → cfg ≡ now → method ≡ other → vars ≡ held → no_body ≡ alone
    → SaysRefusal cfg old new code method vars no_body → SaysRefusal now old new code other held alone
refusal_at cfg now old new code method other vars held no_body alone e f g h says =
    subst (λ (x : Bool). SaysRefusal now old new code other held x) h
    (subst (λ (x : Variables). SaysRefusal now old new code other x no_body) g
    (subst (λ (x : List ℕ). SaysRefusal now old new code x vars no_body) f
    (subst (λ (x : Config). SaysRefusal x old new code method vars no_body) e says)))

pub asks_refusal : (cfg : Config) (old new : Directions) (p : Sided (meaning_of cfg)) (code : ℕ) (method other : List ℕ) (vars : Variables) (no_body alone : Bool) → Stills cfg old p → requests.place_of old.request ≡ asked.Idle
    → RefusesSo old new code method no_body → method ≡ other → old.rules.vars ≡ vars → no_body ≡ alone
    → ((stream : Stream) → Continues p.came stream → Asks (meaning_of cfg) p.vars stream (Refused code alone other vars)) → AsksRefusal (meaning_of cfg) (DirectionsStand cfg new) p
asks_refusal cfg old new p code method other vars no_body alone s idle r f g h asks =
    let says : SaysRefusal cfg old.answer new.answer code other vars alone = refusal_at (settings_of old) cfg old.answer new.answer code method other old.rules.vars vars no_body alone s.config f g h r.says in
    record {
      code = code;
      no_body = alone;
      method = other;
      behind = vars;
      text = says.text;
      spelled = says.spelled;
      stands = text_stands cfg old new p says.text s idle r.request r.config says.says;
      asks = asks;
    }

-- of a head that the rules ran on
pub ruled_still : (cfg : Config) (d : Directions) (p : Sided (meaning_of cfg)) (received : Received) (kept : Kept) (verdict : Verdict) → Ruled cfg d p received kept verdict → Stills cfg d p
ruled_still cfg d p received kept verdict r = record {
  config = r.config;
  laws = r.laws;
  is_for = r.read.is_for;
  ending = ap (λ (x : Coming). x.ending) r.read.head.came_is;
  line = inr r.read.line;
  answer = r.answer;
}

pub refuses_head : (cfg : Config) (old new : Directions) (p : Sided (meaning_of cfg)) (received : Received) (kept : Kept) (verdict : Verdict) (code : ℕ) (method : List ℕ) (vars : Variables)
    → Ruled cfg old p received kept verdict → requests.place_of old.request ≡ asked.Idle → RefusesSo old new code old.method.bytes kept.head_asked → old.method.bytes ≡ method → old.rules.vars ≡ vars
    → ((rest : Stream) → Refused code (is_head_request received.head) method vars ≡ asked_by (meaning_of cfg) received rest ((meaning_of cfg).request_rules (request_env p.vars received.head)))
    → AsksRefusal (meaning_of cfg) (DirectionsStand cfg new) p
refuses_head cfg old new p received kept verdict code method vars r idle refuses m v is =
    asks_refusal cfg old new p code old.method.bytes method vars kept.head_asked (is_head_request received.head) (ruled_still cfg old p received kept verdict r) idle refuses m v r.kept_is.head_asked
    (asks_always (meaning_of cfg) p.vars p.came received r.read.used (left_of old.request) r.read.head (Refused code (is_head_request received.head) method vars) is)

-- ---- what a core sees of it

less_unread : (pl : Asked) (input : List ℕ) (before : ℕ) → pl ≡ asked.Idle → length input < before → unread_at pl input < before
less_unread pl input before idle h = let some : 0 < before = omega (arith, h) in subst (λ (x : Asked). unread_at x input < before) (sym idle) some

pub refusal_goes : (old new : Directions) (code : ℕ) (method : List ℕ) (no_body : Bool) → requests.place_of old.request ≡ asked.Idle → RefusesSo old new code method no_body → GoesOn old new asks.Refuse
refusal_goes old new code method no_body idle r =
    record {
      placed = record { sound = r.sound; stand = (begun_idle (requests.place_of new.request) (ap (λ (x : RequestSide). requests.place_of x) r.request ∙ idle), r.place) };
      windows = r.windows;
      is_open = ap (λ (x : RequestSide). requests.is_open x) r.request;
      window = ap (λ (x : RequestSide). requests.window_of x) r.request;
      waits = tt;
      less = λ before h. subst (λ (x : RequestSide). requests.unread_of x < before) (sym r.request) (less_unread old.request.place old.request.lane.input.items before idle h);
      answer = r.window;
      starts = r.starts;
      heard = r.heard;
    }

-- ---- from what is said

-- a text is said with these rules
pub record SaysOn (d : Directions) (a : AnswerSide) (rules : SessionRules) : Type 0 where
  pub place : answers.place_of a ≡ answered.Saying
  pub starts : (answers.seen a).answered ≡ false
  pub heard : (answers.seen a).heard ≡ false
  pub window : (answers.seen a).window ≡ (answers.seen d.answer).window
  pub sound : IsSoundSide a
  pub size : answers.size_of a ≡ answers.size_of d.answer
  pub window_size : answers.window_size_of a ≡ answers.window_size_of d.answer
  pub ready : IsReady rules
  pub config : config_of rules ≡ config_of d.rules

pub refuses_so : (d : Directions) (a : AnswerSide) (rules : SessionRules) (code : ℕ) (method : List ℕ) (no_body : Bool) → IsSoundPair d → SaysOn d a rules → method ≡ d.method.bytes
    → SaysRefusal (settings_of d) d.answer a code method d.rules.vars no_body → RefusesSo d (record d { answer = a; rules = rules }) code d.method.bytes no_body
refuses_so d a rules code method no_body sound s is says =
    record {
      request = refl;
      config = s.config;
      says = subst (λ (x : List ℕ). SaysRefusal (settings_of d) d.answer a code x d.rules.vars no_body) is says;
      place = s.place;
      sound = sound_both d a rules s.sound s.size s.ready s.config sound;
      windows = λ n h. (h.0, s.window_size ∙ h.1);
      window = s.window;
      starts = s.starts;
      heard = s.heard;
    }

-- ---- no head was read, so there is no method

pub silent_emptied : (d : Directions) (method : Buffer) → method.cap ≡ d.method.cap → IsSilent d → IsSilent (record d { method = method })
silent_emptied d method cap s =
    record {
      sound = record { request = s.sound.request; answer = s.sound.answer; rules = s.sound.rules; request_limits = s.sound.request_limits; answer_size = s.sound.answer_size; method = cap ∙ s.sound.method };
      idle = s.idle;
      silent = s.silent;
    }

pub refuses_emptied : (d : Directions) (method : Buffer) (new : Directions) (code : ℕ) (no_body : Bool) → method.bytes ≡ [] → RefusesSo (record d { method = method }) new code method.bytes no_body → RefusesSo d new code [] no_body
refuses_emptied d method new code no_body none r =
    let says : SaysRefusal (settings_of d) d.answer new.answer code [] d.rules.vars no_body =
    subst (λ (xs : List ℕ). SaysRefusal (settings_of d) d.answer new.answer code xs d.rules.vars no_body) none r.says in
    record { request = r.request; config = r.config; says = says; place = r.place; sound = r.sound; windows = r.windows; window = r.window; starts = r.starts; heard = r.heard }
