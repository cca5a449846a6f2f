-- Directions to which nothing has happened.
use Rattle.std.proofs.Common.{◌≡◌, List, ℕ, [], true, false, Bool, Option, None, refl, sym, ap, ◌∙◌, subst}
use Rattle.px_peer.specs.declared.Peer.{Peer}
use Rattle.http_model.specs.Head.{Head, Message, RequestLine}
use Rattle.http_model.specs.Reading.{Received}
use Rattle.http_model.specs.declared.Framing.TheVariants.{Absent}
use Rattle.px_sample.specs.Variables.{Variables, no_variables}
use Rattle.http_rules.specs.declared.config.Config.{Config}
use Rattle.http_rules.specs.Lives.{answering}
use Rattle.forward_core.specs.Meaning.Product.{meaning_of}
use Rattle.forward_core.specs.Meaning.Beginning.{beginning}
use Rattle.session_core.specs.History.{Coming, no_stream}
use Rattle.session_core.specs.Place as at
use Rattle.session_core.specs.Sided.{Sided, Asking, Reply, Saying, asker_in, unsaid}
use Rattle.session_core.specs.Leads.{IsFresh}
use Rattle.forward_core.specs.Rules.Ruling.{IsReady}
use Rattle.forward_core.specs.Request.Seen as requests
use Rattle.forward_core.specs.Request.Stands.{IsSound, RequestStands, TellsLine}
use Rattle.forward_core.specs.Request.Stands.{StandsAt as RequestAt}
use Rattle.forward_core.specs.declared.request.side.RequestSide.{RequestSide}
use Rattle.forward_core.specs.declared.answer.side.AnswerSide.{AnswerSide}
use Rattle.forward_core.specs.declared.request.place.Place.{Place as Asked}
use Rattle.forward_core.specs.declared.request.place.Place.TheVariants as asked
use Rattle.forward_core.specs.Answer.Seen as answers
use Rattle.forward_core.specs.Answer.HeadsRead.{HeardAt}
use Rattle.forward_core.specs.Answer.Stands.{IsSoundSide, AnswerStands, IsAsker, FitsAt}
use Rattle.forward_core.specs.Answer.Stands.{StandsAt as AnswerAt}
use Rattle.forward_core.specs.declared.answer.place.Place.{Place as Answered}
use Rattle.forward_core.specs.declared.answer.place.Place.TheVariants as answered
use Rattle.forward_core.specs.declared.answer.asker.Asker.{Asker}
use Rattle.forward_core.specs.Joined.Joined.{IsAt, Holds, KeepsMethod, DirectionsStand, settings_of, request_of, answer_of, IsLawful}
use Rattle.forward_core.specs.declared.joined.directions.Directions.{Directions}

abbrev pub no_head : Head
no_head = record { line = RequestLine [] [] []; fields = [] }

abbrev pub no_received : Received
no_received = record { head = no_head; framing = Absent; declared = None; close = false }

abbrev pub no_asking : Asking Variables
no_asking = record { received = no_received; head = no_head; vars = no_variables }

abbrev pub no_message : Message
no_message = record { head = no_head; framing = Absent; body = []; trailers = [] }

abbrev pub no_reply : Reply Variables
no_reply = record { message = no_message; no_body = false; keep = false; method = []; vars = no_variables }

abbrev pub no_past : (cfg : Config) → Sided (meaning_of cfg)
no_past cfg =
    record { vars = beginning cfg.peer; came = no_stream; asking = no_asking; to_server = []; server = no_stream; to_client = []; now = no_variables; reply = no_reply; saying = unsaid [] }

asked_nothing : (seen : Asker) → seen ≡ answers.nobody → IsAsker seen (asker_in no_asking)
asked_nothing seen h = record { head_asked = ap (λ (a : Asker). a.head_asked) h; is_http_11 = ap (λ (a : Asker). a.is_http_11) h; keep = ap (λ (a : Asker). a.keep) h }

-- new directions stand for nothing
pub fresh_stand : (cfg : Config) (d : Directions) → settings_of d ≡ cfg → IsLawful cfg → d.rules.vars ≡ beginning cfg.peer → requests.place_of d.request ≡ asked.Reading
    → RequestStands cfg d.request (beginning cfg.peer) no_stream no_asking [] no_reply
    → (IsAsker (answers.asker_of d.answer) (asker_in no_asking) → AnswerStands cfg d.answer no_asking no_stream [] no_variables (unsaid []))
    → answers.asker_of d.answer ≡ answers.nobody
    → DirectionsStand cfg d (no_past cfg)
fresh_stand cfg d config laws vars reads request answer nobody =
    record {
      config = config;
      laws = laws;
      request = request;
      answer = answer (asked_nothing (answers.asker_of d.answer) nobody);
      vars = subst (λ (x : Asked). Holds x (answers.place_of d.answer) d.rules.vars (beginning cfg.peer) no_asking.vars no_variables) (sym reads) vars;
      method = subst (λ (x : Asked). KeepsMethod x d.method.bytes (asker_in no_asking).method) (sym reads) tt;
    }

pub fresh_new : (cfg : Config) (d : Directions) (r : RequestSide) (a : AnswerSide) → d.request ≡ r → d.answer ≡ a → settings_of d ≡ cfg → IsLawful cfg → d.rules.vars ≡ beginning cfg.peer
    → requests.place_of r ≡ asked.Reading → RequestStands cfg r (beginning cfg.peer) no_stream no_asking [] no_reply
    → (IsAsker (answers.asker_of a) (asker_in no_asking) → AnswerStands cfg a no_asking no_stream [] no_variables (unsaid []))
    → answers.asker_of a ≡ answers.nobody
    → DirectionsStand cfg d (no_past cfg)
fresh_new cfg d r a is_r is_a config laws vars reads request answer nobody =
    fresh_stand cfg d config laws vars (ap (λ (x : RequestSide). requests.place_of x) is_r ∙ reads)
    (subst (λ (x : RequestSide). RequestStands cfg x (beginning cfg.peer) no_stream no_asking [] no_reply) (sym is_r) request)
    (subst (λ (x : AnswerSide). IsAsker (answers.asker_of x) (asker_in no_asking) → AnswerStands cfg x no_asking no_stream [] no_variables (unsaid [])) (sym is_a) answer)
    (subst (λ (x : AnswerSide). answers.asker_of x ≡ answers.nobody) (sym is_a) nobody)

pub fresh_at : (cfg : Config) (d : Directions) (r : RequestSide) (a : AnswerSide) → d.request ≡ r → d.answer ≡ a → settings_of d ≡ cfg → IsSound r → requests.limits_of r ≡ cfg.limits
    → requests.place_of r ≡ asked.Reading → IsSoundSide a → answers.size_of a ≡ cfg.limits.bufsize → answers.place_of a ≡ answered.Idle → IsReady d.rules → d.method.cap ≡ cfg.limits.bufsize → IsAt d at.Reads
fresh_at cfg d r a is_r is_a config sound limits reads sound_a size idle ready method =
    record {
      sound = record {
        request = subst (λ (x : RequestSide). IsSound x) (sym is_r) sound;
        answer = subst (λ (x : AnswerSide). IsSoundSide x) (sym is_a) sound_a;
        rules = ready;
        request_limits = ap (λ (x : RequestSide). requests.limits_of x) is_r ∙ limits ∙ ap (λ (x : Config). x.limits) (sym config);
        answer_size = ap (λ (x : AnswerSide). answers.size_of x) is_a ∙ size ∙ ap (λ (x : Config). x.limits.bufsize) (sym config);
        method = method ∙ ap (λ (x : Config). x.limits.bufsize) (sym config);
      };
      stand = (ap (λ (x : RequestSide). requests.place_of x) is_r ∙ reads, ap (λ (x : AnswerSide). answers.place_of x) is_a ∙ idle);
    }

pub fresh_is : (cfg : Config) (d : Directions) (r : RequestSide) (a : AnswerSide) → d.request ≡ r → d.answer ≡ a → requests.is_open r ≡ true → requests.window_of r ≡ [] → (answers.seen a).window ≡ []
    → IsFresh (meaning_of cfg) (request_of d) (answer_of d) (no_past cfg)
fresh_is cfg d r a is_r is_a opened window window_a =
    record {
      vars = refl;
      came = refl;
      to_client = refl;
      is_open = ap (λ (x : RequestSide). requests.is_open x) is_r ∙ opened;
      to_server_window = ap (λ (x : RequestSide). requests.window_of x) is_r ∙ window;
      to_client_window = ap (λ (x : AnswerSide). (answers.seen x).window) is_a ∙ window_a;
    }

-- ---- for another peer

-- where no head was read, nothing of a side is of the peer
pub request_for : (cfg : Config) (peer : Option Peer) (r : RequestSide) (vars : Variables) (came : Coming) (asking : Asking Variables) (put : List ℕ) (reply : Reply Variables) → requests.place_of r ≡ asked.Reading
    → RequestStands cfg r vars came asking put reply → RequestStands (record cfg { peer = peer }) r vars came asking put reply
request_for cfg peer r vars came asking put reply reads s =
    record {
      is_for = record { limits = s.is_for.limits; filters = s.is_for.filters };
      at = subst (λ (x : Asked). RequestAt x (record cfg { peer = peer }) r.lane vars came asking put reply) (sym reads) (subst (λ (x : Asked). RequestAt x cfg r.lane vars came asking put reply) reads s.at);
      ending = s.ending;
      line = subst (λ (x : Asked). TellsLine x (record cfg { peer = peer }) came (requests.line_of r)) (sym reads) (subst (λ (x : Asked). TellsLine x cfg came (requests.line_of r)) reads s.line);
      untouched = s.untouched;
    }

pub answer_for : (cfg : Config) (peer : Option Peer) (a : AnswerSide) (asking : Asking Variables) (server : Coming) (put : List ℕ) (now : Variables) (saying : Saying) → IsSoundSide a → answers.place_of a ≡ answered.Idle
    → AnswerStands cfg a asking server put now saying → AnswerStands (record cfg { peer = peer }) a asking server put now saying
answer_for cfg peer a asking server put now saying sound idle s =
    let fits : FitsAt answered.Idle a = subst (λ (x : Answered). FitsAt x a) idle sound.at in
    record {
      asks = s.asks;
      for_it = record { limits = s.for_it.limits; filters = s.for_it.filters };
      at = subst (λ (x : Answered). AnswerAt x a.status (record cfg { peer = peer }) (asker_in asking) (answering asking.vars) a.lane server put now saying) (sym idle)
          (subst (λ (x : Answered). AnswerAt x a.status cfg (asker_in asking) (answering asking.vars) a.lane server put now saying) idle s.at);
      heard = subst (λ (h : Bool). HeardAt h a.place (record cfg { peer = peer }) (asker_in asking) a.lane server) (sym fits.2)
          (subst (λ (x : Answered). HeardAt false x (record cfg { peer = peer }) (asker_in asking) a.lane server) (sym idle) tt);
      rests = s.rests;
    }
