-- What a session stands for, with the size of its output windows.
use Rattle.std.proofs.Common.{◌≡◌, ℕ, List, ◌∙◌}
use Rattle.http_rules.specs.declared.config.Config.{Config}
use Rattle.forward_core.specs.Meaning.Product.{meaning_of}
use Rattle.session_core.specs.History.{Coming}
use Rattle.session_core.specs.Leads.{AsksTo}
use Rattle.session_core.specs.Sided.{Sided, RequestSeen}
use Rattle.session_core.specs.declared.sides.Asked.{Asked}
use Rattle.session_core.specs.declared.sides.Asked.TheVariants as asks
use Rattle.forward_core.specs.Request.Seen as requests
use Rattle.forward_core.specs.Request.Stands.{Leads}
use Rattle.forward_core.specs.declared.request.side.RequestSide.{RequestSide}
use Rattle.forward_core.specs.Answer.Seen as answers
use Rattle.forward_core.specs.declared.answer.side.AnswerSide.{AnswerSide}
use Rattle.forward_core.specs.Joined.Joined.{DirectionsStand, SessionStands, HasWindows}
use Rattle.forward_core.specs.declared.joined.directions.Directions.{Directions}
use Rattle.forward_core.proofs.JoinedLemmas.Joining.{AnswerLeads, request_goes, answer_goes}

-- ---- one direction goes on

pub session_request : (d : Directions) (r : RequestSide) (comes : Coming → Coming) (puts : List ℕ → List ℕ) → Leads d.request r comes puts → requests.place_of r ≡ requests.place_of d.request
    → requests.window_size_of r ≡ requests.window_size_of d.request → (settings : Config × ℕ) (p : Sided (meaning_of settings.0)) → SessionStands settings d p
    → SessionStands settings (record d { request = r }) (record p { came = comes p.came; to_server = puts p.to_server })
session_request d r comes puts leads place size settings p s =
    record { directions = request_goes d r comes puts leads place settings.0 p s.directions; windows = (size ∙ s.windows.0, s.windows.1) }

pub session_answer : (d : Directions) (a : AnswerSide) (comes : Coming → Coming) → AnswerLeads d.answer a comes → answers.place_of a ≡ answers.place_of d.answer
    → answers.window_size_of a ≡ answers.window_size_of d.answer → (settings : Config × ℕ) (p : Sided (meaning_of settings.0)) → SessionStands settings d p
    → SessionStands settings (record d { answer = a }) (record p { server = comes p.server })
session_answer d a comes leads place size settings p s =
    record { directions = answer_goes d a comes leads place settings.0 p s.directions; windows = (s.windows.0, size ∙ s.windows.1) }

-- ---- the next request is asked for

pub session_asks : (settings : Config × ℕ) (new : Directions) (q : RequestSeen) (p : Sided (meaning_of settings.0)) (asks : Asked) → HasWindows settings.1 new
    → AsksTo (meaning_of settings.0) (DirectionsStand settings.0 new) q p asks → AsksTo (meaning_of settings.0) (SessionStands settings new) q p asks
session_asks settings new q p asks.More w h = record { directions = h; windows = w }
session_asks settings new q p asks.Nothing w h = (record { directions = h.0; windows = w }, h.1)
session_asks settings new q p asks.Refuse w h =
    record {
      code = h.code;
      no_body = h.no_body;
      method = h.method;
      behind = h.behind;
      text = h.text;
      spelled = h.spelled;
      stands = record { directions = h.stands; windows = w };
      asks = h.asks;
    }
session_asks settings new q p (asks.Reply kept) w h =
    record {
      reply = h.reply;
      now = h.now;
      text = h.text;
      spelled = h.spelled;
      behind = h.behind;
      stands = record { directions = h.stands; windows = w };
      asks = h.asks;
    }
session_asks settings new q p asks.Send w h =
    record {
      asking = h.asking;
      stands = record { directions = h.stands; windows = w };
      requests = h.requests;
      asks = h.asks;
      uncut = h.uncut;
      dropped = h.dropped;
      settled = h.settled;
      awaits = h.awaits;
      held = h.held;
    }
