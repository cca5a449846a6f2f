-- What asking for the client's next request comes to, by what reading its head said.
use Rattle.std.proofs.Common.{◌≡◌, ℕ, ◌<◌, [], false, refl, sym, ap, ◌∙◌, subst}
use Rattle.http_rules.specs.declared.config.Config.{Config}
use Rattle.http_rules.specs.Run.{IsHead}
use Rattle.forward_core.specs.Meaning.Product.{meaning_of}
use Rattle.session_core.specs.Place as at
use Rattle.session_core.specs.Place.{place_behind}
use Rattle.session_core.specs.Sided.{Sided, RequestSeen, asker_in, unsaid}
use Rattle.session_core.specs.Leads.{AsksTo, AskUses}
use Rattle.session_core.specs.declared.sides.Asked.{Asked}
use Rattle.session_core.specs.declared.sides.Asked.TheVariants as asks
use Rattle.lane.specs.declared.direction.stage.LaneHead.TheVariants as says
use Rattle.forward_core.specs.Request.Reads.{HeadTells, HeadComes, UsesBytes}
use Rattle.forward_core.specs.Request.Seen as requests
use Rattle.forward_core.specs.Request.Seen.{list_of, unread_at}
use Rattle.forward_core.specs.Request.Stands.{IsSound, RequestStands}
use Rattle.forward_core.specs.declared.request.place.Place.{Place as Read}
use Rattle.forward_core.specs.declared.request.place.Place.TheVariants as read
use Rattle.forward_core.specs.declared.request.side.RequestSide.{RequestSide}
use Rattle.forward_core.specs.Answer.Seen as answers
use Rattle.forward_core.specs.Joined.Joined.{IsAt, Placed, HasPast, Holds, KeepsMethod, DirectionsStand, request_of}
use Rattle.forward_core.specs.Joined.Asks.{IsSilent, HasRead, RefusesSo, GoesOn, UsesLess, AsksBehind, AsksSo}
use Rattle.forward_core.specs.declared.joined.directions.Directions.{Directions}
use Rattle.forward_core.proofs.JoinedLemmas.Joining.{sound_request, at_request, stands_request}
use Rattle.forward_core.proofs.JoinedLemmas.Refusing.{asks_refusal, refusal_goes}
use Rattle.forward_core.proofs.JoinedLemmas.Sending.{idle_starts, idle_heard}
use Rattle.forward_core.proofs.RequestLemmas.Lines.{shown_idle}

-- what asking leads to has a past
past_behind : (cfg : Config) (new : Directions) (q : RequestSeen) (p : Sided (meaning_of cfg)) (asks : Asked) → AsksTo (meaning_of cfg) (DirectionsStand cfg new) q p asks → HasPast new
past_behind cfg new q p asks.More h = (cfg, p, h)
past_behind cfg new q p asks.Nothing h = (cfg, p, h.0)
past_behind cfg new q p asks.Refuse h = (cfg, record p { saying = unsaid h.text }, h.stands)
past_behind cfg new q p (asks.Reply kept) h = (cfg, record p { reply = h.reply; now = h.now; saying = unsaid h.text }, h.stands)
past_behind cfg new q p asks.Send h = (cfg, record p { asking = h.asking; to_server = [] }, h.stands)

abbrev pub LeadsOn : (old new : Directions) → Asked → Type 0
LeadsOn old new asks = (cfg : Config) (p : Sided (meaning_of cfg)) → DirectionsStand cfg old p → AsksTo (meaning_of cfg) (DirectionsStand cfg new) (request_of new) p asks

placed_behind : (old new : Directions) (asks : Asked) → Placed old at.Reads → LeadsOn old new asks → IsAt new (place_behind asks) → Placed new (place_behind asks)
placed_behind old new asks was leads is_at =
    record { is_at = is_at; past = past_behind was.past.0 new (request_of new) was.past.1 asks (leads was.past.0 was.past.1 was.past.2) }

-- while a head is to be read, all that came is unread
unread_reading : (side : RequestSide) → requests.place_of side ≡ read.Reading → requests.unread_of side ≡ requests.input_size_of side
unread_reading side e = ap (λ (x : Read). unread_at x side.lane.input.items) e

uses_less : (old new : RequestSeen) (asks : Asked) → UsesLess new.unread old.unread asks → AskUses old new asks
uses_less old new asks.More h = tt
uses_less old new asks.Nothing h = tt
uses_less old new asks.Refuse h = h
uses_less old new (asks.Reply kept) h = h
uses_less old new asks.Send h = tt

-- ---- no head came

more_past : (d : Directions) (r : RequestSide) → Placed d at.Reads → HeadTells d.request r says.More → (cfg : Config) (p : Sided (meaning_of cfg)) → DirectionsStand cfg d p → DirectionsStand cfg (record d { request = r }) p
more_past d r was tells cfg p s =
    stands_request cfg d r p p.came p.to_server (tells.place ∙ sym was.is_at.stand.0) s (tells.leads cfg p.vars p.came p.asking p.to_server p.reply s.request)

pub asks_more : (d : Directions) (r : RequestSide) → Placed d at.Reads → IsSound r → requests.limits_of r ≡ requests.limits_of d.request → requests.is_open r ≡ requests.is_open d.request
    → requests.window_of r ≡ requests.window_of d.request → requests.window_size_of r ≡ requests.window_size_of d.request → HeadTells d.request r says.More → AsksSo d (record d { request = r }) asks.More
asks_more d r was sound limits is_open window size tells =
    record {
      leads = more_past d r was tells;
      placed = placed_behind d (record d { request = r }) asks.More was (more_past d r was tells) (at_request d r at.Reads sound limits (tells.place ∙ sym was.is_at.stand.0) was.is_at);
      request = record { is_open = is_open; window = window; waits = (tells.rests, tells.is_open, tells.room); less = tt };
      windows = λ n h. (size ∙ h.0, h.1);
      window = refl;
      starts = idle_starts d.answer was.is_at.stand.1;
      heard = idle_heard d.answer was.is_at.sound.answer was.is_at.stand.1;
    }

idle_past : (cfg : Config) (d : Directions) (r : RequestSide) (p : Sided (meaning_of cfg)) → requests.place_of r ≡ read.Idle → DirectionsStand cfg d p → RequestStands cfg r p.vars p.came p.asking p.to_server p.reply → DirectionsStand cfg (record d { request = r }) p
idle_past cfg d r p idle s request =
    record {
      config = s.config;
      laws = s.laws;
      request = request;
      answer = s.answer;
      vars = subst (λ (x : Read). Holds x (answers.place_of d.answer) d.rules.vars p.vars p.asking.vars p.now) (sym idle) tt;
      method = subst (λ (x : Read). KeepsMethod x d.method.bytes (asker_in p.asking).method) (sym idle) tt;
    }

nothing_leads : (d : Directions) (r : RequestSide) → HeadTells d.request r says.Nothing → LeadsOn d (record d { request = r }) asks.Nothing
nothing_leads d r tells cfg p s =
    (idle_past cfg d r p tells.place s (tells.leads cfg p.vars p.came p.asking p.to_server p.reply s.request), tells.asks cfg p.vars p.came p.asking p.to_server p.reply s.request)

pub asks_nothing : (d : Directions) (r : RequestSide) → Placed d at.Reads → IsSound r → requests.limits_of r ≡ requests.limits_of d.request → requests.is_open r ≡ requests.is_open d.request
    → requests.window_of r ≡ requests.window_of d.request → requests.window_size_of r ≡ requests.window_size_of d.request → HeadTells d.request r says.Nothing → AsksSo d (record d { request = r }) asks.Nothing
asks_nothing d r was sound limits is_open window size tells =
    record {
      leads = nothing_leads d r tells;
      placed = placed_behind d (record d { request = r }) asks.Nothing was (nothing_leads d r tells) (record { sound = sound_request d r sound limits was.is_at.sound; stand = (tells.place, was.is_at.stand.1) });
      request = record { is_open = is_open; window = window; waits = tt; less = tt };
      windows = λ n h. (size ∙ h.0, h.1);
      window = refl;
      starts = idle_starts d.answer was.is_at.stand.1;
      heard = idle_heard d.answer was.is_at.sound.answer was.is_at.stand.1;
    }

-- ---- it is refused before any rule

pub still_behind : (d : Directions) (r : RequestSide) → Placed d at.Reads → IsSound r → requests.limits_of r ≡ requests.limits_of d.request → requests.place_of r ≡ read.Idle → IsSilent (record d { request = r })
still_behind d r was sound limits idle = record { sound = sound_request d r sound limits was.is_at.sound; idle = idle; silent = was.is_at.stand.1 }

refused_leads : (d : Directions) (r : RequestSide) (new : Directions) (code : ℕ) → Placed d at.Reads → HeadTells d.request r (says.Refuse code) → RefusesSo (record d { request = r }) new code [] false → LeadsOn d new asks.Refuse
refused_leads d r new code was tells refuses cfg p s =
    let held : d.rules.vars ≡ p.vars = subst (λ (x : Read). Holds x (answers.place_of d.answer) d.rules.vars p.vars p.asking.vars p.now) was.is_at.stand.0 s.vars in
    asks_refusal cfg (record d { request = r }) new p code [] [] p.vars false false
    (let still : RequestStands cfg r p.vars p.came p.asking p.to_server p.reply = tells.leads cfg p.vars p.came p.asking p.to_server p.reply s.request in
    record { config = s.config; laws = s.laws; is_for = still.is_for; ending = still.ending; line = shown_idle (requests.place_of r) cfg p.came (requests.line_of r) tells.place still.line; answer = s.answer })
    tells.place refuses refl held refl (tells.asks cfg p.vars p.came p.asking p.to_server p.reply s.request)

pub asks_refused : (d : Directions) (r : RequestSide) (new : Directions) (code : ℕ) → Placed d at.Reads → requests.is_open r ≡ requests.is_open d.request → requests.window_of r ≡ requests.window_of d.request
    → requests.window_size_of r ≡ requests.window_size_of d.request → HeadTells d.request r (says.Refuse code) → UsesBytes d.request r (says.Refuse code) → RefusesSo (record d { request = r }) new code [] false → AsksSo d new asks.Refuse
asks_refused d r new code was is_open window size tells uses refuses =
    let goes : GoesOn (record d { request = r }) new asks.Refuse = refusal_goes (record d { request = r }) new code [] false tells.place refuses in
    let none : (request_of new).unread ≡ 0 = ap (λ (x : RequestSide). requests.unread_of x) refuses.request ∙ ap (λ (x : Read). unread_at x r.lane.input.items) tells.place in
    let some : requests.unread_of d.request ≡ requests.input_size_of d.request = unread_reading d.request was.is_at.stand.0 in
    let less : (request_of new).unread < requests.unread_of d.request = subst (λ (n : ℕ). n < requests.unread_of d.request) (sym none) (subst (λ (n : ℕ). 0 < n) (sym some) uses) in
    record {
      leads = refused_leads d r new code was tells refuses;
      placed = placed_behind d new asks.Refuse was (refused_leads d r new code was tells refuses) goes.placed;
      windows = λ n h. goes.windows n (size ∙ h.0, h.1);
      request = record { is_open = goes.is_open ∙ is_open; window = goes.window ∙ window; waits = tt; less = less };
      window = goes.answer;
      starts = goes.starts;
      heard = goes.heard;
    }

-- ---- a head came

pub read_behind : (d : Directions) (r : RequestSide) → Placed d at.Reads → IsSound r → requests.limits_of r ≡ requests.limits_of d.request → HeadTells d.request r says.Head → HasRead (record d { request = r })
read_behind d r was sound limits tells = record { still = still_behind d r was sound limits tells.place; has = tells.has }

pub head_behind : (d : Directions) (r : RequestSide) → HeadTells d.request r says.Head → IsHead (list_of r)
head_behind d r tells = (tells.received.head, tells.holds.blocks)

head_leads : (d : Directions) (r : RequestSide) (new : Directions) (asks : Asked) → Placed d at.Reads → HeadTells d.request r says.Head → AsksBehind (record d { request = r }) new asks → LeadsOn d new asks
head_leads d r new asks was tells behind cfg p s =
    let comes : HeadComes d.request r = tells in
    behind.leads cfg p comes.received (record {
      config = s.config;
      laws = s.laws;
      read = comes.came cfg p.vars p.came p.asking p.to_server p.reply s.request;
      answer = s.answer;
      holds = comes.holds;
      line = comes.is_request;
      vars = subst (λ (x : Read). Holds x (answers.place_of d.answer) d.rules.vars p.vars p.asking.vars p.now) was.is_at.stand.0 s.vars;
    })

pub asks_head : (d : Directions) (r : RequestSide) (new : Directions) (asks : Asked) → Placed d at.Reads → requests.is_open r ≡ requests.is_open d.request → requests.window_of r ≡ requests.window_of d.request
    → requests.window_size_of r ≡ requests.window_size_of d.request → HeadTells d.request r says.Head → UsesBytes d.request r says.Head → AsksBehind (record d { request = r }) new asks → AsksSo d new asks
asks_head d r new asks was is_open window size tells uses behind =
    let goes : GoesOn (record d { request = r }) new asks = behind.goes in
    let less : requests.input_size_of r < requests.unread_of d.request = subst (λ (n : ℕ). requests.input_size_of r < n) (sym (unread_reading d.request was.is_at.stand.0)) uses in
    record {
      leads = head_leads d r new asks was tells behind;
      placed = placed_behind d new asks was (head_leads d r new asks was tells behind) goes.placed;
      windows = λ n h. goes.windows n (size ∙ h.0, h.1);
      request = record {
        is_open = goes.is_open ∙ is_open;
        window = goes.window ∙ window;
        waits = goes.waits;
        less = uses_less (request_of d) (request_of new) asks (goes.less (requests.unread_of d.request) less);
      };
      window = goes.answer;
      starts = goes.starts;
      heard = goes.heard;
    }
