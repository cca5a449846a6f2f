use Rattle.std.proofs.Common.{ℕ, ◌+◌, ◌≤◌, false, refl, sym, ap, subst, ◌∙◌, Err}
use Rattle.session_core.specs.History.{nothing_yet}
use Rattle.session_core.specs.Consequences.{IsFinal, out_of_past}
use Rattle.px_link.specs.Net.{address_of}
use Rattle.htx_drive.specs.Driven.{moved, failed_by}
use Rattle.htx_drive.specs.Turned.{turns_up_to}
use Rattle.htx_drive.proofs.Dialling.{came_shut}
use Rattle.htx_drive.proofs.Turning.{begins, led_so}
use Rattle.htx_drive.proofs.Running.{dials_fresh, put_shut, shut_closed, all_spent, turns_spent}
use Rattle.htx_drive.proofs.session.run_session.Goals as goal

pub returns-in-Ok-clause-ran : goal.returns-in-Ok-clause-ran
returns-in-Ok-clause-ran g c = λ cfg s.
    let client = c.args.client.now in
    let goes = c.in-Ok.ensures.goes cfg (g.T.Turns.left c.args.turns.now) c.args.resources.now.left client c.args.net.now nothing_yet (begins (g.C.Machine.stands cfg) g.C.Machine.seen (g.T.Turns.left c.args.turns.now) c.args.resources.now.left c.args.core.now g.L.Link.seen g.L.Link.wrote client s) (dials_fresh (address_of c.args.to.now) (g.N.Net.seen c.args.net.now)) in
    let P : ℕ → Type 0 = λ n. IsFinal (g.C.Machine.meaning cfg) goes.now (out_of_past goes.now goes.now.taken n c.in-Ok.end) in
    let idle = goes.idle in
    record {
      past = goes.now;
      stand = idle.stand.stand.stand;
      over = idle.stand.over;
      session = subst P (sym c.exchanges-in-Ok.ensures) (g.met.C.Machine.over_is_the_session cfg c.exchanges.new.core goes.now c.in-Ok.end idle.stand.stand.stand c.in-Ok.ensures.over);
      bit = c.cut.ensures ∙ g.met.C.Machine.cut_is_noted cfg c.exchanges.new.core goes.now idle.stand.stand.stand;
      came = came_shut (g.L.Link.seen client) (g.L.Link.seen c.exchanges.new.client) (g.L.Link.seen c.close.new.self) _ goes.now.client c.close.ensures.seen idle.came;
      put = put_shut _ _ _ (g.L.Link.seen client) (g.L.Link.seen c.exchanges.new.client) (g.L.Link.seen c.close.new.self) _ goes.now.taken false c.close.ensures.seen c.close.ensures.wrote idle.put;
      closed = shut_closed (g.L.Link.seen client) (g.L.Link.seen c.exchanges.new.client) (g.L.Link.seen c.close.new.self) _ _ c.close.ensures.seen idle.closed c.close_of.ensures;
      dials = goes.dials;
    }

pub returns-in-Err-clause-gave_up : goal.returns-in-Err-clause-gave_up
returns-in-Err-clause-gave_up g c = λ cfg s.
    let client = c.args.client.now in
    let goes = c.in-Err.ensures.goes cfg (g.T.Turns.left c.args.turns.now) c.args.resources.now.left client c.args.net.now nothing_yet (begins (g.C.Machine.stands cfg) g.C.Machine.seen (g.T.Turns.left c.args.turns.now) c.args.resources.now.left c.args.core.now g.L.Link.seen g.L.Link.wrote client s) (dials_fresh (address_of c.args.to.now) (g.N.Net.seen c.args.net.now)) in
    let more : moved nothing_yet + c.args.resources.now.left ≤ moved goes.now + c.exchanges.new.resources.left = goes.more in
    let idle = goes.idle in
    record {
      past = goes.now;
      front = idle.stand.front;
      stand = idle.stand.stand;
      came = came_shut (g.L.Link.seen client) (g.L.Link.seen c.exchanges.new.client) (g.L.Link.seen c.close-in-Err.new.self) _ goes.now.client c.close-in-Err.ensures.seen idle.came;
      put = put_shut _ _ _ (g.L.Link.seen client) (g.L.Link.seen c.exchanges.new.client) (g.L.Link.seen c.close-in-Err.new.self) _ goes.now.taken (failed_by c.in-Err.fault) c.close-in-Err.ensures.seen c.close-in-Err.ensures.wrote idle.put;
      closed = shut_closed (g.L.Link.seen client) (g.L.Link.seen c.exchanges.new.client) (g.L.Link.seen c.close-in-Err.new.self) _ _ c.close-in-Err.ensures.seen idle.closed refl;
      dials = goes.dials;
      spent = λ e. all_spent c.args.resources.now.left (moved goes.now) c.exchanges.new.resources.left more (c.in-Err.ensures.spent (ap (λ f. Err f) e));
      spent_in_turns = λ e. led_so idle.stand.turned c.args.resources.now.left (turns_spent c.args.resources.now.left (turns_up_to idle.stand.turned) c.exchanges.new.resources.left idle.stand.paid (c.in-Err.ensures.spent (ap (λ f. Err f) e)));
    }

-- the turns led to that past
pub returns-in-Ok-clause-in_turns : goal.returns-in-Ok-clause-in_turns
unfolding returns-in-Ok-clause-ran
returns-in-Ok-clause-in_turns g c = λ cfg s.
    let client = c.args.client.now in
    let goes = c.in-Ok.ensures.goes cfg (g.T.Turns.left c.args.turns.now) c.args.resources.now.left client c.args.net.now nothing_yet (begins (g.C.Machine.stands cfg) g.C.Machine.seen (g.T.Turns.left c.args.turns.now) c.args.resources.now.left c.args.core.now g.L.Link.seen g.L.Link.wrote client s) (dials_fresh (address_of c.args.to.now) (g.N.Net.seen c.args.net.now)) in
    (returns-in-Ok-clause-ran g c cfg s, goes.idle.stand.stand.turned)

pub returns-in-Err-clause-up_to_a_fault : goal.returns-in-Err-clause-up_to_a_fault
unfolding returns-in-Err-clause-gave_up
returns-in-Err-clause-up_to_a_fault g c = λ cfg s.
    let client = c.args.client.now in
    let goes = c.in-Err.ensures.goes cfg (g.T.Turns.left c.args.turns.now) c.args.resources.now.left client c.args.net.now nothing_yet (begins (g.C.Machine.stands cfg) g.C.Machine.seen (g.T.Turns.left c.args.turns.now) c.args.resources.now.left c.args.core.now g.L.Link.seen g.L.Link.wrote client s) (dials_fresh (address_of c.args.to.now) (g.N.Net.seen c.args.net.now)) in
    let left = goes.idle.stand in
    (returns-in-Err-clause-gave_up g c cfg s, left.turned, λ e. turns_spent c.args.resources.now.left (turns_up_to left.turned) c.exchanges.new.resources.left left.paid (c.in-Err.ensures.spent (ap (λ f. Err f) e)))
