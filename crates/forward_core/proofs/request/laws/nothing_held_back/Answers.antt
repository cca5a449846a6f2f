use Rattle.forward_core.proofs.RequestLemmas.Resting.{Shows, Puts, shows_at, puts_at}
use Rattle.forward_core.proofs.request.laws.nothing_held_back.Goals as goal

pub returns-clause-no_cut : goal.returns-clause-no_cut
returns-clause-no_cut c = λ cfg side vars came asking to_server reply sound stands at rest going waits.
    let law : Shows side.lane = λ p s so rests. c.no_cut_shown.ensures side.lane p s so rests in
    shows_at side.place cfg side.lane vars came asking to_server reply at stands.at stands.is_for (sound.rests rest) going law waits

pub returns-clause-puts : goal.returns-clause-puts
returns-clause-puts c = λ cfg side vars came asking to_server reply sound stands at rest going none kept.
    let law : Shows side.lane = λ p s so rests. c.no_cut_shown.ensures side.lane p s so rests in
    let all : Puts side.lane = λ p s kept so back read taken. c.nothing_held_back.ensures side.lane p s kept so back read taken in
    puts_at side.place cfg side.lane vars came asking to_server reply at stands.at stands.is_for (sound.rests rest) going law all none kept
