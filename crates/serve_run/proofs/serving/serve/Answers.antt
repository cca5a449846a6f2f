use Rattle.std.proofs.Common.{rules}
use Rattle.serve_run.proofs.Endings.{all_visited, net_front}
use Rattle.serve_run.proofs.serving.serve.Goals as goal

pub returns-in-Ok-clause-told : goal.returns-in-Ok-clause-told
returns-in-Ok-clause-told g c = λ coming answers kept a b k. all_visited _ _ _ _ _ _ _ _ _ _ _ coming answers kept c.in-Ok.ensures.good a b k

pub returns-in-Err-Net-clause-front : goal.returns-in-Err-Net-clause-front
returns-in-Err-Net-clause-front g c =
    let n = c.bound_and_served.ensures.net (search rules) in
    net_front _ _ _ _ _ _ _ _ _ _ n c.say_net.ensures.front
