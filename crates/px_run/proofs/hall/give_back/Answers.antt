use Rattle.std.proofs.Common.{rules, ◌≡◌, Some, true, inl}
use Rattle.px_run.proofs.AtPlace.{ended_is}
use Rattle.px_run.proofs.hall.give_back.Goals as goal

pub returns-in-Some-clause-gives : goal.returns-in-Some-clause-gives
returns-in-Some-clause-gives g c =
    let e : c.args.at.now ≡ Some c.in-Some.connection = search rules in
    let t : c.has_ended.result ≡ true = search rules in
    inl (record { connection = c.in-Some.connection; was = e; none = search rules; ended = ended_is c.args.at.now c.in-Some.connection e (c.has_ended.ensures t); keeps = c.keep.ensures.keeps })
