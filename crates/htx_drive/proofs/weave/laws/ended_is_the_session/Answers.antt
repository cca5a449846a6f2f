use Rattle.htx_drive.proofs.weave.laws.ended_is_the_session.Goals as goal

pub returns : goal.returns
returns g c = λ cfg all ahead first client to first_net net ran count own ending answers ks told_own told_ending told_answers told_kept e.
    c.ran_is_the_session.ensures cfg e.core first client to first_net net ran own ending answers ks told_own told_ending told_answers told_kept e.so
