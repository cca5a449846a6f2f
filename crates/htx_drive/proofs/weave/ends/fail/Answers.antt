use Rattle.htx_drive.proofs.WeaveLemmas.Moving.{given_up_so}
use Rattle.htx_drive.proofs.weave.ends.fail.Goals as goal

pub returns-clause-given_up : goal.returns-clause-given_up
returns-clause-given_up g c = λ cfg core all left count first failed to first_net s.
    given_up_so (g.C.Machine.meaning cfg) (g.C.Machine.stands cfg) g.C.Machine.seen all left core g.L.Link.seen g.L.Link.wrote first _ _ failed to _ _ count s c.close.ensures.seen c.close.ensures.wrote
