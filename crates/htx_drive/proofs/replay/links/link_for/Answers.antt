use Rattle.rec_format.specs.Read.{stream}
use Rattle.htx_drive.proofs.ReplayLemmas.Fresh.{fresh_made}
use Rattle.htx_drive.proofs.replay.links.link_for.Goals as goal

pub returns : goal.returns
returns c =
    let n = c.new.ensures in fresh_made (stream c.args.side.now) c.args.takes c.as_slice.result.now c.new.result c.as_slice.ensures n.to_come n.ending n.takes n.failing n.unused
