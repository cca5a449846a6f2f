use Rattle.htx_drive.specs.Weave.State.{IsReady, IsFresh}
use Rattle.htx_drive.proofs.RecordLemmas.Zips.{each_pushed, one_longer}
use Rattle.htx_drive.proofs.weave.record.sets.cores_for.Goals as goal

pub loop-preserved : goal.loop-preserved
loop-preserved g c =
    let all = c.loop.all.items in
    let core = c.in_ok-core.core in
    let R = IsReady g.C.Machine.seen g.C.Machine.sound in
    let F = IsFresh (g.C.Machine.stands (g.K.Cores.settings c.args.cores.now)) in
    let items = c.in_ok-push.ensures.items in
    record {
      count = one_longer all core c.push.new.self.items items c.loop.invariant.count;
      ready = each_pushed R all core c.push.new.self.items items c.loop.invariant.ready (c.in_ok-core.ensures.sound, c.in_ok-core.ensures.idle);
      fresh = each_pushed F all core c.push.new.self.items items c.loop.invariant.fresh c.in_ok-core.ensures.stands;
    }
