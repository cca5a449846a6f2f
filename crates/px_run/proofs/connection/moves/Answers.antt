use Rattle.px_link.specs.Net.{address_of}
use Rattle.px_run.specs.Log.{IsTold}
use Rattle.px_run.proofs.Logs.{logs_none, logs_then}
use Rattle.px_run.proofs.connection.moves.Goals as goal

pub loop-taken-init : goal.loop-taken-init
loop-taken-init g c =
    record {
      goes = λ cfg first first_net h. h;
      logs = λ cfg first first_net h. logs_none c.args.tools.now.log.logs c.args.tools.now.log.connection (IsTold (g.C.Machine.meaning cfg) (g.C.Machine.stands cfg) g.C.Machine.seen g.L.Link.seen g.L.Link.wrote first (address_of c.args.to.now) (g.N.Net.seen first_net)) c.args.tools.now.log.text.items;
      may = c.requires.may;
    }

pub loop-taken-preserved : goal.loop-taken-preserved
loop-taken-preserved g c =
    record {
      goes = λ cfg first first_net h. c.in-Moved.ensures.goes cfg first first_net (c.loop-taken.invariant.goes cfg first first_net h);
      logs = λ cfg first first_net h. logs_then c.args.tools.now.log.logs c.args.tools.now.log.connection (IsTold (g.C.Machine.meaning cfg) (g.C.Machine.stands cfg) g.C.Machine.seen g.L.Link.seen g.L.Link.wrote first (address_of c.args.to.now) (g.N.Net.seen first_net)) c.loop-taken.tools.log.logs c.watched_step.new.tools.log.logs c.loop-taken.tools.log.connection c.watched_step.new.tools.log.connection c.args.tools.now.log.text.items c.loop-taken.tools.log.text.items c.watched_step.new.tools.log.text.items (c.loop-taken.invariant.logs cfg first first_net h) (c.in-Moved.ensures.logs cfg first first_net (c.loop-taken.invariant.goes cfg first first_net h));
      may = c.in-Moved.ensures.may;
    }

pub returns-in-Opened-clause-goes : goal.returns-in-Opened-clause-goes
returns-in-Opened-clause-goes g c = λ cfg first first_net h. c.in-Opened.ensures.goes cfg first first_net (c.loop-taken.invariant.goes cfg first first_net h)

pub returns-in-Waits-clause-goes : goal.returns-in-Waits-clause-goes
returns-in-Waits-clause-goes g c = λ cfg first first_net h. c.in-Waits.ensures.goes cfg first first_net (c.loop-taken.invariant.goes cfg first first_net h)

pub returns-in-Ended-clause-goes : goal.returns-in-Ended-clause-goes
returns-in-Ended-clause-goes g c = λ cfg first first_net h. c.in-Ended.ensures.goes cfg first first_net (c.loop-taken.invariant.goes cfg first first_net h)

pub returns-in-Lost-clause-goes : goal.returns-in-Lost-clause-goes
returns-in-Lost-clause-goes g c = λ cfg first first_net h. c.in-Lost.ensures.goes cfg first first_net (c.loop-taken.invariant.goes cfg first first_net h)

pub returns-in-Opened-clause-logs : goal.returns-in-Opened-clause-logs
returns-in-Opened-clause-logs g c = λ cfg first first_net h. logs_then c.args.tools.now.log.logs c.args.tools.now.log.connection (IsTold (g.C.Machine.meaning cfg) (g.C.Machine.stands cfg) g.C.Machine.seen g.L.Link.seen g.L.Link.wrote first (address_of c.args.to.now) (g.N.Net.seen first_net)) c.loop-taken.tools.log.logs c.watched_step.new.tools.log.logs c.loop-taken.tools.log.connection c.watched_step.new.tools.log.connection c.args.tools.now.log.text.items c.loop-taken.tools.log.text.items c.watched_step.new.tools.log.text.items (c.loop-taken.invariant.logs cfg first first_net h) (c.in-Opened.ensures.logs cfg first first_net (c.loop-taken.invariant.goes cfg first first_net h))

pub returns-in-Waits-clause-logs : goal.returns-in-Waits-clause-logs
returns-in-Waits-clause-logs g c = λ cfg first first_net h. logs_then c.args.tools.now.log.logs c.args.tools.now.log.connection (IsTold (g.C.Machine.meaning cfg) (g.C.Machine.stands cfg) g.C.Machine.seen g.L.Link.seen g.L.Link.wrote first (address_of c.args.to.now) (g.N.Net.seen first_net)) c.loop-taken.tools.log.logs c.watched_step.new.tools.log.logs c.loop-taken.tools.log.connection c.watched_step.new.tools.log.connection c.args.tools.now.log.text.items c.loop-taken.tools.log.text.items c.watched_step.new.tools.log.text.items (c.loop-taken.invariant.logs cfg first first_net h) (c.in-Waits.ensures.logs cfg first first_net (c.loop-taken.invariant.goes cfg first first_net h))

pub returns-in-Ended-clause-logs : goal.returns-in-Ended-clause-logs
returns-in-Ended-clause-logs g c = λ cfg first first_net h. logs_then c.args.tools.now.log.logs c.args.tools.now.log.connection (IsTold (g.C.Machine.meaning cfg) (g.C.Machine.stands cfg) g.C.Machine.seen g.L.Link.seen g.L.Link.wrote first (address_of c.args.to.now) (g.N.Net.seen first_net)) c.loop-taken.tools.log.logs c.watched_step.new.tools.log.logs c.loop-taken.tools.log.connection c.watched_step.new.tools.log.connection c.args.tools.now.log.text.items c.loop-taken.tools.log.text.items c.watched_step.new.tools.log.text.items (c.loop-taken.invariant.logs cfg first first_net h) (c.in-Ended.ensures.logs cfg first first_net (c.loop-taken.invariant.goes cfg first first_net h))

pub returns-in-Lost-clause-logs : goal.returns-in-Lost-clause-logs
returns-in-Lost-clause-logs g c = λ cfg first first_net h. logs_then c.args.tools.now.log.logs c.args.tools.now.log.connection (IsTold (g.C.Machine.meaning cfg) (g.C.Machine.stands cfg) g.C.Machine.seen g.L.Link.seen g.L.Link.wrote first (address_of c.args.to.now) (g.N.Net.seen first_net)) c.loop-taken.tools.log.logs c.watched_step.new.tools.log.logs c.loop-taken.tools.log.connection c.watched_step.new.tools.log.connection c.args.tools.now.log.text.items c.loop-taken.tools.log.text.items c.watched_step.new.tools.log.text.items (c.loop-taken.invariant.logs cfg first first_net h) (c.in-Lost.ensures.logs cfg first first_net (c.loop-taken.invariant.goes cfg first first_net h))
