use Rattle.std.proofs.Common.{rules, ◌≡◌, None}
use Rattle.htx_drive.proofs.WeaveLemmas.Halting.{left_other}
use Rattle.htx_drive.proofs.weave.leaving.leave.Goals as goal

pub returns-then-is_none : goal.returns-then-is_none
returns-then-is_none g c =
    let none : c.args.conn.now.ran ≡ None = search rules in
    record {
      left = λ cfg turns count first to first_net h. left_other (g.C.Machine.meaning cfg) (g.C.Machine.stands cfg) g.C.Machine.seen turns g.L.Link.seen g.L.Link.wrote first to (g.N.Net.seen first_net) c.args.conn.now.client c.abandon.new.conn.client c.args.conn.now.server c.abandon.new.conn.server _ _ c.args.conn.now.ran c.abandon.new.conn.ran count
          none c.abandon.ensures.ran (c.abandon.ensures.left cfg turns count first to first_net) h;
    }
