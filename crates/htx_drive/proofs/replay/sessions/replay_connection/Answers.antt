use Rattle.std.proofs.Common.{List, Option, subst}
use Rattle.std.specs.Prelude.{IfOk}
use Rattle.htx_drive.specs.Replay.Replayed.{Replays}
use Rattle.rec_format.specs.declared.record.ServerSpec.{ServerSpec}
use Rattle.rec_format.specs.Read.{stream, servers}
use Rattle.rec_format.specs.ReportParts.{out_of}
use Rattle.htx_drive.proofs.replay.sessions.replay_connection.Goals as goal

pub returns : goal.returns
returns g c =
    let cfg = g.K.Cores.settings c.args.cores.now in
    let R : List (Option ServerSpec) → Type 0 = λ entries. IfOk c.replay_streams.result (λ report. Replays (g.C.Machine.meaning cfg) (g.C.Machine.stands cfg) g.C.Machine.seen c.args.turns.items (record { client = stream c.args.conn.now.client; servers = servers entries }) (out_of report)) in
    subst R c.deref.ensures.value c.replay_streams.ensures
