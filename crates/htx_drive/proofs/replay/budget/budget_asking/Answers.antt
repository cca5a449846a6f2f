use Rattle.std.proofs.Common.{◌≡◌, ◌+◌, ◌*◌, length, sum_by, ap, arith}
use Rattle.std.specs.Prelude.{option_map}
use Rattle.std.proofs.lemmas.List.{length-map}
use Rattle.rec_format.specs.Read.{server}
use Rattle.htx_drive.specs.Replay.Memory.{size_of}
use Rattle.htx_drive.specs.Replay.Streams.{visit_in}
use Rattle.htx_drive.proofs.ReplayLemmas.Asked.{asks_enough}
use Rattle.htx_drive.proofs.replay.budget.budget_asking.Goals as goal

pub returns : goal.returns
returns c =
    let v = visit_in c.args.streams.now in
    let own : c.in_ok-own.own ≡ sum_by size_of v.servers = c.in_ok-own.ensures in
    let more : c.in_ok-more.more ≡ length c.args.streams.now.servers.now * 1024 = c.in_ok-more.ensures.1 in
    let all : c.in_ok-checked_add.field-0 ≡ c.in_ok-own.own + c.in_ok-more.more = c.in_ok-checked_add.ensures.1 in
    asks_enough v (length c.as_slice.result.now) c.in_ok-checked_add.field-0 c.args.bufsize c.turns_for.result c.stream_is_short.ensures (ap length c.as_slice.ensures)
    (omega (arith, own, more, all, length-map c.args.streams.now.servers.now (option_map server))) c.turns_for.ensures
