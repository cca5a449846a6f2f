use Rattle.std.proofs.Common.{rules, ◌≤◌, []}
use Rattle.http_model.specs.Blocks.{load, append_data}
use Rattle.px_reply.proofs.Bodies.{payload_taken}
use Rattle.px_reply.proofs.body.add_payload.Goals as goal

pub returns-then-fits_in-clause-ok : goal.returns-then-fits_in-clause-ok
returns-then-fits_in-clause-ok c = λ head e.
    let within : load (append_data [] c.args.bytes.now) ≤ c.room-room.result = search rules in
    payload_taken head c.args.msg.now.blocks c.add_data.new.self.blocks c.args.msg.now.size c.room-room.result c.add_data.result c.args.bytes.now
    e within c.room-room.ensures c.add_data.ensures.taken c.add_data.ensures.blocks
