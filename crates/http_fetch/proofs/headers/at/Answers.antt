use Rattle.std.proofs.Common.{◌<◌, ◌^◌, length, sym, arith}
use Rattle.std.proofs.lemmas.Int.{to_z-of_z}
use Rattle.http_fetch.specs.Found.{read_named}
use Rattle.http_fetch.proofs.Few.{few_read}
use Rattle.http_fetch.proofs.headers.at.Goals as goal

pub returns-in-None : goal.returns-in-None
returns-in-None c =
    let few : length (read_named c.args.reading c.args.name.now c.args.msg.now.blocks) < 2 ^ 32 = few_read c.args.reading c.args.name.now c.args.msg.now.blocks (omega arith) (omega arith) in
    let none = simp (to_z-of_z, c.ranges.occurrence) at (c.in-None.ensures.far (read_named c.args.reading c.args.name.now c.args.msg.now.blocks) few) in
    sym none
