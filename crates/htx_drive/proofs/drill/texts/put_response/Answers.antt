use Rattle.std.specs.Prelude.{codes}
use Rattle.htx_drive.specs.Drill.Drill.{body_lines}
use Rattle.htx_drive.proofs.DrillLemmas.Behind.{two_pieces}
use Rattle.htx_drive.proofs.drill.texts.put_response.Goals as goal

pub returns : goal.returns
returns c =
    two_pieces c.put_body.result c.args.text.now.items c.extend_from_slice.new.self.items c.put_body.new.text.items (codes "HTTP/1.1 200 OK\r\nServer: d\r\n") (body_lines c.args.drawn.now.response 121) c.in_ok-extend_from_slice.ensures.items c.put_body.ensures
