use Rattle.std.proofs.Common.{◌++◌, ◌∷◌, [], codes, decimal, length, map}
use Rattle.rec_format.specs.ReportParts.{out_of}
use Rattle.rec_format.specs.Reports.{connections_text}
use Rattle.rec_format.proofs.Several.{several_text}
use Rattle.rec_format.proofs.report_list.put_several.Goals as goal

pub returns : goal.returns
returns c =
    several_text c.args.text.now.items c.extend_from_slice.new.self.items c.put_number.new.text.items c.put_connections.new.text.items
    (codes "PXREP 2\n") (codes "connections " ++ (decimal (length c.args.reports.now) ++ 10 ∷ [])) (connections_text 1 (map out_of c.args.reports.now))
    c.in_ok-extend_from_slice.ensures.items
    c.in_ok-put_number.ensures
    c.in_ok-put_connections.ensures
