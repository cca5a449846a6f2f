use Rattle.std.proofs.Common.{◌∙◌, ap, ◌++◌}
use Rattle.rec_format.specs.Lines.{text_of_lines}
use Rattle.rec_format.specs.Report.{server_lines}
use Rattle.rec_format.specs.ReportParts.{out_of, servers_of}
use Rattle.rec_format.proofs.Several.{sides_text}
use Rattle.rec_format.proofs.report_list.put_report.Goals as goal

pub returns : goal.returns
returns c =
    sides_text (out_of c.args.report.now) c.args.text.now.items c.put_summary.new.text.items c.extend_from_slice.new.self.items c.put_sent.new.text.items c.put_servers.new.text.items
    c.in_ok-put_summary.ensures
    c.in_ok-extend_from_slice.ensures.items
    c.in_ok-put_sent.ensures
    (c.in_ok-put_servers.ensures ∙ ap (λ s. c.put_sent.new.text.items ++ text_of_lines (server_lines 1 (servers_of s))) c.deref.ensures.value)
