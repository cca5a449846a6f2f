use Rattle.std.proofs.Common.{◌∙◌, ap, ◌++◌}
use Rattle.rec_format.specs.Lines.{text_of_lines}
use Rattle.rec_format.specs.Report.{session_lines, server_lines}
use Rattle.rec_format.specs.ReportParts.{out_of, servers_of}
use Rattle.rec_format.proofs.Reports.{report_text}
use Rattle.rec_format.proofs.report.write_report.Goals as goal

pub returns : goal.returns
returns c =
    c.from.ensures
    ∙ report_text (out_of c.args.report.now) c.put_session.new.text.items c.extend_from_slice.new.self.items c.put_sent.new.text.items c.put_servers.new.text.items
    (c.in_ok-put_session.ensures ∙ ap (λ t. t ++ text_of_lines (session_lines (out_of c.args.report.now))) c.in_ok-text.ensures.items)
    c.in_ok-extend_from_slice.ensures.items
    c.in_ok-put_sent.ensures
    (c.in_ok-put_servers.ensures ∙ ap (λ s. c.put_sent.new.text.items ++ text_of_lines (server_lines 1 (servers_of s))) c.deref.ensures.value)
