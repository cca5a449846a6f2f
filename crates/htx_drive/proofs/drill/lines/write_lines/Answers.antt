use Rattle.std.proofs.Common.{◌++◌, ◌∷◌, [], List, ℕ, ap, ◌∙◌, length, decimal}
use Rattle.std.specs.Prelude.{Option, codes}
use Rattle.rec_format.specs.declared.report.Sent.{Sent}
use Rattle.rec_format.specs.Report.{end_word}
use Rattle.rec_format.specs.ReportParts.{servers_of}
use Rattle.htx_drive.specs.Drill.Lines.{sent_total, drill_text}
use Rattle.htx_drive.proofs.DrillLemmas.Behind.{four_lines, told_text}
use Rattle.htx_drive.proofs.drill.lines.write_lines.Goals as goal

pub returns : goal.returns
unfolding drill_text
returns c =
    let r = c.args.report.now in
    c.from.ensures
    ∙ four_lines (codes "exchanges " ++ decimal r.exchanges) (codes "server bytes " ++ decimal c.in-Some.total) (codes "client bytes " ++ decimal (length c.as_slice.result.now)) (codes "end " ++ c.end_word.result.now) c.put_count.new.text.items c.put_count-2.new.text.items c.put_count-3.new.text.items
    c.put_line.new.text.items (c.in_ok-put_count.ensures ∙ ap (λ (l : List ℕ). l ++ (codes "exchanges " ++ decimal r.exchanges ++ 10 ∷ [])) c.new-text.ensures.items) c.in_ok-put_count-2.ensures c.in_ok-put_count-3.ensures c.in_ok-put_line.ensures
    ∙ told_text r.exchanges c.in-Some.total (sent_total (servers_of r.servers.items)) r.client.bytes c.as_slice.result.now (end_word r.end) c.end_word.result.now (c.in-Some.ensures ∙ ap (λ (l : List (Option Sent)). sent_total (servers_of l)) c.deref.ensures.value) c.as_slice.ensures c.end_word.ensures
