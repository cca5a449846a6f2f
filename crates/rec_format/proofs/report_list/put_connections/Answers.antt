use Rattle.std.proofs.Common.{◌≡◌, ◌+◌, ◌++◌, ◌∷◌, ◌∙◌, drop, map, get_or, ap, sym, arith, drop-cons, add-one}
use Rattle.rec_format.specs.ReportParts.{out_of}
use Rattle.rec_format.specs.Reports.{connections_text}
use Rattle.rec_format.proofs.Several.{one_more}
use Rattle.rec_format.proofs.report_list.put_connections.Goals as goal

pub loop-at-preserved : goal.loop-at-preserved
loop-at-preserved c =
    let at = c.loop-at.at in
    let all = c.args.reports.now in
    let report = c.index-reports-at.result in
    let first : drop at all ≡ get_or all at report ∷ drop (at + 1) all = rw (add-one) (drop-cons all at report (omega arith)) in
    let next : drop at all ≡ report ∷ drop (at + 1) all = first ∙ ap (λ r. r ∷ drop (at + 1) all) (sym c.index-reports-at.is) in
    one_more c.loop-at.text.items c.put_connection.new.text.items (at + 1) (out_of report) (map out_of (drop (at + 1) all)) c.in_ok-put_connection.ensures
    ∙ ap (λ l. c.loop-at.text.items ++ connections_text (at + 1) (map out_of l)) (sym next)
    ∙ c.loop-at.invariant
