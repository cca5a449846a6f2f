use Rattle.std.proofs.Common.{decimal, ◌∙◌, ap, ◌++◌, ◌∷◌, [], codes}
use Rattle.rec_format.specs.Report.{end_word, cut_word}
use Rattle.rec_format.proofs.Several.{summary_text}
use Rattle.rec_format.proofs.report_list.put_summary.Goals as goal

pub returns : goal.returns
returns c =
    summary_text c.args.text.now.items c.put_line.new.text.items c.put_line-2.new.text.items c.put_line-3.new.text.items
    (decimal c.args.report.now.exchanges) (end_word c.args.report.now.end) (cut_word c.args.report.now.cut)
    (c.in_ok-put_line.ensures ∙ ap (λ t. c.args.text.now.items ++ (codes "exchanges " ++ (t ++ 10 ∷ []))) (c.as_bytes.ensures.value ∙ c.format.ensures.text))
    (c.in_ok-put_line-2.ensures ∙ ap (λ t. c.put_line.new.text.items ++ (codes "end " ++ (t ++ 10 ∷ []))) c.end_word.ensures)
    (c.in_ok-put_line-3.ensures ∙ ap (λ t. c.put_line-2.new.text.items ++ (codes "cut " ++ (t ++ 10 ∷ []))) c.cut_word.ensures)
