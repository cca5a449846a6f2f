use Rattle.std.proofs.Common.{[], ◌∷◌, codes, decimal}
use Rattle.cfg_print.specs.Words.{line_text}
use Rattle.cfg_print.specs.Printed.{global_text}
use Rattle.cfg_print.proofs.Joining.{three}
use Rattle.cfg_print.proofs.settings.put_global.Goals as goal

pub returns : goal.returns
unfolding global_text
returns c =
    three c.put_size-2.result c.args.page.now.text.items c.put.new.self.text.items c.put_size.new.page.text.items c.put_size-2.new.page.text.items
    (codes "global\n") (line_text (codes "tune.bufsize" ∷ decimal c.args.limits.bufsize ∷ [])) (line_text (codes "tune.maxrewrite" ∷ decimal c.args.limits.maxrewrite ∷ []))
    c.in_ok-put.ensures c.in_ok-put_size.ensures c.put_size-2.ensures
