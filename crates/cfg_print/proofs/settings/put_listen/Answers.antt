use Rattle.std.proofs.Common.{[], ◌∷◌, codes}
use Rattle.cfg_print.specs.Words.{line_text}
use Rattle.cfg_print.specs.Printed.{bind_line, server_line, times_text, application_text, settings_text}
use Rattle.cfg_print.proofs.Joining.{six}
use Rattle.cfg_print.proofs.settings.put_listen.Goals as goal

pub returns : goal.returns
unfolding settings_text
returns c =
    six c.put_application.result c.args.page.now.text.items c.put.new.self.text.items c.put_mode.new.page.text.items c.put_bind.new.page.text.items c.put_server.new.page.text.items c.put_times.new.page.text.items c.put_application.new.page.text.items
    (codes "\nlisten proxy\n") (line_text (codes "mode" ∷ codes "http" ∷ [])) (bind_line c.args.config.now) (server_line c.args.config.now) (times_text c.args.config.now.timeouts) (application_text c.args.config.now.application)
    c.in_ok-put.ensures c.in_ok-put_mode.ensures c.in_ok-put_bind.ensures c.in_ok-put_server.ensures c.in_ok-put_times.ensures c.put_application.ensures
