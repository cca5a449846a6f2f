use Rattle.std.proofs.Common.{codes}
use Rattle.cfg_print.specs.Printed.{time_line, times_text}
use Rattle.cfg_print.proofs.Joining.{five}
use Rattle.cfg_print.proofs.settings.put_times.Goals as goal

pub returns : goal.returns
unfolding times_text
returns c =
    five c.put_time-5.result c.args.page.now.text.items c.put_time.new.page.text.items c.put_time-2.new.page.text.items c.put_time-3.new.page.text.items c.put_time-4.new.page.text.items c.put_time-5.new.page.text.items
    (time_line (codes "client") c.args.times.client) (time_line (codes "server") c.args.times.server) (time_line (codes "connect") c.args.times.connect)
    (time_line (codes "http-request") c.args.times.http_request) (time_line (codes "http-keep-alive") c.args.times.http_keep_alive)
    c.in_ok-put_time.ensures c.in_ok-put_time-2.ensures c.in_ok-put_time-3.ensures c.in_ok-put_time-4.ensures c.put_time-5.ensures
