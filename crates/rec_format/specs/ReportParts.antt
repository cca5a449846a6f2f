-- What a report of the program says, in the words of a session.
use Rattle.std.specs.Prelude.{List, map, Option, option_map}
use Rattle.rec_format.specs.declared.report.Sent.{Sent}
use Rattle.rec_format.specs.declared.report.Report.{Report}
use Rattle.session_model.specs.Stream as stream
use Rattle.session_model.specs.Session as session

-- what was sent to a side
abbrev pub sent_of : Sent → stream.Sent
sent_of sent = record { bytes = sent.bytes; close = sent.close }

-- what was sent to each server
abbrev pub servers_of : List (Option Sent) → List (Option stream.Sent)
servers_of servers = map (option_map sent_of) servers

-- what the session came to
abbrev pub out_of : Report → session.Out
out_of report = record {
  exchanges = report.exchanges;
  how = report.end;
  cut = report.cut;
  client = sent_of report.client;
  servers = servers_of report.servers.items;
}
