-- What the sides of one connection give.
use Rattle.rec_format.specs.Recorded.{Visit}
use Rattle.rec_format.specs.Read.{stream, servers}
use Rattle.htx_drive.specs.declared.replay.streams.Streams.{Streams}

-- as a connection of a record
abbrev pub visit_in : Streams → Visit
visit_in streams = record { client = stream streams.client.now; servers = servers streams.servers.now }
