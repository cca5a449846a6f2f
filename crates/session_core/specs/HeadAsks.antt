-- What a head that begins a stream asks for.
use Rattle.http_model.specs.Reading.{Received}
use Rattle.session_model.specs.Stream.{Stream}
use Rattle.session_model.specs.Env.{request_env}
use Rattle.session_model.specs.Meaning.{Meaning}
use Rattle.session_model.specs.Asking.{Asks, asked_by}
use Rattle.session_core.specs.History.{Coming, Continues}

-- the stream begins with a head: what the rules make of it is asked, with what follows
pub record HeadAsks (M : Meaning) (vars : M.Vars) (left : Coming) (received : Received) (stream : Stream) : Type 0 where
  pub rest : Stream
  pub continues : Continues left rest
  pub asks : Asks M vars stream (asked_by M received rest (M.request_rules (request_env vars received.head)))
