-- Whether the client of a session waits for a response head, in words of its history.
use Rattle.std.specs.Prelude.{◌≡◌, ◌⊎◌, true, false}
use Rattle.http_rules.specs.declared.config.Config.{Config}
use Rattle.session_core.specs.Awaits.{awaits_continue}
use Rattle.session_core.specs.History.{Past}
use Rattle.session_core.specs.Sided.{asker_in}
use Rattle.forward_core.specs.Answer.HeadsRead.{BeginsWithHead, HeadBegins}
use Rattle.forward_core.specs.Joined.HeldBack.{IsServed}

-- the client sends its body only behind a response head, and the bytes of the server so far begin with none
pub record WaitsForHead (cfg : Config) (past : Past) : Type 0 where
  pub served : IsServed cfg past
  pub awaits : awaits_continue served.asking.received ≡ true
  pub none : BeginsWithHead cfg (asker_in served.asking) served.connect.stream.bytes → ⊥

-- it needs none, or the server's stream begins with one, interim or final, however it goes on
pub record WaitsForNone (cfg : Config) (past : Past) : Type 0 where
  pub served : IsServed cfg past
  pub free : (awaits_continue served.asking.received ≡ false) ⊎ HeadBegins cfg (asker_in served.asking) served.connect.stream
