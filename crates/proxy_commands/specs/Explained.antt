-- What `explain` writes of the first connection of a record.
use Rattle.std.specs.Prelude.{◌≡◌, ◌≢◌, ℕ, List, ◌∷◌, Some, None, false}
use Rattle.px_link.specs.declared.turns.Turn.{Turn}
use Rattle.session_model.specs.Session.{Out}
use Rattle.http_rules.specs.declared.config.Config.{Config}
use Rattle.forward_core.specs.Meaning.Product.{meaning_of}
use Rattle.rec_format.specs.Recorded.{Recorded, Visit}
use Rattle.px_explain.specs.Sessions.{IsSessionOf, TellsStatus}
use Rattle.px_explain.specs.Text.{text_of, IsBlockText}
use Rattle.px_explain.specs.Traced.{Traced, TraceOf}
use Rattle.htx_drive.specs.Replay.Replayed.{Replays}
use Rattle.proxy_sessions.specs.Driven.{stands_for, seen_of}

-- What is written is so by what is told of the first exchange of the record's first connection.
pub record IsToldOf (cfg : Config) (rec : Recorded) (IsWritten : Traced → Type 0) : Type 0 where
  pub visit : Visit
  pub others : List Visit
  pub is_first : rec.connections ≡ visit ∷ others
  pub traced : Traced
  pub is_traced : TraceOf cfg visit traced
  pub is_written : IsWritten traced
  -- In every session of this connection, but one in which a request is refused for its cut before an answer begins, the client is sent the status of the last line
  -- first, behind interim heads; where that line tells none it is sent nothing.
  pub sessions : (out : Out) → IsSessionOf cfg visit out → TellsStatus traced.answer out.client.bytes
  -- so it is in what `replay` makes of this connection, by any turns: a configuration's text tells no peer
  pub replays : cfg.peer ≡ None → (turns : List Turn) (out : Out) → Replays (meaning_of cfg) (stands_for cfg) seen_of turns visit out → out.cut ≢ Some false → TellsStatus traced.answer out.client.bytes

-- the text is that of the lines
abbrev pub IsExplanation : Config → Recorded → (text : List ℕ) → Type 0
IsExplanation cfg rec text = IsToldOf cfg rec (λ traced. text ≡ text_of traced)

-- the text is that of the lines with the arrays that the rules left
abbrev pub IsBlockExplanation : Config → Recorded → (text : List ℕ) → Type 0
IsBlockExplanation cfg rec text = IsToldOf cfg rec (λ traced. IsBlockText traced text)
