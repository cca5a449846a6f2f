-- The status of what a client is sent.
use Rattle.std.specs.Prelude.{◌≡◌, ℕ, Bool, true, false, Option, Some, None}
use Rattle.http_model.specs.Head.{StartLine, RequestLine, StatusLine}
use Rattle.htx_view.specs.Lines.{status_number}
use Rattle.lane.specs.Answering.{Exchange, Last, NotYet, Serves, Replies, phase_of, shows_last}
use Rattle.lane.specs.declared.response_lane.ResponseLane.{ResponseLane}

-- the head is that of a response
abbrev pub is_status_line : StartLine → Bool
is_status_line (RequestLine method target version) = false
is_status_line (StatusLine version status reason) = true

-- the number that its status writes
abbrev pub line_status : StartLine → Option ℕ
line_status (RequestLine method target version) = None
line_status (StatusLine version status reason) = Some (status_number status)

-- the status of the last that answers
abbrev pub last_status : Last → Option ℕ
last_status NotYet = None
last_status (Serves filters head framing no_body) = line_status head.line
last_status (Replies head body no_body) = line_status head.line

-- the last that answers goes out, or waits behind an interim head, and its status is told
pub record ShowsStatus (status : Option ℕ) (lane : ResponseLane) (e : Exchange) : Type 0 where
  pub shows : shows_last (phase_of lane) ≡ true
  pub told : status ≡ last_status e.last
