-- What a core sees of the request direction.
use Rattle.std.specs.Prelude.{ℕ, ◌-◌, List, Bool, true, false, is_none, length}
use Rattle.htx_arena.specs.Layout.Contents.{Contents}
use Rattle.htx_model.specs.Block.{Block}
use Rattle.http_model.specs.declared.Limits.{Limits}
use Rattle.lane.specs.declared.direction.stage.Stage.{Stage}
use Rattle.lane.specs.declared.direction.stage.Stage.TheVariants as stage
use Rattle.http_model.specs.declared.Source.{Source}
use Rattle.http_model.specs.declared.Source.TheVariants as source
use Rattle.session_core.specs.Sided.{RequestSeen}
use Rattle.forward_core.specs.declared.request.place.Place.{Place}
use Rattle.forward_core.specs.declared.request.place.Place.TheVariants as place
use Rattle.forward_core.specs.declared.request.side.RequestSide.{RequestSide}

-- where no request goes out none is to come whole
abbrev pub source_at : Place → Source → Source
source_at place.Reading so = source.Cut 400
source_at place.Sending so = so
source_at place.Idle so = source.Cut 400
source_at place.Replied so = source.Cut 400

abbrev pub is_done : Stage → Bool
is_done stage.Reading = false
is_done stage.Head = false
is_done stage.Sending = false
is_done stage.Done = true

-- all text of a request that goes out was put out; where none does, there is none
abbrev pub sent_at : Place → Stage → Bool
sent_at place.Reading at = true
sent_at place.Sending at = is_done at
sent_at place.Idle at = true
sent_at place.Replied at = true

-- what is made of the next request
abbrev pub place_of : RequestSide → Place
place_of side = side.place

-- the client's stream hasn't ended
abbrev pub is_open : RequestSide → Bool
is_open side = is_none side.lane.ended

-- how many bytes of it can be taken
abbrev pub room_of : RequestSide → ℕ
room_of side = side.lane.input.capacity - length side.lane.input.items

-- the text for the server that was put out and not taken
abbrev pub window_of : RequestSide → List ℕ
window_of side = side.lane.output.items

-- how many bytes its window can hold
abbrev pub window_size_of : RequestSide → ℕ
window_size_of side = side.lane.output.capacity

-- its bytes that are not read yet; behind a head that ends the session none is
abbrev pub unread_at : Place → List ℕ → ℕ
unread_at place.Reading input = length input
unread_at place.Sending input = length input
unread_at place.Idle input = 0
unread_at place.Replied input = length input

-- of so many bytes that come, those that are to be read
abbrev pub to_read : Place → ℕ → ℕ
to_read place.Reading n = n
to_read place.Sending n = n
to_read place.Idle n = 0
to_read place.Replied n = n

abbrev pub unread_of : RequestSide → ℕ
unread_of side = unread_at side.place side.lane.input.items

-- how the body of the request stands that goes to a server
abbrev pub source_of : RequestSide → Source
source_of side = source_at side.place side.lane.source

-- the sizes that it was made with
abbrev pub limits_of : RequestSide → Limits
limits_of side = side.lane.limits

-- how many bytes of the client's stream stand in its window
abbrev pub input_size_of : RequestSide → ℕ
input_size_of side = length side.lane.input.items

-- the array on which rules run
abbrev pub array_of : RequestSide → Contents
array_of side = side.lane.msg

-- its blocks
abbrev pub list_of : RequestSide → List Block
list_of side = side.lane.msg.blocks

-- the method and the target of the head that was read in this exchange, as they were received; empty where none was
abbrev pub line_of : RequestSide → List ℕ
line_of side = side.line.bytes

-- all that a core sees
abbrev pub seen : RequestSide → RequestSeen
seen side =
    record {
      is_open = is_open side;
      room = room_of side;
      unread = unread_of side;
      window = window_of side;
      source = source_of side;
      sent = sent_at side.place side.lane.stage;
      dropped = side.lane.dropped;
      awaits = side.awaits;
      at_rest = side.at_rest;
      list = list_of side;
      line = line_of side;
    }
