-- The head that stands in the array, for rules to edit: what the edits leave as it was.
use Rattle.std.specs.Prelude.{◌≡◌, ℕ, List, Bool, Option}
use Rattle.std.specs.Borrow.{Lends, MutBor, Fml, Array, u8}
use Rattle.http_model.specs.declared.Framing.{Framing}
use Rattle.htx_arena.specs.Layout.Contents.{Contents}
use Rattle.htx_arena.specs.contracts.arena.Arena as arena
use Rattle.http_model.specs.Reading.{Received}
use Rattle.session_core.specs.History.{Coming}
use Rattle.http_rules.specs.declared.config.Config.{Config}
use Rattle.lane.specs.Direction.Lending.{with_msg, with_output}
use Rattle.forward_core.specs.Request.Seen.{place_of, is_open, room_of, window_of, window_size_of, array_of, input_size_of, limits_of}
use Rattle.forward_core.specs.Request.Stands.{IsSound}
use Rattle.forward_core.specs.Request.Reads.{HasHead, HeadRead}
use Rattle.forward_core.specs.declared.request.side.RequestSide.{RequestSide}
use Rattle.forward_core.specs.contracts.request.side.RequestSide.{the_row}

-- how the body of the head is framed, and the length that was declared
abbrev pub framing_of : RequestSide → Framing
framing_of side = side.lane.framing

abbrev pub declared_of : RequestSide → Option ℕ
declared_of side = side.lane.declared

-- whether a Connection element was `close`
abbrev pub close_of : RequestSide → Bool
close_of side = side.lane.close

-- the size of the array, in bytes
abbrev pub array_size_of : RequestSide → ℕ
array_size_of side = (array_of side).size

-- the side with this array
abbrev pub with_head : RequestSide → Contents → RequestSide
with_head side msg = record side { lane = with_msg side.lane msg }

-- the side has the array that the borrow leaves
abbrev pub LendsHead : MutBor RequestSide → MutBor Contents → Fml
LendsHead side r = Lends the_row arena.the_row side r (with_head side.now)

-- the side with these bytes as the text that was not taken, as many as stood there
abbrev pub with_text : RequestSide → List ℕ → RequestSide
with_text side text = record side { lane = with_output side.lane text }

-- the side has the text that the borrow leaves, as long as it was
abbrev pub LendsText : MutBor RequestSide → MutBor (List ℕ) → Fml
LendsText side r = Lends the_row (Array u8 0) side r (with_text side.now)

-- only the head in the array was edited
pub record Edits (old new : RequestSide) : Type 0 where
  pub has : HasHead new
  pub sound : IsSound old → IsSound new
  pub came : (cfg : Config) (came : Coming) (received : Received) → HeadRead cfg old came received → HeadRead cfg new came received
  pub place : place_of new ≡ place_of old
  pub framing : framing_of new ≡ framing_of old
  pub declared : declared_of new ≡ declared_of old
  pub limits : limits_of new ≡ limits_of old
  pub size : array_size_of new ≡ array_size_of old
  pub is_open : is_open new ≡ is_open old
  pub room : room_of new ≡ room_of old
  pub input : input_size_of new ≡ input_size_of old
  pub window : window_of new ≡ window_of old
  pub window_size : window_size_of new ≡ window_size_of old
