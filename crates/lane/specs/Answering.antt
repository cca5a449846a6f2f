-- What a lane that answers a client stands for.
use Rattle.std.specs.Prelude.{◌≡◌, ◌≢◌, ℕ, ◌<◌, ◌≤◌, ◌⊎◌, List, [], ◌∷◌, ◌++◌, Bool, true, false, Option, Some, None, length, is_some, take, min, ◌-◌, codes}
use Rattle.std.specs.List.{flat_map}
use Rattle.std.specs.Str.{bytes_eq}
use Rattle.http_model.specs.declared.Ending.{Ending}
use Rattle.wire_buf.specs.Buffer.{Buffer}
use Rattle.htx_arena.specs.Layout.Contents.{Contents}
use Rattle.htx_model.specs.Block.{Block}
use Rattle.htx_model.specs.Blocks.{flow}
use Rattle.http_model.specs.declared.Framing.{Framing}
use Rattle.http_model.specs.declared.Framing.TheVariants as framing
use Rattle.http_model.specs.declared.Limits.{Limits}
use Rattle.http_model.specs.Finish.{finish_interim}
use Rattle.http_model.specs.Head.{Head, StartLine, RequestLine, StatusLine, head_blocks, front_blocks}
use Rattle.http_model.specs.Reading.{Received, HeadReading, Nothing, Refused, Begins}
use Rattle.http_model.specs.Spelling.{head_text}
use Rattle.h1_body.specs.Stands.{ahead_of}
use Rattle.body_filter.specs.declared.filter_spec.FilterSpec.{FilterSpec}
use Rattle.h1_head.specs.declared.answer.Side.TheVariants.{Response}
use Rattle.h1_head.specs.Received.{IsReceived}
use Rattle.h1_head.specs.Response.{ResponseOf}
use Rattle.h1_head.specs.Sides.{kind_of}
use Rattle.h1_head.specs.Stream.{behind}
use Rattle.h1_head.specs.Decides.{OnEachStream, MayWait}
use Rattle.lane.specs.Direction.Filtering.{AreThese}
use Rattle.lane.specs.Direction.Promise.{Promise}
use Rattle.lane.specs.Direction.Sends.{Past, Stands, IsSound, IsReading, IsAtRest, RestsFor, MayPass, IsStraight, GoesAtOnce, put_out, GoesOn}
use Rattle.lane.specs.Direction.Shown.{Shows}
use Rattle.lane.specs.declared.direction.stage.LaneHead.{LaneHead}
use Rattle.lane.specs.declared.direction.stage.LaneHead.TheVariants as says
use Rattle.lane.specs.declared.direction.stage.Stage.TheVariants as stage
use Rattle.lane.specs.declared.direction.stage.Stage.{Stage}
use Rattle.http_model.specs.declared.Source.{Source}
use Rattle.http_model.specs.declared.Source.TheVariants as source
use Rattle.lane.specs.declared.direction.lane.Lane.{Lane}
use Rattle.lane.specs.declared.phase.Phase.{Phase}
use Rattle.lane.specs.declared.phase.Phase.TheVariants as phase
use Rattle.lane.specs.declared.response_lane.ResponseLane.{ResponseLane}

-- ---- what came

-- the status of a response; of a request none
abbrev pub status_of : StartLine → List ℕ
status_of (RequestLine method target version) = []
status_of (StatusLine version status reason) = status

-- an interim response: its status is 100 to 199 (RFC 9110 section 15.2)
abbrev pub is_interim : Head → Bool
is_interim head = bytes_eq (take 1 (status_of head.line)) (codes "1")

-- the bytes begin with these interim heads, and the property holds of what follows them
abbrev pub BeginsWithInterim : (asked : Bool) → Limits → List Head → List ℕ → (List ℕ → Type 0) → Type 0
BeginsWithInterim asked limits [] bytes P = P bytes
BeginsWithInterim asked limits (head ∷ heads) bytes P =
    (got : Received) × (rest : List ℕ) × ResponseOf asked limits bytes (Begins got rest)
    × (is_interim got.head ≡ true) × (head ≡ got.head) × BeginsWithInterim asked limits heads rest P

-- a server's stream so far begins with these interim heads, and then this is left of it, however it goes on
abbrev pub HeadsCame : (asked : Bool) → Limits → Option Ending → List Head → (bytes left : List ℕ) → Type 0
HeadsCame asked limits ended heads bytes left =
    OnEachStream (is_some ended) (λ more. BeginsWithInterim asked limits heads (bytes ++ more) (λ rest. rest ≡ left ++ more))

-- what follows reads so, however the stream goes on
abbrev pub Reads : (asked : Bool) → Limits → Option Ending → List ℕ → (List ℕ → HeadReading) → Type 0
Reads asked limits ended left reading = OnEachStream (is_some ended) (λ more. ResponseOf asked limits (left ++ more) (reading more))

-- ---- the exchange in hand

-- the last that answers
pub data Last : Type 0 where
  -- none yet
  NotYet : Last
  -- the server's head as rules left it, and its body through these filters in this framing
  Serves : (filters : List FilterSpec) → (head : Head) → (framing : Framing) → (no_body : Bool) → Last
  -- a reply or a refusal in its place
  Replies : (head : Head) → (body : List ℕ) → (no_body : Bool) → Last

-- What happened in one exchange: whether HEAD was asked, the bytes of the server so far, the interim heads among them, those
-- that go to the client as it is sent them, the head that was read last, what answers, and the text that was put out.
pub record Exchange : Type 0 where
  pub asked : Bool
  pub bytes : List ℕ
  pub read : List Head
  pub passed : List Head
  pub pending : Option Received
  pub last : Last
  pub put : List ℕ

-- the text of interim heads, each whole
abbrev pub interim_text : List Head → List ℕ
interim_text heads = flat_map head_text heads

abbrev pub fresh : (asked : Bool) → Exchange
fresh asked = record { asked = asked; bytes = []; read = []; passed = []; pending = None; last = NotYet; put = [] }

abbrev pub with_bytes : Exchange → List ℕ → Exchange
with_bytes p more = record p { bytes = p.bytes ++ more }

abbrev pub with_put : Exchange → List ℕ → Exchange
with_put p more = record p { put = p.put ++ more }

-- the head that was read goes to the client
abbrev pub passes : Exchange → Received → Exchange
passes p got = record p { read = p.read ++ got.head ∷ []; passed = p.passed ++ finish_interim got.head ∷ []; pending = None }

-- or goes nowhere
abbrev pub drops : Exchange → Received → Exchange
drops p got = record p { read = p.read ++ got.head ∷ []; pending = None }

-- or is the last, as rules left it
abbrev pub serves : Exchange → List FilterSpec → Head → Framing → Bool → Exchange
serves p filters head framed no_body = record p { last = Serves filters head framed no_body }

abbrev pub replies : Exchange → Head → List ℕ → Bool → Exchange
replies p head body no_body = record p { last = Replies head body no_body }

-- ---- the lane

-- the bytes differ by empty lines in front at most, whatever follows
abbrev pub SameLines : (left input : List ℕ) → Type 0
SameLines left input = (more : List ℕ) → behind (left ++ more) ≡ behind (input ++ more)

-- where heads are read: what is left of the stream stands in the window but for empty lines, a head stands in the array with what follows it in
-- the window, or there is none to be had
abbrev pub HeadsAt : Stage → Lane → Exchange → Type 0
HeadsAt stage.Reading lane p =
    IsReading (Response p.asked) lane
    × ((left : List ℕ) × HeadsCame p.asked lane.limits lane.ended p.read p.bytes left × SameLines left lane.input.items)
HeadsAt stage.Head lane p =
    (got : Received) × (left : List ℕ) × (p.pending ≡ Some got) × HeadsCame p.asked lane.limits lane.ended p.read p.bytes left
    × Reads p.asked lane.limits lane.ended left (λ more. Begins got (lane.input.items ++ more)) × (got.framing ≡ lane.framing)
HeadsAt stage.Sending lane p = ⊥
HeadsAt stage.Done lane p =
    (left : List ℕ) × HeadsCame p.asked lane.limits lane.ended p.read p.bytes left
    × (Reads p.asked lane.limits lane.ended left (λ more. Refused 502) ⊎ ((is_some lane.ended ≡ true) × Reads p.asked lane.limits lane.ended left (λ more. Nothing)))

-- the last of the interim heads that go to the client is put out
pub record ShowsLast (lane : Lane) (p : Exchange) : Type 0 where
  pub before : List Head
  pub head : Head
  pub text : List ℕ
  pub passed : p.passed ≡ before ++ head ∷ []
  pub put : p.put ≡ interim_text before ++ text
  pub shows : Shows lane.writer head text lane.out.blocks
  pub sound : IsSound lane
  pub kept : lane.dropped ≡ false
  pub stage : lane.stage ≡ stage.Sending

-- the message of the lane is the last that answers
abbrev pub IsLast : Last → Lane → Exchange → Past → Type 0
IsLast NotYet lane p q = ⊥
IsLast (Serves filters head framed no_body) lane p q =
    (got : Received) × (left : List ℕ) × (p.pending ≡ Some got) × HeadsCame p.asked lane.limits lane.ended p.read p.bytes left
    × Reads p.asked lane.limits lane.ended left (λ more. Begins got (q.bytes ++ more))
    × (q.reads ≡ got.framing) × (q.sent ≡ record { head = head; given = []; framing = framed; no_body = no_body; before = q.sent.before }) × (q.filters ≡ filters)
IsLast (Replies head body no_body) lane p q =
    ((left : List ℕ) × HeadsCame p.asked lane.limits lane.ended p.read p.bytes left)
    × (q.sent ≡ record { head = head; given = body; framing = framing.ToClose; no_body = no_body; before = q.sent.before }) × (q.reads ≡ framing.Absent)

-- some text of it was put out exactly where it has begun
abbrev pub HasBegun : Bool → List ℕ → Type 0
HasBegun true text = 0 < length text
HasBegun false text = text ≡ []

pub record AnswersLast (lane : ResponseLane) (p : Exchange) : Type 0 where
  pub past : Past
  pub text : List ℕ
  pub stands : Stands lane.lane past
  pub sound : IsSound lane.lane
  pub kept : lane.lane.dropped ≡ false
  pub last : IsLast p.last lane.lane p past
  pub out : put_out lane.lane past ≡ past.sent.before ++ text
  pub put : p.put ≡ interim_text p.passed ++ text
  pub begun : HasBegun lane.begun text
  pub sent : (lane.lane.stage ≡ stage.Sending) ⊎ (lane.lane.stage ≡ stage.Done)

abbrev pub AnswersAt : Phase → ResponseLane → Exchange → Type 0
AnswersAt phase.Heads lane p = (p.put ≡ interim_text p.passed) × (lane.begun ≡ false) × HeadsAt lane.lane.stage lane.lane p
AnswersAt phase.Passing lane p =
    ShowsLast lane.lane p × (lane.begun ≡ false) × (lane.lane.msg.blocks ≡ [])
    × HeadsCame p.asked lane.lane.limits lane.lane.ended p.read p.bytes lane.lane.input.items
AnswersAt (phase.Turning no_body) lane p =
    ShowsLast lane.lane p × (lane.begun ≡ false)
    × ((left : List ℕ) × HeadsCame p.asked lane.lane.limits lane.lane.ended p.read p.bytes left)
    × ((head : Head) × (body : List ℕ) × (p.last ≡ Replies head body no_body) × (flow lane.lane.msg.blocks ≡ front_blocks head body))
AnswersAt phase.Answering lane p = AnswersLast lane p

-- the lane stands for this exchange
abbrev pub Answers : ResponseLane → Exchange → Type 0
Answers lane p = AnswersAt lane.phase lane p

-- ---- what is seen of it

abbrev pub stage_of : ResponseLane → Stage
stage_of lane = lane.lane.stage

abbrev pub source_of : ResponseLane → Source
source_of lane = lane.lane.source

-- the bytes that came and were not used, in their window, and how many it can hold
abbrev pub input_of : ResponseLane → List ℕ
input_of lane = lane.lane.input.items

abbrev pub came_in : ResponseLane → Buffer ℕ
came_in lane = lane.lane.input

abbrev pub most_of : ResponseLane → ℕ
most_of lane = lane.lane.input.capacity

-- how the stream ended, where it has
abbrev pub ended_of : ResponseLane → Option Ending
ended_of lane = lane.lane.ended

-- the text that was put out and not taken, and its window
abbrev pub output_of : ResponseLane → List ℕ
output_of lane = lane.lane.output.items

abbrev pub window_of : ResponseLane → Buffer ℕ
window_of lane = lane.lane.output

abbrev pub limits_of : ResponseLane → Limits
limits_of lane = lane.lane.limits

-- the array on which rules run, its blocks, and where each lies in it
abbrev pub array_of : ResponseLane → Contents
array_of lane = lane.lane.msg

abbrev pub blocks_of : ResponseLane → List Block
blocks_of lane = lane.lane.msg.blocks

abbrev pub addrs_of : ResponseLane → List ℕ
addrs_of lane = lane.lane.msg.addrs

abbrev pub framing_of : ResponseLane → Framing
framing_of lane = lane.lane.framing

abbrev pub declared_of : ResponseLane → Option ℕ
declared_of lane = lane.lane.declared

abbrev pub close_of : ResponseLane → Bool
close_of lane = lane.lane.close

-- whether a byte of the last that answers was put out
abbrev pub has_begun : ResponseLane → Bool
has_begun lane = lane.begun

abbrev pub phase_of : ResponseLane → Phase
phase_of lane = lane.phase

-- its bodies go through these filters
abbrev pub HasFilters : ResponseLane → List FilterSpec → Type 0
HasFilters lane filters = AreThese lane.lane.sieve filters

-- the server's stream has not ended
abbrev pub IsOpen : ResponseLane → Type 0
IsOpen lane = lane.lane.ended ≡ None

-- The sizes of the lane; and by its phase where the shared part stands.
abbrev pub IsSoundAt : Phase → ResponseLane → Type 0
IsSoundAt phase.Heads lane =
    (lane.lane.stage ≡ stage.Reading → (asked : Bool) → IsReading (Response asked) lane.lane) × (lane.lane.stage ≢ stage.Sending)
    × (lane.lane.out.blocks ≡ []) × (lane.begun ≡ false)
IsSoundAt phase.Passing lane = (lane.lane.stage ≡ stage.Sending) × (lane.begun ≡ false) × (lane.lane.source ≡ source.Whole)
IsSoundAt (phase.Turning no_body) lane = (lane.lane.stage ≡ stage.Sending) × (lane.begun ≡ false) × (lane.lane.source ≡ source.Whole)
IsSoundAt phase.Answering lane = (lane.lane.stage ≡ stage.Sending) ⊎ (lane.lane.stage ≡ stage.Done)

pub record IsSoundAnswer (lane : ResponseLane) : Type 0 where
  pub sound : IsSound lane.lane
  pub kept : lane.lane.dropped ≡ false
  pub at : IsSoundAt lane.phase lane

-- what a head says of the exchange
abbrev pub HeadComes : Exchange → ResponseLane → LaneHead → Type 0
HeadComes p new says.More =
    Answers new p × (new.lane.stage ≡ stage.Reading) × (new.lane.ended ≡ None) × (length new.lane.input.items < new.lane.input.capacity)
    × MayWait (kind_of (Response p.asked)) new.lane.limits false new.lane.input.items
HeadComes p new says.Nothing = ⊥
HeadComes p new says.Head =
    (got : Received) × Answers new (record p { pending = Some got }) × (new.lane.stage ≡ stage.Head) × (new.lane.msg.blocks ≡ head_blocks got.head)
    × (new.lane.framing ≡ got.framing) × (new.lane.declared ≡ got.declared) × (new.lane.close ≡ got.close)
    × IsReceived (kind_of (Response p.asked)) new.lane.limits got.head
HeadComes p new (says.Refuse code) = Answers new p × (new.lane.stage ≡ stage.Done) × (code ≡ 502)

-- what stands there then, whatever the exchange: none of the answers is `Nothing`
abbrev pub HeadStands : LaneHead → ResponseLane → Type 0
HeadStands says.More new = new.lane.stage ≡ stage.Reading
HeadStands says.Nothing new = ⊥
HeadStands says.Head new = (new.lane.stage ≡ stage.Head) × ((head : Head) × (new.lane.msg.blocks ≡ head_blocks head))
HeadStands (says.Refuse code) new = new.lane.stage ≡ stage.Done

-- a step puts out text, and the lane stands for the exchange with it
pub record PutsOut (old new : ResponseLane) : Type 0 where
  pub put : List ℕ
  pub window : new.lane.output.items ≡ old.lane.output.items ++ put
  pub answers : (p : Exchange) → Answers old p → Answers new (with_put p put)

-- all that came of the last that answers was put out
abbrev pub HoldsNothingBack : ResponseLane → Type 0
HoldsNothingBack lane = IsAtRest lane.lane

-- its body is over, or the lane waits for the stream
abbrev pub Rests : ResponseLane → Type 0
Rests lane = RestsFor lane.lane

-- a lane that stopped short of the end waits for its output to be taken, or for the stream
abbrev pub MayGoOn : ResponseLane → Type 0
MayGoOn lane = GoesOn lane.lane

-- an interim head is put out
abbrev pub shows_head : Phase → Bool
shows_head phase.Heads = false
shows_head phase.Passing = true
shows_head (phase.Turning no_body) = true
shows_head phase.Answering = false

-- the last that answers is put out, or waits behind an interim head
abbrev pub shows_last : Phase → Bool
shows_last phase.Heads = false
shows_last phase.Passing = false
shows_last (phase.Turning no_body) = true
shows_last phase.Answering = true

-- heads are read on, or an interim one still goes out
pub record IsAmongHeads (lane : ResponseLane) : Type 0 where
  pub first : shows_last (phase_of lane) ≡ false
  pub stage : (stage_of lane ≡ stage.Sending) ⊎ (stage_of lane ≡ stage.Reading)

-- ---- data that goes to the client at once

-- what `push` of these bytes promises
pub record PushedSo (old : ResponseLane) (bytes : List ℕ) (new : ResponseLane) : Type 0 where
  pub answers : (p : Exchange) → Answers old p → Answers new (with_bytes p bytes)
  pub input : input_of new ≡ input_of old ++ bytes
  pub stage : stage_of new ≡ stage_of old
  pub window : window_of new ≡ window_of old
  pub begun : has_begun new ≡ has_begun old
  pub ended : ended_of new ≡ ended_of old
  pub phase : phase_of new ≡ phase_of old
  pub source : source_of new ≡ source_of old
  pub limits : limits_of new ≡ limits_of old
  pub sound : IsSoundAnswer old → IsSoundAnswer new
  pub filters : (filters : List FilterSpec) → HasFilters old filters → HasFilters new filters

-- what `step` promises, but for how far it goes; and it is no further than before
pub record PutSo (old new : ResponseLane) : Type 0 where
  pub answers : PutsOut old new
  pub begun : has_begun old ≡ true → has_begun new ≡ true
  pub last : shows_last (phase_of old) ≡ true → shows_last (phase_of new) ≡ true
  pub whole : shows_last (phase_of old) ≡ true → source_of old ≡ source.Whole → source_of new ≡ source.Whole
  pub heads : shows_last (phase_of old) ≡ false → IsAmongHeads new
  pub ended : ended_of new ≡ ended_of old
  pub shrinks : length (input_of new) ≤ length (input_of old)
  pub limits : limits_of new ≡ limits_of old
  pub window_size : (window_of new).capacity ≡ (window_of old).capacity
  pub sound : IsSoundAnswer new
  pub filters : (filters : List FilterSpec) → HasFilters old filters → HasFilters new filters
  pub stage : stage_of new ≡ stage_of old
  pub phase : phase_of new ≡ phase_of old

-- some of these bytes can go to the client at once
abbrev pub MayPassOn : ResponseLane → List ℕ → Type 0
MayPassOn lane bytes = (lane.phase ≡ phase.Answering) × MayPass lane.lane bytes

-- So many bytes of the server, whatever they are, go to the client at once where they come: none, or where the last that answers goes out as many as
-- its lane passes on so.
pub data AnswerGoesAtOnce (lane : ResponseLane) (count : ℕ) : Type 0 where
  IsNone : count ≡ 0 → AnswerGoesAtOnce lane count
  IsAnswer : lane.phase ≡ phase.Answering → GoesAtOnce lane.lane count → AnswerGoesAtOnce lane count

-- where nothing stands between the server and the client as many go so as surely are data, and as there is room for
pub record AnswerIsStraight (lane : ResponseLane) : Type 0 where
  pub answering : lane.phase ≡ phase.Answering
  pub straight : IsStraight lane.lane

abbrev pub straight_room : ResponseLane → ℕ
straight_room lane = min (ahead_of lane.lane.reader) (lane.lane.output.capacity - length lane.lane.output.items)

-- these bytes were pushed, and text was put out
abbrev pub PassedSo : ResponseLane → List ℕ → ResponseLane → Type 0
PassedSo old bytes new = (mid : ResponseLane) × PushedSo old bytes mid × PutSo mid new

-- ---- the contract

-- What was put out to the client in this exchange: while nothing of the last that answers was, interim heads, each whole or
-- a front of the last of them; then all of them, and a front of the text of the last, which keeps the promise of a lane.
pub record AnswerPromise (lane : ResponseLane) (p : Exchange) : Type 0 where
  pub came : (left : List ℕ) × HeadsCame p.asked lane.lane.limits lane.lane.ended p.read p.bytes left
  pub interim : lane.begun ≡ false → (rest : List ℕ) × (p.put ++ rest ≡ interim_text p.passed)
  pub last : lane.phase ≡ phase.Answering → (past : Past) × (text : List ℕ) × Promise lane.lane past × IsLast p.last lane.lane p past
      × (put_out lane.lane past ≡ past.sent.before ++ text) × (p.put ≡ interim_text p.passed ++ text) × HasBegun lane.begun text

-- ---- a reply

-- The text of a reply or a refusal: its head, and behind it the bytes of its body as they are. Nothing frames them but the
-- fields of the head.
abbrev pub reply_text : Head → List ℕ → (no_body : Bool) → List ℕ
reply_text head body true = head_text head
reply_text head body false = head_text head ++ body

-- What was put out where it answers: a front of the interim heads and of its text, and all of them once it is done.
pub record ReplyPromise (lane : ResponseLane) (p : Exchange) (head : Head) (body : List ℕ) (no_body : Bool) : Type 0 where
  pub rest : List ℕ
  pub front : p.put ++ rest ≡ interim_text p.passed ++ reply_text head body no_body
  pub whole : stage_of lane ≡ stage.Done → has_begun lane ≡ true → rest ≡ []
