-- What the two directions of a core have made of one exchange.
use Rattle.std.specs.Prelude.{◌≡◌, ◌≢◌, ℕ, List, [], ◌∷◌, ◌++◌, Bool, true, false, Option, Some, None, is_none, not, ◌&&◌, ⊤, length}
use Rattle.htx_model.specs.Block.{Block}
use Rattle.htx_arena.specs.Layout.Held.{blocks_of}
use Rattle.http_model.specs.Head.{Head, Message, head_blocks}
use Rattle.http_model.specs.Finish.{finish_request, request_framing}
use Rattle.http_model.specs.Reading.{Received, BodyReading}
use Rattle.http_model.specs.Spelling.{Spells}
use Rattle.session_model.specs.Stream.{Stream}
use Rattle.session_model.specs.Meaning.{Meaning}
use Rattle.session_model.specs.Asking.{Asker, asker_of, Forwarded, Request, request_by, Asked, Sends, Replied, Asks}
use Rattle.session_model.specs.Amending.{behind_reply}
use Rattle.session_model.specs.Answering.{Final, Refuses, Replies, Answers, Plain, Answered, AnswersFrom, BeginsWithInterim, sent_interim}
use Rattle.session_model.specs.Session.{SpellsFinal, SpellsRefusal, interim_text}
use Rattle.session_core.specs.History.{Coming, Continues, IsPrefix, prepend, prepended}
use Rattle.http_model.specs.declared.Source.{Source}
use Rattle.http_model.specs.declared.Source.TheVariants as source
use Rattle.session_core.specs.declared.Told.{Told}
use Rattle.session_core.specs.declared.Told.TheVariants as told

-- what a core sees of its request direction
pub record RequestSeen : Type 0 where
  -- the client's stream hasn't ended, and the room of its input window
  pub is_open : Bool
  pub room : ℕ
  -- its bytes there that are not read yet
  pub unread : ℕ
  -- the output window to the server
  pub window : List ℕ
  pub source : Source
  -- all text stands in the output window, was taken or is dropped
  pub sent : Bool
  -- the server has stopped taking
  pub dropped : Bool
  -- the client waits for a response head before it sends the body
  pub awaits : Bool
  -- the last step left nothing undone that could be done with what has come
  pub at_rest : Bool
  -- the list in the array on which request rules run
  pub list : List Block
  -- the method and the target of the head that was read in this exchange, as they were received; empty where none was
  pub line : List ℕ

-- what a core sees of its answer direction
pub record AnswerSeen : Type 0 where
  -- the server's stream hasn't ended, and the room of its input window
  pub is_open : Bool
  pub room : ℕ
  -- the output window to the client
  pub window : List ℕ
  pub told : Told
  -- all text of the answer was put out
  pub answered : Bool
  -- a byte of the last that answers was put out
  pub begun : Bool
  -- a response head was read
  pub heard : Bool
  -- the status of the last that answers; none before it is known which that is
  pub status : Option ℕ
  -- the last step left nothing undone that could be done with what has come
  pub at_rest : Bool

-- A request that goes to a server, as far as its head tells: the head as it was received and as the rules left it, and the
-- variables behind them.
pub record Asking (Vars : Type 0) : Type 0 where
  pub received : Received
  pub head : Head
  pub vars : Vars

-- what its answer has to know of it
abbrev pub asker_in : {Vars : Type 0} → Asking Vars → Asker
asker_in asking = asker_of asking.received asking.head

-- the head that goes to the server, with what follows it
abbrev pub forwarded_to : {Vars : Type 0} → Asking Vars → (rest : Stream) → Forwarded Vars
forwarded_to asking rest = record { received = asking.received; head = asking.head; vars = asking.vars; rest = rest }

-- the request that a reading of its body makes
abbrev pub request_to : (M : Meaning) → Asking M.Vars → (rest : Stream) → BodyReading → Request M.Vars
request_to M asking rest body = request_by M asking.received asking.head asking.vars rest.ending body

-- the finished list of a request's head
abbrev pub finished_blocks : (M : Meaning) → Asking M.Vars → List Block
finished_blocks M asking =
    head_blocks (finish_request asking.head (request_framing M.request_filters.replaces asking.received.framing))

-- an array holds this list
unfoldable pub HoldsList : (raw : List ℕ) → List Block → Type 0
HoldsList raw blocks = blocks_of raw (length blocks) ≡ blocks

-- a reply of the request's rules, with what it was asked by
pub record Reply (Vars : Type 0) : Type 0 where
  pub message : Message
  pub no_body : Bool
  pub keep : Bool
  pub method : List ℕ
  pub vars : Vars

abbrev pub replied_to : {Vars : Type 0} → Reply Vars → (rest : Stream) → Asked Vars
replied_to reply rest = Replied reply.message reply.no_body reply.keep rest reply.method reply.vars

-- A text that is made here as a whole, a refusal or a reply, and what is left to put out: of it, or of interim heads in front of it and then all
-- of it.
pub record Saying : Type 0 where
  pub text : List ℕ
  pub left : List ℕ

-- nothing of it was put out
abbrev pub unsaid : (text : List ℕ) → Saying
unsaid text = record { text = text; left = text }

-- the past of one exchange
pub record Sided (M : Meaning) : Type 0 where
  -- the variables in front of it, and the client's stream from there on
  pub vars : M.Vars
  pub came : Coming
  -- a request that goes to a server, and its text so far
  pub asking : Asking M.Vars
  pub to_server : List ℕ
  -- the server's stream so far, the client's text in this exchange so far, and the variables behind the answer
  pub server : Coming
  pub to_client : List ℕ
  pub now : M.Vars
  -- a reply of the request's rules
  pub reply : Reply M.Vars
  -- a refusal or a reply that goes out
  pub saying : Saying

-- ---- the request direction

abbrev pub SourceIs : Source → Option ℕ → Type 0
SourceIs source.Going cut = ⊤
SourceIs source.Whole cut = cut ≡ None
SourceIs (source.Cut code) cut = cut ≡ Some code

abbrev pub IsUncut : Source → Type 0
IsUncut source.Going = ⊤
IsUncut source.Whole = ⊤
IsUncut (source.Cut code) = ⊥

abbrev pub IsSettled : Source → Type 0
IsSettled source.Going = ⊥
IsSettled source.Whole = ⊤
IsSettled (source.Cut code) = ⊤

-- the stream asks for a server for this head
pub record RequestAsks (M : Meaning) (vars : M.Vars) (asking : Asking M.Vars) (stream : Stream) : Type 0 where
  pub rest : Stream
  pub asks : Asks M vars stream (Sends (forwarded_to asking rest))

-- What was put out to the server is a front of the spelling of the head and of the body that follows it, or all of it. A
-- server that stopped lacks at least a byte of it.
pub record BodyGoes (M : Meaning) (asking : Asking M.Vars) (so : Source) (all dropped : Bool) (put : List ℕ) (rest : Stream) : Type 0 where
  pub body : BodyReading
  pub reads : M.reads_body asking.received.framing rest.bytes rest.ending body
  pub text : List ℕ
  pub spelled : Spells (is_none (request_to M asking rest body).cut) false (request_to M asking rest body).message text
  pub front : IsPrefix put text
  pub source : SourceIs so (request_to M asking rest body).cut
  pub sent : all ≡ true → put ≡ text
  pub lacks : dropped ≡ true → put ≢ text

-- what was put out to the server is a front of the request that this stream brings, or all of it
pub record RequestGoes (M : Meaning) (so : Source) (all dropped : Bool) (vars : M.Vars) (asking : Asking M.Vars) (put : List ℕ) (stream : Stream) : Type 0 where
  pub rest : Stream
  pub asks : Asks M vars stream (Sends (forwarded_to asking rest))
  pub goes : BodyGoes M asking so all dropped put rest

-- all of its text was put out
abbrev pub is_all : RequestSeen → Bool
is_all q = q.sent && not q.dropped

-- so however the client's stream goes on
abbrev pub Requests : (M : Meaning) → RequestSeen → Sided M → Type 0
Requests M q p =
    (stream : Stream) → Continues p.came stream → RequestGoes M q.source (is_all q) q.dropped p.vars p.asking p.to_server stream

abbrev pub RequestsAsk : (M : Meaning) → Sided M → Type 0
RequestsAsk M p = (stream : Stream) → Continues p.came stream → RequestAsks M p.vars p.asking stream

-- ---- the answer direction

-- the variables behind a last that lets the connection go on: a whole response, and a reply that isn't plain
abbrev pub goes_on_with : (M : Meaning) → Final M.Vars → Option M.Vars
goes_on_with M (Refuses code method vars) = None
goes_on_with M (Replies m method vars) = behind_reply M m method vars true
goes_on_with M (Answers m true vars) = None
goes_on_with M (Answers m false vars) = Some vars
goes_on_with M Plain = None

-- the last is a response that was cut
abbrev pub is_cut : {Vars : Type 0} → Final Vars → Bool
is_cut (Refuses code method vars) = false
is_cut (Replies m method vars) = false
is_cut (Answers m cut vars) = cut
is_cut Plain = false

-- how the last that answers stands, and the variables behind it
abbrev pub ToldIs : (M : Meaning) → Told → M.Vars → Final M.Vars → Type 0
ToldIs M told.Going now f = ⊤
ToldIs M told.Closes now f = (is_cut f ≡ false) × (goes_on_with M f ≡ None)
ToldIs M told.Whole now f = goes_on_with M f ≡ Some now
ToldIs M told.Cut now f = is_cut f ≡ true

abbrev pub IsTold : Told → Type 0
IsTold told.Going = ⊥
IsTold told.Closes = ⊤
IsTold told.Whole = ⊤
IsTold told.Cut = ⊤

-- what was put out to the client is a front of the answer that this stream of the server brings, or all of it
pub record AnswerGoes (M : Meaning) (so : Told) (all begun : Bool) (asking : Asking M.Vars) (put : List ℕ) (now : M.Vars) (stream : Stream) : Type 0 where
  pub answered : Answered M.Vars
  pub answers : AnswersFrom M (asker_in asking) asking.vars stream answered
  pub final : List ℕ
  pub spelled : SpellsFinal M (asker_in asking) answered.final final
  pub front : IsPrefix put (interim_text answered.interim ++ final)
  pub told : ToldIs M so now answered.final
  pub sent : all ≡ true → put ≡ interim_text answered.interim ++ final
  -- where the answer has begun, a byte of the last was put out
  pub began : begun ≡ true → (byte : ℕ) × (more : List ℕ) × (put ≡ interim_text answered.interim ++ byte ∷ more)

-- so however the server's stream goes on
abbrev pub AnswersSo : (M : Meaning) → AnswerSeen → Sided M → Type 0
AnswersSo M a p =
    (a.answered ≡ true → IsTold a.told)
    × ((stream : Stream) → Continues p.server stream → AnswerGoes M a.told a.answered a.begun p.asking p.to_client p.now stream)

-- the server's stream begins with these interim heads, however it goes on
abbrev pub BeginsAlways : (M : Meaning) → Asker → Coming → List Head → Type 0
BeginsAlways M asker server heads =
    (stream : Stream) → Continues server stream → BeginsWithInterim M asker heads stream.bytes (λ rest. Unit {0})

-- while the last that answers hasn't begun, the client got interim heads alone
pub record Interims (M : Meaning) (asker : Asker) (server : Coming) (put : List ℕ) : Type 0 where
  pub heads : List Head
  pub begins : BeginsAlways M asker server heads
  pub front : IsPrefix put (interim_text (sent_interim asker heads))

abbrev pub IsBefore : (M : Meaning) → Sided M → Type 0
IsBefore M p = Interims M (asker_in p.asking) p.server p.to_client

-- the request was cut before the answer had begun: interim heads, each whole, and then the refusal
pub record Turned (M : Meaning) (all : Bool) (asker : Asker) (server : Coming) (put : List ℕ) (saying : Saying) (code : ℕ) : Type 0 where
  pub heads : List Head
  pub begins : BeginsAlways M asker server heads
  pub spelled : SpellsRefusal code asker.head_asked saying.text
  pub said : put ++ saying.left ≡ interim_text (sent_interim asker heads) ++ saying.text
  pub sent : all ≡ true → saying.left ≡ []

abbrev pub IsTurned : (M : Meaning) → AnswerSeen → Sided M → ℕ → Type 0
IsTurned M a p code = Turned M a.answered (asker_in p.asking) p.server p.to_client p.saying code

-- ---- what is left behind an exchange

-- the request has come whole: the exchange used these bytes, and this is left
pub record CameWhole (M : Meaning) (q : RequestSeen) (p : Sided M) (used : List ℕ) (left : Coming) : Type 0 where
  pub came : p.came ≡ prepended used left
  pub goes : (rest : Stream) → Continues left rest
      → (g : RequestGoes M q.source (is_all q) q.dropped p.vars p.asking p.to_server (prepend used rest))
      × ((request_to M p.asking g.rest g.goes.body).cut ≡ None) × ((request_to M p.asking g.rest g.goes.body).rest ≡ rest)

-- a request that was replied to and whose connection is kept
pub record CameReplied (M : Meaning) (p : Sided M) (used : List ℕ) (left : Coming) : Type 0 where
  pub came : p.came ≡ prepended used left
  pub goes : (rest : Stream) → Continues left rest → Asks M p.vars (prepend used rest) (replied_to p.reply rest)
