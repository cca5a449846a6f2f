-- What a core stands for.
use Rattle.std.specs.Prelude.{◌≡◌, ℕ, ◌+◌, List, [], ◌∷◌, ◌++◌, Bool, true, false, length, map, min, Option, Some, None, is_none}
use Rattle.std.specs.List.{flat_map, AllZip}
use Rattle.htx_model.specs.Block.{Block}
use Rattle.http_model.specs.declared.End.{End}
use Rattle.http_model.specs.declared.End.TheVariants as end
use Rattle.http_model.specs.declared.Ending.{Ending}
use Rattle.http_model.specs.Reading.{Received}
use Rattle.http_model.specs.Spelling.{Spells}
use Rattle.session_model.specs.Stream.{Stream, Server, Sent}
use Rattle.session_model.specs.Meaning.{Meaning}
use Rattle.session_model.specs.Asking.{Asked, Asks}
use Rattle.session_model.specs.Amending.{reply_sent, behind_reply}
use Rattle.session_model.specs.Session.{Exchange, Over, Goes, Follow, first_bit}
use Rattle.session_core.specs.History.{Past, Coming, Connect, Continues, ContinuesServer, prepend, prepended, sent_of, Fronts, close_by, connected}
use Rattle.session_core.specs.Sided.{Sided, Saying, finished_blocks, Reply, replied_to, RequestSeen, AnswerSeen, Requests, RequestsAsk, AnswersSo, IsBefore, IsTurned, IsUncut, IsSettled}
use Rattle.session_core.specs.Awaits.{awaits_continue}
use Rattle.http_model.specs.declared.Source.{Source}
use Rattle.http_model.specs.declared.Source.TheVariants as source
use Rattle.session_core.specs.declared.Phase.{Phase}
use Rattle.session_core.specs.declared.machine.At.{At}
use Rattle.session_core.specs.declared.Phase.TheVariants as phase

-- ---- exchanges that are over

-- one exchange on these streams, whatever servers are connected behind it
pub record One (M : Meaning) (vars : M.Vars) (client : Stream) (servers : List Server) (e : Exchange M.Vars) : Type 0 where
  pub asked : Asked M.Vars
  pub asks : Asks M vars client asked
  pub goes : (left : List Server) → Goes M asked (servers ++ left) left e

-- what whole exchanges put out
pub record Done : Type 0 where
  pub count : ℕ
  pub client : List ℕ
  pub connects : List (Option Sent)

abbrev pub none_done : Done
none_done = record { count = 0; client = []; connects = [] }

-- the exchanges put this out, with this bit
pub record Puts {Vars : Type 0} (es : List (Exchange Vars)) (done : Done) (cut : Option Bool) : Type 0 where
  pub count : length es ≡ done.count
  pub client : flat_map (λ e. e.client) es ≡ done.client
  pub connects : flat_map (λ e. e.connects) es ≡ done.connects
  pub bit : first_bit es ≡ cut

-- in front of these exchanges stand those that are done
pub record Follows (M : Meaning) (done : Done) (client : Stream) (servers : List Server) (how : End) (more : List (Exchange M.Vars)) : Type 0 where
  pub exchanges : List (Exchange M.Vars)
  pub puts : Puts exchanges done None
  pub follow : Follow M (exchanges ++ more) M.begins client servers how

-- Exchanges are done, and the next begins behind these bytes of the client, with these variables: however the client's stream
-- and those of the servers go on, what follows there follows the exchanges that are done.
abbrev pub IsBehind : (M : Meaning) → (vars : M.Vars) → (used : List ℕ) → Coming → List Connect → Done → Type 0
IsBehind M vars used came connects done =
    (rest : Stream) (servers left : List Server) (how : End) (more : List (Exchange M.Vars))
    → Continues came rest → AllZip ContinuesServer connects servers → Follow M more vars rest left how
    → Follows M done (prepend used rest) (servers ++ left) how more

-- ---- the exchange in hand

-- these variables where the connection is kept, and none else
abbrev pub kept_with : {Vars : Type 0} → (kept : Bool) → Vars → Option Vars
kept_with true now = Some now
kept_with false now = None

-- the connect of this exchange
pub record IsConnect (dropped : Bool) (window : List ℕ) (server : Coming) (put : List ℕ) (c : Connect) : Type 0 where
  pub there : c.there ≡ true
  pub stopped : c.stopped ≡ dropped
  pub stream : c.stream ≡ server
  pub taken : c.taken ++ window ≡ put

-- By the cut of the request, and whether the answer had begun when it was met. While it hasn't begun the client got interim
-- heads alone.
abbrev pub Serves : (M : Meaning) → RequestSeen → AnswerSeen → Sided M → (cut : Option Bool) → Type 0
Serves M q a p None = Requests M q p × AnswersSo M a p × IsUncut q.source × (a.begun ≡ false → IsBefore M p)
Serves M q a p (Some true) = Requests M q p × AnswersSo M a p × (code : ℕ) × (q.source ≡ source.Cut code) × (a.begun ≡ true)
Serves M q a p (Some false) = Requests M q p × (code : ℕ) × (q.source ≡ source.Cut code) × IsTurned M a p code

-- what a core sees of both directions while a server is open: whether its stream goes on, that all is sent only of a source
-- that has ended, that nothing waits for a server that stopped, and whether the client waits for a response head
pub record IsOpenServer (so : Source) (sent dropped awaits : Bool) (window : List ℕ) (opened : Bool) (ending : Option Ending) (received : Received) : Type 0 where
  pub is_open : opened ≡ is_none ending
  pub settled : sent ≡ true → IsSettled so
  pub drops : dropped ≡ true → window ≡ []
  pub waits : awaits ≡ awaits_continue received

abbrev pub IsOpen : {M : Meaning} → RequestSeen → AnswerSeen → Sided M → Type 0
IsOpen q a p = IsOpenServer q.source q.sent q.dropped q.awaits q.window a.is_open p.server.ending p.asking.received

-- its one connect, what both directions have made, and for which head the client's stream asks for a server
abbrev pub IsServing : (M : Meaning) → RequestSeen → AnswerSeen → Sided M → (cut : Option Bool) → List Connect → Connect → Type 0
IsServing M q a p cut now connect =
    (now ≡ connect ∷ []) × IsConnect q.dropped q.window p.server p.to_server connect × Serves M q a p cut × IsOpen q a p × RequestsAsk M p

-- both directions have ended
pub record HasEnded (sent : Bool) (window : List ℕ) (answered : Bool) : Type 0 where
  pub all_sent : sent ≡ true
  pub taken : window ≡ []
  pub all_answered : answered ≡ true

-- the exchange is a refusal with no server open
pub record Refusing (M : Meaning) (all : Bool) (vars : M.Vars) (came : Coming) (put : List ℕ) (saying : Saying) (now : List Connect) : Type 0 where
  pub said : put ++ saying.left ≡ saying.text
  pub sent : all ≡ true → saying.left ≡ []
  pub goes : (stream : Stream) (servers : List Server) → Continues came stream → AllZip ContinuesServer now servers
      → One M vars stream servers (record { connects = map sent_of now; client = saying.text; bit = None; after = Over end.Closed })

-- The exchange is a reply of the request's rules. The connection is kept behind it where these are its variables then.
pub record Replying (M : Meaning) (all : Bool) (vars : M.Vars) (came : Coming) (put : List ℕ) (saying : Saying) (reply : Reply M.Vars) (kept : Bool) (now : M.Vars) : Type 0 where
  pub spelled : Spells true reply.no_body (reply_sent M reply.message reply.method (M.answering reply.vars) reply.keep) saying.text
  pub said : put ++ saying.left ≡ saying.text
  pub sent : all ≡ true → saying.left ≡ []
  pub behind : behind_reply M reply.message reply.method (M.answering reply.vars) reply.keep ≡ kept_with kept now
  pub asks : (stream : Stream) → Continues came stream → (rest : Stream) × Asks M vars stream (replied_to reply rest)

abbrev pub IsReplying : (M : Meaning) → AnswerSeen → Sided M → (kept : Bool) → Type 0
IsReplying M a p kept = Replying M a.answered p.vars p.came p.to_client p.saying p.reply kept p.now

-- the exchanges from here on, of which there are no more
pub record EndsWith (M : Meaning) (vars : M.Vars) (put : List ℕ) (hand : ℕ) (now : List Connect) (cut : Option Bool) (how : End) (stream : Stream) (servers : List Server) : Type 0 where
  pub exchanges : List (Exchange M.Vars)
  pub follow : Follow M exchanges vars stream servers how
  pub puts : Puts exchanges (record { count = hand; client = put; connects = map sent_of now }) cut

abbrev pub IsOver : (M : Meaning) → Sided M → ℕ → List Connect → Option Bool → End → Type 0
IsOver M p hand now cut how =
    (stream : Stream) (servers : List Server) → Continues p.came stream → AllZip ContinuesServer now servers
    → EndsWith M p.vars p.to_client hand now cut how stream servers

-- before a server was open, nothing stands in its window and no request was met as cut
pub record IsUnopened (window : List ℕ) (cut : Option Bool) : Type 0 where
  pub none : window ≡ []
  pub uncut : cut ≡ None

-- a head that goes to a server, of which nothing was put out
pub record IsOpening (so : Source) (sent dropped awaits : Bool) (list : List Block) (put : List ℕ) (received : Received) (blocks : List Block) : Type 0 where
  pub none : put ≡ []
  pub takes : dropped ≡ false
  pub uncut : IsUncut so
  pub settled : sent ≡ true → IsSettled so
  pub waits : awaits ≡ awaits_continue received
  -- the finished list stands in the array
  pub held : list ≡ blocks

abbrev pub Opens : {M : Meaning} → RequestSeen → Sided M → Type 0
Opens {M} q p = IsOpening q.source q.sent q.dropped q.awaits q.list p.to_server p.asking.received (finished_blocks M p.asking)

abbrev pub InPhase : (M : Meaning) → RequestSeen → AnswerSeen → Sided M → (hand : ℕ) → (cut : Option Bool) → List Connect → Phase → Type 0
InPhase M q a p hand cut now phase.Reading = (hand ≡ 0) × IsUnopened q.window cut × (p.to_client ≡ []) × (now ≡ [])
InPhase M q a p hand cut now phase.Opening = (hand ≡ 1) × IsUnopened q.window cut × (p.to_client ≡ []) × (now ≡ []) × Opens q p × Requests M q p × RequestsAsk M p
InPhase M q a p hand cut now phase.Unserved = (hand ≡ 1) × IsUnopened q.window cut × (p.to_client ≡ []) × (now ≡ connected false ∷ []) × RequestsAsk M p
InPhase M q a p hand cut now phase.Serving = (hand ≡ 1) × (connect : Connect) × IsServing M q a p cut now connect
InPhase M q a p hand cut now phase.Served = (hand ≡ 1) × HasEnded q.sent q.window a.answered × (connect : Connect) × (connect.closed ≡ Some (close_by cut)) × IsServing M q a p cut now connect
InPhase M q a p hand cut now phase.Refusing = (hand ≡ 1) × IsUnopened q.window cut × Fronts now [] (map sent_of now) × Refusing M a.answered p.vars p.came p.to_client p.saying now
InPhase M q a p hand cut now (phase.Replying kept) = (hand ≡ 1) × IsUnopened q.window cut × (now ≡ []) × IsReplying M a p kept
InPhase M q a p hand cut now (phase.Over how) = (q.window ≡ []) × Fronts now [] (map sent_of now) × IsOver M p hand now cut how

-- ---- the whole

-- the most that a count of exchanges shows
abbrev pub most : ℕ
most = 4294967295

-- a core in this state, whose directions have this past, has this history
pub record Holds (M : Meaning) (c : At) (q : RequestSeen) (a : AnswerSeen) (p : Sided M) (past : Past) : Type 0 where
  pub used : List ℕ
  pub done : Done
  pub hand : ℕ
  pub before : List Connect
  pub now : List Connect
  pub is_open : q.is_open ≡ is_none p.came.ending
  pub client : past.client ≡ prepended used p.came
  pub connects : past.connects ≡ before ++ now
  pub taken : past.taken ++ a.window ≡ done.client ++ p.to_client
  pub note : past.note ≡ c.cut
  pub count : c.exchanges ≡ min (done.count + hand) most
  pub sent : done.connects ≡ map sent_of before
  pub fronts : Fronts before [] (map sent_of before)
  pub behind : IsBehind M p.vars used p.came before done
  pub phase : InPhase M q a p hand c.cut now c.phase
