-- What each call leads to.
use Rattle.std.specs.Prelude.{◌≡◌, ℕ, ◌<◌, ◌≤◌, List, [], ◌++◌, Bool, true, false, Option, Some, None, is_none, ◌&&◌, ⊤, ◌⊎◌, ◌≢◌}
use Rattle.http_model.specs.declared.End.{End}
use Rattle.http_model.specs.declared.End.TheVariants as end
use Rattle.http_model.specs.Spelling.{Spells}
use Rattle.session_model.specs.Stream.{Stream}
use Rattle.session_model.specs.Meaning.{Meaning}
use Rattle.session_model.specs.Asking.{Asks, Nothing, Refused}
use Rattle.session_model.specs.Amending.{reply_sent, refusal_sent, behind_reply}
use Rattle.session_core.specs.History.{Event, Past, Coming, Continues, after, no_stream}
use Rattle.session_core.specs.Sided.{Sided, Saying, unsaid, finished_blocks, Asking, asker_in, Reply, replied_to, RequestSeen, AnswerSeen, Requests, RequestsAsk, AnswersSo, IsBefore, IsTurned, IsUncut, IsSettled, CameWhole, CameReplied}
use Rattle.session_core.specs.Awaits.{awaits_continue}
use Rattle.session_core.specs.Stands.{Holds, kept_with}
use Rattle.session_core.specs.declared.machine.At.{At}
use Rattle.http_model.specs.declared.Source.{Source}
use Rattle.http_model.specs.declared.Source.TheVariants as source
use Rattle.session_core.specs.declared.Told.{Told}
use Rattle.session_core.specs.declared.Told.TheVariants as told
use Rattle.session_core.specs.declared.sides.Asked.{Asked}
use Rattle.session_core.specs.declared.sides.Asked.TheVariants as asked

-- ---- the directions

-- a step of the answer direction ended, or waits for the client to take bytes or for the server to give some
abbrev pub AnswerWaits : AnswerSeen → Type 0
AnswerWaits a = (a.at_rest ≡ true) × (a.answered ≡ false → (a.window ≢ []) ⊎ ((a.told ≡ told.Going) × (a.is_open ≡ true) × (0 < a.room)))

-- a settled source stays so
abbrev pub StaysSettled : Source → Source → Type 0
StaysSettled source.Going new = ⊤
StaysSettled source.Whole new = new ≡ source.Whole
StaysSettled (source.Cut code) new = new ≡ source.Cut code

-- a step of the request direction: what it puts out to the server
pub record StepsRequest (M : Meaning) (S : Sided M → Type 0) (old new : RequestSeen) (p : Sided M) : Type 0 where
  pub put : List ℕ
  pub stands : S (record p { to_server = p.to_server ++ put })
  pub requests : Requests M new (record p { to_server = p.to_server ++ put })
  pub window : new.window ≡ old.window ++ put

-- what else a step of the request direction keeps
pub record KeepsRequest (old new : RequestSeen) : Type 0 where
  pub is_open : new.is_open ≡ old.is_open
  pub dropped : new.dropped ≡ old.dropped
  -- nothing is put out to a server that stopped
  pub drops : new.dropped ≡ true → new.window ≡ old.window
  pub awaits : new.awaits ≡ old.awaits
  pub line : new.line ≡ old.line
  pub rests : new.at_rest ≡ true
  pub stays : StaysSettled old.source new.source
  pub unread : new.unread ≤ old.unread
  pub settled : new.sent ≡ true → IsSettled new.source
  -- what it waits for where it hasn't ended
  pub waits : new.sent ≡ false → (new.window ≢ []) ⊎ ((new.source ≡ source.Going) × (new.is_open ≡ true) × (0 < new.room))

-- A step of the answer direction: what it puts out to the client. An answer that has begun stays so, and a response head
-- that was read was.
pub record StepsAnswer (M : Meaning) (S : Sided M → Type 0) (old new : AnswerSeen) (p : Sided M) : Type 0 where
  pub put : List ℕ
  pub behind : M.Vars
  pub stands : S (record p { to_client = p.to_client ++ put; now = behind })
  pub answers : AnswersSo M new (record p { to_client = p.to_client ++ put; now = behind })
  pub before : (old.begun ≡ false → IsBefore M p) → new.begun ≡ false → IsBefore M (record p { to_client = p.to_client ++ put; now = behind })
  pub window : new.window ≡ old.window ++ put
  pub began : old.begun ≡ true → new.begun ≡ true
  pub heard : old.heard ≡ true → new.heard ≡ true

-- a part of what is said was put out
pub record Says (M : Meaning) (S : Sided M → Type 0) (old new : AnswerSeen) (p : Sided M) : Type 0 where
  pub put : List ℕ
  pub left : List ℕ
  pub stands : S (record p { to_client = p.to_client ++ put; saying = record p.saying { left = left } })
  pub saying : p.saying.left ≡ put ++ left
  pub window : new.window ≡ old.window ++ put
  pub all : new.answered ≡ true → left ≡ []

-- the refusal with this code of a request for which no server is open
pub record Refuses (M : Meaning) (S : Sided M → Type 0) (p : Sided M) (code : ℕ) : Type 0 where
  pub text : List ℕ
  pub spelled : Spells true (asker_in p.asking).head_asked (refusal_sent M code (asker_in p.asking).method (M.answering p.asking.vars)) text
  pub stands : S (record p { saying = unsaid text })

-- in place of the server's answer, interim heads, each whole, and the refusal of a cut request
pub record Turns (M : Meaning) (S : Sided M → Type 0) (new : AnswerSeen) (p : Sided M) (code : ℕ) : Type 0 where
  pub saying : Saying
  pub stands : S (record p { saying = saying })
  pub turned : IsTurned M new (record p { saying = saying }) code

-- the client is refused before a server is asked for
pub record AsksRefusal (M : Meaning) (S : Sided M → Type 0) (p : Sided M) : Type 0 where
  pub code : ℕ
  pub no_body : Bool
  pub method : List ℕ
  pub behind : M.Vars
  pub text : List ℕ
  pub spelled : Spells true no_body (refusal_sent M code method (M.answering behind)) text
  pub stands : S (record p { saying = unsaid text })
  pub asks : (stream : Stream) → Continues p.came stream → Asks M p.vars stream (Refused code no_body method behind)

-- the rules reply, and the connection is kept behind it or not
pub record AsksReply (M : Meaning) (S : Sided M → Type 0) (p : Sided M) (kept : Bool) : Type 0 where
  pub reply : Reply M.Vars
  pub now : M.Vars
  pub text : List ℕ
  pub spelled : Spells true reply.no_body (reply_sent M reply.message reply.method (M.answering reply.vars) reply.keep) text
  pub behind : behind_reply M reply.message reply.method (M.answering reply.vars) reply.keep ≡ kept_with kept now
  pub stands : S (record p { reply = reply; now = now; saying = unsaid text })
  pub asks : (stream : Stream) → Continues p.came stream → (rest : Stream) × Asks M p.vars stream (replied_to reply rest)

-- a head goes to a server
pub record AsksServer (M : Meaning) (S : Sided M → Type 0) (new : RequestSeen) (p : Sided M) : Type 0 where
  pub asking : Asking M.Vars
  pub stands : S (record p { asking = asking; to_server = [] })
  pub requests : Requests M new (record p { asking = asking; to_server = [] })
  pub asks : RequestsAsk M (record p { asking = asking; to_server = [] })
  pub uncut : IsUncut new.source
  pub dropped : new.dropped ≡ false
  pub settled : new.sent ≡ true → IsSettled new.source
  pub awaits : new.awaits ≡ awaits_continue asking.received
  pub held : new.list ≡ finished_blocks M asking

-- what the client's next request asks for
abbrev pub AsksTo : (M : Meaning) → (Sided M → Type 0) → RequestSeen → Sided M → Asked → Type 0
AsksTo M S new p asked.More = S p
AsksTo M S new p asked.Nothing = S p × ((stream : Stream) → Continues p.came stream → Asks M p.vars stream Nothing)
AsksTo M S new p asked.Refuse = AsksRefusal M S p
AsksTo M S new p (asked.Reply kept) = AsksReply M S p kept
AsksTo M S new p asked.Send = AsksServer M S new p

-- where the next request hasn't come, nothing is left undone with what has come, and the client may give more
abbrev pub AskWaits : RequestSeen → Asked → Type 0
AskWaits new asked.More = (new.at_rest ≡ true) × (new.is_open ≡ true) × (0 < new.room)
AskWaits new asked.Nothing = ⊤
AskWaits new asked.Refuse = ⊤
AskWaits new (asked.Reply kept) = ⊤
AskWaits new asked.Send = ⊤

-- what is answered at once was read
abbrev pub AskUses : RequestSeen → RequestSeen → Asked → Type 0
AskUses old new asked.More = ⊤
AskUses old new asked.Nothing = ⊤
AskUses old new asked.Refuse = new.unread < old.unread
AskUses old new (asked.Reply kept) = new.unread < old.unread
AskUses old new asked.Send = ⊤

-- what asking keeps of the request direction
pub record AskKeeps (old new : RequestSeen) (asks : Asked) : Type 0 where
  pub is_open : new.is_open ≡ old.is_open
  pub window : new.window ≡ old.window
  pub waits : AskWaits new asks
  pub less : AskUses old new asks

-- in front of the next exchange
abbrev pub renewed_at : {M : Meaning} → Sided M → Coming → Sided M
renewed_at {M} p left = record p { vars = M.renewed p.now; came = left; to_server = []; server = no_stream; to_client = []; saying = unsaid [] }

-- behind a request that came whole
pub record Renews (M : Meaning) (S : Sided M → Type 0) (old : RequestSeen) (p : Sided M) : Type 0 where
  pub used : List ℕ
  pub left : Coming
  pub whole : CameWhole M old p used left
  pub stands : S (renewed_at p left)

-- behind a request that was replied to
pub record RenewsReplied (M : Meaning) (S : Sided M → Type 0) (p : Sided M) : Type 0 where
  pub used : List ℕ
  pub left : Coming
  pub replied : CameReplied M p used left
  pub stands : S (renewed_at p left)

-- ---- the core

-- a core with these directions, at this place, stands for a history that comes to this
pub record Stands (M : Meaning) {D : Type 0} (request : D → RequestSeen) (answer : D → AnswerSeen) (stands : D → Sided M → Type 0) (sides : D) (at : At) (past : Past) : Type 0 where
  pub sided : Sided M
  pub stand : stands sides sided
  pub holds : Holds M at (request sides) (answer sides) sided past

-- A call leads from a core that stands for a history to one that stands for it and then this event.
abbrev pub Leads : {C : Type 0} (meaning : C → Meaning) {D : Type 0} (request : D → RequestSeen) (answer : D → AnswerSeen) (stands : (cfg : C) → D → Sided (meaning cfg) → Type 0) (old : D) (old_at : At) (new : D) (new_at : At) → Event → Type 0
Leads {C} meaning request answer stands old old_at new new_at event =
    (cfg : C) (past : Past) → Stands (meaning cfg) request answer (stands cfg) old old_at past → Stands (meaning cfg) request answer (stands cfg) new new_at (after past event)

-- A part of work leads from a core that stands for a history to one that stands for it, up to the note that work will have.
abbrev pub Keeps : {C : Type 0} (meaning : C → Meaning) {D : Type 0} (request : D → RequestSeen) (answer : D → AnswerSeen) (stands : (cfg : C) → D → Sided (meaning cfg) → Type 0) (old : D) (old_at : At) (new : D) (new_at : At) → Type 0
Keeps {C} meaning request answer stands old old_at new new_at =
    (cfg : C) (past : Past) → Stands (meaning cfg) request answer (stands cfg) old old_at past → Stands (meaning cfg) request answer (stands cfg) new new_at (record past { note = new_at.cut })

-- the note of a call of work: none, or whether the answer had begun before the call that met the cut
pub record IsNote (old new : Option Bool) (begun : Bool) (note : Option Bool) : Type 0 where
  pub none : note ≡ None → new ≡ old
  pub met : (b : Bool) → note ≡ Some b → (old ≡ None) × (new ≡ Some b) × (b ≡ begun)

-- a cut was met, or was not
abbrev pub Meets : (old new : Option Bool) → (begun : Bool) → Type 0
Meets old new begun = (new ≡ old) ⊎ ((old ≡ None) × (new ≡ Some begun))

-- How the session ends behind an answer of a server, if it does: by how the answer ended, whether the request was met as cut,
-- and whether the connection may be kept.
abbrev pub Follows : Told → (cut : Option Bool) → (keep : Bool) → Option End → Type 0
Follows so cut keep None = (so ≡ told.Whole) × (cut ≡ None) × (keep ≡ true)
Follows so cut keep (Some end.Done) = ⊥
Follows so cut keep (Some end.Cut) = so ≡ told.Cut
Follows so cut keep (Some end.Closed) = (so ≢ told.Cut) × (so ≡ told.Whole → (is_none cut && keep) ≡ false)

-- directions to which nothing has happened
pub record IsFresh (M : Meaning) (q : RequestSeen) (a : AnswerSeen) (p : Sided M) : Type 0 where
  pub vars : p.vars ≡ M.begins
  pub came : p.came ≡ no_stream
  pub to_client : p.to_client ≡ []
  pub is_open : q.is_open ≡ true
  pub to_server_window : q.window ≡ []
  pub to_client_window : a.window ≡ []

-- what a core sees of its history
pub record Sees (q : RequestSeen) (at : At) (past : Past) : Type 0 where
  pub note : at.cut ≡ past.note
  pub is_open : q.is_open ≡ is_none past.client.ending
