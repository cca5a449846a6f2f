-- What a driver reads off a core: what its wants say of windows, rooms and its history, and what `begun` says of the bytes put out.
use Rattle.std.specs.Prelude.{◌≡◌, ◌≢◌, ℕ, ◌<◌, List, [], ◌∷◌, ◌++◌, Bool, true, false, not, Some, None}
use Rattle.http_model.specs.declared.Close.{Close}
use Rattle.session_model.specs.Stream.{Stream}
use Rattle.session_model.specs.Meaning.{Meaning}
use Rattle.session_model.specs.Answering.{Answered, AnswersFrom, sent_interim}
use Rattle.session_model.specs.Session.{interim_text}
use Rattle.session_core.specs.History.{Past, Connect, Continues, IsPrefix, close_by}
use Rattle.session_core.specs.Sided.{Sided, RequestSeen, AnswerSeen, Asking, asker_in, RequestAsks, Interims, IsTurned, finished_blocks}
use Rattle.session_core.specs.Awaits.{awaits_continue}
use Rattle.session_core.specs.InHand.{InHand, ServesInHand, RefusesInHand, RepliesInHand}
use Rattle.session_core.specs.Waits.{is_empty}
use Rattle.session_core.specs.declared.machine.At.{At}
use Rattle.session_core.specs.declared.machine.Wants.{Wants}

-- What wants say of windows and rooms, and of whether a server is open.
pub record WantsMean (q : RequestSeen) (a : AnswerSeen) (served : Bool) (w : Wants) : Type 0 where
  pub client_read : w.client_read ≡ true → (q.is_open ≡ true) × (0 < q.room)
  pub client_write : w.client_write ≡ true → a.window ≢ []
  pub nothing_to_write : w.client_write ≡ false → a.window ≡ []
  pub server_read : w.server_read ≡ true → (a.is_open ≡ true) × (0 < a.room)
  pub server_write : w.server_write ≡ true → q.window ≢ []
  pub idle : served ≡ false → (w.server_read ≡ false) × (w.server_write ≡ false) × (w.server_close ≡ None)
  pub serving : served ≡ true → (w.server_open ≡ false) × (w.over ≡ None)

-- where the session is over, nothing else is wanted
pub record IsAlone (w : Wants) : Type 0 where
  pub client_read : w.client_read ≡ false
  pub client_write : w.client_write ≡ false
  pub client_waits : w.client_waits ≡ false
  pub server_open : w.server_open ≡ false
  pub server_read : w.server_read ≡ false
  pub server_write : w.server_write ≡ false
  pub server_close : w.server_close ≡ None

-- What wants say of the history: no read of a stream that has ended, no write to a server that stopped, and a server's link is
-- closed as the note says.
pub record WantsSay (w : Wants) (past : Past) : Type 0 where
  pub client_read : w.client_read ≡ true → past.client.ending ≡ None
  pub server_read : (before : List Connect) (c : Connect) → past.connects ≡ before ++ c ∷ [] → w.server_read ≡ true → c.stream.ending ≡ None
  pub server_write : (before : List Connect) (c : Connect) → past.connects ≡ before ++ c ∷ [] → w.server_write ≡ true → c.stopped ≡ false
  pub server_close : (how : Close) → w.server_close ≡ Some how → how ≡ close_by past.note

-- this stream of the server brings an answer of which a byte of the last was put out
pub record HasBegun (M : Meaning) (asking : Asking M.Vars) (put : List ℕ) (stream : Stream) : Type 0 where
  pub answered : Answered M.Vars
  pub answers : AnswersFrom M (asker_in asking) asking.vars stream answered
  pub byte : ℕ
  pub more : List ℕ
  pub begun : put ≡ interim_text answered.interim ++ byte ∷ more

-- What `begun` says while a server's answer goes out, and behind the close of its link. The exchange in hand has one connect, and its
-- request asks for a server for this head. Of the bytes put out those behind the exchanges that are done hold a byte of the last that
-- answers where `begun` says so, and are a front of interim heads alone where it does not.
pub record BegunSays (M : Meaning) (past : Past) (window : List ℕ) (begun : Bool) : Type 0 where
  pub in_hand : InHand M past
  pub connect : Connect
  pub now : in_hand.now ≡ connect ∷ []
  pub there : connect.there ≡ true
  pub asking : Asking M.Vars
  pub asks : (stream : Stream) → Continues in_hand.came stream → RequestAsks M in_hand.vars asking stream
  pub put : List ℕ
  pub text : past.taken ++ window ≡ in_hand.done.client ++ put
  pub has_begun : begun ≡ true → (stream : Stream) → Continues connect.stream stream → HasBegun M asking put stream
  pub before : begun ≡ false → Interims M (asker_in asking) connect.stream put

-- While a refusal goes out with no server open: the exchange in hand, and whether a byte of the refusal was put out.
pub record RefusalBegun (M : Meaning) (stands : Sided M → Type 0) (a : AnswerSeen) (at : At) (past : Past) : Type 0 where
  pub hand : RefusesInHand M stands a at past
  pub begun : a.begun ≡ not (is_empty hand.sided.to_client)

-- the same of a reply
pub record ReplyBegun (M : Meaning) (stands : Sided M → Type 0) (kept : Bool) (a : AnswerSeen) (at : At) (past : Past) : Type 0 where
  pub hand : RepliesInHand M stands kept a at past
  pub begun : a.begun ≡ not (is_empty hand.sided.to_client)

-- whether a byte behind this text was put out
abbrev pub IsBegunBehind : (begun : Bool) → (front put : List ℕ) → Type 0
IsBegunBehind true front put = (byte : ℕ) × (more : List ℕ) × (put ≡ front ++ byte ∷ more)
IsBegunBehind false front put = IsPrefix put front

-- While a refusal goes out in place of a server's answer, and behind the close of its link: the exchange in hand, and whether a byte of the
-- refusal was put out, behind the interim heads in front of it.
pub record TurnedBegun (M : Meaning) (stands : Sided M → Type 0) (q : RequestSeen) (a : AnswerSeen) (at : At) (past : Past) : Type 0 where
  pub hand : ServesInHand M stands q a at past
  pub code : ℕ
  pub turned : IsTurned M a hand.sided code
  pub begun : IsBegunBehind a.begun (interim_text (sent_interim (asker_in hand.sided.asking) turned.heads)) hand.sided.to_client

-- While a server is to be opened: however the client's stream goes on, the exchange in hand asks for a server for this head, and
-- has no connect yet; the head's finished list is the one in the array; and the client waits where the head says so.
pub record IsAskedFor (M : Meaning) (q : RequestSeen) (past : Past) : Type 0 where
  pub in_hand : InHand M past
  pub no_connect : in_hand.now ≡ []
  pub asking : Asking M.Vars
  pub asks : (stream : Stream) → Continues in_hand.came stream → RequestAsks M in_hand.vars asking stream
  pub held : q.list ≡ finished_blocks M asking
  pub waits : q.awaits ≡ awaits_continue asking.received
