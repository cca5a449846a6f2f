-- The exchange in hand of a core that stands for its history.
use Rattle.std.specs.Prelude.{◌≡◌, ℕ, ◌+◌, List, [], ◌∷◌, ◌++◌, Bool, true, length, map, min}
use Rattle.std.specs.List.{AllZip}
use Rattle.http_model.specs.declared.End.{End}
use Rattle.session_model.specs.Stream.{Stream, Server}
use Rattle.session_model.specs.Meaning.{Meaning}
use Rattle.session_model.specs.Session.{Exchange, Follow}
use Rattle.session_core.specs.History.{Past, Coming, Connect, Continues, ContinuesServer, prepended, sent_of}
use Rattle.session_core.specs.Sided.{Sided, RequestSeen, AnswerSeen, RequestsAsk}
use Rattle.session_core.specs.Stands.{Done, IsBehind, Serves, Refusing, IsReplying, InPhase, most}
use Rattle.session_core.specs.declared.Phase.{Phase}
use Rattle.session_core.specs.declared.Phase.TheVariants as phase
use Rattle.session_core.specs.declared.machine.At.{At}

-- The exchange in hand, behind those that are done: however the streams go on, what follows there follows the exchanges that are
-- done.
pub record InHand (M : Meaning) (past : Past) : Type 0 where
  -- the variables in front of it
  pub vars : M.Vars
  -- the client's bytes that the exchanges in front of it used, and the client's stream from there on
  pub used : List ℕ
  pub came : Coming
  pub client : past.client ≡ prepended used came
  -- the connects of the exchanges in front of it, and its own
  pub before : List Connect
  pub now : List Connect
  pub connects : past.connects ≡ before ++ now
  -- what the exchanges in front of it have put out
  pub done : Done
  pub sent : done.connects ≡ map sent_of before
  pub behind : IsBehind M vars used came before done

-- ---- by the phase

-- In front of a head: the directions stand for a past of the exchange in hand, which has no connect and has put out nothing.
pub record ReadsInHand (M : Meaning) (stands : Sided M → Type 0) (a : AnswerSeen) (at : At) (past : Past) : Type 0 where
  pub sided : Sided M
  pub stand : stands sided
  pub in_hand : InHand M past
  pub vars : in_hand.vars ≡ sided.vars
  pub came : in_hand.came ≡ sided.came
  pub no_connect : in_hand.now ≡ []
  pub nothing : sided.to_client ≡ []
  pub to_client : past.taken ++ a.window ≡ in_hand.done.client ++ sided.to_client
  pub count : at.exchanges ≡ min in_hand.done.count most

-- While a server is open, and behind the close of its link: the directions stand for a past of the exchange in hand, whose one connect this
-- is, with all that both have made of it.
pub record ServesInHand (M : Meaning) (stands : Sided M → Type 0) (q : RequestSeen) (a : AnswerSeen) (at : At) (past : Past) : Type 0 where
  pub sided : Sided M
  pub stand : stands sided
  pub in_hand : InHand M past
  pub vars : in_hand.vars ≡ sided.vars
  pub came : in_hand.came ≡ sided.came
  pub connect : Connect
  pub now : in_hand.now ≡ connect ∷ []
  pub there : connect.there ≡ true
  pub stopped : connect.stopped ≡ q.dropped
  pub stream : connect.stream ≡ sided.server
  pub to_server : connect.taken ++ q.window ≡ sided.to_server
  pub to_client : past.taken ++ a.window ≡ in_hand.done.client ++ sided.to_client
  pub asks : RequestsAsk M sided
  pub serves : Serves M q a sided at.cut
  pub count : at.exchanges ≡ min (in_hand.done.count + 1) most

-- while a refusal goes out with no server open
pub record RefusesInHand (M : Meaning) (stands : Sided M → Type 0) (a : AnswerSeen) (at : At) (past : Past) : Type 0 where
  pub sided : Sided M
  pub stand : stands sided
  pub in_hand : InHand M past
  pub vars : in_hand.vars ≡ sided.vars
  pub came : in_hand.came ≡ sided.came
  pub to_client : past.taken ++ a.window ≡ in_hand.done.client ++ sided.to_client
  pub refuses : Refusing M a.answered sided.vars sided.came sided.to_client sided.saying in_hand.now
  pub count : at.exchanges ≡ min (in_hand.done.count + 1) most

-- while a reply of the request's rules goes out, and whether the connection is kept behind it
pub record RepliesInHand (M : Meaning) (stands : Sided M → Type 0) (kept : Bool) (a : AnswerSeen) (at : At) (past : Past) : Type 0 where
  pub sided : Sided M
  pub stand : stands sided
  pub in_hand : InHand M past
  pub vars : in_hand.vars ≡ sided.vars
  pub came : in_hand.came ≡ sided.came
  pub no_connect : in_hand.now ≡ []
  pub to_client : past.taken ++ a.window ≡ in_hand.done.client ++ sided.to_client
  pub replies : IsReplying M a sided kept
  pub count : at.exchanges ≡ min (in_hand.done.count + 1) most

-- ---- the count

-- so many exchanges follow, and then the session ends so
pub record EndsBehind (M : Meaning) (vars : M.Vars) (hand : ℕ) (how : End) (stream : Stream) (servers : List Server) : Type 0 where
  pub exchanges : List (Exchange M.Vars)
  pub follow : Follow M exchanges vars stream servers how
  pub count : length exchanges ≡ hand

-- How many exchanges are begun behind those that are done, by the phase: none in front of a head, one until the session is over,
-- and then those that follow, however the open streams go on.
abbrev pub Begun : (M : Meaning) → (vars : M.Vars) → (came : Coming) → (now : List Connect) → (hand : ℕ) → Phase → Type 0
Begun M vars came now hand phase.Reading = hand ≡ 0
Begun M vars came now hand phase.Opening = hand ≡ 1
Begun M vars came now hand phase.Unserved = hand ≡ 1
Begun M vars came now hand phase.Serving = hand ≡ 1
Begun M vars came now hand phase.Served = hand ≡ 1
Begun M vars came now hand phase.Refusing = hand ≡ 1
Begun M vars came now hand (phase.Replying kept) = hand ≡ 1
Begun M vars came now hand (phase.Over how) =
    (stream : Stream) (servers : List Server) → Continues came stream → AllZip ContinuesServer now servers → EndsBehind M vars hand how stream servers

-- The count of exchanges: those that are done, and those begun behind them, of which the directions have made this. It stands in
-- every phase.
pub record ExchangesAre (M : Meaning) (stands : Sided M → Type 0) (q : RequestSeen) (a : AnswerSeen) (at : At) (past : Past) : Type 0 where
  pub sided : Sided M
  pub stand : stands sided
  pub in_hand : InHand M past
  pub vars : in_hand.vars ≡ sided.vars
  pub came : in_hand.came ≡ sided.came
  pub to_client : past.taken ++ a.window ≡ in_hand.done.client ++ sided.to_client
  pub hand : ℕ
  pub made : InPhase M q a sided hand at.cut in_hand.now at.phase
  pub begun : Begun M in_hand.vars in_hand.came in_hand.now hand at.phase
  pub count : at.exchanges ≡ min (in_hand.done.count + hand) most
