-- A session: exchanges in turn on one client connection, each with at most one server.
use Rattle.std.specs.Prelude.{◌≡◌, ℕ, List, [], ◌∷◌, ◌++◌, Bool, true, false, not, ◌&&◌, if◌then◌else◌, length, min, Option, Some, None}
use Rattle.std.specs.List.{flat_map}
use Rattle.http_model.specs.declared.Close.{Close}
use Rattle.http_model.specs.declared.Close.TheVariants.{Clean, Failed}
use Rattle.http_model.specs.declared.End.{End}
use Rattle.http_model.specs.declared.End.TheVariants as end
use Rattle.http_model.specs.Sizes.{most_count}
use Rattle.http_model.specs.Head.{Head, Message}
use Rattle.http_model.specs.Reading.{BodyReading}
use Rattle.http_model.specs.Refusal.{refusal, closing}
use Rattle.http_model.specs.Spelling.{Spells, head_text}
use Rattle.session_model.specs.Stream.{Stream, Server, NotThere, Open, Sent, Takes}
use Rattle.session_model.specs.Env.{method_of}
use Rattle.session_model.specs.Meaning.{Meaning, is_head_request}
use Rattle.session_model.specs.Asking.{Asker, Forwarded, Request, request_by, Asked, Nothing, Refused, Replied, Sends, Asks}
use Rattle.session_model.specs.Amending.{plain_refusal, reply_sent, refusal_sent, behind_reply}
use Rattle.session_model.specs.Answering.{Final, Refuses, Replies, Answers, Plain, Answered, AnswersFrom, BeginsWithInterim, sent_interim}

-- how the session goes on behind an exchange
pub data After (Vars : Type 0) : Type 0 where
  Over : (how : End) → After Vars
  Next : (rest : Stream) → (vars : Vars) → After Vars

-- What one exchange puts out: the text of each server that was connected, the client's text, and how it goes on. The bit
-- says whether the request was cut with its server open, and then whether the answer had begun.
pub record Exchange (Vars : Type 0) : Type 0 where
  pub connects : List (Option Sent)
  pub client : List ℕ
  pub bit : Option Bool
  pub after : After Vars

-- the client's text of the refusal of a cut request, on which no rule runs
abbrev pub SpellsRefusal : (code : ℕ) → (no_body : Bool) → (text : List ℕ) → Type 0
SpellsRefusal code no_body text = Spells true no_body (closing (refusal code)) text

-- how the session goes on behind a reply, with the rest of the client's stream
abbrev pub after_reply : (M : Meaning) → (rest : Stream) → Option M.Vars → After M.Vars
after_reply M rest (Some vars) = Next rest (M.renewed vars)
after_reply M rest None = Over end.Closed

-- the client's text of interim heads, each whole
abbrev pub interim_text : List Head → List ℕ
interim_text heads = flat_map head_text heads

-- the client's text of the last that answers
abbrev pub SpellsFinal : (M : Meaning) → Asker → Final M.Vars → (text : List ℕ) → Type 0
SpellsFinal M asker (Refuses code method vars) text = Spells true asker.head_asked (refusal_sent M code method vars) text
SpellsFinal M asker (Replies m method vars) text = Spells true asker.head_asked (reply_sent M m method vars asker.keep) text
SpellsFinal M asker (Answers m cut vars) text = Spells (not cut) asker.head_asked m text
SpellsFinal M asker Plain text = Spells true asker.head_asked plain_refusal text

-- Behind the last that answers: a cut answer ends the session so; a refusal, a plain one, a request that was cut, and a
-- connection that isn't kept close it; else the next exchange begins on what is left.
abbrev pub after_final : (M : Meaning) → Request M.Vars → (whole : Bool) → Answered M.Vars → After M.Vars
after_final M request whole a = by_final a.final
  where
    kept : Bool
    kept = whole && request.asker.keep

    by_final : Final M.Vars → After M.Vars
    by_final (Refuses code method vars) = Over end.Closed
    by_final (Replies m method vars) = after_reply M request.rest (behind_reply M m method vars kept)
    by_final (Answers m true vars) = Over end.Cut
    by_final (Answers m false vars) = after_reply M request.rest (if kept then Some vars else None)
    by_final Plain = Over end.Closed

-- the one server of an exchange got the request's text, or a front of it where it stopped
pub record ServerGets (request : Message) (whole stopped : Bool) (close : Close) (connects : List (Option Sent)) : Type 0 where
  pub text : List ℕ
  pub taken : List ℕ
  pub spelled : Spells whole false request text
  pub takes : Takes stopped text taken
  pub connected : connects ≡ Some (record { bytes = taken; close = close }) ∷ []

-- the client got the interim heads and then the last that answers
pub record ClientGets (M : Meaning) (request : Request M.Vars) (whole : Bool) (server : Stream) (client : List ℕ) (after : After M.Vars) : Type 0 where
  pub answered : Answered M.Vars
  pub answers : AnswersFrom M request.asker request.vars server answered
  pub final : List ℕ
  pub spelled : SpellsFinal M request.asker answered.final final
  pub text : client ≡ interim_text answered.interim ++ final
  pub goes_on : after ≡ after_final M request whole answered

-- the request was cut before the answer had begun: the client got a front of the interim heads and then the refusal
pub record ClientIsRefused (M : Meaning) (request : Request M.Vars) (code : ℕ) (server : Stream) (client : List ℕ) (after : After M.Vars) : Type 0 where
  pub heads : List Head
  pub front : BeginsWithInterim M request.asker heads server.bytes (λ rest. Unit {0})
  pub refused : List ℕ
  pub spelled : SpellsRefusal code request.asker.head_asked refused
  pub text : client ≡ interim_text (sent_interim request.asker heads) ++ refused
  pub goes_on : after ≡ Over end.Closed

-- one exchange with an open server, by the cut of its request and the bit
abbrev pub Serves : (M : Meaning) → Request M.Vars → Stream → (stopped : Bool) → Exchange M.Vars → Type 0
Serves M request server stopped e = by_cut request.cut e.bit
  where
    by_cut : Option ℕ → Option Bool → Type 0
    by_cut None None =
        ServerGets request.message true stopped Clean e.connects × ClientGets M request true server e.client e.after
    by_cut None (Some begun) = ⊥
    by_cut (Some code) None = ⊥
    by_cut (Some code) (Some true) =
        ServerGets request.message false stopped Failed e.connects × ClientGets M request false server e.client e.after
    by_cut (Some code) (Some false) =
        ServerGets request.message false stopped Failed e.connects × ClientIsRefused M request code server e.client e.after

-- what is put out where no server is open: this message, and it goes on so
pub record IsSaid {Vars : Type 0} (m : Message) (no_body : Bool) (connects : List (Option Sent)) (after : After Vars) (e : Exchange Vars) : Type 0 where
  pub said : List ℕ
  pub spelled : Spells true no_body m said
  pub exchange : e ≡ record { connects = connects; client = said; bit = None; after = after }

-- a refusal with this code where no server is open
abbrev pub IsRefused : (M : Meaning) → (code : ℕ) → (no_body : Bool) → (method : List ℕ) → M.Vars → (connects : List (Option Sent)) → Exchange M.Vars → Type 0
IsRefused M code no_body method vars connects e =
    IsSaid (refusal_sent M code method (M.answering vars)) no_body connects (Over end.Closed) e

-- a reply where no server is open
abbrev pub IsReplied : (M : Meaning) → Message → (no_body keep : Bool) → (rest : Stream) → (method : List ℕ) → M.Vars → Exchange M.Vars → Type 0
IsReplied M m no_body keep rest method vars e =
    IsSaid (reply_sent M m method (M.answering vars) keep) no_body []
    (after_reply M rest (behind_reply M m method (M.answering vars) keep)) e

-- what goes to a server that is open: the body is read to its end, and the exchange serves the request that it makes
abbrev pub ServesOpen : (M : Meaning) → Forwarded M.Vars → Stream → (stopped : Bool) → Exchange M.Vars → Type 0
ServesOpen M f server stopped e =
    (body : BodyReading) × M.reads_body f.received.framing f.rest.bytes f.rest.ending body
    × Serves M (request_by M f.received f.head f.vars f.rest.ending body) server stopped e

-- one exchange, of what was asked and of the servers that are connected next
abbrev pub Goes : (M : Meaning) → Asked M.Vars → (servers left : List Server) → Exchange M.Vars → Type 0
Goes M Nothing servers left e = ⊥
Goes M (Refused code no_body method vars) servers left e = (left ≡ servers) × IsRefused M code no_body method vars [] e
Goes M (Replied m no_body keep rest method vars) servers left e =
    (left ≡ servers) × IsReplied M m no_body keep rest method vars e
Goes M (Sends f) [] left e = ⊥
Goes M (Sends f) (NotThere ∷ servers) left e =
    (left ≡ servers)
    × IsRefused M 503 (is_head_request f.received.head) (method_of f.head.line) f.vars (None ∷ []) e
Goes M (Sends f) (Open server stopped ∷ servers) left e = (left ≡ servers) × ServesOpen M f server stopped e

-- ---- a session

-- behind an exchange: nothing more where the session is over, and else what is said of the rest
abbrev pub GoesOn : {Vars : Type 0} → After Vars → List (Exchange Vars) → (left : List Server) → End → (Stream → Vars → Type 0) → Type 0
GoesOn (Over over) es left how on = (es ≡ []) × (left ≡ []) × (how ≡ over)
GoesOn (Next rest vars) es left how on = on rest vars

-- the exchanges follow one another on the client's stream, each but the last goes on, and they end so
abbrev pub Follow : (M : Meaning) → List (Exchange M.Vars) → M.Vars → Stream → List Server → End → Type 0
Follow M [] vars client servers how = Asks M vars client Nothing × (servers ≡ []) × (how ≡ end.Done)
Follow M (e ∷ es) vars client servers how =
    (asked : Asked M.Vars) × (left : List Server)
    × Asks M vars client asked × Goes M asked servers left e
    × GoesOn e.after es left how (λ rest next. Follow M es next rest left how)

-- what a session comes to. The number of exchanges stays at its type's last value
pub record Out : Type 0 where
  pub exchanges : ℕ
  pub how : End
  pub cut : Option Bool
  pub client : Sent
  pub servers : List (Option Sent)

-- the bit of the one request that was cut
abbrev pub first_bit : {Vars : Type 0} → List (Exchange Vars) → Option Bool
first_bit [] = None
first_bit (e ∷ es) = either_bit e.bit (first_bit es)
  where
    either_bit : Option Bool → Option Bool → Option Bool
    either_bit (Some begun) later = Some begun
    either_bit None later = later

-- the client's link is closed so
abbrev pub close_of : End → Close
close_of end.Done = Clean
close_of end.Closed = Clean
close_of end.Cut = Failed

abbrev pub out_of : {Vars : Type 0} → List (Exchange Vars) → End → Out
out_of es how =
    record {
      exchanges = min (length es) most_count;
      how = how;
      cut = first_bit es;
      client = record { bytes = flat_map (λ e. e.client) es; close = close_of how };
      servers = flat_map (λ e. e.connects) es;
    }

-- a session over these streams may put this out
pub record Session (M : Meaning) (client : Stream) (servers : List Server) (out : Out) : Type 0 where
  pub exchanges : List (Exchange M.Vars)
  pub follow : Follow M exchanges M.begins client servers out.how
  pub comes_to : out ≡ out_of exchanges out.how
