-- Exchanges with no server open: a refusal or a reply.
use Rattle.std.proofs.Common.{◌≡◌, ℕ, List, [], ◌∷◌, Bool, true, false, Option, None, sym, ap, refl, arith}
use Rattle.std.specs.List.{AllZip}
use Rattle.http_model.specs.declared.End.TheVariants as end
use Rattle.http_model.specs.Head.{Message}
use Rattle.http_model.specs.Spelling.{Spells}
use Rattle.session_model.specs.Stream.{Stream, Server, NotThere, Open}
use Rattle.session_model.specs.Meaning.{Meaning}
use Rattle.session_model.specs.Asking.{Asks, Refused, Sends}
use Rattle.session_model.specs.Amending.{reply_sent, refusal_sent, behind_reply}
use Rattle.session_model.specs.Session.{Exchange, Over, IsReplied, after_reply}
use Rattle.session_core.specs.History.{ContinuesServer, connected}
use Rattle.session_core.specs.Sided.{Asking, asker_in, forwarded_to, Reply, replied_to, RequestAsks}
use Rattle.session_core.specs.Stands.{One}

-- what a reply puts out, with the variables behind it where the connection is kept
abbrev pub replied_exchange : (M : Meaning) → Stream → (text : List ℕ) → Option M.Vars → Exchange M.Vars
replied_exchange M rest text behind = record { connects = []; client = text; bit = None; after = after_reply M rest behind }

pub is_replied : (M : Meaning) (m : Message) (no_body keep : Bool) (rest : Stream) (method : List ℕ) (vars : M.Vars) (behind : Option M.Vars) (text : List ℕ)
    → Spells true no_body (reply_sent M m method (M.answering vars) keep) text → behind_reply M m method (M.answering vars) keep ≡ behind
    → IsReplied M m no_body keep rest method vars (replied_exchange M rest text behind)
is_replied M m no_body keep rest method vars behind text spelled is =
    record { said = text; spelled = spelled; exchange = ap (λ b. replied_exchange M rest text b) (sym is) }

-- a reply of the request's rules
pub reply_one : (M : Meaning) (vars : M.Vars) (reply : Reply M.Vars) (stream : Stream) (servers : List Server) (rest : Stream) (text : List ℕ) (behind : Option M.Vars)
    → AllZip ContinuesServer [] servers → Spells true reply.no_body (reply_sent M reply.message reply.method (M.answering reply.vars) reply.keep) text
    → behind_reply M reply.message reply.method (M.answering reply.vars) reply.keep ≡ behind → Asks M vars stream (replied_to reply rest)
    → One M vars stream servers (replied_exchange M rest text behind)
reply_one M vars reply stream [] rest text behind z spelled is asks =
    record { asked = replied_to reply rest; asks = asks; goes = λ left. (refl, is_replied M reply.message reply.no_body reply.keep rest reply.method reply.vars behind text spelled is) }
reply_one M vars reply stream (server ∷ servers) rest text behind z spelled is asks = absurd z

-- a refusal before a server is asked for
pub refused_one : (M : Meaning) (vars : M.Vars) (stream : Stream) (servers : List Server) (code : ℕ) (no_body : Bool) (method : List ℕ) (behind : M.Vars) (text : List ℕ)
    → AllZip ContinuesServer [] servers → Spells true no_body (refusal_sent M code method (M.answering behind)) text → Asks M vars stream (Refused code no_body method behind)
    → One M vars stream servers (record { connects = []; client = text; bit = None; after = Over end.Closed })
refused_one M vars stream [] code no_body method behind text z spelled asks =
    record { asked = Refused code no_body method behind; asks = asks; goes = λ left. (refl, record { said = text; spelled = spelled; exchange = refl }) }
refused_one M vars stream (server ∷ servers) code no_body method behind text z spelled asks = absurd z

-- what the client is sent where the server was refused
abbrev pub unserved_sent : (M : Meaning) → Asking M.Vars → Message
unserved_sent M asking = refusal_sent M 503 (asker_in asking).method (M.answering asking.vars)

-- a server that was refused
pub not_there : (M : Meaning) (vars : M.Vars) (asking : Asking M.Vars) (stream : Stream) (text : List ℕ) (servers : List Server)
    → AllZip ContinuesServer (connected false ∷ []) servers → RequestAsks M vars asking stream
    → Spells true (asker_in asking).head_asked (unserved_sent M asking) text
    → One M vars stream servers (record { connects = None ∷ []; client = text; bit = None; after = Over end.Closed })
not_there M vars asking stream text [] s g spelled = absurd s
not_there M vars asking stream text (NotThere ∷ []) s g spelled =
    record { asked = Sends (forwarded_to asking g.rest); asks = g.asks; goes = λ left. (refl, record { said = text; spelled = spelled; exchange = refl }) }
not_there M vars asking stream text (NotThere ∷ server ∷ servers) s g spelled = absurd s.1
not_there M vars asking stream text (Open server stopped ∷ servers) s g spelled = let other : false ≡ true = s.0.0 in absurd (grind (arith, other))
