-- Behind a refused server a session has no further one.
use Rattle.std.proofs.Common.{◌≡◌, ℕ, List, [], ◌∷◌, ◌++◌, ◌⊎◌, inl, inr, Bool, true, false, Option, Some, None, sym, ap, subst, refl}
use Rattle.std.specs.List.{flat_map}
use Rattle.http_model.specs.Head.{Message}
use Rattle.http_model.specs.declared.Close.{Close}
use Rattle.http_model.specs.declared.Close.TheVariants.{Clean, Failed}
use Rattle.http_model.specs.declared.End.{End}
use Rattle.session_model.specs.Meaning.{Meaning}
use Rattle.session_model.specs.Asking.{Asked, Request, request_by, Nothing, Refused, Replied, Sends}
use Rattle.session_model.specs.Stream.{Stream, Server, NotThere, Open, Sent}
use Rattle.session_model.specs.Session.{After, Over, Next, Exchange, ServerGets, ClientGets, ClientIsRefused, Serves, Goes, GoesOn, Follow, Session, Out}

-- only the last may be refused
abbrev pub OnlyLast : List (Option Sent) → Type 0
OnlyLast [] = Unit {0}
OnlyLast (None ∷ others) = others ≡ []
OnlyLast (Some sent ∷ others) = OnlyLast others

-- an exchange connects to no server, to one, or to a refused one, behind which the session is over
abbrev Connects : {Vars : Type 0} → Exchange Vars → Type 0
Connects e = (e.connects ≡ []) ⊎ (((sent : Sent) × (e.connects ≡ Some sent ∷ [])) ⊎ ((e.connects ≡ None ∷ []) × (how : End) × (e.after ≡ Over how)))

got : {Vars : Type 0} (m : Message) (whole stopped : Bool) (close : Close) (e : Exchange Vars) → ServerGets m whole stopped close e.connects → Connects e
got m whole stopped close e g = inr (inl (record { bytes = g.taken; close = close }, g.connected))

served : (M : Meaning) (request : Request M.Vars) (server : Stream) (stopped : Bool) (e : Exchange M.Vars) (cut : Option ℕ) (bit : Option Bool) → request.cut ≡ cut → e.bit ≡ bit → Serves M request server stopped e → Connects e
served M request server stopped e None None c b h =
    let k : ServerGets request.message true stopped Clean e.connects × ClientGets M (record request { cut = None }) true server e.client e.after = rw (c, b) at h in got request.message true stopped Clean e k.0
served M request server stopped e None (Some begun) c b h = let k : ⊥ = rw (c, b) at h in absurd k
served M request server stopped e (Some code) None c b h = let k : ⊥ = rw (c, b) at h in absurd k
served M request server stopped e (Some code) (Some true) c b h =
    let k : ServerGets request.message false stopped Failed e.connects × ClientGets M (record request { cut = Some code }) false server e.client e.after = rw (c, b) at h in got request.message false stopped Failed e k.0
served M request server stopped e (Some code) (Some false) c b h =
    let k : ServerGets request.message false stopped Failed e.connects × ClientIsRefused M (record request { cut = Some code }) code server e.client e.after = rw (c, b) at h in got request.message false stopped Failed e k.0

connects_by : (M : Meaning) (asked : Asked M.Vars) (servers left : List Server) (e : Exchange M.Vars) → Goes M asked servers left e → Connects e
connects_by M Nothing servers left e g = absurd g
connects_by M (Refused code no_body method vars) servers left e g = inl (ap (λ (e : Exchange M.Vars). e.connects) g.1.exchange)
connects_by M (Replied m no_body keep rest method vars) servers left e g = inl (ap (λ (e : Exchange M.Vars). e.connects) g.1.exchange)
connects_by M (Sends f) [] left e g = absurd g
connects_by M (Sends f) (NotThere ∷ servers) left e g =
    inr (inr (ap (λ (e : Exchange M.Vars). e.connects) g.1.exchange, _, ap (λ (e : Exchange M.Vars). e.after) g.1.exchange))
connects_by M (Sends f) (Open server stopped ∷ servers) left e g =
    let request : Request M.Vars = request_by M f.received f.head f.vars f.rest.ending g.1.0 in served M request server stopped e request.cut e.bit refl refl g.1.2

-- ---- a session

over_none : {Vars : Type 0} (after : After Vars) (how : End) (es : List (Exchange Vars)) (left : List Server) (last : End) (on : Stream → Vars → Type 0) → after ≡ Over how → GoesOn after es left last on → es ≡ []
over_none (Over other) how es left last on is h = h.0
over_none (Next rest vars) how es left last on is h = absurd (no_next is)
  where
    no_next : Next rest vars ≡ Over how → ⊥
    no_next e = cc

abbrev connects_of : {Vars : Type 0} → List (Exchange Vars) → List (Option Sent)
connects_of es = flat_map (λ e. e.connects) es

first_of : {Vars : Type 0} (e : Exchange Vars) (es : List (Exchange Vars)) → Connects e → (((how : End) × (e.after ≡ Over how)) → es ≡ []) → OnlyLast (connects_of es) → OnlyLast (connects_of (e ∷ es))
first_of e es (inl none) ends rest = let P : List (Option Sent) → Type 0 = λ l. OnlyLast (l ++ connects_of es) in subst P (sym none) rest
first_of e es (inr (inl one)) ends rest = let P : List (Option Sent) → Type 0 = λ l. OnlyLast (l ++ connects_of es) in subst P (sym one.1) rest
first_of {Vars} e es (inr (inr refused)) ends rest =
    let P : List (Option Sent) → Type 0 = λ l. OnlyLast (l ++ connects_of es) in
    subst P (sym refused.0) (ap (λ (l : List (Exchange Vars)). connects_of l) (ends (refused.1, refused.2)))

rest_follows : {Vars : Type 0} (after : After Vars) (es : List (Exchange Vars)) (left : List Server) (how : End) (on : Stream → Vars → Type 0) → ((rest : Stream) (vars : Vars) → on rest vars → OnlyLast (connects_of es))
    → GoesOn after es left how on → OnlyLast (connects_of es)
rest_follows {Vars} (Over over) es left how on ih h = let P : List (Exchange Vars) → Type 0 = λ l. OnlyLast (connects_of l) in subst P (sym h.0) tt
rest_follows (Next rest vars) es left how on ih h = ih rest vars h

follow_last : (M : Meaning) (es : List (Exchange M.Vars)) (vars : M.Vars) (client : Stream) (servers : List Server) (how : End) → Follow M es vars client servers how → OnlyLast (connects_of es)
follow_last M [] vars client servers how h = tt
follow_last M (e ∷ es) vars client servers how h =
    first_of e es (connects_by M h.0 servers h.1 e h.3) (λ over. over_none e.after over.0 es h.1 how _ over.1 h.4)
    (rest_follows e.after es h.1 how _ (λ rest next k. follow_last M es next rest h.1 how k) h.4)

-- of the servers of a session only the last may be refused
pub session_last : (M : Meaning) (client : Stream) (servers : List Server) (out : Out) → Session M client servers out → OnlyLast out.servers
session_last M client servers out s =
    let P : Out → Type 0 = λ o. OnlyLast o.servers in subst P (sym s.comes_to) (follow_last M s.exchanges M.begins client servers out.how s.follow)
