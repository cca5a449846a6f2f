-- What a history has moved is bounded by its texts.
use Rattle.std.proofs.Common.{◌≡◌, ℕ, zero, suc, ◌+◌, ◌*◌, ◌≤◌, ◌<◌, inl, inr, List, [], ◌∷◌, ◌++◌, Bool, true, false, Option, Some, None, length, map, sum_by, replicate, is_some, if◌then◌else◌, sym, ap, subst, ◌∙◌, refl, arith, length-append}
use Rattle.std.proofs.lemmas.Bool.{cases_lt}
use Rattle.std.specs.List.{flat_map, AllByRecursion}
use Rattle.std.proofs.lemmas.List.Sums.{sum_by-append, sum_by-cons}
use Rattle.session_model.specs.Stream.{Stream, Server, NotThere, Open, Sent}
use Rattle.session_model.specs.Meaning.{Meaning}
use Rattle.session_model.specs.Asking.{Asked, Nothing, Refused, Replied, Sends, Request}
use Rattle.session_model.specs.Session.{Exchange, After, Over, Next, Serves, Goes, GoesOn, Follow, Out}
use Rattle.http_model.specs.declared.End.{End}
use Rattle.session_core.specs.History.{Past, Connect, broken_server, IsPrefix, IsFrontOf, Fronts, broken}
use Rattle.px_link.specs.Link.{Seen, Manner}
use Rattle.px_link.specs.Net.{Coming, Kept, Place, NetSeen, LosesRefused}
use Rattle.session_core.specs.Consequences.{IsFront}
use Rattle.htx_drive.specs.Came.{Came}
use Rattle.htx_drive.specs.Machine.{TookFront}
use Rattle.htx_drive.specs.Driven.{moved, moved_by}
use Rattle.htx_drive.specs.Dialled.{Dial, IsDial, IsDialBy, IsServed, IsRefused, Chain, Dials}
use Rattle.session_core.specs.MeaningLaws.Bound.{IsBounded, sent_size, server_size}
use Rattle.htx_drive.specs.Budget.{coming_size, HasRequests, enough}
use Rattle.session_core.proofs.PublicLaws.{session_size}

abbrev stream_size : Connect → ℕ
stream_size c = length c.stream.bytes

abbrev taken_size : Connect → ℕ
taken_size c = length c.taken

-- ---- one connect an exchange

one_text : {Vars : Type 0} (e : Exchange Vars) (connects : List (Option Sent)) → e.connects ≡ connects → length connects ≤ 1 → length e.connects ≤ 1
one_text e connects h l = let k = ap length h in omega arith

served_one : (M : Meaning) (request : Request M.Vars) (server : Stream) (stopped : Bool) (e : Exchange M.Vars) (cut : Option ℕ) (bit : Option Bool) → request.cut ≡ cut → e.bit ≡ bit → Serves M request server stopped e → length e.connects ≤ 1
served_one M request server stopped e None None c t h = let k = rw (c, t) at h in one_text e _ k.0.connected (omega arith)
served_one M request server stopped e None (Some begun) c t h = let k : ⊥ = rw (c, t) at h in absurd k
served_one M request server stopped e (Some code) None c t h = let k : ⊥ = rw (c, t) at h in absurd k
served_one M request server stopped e (Some code) (Some true) c t h = let k = rw (c, t) at h in one_text e _ k.0.connected (omega arith)
served_one M request server stopped e (Some code) (Some false) c t h = let k = rw (c, t) at h in one_text e _ k.0.connected (omega arith)

goes_one : (M : Meaning) (asked : Asked M.Vars) (servers left : List Server) (e : Exchange M.Vars) → Goes M asked servers left e → length e.connects ≤ 1
goes_one M Nothing servers left e h = absurd h
goes_one M (Refused code no_body method vars) servers left e h = one_text e _ (ap (λ (x : Exchange _). x.connects) h.1.exchange) (omega arith)
goes_one M (Replied m no_body keep rest method vars) servers left e h = one_text e _ (ap (λ (x : Exchange _). x.connects) h.1.exchange) (omega arith)
goes_one M (Sends f) [] left e h = absurd h
goes_one M (Sends f) (NotThere ∷ servers) left e h = one_text e _ (ap (λ (x : Exchange _). x.connects) h.1.exchange) (omega arith)
goes_one M (Sends f) (Open server stopped ∷ servers) left e h = served_one M _ server stopped e _ _ refl refl h.1.2

over_few : {Vars : Type 0} (after : After Vars) (es : List (Exchange Vars)) (left : List Server) (how : End) (on : Stream → Vars → Type 0) (P : List (Exchange Vars) → Type 0)
    → P [] → ((rest : Stream) (vars : Vars) → on rest vars → P es) → GoesOn after es left how on → P es
over_few (Over over) es left how on P none ih h = subst P (sym h.0) none
over_few (Next rest vars) es left how on P none ih h = ih rest vars h

follow_few : (M : Meaning) (es : List (Exchange M.Vars)) (vars : M.Vars) (client : Stream) (servers : List Server) (how : End) → Follow M es vars client servers how → length (flat_map (λ (e : Exchange M.Vars). e.connects) es) ≤ length es
follow_few M [] vars client servers how h = omega arith
follow_few M (e ∷ es) vars client servers how h =
    let a = goes_one M h.0 servers h.1 e h.3 in
    let P : List (Exchange M.Vars) → Type 0 = λ l. length (flat_map (λ (e : Exchange M.Vars). e.connects) l) ≤ length l in
    let b : length (flat_map (λ (e : Exchange M.Vars). e.connects) es) ≤ length es = over_few e.after es h.1 how _ P (omega arith) (λ rest next k. follow_few M es next rest h.1 how k) h.4 in
    let c : length (flat_map (λ (e : Exchange M.Vars). e.connects) (e ∷ es)) ≡ length (e.connects ++ flat_map (λ (e : Exchange M.Vars). e.connects) es) = refl in
    omega (arith, length-append e.connects (flat_map (λ (e : Exchange M.Vars). e.connects) es))

-- ---- fronts

prefix_within : (xs ys : List ℕ) → IsPrefix xs ys → length xs ≤ length ys
prefix_within xs ys h = omega (arith, ap length h.1, length-append xs h.0)

front_within : (taken : List ℕ) (s : Option Sent) → IsFrontOf taken s → length taken ≤ sent_size s
front_within taken None h = omega (arith, ap length h)
front_within taken (Some sent) h = prefix_within taken sent.bytes h

fronts_within : (cs : List Connect) (sent : List (Option Sent)) → Fronts cs [] sent → (sum_by taken_size cs ≤ sum_by sent_size sent) × (length cs ≤ length sent)
fronts_within [] sent h = (omega arith, omega arith)
fronts_within (c ∷ cs) [] h = absurd h
fronts_within (c ∷ []) (s ∷ ss) h =
    let a = front_within (c.taken ++ []) s h in
    let none : List ℕ = [] in
    let no_more : List Connect = [] in
    (omega (arith, length-append c.taken none, sum_by-cons taken_size c no_more, sum_by-cons sent_size s ss), omega arith)
fronts_within (c ∷ d ∷ cs) (s ∷ ss) h =
    let a = front_within c.taken s h.0 in
    let b = fronts_within (d ∷ cs) ss h.1 in
    let x = b.0 in
    let y = b.1 in
    (omega (arith, sum_by-cons taken_size c (d ∷ cs), sum_by-cons sent_size s ss), omega arith)

broken_size : (c : Connect) (there : Bool) → c.there ≡ there → server_size (broken_server c) ≤ stream_size c
broken_size c true e = rw e (omega arith)
broken_size c false e = rw e (omega arith)

brokens_size : (cs : List Connect) → sum_by server_size (map broken_server cs) ≤ sum_by stream_size cs
brokens_size [] = omega arith
brokens_size (c ∷ cs) =
    let a = broken_size c c.there refl in
    let b = brokens_size cs in
    omega (arith, sum_by-cons server_size (broken_server c) (map broken_server cs), sum_by-cons stream_size c cs)

nowhere_size : (n : ℕ) → sum_by server_size (replicate n NotThere) ≡ 0
nowhere_size zero = refl
nowhere_size (suc n) = let a = nowhere_size n in omega (arith, sum_by-cons server_size NotThere (replicate n NotThere))

-- ---- what moved

at_most_one : (b : Bool) → (if b then 1 else 0) ≤ 1
at_most_one true = omega arith
at_most_one false = omega arith

moved_of : (c : Connect) → moved_by c ≤ 4 + stream_size c + taken_size c
moved_of c =
    let a = at_most_one (is_some c.stream.ending) in
    let b = at_most_one c.stopped in
    let d = at_most_one (is_some c.closed) in
    omega arith

moved_all : (cs : List Connect) → sum_by moved_by cs ≤ 4 * length cs + sum_by stream_size cs + sum_by taken_size cs
moved_all [] = omega arith
moved_all (c ∷ cs) =
    let a = moved_of c in
    let b = moved_all cs in
    omega (arith, sum_by-cons moved_by c cs, sum_by-cons stream_size c cs, sum_by-cons taken_size c cs)

-- ---- what came

pub dial_size : (manner : Manner) (plain : Type 0) (d : Dial) (there : Bool) → d.connect.there ≡ there → IsDialBy d.connect.there manner plain d → stream_size d.connect + sum_by coming_size d.left ≤ sum_by coming_size d.answers
dial_size manner plain d true e h =
    let P : Bool → Type 0 = λ b. IsDialBy b manner plain d in
    let k : IsServed manner d = subst P e h in
    let o = k.so.came.bytes k.coming.bytes refl in
    let a = ap (λ l. sum_by coming_size l) k.first in
    omega (arith, ap length o.bytes, length-append d.connect.stream.bytes o.rest, sum_by-cons coming_size (Some k.coming) d.left)
dial_size manner plain d false e h =
    let P : Bool → Type 0 = λ b. IsDialBy b manner plain d in
    let k : IsRefused plain d = subst P e h in
    let z : stream_size d.connect ≡ 0 = ap stream_size k.so in
    let a = lost_size d.answers (Some d.left) d.left refl k.loses in
    omega arith
  where
    keeps : (l left : List (Option Coming)) → Some left ≡ Some l → sum_by coming_size left ≤ sum_by coming_size l
    keeps l left e = let f : left ≡ l = cc in omega (arith, ap (λ l. sum_by coming_size l) f)

    lost_size : (l : List (Option Coming)) (o : Option (List (Option Coming))) (left : List (Option Coming)) → o ≡ Some left → LosesRefused (Some l) o → sum_by coming_size left ≤ sum_by coming_size l
    lost_size [] o left e h = keeps [] left (sym e ∙ h)
    lost_size (None ∷ xs) o left e (inl h) = let k = keeps xs left (sym e ∙ h) in omega (arith, sum_by-cons coming_size None xs)
    lost_size (None ∷ xs) o left e (inr h) = keeps (None ∷ xs) left (sym e ∙ h)
    lost_size (Some x ∷ xs) o left e h = keeps (Some x ∷ xs) left (sym e ∙ h)

dials_size : (manner : Manner) (plain : Type 0) (answers : List (Option Coming)) (ds : List Dial) (left : List (Option Coming)) → Chain answers ds left → AllByRecursion (IsDial manner plain) ds → sum_by stream_size (map (λ (d : Dial). d.connect) ds) ≤ sum_by coming_size answers
dials_size manner plain answers [] left h all = omega arith
dials_size manner plain answers (d ∷ ds) left h all =
    let a = dial_size manner plain d d.connect.there refl all.0 in
    let b = dials_size manner plain d.left ds left h.1 all.1 in
    let e = ap (λ l. sum_by coming_size l) h.0 in
    omega (arith, sum_by-cons stream_size d.connect (map (λ (d : Dial). d.connect) ds))

told_size : (first now : NetSeen) (manner : Manner) (plain : Type 0) (answers : List (Option Coming)) (ds : List Dial) (left : List (Option Coming)) (cs : List Connect) → map (λ (d : Dial). d.connect) ds ≡ cs → Chain answers ds left → AllByRecursion (IsDial manner plain) ds → sum_by stream_size cs ≤ sum_by coming_size answers
told_size first now manner plain answers ds left cs e h all = let a = dials_size manner plain answers ds left h all in omega (arith, ap (λ l. sum_by stream_size l) e)

-- ---- all together

all_turns : (budget c s e k taken sent n : ℕ) (m size xs ys : ℕ)
    → budget ≤ c + 1 + taken + (4 * k + s + sent) → taken + sent ≤ 1536 * (c + s) + 3 * (size * e) → k ≤ e → e ≤ m + 1 → 1 ≤ size → c ≤ xs → s ≤ ys
    → 2048 * (xs + ys + (m + 1) * size) ≤ budget → ⊥
all_turns budget c s e k taken sent n m size xs ys h texts few most one cx sy b =
    let a : size * e ≤ (m + 1) * size = mul_within size e (m + 1) most in
    let d : m + 1 ≤ (m + 1) * size = mul_some (m + 1) size one in
    omega arith
  where
    mul_within : (size e f : ℕ) → e ≤ f → size * e ≤ f * size
    mul_within size e f h = grind arith

    mul_some : (f size : ℕ) → 1 ≤ size → f ≤ f * size
    mul_some f size h = grind arith

never_spent : (M : Meaning) (past : Past) (budget m : ℕ) (xs rest : List ℕ) (ys : ℕ) → IsBounded M → 1 ≤ M.limits.bufsize → HasRequests M xs m → xs ≡ past.client.bytes ++ rest → sum_by stream_size past.connects ≤ ys
    → enough (length xs) ys m M.limits.bufsize ≤ budget → budget ≤ moved past → (begun : Bool) → IsFront M past [] [] begun → ⊥
never_spent M past budget m xs rest ys b one requests came coming large spent begun f =
    let texts = session_size M (broken past.client) _ f.out b f.session in
    let fronts = fronts_within past.connects f.out.servers f.servers in
    let sent = fronts.0 in
    let few = fronts.1 in
    let none : List ℕ = [] in
    let client = prefix_within (past.taken ++ none) f.out.client.bytes f.client in
    let no_window = length-append past.taken none in
    let brokens = brokens_size past.connects in
    let servers : sum_by server_size (map broken_server past.connects ++ replicate f.refused NotThere) ≡ sum_by server_size (map broken_server past.connects) + 0 = sum_by-append server_size (map broken_server past.connects) (replicate f.refused NotThere) ∙ ap (λ n. sum_by server_size (map broken_server past.connects) + n) (nowhere_size f.refused) in
    let most = requests past.client.bytes rest _ _ f.out came f.session in
    let turns = moved_all past.connects in
    let ended = at_most_one (is_some past.client.ending) in
    let one_each = follow_few M f.session.exchanges M.begins _ _ f.out.how f.session.follow in
    let out : length f.out.servers ≡ length (flat_map (λ (e : Exchange M.Vars). e.connects) f.session.exchanges) = ap (λ (x : Out). length x.servers) f.session.comes_to in
    let c : length past.client.bytes ≤ length xs = omega (arith, ap length came, length-append past.client.bytes rest) in
    all_turns budget (length past.client.bytes) (sum_by stream_size past.connects) (length f.session.exchanges) (length past.connects) (length past.taken) (sum_by taken_size past.connects) 0 m M.limits.bufsize (length xs) ys
    (omega arith) (omega arith) (omega arith) most one c coming large

-- what a history moved is less than is enough
pub moved_within : (M : Meaning) (first client : Seen) (to : Place) (first_net net : NetSeen) (xs : List ℕ) (m : ℕ) (answers : List (Option Coming)) (ks : List Kept) (past : Past) → IsBounded M → 1 ≤ M.limits.bufsize → HasRequests M xs m
    → first.to_come ≡ Some xs → first_net.answers ≡ Some answers → first_net.kept ≡ Some ks → TookFront M past → Came first client past.client → Dials to first_net net past.connects
    → moved past < enough (length xs) (sum_by coming_size answers) m M.limits.bufsize
moved_within M first client to first_net net xs m answers ks past b one requests told_xs told_answers told_kept front came dials =
    let o = came.bytes xs told_xs in
    let t = dials.told answers ks told_answers told_kept in
    let s = told_size first_net net _ _ answers t.dials t.left past.connects t.connects t.chain t.each in
    less (moved past) (enough (length xs) (sum_by coming_size answers) m M.limits.bufsize)
    (λ spent. never_spent M past (enough (length xs) (sum_by coming_size answers) m M.limits.bufsize) m xs o.rest _ b one requests o.bytes s (omega arith) spent front.0 front.1)
  where
    less : (a b : ℕ) → (b ≤ a → ⊥) → a < b
    less a b h = elim (cases_lt a b) [
      | inl e ↦ e
      | inr e ↦ absurd (h e)
    ]

pub less_than_spent : (moved most budget : ℕ) → moved < most → most ≤ budget → budget ≤ moved → ⊥
less_than_spent moved most budget a b c = omega arith
