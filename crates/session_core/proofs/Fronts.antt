-- What was put out is a front of a session.
use Rattle.std.proofs.Common.{◌≡◌, ℕ, List, [], ◌∷◌, ◌++◌, Bool, true, false, Option, Some, None, sym, ap, subst, ◌∙◌, refl, append_assoc, arith, map, replicate}
use Rattle.std.specs.List.{flat_map, AllZip}
use Rattle.std.proofs.lemmas.List.{append-nil}
use Rattle.http_model.specs.declared.End.{End}
use Rattle.http_model.specs.Refusal.{refusal, closing}
use Rattle.http_model.specs.Spelling.{Spells}
use Rattle.session_model.specs.Stream.{Stream, Server, NotThere, Open, Sent}
use Rattle.session_model.specs.Meaning.{Meaning}
use Rattle.session_model.specs.Session.{Exchange, Follow, first_bit, interim_text}
use Rattle.session_core.specs.History.{Connect, Continues, ContinuesServer, IsPrefix, IsFrontOf, Fronts, BitFits, sent_of}
use Rattle.session_model.specs.Answering.{sent_interim}
use Rattle.http_model.specs.declared.Source.{Source}
use Rattle.session_core.specs.Sided.{Sided, asker_in, RequestSeen, AnswerSeen, RequestGoes, AnswerGoes, is_all, IsBefore, IsTurned, SourceIs}
use Rattle.session_core.specs.Stands.{One, Serves}
use Rattle.session_core.specs.Consequences.{IsTotal}
use Rattle.session_core.proofs.Puts.{one_follows}
use Rattle.session_core.proofs.Exists.{Exists, session_exists, goes_on_so, GoesOnSo, spelling_exists}
use Rattle.session_core.proofs.Serving.{made, InHand, answered_in_hand, refused_in_hand}

-- ---- fronts

pub prefix_more : (xs ys zs : List ℕ) → IsPrefix xs ys → IsPrefix xs (ys ++ zs)
prefix_more xs ys zs h = (h.0 ++ zs, sym (append_assoc xs h.0 zs) ∙ ap (λ ws. ws ++ zs) h.1)

pub fronts_more : (cs : List Connect) (window : List ℕ) (ss ts : List (Option Sent)) → Fronts cs window ss → Fronts cs window (ss ++ ts)
fronts_more [] window ss ts h = h
fronts_more (c ∷ []) window [] ts h = absurd h
fronts_more (c ∷ []) window (s ∷ ss) ts h = h
fronts_more (c ∷ d ∷ cs) window [] ts h = absurd h
fronts_more (c ∷ d ∷ cs) window (s ∷ ss) ts h = (h.0, fronts_more (d ∷ cs) window ss ts h.1)

front_of_taken : (taken : List ℕ) (s : Option Sent) → IsFrontOf (taken ++ []) s → IsFrontOf taken s
front_of_taken taken s h = let P : List ℕ → Type 0 = λ xs. IsFrontOf xs s in subst P (append-nil taken) h

-- what earlier connects were sent, and the front of what follows
pub fronts_join : (before now : List Connect) (window : List ℕ) (ss : List (Option Sent)) → Fronts before [] (map sent_of before) → (now ≡ [] → window ≡ []) → Fronts now window ss
    → Fronts (before ++ now) window (map sent_of before ++ ss)
fronts_join [] now window ss b e n = n
fronts_join (c ∷ []) [] window ss b e n = let P : List ℕ → Type 0 = λ w. IsFrontOf (c.taken ++ w) (sent_of c) in subst P (sym (e refl)) b
fronts_join (c ∷ []) (d ∷ ds) window ss b e n = (front_of_taken c.taken (sent_of c) b, n)
fronts_join (c ∷ d ∷ cs) now window ss b e n = (b.0, fronts_join (d ∷ cs) now window ss b.1 e n)

first_alone : {Vars : Type 0} (e : Exchange Vars) (more : List (Exchange Vars)) → first_bit more ≡ None → first_bit (e ∷ more) ≡ e.bit
first_alone e more h = by e.bit refl
  where
    by : (bit : Option Bool) → e.bit ≡ bit → first_bit (e ∷ more) ≡ bit
    by None is = rw is h
    by (Some b) is = rw is refl

-- ---- the exchange in hand

-- a session from here on that begins with what was put out in this exchange
pub record Fronted (M : Meaning) (p : Sided M) (now : List Connect) (window : List ℕ) (cut : Option Bool) (begun : Bool) (stream : Stream) (servers : List Server) : Type 0 where
  pub exchanges : List (Exchange M.Vars)
  pub how : End
  pub refused : ℕ
  pub follow : Follow M exchanges p.vars stream (servers ++ replicate refused NotThere) how
  pub client : IsPrefix p.to_client (flat_map (λ e. e.client) exchanges)
  pub sent : Fronts now window (flat_map (λ e. e.connects) exchanges)
  pub bit : BitFits cut begun (first_bit exchanges)

abbrev pub IsFronted : (M : Meaning) → RequestSeen → AnswerSeen → Sided M → Option Bool → List Connect → Type 0
IsFronted M q a p cut now =
    (stream : Stream) (servers : List Server) → Continues p.came stream → AllZip ContinuesServer now servers
    → Fronted M p now q.window cut a.begun stream servers

pub fronted_by_one : (M : Meaning) → IsTotal M → (p : Sided M) (now : List Connect) (window : List ℕ) (cut : Option Bool) (begun : Bool) (stream : Stream) (servers : List Server) (e : Exchange M.Vars)
    → One M p.vars stream servers e → IsPrefix p.to_client e.client → Fronts now window e.connects → BitFits cut begun e.bit
    → Fronted M p now window cut begun stream servers
fronted_by_one M total p now window cut begun stream servers e one client sent bit =
    let on : GoesOnSo M e.after = goes_on_so M total e.after in
    record {
      exchanges = e ∷ on.more;
      how = on.how;
      refused = on.refused;
      follow = one_follows M p.vars stream servers (replicate on.refused NotThere) on.how e on.more one on.on;
      client = prefix_more p.to_client e.client (flat_map (λ e. e.client) on.more) client;
      sent = fronts_more now window e.connects (flat_map (λ e. e.connects) on.more) sent;
      bit = let P : Option Bool → Type 0 = λ b. BitFits cut begun b in subst P (sym (first_alone e on.more on.uncut)) bit;
    }

-- nothing was put out, and there is no connect
pub fronted_by_none : (M : Meaning) → IsTotal M → (q : RequestSeen) (a : AnswerSeen) (p : Sided M) (cut : Option Bool) (now : List Connect)
    → cut ≡ None → q.window ≡ [] → p.to_client ≡ [] → now ≡ [] → IsFronted M q a p cut now
fronted_by_none M total q a p cut now uncut window none alone stream servers c s =
    let P : List Connect → Type 0 = λ now. AllZip ContinuesServer now servers in
    let x : Exists M p.vars stream = session_exists M total p.vars stream in
    let F : List Connect → Type 0 = λ now. Fronts now q.window (flat_map (λ e. e.connects) x.exchanges) in
    let B : Option Bool → Type 0 = λ c. BitFits c a.begun (first_bit x.exchanges) in
    let C : Option Bool → Type 0 = λ b. BitFits None a.begun b in
    record {
      exchanges = x.exchanges;
      how = x.how;
      refused = x.refused;
      follow = no_servers servers (subst P alone s) x;
      client = (flat_map (λ e. e.client) x.exchanges, ap (λ xs. xs ++ flat_map (λ e. e.client) x.exchanges) none);
      sent = subst F (sym alone) window;
      bit = subst B (sym uncut) (subst C (sym x.uncut) tt);
    }
  where
    no_servers : (servers : List Server) → AllZip ContinuesServer [] servers → (x : Exists M p.vars stream) → Follow M x.exchanges p.vars stream (servers ++ replicate x.refused NotThere) x.how
    no_servers [] s x = x.follow
    no_servers (server ∷ servers) s x = absurd s

-- the one connect
pub record OneServer (c : Connect) (servers : List Server) : Type 0 where
  pub stream : Stream
  pub stopped : Bool
  pub servers_are : servers ≡ Open stream stopped ∷ []
  pub stopped_is : stopped ≡ c.stopped
  pub continues : Continues c.stream stream

pub one_server : (c : Connect) (servers : List Server) → c.there ≡ true → AllZip ContinuesServer (c ∷ []) servers → OneServer c servers
one_server c [] is s = absurd s
one_server c (NotThere ∷ servers) is s = let no : c.there ≡ false = s.0 in absurd (grind (arith, no, is))
one_server c (Open stream stopped ∷ []) is s = record { stream = stream; stopped = stopped; servers_are = refl; stopped_is = s.0.1; continues = s.0.2 }
one_server c (Open stream stopped ∷ server ∷ servers) is s = absurd s.1

pub serving_in_hand : (M : Meaning) (q : RequestSeen) (a : AnswerSeen) (p : Sided M) (cut : Option Bool) (stream server : Stream) (stopped : Bool)
    → Serves M q a p cut → Continues p.came stream → Continues p.server server → stopped ≡ q.dropped → InHand M p cut a.begun stream server stopped
serving_in_hand M q a p None stream server stopped s c on halts = by_begun a.begun refl
  where
    by_request : (begun : Bool) → a.begun ≡ begun → (g : RequestGoes M q.source (is_all q) q.dropped p.vars p.asking p.to_server stream) → (h : AnswerGoes M a.told a.answered a.begun p.asking p.to_client p.now server) → (was : Option ℕ) → (made g).cut ≡ was → InHand M p None begun stream server stopped
    by_request true is g h was cut = answered_in_hand M q.source (is_all q) q.dropped a.told a.answered a.begun p stream server stopped None true g h halts was cut (λ n. tt) (λ code so. refl)
    by_request false is g h None cut = answered_in_hand M q.source (is_all q) q.dropped a.told a.answered a.begun p stream server stopped None false g h halts None cut (λ n. tt) (λ code so. cc)
    by_request false is g h (Some code) cut =
        let b : IsBefore M p = s.3 is in
        let t : (text : List ℕ) × Spells true (asker_in p.asking).head_asked (closing (refusal code)) text = spelling_exists true (asker_in p.asking).head_asked (closing (refusal code)) in
        refused_in_hand M q.source (is_all q) q.dropped p stream server stopped None false code g halts cut refl on b.heads b.begins t.0 t.1
        (prefix_more p.to_client (interim_text (sent_interim (asker_in p.asking) b.heads)) t.0 b.front)

    by_begun : (begun : Bool) → a.begun ≡ begun → InHand M p None a.begun stream server stopped
    by_begun begun is =
        let P : Bool → Type 0 = λ b. InHand M p None b stream server stopped in
        let g : RequestGoes M q.source (is_all q) q.dropped p.vars p.asking p.to_server stream = s.0 stream c in
        subst P (sym is) (by_request begun is g (s.1.1 server on) (made g).cut refl)
serving_in_hand M q a p (Some true) stream server stopped s c on halts =
    let g : RequestGoes M q.source (is_all q) q.dropped p.vars p.asking p.to_server stream = s.0 stream c in
    let cut : (made g).cut ≡ Some s.2 = let P : Source → Type 0 = λ so. SourceIs so (made g).cut in subst P s.3 g.goes.source in
    answered_in_hand M q.source (is_all q) q.dropped a.told a.answered a.begun p stream server stopped (Some true) a.begun g (s.1.1 server on) halts (Some s.2) cut (λ n. cc) (λ code so. refl)
serving_in_hand M q a p (Some false) stream server stopped s c on halts =
    let g : RequestGoes M q.source (is_all q) q.dropped p.vars p.asking p.to_server stream = s.0 stream c in
    let cut : (made g).cut ≡ Some s.1 = let P : Source → Type 0 = λ so. SourceIs so (made g).cut in subst P s.2 g.goes.source in
    let t : IsTurned M a p s.1 = s.3 in
    refused_in_hand M q.source (is_all q) q.dropped p stream server stopped (Some false) a.begun s.1 g halts cut refl on t.heads t.begins p.saying.text t.spelled (p.saying.left, t.said)
