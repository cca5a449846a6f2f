-- The two consequences of standing for a history.
use Rattle.std.proofs.Common.{◌≡◌, ℕ, ◌+◌, List, [], ◌∷◌, ◌++◌, Bool, true, false, Option, Some, None, length, sym, ap, subst, ◌∙◌, refl, append_assoc, arith, map, min, replicate}
use Rattle.std.specs.List.{flat_map, AllZip}
use Rattle.std.proofs.lemmas.List.{append-nil, map-append}
use Rattle.std.proofs.lemmas.Grind.{flat_map-append}
use Rattle.http_model.specs.declared.End.{End}
use Rattle.http_model.specs.declared.End.TheVariants as end
use Rattle.http_model.specs.Spelling.{Spells}
use Rattle.session_model.specs.Stream.{Stream, Server, NotThere, Sent}
use Rattle.session_model.specs.Meaning.{Meaning}
use Rattle.session_model.specs.Asking.{Asks}
use Rattle.session_model.specs.Session.{Exchange, Over, Follow, first_bit, Out, out_of, close_of}
use Rattle.session_core.specs.History.{Past, Coming, Connect, Continues, ContinuesServer, IsPrefix, Fronts, BitFits, sent_of, prepend, prepended, broken, broken_server, connected}
use Rattle.session_core.specs.Sided.{Sided, asker_in, replied_to, RequestSeen, AnswerSeen, RequestsAsk, RequestAsks}
use Rattle.session_core.specs.Stands.{One, Puts, Follows, IsUnopened, IsServing, Refusing, IsReplying, EndsWith, IsOver, InPhase, Holds, most, kept_with}
use Rattle.session_core.specs.Consequences.{IsTotal, IsFront, IsFinal, out_of_past}
use Rattle.session_core.specs.declared.Phase.{Phase}
use Rattle.session_core.specs.declared.machine.At.{At}
use Rattle.session_core.specs.declared.Phase.TheVariants as phase
use Rattle.session_core.specs.Splits.{Splits}
use Rattle.session_core.proofs.Streams.{Falls, falls, splits, continue_broken, continues_broken}
use Rattle.session_core.proofs.Puts.{puts_both, first_of_both}
use Rattle.session_core.proofs.Said.{unserved_sent, not_there, replied_exchange, reply_one}
use Rattle.session_core.proofs.Exists.{spelling_exists}
use Rattle.session_core.proofs.Serving.{InHand}
use Rattle.session_core.proofs.Fronts.{Fronted, IsFronted, fronted_by_one, fronted_by_none, OneServer, one_server, serving_in_hand, fronts_join}

unserved_fronted : (M : Meaning) → IsTotal M → (q : RequestSeen) (a : AnswerSeen) (p : Sided M) (cut : Option Bool) (now : List Connect)
    → IsUnopened q.window cut → p.to_client ≡ [] → now ≡ connected false ∷ [] → RequestsAsk M p → IsFronted M q a p cut now
unserved_fronted M total q a p cut now unopened none alone requests stream servers c s =
    let g : RequestAsks M p.vars p.asking stream = requests stream c in
    let t : (text : List ℕ) × Spells true (asker_in p.asking).head_asked (unserved_sent M p.asking) text = spelling_exists true (asker_in p.asking).head_asked (unserved_sent M p.asking) in
    let S : List Connect → Type 0 = λ now. AllZip ContinuesServer now servers in
    let F : List Connect → Type 0 = λ now. Fronts now q.window (None ∷ []) in
    let B : Option Bool → Type 0 = λ c. BitFits c a.begun None in
    fronted_by_one M total p now q.window cut a.begun stream servers (record { connects = None ∷ []; client = t.0; bit = None; after = Over end.Closed })
    (not_there M p.vars p.asking stream t.0 servers (subst S alone s) g t.1)
    (t.0, ap (λ xs. xs ++ t.0) none) (subst F (sym alone) unopened.none) (subst B (sym unopened.uncut) tt)

serving_fronted : (M : Meaning) → IsTotal M → (q : RequestSeen) (a : AnswerSeen) (p : Sided M) (cut : Option Bool) (now : List Connect) (connect : Connect)
    → IsServing M q a p cut now connect → IsFronted M q a p cut now
serving_fronted M total q a p cut now connect h stream servers c s =
    let S : List Connect → Type 0 = λ now. AllZip ContinuesServer now servers in
    let o : OneServer connect servers = one_server connect servers h.1.there (subst S h.0 s) in
    let on : Continues p.server o.stream = let P : Coming → Type 0 = λ c. Continues c o.stream in subst P h.1.stream o.continues in
    let e : InHand M p cut a.begun stream o.stream o.stopped = serving_in_hand M q a p cut stream o.stream o.stopped h.2 c on (o.stopped_is ∙ h.1.stopped) in
    let one : One M p.vars stream servers e.exchange = let P : List Server → Type 0 = λ ss. One M p.vars stream ss e.exchange in subst P (sym o.servers_are) e.one in
    let front : IsPrefix (connect.taken ++ q.window) e.sent.bytes = let P : List ℕ → Type 0 = λ xs. IsPrefix xs e.sent.bytes in subst P (sym h.1.taken) e.to_server in
    let sent : Fronts (connect ∷ []) q.window e.exchange.connects = let P : List (Option Sent) → Type 0 = λ ss. Fronts (connect ∷ []) q.window ss in subst P (sym e.connects) front in
    let F : List Connect → Type 0 = λ now. Fronts now q.window e.exchange.connects in
    fronted_by_one M total p now q.window cut a.begun stream servers e.exchange one e.client (subst F (sym h.0) sent) e.bit

sent_fronts : (cs : List Connect) (window : List ℕ) → Fronts cs [] (map sent_of cs) → window ≡ [] → Fronts cs window (map sent_of cs)
sent_fronts cs window f none = let P : List ℕ → Type 0 = λ w. Fronts cs w (map sent_of cs) in subst P (sym none) f

replying_fronted : (M : Meaning) → IsTotal M → (q : RequestSeen) (a : AnswerSeen) (p : Sided M) (cut : Option Bool) (now : List Connect) (kept : Bool)
    → IsUnopened q.window cut → now ≡ [] → IsReplying M a p kept → IsFronted M q a p cut now
replying_fronted M total q a p cut now kept unopened alone h stream servers c s =
    let S : List Connect → Type 0 = λ now. AllZip ContinuesServer now servers in
    let F : List Connect → Type 0 = λ now. Fronts now q.window [] in
    let B : Option Bool → Type 0 = λ c. BitFits c a.begun None in
    let r : (rest : Stream) × Asks M p.vars stream (replied_to p.reply rest) = h.asks stream c in
    fronted_by_one M total p now q.window cut a.begun stream servers
    (replied_exchange M r.0 p.saying.text (kept_with kept p.now))
    (reply_one M p.vars p.reply stream servers r.0 p.saying.text (kept_with kept p.now) (subst S alone s) h.spelled h.behind r.1) (p.saying.left, h.said) (subst F (sym alone) unopened.none) (subst B (sym unopened.uncut) tt)

over_fronted : (M : Meaning) (q : RequestSeen) (a : AnswerSeen) (p : Sided M) (hand : ℕ) (cut : Option Bool) (now : List Connect) (how : End)
    → q.window ≡ [] → Fronts now [] (map sent_of now) → IsOver M p hand now cut how → IsFronted M q a p cut now
over_fronted M q a p hand cut now how none fronts over stream servers c s =
    let e : EndsWith M p.vars p.to_client hand now cut how stream servers = over stream servers c s in
    let F : List (Option Sent) → Type 0 = λ ss. Fronts now q.window ss in
    let G : List Server → Type 0 = λ ss. Follow M e.exchanges p.vars stream ss how in
    record {
      exchanges = e.exchanges;
      how = how;
      refused = 0;
      follow = subst G (sym (append-nil servers)) e.follow;
      client = ([], append-nil p.to_client ∙ sym e.puts.client);
      sent = subst F (sym e.puts.connects) (sent_fronts now q.window fronts none);
      bit = fits cut (first_bit e.exchanges) e.puts.bit;
    }
  where
    fits : (cut bit : Option Bool) → bit ≡ cut → BitFits cut a.begun bit
    fits None bit is = let P : Option Bool → Type 0 = λ b. BitFits None a.begun b in subst P (sym is) tt
    fits (Some b) bit is = is

refusing_fronted : (M : Meaning) → IsTotal M → (q : RequestSeen) (a : AnswerSeen) (p : Sided M) (cut : Option Bool) (now : List Connect)
    → IsUnopened q.window cut → Fronts now [] (map sent_of now) → Refusing M a.answered p.vars p.came p.to_client p.saying now → IsFronted M q a p cut now
refusing_fronted M total q a p cut now unopened fronts h stream servers c s =
    let B : Option Bool → Type 0 = λ c. BitFits c a.begun None in
    fronted_by_one M total p now q.window cut a.begun stream servers (record { connects = map sent_of now; client = p.saying.text; bit = None; after = Over end.Closed })
    (h.goes stream servers c s) (p.saying.left, h.said) (sent_fronts now q.window fronts unopened.none) (subst B (sym unopened.uncut) tt)

-- whatever the phase
pub fronted : (M : Meaning) → IsTotal M → (q : RequestSeen) (a : AnswerSeen) (p : Sided M) (hand : ℕ) (cut : Option Bool) (now : List Connect) (ph : Phase)
    → InPhase M q a p hand cut now ph → IsFronted M q a p cut now
fronted M total q a p hand cut now phase.Reading h = fronted_by_none M total q a p cut now h.1.uncut h.1.none h.2 h.3
fronted M total q a p hand cut now phase.Opening h = fronted_by_none M total q a p cut now h.1.uncut h.1.none h.2 h.3
fronted M total q a p hand cut now phase.Unserved h = unserved_fronted M total q a p cut now h.1 h.2 h.3 h.4
fronted M total q a p hand cut now phase.Serving h = serving_fronted M total q a p cut now h.1 h.2
fronted M total q a p hand cut now phase.Served h = serving_fronted M total q a p cut now h.2 h.4
fronted M total q a p hand cut now phase.Refusing h = refusing_fronted M total q a p cut now h.1 h.2 h.3
fronted M total q a p hand cut now (phase.Replying keep) h = replying_fronted M total q a p cut now keep h.1 h.2 h.3
fronted M total q a p hand cut now (phase.Over how) h = over_fronted M q a p hand cut now how h.0 h.1 h.2

-- where there is no connect nothing stands in the window to a server
pub window_of : (M : Meaning) (q : RequestSeen) (a : AnswerSeen) (p : Sided M) (hand : ℕ) (cut : Option Bool) (now : List Connect) (ph : Phase)
    → InPhase M q a p hand cut now ph → now ≡ [] → q.window ≡ []
window_of M q a p hand cut now phase.Reading h none = h.1.none
window_of M q a p hand cut now phase.Opening h none = h.1.none
window_of M q a p hand cut now phase.Unserved h none = h.1.none
window_of M q a p hand cut now phase.Serving h none = let c : Connect = h.1 in let e : c ∷ [] ≡ [] = sym h.2.0 ∙ none in absurd (grind (arith, e))
window_of M q a p hand cut now phase.Served h none = h.1.taken
window_of M q a p hand cut now phase.Refusing h none = h.1.none
window_of M q a p hand cut now (phase.Replying keep) h none = h.1.none
window_of M q a p hand cut now (phase.Over how) h none = h.0

-- ---- the whole

-- a stream of the whole past begins with the bytes of the exchanges that are done
pub split_past : (used : List ℕ) (came client : Coming) (s : Stream) → client ≡ prepended used came → Continues client s → Splits used came s
split_past used came client s is h = let P : Coming → Type 0 = λ c. Continues c s in splits used came s (subst P is h)

pub front : (M : Meaning) → IsTotal M → (c : At) (q : RequestSeen) (a : AnswerSeen) (p : Sided M) (past : Past)
    → Holds M c q a p past → IsFront M past a.window q.window a.begun
front M total c q a p past h =
    let servers : List Server = map broken_server past.connects in
    let s : Splits h.used p.came (broken past.client) = split_past h.used p.came past.client (broken past.client) h.client (continues_broken past.client) in
    let Z : List Connect → Type 0 = λ cs. AllZip ContinuesServer cs servers in
    let f : Falls ContinuesServer h.before h.now servers = falls ContinuesServer h.before h.now servers (subst Z h.connects (continue_broken past.connects)) in
    let x : Fronted M p h.now q.window c.cut a.begun s.rest f.behind = fronted M total q a p h.hand c.cut h.now c.phase h.phase s.rest f.behind s.continues f.behinds in
    let all : Follows M h.done (prepend h.used s.rest) (f.front ++ (f.behind ++ replicate x.refused NotThere)) x.how x.exchanges =
    h.behind s.rest f.front (f.behind ++ replicate x.refused NotThere) x.how x.exchanges s.continues f.fronts x.follow in
    let es : List (Exchange M.Vars) = all.exchanges ++ x.exchanges in
    let follow_client : Follow M es M.begins (broken past.client) (f.front ++ (f.behind ++ replicate x.refused NotThere)) x.how =
    let P : Stream → Type 0 = λ s. Follow M es M.begins s (f.front ++ (f.behind ++ replicate x.refused NotThere)) x.how in subst P (sym s.is) all.follow in
    let follow : Follow M es M.begins (broken past.client) (servers ++ replicate x.refused NotThere) x.how =
    let P : List Server → Type 0 = λ ss. Follow M es M.begins (broken past.client) ss x.how in
    subst P (sym (append_assoc f.front f.behind (replicate x.refused NotThere)) ∙ ap (λ ss. ss ++ replicate x.refused NotThere) (sym f.joins)) follow_client in
    let text : flat_map (λ e. e.client) es ≡ h.done.client ++ flat_map (λ e. e.client) x.exchanges =
    flat_map-append (λ e. e.client) all.exchanges x.exchanges ∙ ap (λ xs. xs ++ flat_map (λ e. e.client) x.exchanges) all.puts.client in
    let sent : flat_map (λ e. e.connects) es ≡ map sent_of h.before ++ flat_map (λ e. e.connects) x.exchanges =
    flat_map-append (λ e. e.connects) all.exchanges x.exchanges ∙ ap (λ xs. xs ++ flat_map (λ e. e.connects) x.exchanges) (all.puts.connects ∙ h.sent) in
    let bit : first_bit es ≡ first_bit x.exchanges = first_of_both all.exchanges x.exchanges all.puts.bit in
    record {
      out = out_of es x.how;
      refused = x.refused;
      session = record { exchanges = es; follow = follow; comes_to = refl };
      client = (x.client.0, ap (λ xs. xs ++ x.client.0) h.taken ∙ append_assoc h.done.client p.to_client x.client.0 ∙ ap (λ xs. h.done.client ++ xs) x.client.1 ∙ sym text);
      servers =
          let P : List (Option Sent) → Type 0 = λ ss. Fronts past.connects q.window ss in
          let R : List Connect → Type 0 = λ cs. Fronts cs q.window (map sent_of h.before ++ flat_map (λ e. e.connects) x.exchanges) in
          subst P (sym sent) (subst R (sym h.connects)
          (fronts_join h.before h.now q.window (flat_map (λ e. e.connects) x.exchanges) h.fronts (window_of M q a p h.hand c.cut h.now c.phase h.phase) x.sent));
      bit =
          let P : Option Bool → Type 0 = λ n. BitFits n a.begun (first_bit es) in
          let R : Option Bool → Type 0 = λ b. BitFits c.cut a.begun b in
          subst P (sym h.note) (subst R (sym bit) x.bit);
    }

out_is : (m n : ℕ) (how : End) (cut bit : Option Bool) (client text : List ℕ) (sent servers : List (Option Sent)) → m ≡ n → cut ≡ bit → client ≡ text → sent ≡ servers
    → (let o : Out = record { exchanges = m; how = how; cut = cut; client = record { bytes = client; close = close_of how }; servers = sent } in o)
    ≡ record { exchanges = n; how = how; cut = bit; client = record { bytes = text; close = close_of how }; servers = servers }
out_is m n how cut bit client text sent servers e f g h = rw e (rw f (rw g (rw h refl)))

pub final : (M : Meaning) (c : At) (q : RequestSeen) (a : AnswerSeen) (p : Sided M) (past : Past) (how : End)
    → Holds M c q a p past → c.phase ≡ phase.Over how → IsFinal M past (out_of_past past (past.taken ++ a.window) c.exchanges how)
final M c q a p past how h is client servers on zip =
    let o : IsOver M p h.hand h.now c.cut how = let P : Phase → Type 0 = λ ph. InPhase M q a p h.hand c.cut h.now ph in (subst P is h.phase).2 in
    let s : Splits h.used p.came client = split_past h.used p.came past.client client h.client on in
    let Z : List Connect → Type 0 = λ cs. AllZip ContinuesServer cs servers in
    let f : Falls ContinuesServer h.before h.now servers = falls ContinuesServer h.before h.now servers (subst Z h.connects zip) in
    let x : EndsWith M p.vars p.to_client h.hand h.now c.cut how s.rest f.behind = o s.rest f.behind s.continues f.behinds in
    let all : Follows M h.done (prepend h.used s.rest) (f.front ++ f.behind) how x.exchanges =
    h.behind s.rest f.front f.behind how x.exchanges s.continues f.fronts x.follow in
    let es : List (Exchange M.Vars) = all.exchanges ++ x.exchanges in
    let follow : Follow M es M.begins client servers how =
    let P : Stream → Type 0 = λ s. Follow M es M.begins s servers how in
    let R : List Server → Type 0 = λ ss. Follow M es M.begins (prepend h.used s.rest) ss how in
    subst P (sym s.is) (subst R (sym f.joins) all.follow) in
    let put : Puts es (record { count = h.done.count + h.hand; client = h.done.client ++ p.to_client; connects = h.done.connects ++ map sent_of h.now }) c.cut =
    puts_both all.exchanges x.exchanges h.done (record { count = h.hand; client = p.to_client; connects = map sent_of h.now }) c.cut all.puts x.puts in
    let sent : map sent_of past.connects ≡ flat_map (λ e. e.connects) es =
    ap (λ cs. map sent_of cs) h.connects ∙ map-append sent_of h.before h.now ∙ ap (λ ss. ss ++ map sent_of h.now) (sym h.sent) ∙ sym put.connects in
    record {
      exchanges = es;
      follow = follow;
      comes_to = out_is c.exchanges (min (length es) 4294967295) how past.note (first_bit es) (past.taken ++ a.window) (flat_map (λ e. e.client) es) (map sent_of past.connects) (flat_map (λ e. e.connects) es)
          (h.count ∙ ap (λ n. min n most) (sym put.count)) (h.note ∙ sym put.bit) (h.taken ∙ sym put.client) sent;
    }
