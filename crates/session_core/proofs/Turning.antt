-- From one exchange to the next, or to the end.
use Rattle.std.proofs.Common.{◌≡◌, ℕ, ◌+◌, List, [], ◌∷◌, ◌++◌, Bool, true, false, Option, Some, None, sym, ap, subst, ◌∙◌, refl, append_assoc, arith, map, min, is_none}
use Rattle.std.specs.List.{AllZip}
use Rattle.std.proofs.lemmas.List.{append-nil, map-append}
use Rattle.http_model.specs.declared.End.{End}
use Rattle.http_model.specs.declared.End.TheVariants as end
use Rattle.session_model.specs.Stream.{Stream, Server, Sent}
use Rattle.session_model.specs.Meaning.{Meaning}
use Rattle.session_model.specs.Asking.{Asks, Nothing}
use Rattle.session_model.specs.Session.{Exchange, After, Over, Follow}
use Rattle.session_core.specs.History.{Past, nothing_yet, Coming, Connect, Continues, ContinuesServer, Fronts, sent_of, prepend, prepended}
use Rattle.session_core.specs.Sided.{Sided, replied_to, RequestSeen, AnswerSeen, unsaid}
use Rattle.session_core.specs.Stands.{One, none_done, Puts, IsBehind, EndsWith, IsOver, InPhase, Holds, most}
use Rattle.session_core.specs.Leads.{AsksRefusal, AsksReply, AsksServer, RenewsReplied, renewed_at, IsFresh}
use Rattle.session_core.specs.declared.machine.At.{At}
use Rattle.session_core.specs.declared.Phase.{Phase}
use Rattle.session_core.specs.declared.Phase.TheVariants as phase
use Rattle.session_core.proofs.Puts.{one_follows}
use Rattle.session_core.proofs.Behind.{Passes, behind_none, behind_next, puts_one}
use Rattle.session_core.proofs.Said.{replied_exchange, reply_one, refused_one}
use Rattle.session_core.proofs.Fronts.{fronts_join}
use Rattle.session_core.proofs.Working.{holds_with}

-- ---- the end

-- one exchange that is the last
pub ends_by_one : (M : Meaning) (vars : M.Vars) (put : List ℕ) (now : List Connect) (cut : Option Bool) (how : End) (stream : Stream) (servers : List Server) (e : Exchange M.Vars)
    → One M vars stream servers e → e.after ≡ Over how → e.client ≡ put → e.connects ≡ map sent_of now → e.bit ≡ cut
    → EndsWith M vars put 1 now cut how stream servers
ends_by_one M vars put now cut how stream servers e one over client connects bit =
    let G : After M.Vars → Type 0 = λ a. Rattle.session_model.specs.Session.GoesOn a [] [] how (λ rest next. Follow M [] next rest [] how) in
    let F : List Server → Type 0 = λ ss. Follow M (e ∷ []) vars stream ss how in
    let A : List ℕ → Type 0 = λ xs. Puts (e ∷ []) (record { count = 1; client = xs; connects = map sent_of now }) cut in
    let B : List (Option Sent) → Type 0 = λ ss. Puts (e ∷ []) (record { count = 1; client = e.client; connects = ss }) cut in
    record {
      exchanges = e ∷ [];
      follow = subst F (append-nil servers) (one_follows M vars stream servers [] how e [] one (subst G (sym over) (refl, refl, refl)));
      puts = subst A client (subst B connects (puts_one e cut bit));
    }

over_refusing : (M : Meaning) (q : RequestSeen) (a : AnswerSeen) (p : Sided M) (hand : ℕ) (cut : Option Bool) (now : List Connect)
    → a.answered ≡ true → InPhase M q a p hand cut now phase.Refusing → InPhase M q a p hand cut now (phase.Over end.Closed)
over_refusing M q a p hand cut now all h =
    let H : ℕ → Type 0 = λ n. IsOver M p n now cut end.Closed in
    let text : p.saying.text ≡ p.to_client = sym h.3.said ∙ ap (λ xs. p.to_client ++ xs) (h.3.sent all) ∙ append-nil p.to_client in (
      h.1.none,
      h.2,
      subst H (sym h.0) (λ stream servers c z.
          ends_by_one M p.vars p.to_client now cut end.Closed stream servers _ (h.3.goes stream servers c z) refl text refl (sym h.1.uncut)),
    )

over_replying : (M : Meaning) (q : RequestSeen) (a : AnswerSeen) (p : Sided M) (hand : ℕ) (cut : Option Bool) (now : List Connect)
    → a.answered ≡ true → InPhase M q a p hand cut now (phase.Replying false) → InPhase M q a p hand cut now (phase.Over end.Closed)
over_replying M q a p hand cut now all h =
    let H : ℕ → Type 0 = λ n. IsOver M p n now cut end.Closed in
    let N : List Connect → Type 0 = λ now. Fronts now [] (map sent_of now) × IsOver M p 1 now cut end.Closed in
    let text : p.saying.text ≡ p.to_client = sym h.3.said ∙ ap (λ xs. p.to_client ++ xs) (h.3.sent all) ∙ append-nil p.to_client in
    let o : Fronts now [] (map sent_of now) × IsOver M p 1 now cut end.Closed = subst N (sym h.2) (
      refl,
      λ stream servers c z.
          let r : (rest : Stream) × Asks M p.vars stream (replied_to p.reply rest) = h.3.asks stream c in
          ends_by_one M p.vars p.to_client [] cut end.Closed stream servers _ (reply_one M p.vars p.reply stream servers r.0 p.saying.text None z h.3.spelled h.3.behind r.1) refl text refl (sym h.1.uncut),
    ) in
    (h.1.none, o.0, subst H (sym h.0) o.1)

-- the phase in hand becomes another, and nothing else changes
pub turns_over : (M : Meaning) (at : At) (to : Phase) (q : RequestSeen) (a : AnswerSeen) (p : Sided M) (past : Past)
    → ((hand : ℕ) (now : List Connect) → InPhase M q a p hand at.cut now at.phase → InPhase M q a p hand at.cut now to)
    → Holds M at q a p past → Holds M (record at { phase = to }) q a p (record past { note = at.cut })
turns_over M at to q a p past turn h =
    holds_with M at (record at { phase = to }) q q a a p p past [] refl refl refl refl (sym (append-nil p.to_client)) (sym (append-nil a.window)) turn h

pub ends_refusing : (M : Meaning) (at : At) (q : RequestSeen) (a : AnswerSeen) (p : Sided M) (past : Past)
    → at.phase ≡ phase.Refusing → a.answered ≡ true → Holds M at q a p past → Holds M (record at { phase = phase.Over end.Closed }) q a p (record past { note = at.cut })
ends_refusing M at q a p past is all h =
    turns_over M at (phase.Over end.Closed) q a p past
    (λ hand now f. let P : Phase → Type 0 = λ ph. InPhase M q a p hand at.cut now ph in over_refusing M q a p hand at.cut now all (subst P is f)) h

pub ends_replying : (M : Meaning) (at : At) (q : RequestSeen) (a : AnswerSeen) (p : Sided M) (past : Past)
    → at.phase ≡ phase.Replying false → a.answered ≡ true → Holds M at q a p past → Holds M (record at { phase = phase.Over end.Closed }) q a p (record past { note = at.cut })
ends_replying M at q a p past is all h =
    turns_over M at (phase.Over end.Closed) q a p past
    (λ hand now f. let P : Phase → Type 0 = λ ph. InPhase M q a p hand at.cut now ph in over_replying M q a p hand at.cut now all (subst P is f)) h

-- ---- the next exchange

-- a whole exchange stands behind
pub holds_next : (M : Meaning) (at : At) (q r : RequestSeen) (a b : AnswerSeen) (p : Sided M) (past : Past) (used : List ℕ) (left_over : Coming) (text : List ℕ) (s : Sided M)
    → s ≡ renewed_at p left_over → r.is_open ≡ q.is_open → r.window ≡ [] → b.window ≡ a.window → at.cut ≡ None → p.came ≡ prepended used left_over
    → ((hand : ℕ) (now : List Connect) → InPhase M q a p hand at.cut now at.phase
    → (hand ≡ 1) × Fronts now [] (map sent_of now) × ((rest : Stream) (servers : List Server) → Continues left_over rest → AllZip ContinuesServer now servers → Passes M p.vars used rest servers (M.renewed p.now) p.to_client (map sent_of now)))
    → Holds M at q a p past → Holds M (record at { phase = phase.Reading }) r b s (record past { note = at.cut })
holds_next M at q r a b p past used left_over text s is opened window same uncut came turn h =
    let t : (h.hand ≡ 1) × Fronts h.now [] (map sent_of h.now) × ((rest : Stream) (servers : List Server) → Continues left_over rest → AllZip ContinuesServer h.now servers → Passes M p.vars used rest servers (M.renewed p.now) p.to_client (map sent_of h.now)) = turn h.hand h.now h.phase in
    let S : Sided M → Type 0 = λ s. Holds M (record at { phase = phase.Reading }) r b s (record past { note = at.cut }) in
    let F : List (Option Sent) → Type 0 = λ ss. Fronts (h.before ++ h.now) [] ss in
    subst S (sym is) (record {
      used = h.used ++ used;
      done = record { count = h.done.count + 1; client = h.done.client ++ p.to_client; connects = h.done.connects ++ map sent_of h.now };
      hand = 0;
      before = h.before ++ h.now;
      now = [];
      is_open = opened ∙ h.is_open ∙ ap (λ c. is_none c.ending) came;
      client = h.client ∙ ap (λ c. prepended h.used c) came ∙ ap (λ (xs : List ℕ). let c : Coming = record { bytes = xs; ending = left_over.ending } in c) (sym (append_assoc h.used used left_over.bytes));
      connects = h.connects ∙ sym (append-nil (h.before ++ h.now));
      taken = ap (λ xs. past.taken ++ xs) same ∙ h.taken ∙ sym (append-nil (h.done.client ++ p.to_client));
      note = refl;
      count = h.count ∙ ap (λ n. min (h.done.count + n) most) t.0 ∙ ap (λ n. min n most) (let e : h.done.count + 1 ≡ h.done.count + 1 + 0 = omega arith in e);
      sent = ap (λ ss. ss ++ map sent_of h.now) h.sent ∙ sym (map-append sent_of h.before h.now);
      fronts = subst F (sym (map-append sent_of h.before h.now)) (fronts_join h.before h.now [] (map sent_of h.now) h.fronts (λ e. refl) t.1);
      behind = behind_next M p.vars (M.renewed p.now) h.used used p.came left_over h.before h.now h.done p.to_client (map sent_of h.now) h.behind came t.2;
      phase = (refl, record { none = window; uncut = uncut }, refl, refl);
    })

pub replies_next : (M : Meaning) (S : Sided M → Type 0) (at : At) (q r : RequestSeen) (a b : AnswerSeen) (p : Sided M) (past : Past)
    → at.phase ≡ phase.Replying true → a.answered ≡ true → r.is_open ≡ q.is_open → r.window ≡ [] → b.window ≡ a.window → (re : RenewsReplied M S p)
    → Holds M at q a p past → Holds M (record at { phase = phase.Reading }) r b (renewed_at p re.left) (record past { note = at.cut })
replies_next M S at q r a b p past is all opened none window re h =
    let P : Phase → Type 0 = λ ph. InPhase M q a p h.hand at.cut h.now ph in
    let replying : InPhase M q a p h.hand at.cut h.now (phase.Replying true) = subst P is h.phase in
    holds_next M at q r a b p past re.used re.left p.to_client (renewed_at p re.left) refl opened none window replying.1.uncut re.replied.came
    (λ hand now f.
    let P : Phase → Type 0 = λ ph. InPhase M q a p hand at.cut now ph in
    let k : InPhase M q a p hand at.cut now (phase.Replying true) = subst P is f in
    let text : p.saying.text ≡ p.to_client = sym k.3.said ∙ ap (λ xs. p.to_client ++ xs) (k.3.sent all) ∙ append-nil p.to_client in
    let F : List Connect → Type 0 = λ now. Fronts now [] (map sent_of now) in
    let G : List Connect → Type 0 = λ now. (rest : Stream) (servers : List Server) → Continues re.left rest → AllZip ContinuesServer now servers → Passes M p.vars re.used rest servers (M.renewed p.now) p.to_client (map sent_of now) in (
      k.0,
      subst F (sym k.2) refl,
      subst G (sym k.2) (λ rest servers c z.
          record {
            exchange = replied_exchange M rest p.saying.text (Some p.now);
            one = reply_one M p.vars p.reply (prepend re.used rest) servers rest p.saying.text (Some p.now) z k.3.spelled k.3.behind (re.replied.goes rest c);
            goes_on = refl;
            text_is = text;
            sent_is = refl;
            uncut = refl;
          }),
    )) h

-- ---- the exchange begins

pub holds_begin : (M : Meaning) (at : At) (to : Phase) (q r : RequestSeen) (a b : AnswerSeen) (p s : Sided M) (past : Past) (count : ℕ)
    → at.phase ≡ phase.Reading → s.vars ≡ p.vars → s.came ≡ p.came → s.to_client ≡ p.to_client → r.is_open ≡ q.is_open → b.window ≡ a.window → count ≡ min (at.exchanges + 1) most
    → (InPhase M q a p 0 at.cut [] phase.Reading → InPhase M r b s 1 at.cut [] to)
    → Holds M at q a p past → Holds M (record at { phase = to; exchanges = count }) r b s (record past { note = at.cut })
holds_begin M at to q r a b p s past count is vars came client opened window counted turn h =
    let P : Phase → Type 0 = λ ph. InPhase M q a p h.hand at.cut h.now ph in
    let reading : InPhase M q a p h.hand at.cut h.now phase.Reading = subst P is h.phase in
    let N : List Connect → Type 0 = λ now. InPhase M q a p 0 at.cut now phase.Reading in
    let K : ℕ → Type 0 = λ n. InPhase M q a p n at.cut h.now phase.Reading in
    let B : M.Vars → Type 0 = λ v. IsBehind M v h.used s.came h.before h.done in
    let C : Coming → Type 0 = λ c. IsBehind M p.vars h.used c h.before h.done in
    let zero_in_hand : h.hand ≡ 0 = reading.0 in
    let was : at.exchanges ≡ min (h.done.count + h.hand) most = h.count in
    record {
      used = h.used;
      done = h.done;
      hand = 1;
      before = h.before;
      now = [];
      is_open = opened ∙ h.is_open ∙ ap (λ c. is_none c.ending) (sym came);
      client = h.client ∙ ap (λ (c : Coming). let d : Coming = record { bytes = h.used ++ c.bytes; ending = c.ending } in d) (sym came);
      connects = h.connects ∙ ap (λ cs. h.before ++ cs) reading.3;
      taken = ap (λ xs. past.taken ++ xs) window ∙ h.taken ∙ ap (λ xs. h.done.client ++ xs) (sym client);
      note = refl;
      count = omega (arith, counted, was, zero_in_hand);
      sent = h.sent;
      fronts = h.fronts;
      behind = subst B (sym vars) (subst C (sym came) h.behind);
      phase = turn (subst N reading.3 (subst K reading.0 reading));
    }

no_more : (M : Meaning) (q : RequestSeen) (a : AnswerSeen) (p : Sided M) (hand : ℕ) (cut : Option Bool) (now : List Connect)
    → ((stream : Stream) → Continues p.came stream → Asks M p.vars stream Nothing)
    → InPhase M q a p hand cut now phase.Reading → InPhase M q a p hand cut now (phase.Over end.Done)
no_more M q a p hand cut now asks h =
    let N : List Connect → Type 0 = λ now. Fronts now [] (map sent_of now) × IsOver M p 0 now cut end.Done in
    let H : ℕ → Type 0 = λ n. IsOver M p n now cut end.Done in
    let o : Fronts now [] (map sent_of now) × IsOver M p 0 now cut end.Done = subst N (sym h.3) (refl, λ stream servers c z. ended stream servers z (asks stream c)) in
    (h.1.none, o.0, subst H (sym h.0) o.1)
  where
    ended : (stream : Stream) (servers : List Server) → AllZip ContinuesServer [] servers → Asks M p.vars stream Nothing → EndsWith M p.vars p.to_client 0 [] cut end.Done stream servers
    ended stream [] z asks =
        record { exchanges = []; follow = (asks, refl, refl); puts = record { count = refl; client = sym h.2; connects = refl; bit = sym h.1.uncut } }
    ended stream (server ∷ servers) z asks = absurd z

pub asks_nothing : (M : Meaning) (at : At) (q r : RequestSeen) (a b : AnswerSeen) (p : Sided M) (past : Past)
    → at.phase ≡ phase.Reading → r.is_open ≡ q.is_open → r.window ≡ q.window → b.window ≡ a.window
    → ((stream : Stream) → Continues p.came stream → Asks M p.vars stream Nothing)
    → Holds M at q a p past → Holds M (record at { phase = phase.Over end.Done }) r b p (record past { note = at.cut })
asks_nothing M at q r a b p past is opened window same asks h =
    holds_with M at (record at { phase = phase.Over end.Done }) q r a b p p past [] refl refl opened refl (sym (append-nil p.to_client)) (same ∙ sym (append-nil a.window))
    (λ hand now f.
    let P : Phase → Type 0 = λ ph. InPhase M q a p hand at.cut now ph in
    let o : InPhase M q a p hand at.cut now (phase.Over end.Done) = no_more M q a p hand at.cut now asks (subst P is f) in
    (window ∙ o.0, o.1, o.2)) h

pub asks_more : (M : Meaning) (at : At) (q r : RequestSeen) (a b : AnswerSeen) (p : Sided M) (past : Past)
    → at.phase ≡ phase.Reading → r.is_open ≡ q.is_open → r.window ≡ q.window → b.window ≡ a.window
    → Holds M at q a p past → Holds M at r b p (record past { note = at.cut })
asks_more M at q r a b p past is opened window same h =
    holds_with M at at q r a b p p past [] refl refl opened refl (sym (append-nil p.to_client)) (same ∙ sym (append-nil a.window))
    (λ hand now f.
    let P : Phase → Type 0 = λ ph. InPhase M q a p hand at.cut now ph in
    let Q : Phase → Type 0 = λ ph. InPhase M r b p hand at.cut now ph in
    let k : InPhase M q a p hand at.cut now phase.Reading = subst P is f in
    subst Q (sym is) (k.0, record { none = window ∙ k.1.none; uncut = k.1.uncut }, k.2, k.3)) h

pub asks_refusal : (M : Meaning) (S : Sided M → Type 0) (at : At) (q r : RequestSeen) (a b : AnswerSeen) (p : Sided M) (past : Past) (count : ℕ)
    → at.phase ≡ phase.Reading → r.is_open ≡ q.is_open → r.window ≡ q.window → b.window ≡ a.window → b.answered ≡ false → count ≡ min (at.exchanges + 1) most
    → (re : AsksRefusal M S p)
    → Holds M at q a p past → Holds M (record at { phase = phase.Refusing; exchanges = count }) r b (record p { saying = unsaid re.text }) (record past { note = at.cut })
asks_refusal M S at q r a b p past count is opened window same starts counted re h =
    holds_begin M at phase.Refusing q r a b p (record p { saying = unsaid re.text }) past count is refl refl refl opened same counted
    (λ k. (
      refl,
      record { none = window ∙ k.1.none; uncut = k.1.uncut },
      refl,
      record {
        said = ap (λ xs. xs ++ re.text) k.2;
        sent = λ e. let no : false ≡ true = sym starts ∙ e in absurd (grind (arith, no));
        goes = λ stream servers c z. refused_one M p.vars stream servers re.code re.no_body re.method re.behind re.text z re.spelled (re.asks stream c);
      },
    )) h

pub asks_reply : (M : Meaning) (S : Sided M → Type 0) (at : At) (q r : RequestSeen) (a b : AnswerSeen) (p : Sided M) (past : Past) (count : ℕ) (kept : Bool)
    → at.phase ≡ phase.Reading → r.is_open ≡ q.is_open → r.window ≡ q.window → b.window ≡ a.window → b.answered ≡ false → count ≡ min (at.exchanges + 1) most
    → (re : AsksReply M S p kept)
    → Holds M at q a p past
    → Holds M (record at { phase = phase.Replying kept; exchanges = count }) r b (record p { reply = re.reply; now = re.now; saying = unsaid re.text }) (record past { note = at.cut })
asks_reply M S at q r a b p past count kept is opened window same starts counted re h =
    holds_begin M at (phase.Replying kept) q r a b p (record p { reply = re.reply; now = re.now; saying = unsaid re.text }) past count is refl refl refl opened same counted
    (λ k. (
      refl,
      record { none = window ∙ k.1.none; uncut = k.1.uncut },
      refl,
      record {
        spelled = re.spelled;
        said = ap (λ xs. xs ++ re.text) k.2;
        sent = λ e. let no : false ≡ true = sym starts ∙ e in absurd (grind (arith, no));
        behind = re.behind;
        asks = re.asks;
      },
    )) h

pub asks_server : (M : Meaning) (S : Sided M → Type 0) (at : At) (q r : RequestSeen) (a b : AnswerSeen) (p : Sided M) (past : Past) (count : ℕ)
    → at.phase ≡ phase.Reading → r.is_open ≡ q.is_open → r.window ≡ q.window → b.window ≡ a.window → count ≡ min (at.exchanges + 1) most
    → (re : AsksServer M S r p)
    → Holds M at q a p past
    → Holds M (record at { phase = phase.Opening; exchanges = count }) r b (record p { asking = re.asking; to_server = [] }) (record past { note = at.cut })
asks_server M S at q r a b p past count is opened window same counted re h =
    holds_begin M at phase.Opening q r a b p (record p { asking = re.asking; to_server = [] }) past count is refl refl refl opened same counted
    (λ k. (refl, record { none = window ∙ k.1.none; uncut = k.1.uncut }, k.2, refl, record { none = refl; takes = re.dropped; uncut = re.uncut; settled = re.settled; waits = re.awaits; held = re.held }, re.requests, re.asks)) h

-- ---- the beginning

pub holds_first : (M : Meaning) (q : RequestSeen) (a : AnswerSeen) (p : Sided M) → IsFresh M q a p
    → Holds M (record { phase = phase.Reading; cut = None; exchanges = 0 }) q a p nothing_yet
holds_first M q a p f =
    let V : M.Vars → Type 0 = λ v. IsBehind M v [] p.came [] none_done in
    record {
      used = [];
      done = none_done;
      hand = 0;
      before = [];
      now = [];
      is_open = f.is_open ∙ ap (λ c. is_none c.ending) (sym f.came);
      client = ap (λ (c : Coming). let d : Coming = record { bytes = [] ++ c.bytes; ending = c.ending } in d) (sym f.came);
      connects = refl;
      taken = f.to_client_window ∙ sym f.to_client;
      note = refl;
      count = refl;
      sent = refl;
      fronts = refl;
      behind = subst V (sym f.vars) (behind_none M p.came);
      phase = (refl, record { none = f.to_server_window; uncut = refl }, f.to_client, refl);
    }
