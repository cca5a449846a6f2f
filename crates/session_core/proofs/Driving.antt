-- What a driver reads off a core.
use Rattle.std.proofs.Common.{◌≡◌, ◌≢◌, ℕ, ◌<◌, nat_lt, List, [], ◌∷◌, ◌++◌, Bool, true, false, not, ◌&&◌, Option, Some, None, sym, ap, subst, ◌∙◌, refl, append_assoc, arith, if◌then◌else◌}
use Rattle.std.proofs.lemmas.List.{append-nil}
use Rattle.http_model.specs.declared.Close.{Close}
use Rattle.http_model.specs.declared.End.{End}
use Rattle.session_model.specs.Stream.{Sent}
use Rattle.session_model.specs.Meaning.{Meaning}
use Rattle.session_core.specs.History.{Past, Coming, Connect, Continues, IsPrefix, IsFrontOf, Fronts, close_by}
use Rattle.session_core.specs.Sided.{Sided, RequestSeen, AnswerSeen, asker_in, AnswersSo, AnswerGoes, IsBefore, Interims}
use Rattle.session_core.specs.Stands.{Serves, IsServing, InPhase, Holds}
use Rattle.session_core.specs.Waits.{is_empty, is_serving, is_opening, is_telling, is_turned, has_ended, takes_client, over_by, wants_of}
use Rattle.session_core.specs.Consequences.{IsFinal, IsFront, out_of_past}
use Rattle.session_core.specs.Drives.{WantsMean, IsAlone, WantsSay, BegunSays, IsAskedFor}
use Rattle.session_core.specs.declared.machine.At.{At}
use Rattle.session_core.specs.declared.Phase.{Phase}
use Rattle.session_core.specs.declared.Phase.TheVariants as phase
use Rattle.session_core.proofs.Events.{open_of}
use Rattle.session_core.proofs.Consequences.{final}
use Rattle.session_core.proofs.InHand.{in_hand_of, in_phase}

-- ---- what wants mean

and_first : (a b : Bool) → a && b ≡ true → a ≡ true
and_first true b e = refl
and_first false b e = e

and_second : (a b : Bool) → a && b ≡ true → b ≡ true
and_second true b e = e
and_second false b e = cc

some_room : (n : ℕ) → nat_lt 0 n ≡ true → 0 < n
some_room n h = grind (arith, h)

nonempty : (xs : List ℕ) → not (is_empty xs) ≡ true → xs ≢ []
nonempty [] e n = absurd (grind (arith, e))
nonempty (x ∷ xs) e n = absurd (grind (arith, n))

empty_is : (xs : List ℕ) → is_empty xs ≡ true → xs ≡ []
empty_is [] e = refl
empty_is (x ∷ xs) e = cc

empty_not : (xs : List ℕ) → not (is_empty xs) ≡ false → xs ≡ []
empty_not [] e = refl
empty_not (x ∷ xs) e = cc

serving_only : (ph : Phase) (empty : Bool) → is_serving ph ≡ true → (is_opening ph ≡ false) × (over_by ph empty ≡ None)
serving_only phase.Opening empty e = absurd (grind (arith, e))
serving_only (phase.Over how) empty e = absurd (grind (arith, e))
serving_only _ empty e = (refl, refl)

reads_server : (q : RequestSeen) (a : AnswerSeen) (at : At) → (wants_of q a at).server_read ≡ true → (is_serving at.phase ≡ true) × (a.is_open ≡ true) × (0 < a.room)
reads_server q a at e =
    let before_room : Bool = is_serving at.phase && not (is_turned at.cut) && is_telling a.told && a.is_open in
    let opened : before_room ≡ true = and_first before_room (nat_lt 0 a.room) e in
    let told : (is_serving at.phase && not (is_turned at.cut) && is_telling a.told) ≡ true = and_first (is_serving at.phase && not (is_turned at.cut) && is_telling a.told) a.is_open opened in
    let unturned : (is_serving at.phase && not (is_turned at.cut)) ≡ true = and_first (is_serving at.phase && not (is_turned at.cut)) (is_telling a.told) told in (
      and_first (is_serving at.phase) (not (is_turned at.cut)) unturned,
      and_second (is_serving at.phase && not (is_turned at.cut) && is_telling a.told) a.is_open opened,
      some_room a.room (and_second before_room (nat_lt 0 a.room) e),
    )

writes_server : (q : RequestSeen) (a : AnswerSeen) (at : At) → (wants_of q a at).server_write ≡ true → (is_serving at.phase ≡ true) × (q.window ≢ [])
writes_server q a at e = (and_first (is_serving at.phase) (not (is_empty q.window)) e, nonempty q.window (and_second (is_serving at.phase) (not (is_empty q.window)) e))

reads_client : (q : RequestSeen) (a : AnswerSeen) (at : At) → (wants_of q a at).client_read ≡ true → (q.is_open ≡ true) × (0 < q.room)
reads_client q a at e =
    let opened : (takes_client q.source at.phase && q.is_open) ≡ true = and_first (takes_client q.source at.phase && q.is_open) (nat_lt 0 q.room) e in
    (and_second (takes_client q.source at.phase) q.is_open opened, some_room q.room (and_second (takes_client q.source at.phase && q.is_open) (nat_lt 0 q.room) e))

pub mean : (q : RequestSeen) (a : AnswerSeen) (at : At) → WantsMean q a (is_serving at.phase) (wants_of q a at)
mean q a at =
    record {
      client_read = reads_client q a at;
      client_write = λ e. nonempty a.window e;
      nothing_to_write = λ e. empty_not a.window e;
      server_read = λ e. let r : (is_serving at.phase ≡ true) × (a.is_open ≡ true) × (0 < a.room) = reads_server q a at e in (r.1, r.2);
      server_write = λ e. (writes_server q a at e).1;
      idle = λ e. (rw e refl, rw e refl, rw e refl);
      serving = λ e. serving_only at.phase (is_empty a.window) e;
    }

-- ---- where the session is over

over_of : (ph : Phase) (empty : Bool) (how : End) → over_by ph empty ≡ Some how → (ph ≡ phase.Over how) × (empty ≡ true)
over_of (phase.Over was) true how e = let same : was ≡ how = cc in (ap (λ (h : End). phase.Over h) same, refl)
over_of (phase.Over was) false how e = absurd (grind (arith, e))
over_of _ empty how e = absurd (grind (arith, e))

pub alone : (q : RequestSeen) (a : AnswerSeen) (at : At) (how : End) → (wants_of q a at).over ≡ Some how → IsAlone (wants_of q a at)
alone q a at how e =
    let o : (at.phase ≡ phase.Over how) × (is_empty a.window ≡ true) = over_of at.phase (is_empty a.window) how e in
    record {
      client_read = rw o.0 refl;
      client_write = rw o.1 refl;
      client_waits = rw o.0 refl;
      server_open = rw o.0 refl;
      server_read = rw o.0 refl;
      server_write = rw o.0 refl;
      server_close = rw o.0 refl;
    }

pub final_taken : (M : Meaning) (c : At) (q : RequestSeen) (a : AnswerSeen) (p : Sided M) (past : Past) (how : End)
    → Holds M c q a p past → (wants_of q a c).over ≡ Some how → IsFinal M past (out_of_past past past.taken c.exchanges how)
final_taken M c q a p past how h e =
    let o : (c.phase ≡ phase.Over how) × (is_empty a.window ≡ true) = over_of c.phase (is_empty a.window) how e in
    let P : List ℕ → Type 0 = λ xs. IsFinal M past (out_of_past past xs c.exchanges how) in
    subst P (ap (λ w. past.taken ++ w) (empty_is a.window o.1) ∙ append-nil past.taken) (final M c q a p past how h o.0)

-- ---- fronts of what was taken

prefix_less : (taken window ys : List ℕ) → IsPrefix (taken ++ window) ys → IsPrefix (taken ++ []) ys
prefix_less taken window ys h =
    (window ++ h.0, ap (λ xs. xs ++ (window ++ h.0)) (append-nil taken) ∙ sym (append_assoc taken window h.0) ∙ h.1)

none_taken : (taken window : List ℕ) → taken ++ window ≡ [] → taken ++ [] ≡ []
none_taken [] window e = refl
none_taken (x ∷ xs) window e = absurd (grind (arith, e))

front_less : (taken window : List ℕ) (s : Option Sent) → IsFrontOf (taken ++ window) s → IsFrontOf (taken ++ []) s
front_less taken window None h = none_taken taken window h
front_less taken window (Some sent) h = prefix_less taken window sent.bytes h

fronts_less : (cs : List Connect) (window : List ℕ) (ss : List (Option Sent)) → Fronts cs window ss → Fronts cs [] ss
fronts_less [] window ss h = refl
fronts_less (c ∷ []) window [] h = absurd h
fronts_less (c ∷ []) window (s ∷ ss) h = front_less c.taken window s h
fronts_less (c ∷ d ∷ cs) window [] h = absurd h
fronts_less (c ∷ d ∷ cs) window (s ∷ ss) h = (h.0, fronts_less (d ∷ cs) window ss h.1)

pub front_taken : (M : Meaning) (past : Past) (client_window server_window : List ℕ) (begun : Bool) → IsFront M past client_window server_window begun → IsFront M past [] [] begun
front_taken M past client_window server_window begun x =
    record {
      out = x.out;
      refused = x.refused;
      session = x.session;
      client = prefix_less past.taken client_window x.out.client.bytes x.client;
      servers = fronts_less past.connects server_window x.out.servers x.servers;
      bit = x.bit;
    }

-- ---- what wants say of the history

abbrev last_in : List Connect → Option Connect
last_in [] = None
last_in (c ∷ []) = Some c
last_in (c ∷ d ∷ cs) = last_in (d ∷ cs)

last_in_of : (cs : List Connect) (c : Connect) → last_in (cs ++ c ∷ []) ≡ Some c
last_in_of [] c = refl
last_in_of (d ∷ []) c = refl
last_in_of (d ∷ e ∷ ds) c = last_in_of (e ∷ ds) c

abbrev or_this : Connect → Option Connect → Connect
or_this c None = c
or_this c (Some d) = d

last_same : (before was : List Connect) (c d : Connect) → before ++ c ∷ [] ≡ was ++ d ∷ [] → c ≡ d
last_same before was c d e =
    let some : Some c ≡ Some d = sym (last_in_of before c) ∙ ap last_in e ∙ last_in_of was d in ap (λ o. or_this c o) some

serving_of : (ph : Phase) → is_serving ph ≡ true → ph ≡ phase.Serving
serving_of phase.Serving e = refl
serving_of _ e = cc

-- the connect in hand is the last of the history
pub record InHandLast (M : Meaning) (at : At) (q : RequestSeen) (a : AnswerSeen) (p : Sided M) (past : Past) : Type 0 where
  pub before : List Connect
  pub connect : Connect
  pub last : past.connects ≡ before ++ connect ∷ []
  pub stopped : connect.stopped ≡ q.dropped
  pub stream : connect.stream ≡ p.server
  pub ended : a.is_open ≡ true → p.server.ending ≡ None
  pub drops : q.dropped ≡ true → q.window ≡ []

pub in_hand_last : (M : Meaning) (at : At) (q : RequestSeen) (a : AnswerSeen) (p : Sided M) (past : Past) → at.phase ≡ phase.Serving → Holds M at q a p past → InHandLast M at q a p past
in_hand_last M at q a p past is h =
    let k : InPhase M q a p h.hand at.cut h.now phase.Serving = in_phase M at phase.Serving q a p past is h in
    record {
      before = h.before;
      connect = k.1;
      last = h.connects ∙ ap (λ cs. h.before ++ cs) k.2.0;
      stopped = k.2.1.stopped;
      stream = k.2.1.stream;
      ended = λ e. open_of a.is_open p.server.ending k.2.3.is_open e;
      drops = k.2.3.drops;
    }

close_is : (b : Bool) (cut : Option Bool) (how : Close) → (if b then Some (close_by cut) else None) ≡ Some how → how ≡ close_by cut
close_is true cut how e = cc
close_is false cut how e = cc

takes_on : (dropped : Bool) → (dropped ≡ true → ⊥) → dropped ≡ false
takes_on true h = absurd (h refl)
takes_on false h = refl

pub says : (M : Meaning) (at : At) (q : RequestSeen) (a : AnswerSeen) (p : Sided M) (past : Past) → Holds M at q a p past → WantsSay (wants_of q a at) past
says M at q a p past h =
    record {
      client_read = λ e. ap (λ (c : Coming). c.ending) h.client ∙ open_of q.is_open p.came.ending h.is_open (reads_client q a at e).0;
      server_read = λ before c last e.
          let r : (is_serving at.phase ≡ true) × (a.is_open ≡ true) × (0 < a.room) = reads_server q a at e in
          let k : InHandLast M at q a p past = in_hand_last M at q a p past (serving_of at.phase r.0) h in
          let same : c ≡ k.connect = last_same before k.before c k.connect (sym last ∙ k.last) in
          ap (λ (d : Connect). d.stream.ending) same ∙ ap (λ (s : Coming). s.ending) k.stream ∙ k.ended r.1;
      server_write = λ before c last e.
          let r : (is_serving at.phase ≡ true) × (q.window ≢ []) = writes_server q a at e in
          let k : InHandLast M at q a p past = in_hand_last M at q a p past (serving_of at.phase r.0) h in
          let same : c ≡ k.connect = last_same before k.before c k.connect (sym last ∙ k.last) in
          ap (λ (d : Connect). d.stopped) same ∙ k.stopped ∙ takes_on q.dropped (λ d. r.1 (k.drops d));
      server_close = λ how e. close_is (is_serving at.phase && has_ended q a) at.cut how e ∙ ap close_by (sym h.note);
    }

-- ---- what `begun` says

pub record Began (M : Meaning) (a : AnswerSeen) (p : Sided M) : Type 0 where
  pub answers : AnswersSo M a p
  pub before : a.begun ≡ false → IsBefore M p

began : (M : Meaning) (q : RequestSeen) (a : AnswerSeen) (p : Sided M) (cut : Option Bool) → is_turned cut ≡ false → Serves M q a p cut → Began M a p
began M q a p None turned s = record { answers = s.1; before = s.3 }
began M q a p (Some true) turned s = record { answers = s.1; before = λ e. let no : true ≡ false = sym s.4 ∙ e in absurd (grind (arith, no)) }
began M q a p (Some false) turned s = absurd (grind (arith, turned))

begun_by : (M : Meaning) (at : At) (q : RequestSeen) (a : AnswerSeen) (p : Sided M) (past : Past) (connect : Connect) → is_turned at.cut ≡ false → (h : Holds M at q a p past)
    → IsServing M q a p at.cut h.now connect → BegunSays M past a.window a.begun
begun_by M at q a p past connect turned h k =
    let b : Began M a p = began M q a p at.cut turned k.2 in
    let P : Coming → Type 0 = λ s. Interims M (asker_in p.asking) s p.to_client in
    record {
      in_hand = in_hand_of M at q a p past h;
      connect = connect;
      now = k.0;
      there = k.1.there;
      asking = p.asking;
      asks = k.4;
      put = p.to_client;
      text = h.taken;
      has_begun = λ e stream on.
          let Q : Coming → Type 0 = λ s. Continues s stream in
          let g : AnswerGoes M a.told a.answered a.begun p.asking p.to_client p.now stream = b.answers.1 stream (subst Q k.1.stream on) in
          record { answered = g.answered; answers = g.answers; byte = (g.began e).0; more = (g.began e).1; begun = (g.began e).2 };
      before = λ e. subst P (sym k.1.stream) (b.before e);
    }

pub begun_so : (M : Meaning) (at : At) (q : RequestSeen) (a : AnswerSeen) (p : Sided M) (past : Past) → at.phase ≡ phase.Serving → is_turned at.cut ≡ false → (h : Holds M at q a p past)
    → BegunSays M past a.window a.begun
begun_so M at q a p past is turned h =
    let k : InPhase M q a p h.hand at.cut h.now phase.Serving = in_phase M at phase.Serving q a p past is h in
    begun_by M at q a p past k.1 turned h k.2

-- behind the close of its server's link
pub begun_closed : (M : Meaning) (at : At) (q : RequestSeen) (a : AnswerSeen) (p : Sided M) (past : Past) → at.phase ≡ phase.Served → is_turned at.cut ≡ false → (h : Holds M at q a p past)
    → BegunSays M past a.window a.begun
begun_closed M at q a p past is turned h =
    let k : InPhase M q a p h.hand at.cut h.now phase.Served = in_phase M at phase.Served q a p past is h in
    begun_by M at q a p past k.2 turned h k.4

-- ---- a server is to be opened

pub asked_for : (M : Meaning) (at : At) (q : RequestSeen) (a : AnswerSeen) (p : Sided M) (past : Past) → at.phase ≡ phase.Opening → Holds M at q a p past → IsAskedFor M q past
asked_for M at q a p past is h =
    let k : InPhase M q a p h.hand at.cut h.now phase.Opening = in_phase M at phase.Opening q a p past is h in
    record {
      in_hand = in_hand_of M at q a p past h;
      no_connect = k.3;
      asking = p.asking;
      asks = k.6;
      held = k.4.held;
      waits = k.4.waits;
    }
