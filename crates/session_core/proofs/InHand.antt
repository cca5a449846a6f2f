-- What stands of the exchange in hand.
use Rattle.std.proofs.Common.{◌≡◌, ℕ, ◌+◌, List, Bool, Option, min, ap, subst, ◌∙◌, refl, arith}
use Rattle.session_model.specs.Meaning.{Meaning}
use Rattle.session_core.specs.History.{Past, Connect}
use Rattle.session_core.specs.Sided.{Sided, RequestSeen, AnswerSeen}
use Rattle.session_core.specs.Stands.{IsServing, EndsWith, InPhase, Holds, most}
use Rattle.session_core.specs.InHand.{InHand, ReadsInHand, ServesInHand, RefusesInHand, RepliesInHand, Begun, ExchangesAre}
use Rattle.session_core.specs.declared.machine.At.{At}
use Rattle.session_core.specs.declared.Phase.{Phase}
use Rattle.session_core.specs.declared.Phase.TheVariants as phase

abbrev pub in_hand_of : (M : Meaning) (at : At) (q : RequestSeen) (a : AnswerSeen) (p : Sided M) (past : Past) → Holds M at q a p past → InHand M past
in_hand_of M at q a p past h =
    record {
      vars = p.vars;
      used = h.used;
      came = p.came;
      client = h.client;
      before = h.before;
      now = h.now;
      connects = h.connects;
      done = h.done;
      sent = h.sent;
      behind = h.behind;
    }

-- what stands of it in this phase
pub in_phase : (M : Meaning) (at : At) (ph : Phase) (q : RequestSeen) (a : AnswerSeen) (p : Sided M) (past : Past) → at.phase ≡ ph → (h : Holds M at q a p past)
    → InPhase M q a p h.hand at.cut h.now ph
in_phase M at ph q a p past is h = let P : Phase → Type 0 = λ ph. InPhase M q a p h.hand at.cut h.now ph in subst P is h.phase

pub reads_so : (M : Meaning) (S : Sided M → Type 0) (at : At) (q : RequestSeen) (a : AnswerSeen) (p : Sided M) (past : Past)
    → at.phase ≡ phase.Reading → S p → Holds M at q a p past → ReadsInHand M S a at past
reads_so M S at q a p past is s h =
    let k : InPhase M q a p h.hand at.cut h.now phase.Reading = in_phase M at phase.Reading q a p past is h in
    let was : at.exchanges ≡ min (h.done.count + h.hand) most = h.count in
    let zero_in_hand : h.hand ≡ 0 = k.0 in
    record {
      sided = p;
      stand = s;
      in_hand = in_hand_of M at q a p past h;
      vars = refl;
      came = refl;
      no_connect = k.3;
      nothing = k.2;
      to_client = h.taken;
      count = omega (arith, was, zero_in_hand);
    }

-- its one connect, while its server is open, and when that was closed
unfoldable pub serves_by : (M : Meaning) (S : Sided M → Type 0) (at : At) (q : RequestSeen) (a : AnswerSeen) (p : Sided M) (past : Past) (connect : Connect)
    → S p → (h : Holds M at q a p past) → h.hand ≡ 1 → IsServing M q a p at.cut h.now connect → ServesInHand M S q a at past
serves_by M S at q a p past connect s h one k =
    record {
      sided = p;
      stand = s;
      in_hand = in_hand_of M at q a p past h;
      vars = refl;
      came = refl;
      connect = connect;
      now = k.0;
      there = k.1.there;
      stopped = k.1.stopped;
      stream = k.1.stream;
      to_server = k.1.taken;
      to_client = h.taken;
      asks = k.4;
      serves = k.2;
      count = h.count ∙ ap (λ n. min (h.done.count + n) most) one;
    }

pub serves_so : (M : Meaning) (S : Sided M → Type 0) (at : At) (q : RequestSeen) (a : AnswerSeen) (p : Sided M) (past : Past)
    → at.phase ≡ phase.Serving → S p → Holds M at q a p past → ServesInHand M S q a at past
serves_so M S at q a p past is s h =
    let k : InPhase M q a p h.hand at.cut h.now phase.Serving = in_phase M at phase.Serving q a p past is h in
    serves_by M S at q a p past k.1 s h k.0 k.2

unfoldable pub refuses_so : (M : Meaning) (S : Sided M → Type 0) (at : At) (q : RequestSeen) (a : AnswerSeen) (p : Sided M) (past : Past)
    → at.phase ≡ phase.Refusing → S p → Holds M at q a p past → RefusesInHand M S a at past
refuses_so M S at q a p past is s h =
    let k : InPhase M q a p h.hand at.cut h.now phase.Refusing = in_phase M at phase.Refusing q a p past is h in
    record {
      sided = p;
      stand = s;
      in_hand = in_hand_of M at q a p past h;
      vars = refl;
      came = refl;
      to_client = h.taken;
      refuses = k.3;
      count = h.count ∙ ap (λ n. min (h.done.count + n) most) k.0;
    }

unfoldable pub replies_so : (M : Meaning) (S : Sided M → Type 0) (at : At) (kept : Bool) (q : RequestSeen) (a : AnswerSeen) (p : Sided M) (past : Past)
    → at.phase ≡ phase.Replying kept → S p → Holds M at q a p past → RepliesInHand M S kept a at past
replies_so M S at kept q a p past is s h =
    let k : InPhase M q a p h.hand at.cut h.now (phase.Replying kept) = in_phase M at (phase.Replying kept) q a p past is h in
    record {
      sided = p;
      stand = s;
      in_hand = in_hand_of M at q a p past h;
      vars = refl;
      came = refl;
      no_connect = k.2;
      to_client = h.taken;
      replies = k.3;
      count = h.count ∙ ap (λ n. min (h.done.count + n) most) k.0;
    }

begun_in : (M : Meaning) (q : RequestSeen) (a : AnswerSeen) (p : Sided M) (hand : ℕ) (cut : Option Bool) (now : List Connect) (ph : Phase)
    → InPhase M q a p hand cut now ph → Begun M p.vars p.came now hand ph
begun_in M q a p hand cut now phase.Reading f = f.0
begun_in M q a p hand cut now phase.Opening f = f.0
begun_in M q a p hand cut now phase.Unserved f = f.0
begun_in M q a p hand cut now phase.Serving f = f.0
begun_in M q a p hand cut now phase.Served f = f.0
begun_in M q a p hand cut now phase.Refusing f = f.0
begun_in M q a p hand cut now (phase.Replying kept) f = f.0
begun_in M q a p hand cut now (phase.Over how) f = λ stream servers c z.
    let e : EndsWith M p.vars p.to_client hand now cut how stream servers = f.2 stream servers c z in
    record { exchanges = e.exchanges; follow = e.follow; count = e.puts.count }

pub exchanges_so : (M : Meaning) (S : Sided M → Type 0) (at : At) (q : RequestSeen) (a : AnswerSeen) (p : Sided M) (past : Past)
    → S p → Holds M at q a p past → ExchangesAre M S q a at past
exchanges_so M S at q a p past s h =
    record {
      sided = p;
      stand = s;
      in_hand = in_hand_of M at q a p past h;
      vars = refl;
      came = refl;
      to_client = h.taken;
      hand = h.hand;
      made = h.phase;
      begun = begun_in M q a p h.hand at.cut h.now at.phase h.phase;
      count = h.count;
    }
