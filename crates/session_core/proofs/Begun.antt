-- What `begun` says of a refusal or a reply that goes out.
use Rattle.std.proofs.Common.{◌≡◌, ℕ, suc, ◌+◌, ◌<◌, ◌≤◌, List, [], ◌∷◌, ◌++◌, Bool, true, false, Option, Some, nat_lt, not, length, length-append, sym, ap, ◌∙◌, refl, subst, arith}
use Rattle.std.proofs.lemmas.Bool.{lt-ltb, le-ltb, ltb-true, ltb-false}
use Rattle.session_model.specs.Meaning.{Meaning}
use Rattle.session_model.specs.Answering.{sent_interim}
use Rattle.session_model.specs.Session.{interim_text}
use Rattle.session_core.specs.History.{Past, Connect, IsPrefix}
use Rattle.session_core.specs.Sided.{Sided, RequestSeen, AnswerSeen, asker_in, IsTurned}
use Rattle.session_core.specs.Stands.{Serves, IsServing, InPhase, Holds}
use Rattle.session_core.specs.InHand.{RefusesInHand, RepliesInHand, ServesInHand}
use Rattle.session_core.specs.Waits.{is_empty}
use Rattle.session_core.specs.Drives.{RefusalBegun, ReplyBegun, TurnedBegun, IsBegunBehind}
use Rattle.session_core.specs.declared.machine.At.{At}
use Rattle.session_core.specs.declared.Phase.TheVariants as phase
use Rattle.session_core.proofs.InHand.{in_phase, refuses_so, replies_so, serves_by}

-- ---- lists

begun_any : (put left text : List ℕ) → put ++ left ≡ text → nat_lt (length left) (length text) ≡ not (is_empty put)
begun_any [] left text e = le-ltb (length left) (length text) (omega (arith, ap length e))
begun_any (x ∷ xs) left text e =
    let size : suc (length (xs ++ left)) ≡ length text = ap length e in
    let both : length (xs ++ left) ≡ length xs + length left = length-append xs left in
    lt-ltb (length left) (length text) (omega arith)

-- what is longer than a front of the same bytes goes on behind it
goes_behind : (front put left text : List ℕ) → put ++ left ≡ front ++ text → length front < length put → IsBegunBehind true front put
goes_behind [] [] left text e more = absurd (omega arith)
goes_behind [] (x ∷ xs) left text e more = (x, xs, refl)
goes_behind (f ∷ fs) [] left text e more = absurd (omega arith)
goes_behind (f ∷ fs) (x ∷ xs) left text e more =
    let first : x ≡ f = cc in
    let rest : xs ++ left ≡ fs ++ text = cc in
    let g : IsBegunBehind true fs xs = goes_behind fs xs left text rest (omega arith) in
    let is : xs ≡ fs ++ g.0 ∷ g.1 = g.2 in (g.0, g.1, cc)

-- and what isn't is a front of it
stays_within : (front put left text : List ℕ) → put ++ left ≡ front ++ text → length put ≤ length front → IsPrefix put front
stays_within front [] left text e less = (front, refl)
stays_within [] (x ∷ xs) left text e less = absurd (omega arith)
stays_within (f ∷ fs) (x ∷ xs) left text e less =
    let first : x ≡ f = cc in
    let rest : xs ++ left ≡ fs ++ text = cc in
    let g : IsPrefix xs fs = stays_within fs xs left text rest (omega arith) in
    let is : xs ++ g.0 ≡ fs = g.1 in (g.0, cc)

sizes : (front put left text : List ℕ) → put ++ left ≡ front ++ text → length put + length left ≡ length front + length text
sizes front put left text e = sym (length-append put left) ∙ ap length e ∙ length-append front text

begun_behind : (begun : Bool) (front put left text : List ℕ) → put ++ left ≡ front ++ text → begun ≡ nat_lt (length left) (length text) → IsBegunBehind begun front put
begun_behind true front put left text e is =
    let less : length left < length text = ltb-true (length left) (length text) (sym is) in
    let both : length put + length left ≡ length front + length text = sizes front put left text e in
    goes_behind front put left text e (omega arith)
begun_behind false front put left text e is =
    let most : length text ≤ length left = ltb-false (length left) (length text) (sym is) in
    let both : length put + length left ≡ length front + length text = sizes front put left text e in
    stays_within front put left text e (omega arith)

-- ---- by the phase

-- how much of what is said is left tells whether it has begun
abbrev pub BeginsSo : {M : Meaning} → AnswerSeen → Sided M → Type 0
BeginsSo a p = a.begun ≡ nat_lt (length p.saying.left) (length p.saying.text)

pub refusal_begun : (M : Meaning) (S : Sided M → Type 0) (at : At) (q : RequestSeen) (a : AnswerSeen) (p : Sided M) (past : Past)
    → at.phase ≡ phase.Refusing → S p → BeginsSo a p → Holds M at q a p past → RefusalBegun M S a at past
unfolding refuses_so
refusal_begun M S at q a p past is s begins h =
    let hand : RefusesInHand M S a at past = refuses_so M S at q a p past is s h in
    record { hand = hand; begun = begins ∙ begun_any p.to_client p.saying.left p.saying.text hand.refuses.said }

pub reply_begun : (M : Meaning) (S : Sided M → Type 0) (at : At) (kept : Bool) (q : RequestSeen) (a : AnswerSeen) (p : Sided M) (past : Past)
    → at.phase ≡ phase.Replying kept → S p → BeginsSo a p → Holds M at q a p past → ReplyBegun M S kept a at past
unfolding replies_so
reply_begun M S at kept q a p past is s begins h =
    let hand : RepliesInHand M S kept a at past = replies_so M S at kept q a p past is s h in
    record { hand = hand; begun = begins ∙ begun_any p.to_client p.saying.left p.saying.text hand.replies.said }

turned_by : (M : Meaning) (S : Sided M → Type 0) (at : At) (q : RequestSeen) (a : AnswerSeen) (p : Sided M) (past : Past) (connect : Connect)
    → at.cut ≡ Some false → S p → BeginsSo a p → (h : Holds M at q a p past) → h.hand ≡ 1 → IsServing M q a p at.cut h.now connect → TurnedBegun M S q a at past
unfolding serves_by
turned_by M S at q a p past connect cut s begins h one k =
    let hand : ServesInHand M S q a at past = serves_by M S at q a p past connect s h one k in
    let serves : Serves M q a p (Some false) = let P : Option Bool → Type 0 = λ c. Serves M q a p c in subst P cut k.2 in
    let t : IsTurned M a p serves.1 = serves.3 in
    record {
      hand = hand;
      code = serves.1;
      turned = t;
      begun = begun_behind a.begun (interim_text (sent_interim (asker_in p.asking) t.heads)) p.to_client p.saying.left p.saying.text t.said begins;
    }

pub turned_begun : (M : Meaning) (S : Sided M → Type 0) (at : At) (q : RequestSeen) (a : AnswerSeen) (p : Sided M) (past : Past)
    → at.phase ≡ phase.Serving → at.cut ≡ Some false → S p → BeginsSo a p → Holds M at q a p past → TurnedBegun M S q a at past
turned_begun M S at q a p past is cut s begins h =
    let k : InPhase M q a p h.hand at.cut h.now phase.Serving = in_phase M at phase.Serving q a p past is h in
    turned_by M S at q a p past k.1 cut s begins h k.0 k.2

pub turned_closed : (M : Meaning) (S : Sided M → Type 0) (at : At) (q : RequestSeen) (a : AnswerSeen) (p : Sided M) (past : Past)
    → at.phase ≡ phase.Served → at.cut ≡ Some false → S p → BeginsSo a p → Holds M at q a p past → TurnedBegun M S q a at past
turned_closed M S at q a p past is cut s begins h =
    let k : InPhase M q a p h.hand at.cut h.now phase.Served = in_phase M at phase.Served q a p past is h in
    turned_by M S at q a p past k.2 cut s begins h k.0 k.4
