-- Whether the client waits for a response head, by what its server sent.
use Rattle.std.proofs.Common.{◌≡◌, ◌⊎◌, inl, inr, ℕ, List, Bool, true, false, not, ◌&&◌, refl, sym, ap, ◌∙◌, subst}
use Rattle.px_sample.specs.Variables.{Variables}
use Rattle.http_rules.specs.declared.config.Config.{Config}
use Rattle.forward_core.specs.Meaning.Product.{meaning_of}
use Rattle.session_model.specs.Stream.{Stream}
use Rattle.session_core.specs.Awaits.{awaits_continue}
use Rattle.session_core.specs.History.{Past, Coming, Continues}
use Rattle.session_core.specs.InHand.{ExchangesAre}
use Rattle.session_core.specs.Sided.{asker_in, RequestAsks, Saying}
use Rattle.session_core.specs.Stands.{InPhase}
use Rattle.session_core.specs.Waits.{is_sending, wants_of}
use Rattle.session_core.specs.declared.Phase.{Phase}
use Rattle.session_core.specs.declared.Phase.TheVariants as phase
use Rattle.session_core.specs.declared.machine.At.{At}
use Rattle.forward_core.specs.Answer.HeadsRead.{BeginsWithHead, HeadBegins}
use Rattle.forward_core.specs.Answer.Stands.{AnswerStands}
use Rattle.forward_core.specs.Joined.HeldBack.{IsServed}
use Rattle.forward_core.specs.Joined.Joined.{SessionStands, request_of, answer_of}
use Rattle.forward_core.specs.Joined.Waiting.{WaitsForHead, WaitsForNone}
use Rattle.forward_core.specs.declared.joined.directions.Directions.{Directions}

-- ---- while a server is open

-- the answer direction stands for the stream of its server, and the client waits where the head says so
pub record Hears (cfg : Config) (d : Directions) (past : Past) : Type 0 where
  pub served : IsServed cfg past
  pub server : Coming
  pub put : List ℕ
  pub now : Variables
  pub saying : Saying
  pub stream : served.connect.stream ≡ server
  pub answer : AnswerStands cfg d.answer served.asking server put now saying
  pub awaits : (request_of d).awaits ≡ awaits_continue served.asking.received

pub hears : (cfg : Config) (size : ℕ) (d : Directions) (at : At) (past : Past) → at.phase ≡ phase.Serving → ExchangesAre (meaning_of cfg) (SessionStands (cfg, size) d) (request_of d) (answer_of d) at past → Hears cfg d past
hears cfg size d at past is x =
    let p = x.sided in
    let made : InPhase (meaning_of cfg) (request_of d) (answer_of d) p x.hand at.cut x.in_hand.now phase.Serving =
    subst (λ (f : Phase). InPhase (meaning_of cfg) (request_of d) (answer_of d) p x.hand at.cut x.in_hand.now f) is x.made in
    record {
      served = record {
        in_hand = x.in_hand;
        connect = made.1;
        now = made.2.0;
        there = made.2.1.there;
        asking = p.asking;
        asks = subst (λ (v : Variables). (stream : Stream) → Continues x.in_hand.came stream → RequestAsks (meaning_of cfg) v p.asking stream) (sym x.vars)
            (subst (λ (c : Coming). (stream : Stream) → Continues c stream → RequestAsks (meaning_of cfg) p.vars p.asking stream) (sym x.came) made.2.4);
      };
      server = p.server;
      put = p.to_client;
      now = p.now;
      saying = p.saying;
      stream = made.2.1.stream;
      answer = x.stand.directions.answer;
      awaits = made.2.3.waits;
    }

-- ---- what is wanted

waits_by : (sends awaits heard : Bool) → (sends && awaits && not heard) ≡ true → (awaits ≡ true) × (heard ≡ false)
waits_by true true false e = (refl, refl)
waits_by true true true e = absurd (let both : false ≡ true = e in cc both)
waits_by true false heard e = absurd (let both : false ≡ true = e in cc both)
waits_by false awaits heard e = absurd (let both : false ≡ true = e in cc both)

free_by : (sends awaits heard : Bool) → sends ≡ true → (sends && awaits && not heard) ≡ false → (awaits ≡ false) ⊎ (heard ≡ true)
free_by true false heard is e = inl refl
free_by true true true is e = inr refl
free_by true true false is e = absurd (let both : true ≡ false = e in cc both)
free_by false awaits heard is e = absurd (let both : false ≡ true = is in cc both)

-- a head that came was read
pub waits_for_head : (cfg : Config) (d : Directions) (core : At) (past : Past) → (h : Hears cfg d past) → (BeginsWithHead cfg (asker_in h.served.asking) h.server.bytes → (answer_of d).heard ≡ true)
    → (wants_of (request_of d) (answer_of d) core).client_waits ≡ true → WaitsForHead cfg past
waits_for_head cfg d core past h read wants =
    let w = waits_by (is_sending core.phase) (request_of d).awaits (answer_of d).heard wants in
    record {
      served = h.served;
      awaits = sym h.awaits ∙ w.0;
      none = λ begins. (let both : true ≡ false = sym (read (subst (λ (c : Coming). BeginsWithHead cfg (asker_in h.served.asking) c.bytes) h.stream begins)) ∙ w.1 in cc both);
    }

pub waits_for_none : (cfg : Config) (d : Directions) (core : At) (past : Past) → (h : Hears cfg d past) → core.phase ≡ phase.Serving → ((answer_of d).heard ≡ true → HeadBegins cfg (asker_in h.served.asking) h.server)
    → (wants_of (request_of d) (answer_of d) core).client_waits ≡ false → WaitsForNone cfg past
waits_for_none cfg d core past h is came wants = by (free_by (is_sending core.phase) (request_of d).awaits (answer_of d).heard (ap is_sending is) wants)
  where
    by : ((request_of d).awaits ≡ false) ⊎ ((answer_of d).heard ≡ true) → WaitsForNone cfg past
    by (inl off) = record { served = h.served; free = inl (sym h.awaits ∙ off) }
    by (inr told) = record { served = h.served; free = inr (subst (λ (c : Coming). HeadBegins cfg (asker_in h.served.asking) c) (sym h.stream) (came told)) }

-- ---- while a server is to be opened

pub waits_opening : (d : Directions) (core : At) → core.phase ≡ phase.Opening → (answer_of d).heard ≡ false → (wants_of (request_of d) (answer_of d) core).client_waits ≡ (request_of d).awaits
waits_opening d core is told = ap (λ (f : Phase). is_sending f && (request_of d).awaits && not (answer_of d).heard) is ∙ ap (λ (b : Bool). (request_of d).awaits && not b) told ∙ and_true (request_of d).awaits
  where
    and_true : (b : Bool) → (b && true) ≡ b
    and_true true = refl
    and_true false = refl
