-- A server's stream answers one last, however it goes on.
use Rattle.std.proofs.Common.{◌≡◌, ◌⊎◌, inl, inr, ℕ, List, ◌++◌, Bool, true, refl, sym, ◌∙◌, subst}
use Rattle.std.specs.Prelude.{Option, Some, is_some}
use Rattle.http_model.specs.declared.Ending.{Ending}
use Rattle.http_model.specs.Reading.{Received, HeadReading, Begins, Refused, Nothing}
use Rattle.px_sample.specs.Variables.{Variables}
use Rattle.http_rules.specs.declared.config.Config.{Config}
use Rattle.http_rules.specs.Lives.{answering}
use Rattle.forward_core.specs.Meaning.Product.{meaning_of}
use Rattle.session_model.specs.Stream.{Stream}
use Rattle.session_model.specs.Env.{response_env}
use Rattle.session_model.specs.Asking.{Asker}
use Rattle.session_model.specs.Answering.{Final, Refuses, AnswersReading, AnswersBy}
use Rattle.session_core.specs.History.{Coming}
use Rattle.session_core.specs.Sided.{Asking, asker_in}
use Rattle.lane.specs.declared.direction.stage.Stage.{Stage}
use Rattle.lane.specs.declared.direction.stage.Stage.TheVariants as stage
use Rattle.lane.specs.Answering.{Exchange, HeadsAt, HeadsCame, Reads, stage_of}
use Rattle.forward_core.specs.Answer.Stands.{IsAsker, IsFor, IsInHand}
use Rattle.forward_core.specs.Answer.HeadsRead.{ReadBefore}
use Rattle.forward_core.specs.Answer.Hearing.{IsBetween, FinalHead}
use Rattle.forward_core.specs.Answer.Judging.{Settles}
use Rattle.forward_core.specs.declared.answer.side.AnswerSide.{AnswerSide}
use Rattle.forward_core.proofs.AnswerLemmas.Heads.{More, more_of}
use Rattle.forward_core.proofs.AnswerLemmas.HeardLemmas.{heads_at, as_reads, as_came, not_sending, head_not_sending, read_before}
use Rattle.forward_core.proofs.AnswerLemmas.ReadLemmas.{InHeads}

-- ---- what follows the interim heads

-- what is left behind the interim heads, and how it reads
record ReadsBehind (cfg : Config) (asker : Asker) (server : Coming) (e : Exchange) (reading : List ℕ → HeadReading) : Type 0 where
  left : List ℕ
  came : HeadsCame asker.head_asked cfg.limits server.ending e.read e.bytes left
  reads : Reads asker.head_asked cfg.limits server.ending left reading

-- a last that each way in which the stream goes on answers, by how it reads
settled_by : (cfg : Config) (side : AnswerSide) (asking : Asking Variables) (server : Coming) (put : List ℕ) (last : Final Variables) (e : Exchange) (reading : List ℕ → HeadReading)
    → IsAsker side.asker (asker_in asking) → IsFor cfg side.lane → IsInHand (asker_in asking) side.lane server put e → ReadBefore side.heard cfg (asker_in asking) side.lane server → ReadsBehind cfg (asker_in asking) server e reading
    → ((more : List ℕ) (ending : Ending) → AnswersReading (meaning_of cfg) (asker_in asking) (answering asking.vars) ending (reading more) last) → Settles cfg side asking server put last
settled_by cfg side asking server put last e reading asks for h heard c answers =
    record {
      asks = asks;
      for_it = for;
      e = e;
      in_hand = h;
      left = c.left;
      came = c.came;
      heard = heard;
      answers = λ rest goes.
          let m : More server.ending c.left rest = more_of server.ending c.left rest goes in
          record {
            head = reading m.more;
            reads = subst (λ (xs : List ℕ). (meaning_of cfg).reads_response (asker_in asking).head_asked xs (reading m.more)) (sym m.bytes) (c.reads m.more m.over);
            answers = answers m.more rest.ending;
          };
    }

-- ---- no head is to be had

pub settles_refused : (cfg : Config) (side : AnswerSide) (asking : Asking Variables) (server : Coming) (put : List ℕ) → IsBetween side → stage_of side.lane ≡ stage.Done → (h : InHeads cfg side asking server put)
    → Settles cfg side asking server put (Refuses 502 (asker_in asking).method (answering asking.vars))
settles_refused cfg side asking server put b done h =
    let asker : Asker = asker_in asking in
    let at : HeadsAt stage.Done side.lane.lane h.e =
    subst (λ (st : Stage). HeadsAt st side.lane.lane h.e) done (heads_at side.lane h.e b.lane b.first (not_sending (stage_of side.lane) done) h.in_hand.answers) in
    let came = as_came cfg asker side.lane server put h.e h.for_it h.in_hand at.0 at.1 in
    by (read_before side.heard cfg asker side.lane server h.for_it b.lane b.first done h.heard) at.0 came at.2
  where
    by : ReadBefore side.heard cfg (asker_in asking) side.lane server → (left : List ℕ) → HeadsCame (asker_in asking).head_asked cfg.limits server.ending h.e.read h.e.bytes left
        → (Reads h.e.asked side.lane.lane.limits side.lane.lane.ended left (λ more. Refused 502) ⊎ ((is_some side.lane.lane.ended ≡ true) × Reads h.e.asked side.lane.lane.limits side.lane.lane.ended left (λ more. Nothing)))
        → Settles cfg side asking server put (Refuses 502 (asker_in asking).method (answering asking.vars))
    by heard left came (inl refused) =
        settled_by cfg side asking server put _ h.e (λ more. Refused 502) h.asks h.for_it h.in_hand heard
        (record { left = left; came = came; reads = as_reads cfg (asker_in asking) side.lane server put h.e h.for_it h.in_hand left (λ more. Refused 502) refused }) (λ more ending. refl)
    by heard left came (inr nothing) =
        settled_by cfg side asking server put _ h.e (λ more. Nothing) h.asks h.for_it h.in_hand heard
        (record { left = left; came = came; reads = as_reads cfg (asker_in asking) side.lane server put h.e h.for_it h.in_hand left (λ more. Nothing) nothing.1 }) (λ more ending. refl)

-- ---- a final head

same_received : (o : Option Received) (a b : Received) → o ≡ Some a → o ≡ Some b → a ≡ b
same_received o a b e f = let both : Some a ≡ Some b = sym e ∙ f in cc

-- what it answers is settled where that does not hang on what follows the head
pub settles_head : (cfg : Config) (side : AnswerSide) (asking : Asking Variables) (server : Coming) (put : List ℕ) (received : Received) (last : Final Variables) → IsBetween side → stage_of side.lane ≡ stage.Head
    → FinalHead cfg side asking server put received
    → ((rest : Stream) → AnswersBy (meaning_of cfg) (asker_in asking) received rest ((meaning_of cfg).response_rules (response_env (answering asking.vars) (asker_in asking).method received.head)) last)
    → Settles cfg side asking server put last
settles_head cfg side asking server put received last b head f answers =
    let asker : Asker = asker_in asking in
    let r = f.read in
    let at : HeadsAt stage.Head side.lane.lane r.e =
    subst (λ (st : Stage). HeadsAt st side.lane.lane r.e) head (heads_at side.lane r.e b.lane b.first (head_not_sending (stage_of side.lane) head) r.in_hand.answers) in
    let got : at.0 ≡ received = same_received r.e.pending at.0 received at.2 r.pending in
    let reading : Received → List ℕ → HeadReading = λ g more. Begins g (side.lane.lane.input.items ++ more) in
    settled_by cfg side asking server put last r.e (reading received) r.asks r.for_it r.in_hand
    (subst (λ (b : Bool). ReadBefore b cfg asker side.lane server) (sym r.is_heard) r.has_read)
    (record {
      left = at.1;
      came = as_came cfg asker side.lane server put r.e r.for_it r.in_hand at.1 at.3;
      reads = subst (λ (g : Received). Reads asker.head_asked cfg.limits server.ending at.1 (reading g)) got (as_reads cfg asker side.lane server put r.e r.for_it r.in_hand at.1 (reading at.0) at.4);
    })
    (λ more ending. (f.is_final, answers (record { bytes = side.lane.lane.input.items ++ more; ending = ending })))
