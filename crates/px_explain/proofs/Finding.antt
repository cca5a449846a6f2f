-- What a server's stream comes to, by what stands behind its interim heads.
use Rattle.std.proofs.Common.{◌≡◌, ℕ, List, [], ◌∷◌, refl, subst}
use Rattle.http_model.specs.Block.{Block}
use Rattle.http_model.specs.Head.{Head}
use Rattle.http_model.specs.Reading.{Received}
use Rattle.http_model.specs.Reading as reading
use Rattle.session_model.specs.Asking.{Asker}
use Rattle.session_model.specs.Answering.{BeginsWithInterim}
use Rattle.px_sample.specs.Variables.{Variables}
use Rattle.http_rules.specs.declared.config.Config.{Config}
use Rattle.http_rules.specs.Lives.{answering}
use Rattle.http_rules.specs.Run.{IsHead}
use Rattle.forward_core.specs.Meaning.Product.{meaning_of}
use Rattle.px_explain.specs.declared.heads.Head.{Head as FoundHead}
use Rattle.px_explain.specs.declared.heads.Found.TheVariants as found
use Rattle.px_explain.specs.declared.walk.Walk.{Walk}
use Rattle.px_explain.specs.Found.{StandsAs, IsLast, IsFoundFinal}
use Rattle.px_explain.specs.Traced.{Reads, AnswerOf, ruled, refused}
use Rattle.px_explain.specs.Walked.{Tells, IsTold}

module _ (cfg : Config) (asker : Asker) where
  -- a final head stands there
  pub record Last (head : FoundHead) (blocks : List Block) (heads : List Head) (stream : List ℕ) : Type 0 where
    pub received : Received
    pub stands : StandsAs received head blocks
    pub begins : (before : Variables) → BeginsWithInterim (meaning_of cfg) asker heads stream (Reads cfg asker before (ruled cfg asker before received))

  pub last_of : (head : FoundHead) (blocks : List Block) (heads : List Head) (stream : List ℕ) → BeginsWithInterim (meaning_of cfg) asker heads stream (IsLast cfg asker (found.Head head) blocks) → Last head blocks heads stream
  last_of head blocks [] stream h =
      record { received = h.0; stands = h.1; begins = λ before. record { head = reading.Begins h.0 h.3; reads = h.4; final = h.2; is = refl } }
  last_of head blocks (first ∷ heads) stream h =
      let l = last_of head blocks heads h.1 h.5 in
      record { received = l.received; stands = l.stands; begins = λ before. (h.0, h.1, h.2, h.3, h.4, l.begins before) }

  -- none does
  pub nothing_behind : (before : Variables) (blocks : List Block) (heads : List Head) (stream : List ℕ) → BeginsWithInterim (meaning_of cfg) asker heads stream (IsLast cfg asker found.Nothing blocks)
      → BeginsWithInterim (meaning_of cfg) asker heads stream (Reads cfg asker before (refused cfg 502 asker.method before))
  nothing_behind before blocks [] stream h = record { head = reading.Nothing; reads = h; final = tt; is = refl }
  nothing_behind before blocks (first ∷ heads) stream h = (h.0, h.1, h.2, h.3, h.4, nothing_behind before blocks heads h.1 h.5)

  pub refused_behind : (before : Variables) (code : ℕ) (blocks : List Block) (heads : List Head) (stream : List ℕ) → BeginsWithInterim (meaning_of cfg) asker heads stream (IsLast cfg asker (found.Refused code) blocks)
      → BeginsWithInterim (meaning_of cfg) asker heads stream (Reads cfg asker before (refused cfg 502 asker.method before))
  refused_behind before code blocks [] stream h = record { head = reading.Refused code; reads = h; final = tt; is = refl }
  refused_behind before code blocks (first ∷ heads) stream h = (h.0, h.1, h.2, h.3, h.4, refused_behind before code blocks heads h.1 h.5)

  -- the head in the array
  pub head_there : (head : FoundHead) (blocks : List Block) (stream : List ℕ) → IsFoundFinal cfg asker stream (found.Head head) blocks → IsHead blocks
  head_there head blocks stream h = let l = last_of head blocks h.0 stream h.1 in (l.received.head, l.stands.blocks_are)

  -- ---- it was told; the variables of the request's rules are gone

  module _ (old new : Walk) (answer : ℕ) (stream : List ℕ) (blocks : List Block) (now : Variables) (gone : now ≡ answering old.teller.vars) where
    pub told_head : (head : FoundHead) → IsFoundFinal cfg asker stream (found.Head head) blocks → ((received : Received) → StandsAs received head blocks → Tells old new answer (ruled cfg asker now received))
        → IsTold old new answer (AnswerOf cfg asker old.teller.vars stream)
    told_head head h tells =
        let l = last_of head blocks h.0 stream h.1 in
        record {
          traced = ruled cfg asker (answering old.teller.vars) l.received;
          tells = subst (λ (v : Variables). Tells old new answer (ruled cfg asker v l.received)) gone (tells l.received l.stands);
          is = record { heads = h.0; begins = l.begins (answering old.teller.vars) };
        }

    pub told_nothing : IsFoundFinal cfg asker stream found.Nothing blocks → Tells old new answer (refused cfg 502 asker.method (answering old.teller.vars)) → IsTold old new answer (AnswerOf cfg asker old.teller.vars stream)
    told_nothing h tells =
        record {
          traced = refused cfg 502 asker.method (answering old.teller.vars);
          tells = tells;
          is = record { heads = h.0; begins = nothing_behind (answering old.teller.vars) blocks h.0 stream h.1 };
        }

    pub told_refused : (code : ℕ) → IsFoundFinal cfg asker stream (found.Refused code) blocks → Tells old new answer (refused cfg 502 asker.method (answering old.teller.vars)) → IsTold old new answer (AnswerOf cfg asker old.teller.vars stream)
    told_refused code h tells =
        record {
          traced = refused cfg 502 asker.method (answering old.teller.vars);
          tells = tells;
          is = record { heads = h.0; begins = refused_behind (answering old.teller.vars) code blocks h.0 stream h.1 };
        }
