-- What a request asks for is told.
use Rattle.std.proofs.Common.{◌≡◌, ◌≤◌, ℕ, List, [], ◌∷◌, Bool, true, false, refl, sym, ap, subst, ◌∙◌}
use Rattle.std.specs.Prelude.{Option, Some, slice_get, nat_le, ◌↔◌}
use Rattle.std.proofs.lemmas.Bool.{le-leb, leb-true, false≢true}
use Rattle.http_model.specs.Block.{Block}
use Rattle.http_model.specs.Blocks.{load}
use Rattle.http_model.specs.declared.Framing.{Framing}
use Rattle.http_model.specs.declared.Why.{Why}
use Rattle.http_model.specs.Finish.{finish_request, request_framing}
use Rattle.http_model.specs.Head.{Head, Message, head_blocks}
use Rattle.http_model.specs.Reading.{Received}
use Rattle.session_model.specs.Stream.{Stream}
use Rattle.session_model.specs.Asking.{Forwarded, Asked, Sends, asker_of, forwards, asked_by, request_fits}
use Rattle.session_model.specs.Env.{Pass, Reply, Deny, Fail, request_env, method_of, method_in}
use Rattle.session_model.specs.Meaning.{declares_too_much}
use Rattle.px_sample.specs.Variables.{Variables}
use Rattle.http_rules.specs.declared.config.Config.{Config}
use Rattle.http_rules.specs.declared.action.side.Side.TheVariants as sides
use Rattle.http_rules.specs.Action.Given.{Env}
use Rattle.http_rules.specs.Action.Outcome.{IsAt}
use Rattle.http_rules.specs.Lives.{answering}
use Rattle.http_rules.specs.Rules.{Comes, rules_of}
use Rattle.forward_core.specs.declared.request.kept.Kept.{Kept}
use Rattle.forward_core.specs.Meaning.Product.{filters_of, meaning_of, replaces}
use Rattle.forward_core.specs.Request.Kept.{IsKept}
use Rattle.rec_format.specs.Entries.{ServerEntry}
use Rattle.rec_format.specs.Read.{servers as entries}
use Rattle.rec_format.specs.declared.record.ServerSpec.{ServerSpec}
use Rattle.px_explain.specs.declared.trace.Which.TheVariants.{Request}
use Rattle.px_explain.specs.declared.walk.Walk.{Walk}
use Rattle.px_explain.specs.Shown.{Adds}
use Rattle.px_explain.specs.Told.{told}
use Rattle.px_explain.specs.Traced.{AnswerOf, Serves, Answers, refused, replied}
use Rattle.px_explain.specs.Walked.{Tells, IsTold, IsToldBehind, IsMeant, IsAsker}
use Rattle.px_explain.specs.Walked as held
use Rattle.px_explain.proofs.Methods.{method_front}
use Rattle.px_explain.proofs.Walking.{tells_behind, refused_as, replied_as}

-- what is kept of a request is what its answer has to know
pub asker_kept : (received : Received) (left : Head) (kept : Kept) → IsKept received kept → IsAsker (asker_of received left) kept
asker_kept received left kept k = record { head_asked = sym k.head_asked; is_http_11 = sym k.is_http_11; keep = sym k.keep }

-- ---- the first server

-- the first of them
first_of : {X : Type 0} (list : List X) (x : X) → slice_get list 0 ≡ Some x → (rest : List X) × (list ≡ x ∷ rest)
first_of [] x is = cc
first_of (y ∷ list) x is = let same : y ≡ x = cc in (list, ap (λ z. z ∷ list) same)

-- it is there
pub served : (cfg : Config) (f : Forwarded Variables) (old new : Walk) (answer : ℕ) (list : List (Option ServerSpec)) (server : ServerSpec) → slice_get list 0 ≡ Some (Some server) → old.teller.vars ≡ f.vars
    → IsTold old new answer (AnswerOf cfg (asker_of f.received f.head) old.teller.vars server.stream.bytes) → IsTold old new answer (Serves cfg f (entries list))
served cfg f old new answer list server is vars t =
    let first = first_of list (Some server) is in
    subst (λ (l : List (Option ServerSpec)). IsTold old new answer (Serves cfg f (entries l))) (sym first.1)
    (record { traced = t.traced; tells = t.tells; is = subst (λ (v : Variables). AnswerOf cfg (asker_of f.received f.head) v server.stream.bytes t.traced) vars t.is })

-- ---- a request that its rules passed

module _ (cfg : Config) (received : Received) (left : Head) (rest : Stream) (old new : Walk) (answer : ℕ) (servers : List (Option ServerEntry)) (method : old.method.bytes ≡ method_of left.line) where
  refuses : (code : ℕ) → Tells old new answer (refused cfg code old.method.bytes (answering old.teller.vars)) → Tells old new answer (refused cfg code (method_of left.line) (answering old.teller.vars))
  refuses code t = refused_as cfg old new answer code old.method.bytes (method_of left.line) (answering old.teller.vars) (answering old.teller.vars) method refl t

  module _ (within : declares_too_much (filters_of cfg.req_filters) received.declared ≡ false) where
    pub too_long : request_fits (meaning_of cfg) received left ≡ false → Tells old new answer (refused cfg 500 old.method.bytes (answering old.teller.vars))
        → IsTold old new answer (Answers cfg (forwards (meaning_of cfg) received left old.teller.vars rest) servers)
    too_long e t = record { traced = refused cfg 500 (method_of left.line) (answering old.teller.vars); tells = refuses 500 t; is = rw within (rw e refl) }

    pub sends : request_fits (meaning_of cfg) received left ≡ true → IsTold old new answer (Serves cfg (record { received = received; head = left; vars = old.teller.vars; rest = rest }) servers)
        → IsTold old new answer (Answers cfg (forwards (meaning_of cfg) received left old.teller.vars rest) servers)
    sends e t =
        let same : forwards (meaning_of cfg) received left old.teller.vars rest ≡ Sends (record { received = received; head = left; vars = old.teller.vars; rest = rest }) = rw within (rw e refl) in
        subst (λ (a : Asked Variables). IsTold old new answer (Answers cfg a servers)) (sym same) t

-- whether the finished head fits
module _ (cfg : Config) (received : Received) (left : Head) (framing : Framing) (size : ℕ) (is : framing ≡ request_framing (replaces cfg.req_filters) received.framing) (sized : size ≡ cfg.limits.bufsize) where
  fits_so : nat_le (load (head_blocks (finish_request left framing))) size ≡ request_fits (meaning_of cfg) received left
  fits_so =
      ap (λ (f : Framing). nat_le (load (head_blocks (finish_request left f))) size) is
      ∙ ap (λ (n : ℕ). nat_le (load (head_blocks (finish_request left (request_framing (replaces cfg.req_filters) received.framing)))) n) sized

  pub fits : ((true ≡ true) ↔ (load (head_blocks (finish_request left framing)) ≤ size)) → request_fits (meaning_of cfg) received left ≡ true
  fits h = sym fits_so ∙ le-leb (load (head_blocks (finish_request left framing))) size (h.0 refl)

  pub fits_not : ((false ≡ true) ↔ (load (head_blocks (finish_request left framing)) ≤ size)) → request_fits (meaning_of cfg) received left ≡ false
  fits_not h = sym fits_so ∙ by (nat_le (load (head_blocks (finish_request left framing))) size) refl
    where
      by : (b : Bool) → nat_le (load (head_blocks (finish_request left framing))) size ≡ b → b ≡ false
      by false e = refl
      by true e = absurd (false≢true (h.1 (leb-true (load (head_blocks (finish_request left framing))) size e)))

-- ---- what the rules of a request come to

module _ (cfg : Config) (received : Received) (rest : Stream) (old mid new : Walk) (answer : ℕ) (servers : List (Option ServerEntry))
    (lines : Adds old.teller.trail mid.teller.trail (told Request cfg.limits.bufsize cfg.request (request_env old.teller.vars received.head))) where
  abbrev comes : Comes
  comes = rules_of cfg.limits.bufsize cfg.request (request_env old.teller.vars received.head)

  pub by_verdict : (c : Comes) → comes ≡ c → IsTold mid new answer (Answers cfg (asked_by (meaning_of cfg) received rest c) servers) → IsToldBehind cfg old new answer received rest servers
  by_verdict c is t = (
    t.traced,
    subst (λ (x : Comes). Answers cfg (asked_by (meaning_of cfg) received rest x) servers t.traced) (sym is) t.is,
    tells_behind old mid new answer (told Request cfg.limits.bufsize cfg.request (request_env old.teller.vars received.head)) t.traced lines t.tells,
  )

  module _ (left : Env) (blocks : List Block) (method : mid.method.bytes ≡ held.method_in blocks) (at : IsAt sides.Request left blocks mid.teller.vars) where
    method_left : mid.method.bytes ≡ method_in left
    method_left = let on : method_in left ≡ method_of left.head.line = rw at.on refl in method ∙ (method_front blocks left.head left.body at.blocks_are ∙ sym on)

    gone : answering mid.teller.vars ≡ answering left.vars
    gone = ap (λ (v : Variables). answering v) at.vars_are

    pub denied : (code : ℕ) → comes ≡ Deny code left → Tells mid new answer (refused cfg code mid.method.bytes (answering mid.teller.vars)) → IsToldBehind cfg old new answer received rest servers
    denied code is t =
        by_verdict (Deny code left) is (record {
          traced = refused cfg code (method_in left) (answering left.vars);
          tells = refused_as cfg mid new answer code mid.method.bytes (method_in left) (answering mid.teller.vars) (answering left.vars) method_left gone t;
          is = refl;
        })

    pub failed : (why : Why) → comes ≡ Fail why left → Tells mid new answer (refused cfg 500 mid.method.bytes (answering mid.teller.vars)) → IsToldBehind cfg old new answer received rest servers
    failed why is t =
        by_verdict (Fail why left) is (record {
          traced = refused cfg 500 (method_in left) (answering left.vars);
          tells = refused_as cfg mid new answer 500 mid.method.bytes (method_in left) (answering mid.teller.vars) (answering left.vars) method_left gone t;
          is = refl;
        })

    pub replied_to : (m : Message) → comes ≡ Reply m left → Tells mid new answer (replied cfg m mid.method.bytes (answering mid.teller.vars)) → IsToldBehind cfg old new answer received rest servers
    replied_to m is t =
        by_verdict (Reply m left) is (record {
          traced = replied cfg m (method_in left) (answering left.vars);
          tells = replied_as cfg mid new answer m mid.method.bytes (method_in left) (answering mid.teller.vars) (answering left.vars) method_left gone t;
          is = refl;
        })

    pub passed_on : comes ≡ Pass left → IsTold mid new answer (Answers cfg (forwards (meaning_of cfg) received left.head mid.teller.vars rest) servers) → IsToldBehind cfg old new answer received rest servers
    passed_on is t =
        by_verdict (Pass left) is (subst (λ (v : Variables). IsTold mid new answer (Answers cfg (forwards (meaning_of cfg) received left.head v rest) servers)) at.vars_are t)
