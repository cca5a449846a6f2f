-- What rules make of a server's final head.
use Rattle.std.proofs.Common.{◌≡◌, ◌≢◌, ℕ, List, [], Bool, true, false, refl, sym, ap, ◌∙◌, subst}
use Rattle.std.proofs.lemmas.List.{append-nil}
use Rattle.std.proofs.lemmas.Bool.{false≢true}
use Rattle.htx_model.specs.Block.{Block}
use Rattle.http_model.specs.declared.Framing.{Framing}
use Rattle.http_model.specs.declared.Why.{Why}
use Rattle.http_model.specs.Head.{Head, Message, head_blocks, front_blocks, message_blocks, Field}
use Rattle.http_model.specs.Reading.{Received}
use Rattle.px_sample.specs.Variables.{Variables}
use Rattle.http_rules.specs.declared.action.side.Side.{Side}
use Rattle.http_rules.specs.declared.config.Config.{Config}
use Rattle.http_rules.specs.declared.verdict.Verdict.TheVariants as verdicts
use Rattle.http_rules.specs.Lives.{answering}
use Rattle.http_rules.specs.Run.{Leaves}
use Rattle.http_rules.specs.Action.Outcome.{IsOn}
use Rattle.http_rules.specs.Rules.{Comes}
use Rattle.forward_core.specs.Meaning.Product.{meaning_of}
use Rattle.forward_core.specs.Rules.Ruling.{AmendsHead, config_of}
use Rattle.session_model.specs.Stream.{Stream}
use Rattle.session_model.specs.Env.{Env, Verdict, Pass, Reply, Deny, Fail, Amended, Edited, response_env}
use Rattle.session_model.specs.Env as env
use Rattle.session_model.specs.Meaning.{Meaning}
use Rattle.session_model.specs.Asking.{Asker}
use Rattle.session_model.specs.Answering.{Final, Refuses, Replies, Plain, AnswersBy, response_declares_too_much, response_fits}
use Rattle.session_core.specs.History.{Coming}
use Rattle.session_core.specs.Sided.{Asking, asker_in}
use Rattle.forward_core.specs.Answer.Hearing.{FinalHead}
use Rattle.forward_core.specs.Answer.Judging.{Edits, Settles, Passes}
use Rattle.forward_core.specs.Answer.Stepping.{RunsFor}
use Rattle.forward_core.specs.declared.rules.rules.SessionRules.{SessionRules}
use Rattle.forward_core.specs.declared.answer.side.AnswerSide.{AnswerSide}
use denote.Ref.{Bor}
use Rattle.http_model.specs.declared.Framing.TheVariants as framing
use Rattle.http_model.specs.Spelling.{SpellsBody}
use Rattle.http_rules.specs.declared.action.side.Side.TheVariants.{Answer}
use Rattle.http_rules.specs.declared.verdict.Verdict.{Verdict as Told}
use Rattle.lane.specs.Answering.{blocks_of}
use Rattle.forward_core.specs.Answer.Status.{is_status_line}
use Rattle.forward_core.specs.Answer.Listed.{IsListed, IsSentAsItIs}
use Rattle.forward_core.proofs.AnswerLemmas.SettleLemmas.{settles_head}

-- ---- the rules on it

-- the rules of responses as they are run
pub same_rules : (a b : Config) (v w : Variables) (m n : List ℕ) (head : Head) → a ≡ b → v ≡ w → m ≡ n → (meaning_of a).response_rules (response_env v m head) ≡ (meaning_of b).response_rules (response_env w n head)
same_rules a b v w m n head e f g =
    let R : Config → Variables → List ℕ → Verdict Variables = λ c x y. (meaning_of c).response_rules (response_env x y head) in
    ap (λ c. R c v m) e ∙ ap (λ x. R b x m) f ∙ ap (λ y. R b w y) g

-- and those on all that the client is sent
pub same_after : (a b : Config) (v : Variables) (m n : List ℕ) (head : Head) → a ≡ b → m ≡ n → (meaning_of a).after_rules (response_env v m head) ≡ (meaning_of b).after_rules (response_env v n head)
same_after a b v m n head e g =
    let R : Config → List ℕ → Amended Variables = λ c y. (meaning_of c).after_rules (response_env v y head) in
    ap (λ c. R c m) e ∙ ap (λ y. R b y) g

pub denies : (side : Side) (comes : Comes) (told : ℕ) (blocks : List Block) (vars : Variables) (said : List Block) → Leaves side comes (verdicts.Deny told) blocks vars said → (at : Env Variables) × (comes ≡ Deny told at) × (vars ≡ at.vars)
denies side (Pass left) told blocks vars said h = absurd h
denies side (Reply m left) told blocks vars said h = absurd h
denies side (Deny code left) told blocks vars said h = (left, ap (λ c. Deny c left) (sym h.0), h.1.vars_are)
denies side (Fail why left) told blocks vars said h = absurd h

pub fails : (side : Side) (comes : Comes) (told : Why) (blocks : List Block) (vars : Variables) (said : List Block) → Leaves side comes (verdicts.Fail told) blocks vars said → (at : Env Variables) × (comes ≡ Fail told at) × (vars ≡ at.vars)
fails side (Pass left) told blocks vars said h = absurd h
fails side (Reply m left) told blocks vars said h = absurd h
fails side (Deny code left) told blocks vars said h = absurd h
fails side (Fail why left) told blocks vars said h = (left, ap (λ w. Fail w left) (sym h.0), h.1.vars_are)

pub replies_so : (side : Side) (comes : Comes) (blocks : List Block) (vars : Variables) (said : List Block) → Leaves side comes verdicts.Reply blocks vars said → (m : Message) × (at : Env Variables) × (comes ≡ Reply m at) × (vars ≡ at.vars) × (said ≡ message_blocks m)
replies_so side (Pass left) blocks vars said h = absurd h
replies_so side (Reply m left) blocks vars said h = (m, left, refl, h.0.vars_are, h.1)
replies_so side (Deny code left) blocks vars said h = absurd h
replies_so side (Fail why left) blocks vars said h = absurd h

pub passes_so : (side : Side) (comes : Comes) (blocks : List Block) (vars : Variables) (said : List Block) → Leaves side comes verdicts.Pass blocks vars said
    → (at : Env Variables) × (comes ≡ Pass at) × IsOn side at × (blocks ≡ front_blocks at.head at.body) × (vars ≡ at.vars)
passes_so side (Pass left) blocks vars said h = (left, refl, h.0.on, h.0.blocks_are, h.0.vars_are)
passes_so side (Reply m left) blocks vars said h = absurd h
passes_so side (Deny code left) blocks vars said h = absurd h
passes_so side (Fail why left) blocks vars said h = absurd h

-- ---- what they answer

by_verdict : (M : Meaning) (asker : Asker) (received : Received) (rest : Stream) (v w : Verdict M.Vars) (last : Final M.Vars) → v ≡ w → AnswersBy M asker received rest w last → AnswersBy M asker received rest v last
by_verdict M asker received rest v w last e a = subst (λ (x : Verdict M.Vars). AnswersBy M asker received rest x last) (sym e) a

pub answers_denied : (M : Meaning) (asker : Asker) (received : Received) (rest : Stream) (v : Verdict M.Vars) (code : ℕ) (at : Env M.Vars) (vars : M.Vars) → v ≡ Deny code at → vars ≡ at.vars → AnswersBy M asker received rest v (Refuses code asker.method vars)
answers_denied M asker received rest v code at vars e f = by_verdict M asker received rest v (Deny code at) (Refuses code asker.method vars) e (ap (λ (x : M.Vars). Refuses code asker.method x) f)

pub answers_failed : (M : Meaning) (asker : Asker) (received : Received) (rest : Stream) (v : Verdict M.Vars) (why : Why) (at : Env M.Vars) (vars : M.Vars) → v ≡ Fail why at → vars ≡ at.vars → AnswersBy M asker received rest v (Refuses 500 asker.method vars)
answers_failed M asker received rest v why at vars e f = by_verdict M asker received rest v (Fail why at) (Refuses 500 asker.method vars) e (ap (λ (x : M.Vars). Refuses 500 asker.method x) f)

pub answers_replied : (M : Meaning) (asker : Asker) (received : Received) (rest : Stream) (v : Verdict M.Vars) (m : Message) (at : Env M.Vars) (vars : M.Vars) → v ≡ Reply m at → vars ≡ at.vars → AnswersBy M asker received rest v (Replies m asker.method vars)
answers_replied M asker received rest v m at vars e f = by_verdict M asker received rest v (Reply m at) (Replies m asker.method vars) e (ap (λ (x : M.Vars). Replies m asker.method x) f)

-- a declared length that passes a limit
pub answers_long : (M : Meaning) (asker : Asker) (received : Received) (rest : Stream) (v : Verdict M.Vars) (at : Env M.Vars) (vars : M.Vars) → v ≡ Pass at → vars ≡ at.vars → response_declares_too_much M received ≡ true → AnswersBy M asker received rest v (Refuses 502 asker.method vars)
answers_long M asker received rest v at vars e f long =
    by_verdict M asker received rest v (Pass at) (Refuses 502 asker.method vars) e (let same : Refuses 502 asker.method vars ≡ Refuses 502 asker.method at.vars = ap (λ (x : M.Vars). Refuses 502 asker.method x) f in rw long same)

-- a rule on all that the client is sent fails
pub answers_plain : (M : Meaning) (asker : Asker) (received : Received) (rest : Stream) (v : Verdict M.Vars) (at : Env M.Vars) → v ≡ Pass at → response_declares_too_much M received ≡ false → M.after_rules at ≡ env.Plain → AnswersBy M asker received rest v Plain
answers_plain M asker received rest v at e short plain = by_verdict M asker received rest v (Pass at) Plain e (rw short (rw plain refl))

-- the finished head is too long
pub answers_unfit : (M : Meaning) (asker : Asker) (received : Received) (rest : Stream) (v : Verdict M.Vars) (at : Env M.Vars) (head : Head) (vars : M.Vars) → v ≡ Pass at → response_declares_too_much M received ≡ false → M.after_rules at ≡ Edited head vars
    → response_fits M asker received head ≡ false → AnswersBy M asker received rest v Plain
answers_unfit M asker received rest v at head vars e short edited unfit = by_verdict M asker received rest v (Pass at) Plain e (rw short (rw edited (rw unfit refl)))

-- ---- what passed

pub env_is : (at : Env Variables) (vars : Variables) (method : List ℕ) → at.is_request ≡ false → at.method ≡ method → at.body ≡ [] → vars ≡ at.vars → at ≡ response_env vars method at.head
env_is at vars method on asked none same = λ i. record {
  is_request = on i;
  head = at.head;
  body = none i;
  method = asked i;
  vars = sym same i;
}

pub head_alone : (blocks : List Block) (head : Head) (body : List ℕ) → blocks ≡ front_blocks head body → body ≡ [] → blocks ≡ head_blocks head
head_alone blocks head body is none = is ∙ ap (λ b. front_blocks head b) none ∙ append-nil (head_blocks head)

-- what the rules on all that the client is sent leave of a head
pub edited_so : (amended : Amended Variables) (edited : Bool) (blocks : List Block) (vars : Variables) → edited ≡ true → AmendsHead amended edited blocks vars → (head : Head) × (amended ≡ Edited head vars) × (blocks ≡ head_blocks head)
edited_so (Edited head after) true blocks vars on h = (head, ap (λ (v : Variables). Edited head v) (sym h.1), h.0)
edited_so env.Plain true blocks vars on h = absurd h
edited_so amended false blocks vars on h = absurd (false≢true on)

pub plain_so : (amended : Amended Variables) (edited : Bool) (blocks : List Block) (vars : Variables) → edited ≡ false → AmendsHead amended edited blocks vars → amended ≡ env.Plain
plain_so (Edited head after) false blocks vars off h = absurd h
plain_so env.Plain false blocks vars off h = refl
plain_so amended true blocks vars off h = absurd (false≢true (sym off))

-- ---- each verdict on a final head

-- what the rules of responses come to on it, as they are run
abbrev pub ran : SessionRules → (method : List ℕ) → Head → Comes
ran rules method head = (meaning_of (config_of rules)).response_rules (response_env rules.vars method head)

-- and what that leaves
abbrev pub RanTo : SessionRules → Bor (List ℕ) → Head → Told → List Block → Variables → List Block → Type 0
RanTo rules method head told blocks vars said = Leaves (Answer method) (ran rules method.now head) told blocks vars said

-- the array holds a head where they pass
pub passed_head : (rules : SessionRules) (method : Bor (List ℕ)) (head : Head) (told : Told) (blocks : List Block) (vars : Variables) (said : List Block) → ((at : Env Variables) → ran rules method.now head ≡ Pass at → at.body ≡ [])
    → told ≡ verdicts.Pass → RanTo rules method head told blocks vars said → (h : Head) × (blocks ≡ head_blocks h)
passed_head rules method head told blocks vars said none is h =
    let d = passes_so (Answer method) (ran rules method.now head) blocks vars said (subst (λ (t : Told). RanTo rules method head t blocks vars said) is h) in
    (d.0.head, head_alone blocks d.0.head d.0.body d.3 (none d.0 d.1))

-- a reply of theirs, which stands to be said
pub record RepliesSo (rules : SessionRules) (method : List ℕ) (head : Head) (vars : Variables) (said : List Block) : Type 0 where
  pub message : Message
  pub at : Env Variables
  pub comes : ran rules method head ≡ Reply message at
  pub vars_are : vars ≡ at.vars
  pub said_is : said ≡ message_blocks message

pub replied_so : (rules : SessionRules) (method : Bor (List ℕ)) (head : Head) (told : Told) (blocks : List Block) (vars : Variables) (said : List Block) → told ≡ verdicts.Reply → RanTo rules method head told blocks vars said → RepliesSo rules method.now head vars said
replied_so rules method head told blocks vars said is h =
    let d = replies_so (Answer method) (ran rules method.now head) blocks vars said (subst (λ (t : Told). RanTo rules method head t blocks vars said) is h) in
    record { message = d.0; at = d.1; comes = d.2; vars_are = d.3; said_is = d.4 }

module _ (rules : SessionRules) (method : Bor (List ℕ)) (cfg : Config) (old mid : AnswerSide) (asking : Asking Variables) (server : Coming) (put : List ℕ) (received : Received) (vars : Variables) (said : List Block)
    (edits : Edits old mid) (f : FinalHead cfg old asking server put received) (runs : RunsFor rules method.now cfg asking) (before : rules.vars ≡ answering asking.vars) where
  as_asked : (meaning_of cfg).response_rules (response_env (answering asking.vars) (asker_in asking).method received.head) ≡ ran rules method.now received.head
  as_asked = sym (same_rules (config_of rules) cfg rules.vars (answering asking.vars) method.now (asker_in asking).method received.head runs.config before runs.asked)

  settles_as : (last : Final Variables) → ((rest : Stream) → AnswersBy (meaning_of cfg) (asker_in asking) received rest ((meaning_of cfg).response_rules (response_env (answering asking.vars) (asker_in asking).method received.head)) last) → Settles cfg mid asking server put last
  settles_as last answers = settles_head cfg mid asking server put received last edits.between edits.stage (edits.final cfg asking server put received f) answers

  pub judged_deny : (told : Told) (code : ℕ) → told ≡ verdicts.Deny code → RanTo rules method received.head told (blocks_of mid.lane) vars said → Settles cfg mid asking server put (Refuses code method.now vars)
  judged_deny told code is h =
      let d = denies (Answer method) (ran rules method.now received.head) code (blocks_of mid.lane) vars said (subst (λ (t : Told). RanTo rules method received.head t (blocks_of mid.lane) vars said) is h) in
      subst (λ (m : List ℕ). Settles cfg mid asking server put (Refuses code m vars)) (sym runs.asked)
      (settles_as (Refuses code (asker_in asking).method vars) (λ rest. answers_denied (meaning_of cfg) (asker_in asking) received rest _ code d.0 vars (as_asked ∙ d.1) d.2))

  pub judged_fail : (told : Told) (why : Why) → told ≡ verdicts.Fail why → RanTo rules method received.head told (blocks_of mid.lane) vars said → Settles cfg mid asking server put (Refuses 500 method.now vars)
  judged_fail told why is h =
      let d = fails (Answer method) (ran rules method.now received.head) why (blocks_of mid.lane) vars said (subst (λ (t : Told). RanTo rules method received.head t (blocks_of mid.lane) vars said) is h) in
      subst (λ (m : List ℕ). Settles cfg mid asking server put (Refuses 500 m vars)) (sym runs.asked)
      (settles_as (Refuses 500 (asker_in asking).method vars) (λ rest. answers_failed (meaning_of cfg) (asker_in asking) received rest _ why d.0 vars (as_asked ∙ d.1) d.2))

  pub judged_reply : (r : RepliesSo rules method.now received.head vars said) → Settles cfg mid asking server put (Replies r.message method.now vars)
  judged_reply r =
      subst (λ (m : List ℕ). Settles cfg mid asking server put (Replies r.message m vars)) (sym runs.asked)
      (settles_as (Replies r.message (asker_in asking).method vars) (λ rest. answers_replied (meaning_of cfg) (asker_in asking) received rest _ r.message r.at vars (as_asked ∙ r.comes) r.vars_are))

  pub judged_pass : (told : Told) → ((at : Env Variables) → ran rules method.now received.head ≡ Pass at → at.body ≡ []) → told ≡ verdicts.Pass → RanTo rules method received.head told (blocks_of mid.lane) vars said → Passes cfg mid asking received vars
  judged_pass told none is h =
      let d = passes_so (Answer method) (ran rules method.now received.head) (blocks_of mid.lane) vars said (subst (λ (t : Told). RanTo rules method received.head t (blocks_of mid.lane) vars said) is h) in
      let bare : d.0.body ≡ [] = none d.0 d.1 in
      record {
        head = d.0.head;
        blocks = head_alone (blocks_of mid.lane) d.0.head d.0.body d.3 bare;
        rules = as_asked ∙ d.1 ∙ ap (λ (x : Env Variables). Pass x) (env_is d.0 vars (asker_in asking).method d.2.0 (d.2.1 ∙ runs.asked) bare d.4);
      }

-- a message that rules reply stands as a list
as_it_is : (framed : Framing) (body : List ℕ) (trailers : List Field) → framed ≢ framing.Chunked → SpellsBody true framed body trailers body → IsSentAsItIs framed body
as_it_is framing.Absent body trailers off spells = spells
as_it_is (framing.Length n) body trailers off spells = tt
as_it_is framing.ToClose body trailers off spells = tt
as_it_is framing.Chunked body trailers off spells = absurd (off refl)

pub listed_by : (m : Message) → is_status_line m.head.line ≡ true → m.trailers ≡ [] → m.framing ≢ framing.Chunked → SpellsBody true m.framing m.body m.trailers m.body → IsListed m
listed_by m line none off spells = record { line = line; trailers = none; framed = as_it_is m.framing m.body m.trailers off spells }
