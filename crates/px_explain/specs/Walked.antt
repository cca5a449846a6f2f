-- What the code holds while it walks through an exchange.
use Rattle.std.specs.Prelude.{◌≡◌, ℕ, List, [], Bool, false, not, Option, Some, None, map}
use Rattle.http_model.specs.Block.{Block}
use Rattle.http_model.specs.Finish.{response_framing}
use Rattle.http_model.specs.Head.{Message, head_blocks, message_blocks}
use Rattle.http_model.specs.Reading.{Received}
use Rattle.htx_view.specs.Lines.{request_in}
use Rattle.session_model.specs.Asking.{Asker, asked_by}
use Rattle.session_model.specs.Env.{request_env}
use Rattle.session_model.specs.Answering.{declared_for}
use Rattle.session_model.specs.Stream.{Stream}
use Rattle.px_sample.specs.Variables.{no_variables}
use Rattle.http_rules.specs.declared.config.Config.{Config}
use Rattle.http_rules.specs.Action.Given.{Env}
use Rattle.http_rules.specs.Action.Outcome.{IsScratch}
use Rattle.http_rules.specs.Rules.{rules_of}
use Rattle.http_rules.specs.Valid.{IsValid}
use Rattle.forward_core.specs.declared.request.kept.Kept.{Kept}
use Rattle.forward_core.specs.Meaning.Product.{replaces, meaning_of}
use Rattle.rec_format.specs.Entries.{ServerEntry}
use Rattle.rec_format.specs.Recorded.{Visit}
use Rattle.px_explain.specs.declared.answering.Finish.{Finish}
use Rattle.px_explain.specs.declared.heads.Head.{Head as FoundHead}
use Rattle.htx_arena.specs.Layout.Contents.{Contents}
use Rattle.px_explain.specs.declared.trace.Trace.{Trace}
use Rattle.px_explain.specs.declared.trace.TraceLine.{TraceLine}
use Rattle.px_explain.specs.declared.trace.Which.TheVariants.{Request}
use Rattle.px_explain.specs.declared.walk.Walk.{Walk}
use Rattle.px_explain.specs.declared.trail.Trail.{Trail}
use Rattle.px_explain.specs.Entry.{TraceEntry, line_in}
use Rattle.px_explain.specs.Shown.{Adds}
use Rattle.px_explain.specs.Text.{IsBlockText}
use Rattle.px_explain.specs.Told.{told}
use Rattle.px_explain.specs.Traced.{Traced, behind_lines, Answers, TraceOf}

-- the trace has the lines and the status of what is told of this connection
abbrev pub IsTrace : Config → Visit → Trace → Type 0
IsTrace cfg visit trace = (traced : Traced) × TraceOf cfg visit traced × (trace.lines.items ≡ map line_in traced.lines) × (trace.answer ≡ traced.answer)

-- the text is that of what is told of this connection, with the arrays
abbrev pub IsBlockTrace : Config → Visit → List ℕ → Type 0
IsBlockTrace cfg visit text = (traced : Traced) × TraceOf cfg visit traced × IsBlockText traced text

-- the configuration is valid, and all is of its size
pub record IsReady (cfg : Config) (walk : Walk) : Type 0 where
  pub valid : IsValid cfg
  pub scratch : IsScratch cfg.limits.bufsize walk.teller.scratch
  pub msg : walk.msg.size ≡ cfg.limits.bufsize
  pub said : walk.said.size ≡ cfg.limits.bufsize
  pub method : walk.method.cap ≡ cfg.limits.bufsize

-- nothing was told, and the text is written or not
pub record IsEmpty (wanted : Bool) (trail : Trail) : Type 0 where
  pub lines : trail.lines.items ≡ []
  pub shows : trail.shows ≡ wanted
  pub text : trail.text ≡ []

-- what is told of a rule with this line, which would have needed this load where that is told, and left this array
abbrev pub entry_in : TraceLine → (wanted : Option ℕ) → Contents → TraceEntry
entry_in line wanted array = record { line = line; wanted = wanted; size = array.size; left = array.blocks }

-- nothing was done yet, and what is told goes behind this
pub record IsBegun (cfg : Config) (trail : Trail) (walk : Walk) : Type 0 where
  pub ready : IsReady cfg walk
  pub vars : walk.teller.vars ≡ no_variables
  pub told : walk.teller.trail ≡ trail
  pub none : walk.method.bytes ≡ []
  pub silent : walk.said.blocks ≡ []

-- the rest of the exchange was told: these entries behind those before, and this status
pub record Tells (old new : Walk) (answer : ℕ) (traced : Traced) : Type 0 where
  pub lines : Adds old.teller.trail new.teller.trail traced.lines
  pub status : Some answer ≡ traced.answer

-- the whole exchange of this connection was told behind what was told before
pub record IsTraced (cfg : Config) (old new : Trail) (answer : Option ℕ) (visit : Visit) : Type 0 where
  pub traced : Traced
  pub is_traced : TraceOf cfg visit traced
  pub lines : Adds old new traced.lines
  pub status : answer ≡ traced.answer

-- something with this property was told
pub record IsTold (old new : Walk) (answer : ℕ) (P : Traced → Type 0) : Type 0 where
  pub traced : Traced
  pub tells : Tells old new answer traced
  pub is : P traced

-- a message without trailers stands to be said
pub record IsReply (m : Message) (said : List Block) : Type 0 where
  pub blocks : said ≡ message_blocks m
  pub none : m.trailers ≡ []

-- the message that stands there
abbrev pub HasReply : List Block → Type 0
HasReply said = (m : Message) × IsReply m said

-- ---- requests

-- the method of a request line, and nothing where there is none
abbrev pub method_by : Option (List ℕ × List ℕ × List ℕ) → List ℕ
method_by (Some line) = line.0
method_by None = []

abbrev pub method_in : List Block → List ℕ
method_in blocks = method_by (request_in blocks)

-- what is kept of a head's body is its own
pub record IsMeant (received : Received) (head : FoundHead) : Type 0 where
  pub framing : head.framing ≡ received.framing
  pub declared : head.declared ≡ received.declared

-- what a head asks for was told, behind the lines of its rules
abbrev pub IsToldBehind : Config → (old new : Walk) → (answer : ℕ) → Received → (rest : Stream) → List (Option ServerEntry) → Type 0
IsToldBehind cfg old new answer received rest servers = of_env (request_env old.teller.vars received.head)
  where
    of_env : Env → Type 0
    of_env env =
        (behind : Traced) × Answers cfg (asked_by (meaning_of cfg) received rest (rules_of cfg.limits.bufsize cfg.request env)) servers behind
        × Tells old new answer (behind_lines (told Request cfg.limits.bufsize cfg.request env) behind)

-- ---- answers

-- what is kept of the request is what its answer has to know
pub record IsAsker (asker : Asker) (kept : Kept) : Type 0 where
  pub head_asked : asker.head_asked ≡ kept.head_asked
  pub is_http_11 : asker.is_http_11 ≡ kept.is_http_11
  pub keep : asker.keep ≡ kept.keep

-- the response is finished so by its filters
pub record Finishes (cfg : Config) (asker : Asker) (received : Received) (finish : Finish) : Type 0 where
  pub framing : finish.framing ≡ response_framing (replaces cfg.res_filters) asker.is_http_11 received.framing
  pub declared : finish.declared ≡ declared_for (meaning_of cfg) asker received
  pub close : finish.close ≡ not asker.keep

-- the head stands in the array, as the rules of responses left it
pub record IsLeft (asker : Asker) (env : Env) (walk : Walk) : Type 0 where
  pub answers : env.is_request ≡ false
  pub method : env.method ≡ asker.method
  pub body : env.body ≡ []
  pub blocks : walk.msg.blocks ≡ head_blocks env.head
  pub vars : walk.teller.vars ≡ env.vars
