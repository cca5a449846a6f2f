-- What is told of the first exchange of a connection: the rules that are reached with what they come to, and the status that the client is sent.
use Rattle.std.specs.Prelude.{◌≡◌, ℕ, List, [], ◌∷◌, ◌++◌, false, if◌then◌else◌, Option, Some, None, unwrap_or}
use Rattle.http_model.specs.Head.{StartLine, Head, Message, line_block}
use Rattle.http_model.specs.Reading.{Received, HeadReading}
use Rattle.http_model.specs.Reading as reading
use Rattle.http_model.specs.Refusal.{refusal}
use Rattle.h1_head.specs.Request.{RequestOf}
use Rattle.h1_head.specs.Response.{ResponseOf}
use Rattle.htx_view.specs.Lines.{status_in}
use Rattle.session_model.specs.Env.{Pass, Reply, Deny, Fail, Amended, Edited, Plain, request_env, response_env, reply_env, method_of}
use Rattle.session_model.specs.Meaning.{is_interim}
use Rattle.session_model.specs.Asking.{Asker, Forwarded, Asked, Nothing, Refused, Replied, Sends, asker_of, asked_of}
use Rattle.session_model.specs.Amending.{plain_refusal, reply_sent}
use Rattle.session_model.specs.Answering.{response_fits, response_declares_too_much, BeginsWithInterim}
use Rattle.px_sample.specs.Variables.{Variables, no_variables}
use Rattle.http_rules.specs.declared.config.Config.{Config}
use Rattle.http_rules.specs.Action.Given.{Env}
use Rattle.http_rules.specs.Lives.{answering}
use Rattle.http_rules.specs.Rules.{Comes, rules_of, after_of}
use Rattle.forward_core.specs.Meaning.Product.{meaning_of}
use Rattle.rec_format.specs.Entries.{ServerEntry}
use Rattle.rec_format.specs.Recorded.{Visit}
use Rattle.px_explain.specs.declared.trace.Which.TheVariants.{Request, Response, After}
use Rattle.px_explain.specs.Entry.{TraceEntry}
use Rattle.px_explain.specs.Told.{told}

-- an entry for each rule that is reached, and the status that the client is sent, none where nothing was asked
pub record Traced : Type 0 where
  pub lines : List TraceEntry
  pub answer : Option ℕ

-- the same with entries in front
abbrev pub behind_lines : List TraceEntry → Traced → Traced
behind_lines lines traced = record { lines = lines ++ traced.lines; answer = traced.answer }

-- the number of the status in a start line; no status line has the number 0
abbrev pub code_of : StartLine → ℕ
code_of line = unwrap_or (status_in (line_block line ∷ [])) 0

-- the status of the refusal on which no rule runs
abbrev pub plain_code : ℕ
plain_code = code_of plain_refusal.head.line

-- ---- what the client is sent

-- A reply, or a refusal: the rules on all that the client is sent run on it. Its status is the same whether the connection is kept or not.
abbrev pub replied : Config → Message → (method : List ℕ) → Variables → Traced
replied cfg m method vars =
    record {
      lines = told After cfg.limits.bufsize cfg.after (reply_env vars method m);
      answer = Some (code_of (reply_sent (meaning_of cfg) m method vars false).head.line);
    }

-- the refusal with this code
abbrev pub refused : Config → (code : ℕ) → (method : List ℕ) → Variables → Traced
refused cfg code method vars = replied cfg (refusal code) method vars

-- the status of a server's answer behind those rules: its own, or that of the plain refusal where a rule failed or the head is too long
abbrev pub answer_code : Config → Asker → Received → Amended Variables → ℕ
answer_code cfg asker received (Edited head vars) =
    if response_fits (meaning_of cfg) asker received head then code_of head.line else plain_code
answer_code cfg asker received Plain = plain_code

-- a server's answer that its rules passed: 502 where its declared length passes a limit
abbrev pub passed : Config → Asker → Received → Env → Traced
passed cfg asker received env =
    if response_declares_too_much (meaning_of cfg) received then refused cfg 502 asker.method env.vars
    else record {
      lines = told After cfg.limits.bufsize cfg.after env;
      answer = Some (answer_code cfg asker received (after_of cfg.limits.bufsize cfg.after env));
    }

-- what the rules' verdict on a server's final head comes to
abbrev pub judged : Config → Asker → Received → Comes → Traced
judged cfg asker received (Deny code env) = refused cfg code asker.method env.vars
judged cfg asker received (Fail why env) = refused cfg 500 asker.method env.vars
judged cfg asker received (Reply m env) = replied cfg m asker.method env.vars
judged cfg asker received (Pass env) = passed cfg asker received env

-- what a server's final head comes to, behind the lines of its rules
abbrev pub ruled : Config → Asker → (before : Variables) → Received → Traced
ruled cfg asker before received = of_env (response_env before asker.method received.head)
  where
    of_env : Env → Traced
    of_env env = behind_lines (told Response cfg.limits.bufsize cfg.response env) (judged cfg asker received (rules_of cfg.limits.bufsize cfg.response env))

-- what stands in the place of a server's final head comes to this: 502 where there is none
abbrev pub answered : Config → Asker → (before : Variables) → HeadReading → Traced
answered cfg asker before reading.Nothing = refused cfg 502 asker.method before
answered cfg asker before (reading.Refused code) = refused cfg 502 asker.method before
answered cfg asker before (reading.Begins received rest) = ruled cfg asker before received

-- ---- what is asked

-- it is no interim head
abbrev pub IsFinal : HeadReading → Type 0
IsFinal reading.Nothing = Unit {0}
IsFinal (reading.Refused code) = Unit {0}
IsFinal (reading.Begins received rest) = is_interim received.head ≡ false

-- what stands behind the interim heads is a reading of this stream, and comes to this
pub record Reads (cfg : Config) (asker : Asker) (before : Variables) (traced : Traced) (stream : List ℕ) : Type 0 where
  pub head : HeadReading
  pub reads : ResponseOf asker.head_asked cfg.limits stream head
  pub final : IsFinal head
  pub is : traced ≡ answered cfg asker before head

-- the answer of a server that gives this stream
pub record AnswerOf (cfg : Config) (asker : Asker) (vars : Variables) (stream : List ℕ) (traced : Traced) : Type 0 where
  pub heads : List Head
  pub begins : BeginsWithInterim (meaning_of cfg) asker heads stream (Reads cfg asker (answering vars) traced)

-- no server is there
abbrev pub unserved : Config → Forwarded Variables → Traced
unserved cfg f = refused cfg 503 (method_of f.head.line) (answering f.vars)

-- a head that goes to the first of these servers, of which a missing one is refused
abbrev pub Serves : Config → Forwarded Variables → List (Option ServerEntry) → Traced → Type 0
Serves cfg f [] traced = traced ≡ unserved cfg f
Serves cfg f (None ∷ servers) traced = traced ≡ unserved cfg f
Serves cfg f (Some entry ∷ servers) traced = AnswerOf cfg (asker_of f.received f.head) f.vars entry.stream.bytes traced

-- what is asked for comes to this
abbrev pub Answers : Config → Asked Variables → List (Option ServerEntry) → Traced → Type 0
Answers cfg Nothing servers traced = traced ≡ record { lines = []; answer = None }
Answers cfg (Refused code no_body method vars) servers traced = traced ≡ refused cfg code method (answering vars)
Answers cfg (Replied m no_body keep rest method vars) servers traced = traced ≡ replied cfg m method (answering vars)
Answers cfg (Sends f) servers traced = Serves cfg f servers traced

-- the entries of the rules on a request, of which none runs where no head was read
abbrev pub asking_lines : Config → HeadReading → List TraceEntry
asking_lines cfg reading.Nothing = []
asking_lines cfg (reading.Refused code) = []
asking_lines cfg (reading.Begins received rest) = told Request cfg.limits.bufsize cfg.request (request_env no_variables received.head)

-- What is told of the first exchange of a connection, whose request is taken as not cut.
pub record TraceOf (cfg : Config) (visit : Visit) (traced : Traced) : Type 0 where
  pub head : HeadReading
  pub reads : RequestOf cfg.limits visit.client.bytes head
  pub behind : Traced
  pub answers : Answers cfg (asked_of (meaning_of cfg) no_variables visit.client.ending head) visit.servers behind
  pub is : traced ≡ behind_lines (asking_lines cfg head) behind
