-- What rules run on, and what they come to.
use Rattle.std.specs.Prelude.{ℕ, List, [], Bool, true, false, if◌then◌else◌}
use Rattle.http_model.specs.declared.Why.{Why}
use Rattle.http_model.specs.Head.{Head, StartLine, RequestLine, StatusLine, Message}

-- The message so far and what is known beside it: whether it is a request, its head, the body bytes that stand in the array
-- behind the head, the method of the request that is answered (none for a request, whose head has it), and the variables.
-- No body stands behind a head that was read; a reply and a refusal have theirs.
pub record Env (Vars : Type 0) : Type 0 where
  pub is_request : Bool
  pub head : Head
  pub body : List ℕ
  pub method : List ℕ
  pub vars : Vars

-- a request's head, as its rules begin with it
abbrev pub request_env : {Vars : Type 0} → Vars → Head → Env Vars
request_env vars head = record { is_request = true; head = head; body = []; method = []; vars = vars }

-- the head of a server's answer to a request of this method
abbrev pub response_env : {Vars : Type 0} → Vars → (method : List ℕ) → Head → Env Vars
response_env vars method head = record { is_request = false; head = head; body = []; method = method; vars = vars }

-- a reply or a refusal in answer to a request of this method
abbrev pub reply_env : {Vars : Type 0} → Vars → (method : List ℕ) → Message → Env Vars
reply_env vars method m = record { is_request = false; head = m.head; body = m.body; method = method; vars = vars }

-- the environment with another head
abbrev pub env_with_head : {Vars : Type 0} → Env Vars → Head → Env Vars
env_with_head env head =
    record { is_request = env.is_request; head = head; body = env.body; method = env.method; vars = env.vars }

-- the environment with other variables
abbrev pub env_with_vars : {Vars : Type 0} → Env Vars → Vars → Env Vars
env_with_vars env vars =
    record { is_request = env.is_request; head = env.head; body = env.body; method = env.method; vars = vars }

-- the method in a start line, and nothing in that of an answer
abbrev pub method_of : StartLine → List ℕ
method_of (RequestLine method target version) = method
method_of (StatusLine version status reason) = []

-- the method of the request: the one in its head so far, or the one that is answered
abbrev pub method_in : {Vars : Type 0} → Env Vars → List ℕ
method_in env = if env.is_request then method_of env.head.line else env.method

-- What rules make of an environment: it goes on, a reply is sent, a refusal with a code is sent, or a step failed. Each has
-- the environment of that moment, and a failure the one in front of the failing step.
pub data Verdict (Vars : Type 0) : Type 0 where
  Pass : Env Vars → Verdict Vars
  Reply : Message → Env Vars → Verdict Vars
  Deny : (code : ℕ) → Env Vars → Verdict Vars
  Fail : Why → Env Vars → Verdict Vars

-- what the rules that run on all that the client is sent make of a head: the edited head and the variables, or plain
pub data Amended (Vars : Type 0) : Type 0 where
  Edited : Head → Vars → Amended Vars
  Plain : Amended Vars
