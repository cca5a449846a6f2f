-- What a head that the rules let pass asks for: its length, then its room, then its server.
use Rattle.std.proofs.Common.{◌≡◌, true, false, refl, sym, ap, ◌∙◌}
use Rattle.http_model.specs.Reading.{Received}
use Rattle.session_model.specs.Stream.{Stream}
use Rattle.session_model.specs.Env.{Verdict, Env, Pass, method_of}
use Rattle.session_model.specs.Meaning.{Meaning, declares_too_much, is_head_request}
use Rattle.session_model.specs.Asking.{Refused, Sends, asked_by, request_fits, forwards}

by_pass : (M : Meaning) (received : Received) (rest : Stream) (comes : Verdict M.Vars) (left : Env M.Vars) → comes ≡ Pass left
    → forwards M received left.head left.vars rest ≡ asked_by M received rest comes
by_pass M received rest comes left is = ap (λ (x : Verdict M.Vars). asked_by M received rest x) (sym is)

-- a declared length passes a limit
pub asks_long : (M : Meaning) (received : Received) (comes : Verdict M.Vars) (left : Env M.Vars) (vars : M.Vars) → comes ≡ Pass left → vars ≡ left.vars → declares_too_much M.request_filters received.declared ≡ true
    → (rest : Stream) → Refused 413 (is_head_request received.head) (method_of left.head.line) vars ≡ asked_by M received rest comes
asks_long M received comes left vars is same long = λ rest.
    let so : Refused 413 (is_head_request received.head) (method_of left.head.line) vars ≡ Refused 413 (is_head_request received.head) (method_of left.head.line) left.vars =
    ap (λ (x : M.Vars). Refused 413 (is_head_request received.head) (method_of left.head.line) x) same in
    let at : Refused 413 (is_head_request received.head) (method_of left.head.line) left.vars ≡ forwards M received left.head left.vars rest = rw long refl in
    so ∙ at ∙ by_pass M received rest comes left is

-- the finished head doesn't fit
pub asks_unfit : (M : Meaning) (received : Received) (comes : Verdict M.Vars) (left : Env M.Vars) (vars : M.Vars) → comes ≡ Pass left → vars ≡ left.vars → declares_too_much M.request_filters received.declared ≡ false
    → request_fits M received left.head ≡ false
    → (rest : Stream) → Refused 500 (is_head_request received.head) (method_of left.head.line) vars ≡ asked_by M received rest comes
asks_unfit M received comes left vars is same short unfit = λ rest.
    let so : Refused 500 (is_head_request received.head) (method_of left.head.line) vars ≡ Refused 500 (is_head_request received.head) (method_of left.head.line) left.vars =
    ap (λ (x : M.Vars). Refused 500 (is_head_request received.head) (method_of left.head.line) x) same in
    let at : Refused 500 (is_head_request received.head) (method_of left.head.line) left.vars ≡ forwards M received left.head left.vars rest = rw short (rw unfit refl) in
    so ∙ at ∙ by_pass M received rest comes left is

-- it goes to a server
pub asks_server : (M : Meaning) (received : Received) (comes : Verdict M.Vars) (left : Env M.Vars) → comes ≡ Pass left → declares_too_much M.request_filters received.declared ≡ false
    → request_fits M received left.head ≡ true
    → (rest : Stream) → Sends (record { received = received; head = left.head; vars = left.vars; rest = rest }) ≡ asked_by M received rest comes
asks_server M received comes left is short fits = λ rest.
    let at : Sends (record { received = received; head = left.head; vars = left.vars; rest = rest }) ≡ forwards M received left.head left.vars rest = rw short (rw fits refl) in
    at ∙ by_pass M received rest comes left is
