-- Texts that begin with a status.
use Rattle.std.specs.Prelude.{◌≡◌, ℕ, List, ◌∷◌, ◌++◌, Bool, true, false, Option, Some, codes}
use Rattle.std.proofs.Common.{refl, sym, ap, ◌∙◌, subst, append_assoc}
use Rattle.htx_view.specs.Lines.{status_number}
use Rattle.http_model.specs.Head.{Head, StartLine, RequestLine, StatusLine}
use Rattle.http_model.specs.Spelling.{head_text, line_text, fields_text}
use Rattle.session_core.specs.Sided.{Saying}
use Rattle.session_core.specs.Statuses.{BeginsWithStatus, SaysStatus}
use Rattle.lane.specs.Answering.{Exchange}
use Rattle.lane.specs.declared.response_lane.ResponseLane.{ResponseLane}
use Rattle.forward_core.specs.Answer.Stands.{IsSaid, list_text}
use Rattle.forward_core.specs.Answer.Status.{ShowsStatus, is_status_line, line_status, last_status}

-- a response has a status
pub record HasStatus (head : Head) : Type 0 where
  pub version : List ℕ
  pub status : List ℕ
  pub reason : List ℕ
  pub line : head.line ≡ StatusLine version status reason

pub has_status : (head : Head) → is_status_line head.line ≡ true → HasStatus head
has_status head h = by head.line refl h
  where
    by : (line : StartLine) → head.line ≡ line → is_status_line line ≡ true → HasStatus head
    by (RequestLine m t v) e is = absurd (let both : false ≡ true = is in cc both)
    by (StatusLine v s r) e is = record { version = v; status = s; reason = r; line = e }

pub told_number : (head : Head) (h : HasStatus head) → line_status head.line ≡ Some (status_number h.status)
told_number head h = ap line_status h.line

line_begins : (status more behind : List ℕ) → (codes "HTTP/1.1 " ++ status ++ 32 ∷ more) ++ behind ≡ codes "HTTP/1.1 " ++ status ++ 32 ∷ (more ++ behind)
line_begins status more behind = append_assoc (codes "HTTP/1.1 ") (status ++ 32 ∷ more) behind ∙ ap (λ xs. codes "HTTP/1.1 " ++ xs) (append_assoc status (32 ∷ more) behind)

pub begins_on : (text body : List ℕ) (code : ℕ) → BeginsWithStatus text code → BeginsWithStatus (text ++ body) code
begins_on text body code b =
    record { status = b.status; more = b.more ++ body; text_is = ap (λ xs. xs ++ body) b.text_is ∙ line_begins b.status b.more body; number = b.number }

-- the text of a response begins with its status
pub head_begins : (head : Head) (h : HasStatus head) → BeginsWithStatus (head_text head) (status_number h.status)
head_begins head h =
    let code : ℕ = status_number h.status in
    let front : List ℕ = codes "HTTP/1.1 " ++ h.status ++ 32 ∷ h.reason in
    let first : BeginsWithStatus front code = record { status = h.status; more = h.reason; text_is = refl; number = refl } in
    let line : BeginsWithStatus (line_text (StatusLine h.version h.status h.reason)) code = begins_on front (codes "\r\n") code first in
    let named : BeginsWithStatus (line_text head.line) code = subst (λ (l : StartLine). BeginsWithStatus (line_text l) code) (sym h.line) line in
    begins_on (line_text head.line ++ fields_text head.fields) (codes "\r\n") code (begins_on (line_text head.line) (fields_text head.fields) code named)

pub list_begins : (no_body : Bool) (head : Head) (body : List ℕ) (h : HasStatus head) → BeginsWithStatus (list_text no_body head body) (status_number h.status)
list_begins true head body h = head_begins head h
list_begins false head body h = begins_on (head_text head) body _ (head_begins head h)

-- ---- of what is said

pub says_status : (status : Option ℕ) (lane : ResponseLane) (e : Exchange) (saying : Saying) → ShowsStatus status lane e → IsSaid saying e → SaysStatus saying status
says_status status lane e saying shows s =
    let h : HasStatus s.head = has_status s.head s.line in
    let number : status ≡ Some (status_number h.status) = shows.told ∙ ap last_status s.last ∙ told_number s.head h in
    subst (λ (x : Option ℕ). SaysStatus saying x) (sym number)
    (subst (λ (text : List ℕ). BeginsWithStatus text (status_number h.status)) (sym s.text) (list_begins s.no_body s.head s.body h))
