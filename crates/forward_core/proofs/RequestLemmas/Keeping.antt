-- The fields of a head, as blocks.
use Rattle.std.proofs.Common.{◌≡◌, ℕ, List, [], ◌∷◌, ◌++◌, Bool, refl, ap, sym, ◌∙◌, map, ◌||◌}
use Rattle.std.specs.Prelude.{codes, ◌&&◌, not, Some}
use Rattle.std.specs.Str.{bytes_eq}
use Rattle.std.specs.List.{list_any}
use Rattle.htx_model.specs.Block.{Block, EndHeaders}
use Rattle.http_model.specs.Head.{Field, StartLine, RequestLine, StatusLine, header_block, head_blocks}
use Rattle.http_model.specs.Reading.{Received}
use Rattle.session_model.specs.Env.{method_of}
use Rattle.session_model.specs.Meaning.{version_of, is_http_11, is_bodiless}
use Rattle.htx_view.specs.Lines.{request_in}
use Rattle.http_model.specs.Fields.{has_field, is_named, same_name}
use Rattle.header_ops.specs.Headers.{is_header_named}
use Rattle.forward_core.specs.Request.Kept.{is_head_line, is_11_line, is_expectation, IsKept}

named_any : (name : List ℕ) (fields : List Field) → list_any (is_header_named name) (map header_block fields ++ EndHeaders ∷ []) ≡ has_field name fields
named_any name [] = refl
named_any name (f ∷ fs) = ap (λ (b : Bool). is_named name f || b) (named_any name fs)

continues_any : (fields : List Field) → list_any is_expectation (map header_block fields ++ EndHeaders ∷ []) ≡ list_any (λ (field : Field). is_named (codes "expect") field && same_name field.1 (codes "100-continue")) fields
unfolding is_expectation
continues_any [] = refl
continues_any (f ∷ fs) = ap (λ (b : Bool). (is_named (codes "expect") f && same_name f.1 (codes "100-continue")) || b) (continues_any fs)

-- the head of a request as blocks, with its fields
pub record RequestBlocks (line : StartLine) (fields : List Field) (blocks : List Block) : Type 0 where
  pub named : (name : List ℕ) → list_any (is_header_named name) blocks ≡ has_field name fields
  pub continues : list_any is_expectation blocks ≡ list_any (λ (field : Field). is_named (codes "expect") field && same_name field.1 (codes "100-continue")) fields

pub in_blocks : (line : StartLine) (fields : List Field) (method target version : List ℕ) → line ≡ RequestLine method target version → RequestBlocks line fields (head_blocks (record { line = line; fields = fields }))
unfolding is_expectation
in_blocks (RequestLine m t v) fields method target version e = record { named = λ name. named_any name fields; continues = continues_any fields }
in_blocks (StatusLine v s r) fields method target version e = absurd (cc)

-- the line of the head
request_line : (received : Received) (method target version : List ℕ) (blocks : List Block) → received.head.line ≡ RequestLine method target version → blocks ≡ head_blocks received.head → request_in blocks ≡ Some (method, target, version)
request_line received method target version blocks line is =
    ap request_in is ∙ ap (λ (l : StartLine). request_in (head_blocks (record { line = l; fields = received.head.fields }))) line

-- what is found in the array is what the head says
pub kept_is : (received : Received) (method target version : List ℕ) (blocks : List Block) (head_asked http_11 bodiless expects continues keep awaits : Bool)
    → received.head.line ≡ RequestLine method target version → blocks ≡ head_blocks received.head
    → head_asked ≡ is_head_line (request_in blocks) → http_11 ≡ is_11_line (request_in blocks) → bodiless ≡ is_bodiless received.framing
    → expects ≡ list_any (is_header_named (codes "expect")) blocks → continues ≡ list_any is_expectation blocks
    → keep ≡ (http_11 && not received.close && not expects) → awaits ≡ (http_11 && not bodiless && continues)
    → IsKept received (record { head_asked = head_asked; is_http_11 = http_11; keep = keep; awaits = awaits; is_bodiless = bodiless })
kept_is received method target version blocks head_asked http_11 bodiless expects continues keep awaits line is asked eleven absent named continued keeps_ awaits_ =
    let b = in_blocks received.head.line received.head.fields method target version line in
    let first : request_in blocks ≡ Some (method, target, version) = request_line received method target version blocks line is in
    let eleven_is : http_11 ≡ is_http_11 received.head = eleven ∙ ap is_11_line first ∙ ap (λ (l : StartLine). bytes_eq (version_of l) (codes "HTTP/1.1")) (sym line) in
    let named_is : expects ≡ has_field (codes "expect") received.head.fields = named ∙ ap (list_any (is_header_named (codes "expect"))) is ∙ b.named (codes "expect") in
    let continues_is = continued ∙ ap (list_any is_expectation) is ∙ b.continues in
    record {
      head_asked = asked ∙ ap is_head_line first ∙ ap (λ (l : StartLine). bytes_eq (method_of l) (codes "HEAD")) (sym line);
      is_http_11 = eleven_is;
      keep = keeps_ ∙ (λ i. (eleven_is i && not received.close && not (named_is i)));
      awaits = awaits_ ∙ (λ i. (eleven_is i && not (absent i) && continues_is i));
      is_bodiless = absent;
    }
