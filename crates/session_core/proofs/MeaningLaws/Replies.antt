-- How long refusals and replies are.
use Rattle.std.proofs.Common.{◌≡◌, ◌≢◌, ℕ, ◌+◌, ◌≤◌, List, [], ◌∷◌, ◌++◌, Bool, true, false, length, map, if◌then◌else◌, ap, subst, refl, arith, length-append}
use Rattle.std.proofs.lemmas.Bool.{leb-true}
use Rattle.std.proofs.lemmas.List.{map-append}
use Rattle.std.proofs.lemmas.List.Sums.{sum_by-append, sum_by-cons}
use Rattle.htx_model.specs.Block.{Block, Data, EndHeaders, weight}
use Rattle.htx_model.specs.Blocks.{load, append_data}
use Rattle.http_model.specs.declared.Framing.{Framing}
use Rattle.http_model.specs.declared.Framing.TheVariants.{Absent, Length, Chunked, ToClose}
use Rattle.http_model.specs.Finish.{close_field}
use Rattle.http_model.specs.Head.{Field, Head, Message, with_head, head_blocks, line_block, header_block, trailer_block, front_blocks, ended_trailers, message_blocks}
use Rattle.http_model.specs.Refusal.{refusal, closing}
use Rattle.http_model.specs.Spelling.{head_text, SpellsBody, SpellsBodyUnless, Spells}
use Rattle.session_model.specs.Env.{Amended, Edited, Plain, reply_env}
use Rattle.session_model.specs.Meaning.{Meaning}
use Rattle.session_model.specs.Amending.{closing_fits, amended, plain_refusal, reply_sent, refusal_sent}
use Rattle.session_core.specs.MeaningLaws.Bound.{IsShort, IsBounded}
use Rattle.session_core.proofs.MeaningLaws.Spelled.{head_within}

-- ---- a message whose framing is not chunked

body_short : (whole : Bool) (framing : Framing) (body : List ℕ) (trailers : List Field) (text : List ℕ) → framing ≢ Chunked → SpellsBody whole framing body trailers text → length text ≤ length body
body_short true Absent body trailers text n h = omega (arith, ap length h)
body_short true (Length k) body trailers text n h = omega (arith, ap length h)
body_short true ToClose body trailers text n h = omega (arith, ap length h)
body_short true Chunked body trailers text n h = absurd (n refl)
body_short false Absent body trailers text n h = omega (arith, ap length h)
body_short false (Length k) body trailers text n h = omega (arith, ap length h)
body_short false ToClose body trailers text n h = omega (arith, ap length h)
body_short false Chunked body trailers text n h = absurd (n refl)

unless_short : (no_body whole : Bool) (m : Message) (text : List ℕ) → m.framing ≢ Chunked → SpellsBodyUnless no_body whole m text → length text ≤ length m.body
unless_short true whole m text n h = omega (arith, ap length h)
unless_short false whole m text n h = body_short whole m.framing m.body m.trailers text n h

-- its text is no longer than its head's blocks weigh, and its body
unchunked_within : (whole no_body : Bool) (m : Message) (text : List ℕ) → m.framing ≢ Chunked → Spells whole no_body m text → length text ≤ load (head_blocks m.head) + length m.body
unchunked_within whole no_body m text n h =
    let a = head_within m.head in
    let b = unless_short no_body whole m h.body n h.spells_body in
    omega (arith, ap length h.spelled, length-append (head_text m.head) h.body)

-- ---- what a message weighs

data_weight : (body : List ℕ) → length body ≤ load (append_data [] body)
data_weight [] = omega arith
data_weight (x ∷ xs) =
    let e : load (append_data [] (x ∷ xs)) ≡ weight (Data (x ∷ xs)) + 0 = sum_by-cons weight (Data (x ∷ xs)) [] in
    let w : weight (Data (x ∷ xs)) ≡ 8 + length (x ∷ xs) = refl in
    omega arith

message_weight : (m : Message) → load (head_blocks m.head) + length m.body ≤ load (message_blocks m)
message_weight m =
    let d = data_weight m.body in
    let f : load (front_blocks m.head m.body) ≡ load (head_blocks m.head) + load (append_data [] m.body) = sum_by-append weight (head_blocks m.head) (append_data [] m.body) in
    let t : load (message_blocks m) ≡ load (front_blocks m.head m.body) + load (ended_trailers (map trailer_block m.trailers)) = sum_by-append weight (front_blocks m.head m.body) (ended_trailers (map trailer_block m.trailers)) in
    omega arith

-- one more field weighs more
closing_weight : (m : Message) → load (head_blocks m.head) ≤ load (head_blocks (closing m).head)
closing_weight m =
    let fields : List Block = map header_block m.head.fields in
    let more : List Block = map header_block (m.head.fields ++ close_field ∷ []) in
    let last : List Block = EndHeaders ∷ [] in
    let a : load (head_blocks m.head) ≡ weight (line_block m.head.line) + load (fields ++ last) = sum_by-cons weight (line_block m.head.line) (fields ++ last) in
    let b : load (fields ++ last) ≡ load fields + load last = sum_by-append weight fields last in
    let c : load (head_blocks (closing m).head) ≡ weight (line_block m.head.line) + load (more ++ last) = sum_by-cons weight (line_block m.head.line) (more ++ last) in
    let d : load (more ++ last) ≡ load more + load last = sum_by-append weight more last in
    let e : load more ≡ load (fields ++ map header_block (close_field ∷ [])) = ap load (map-append header_block m.head.fields (close_field ∷ [])) in
    let f : load (fields ++ map header_block (close_field ∷ [])) ≡ load fields + load (map header_block (close_field ∷ [])) = sum_by-append weight fields (map header_block (close_field ∷ [])) in
    omega arith

-- ---- what the client is sent

-- what the rules on all that the client is sent make of it, where the edited list fits
abbrev fitting_of : (M : Meaning) → Message → Amended M.Vars → Amended M.Vars
fitting_of M m (Edited head after) = if closing_fits M (with_head m head) then Edited head after else Plain
fitting_of M m Plain = Plain

fits_of : (M : Meaning) (m : Message) (x : Amended M.Vars) (head : Head) (after : M.Vars) → fitting_of M m x ≡ Edited head after → closing_fits M (with_head m head) ≡ true
fits_of M m (Edited was behind) head after e = by (closing_fits M (with_head m was)) refl e
  where
    by : (b : Bool) → closing_fits M (with_head m was) ≡ b → (if b then Edited was behind else Plain) ≡ Edited head after → closing_fits M (with_head m head) ≡ true
    by true is e = let same : was ≡ head = cc in let P : Head → Type 0 = λ x. closing_fits M (with_head m x) ≡ true in subst P same is
    by false is e = cc
fits_of M m Plain head after e = cc

abbrev sent_by : (M : Meaning) → Message → (keep : Bool) → Amended M.Vars → Message
sent_by M m keep (Edited head after) = if keep then with_head m head else closing (with_head m head)
sent_by M m keep Plain = plain_refusal

sent_within : (M : Meaning) (m : Message) (x : Amended M.Vars) → ((head : Head) (after : M.Vars) → x ≡ Edited head after → closing_fits M (with_head m head) ≡ true) → IsShort M.limits.bufsize 500 → m.framing ≢ Chunked
    → (keep no_body : Bool) (text : List ℕ) → Spells true no_body (sent_by M m keep x) text → length text ≤ M.limits.bufsize
sent_within M m (Edited head after) fits plain n true no_body text s =
    let w = unchunked_within true no_body (with_head m head) text n s in
    let c = closing_weight (with_head m head) in
    let k = message_weight (closing (with_head m head)) in
    let f = leb-true (load (message_blocks (closing (with_head m head)))) M.limits.bufsize (fits head after refl) in
    omega arith
sent_within M m (Edited head after) fits plain n false no_body text s =
    let w = unchunked_within true no_body (closing (with_head m head)) text n s in
    let k = message_weight (closing (with_head m head)) in
    let f = leb-true (load (message_blocks (closing (with_head m head)))) M.limits.bufsize (fits head after refl) in
    omega arith
sent_within M m Plain fits plain n keep no_body text s = plain no_body text s

pub reply_within : (M : Meaning) → IsBounded M → (m : Message) (method : List ℕ) (vars : M.Vars) (keep no_body : Bool) (text : List ℕ) → m.framing ≢ Chunked
    → Spells true no_body (reply_sent M m method vars keep) text → length text ≤ M.limits.bufsize
reply_within M b m method vars keep no_body text n s =
    sent_within M m (amended M m method vars) (λ head after e. fits_of M m (M.after_rules (reply_env vars method m)) head after e) b.plain n keep no_body text s

pub refusal_within : (M : Meaning) → IsBounded M → (code : ℕ) (method : List ℕ) (vars : M.Vars) (no_body : Bool) (text : List ℕ)
    → Spells true no_body (refusal_sent M code method vars) text → length text ≤ M.limits.bufsize
refusal_within M b code method vars no_body text s =
    reply_within M b (refusal code) method vars false no_body text (λ e. absurd (grind (arith, e))) s
