-- A reply of `return`, field by field.
use Rattle.std.proofs.Common.{◌≡◌, ℕ, zero, suc, ◌+◌, ◌≤◌, List, [], ◌∷◌, ◌++◌, Bool, true, false, cond, map, take, length, refl, sym, ap, ◌∙◌, subst, arith, add-one, append_assoc}
use Rattle.std.specs.Prelude.{◌&&◌, ◌||◌, Ok, Err, Option, Some, option_map, slice_get, sum_by, nat_le}
use Rattle.std.specs.List.{list_all, list_any, AllByRecursion}
use Rattle.std.proofs.lemmas.Bool.{le-leb, leb-true, false≢true}
use Rattle.std.proofs.lemmas.List.{append-nil, map-append}
use Rattle.std.proofs.lemmas.List.Sums.{sum_by-append, sum_by-cons}
use Rattle.std.proofs.lemmas.List.Folds.{list_all-append}
use Rattle.http_model.specs.declared.Why.{Why}
use Rattle.http_model.specs.declared.Why.TheVariants.{Room, Bytes}
use Rattle.http_model.specs.Block.{Block, Header, EndHeaders, weight}
use Rattle.http_model.specs.Blocks.{load, Fits, append_data}
use Rattle.http_model.specs.Head.{Field, Head, Message, line_block, header_block, head_blocks, front_blocks, message_blocks}
use Rattle.http_model.specs.Finish.{close_field}
use Rattle.http_model.specs.Refusal.{closing}
use Rattle.http_model.specs.Reply.{with_fields, reply_head}
use Rattle.header_ops.specs.Headers.{HasEnd, with_header}
use Rattle.px_bytes.specs.Blanks.{trimmed}
use Rattle.http_rules.specs.declared.rule.reply.Payload.{Payload}
use Rattle.http_rules.specs.declared.rule.reply.Hdr.{Hdr}
use Rattle.http_rules.specs.declared.action.stepped.Stepped.{Stepped}
use Rattle.http_rules.specs.declared.action.stepped.Stepped.TheVariants.{Done, Failed}
use Rattle.http_rules.specs.Action.Given.{Env, text_on}
use Rattle.http_rules.specs.Action.Replies.{fitting, payload_text, is_good_payload, is_good_type, is_good_hdr, hdr_field, type_by, length_by, returning, are_good_texts, returned}
use Rattle.http_rules.specs.Action.Written.{IsHead, IsPut, ArePut, IsEnded, IsReply, IsWritten, put_step}
use Rattle.http_rules.proofs.ActionLemmas.Fronts.{front_ends, front_with}

-- ---- what lists weigh

-- more fields weigh what they weigh
pub load_fields : (fields : List Field) (head : Head) → load (head_blocks (with_fields fields head)) ≡ load (head_blocks head) + sum_by weight (map header_block fields)
load_fields fields head =
    let both : map header_block (head.fields ++ fields) ≡ map header_block head.fields ++ map header_block fields = map-append header_block head.fields fields in
    let more : load (head_blocks (with_fields fields head)) ≡ weight (line_block head.line) + sum_by weight (map header_block (head.fields ++ fields) ++ EndHeaders ∷ []) =
    sum_by-cons weight (line_block head.line) (map header_block (head.fields ++ fields) ++ EndHeaders ∷ []) in
    let own : load (head_blocks head) ≡ weight (line_block head.line) + sum_by weight (map header_block head.fields ++ EndHeaders ∷ []) =
    sum_by-cons weight (line_block head.line) (map header_block head.fields ++ EndHeaders ∷ []) in
    omega (
      arith,
      more,
      own,
      sum_by-append weight (map header_block (head.fields ++ fields)) (EndHeaders ∷ []),
      sum_by-append weight (map header_block head.fields) (EndHeaders ∷ []),
      sum_by-append weight (map header_block head.fields) (map header_block fields),
      ap (λ (bs : List Block). sum_by weight bs) both,
    )

-- a head fits where it fits with a body behind it
pub bare_fits : (head : Head) (body : List ℕ) (size : ℕ) → Fits (front_blocks head body) size → Fits (head_blocks head) size
bare_fits head body size fits = omega (arith, fits, sum_by-append weight (head_blocks head) (append_data [] body))

-- ---- fields behind a head

-- one more behind fields
pub one_more : (fields : List Field) (field : Field) (head : Head) → head_blocks (with_fields (field ∷ []) (with_fields fields head)) ≡ head_blocks (with_fields (fields ++ field ∷ []) head)
one_more fields field head = ap (λ (fs : List Field). head_blocks (record { line = head.line; fields = fs })) (append_assoc head.fields fields (field ∷ []))

with_more : (name value : List ℕ) (head : Head) → with_header (Header name value) (head_blocks head) ≡ head_blocks (with_fields ((name, value) ∷ []) head)
with_more name value head =
    ap (with_header (Header name value)) (sym (append-nil (head_blocks head))) ∙ front_with name value head [] ∙ append-nil (head_blocks (with_fields ((name, value) ∷ []) head))

-- the blocks with a field behind those that were put
pub put_blocks : (name value : List ℕ) (fields : List Field) (head : Head) (old : List Block) → old ≡ head_blocks (with_fields fields head)
    → with_header (Header name value) old ≡ head_blocks (with_fields (fields ++ (name, value) ∷ []) head)
put_blocks name value fields head old is =
    ap (with_header (Header name value)) is ∙ with_more name value (with_fields fields head) ∙ one_more fields (name, value) head

-- the field was put
pub put : (size : ℕ) (name value : List ℕ) (fields : List Field) (head : Head) (old new : List Block) → IsPut size head fields true old
    → new ≡ with_header (Header name value) old → IsPut size head (fields ++ (name, value) ∷ []) true new
put size name value fields head old new is made = made ∙ put_blocks name value fields head old is

-- it does not fit
pub not_put : (size : ℕ) (name value : List ℕ) (fields : List Field) (head : Head) (old new : List Block) → IsPut size head fields true old
    → (Fits (with_header (Header name value) old) size → ⊥) → IsPut size head (fields ++ (name, value) ∷ []) false new
not_put size name value fields head old new is too fits = too (subst (λ (bs : List Block). Fits bs size) (sym (put_blocks name value fields head old is)) fits)

-- the blocks of a head with one more field are those of a head
pub head_with : (name value : List ℕ) (old new : List Block) → IsHead old → new ≡ with_header (Header name value) old → IsHead new
head_with name value old new h made =
    (with_fields ((name, value) ∷ []) h.0, made ∙ ap (with_header (Header name value)) h.1 ∙ with_more name value h.0)

-- the blocks of a head have an end of headers
pub head_ends : (blocks : List Block) → IsHead blocks → HasEnd blocks
head_ends blocks h = subst HasEnd (append-nil (head_blocks h.0) ∙ sym h.1) (front_ends h.0 [])

-- a front that fits with `connection: close` fits without it
pub open_fits : (head : Head) (body : List ℕ) (size : ℕ) → Fits (with_header (Header close_field.0 close_field.1) (front_blocks head body)) size → Fits (front_blocks head body) size
open_fits head body size fits =
    let closed = with_fields (close_field ∷ []) head in
    let same : load (with_header (Header close_field.0 close_field.1) (front_blocks head body)) ≡ load (front_blocks closed body) = ap load (front_with close_field.0 close_field.1 head body) in
    omega (
      arith,
      fits,
      same,
      sum_by-append weight (head_blocks head) (append_data [] body),
      sum_by-append weight (head_blocks closed) (append_data [] body),
      load_fields (close_field ∷ []) head,
    )

-- ---- the fields in turn

-- the items up to the next one
pub take_next : {A : Type 0} (xs : List A) (at : ℕ) (x : A) → slice_get xs at ≡ Some x → take (at + 1) xs ≡ take at xs ++ x ∷ []
take_next [] at x is = cc
take_next (y ∷ xs) zero x is = let same : y ≡ x = cc in ap (λ z. z ∷ []) same
take_next (y ∷ xs) (suc at) x is =
    let rest = take_next xs at x is in
    let next : take (suc at + 1) (y ∷ xs) ≡ y ∷ take (at + 1) xs = rw add-one (rw add-one refl) in
    next ∙ ap (λ zs. y ∷ zs) rest

-- an item that fails the test
pub one_fails : {A : Type 0} (p : A → Bool) (xs : List A) (at : ℕ) (x : A) → slice_get xs at ≡ Some x → p x ≡ false → list_all p xs ≡ false
one_fails p [] at x is fails = cc
one_fails p (y ∷ xs) zero x is fails = let same : y ≡ x = cc in ap (λ (b : Bool). b && list_all p xs) (ap p same ∙ fails)
one_fails p (y ∷ xs) (suc at) x is fails = by (p y) (one_fails p xs at x is fails)
  where
    by : (t : Bool) → list_all p xs ≡ false → (t && list_all p xs) ≡ false
    by true e = e
    by false e = refl

-- one that passes, behind others that do
pub one_passes : {A : Type 0} (p : A → Bool) (xs : List A) (x : A) → list_all p xs ≡ true → p x ≡ true → list_all p (xs ++ x ∷ []) ≡ true
one_passes p xs x all passes = list_all-append p xs (x ∷ []) ∙ ap (λ (b : Bool). b && list_all p (x ∷ [])) all ∙ ap (λ (b : Bool). b && true) passes

-- a test that no item of a list passes isn't passed by one of them
pub none_passes : {A : Type 0} (p : A → Bool) (xs : List A) (at : ℕ) (x : A) → slice_get xs at ≡ Some x → list_any p xs ≡ false → p x ≡ false
none_passes p [] at x is none = cc
none_passes p (y ∷ xs) zero x is none = let same : y ≡ x = cc in ap p (sym same) ∙ first (p y) none
  where
    first : (t : Bool) → (t || list_any p xs) ≡ false → t ≡ false
    first true e = absurd (false≢true (sym e))
    first false e = refl
none_passes p (y ∷ xs) (suc at) x is none = none_passes p xs at x is (behind (p y) none)
  where
    behind : (t : Bool) → (t || list_any p xs) ≡ false → list_any p xs ≡ false
    behind true e = absurd (false≢true (sym e))
    behind false e = e

-- what holds of each item holds of the one at a place
pub at_item : {A : Type 0} (P : A → Type 0) (xs : List A) (at : ℕ) (x : A) → slice_get xs at ≡ Some x → AllByRecursion P xs → P x
at_item P [] at x is all = cc
at_item P (y ∷ xs) zero x is all = let same : y ≡ x = cc in subst P same all.0
at_item P (y ∷ xs) (suc at) x is all = at_item P xs at x is all.1

-- the next field behind those that were put
pub next_put : (size room : ℕ) (env : Env) (head : Head) (hdrs : List Hdr) (at : ℕ) (hdr : Hdr) (name text : List ℕ) (fits : Bool) (blocks : List Block)
    → slice_get hdrs at ≡ Some hdr → name ≡ hdr.name → text ≡ text_on size env hdr.value
    → IsPut room head (map (hdr_field size env) (take at hdrs) ++ (name, trimmed text) ∷ []) fits blocks → IsPut room head (map (hdr_field size env) (take (at + 1) hdrs)) fits blocks
next_put size room env head hdrs at hdr name text fits blocks there named is put =
    let field : (name, trimmed text) ≡ hdr_field size env hdr = ap (λ (n : List ℕ). (n, trimmed text)) named ∙ ap (λ (t : List ℕ). (hdr.name, trimmed t)) is in
    let fields : map (hdr_field size env) (take at hdrs) ++ (name, trimmed text) ∷ [] ≡ map (hdr_field size env) (take (at + 1) hdrs) =
    ap (λ (f : Field). map (hdr_field size env) (take at hdrs) ++ f ∷ []) field
    ∙ sym (map-append (hdr_field size env) (take at hdrs) (hdr ∷ [])) ∙ ap (map (hdr_field size env)) (sym (take_next hdrs at hdr there))
    in
    subst (λ (fs : List Field). IsPut room head fs fits blocks) fields put

-- all fields
pub all_put : (size room : ℕ) (env : Env) (head : Head) (hdrs taken : List Hdr) (fits : Bool) (step : Stepped) (blocks : List Block) → taken ≡ hdrs → step ≡ put_step fits
    → list_all (is_good_hdr size env) taken ≡ true → IsPut room head (map (hdr_field size env) taken) fits blocks → ArePut size room env head hdrs step blocks
all_put size room env head hdrs taken fits step blocks all is good put =
    subst (λ (hs : List Hdr). ArePut size room env head hs step blocks) all (subst (λ (s : Stepped). ArePut size room env head taken s blocks) (sym is) (by fits put))
  where
    by : (t : Bool) → IsPut room head (map (hdr_field size env) taken) t blocks → ArePut size room env head taken (put_step t) blocks
    by true h = (good, h)
    by false h = (good, h)

-- ---- the whole reply

whole_is : (m : Message) → m.trailers ≡ [] → message_blocks m ≡ front_blocks m.head m.body
whole_is m none = ap (λ (ts : List Field). message_blocks (record { head = m.head; framing = m.framing; body = m.body; trailers = ts })) none ∙ append-nil (front_blocks m.head m.body)

closed_is : (m : Message) → m.trailers ≡ [] → message_blocks (closing m) ≡ with_header (Header close_field.0 close_field.1) (front_blocks m.head m.body)
closed_is m none = whole_is (closing m) none ∙ sym (front_with close_field.0 close_field.1 m.head m.body)

-- a reply that would not fit with `connection: close`
no_fit : (size : ℕ) (m : Message) (new : List Block) → (Fits (message_blocks (closing m)) size → ⊥) → IsWritten (fitting size m) (Failed Room) new
no_fit size m new too = at (nat_le (load (message_blocks (closing m))) size) (leb-true (load (message_blocks (closing m))) size)
  where
    at : (t : Bool) → (t ≡ true → load (message_blocks (closing m)) ≤ size) → IsWritten (cond t (Ok m) (Err Room)) (Failed Room) new
    at true e = absurd (too (e refl))
    at false e = refl

-- the body came behind its head, or would not fit
pub sent : (size : ℕ) (m : Message) (step : Stepped) (new : List Block) → m.trailers ≡ [] → IsEnded size m.head m.body step new → IsWritten (fitting size m) step new
sent size m Done new none h = at (nat_le (load (message_blocks (closing m))) size) (le-leb (load (message_blocks (closing m))) size fits)
  where
    fits : Fits (message_blocks (closing m)) size
    fits = subst (λ (bs : List Block). Fits bs size) (sym (closed_is m none)) h.1

    at : (t : Bool) → t ≡ true → IsWritten (cond t (Ok m) (Err Room)) Done new
    at true e = h.0 ∙ sym (whole_is m none)
    at false e = absurd (false≢true e)
sent size m (Failed Room) new none h = no_fit size m new (λ fits. h (subst (λ (bs : List Block). Fits bs size) (closed_is m none) fits))
sent size m (Failed Bytes) new none h = absurd h

-- a text is not good
pub bad_texts : (size status : ℕ) (content_type : Option (List ℕ)) (payload : Option Payload) (hdrs : List Hdr) (env : Env) (new : List Block) → are_good_texts size content_type payload hdrs env ≡ false
    → IsWritten (returned size status content_type payload hdrs env) (Failed Bytes) new
unfolding returned
bad_texts size status content_type payload hdrs env new bad = at (are_good_texts size content_type payload hdrs env) bad
  where
    m : Message
    m = returning status (type_by payload content_type) (payload_text size env payload) (map (hdr_field size env) hdrs)

    at : (t : Bool) → t ≡ false → IsWritten (cond t (fitting size m) (Err Bytes)) (Failed Bytes) new
    at true e = absurd (false≢true (sym e))
    at false e = refl

-- all are
pub good_texts : (size status : ℕ) (content_type : Option (List ℕ)) (payload : Option Payload) (hdrs : List Hdr) (env : Env) (step : Stepped) (new : List Block) → are_good_texts size content_type payload hdrs env ≡ true
    → IsWritten (fitting size (returning status (type_by payload content_type) (payload_text size env payload) (map (hdr_field size env) hdrs))) step new
    → IsWritten (returned size status content_type payload hdrs env) step new
unfolding returned
good_texts size status content_type payload hdrs env step new good came = at (are_good_texts size content_type payload hdrs env) good
  where
    m : Message
    m = returning status (type_by payload content_type) (payload_text size env payload) (map (hdr_field size env) hdrs)

    at : (t : Bool) → t ≡ true → IsWritten (cond t (fitting size m) (Err Bytes)) step new
    at true e = came
    at false e = absurd (false≢true e)

pub all_three : (a b c : Bool) → a ≡ true → b ≡ true → c ≡ true → (a && (b && c)) ≡ true
all_three true true true x y z = refl
all_three false b c x y z = absurd (false≢true x)
all_three true false c x y z = absurd (false≢true y)
all_three true true false x y z = absurd (false≢true z)

pub first_bad : (a b : Bool) → a ≡ false → (a && b) ≡ false
first_bad false b x = refl
first_bad true b x = absurd (false≢true (sym x))

pub second_bad : (a b c : Bool) → b ≡ false → (a && (b && c)) ≡ false
second_bad false b c x = refl
second_bad true false c x = refl
second_bad true true c x = absurd (false≢true (sym x))

pub third_bad : (a b c : Bool) → c ≡ false → (a && (b && c)) ≡ false
third_bad false b c x = refl
third_bad true false c x = refl
third_bad true true false x = refl
third_bad true true true x = absurd (false≢true (sym x))

-- the head that a reply begins with, by what its code hands over
pub record Begins (size status : ℕ) (env : Env) (content_type : Option (List ℕ)) (payload : Option Payload) (typed : Option (List ℕ)) (body : List ℕ) (told : Option ℕ) : Type 0 where
  pub type_is : typed ≡ type_by payload content_type
  pub good_type : is_good_type typed ≡ true
  pub body_is : body ≡ payload_text size env payload
  pub good_payload : is_good_payload size env payload ≡ true
  pub told_is : told ≡ length_by status (length body)

head_is : (size status : ℕ) (env : Env) (content_type : Option (List ℕ)) (payload : Option Payload) (typed : Option (List ℕ)) (body : List ℕ) (told : Option ℕ) → Begins size status env content_type payload typed body told
    → reply_head status (option_map trimmed typed) told ≡ reply_head status (option_map trimmed (type_by payload content_type)) (length_by status (length (payload_text size env payload)))
head_is size status env content_type payload typed body told b =
    ap (λ (t : Option (List ℕ)). reply_head status (option_map trimmed t) told) b.type_is
    ∙ ap (λ (n : Option ℕ). reply_head status (option_map trimmed (type_by payload content_type)) n) (b.told_is ∙ ap (λ (bs : List ℕ). length_by status (length bs)) b.body_is)

texts_good : (size status : ℕ) (env : Env) (content_type : Option (List ℕ)) (payload : Option Payload) (hdrs : List Hdr) (typed : Option (List ℕ)) (body : List ℕ) (told : Option ℕ) → Begins size status env content_type payload typed body told
    → list_all (is_good_hdr size env) hdrs ≡ true → are_good_texts size content_type payload hdrs env ≡ true
texts_good size status env content_type payload hdrs typed body told b all =
    all_three (is_good_payload size env payload) (is_good_type (type_by payload content_type)) (list_all (is_good_hdr size env) hdrs)
    b.good_payload (ap is_good_type (sym b.type_is) ∙ b.good_type) all

-- what the fields, and the body behind them, make of a reply
pub ended_reply : (size room : ℕ) (env : Env) (head : Head) (hdrs : List Hdr) (body : List ℕ) (step : Stepped) (mid new : List Block) → ArePut size room env head hdrs Done mid
    → ((h : Head) → mid ≡ head_blocks h → IsEnded room h body step new) → IsReply size room env head hdrs body step new
ended_reply size room env head hdrs body Done mid new put end = (put.0, end (with_fields (map (hdr_field size env) hdrs) head) put.1)
ended_reply size room env head hdrs body (Failed Room) mid new put end = (put.0, end (with_fields (map (hdr_field size env) hdrs) head) put.1)
ended_reply size room env head hdrs body (Failed Bytes) mid new put end = absurd (end (with_fields (map (hdr_field size env) hdrs) head) put.1)

pub failed_reply : (size room : ℕ) (env : Env) (head : Head) (hdrs : List Hdr) (body : List ℕ) (why : Why) (new : List Block) → ArePut size room env head hdrs (Failed why) new
    → IsReply size room env head hdrs body (Failed why) new
failed_reply size room env head hdrs body Room new put =
    let full = with_fields (map (hdr_field size env) hdrs) head in
    (put.0, λ fits. put.1 (bare_fits full body room (open_fits full body room fits)))
failed_reply size room env head hdrs body Bytes new put = put

-- the fields of a head that was begun, as one step told
pub begun_put : (size room begun_room : ℕ) (env : Env) (head : Head) (hdrs : List Hdr) (fits : Bool) (step told : Stepped) (old mid : List Block) → begun_room ≡ room → step ≡ told → IsPut room head [] fits old
    → (IsPut begun_room head [] fits old → ArePut size begun_room env head hdrs step mid) → ArePut size room env head hdrs told mid
begun_put size room begun_room env head hdrs fits step told old mid same is put fields =
    subst (λ (s : Stepped). ArePut size room env head hdrs s mid) is
    (subst (λ (n : ℕ). ArePut size n env head hdrs step mid) same (fields (subst (λ (n : ℕ). IsPut n head [] fits old) (sym same) put)))

-- a reply by the length and the bytes that its code hands over
pub told_reply : (size room status : ℕ) (env : Env) (typed : Option (List ℕ)) (told : Option ℕ) (hdrs : List Hdr) (given body : List ℕ) (step : Stepped) (new : List Block) → told ≡ length_by status (length given) → given ≡ body
    → IsReply size room env (reply_head status typed told) hdrs given step new → IsReply size room env (reply_head status typed (length_by status (length body))) hdrs body step new
told_reply size room status env typed told hdrs given body step new told_is given_is reply =
    subst (λ (bs : List ℕ). IsReply size room env (reply_head status typed (length_by status (length bs))) hdrs bs step new) given_is
    (subst (λ (n : Option ℕ). IsReply size room env (reply_head status typed n) hdrs given step new) told_is reply)

-- the reply is that of the action
pub reply_is : (size status : ℕ) (env : Env) (content_type : Option (List ℕ)) (payload : Option Payload) (hdrs : List Hdr) (typed : Option (List ℕ)) (body : List ℕ) (told : Option ℕ) (step : Stepped) (new : List Block)
    → Begins size status env content_type payload typed body told → IsReply size size env (reply_head status (option_map trimmed typed) told) hdrs body step new
    → IsWritten (returned size status content_type payload hdrs env) step new
reply_is size status env content_type payload hdrs typed body told step new b = by step
  where
    m : Message
    m = returning status (type_by payload content_type) (payload_text size env payload) (map (hdr_field size env) hdrs)

    as_sent : (s : Stepped) → IsEnded size (with_fields (map (hdr_field size env) hdrs) (reply_head status (option_map trimmed typed) told)) body s new → IsEnded size m.head m.body s new
    as_sent s h =
        subst (λ (bs : List ℕ). IsEnded size m.head bs s new) b.body_is
        (subst (λ (x : Head). IsEnded size (with_fields (map (hdr_field size env) hdrs) x) body s new) (head_is size status env content_type payload typed body told b) h)

    by : (s : Stepped) → IsReply size size env (reply_head status (option_map trimmed typed) told) hdrs body s new → IsWritten (returned size status content_type payload hdrs env) s new
    by Done h =
        good_texts size status content_type payload hdrs env Done new (texts_good size status env content_type payload hdrs typed body told b h.0) (sent size m Done new refl (as_sent Done h.1))
    by (Failed Room) h =
        good_texts size status content_type payload hdrs env (Failed Room) new (texts_good size status env content_type payload hdrs typed body told b h.0) (sent size m (Failed Room) new refl (as_sent (Failed Room) h.1))
    by (Failed Bytes) h =
        bad_texts size status content_type payload hdrs env new
        (third_bad (is_good_payload size env payload) (is_good_type (type_by payload content_type)) (list_all (is_good_hdr size env) hdrs) h)
