-- A head ends behind its empty line, and not before.
use Rattle.std.proofs.Common.{◌≡◌, ◌≢◌, ℕ, ◌+◌, ◌-◌, ◌<◌, ◌≤◌, Bool, true, false, cond, nat_eq, List, [], ◌∷◌, ◌++◌, length, drop, codes, Some, refl, sym, ap, subst, ◌∙◌, arith, append_assoc}
use lib.Pointwise.{pointwise, bytes_decides}
use Rattle.std.specs.List.{AllByRecursion, fold}
use Rattle.std.proofs.lemmas.List.{length-append, append-nil, drop-append-le, same_from_push}
use Rattle.std.proofs.lemmas.List.Prefix.{end_rest}
use Rattle.std.proofs.lemmas.Grind.{fold-append}
use Rattle.http_model.specs.Head.{Field}
use Rattle.http_model.specs.Spelling.{line_end, field_text, fields_text}
use Rattle.fcgi_model.specs.Application.{Application}
use Rattle.fcgi_model.specs.Head.{RequestHead, ends_head, framing_of}
use Rattle.fcgi_model.specs.Flow.{Asked, InHead, Behind, next, asked_behind, asked_headed, asked_framed, asked_with, asked_of}
use Rattle.http_model.specs.declared.Framing.{Framing}
use Rattle.fcgi_model.specs.Pairs.{pairs_of}
use Rattle.fcgi_model.specs.Records.{begin_record, params_of}
use Rattle.fcgi_model.specs.Body.{Place, Goes, body_at}
use Rattle.fcgi_lane.specs.Request.Spelled.{IsPlain, IsPlainField, IsPlainHead, spelling}
use Rattle.fcgi_lane.proofs.RequestLemmas.Feeding.{body_goes}
use Rattle.fcgi_lane.proofs.RequestLemmas.Translating.{asked_more}
use Rattle.fcgi_lane.proofs.RequestLemmas.Spelling.{field_line, field_plain, field_some, call_line, call_plain, in_lines, head_read}

off : (test : Bool) → (test ≡ true → ⊥) → test ≡ false
off true h = absurd (h refl)
off false h = refl

abbrev ending : List ℕ
ending = codes "\r\n\r\n"

is_ending : (bytes : List ℕ) → pointwise nat_eq ending bytes ≡ true → ending ≡ bytes
is_ending bytes h = (bytes_decides ending bytes).0 h

-- the last bytes of a text that ends a head
last_bytes : (xs ys : List ℕ) → length xs + length ys - 4 ≤ length xs → ends_head (xs ++ ys) ≡ true → drop (length xs + length ys - 4) xs ++ ys ≡ ending
last_bytes xs ys fits ends =
    let size : length (xs ++ ys) - 4 ≡ length xs + length ys - 4 = ap (λ (n : ℕ). n - 4) (length-append xs ys) in
    let same : ending ≡ drop (length (xs ++ ys) - 4) (xs ++ ys) = is_ending (drop (length (xs ++ ys) - 4) (xs ++ ys)) ends in
    sym (drop-append-le (length xs + length ys - 4) xs ys fits) ∙ ap (λ (n : ℕ). drop n (xs ++ ys)) (sym size) ∙ sym same

-- a byte that is no LF ends no head
other_byte : (xs : List ℕ) (b : ℕ) → b ≢ 10 → ends_head (xs ++ b ∷ []) ≡ false
other_byte xs b h = off (ends_head (xs ++ b ∷ [])) (λ ends.
    let fits : length xs + 1 - 4 ≤ length xs = omega arith in
    h (same_from_push (drop (length xs + 1 - 4) xs) (13 ∷ 10 ∷ 13 ∷ []) b 10 (last_bytes xs (b ∷ []) fits ends)).1)

-- a line that isn't empty ends none
other_line : (xs : List ℕ) (b : ℕ) → b ≢ 10 → ends_head (((xs ++ b ∷ []) ++ 13 ∷ []) ++ 10 ∷ []) ≡ false
other_line xs b h =
    let joined : ((xs ++ b ∷ []) ++ 13 ∷ []) ++ 10 ∷ [] ≡ xs ++ b ∷ 13 ∷ 10 ∷ [] = append_assoc (xs ++ b ∷ []) (13 ∷ []) (10 ∷ []) ∙ append_assoc xs (b ∷ []) (13 ∷ 10 ∷ []) in
    ap ends_head joined
    ∙ off (ends_head (xs ++ b ∷ 13 ∷ 10 ∷ [])) (λ ends.
    let fits : length xs + 3 - 4 ≤ length xs = omega arith in
    let front : List ℕ = drop (length xs + 3 - 4) xs in
    let all : ((front ++ b ∷ []) ++ 13 ∷ []) ++ 10 ∷ [] ≡ ending =
    append_assoc (front ++ b ∷ []) (13 ∷ []) (10 ∷ []) ∙ append_assoc front (b ∷ []) (13 ∷ 10 ∷ []) ∙ last_bytes xs (b ∷ 13 ∷ 10 ∷ []) fits ends in
    let less = (same_from_push ((front ++ b ∷ []) ++ 13 ∷ []) (13 ∷ 10 ∷ 13 ∷ []) 10 10 all).0 in
    let least = (same_from_push (front ++ b ∷ []) (13 ∷ 10 ∷ []) 13 13 less).0 in
    h (same_from_push front (13 ∷ []) b 10 least).1)

-- an empty line behind a line does
empty_line : (zs : List ℕ) → ends_head (zs ++ ending) ≡ true
empty_line zs = ap (pointwise nat_eq ending) (end_rest (zs ++ ending) ending zs refl)

-- ---- walking over lines

step : (application : Application) (seen : List ℕ) (b : ℕ) → ends_head (seen ++ b ∷ []) ≡ false → next application (InHead seen) b ≡ InHead (seen ++ b ∷ [])
step application seen b h = ap (λ (t : Bool). cond t (asked_behind application (seen ++ b ∷ [])) (InHead (seen ++ b ∷ []))) h

abbrev go : (application : Application) → Asked → List ℕ → Asked
go application asked bytes = fold (next application) asked bytes

return_is : (b : ℕ) → b ≡ 13 → b ≢ 10
return_is b is e = omega (arith, is, e)

walk : (application : Application) (seen : List ℕ) (b : ℕ) (bytes : List ℕ) → IsPlain b → AllByRecursion IsPlain bytes → go application (InHead seen) ((b ∷ bytes) ++ line_end) ≡ InHead (seen ++ ((b ∷ bytes) ++ line_end))
walk application seen b [] plain rest =
    let one : List ℕ = seen ++ b ∷ [] in
    ap (λ (a : Asked). go application a (13 ∷ 10 ∷ [])) (step application seen b (other_byte seen b plain.0))
    ∙ ap (λ (a : Asked). go application a (10 ∷ [])) (step application one 13 (other_byte one 13 (return_is 13 refl)))
    ∙ step application (one ++ 13 ∷ []) 10 (other_line seen b plain.0)
    ∙ ap InHead (append_assoc one (13 ∷ []) (10 ∷ []) ∙ append_assoc seen (b ∷ []) (13 ∷ 10 ∷ []))
walk application seen b (c ∷ bytes) plain rest =
    ap (λ (a : Asked). go application a ((c ∷ bytes) ++ line_end)) (step application seen b (other_byte seen b plain.0))
    ∙ walk application (seen ++ b ∷ []) c bytes rest.0 rest.1
    ∙ ap InHead (append_assoc seen (b ∷ []) ((c ∷ bytes) ++ line_end))

walk_line : (application : Application) (seen line : List ℕ) → 0 < length line → AllByRecursion IsPlain line → go application (InHead seen) (line ++ line_end) ≡ InHead (seen ++ (line ++ line_end))
walk_line application seen [] some plain = absurd (omega (arith, some))
walk_line application seen (b ∷ line) some plain = walk application seen b line plain.0 plain.1

-- the text ends with the end of a line
abbrev EndsLine : List ℕ → Type 0
EndsLine text = (front : List ℕ) × (text ≡ front ++ line_end)

behind_line : (seen line : List ℕ) → EndsLine (seen ++ (line ++ line_end))
behind_line seen line = (seen ++ line, sym (append_assoc seen line line_end))

walk_fields : (application : Application) (seen : List ℕ) (fields : List Field) → EndsLine seen → AllByRecursion IsPlainField fields
    → (go application (InHead seen) (fields_text fields) ≡ InHead (seen ++ fields_text fields)) × EndsLine (seen ++ fields_text fields)
walk_fields application seen [] ends plain = (ap InHead (sym (append-nil seen)), subst EndsLine (sym (append-nil seen)) ends)
walk_fields application seen (field ∷ fields) ends plain =
    let text : List ℕ = field_text field in
    let more : List ℕ = fields_text fields in
    let one : go application (InHead seen) text ≡ InHead (seen ++ text) = walk_line application seen (field_line field) (field_some field) (field_plain field plain.0) in
    let rest = walk_fields application (seen ++ text) fields (behind_line seen (field_line field)) plain.1 in
    let joined : (seen ++ text) ++ more ≡ seen ++ (text ++ more) = append_assoc seen text more in (
      fold-append (next application) (InHead seen) text more ∙ ap (λ (a : Asked). go application a more) one ∙ rest.0 ∙ ap InHead joined,
      subst EndsLine joined rest.1,
    )

walk_end : (application : Application) (seen : List ℕ) → EndsLine seen → go application (InHead seen) line_end ≡ asked_behind application (seen ++ line_end)
walk_end application seen ends =
    let joined : (seen ++ 13 ∷ []) ++ 10 ∷ [] ≡ seen ++ line_end = append_assoc seen (13 ∷ []) (10 ∷ []) in
    let whole : seen ++ line_end ≡ ends.0 ++ ending = ap (λ (t : List ℕ). t ++ line_end) ends.1 ∙ append_assoc ends.0 line_end line_end in
    let on : ends_head ((seen ++ 13 ∷ []) ++ 10 ∷ []) ≡ true = ap ends_head (joined ∙ whole) ∙ empty_line ends.0 in
    ap (λ (a : Asked). go application a (10 ∷ [])) (step application seen 13 (other_byte seen 13 (return_is 13 refl)))
    ∙ ap (λ (t : Bool). cond t (asked_behind application ((seen ++ 13 ∷ []) ++ 10 ∷ [])) (InHead ((seen ++ 13 ∷ []) ++ 10 ∷ []))) on
    ∙ ap (asked_behind application) joined

call_some : (head : RequestHead) → 0 < length (call_line head)
call_some head = omega (arith, length-append head.method (32 ∷ (head.target ++ codes " HTTP/1.1")))

pub head_asked : (application : Application) (head : RequestHead) → IsPlainHead head → asked_of application (spelling head) ≡ asked_headed application (Some head)
head_asked application head plain =
    let first : List ℕ = call_line head ++ line_end in
    let fields : List ℕ = fields_text head.fields in
    let one : go application (InHead []) first ≡ InHead first = walk_line application [] (call_line head) (call_some head) (call_plain head plain) in
    let two = walk_fields application first head.fields (call_line head, refl) plain.fields in
    let text : (first ++ fields) ++ line_end ≡ spelling head = append_assoc first fields line_end ∙ sym (in_lines head) in
    ap (go application (InHead [])) (in_lines head)
    ∙ fold-append (next application) (InHead []) first (fields ++ line_end)
    ∙ ap (λ (a : Asked). go application a (fields ++ line_end)) one
    ∙ fold-append (next application) (InHead first) fields line_end
    ∙ ap (λ (a : Asked). go application a line_end) two.0
    ∙ walk_end application (first ++ fields) two.1
    ∙ ap (asked_behind application) text
    ∙ ap (asked_headed application) (head_read head plain)

-- the head and the body behind it
pub request_asked : (application : Application) (head : RequestHead) (framing : Framing) (params text body : List ℕ) (to : Place) → IsPlainHead head → framing_of head.fields ≡ Some framing
    → params_of (pairs_of application head framing) ≡ Some params → Goes (body_at framing) text to body → asked_of application (spelling head ++ text) ≡ Behind (begin_record ++ params) body to
request_asked application head framing params text body to plain framed packed goes =
    asked_more application (spelling head) text
    ∙ ap (λ (a : Asked). go application a text) (head_asked application head plain ∙ ap (asked_framed application head) framed ∙ ap (asked_with (body_at framing)) packed)
    ∙ body_goes application (begin_record ++ params) [] (body_at framing) to text body goes
