-- The words of `return` as they are spelled, and read option by option.
use Rattle.std.proofs.Common.{◌≡◌, ℕ, zero, suc, ◌≤◌, true, false, List, [], ◌∷◌, ◌++◌, length, refl, sym, ap, ◌∙◌, append_assoc, arith}
use Rattle.std.proofs.lemmas.List.{append-nil}
use Rattle.std.specs.Prelude.{◌&&◌, Option, Some, None, is_some, codes}
use Rattle.std.specs.List.{list_all, flat_map, AllByRecursion}
use Rattle.std.specs.Fmt.{decimal}
use Rattle.log_format.specs.declared.fmt.Fmt.{Fmt}
use Rattle.http_rules.specs.declared.rule.reply.Payload.{Payload}
use Rattle.http_rules.specs.declared.rule.reply.Payload.TheVariants as payloads
use Rattle.http_rules.specs.declared.rule.reply.Hdr.{Hdr}
use Rattle.http_rules.specs.Rule.Valid.{IsMadeName, IsCode, IsGoodReturn, is_bodiless}
use Rattle.cfg_expr.specs.declared.side.Side.{Side}
use Rattle.cfg_expr.specs.Steps as steps
use Rattle.cfg_expr.specs.Reading.{plain, ◌>>=◌}
use Rattle.cfg_parse.specs.declared.action.returns.ReturnOptions.{ReturnOptions}
use Rattle.cfg_parse.specs.declared.action.parts.ActionParts.TheVariants as parts
use Rattle.cfg_parse.specs.Action.Faults.{Read, RuleReading, unless_none}
use Rattle.cfg_parse.specs.Action.Arguments.{Words}
use Rattle.cfg_parse.specs.Action.Asked.{format_at}
use Rattle.cfg_parse.specs.Action.Returns.{no_options, return_word, once, going_with, written_status, status_at, content_type_at, literal_at}
use Rattle.cfg_parse.specs.Action.ReturnOptions.{payload_format_at, written_hdr, hdr_at, return_option, return_options}
use Rattle.cfg_parse.specs.Action.Actions.{return_parts}
use Rattle.cfg_print.specs.Formats.{format_text}
use Rattle.cfg_print.specs.Actions.{type_words, payload_words, hdr_words, return_words}
use Rattle.cfg_laws.specs.SpelledActions.{is_spelled_payload, is_spelled_hdr, ends_action}
use Rattle.cfg_laws.specs.Laws.Formats.{format_patterns}
use Rattle.cfg_laws.specs.Laws.Rules.{payload_patterns, hdr_patterns}
use Rattle.cfg_laws.proofs.LawLemmas.Words.{both_left, both_right}
use Rattle.cfg_laws.proofs.LawLemmas.ActionWords.{gives, behind, left, told, code_back, made_name_back, format_read, by_sense}

-- the options of a return
abbrev pub replies : Option ℕ → Option (List ℕ) → Option Payload → List Hdr → ReturnOptions
replies status content_type payload hdrs = record { status = status; content_type = content_type; payload = payload; hdrs = hdrs }

-- the fields that a rule makes have names for it
abbrev AreMade : List Hdr → Type 0
AreMade hdrs = AllByRecursion (λ (hdr : Hdr). IsMadeName hdr.name) hdrs

-- ---- the end

no_word : (word : List ℕ) (others : Words) → ends_action (word ∷ others) ≡ true → return_word word ≡ None
unfolding return_word
no_word word others h = by_sense (λ w. return_word w ≡ None) word h refl refl

stops : (side : Side) (most : ℕ) (options : ReturnOptions) (rest : Words) → ends_action rest ≡ true → return_options side most options rest ≡ gives [] (left options rest)
unfolding return_options
stops side most options [] ends = refl
stops side zero options (word ∷ others) ends = refl
stops side (suc most) options (word ∷ others) ends =
    ap (λ w. unless_none w (gives [] (left options (word ∷ others))) (λ which. return_option side options which others >>= λ next. return_options side most next.0 next.1))
    (no_word word others ends)

-- ---- fields

abbrev field : List ℕ → Fmt → Hdr
field name value = record { name = name; value = value }

written_back : (side : Side) (hdr : Hdr) (more : Words) → IsMadeName hdr.name → is_spelled_hdr side hdr ≡ true → written_hdr side (hdr.name ∷ format_text hdr.value ∷ more) ≡ gives (hdr_patterns hdr) (left hdr more)
unfolding written_hdr
written_back side hdr more is h =
    ap (λ (r : Read (List ℕ × Words)). plain r >>= λ name. format_at side name.1 >>= λ f. plain (told (left (field name.0 f.0) f.1))) (made_name_back hdr.name (format_text hdr.value ∷ more) is)
    ∙ ap (λ (r : RuleReading (Fmt × Words)). r >>= λ f. plain (told (left (field hdr.name f.0) f.1))) (format_read side hdr.value more h)
    ∙ ap (λ asks. gives asks (left hdr more)) (append-nil (format_patterns hdr.value))

hdr_step : (side : Side) (most : ℕ) (status : Option ℕ) (content_type : Option (List ℕ)) (payload : Option Payload) (so_far : List Hdr) (hdr : Hdr) (more : Words) → IsMadeName hdr.name → is_spelled_hdr side hdr ≡ true
    → return_options side (suc most) (replies status content_type payload so_far) (codes "hdr" ∷ hdr.name ∷ format_text hdr.value ∷ more)
    ≡ behind (hdr_patterns hdr) (return_options side most (replies status content_type payload (so_far ++ hdr ∷ [])) more)
unfolding return_options return_word return_option hdr_at
hdr_step side most status content_type payload so_far hdr more is h =
    ap (λ (r : RuleReading (Hdr × Words)). (r >>= λ f. plain (told (left (replies status content_type payload (so_far ++ f.0 ∷ [])) f.1))) >>= λ next. return_options side most next.0 next.1) (written_back side hdr more is h)
    ∙ ap (λ asks. behind asks (return_options side most (replies status content_type payload (so_far ++ hdr ∷ [])) more)) (append-nil (hdr_patterns hdr))

-- fields are read back
hdrs_back : (side : Side) (most : ℕ) (status : Option ℕ) (content_type : Option (List ℕ)) (payload : Option Payload) (so_far hdrs : List Hdr) (rest : Words)
    → length (flat_map hdr_words hdrs ++ rest) ≤ most → AreMade hdrs → list_all (is_spelled_hdr side) hdrs ≡ true → ends_action rest ≡ true
    → return_options side most (replies status content_type payload so_far) (flat_map hdr_words hdrs ++ rest) ≡ gives (flat_map hdr_patterns hdrs) (left (replies status content_type payload (so_far ++ hdrs)) rest)
hdrs_back side most status content_type payload so_far [] rest few is h ends =
    stops side most (replies status content_type payload so_far) rest ends ∙ ap (λ all. gives [] (left (replies status content_type payload all) rest)) (sym (append-nil so_far))
hdrs_back side zero status content_type payload so_far (hdr ∷ hdrs) rest few is h ends = absurd (omega (arith, few))
hdrs_back side (suc most) status content_type payload so_far (hdr ∷ hdrs) rest few is h ends =
    let more = flat_map hdr_words hdrs ++ rest in
    hdr_step side most status content_type payload so_far hdr more is.0 (both_left (is_spelled_hdr side hdr) (list_all (is_spelled_hdr side) hdrs) h)
    ∙ ap (λ (r : RuleReading (ReturnOptions × Words)). behind (hdr_patterns hdr) r)
    (hdrs_back side most status content_type payload (so_far ++ hdr ∷ []) hdrs rest (omega (arith, few)) is.1 (both_right (is_spelled_hdr side hdr) (list_all (is_spelled_hdr side) hdrs) h) ends)
    ∙ ap (λ all. gives (flat_map hdr_patterns (hdr ∷ hdrs)) (left (replies status content_type payload all) rest)) (append_assoc so_far (hdr ∷ []) hdrs)

-- ---- the payload

literal_step : (side : Side) (most status : ℕ) (content_type : Option (List ℕ)) (text : List ℕ) (more : Words) → is_bodiless status ≡ false
    → return_options side (suc most) (replies (Some status) content_type None []) (codes "string" ∷ text ∷ more) ≡ behind [] (return_options side most (replies (Some status) content_type (Some (payloads.Literal text)) []) more)
unfolding return_options return_word return_option literal_at
literal_step side most status content_type text more sent =
    ap (λ t. plain (steps.◌>>=◌ (once t) (λ free. told (left (replies (Some status) content_type (Some (payloads.Literal text)) []) more))) >>= λ next. return_options side most next.0 next.1) sent

format_step : (side : Side) (most status : ℕ) (content_type : Option (List ℕ)) (fmt : Fmt) (more : Words) → is_bodiless status ≡ false → is_spelled_payload side (Some (payloads.Format fmt)) ≡ true
    → return_options side (suc most) (replies (Some status) content_type None []) (codes "lf-string" ∷ format_text fmt ∷ more)
    ≡ behind (format_patterns fmt) (return_options side most (replies (Some status) content_type (Some (payloads.Format fmt)) []) more)
unfolding return_options return_word return_option payload_format_at
format_step side most status content_type fmt more sent h =
    ap (λ t. (plain (once t) >>= λ free. format_at side (format_text fmt ∷ more) >>= λ f. plain (told (left (replies (Some status) content_type (Some (payloads.Format f.0)) []) f.1))) >>= λ next. return_options side most next.0 next.1) sent
    ∙ ap (λ (r : RuleReading (Fmt × Words)). (r >>= λ f. plain (told (left (replies (Some status) content_type (Some (payloads.Format f.0)) []) f.1))) >>= λ next. return_options side most next.0 next.1) (format_read side fmt more h)
    ∙ ap (λ asks. behind asks (return_options side most (replies (Some status) content_type (Some (payloads.Format fmt)) []) more)) (append-nil (format_patterns fmt))

-- a payload and the fields behind it
payload_back : (side : Side) (most status : ℕ) (content_type : Option (List ℕ)) (payload : Option Payload) (hdrs : List Hdr) (rest : Words)
    → length (payload_words payload ++ (flat_map hdr_words hdrs ++ rest)) ≤ most → (is_some payload && is_bodiless status) ≡ false → is_spelled_payload side payload ≡ true
    → AreMade hdrs → list_all (is_spelled_hdr side) hdrs ≡ true → ends_action rest ≡ true
    → return_options side most (replies (Some status) content_type None []) (payload_words payload ++ (flat_map hdr_words hdrs ++ rest))
    ≡ gives (payload_patterns payload ++ flat_map hdr_patterns hdrs) (left (replies (Some status) content_type payload hdrs) rest)
payload_back side most status content_type None hdrs rest few sent h is i ends = hdrs_back side most (Some status) content_type None [] hdrs rest few is i ends
payload_back side zero status content_type (Some (payloads.Literal text)) hdrs rest few sent h is i ends = absurd (omega (arith, few))
payload_back side (suc most) status content_type (Some (payloads.Literal text)) hdrs rest few sent h is i ends =
    literal_step side most status content_type text (flat_map hdr_words hdrs ++ rest) sent
    ∙ ap (λ (r : RuleReading (ReturnOptions × Words)). behind [] r) (hdrs_back side most (Some status) content_type (Some (payloads.Literal text)) [] hdrs rest (omega (arith, few)) is i ends)
payload_back side zero status content_type (Some (payloads.Format fmt)) hdrs rest few sent h is i ends = absurd (omega (arith, few))
payload_back side (suc most) status content_type (Some (payloads.Format fmt)) hdrs rest few sent h is i ends =
    format_step side most status content_type fmt (flat_map hdr_words hdrs ++ rest) sent h
    ∙ ap (λ (r : RuleReading (ReturnOptions × Words)). behind (format_patterns fmt) r) (hdrs_back side most (Some status) content_type (Some (payloads.Format fmt)) [] hdrs rest (omega (arith, few)) is i ends)

-- ---- the type and the status

-- all words behind the type
abbrev tail : Option Payload → List Hdr → Words → Words
tail payload hdrs rest = payload_words payload ++ (flat_map hdr_words hdrs ++ rest)

type_step : (side : Side) (most status : ℕ) (text : List ℕ) (more : Words)
    → return_options side (suc most) (replies (Some status) None None []) (codes "content-type" ∷ text ∷ more) ≡ behind [] (return_options side most (replies (Some status) (Some text) None []) more)
unfolding return_options return_word return_option content_type_at
type_step side most status text more = refl

type_back : (side : Side) (most status : ℕ) (content_type : Option (List ℕ)) (payload : Option Payload) (hdrs : List Hdr) (rest : Words)
    → length (type_words content_type ++ tail payload hdrs rest) ≤ most → (is_some payload && is_bodiless status) ≡ false → is_spelled_payload side payload ≡ true
    → AreMade hdrs → list_all (is_spelled_hdr side) hdrs ≡ true → ends_action rest ≡ true
    → return_options side most (replies (Some status) None None []) (type_words content_type ++ tail payload hdrs rest)
    ≡ gives (payload_patterns payload ++ flat_map hdr_patterns hdrs) (left (replies (Some status) content_type payload hdrs) rest)
type_back side most status None payload hdrs rest few sent h is i ends = payload_back side most status None payload hdrs rest few sent h is i ends
type_back side zero status (Some text) payload hdrs rest few sent h is i ends = absurd (omega (arith, few))
type_back side (suc most) status (Some text) payload hdrs rest few sent h is i ends =
    type_step side most status text (tail payload hdrs rest)
    ∙ ap (λ (r : RuleReading (ReturnOptions × Words)). behind [] r) (payload_back side most status (Some text) payload hdrs rest (omega (arith, few)) sent h is i ends)

status_read : (status : ℕ) (more : Words) → IsCode 200 599 status → written_status (decimal status ∷ more) ≡ told (left status more)
unfolding written_status
status_read status more is = ap (λ (r : Read ℕ). steps.◌>>=◌ r (λ code. told (left code more))) (code_back 200 599 status is (omega arith))

status_step : (side : Side) (most status : ℕ) (more : Words) → IsCode 200 599 status
    → return_options side (suc most) no_options (codes "status" ∷ decimal status ∷ more) ≡ behind [] (return_options side most (replies (Some status) None None []) more)
unfolding return_options return_word return_option status_at
status_step side most status more is =
    ap (λ (r : Read (ℕ × Words)). plain (steps.◌>>=◌ r (λ code. steps.◌>>=◌ (going_with false code.0) (λ s. told (left (replies (Some s) None None []) code.1)))) >>= λ next. return_options side most next.0 next.1)
    (status_read status more is)

-- ---- all

-- the words behind the status, joined from the right
joined : (content_type : Option (List ℕ)) (payload : Option Payload) (hdrs : List Hdr) (rest : Words)
    → ((type_words content_type ++ payload_words payload) ++ flat_map hdr_words hdrs) ++ rest ≡ type_words content_type ++ tail payload hdrs rest
joined content_type payload hdrs rest =
    append_assoc (type_words content_type ++ payload_words payload) (flat_map hdr_words hdrs) rest
    ∙ append_assoc (type_words content_type) (payload_words payload) (flat_map hdr_words hdrs ++ rest)

fewer : (n : ℕ) → n ≤ suc n
fewer n = omega arith

-- the words of a return are read back
pub return_back : (side : Side) (status : ℕ) (content_type : Option (List ℕ)) (payload : Option Payload) (hdrs : List Hdr) (rest : Words) → IsGoodReturn status content_type payload hdrs
    → (is_spelled_payload side payload && list_all (is_spelled_hdr side) hdrs) ≡ true → ends_action rest ≡ true
    → return_parts side (return_words status content_type payload hdrs ++ rest)
    ≡ gives (payload_patterns payload ++ flat_map hdr_patterns hdrs) (left (parts.Return (replies (Some status) content_type payload hdrs)) rest)
unfolding return_parts
return_back side status content_type payload hdrs rest good h ends =
    let more = type_words content_type ++ tail payload hdrs rest in
    let asks = payload_patterns payload ++ flat_map hdr_patterns hdrs in
    let last = λ (r : RuleReading (ReturnOptions × Words)). r >>= λ found. plain (told (left (parts.Return found.0) found.1)) in
    ap (λ (words : Words). last (return_options side (suc (suc (length words))) no_options (codes "status" ∷ decimal status ∷ words))) (joined content_type payload hdrs rest)
    ∙ ap last (status_step side (suc (length more)) status more good.status_is)
    ∙ ap (λ (r : RuleReading (ReturnOptions × Words)). last (behind [] r))
    (type_back side (suc (length more)) status content_type payload hdrs rest (fewer (length more)) good.sent (both_left (is_spelled_payload side payload) (list_all (is_spelled_hdr side) hdrs) h)
    good.names (both_right (is_spelled_payload side payload) (list_all (is_spelled_hdr side) hdrs) h) ends)
    ∙ ap (λ all. gives all (left (parts.Return (replies (Some status) content_type payload hdrs)) rest)) (append-nil asks)
