-- The options of an action that are read can be said again.
use Rattle.std.proofs.Common.{◌≡◌, ℕ, zero, suc, Bool, true, false, cond, List, [], ◌∷◌, ◌++◌, Result, Ok, Err, refl, ◌∙◌}
use Rattle.std.proofs.lemmas.Bool.{and_parts, and_from}
use Rattle.std.proofs.lemmas.List.Folds.{list_all-append}
use Rattle.std.specs.Prelude.{◌&&◌, ◌||◌, not, Option, Some, None, is_some, codes}
use Rattle.std.specs.List.{list_all}
use Rattle.std.specs.Str.{bytes_eq}
use Rattle.log_format.specs.declared.fmt.Fmt.{Fmt}
use Rattle.http_rules.specs.declared.rule.reply.RedirectTo.{RedirectTo}
use Rattle.http_rules.specs.declared.rule.reply.RedirectTo.TheVariants.{Location, Prefix, Scheme}
use Rattle.http_rules.specs.declared.rule.reply.Payload.TheVariants as payloads
use Rattle.http_rules.specs.declared.rule.reply.Hdr.{Hdr}
use Rattle.http_rules.specs.Rule.Valid.{may_drop_query, may_append_slash}
use Rattle.cfg_expr.specs.declared.side.Side.{Side}
use Rattle.cfg_expr.specs.Steps as steps
use Rattle.cfg_expr.specs.Reading.{plain, ◌>>=◌}
use Rattle.cfg_parse.specs.declared.action.fault.RuleKind.TheVariants.{Argument}
use Rattle.cfg_parse.specs.declared.action.redirect.RedirectOptions.{RedirectOptions}
use Rattle.cfg_parse.specs.declared.action.returns.ReturnOptions.{ReturnOptions}
use Rattle.cfg_parse.specs.Action.Faults.{Read, RuleReading, unless_none, argument}
use Rattle.cfg_parse.specs.Action.Arguments.{Words, made_name_at}
use Rattle.cfg_parse.specs.Action.Asked.{format_at}
use Rattle.cfg_parse.specs.Action.Redirects.{redirect_word, may_come, may_stand, goes_with, written_code, code_at, with_drop_query, with_append_slash, redirect_made, redirect_of}
use Rattle.cfg_parse.specs.Action.RedirectOptions.{with_location, alone, redirect_option, redirect_options}
use Rattle.cfg_parse.specs.Action.Returns.{return_word, once, may_have_payload, going_with, written_status, status_at, content_type_at, literal_at, return_of}
use Rattle.cfg_parse.specs.Action.ReturnOptions.{payload_format_at, written_hdr, hdr_at, return_option, return_options}
use Rattle.cfg_laws.specs.Spelled.{is_spelled_format}
use Rattle.cfg_laws.specs.SpelledActions.{is_spelled_target, is_spelled_payload, is_spelled_hdr, is_spelled_action}
use Rattle.cfg_laws.proofs.ReadLemmas.Steps.{Gives, HasSo, gives_behind, gives_unless}
use Rattle.cfg_laws.proofs.ReadLemmas.Arguments.{any_behind, fmt_said, format_said}

abbrev ValueOf : {A : Type 0} → Option A → Type 0
ValueOf {A} found = A

-- what follows any value
pub any_then : {K A B : Type 0} (next : B → Bool) (told : Result A K) (f : A → Result B K) → ((x : A) → Gives next (f x)) → Gives next (steps.◌>>=◌ told f)
any_then next (Ok x) f more = more x
any_then next (Err kind) f more = tt

-- the first of many
abbrev first_of : {A : Type 0} → List (Bool × Option A) → Option A
first_of [] = None
first_of (one ∷ others) = cond one.0 one.1 (first_of others)

abbrev AllHaveSo : {A : Type 0} → (A → Type 0) → List (Bool × Option A) → Type 0
AllHaveSo P [] = Unit {0}
AllHaveSo P (one ∷ others) = HasSo P one.1 × AllHaveSo P others

either_so : {A : Type 0} (P : A → Type 0) (t : Bool) (x y : Option A) → HasSo P x → HasSo P y → HasSo P (cond t x y)
either_so P true x y h i = h
either_so P false x y h i = i

first_so : {A : Type 0} (P : A → Type 0) (list : List (Bool × Option A)) → AllHaveSo P list → HasSo P (first_of list)
first_so P [] h = tt
first_so P (one ∷ others) h = either_so P one.0 one.1 (first_of others) h.0 (first_so P others h.1)

-- an option, or the end of the options
unless_gives : {A B : Type 0} (P : A → Type 0) (test : B → Bool) (found : Option A) (other : RuleReading B) (f : A → RuleReading B) → HasSo P found → Gives test other.gives → ((x : A) → P x → Gives test (f x).gives)
    → Gives test (unless_none found other f).gives
unless_gives P test None other f h end more = end
unless_gives P test (Some x) other f h end more = more x h

-- ---- redirects

-- a location that can be said, if there is one
abbrev is_spelled_to : Side → Option RedirectTo → Bool
is_spelled_to side None = true
is_spelled_to side (Some to) = is_spelled_target side to

abbrev pub are_redirects : Side → RedirectOptions → Bool
are_redirects side options = is_spelled_to side options.to

abbrev pub redirects_said : Side → RedirectOptions × Words → Bool
redirects_said side found = are_redirects side found.0

-- a private type by its value
abbrev ToWord : Type 0
ToWord = ValueOf (redirect_word [])

location_gives : (side : Side) (made : Fmt → RedirectTo) (clashes : Bool) (options : RedirectOptions) (others : Words) → ((fmt : Fmt) → is_spelled_format side fmt ≡ true → is_spelled_target side (made fmt) ≡ true)
    → Gives (redirects_said side) (with_location side made clashes options others).gives
location_gives side made clashes options others said =
    let with_format : Fmt × Words → RuleReading (RedirectOptions × Words) = λ fmt. plain (Ok (record options { to = Some (made fmt.0) }, fmt.1)) in
    any_behind (redirects_said side) (may_come clashes options) (λ free. format_at side others >>= with_format)
    (λ free. gives_behind (fmt_said side) (redirects_said side) (format_at side others).gives with_format (format_said side others) (λ fmt is. said fmt.0 is))

code_gives : (side : Side) (options : RedirectOptions) (others : Words) → are_redirects side options ≡ true → Gives (redirects_said side) (code_at options others)
unfolding code_at
code_gives side options others h =
    let with_code : ℕ × Words → Read (RedirectOptions × Words) = λ code. Ok (record options { code = Some code.0 }, code.1) in
    any_then (redirects_said side) (may_stand (is_some options.code) true) (λ free. steps.◌>>=◌ (written_code others) with_code)
    (λ free. any_then (redirects_said side) (written_code others) with_code (λ code. h))

alone_gives : (side : Side) (others : Words) (next : Read RedirectOptions) → Gives (are_redirects side) next → Gives (redirects_said side) (alone others next).gives
alone_gives side others next h = gives_behind (are_redirects side) (redirects_said side) next (λ options. plain (Ok (options, others))) h (λ options is. is)

drops_give : (side : Side) (options : RedirectOptions) → are_redirects side options ≡ true → Gives (are_redirects side) (with_drop_query options)
drops_give side options h = any_then (are_redirects side) (may_stand options.drop_query (goes_with may_drop_query options.to)) (λ free. Ok (record options { drop_query = true })) (λ free. h)

appends_give : (side : Side) (options : RedirectOptions) → are_redirects side options ≡ true → Gives (are_redirects side) (with_append_slash options)
appends_give side options h = any_then (are_redirects side) (may_stand options.append_slash (goes_with may_append_slash options.to)) (λ free. Ok (record options { append_slash = true })) (λ free. h)

abbrev ToGives : Side → RedirectOptions → Words → ToWord → Type 0
ToGives side options others which = Gives (redirects_said side) (redirect_option side options which others).gives

to_list : List ℕ → List (Bool × Option ToWord)
to_list word =
    (bytes_eq word (codes "location"), redirect_word (codes "location")) ∷ (bytes_eq word (codes "prefix"), redirect_word (codes "prefix")) ∷ (bytes_eq word (codes "scheme"), redirect_word (codes "scheme"))
    ∷ (bytes_eq word (codes "code"), redirect_word (codes "code")) ∷ (bytes_eq word (codes "drop-query"), redirect_word (codes "drop-query")) ∷ (bytes_eq word (codes "append-slash"), redirect_word (codes "append-slash")) ∷ []

to_fits : (side : Side) (options : RedirectOptions) (others : Words) (word : List ℕ) → are_redirects side options ≡ true → HasSo (ToGives side options others) (redirect_word word)
unfolding redirect_word redirect_option to_list
to_fits side options others word h =
    first_so (ToGives side options others) (to_list word) (
      location_gives side Location (options.drop_query || options.append_slash) options others (λ fmt is. is),
      (
        location_gives side Prefix false options others (λ fmt is. is),
        (
          location_gives side Scheme options.append_slash options others (λ fmt is. is),
          (
            code_gives side options others h,
            (
              alone_gives side others (with_drop_query options) (drops_give side options h),
              (alone_gives side others (with_append_slash options) (appends_give side options h), tt),
            ),
          ),
        ),
      ),
    )

pub redirects_give : (side : Side) (most : ℕ) (options : RedirectOptions) (words : Words) → are_redirects side options ≡ true → Gives (redirects_said side) (redirect_options side most options words).gives
unfolding redirect_options
redirects_give side most options [] h = h
redirects_give side zero options (word ∷ others) h = h
redirects_give side (suc most) options (word ∷ others) h =
    let next : RedirectOptions × Words → RuleReading (RedirectOptions × Words) = λ found. redirect_options side most found.0 found.1 in
    unless_gives (ToGives side options others) (redirects_said side) (redirect_word word) (plain (Ok (options, word ∷ others))) (λ which. redirect_option side options which others >>= next) (to_fits side options others word h) h
    (λ which gives. gives_behind (redirects_said side) (redirects_said side) (redirect_option side options which others).gives next gives (λ found is. redirects_give side most found.0 found.1 is))

made_gives : (side : Side) (options : RedirectOptions) (to : Option RedirectTo) → is_spelled_to side to ≡ true → Gives (is_spelled_action side) (redirect_made options to)
unfolding is_spelled_action
made_gives side options None h = tt
made_gives side options (Some to) h = h

pub redirect_gives : (side : Side) (options : RedirectOptions) → are_redirects side options ≡ true → Gives (is_spelled_action side) (redirect_of options)
redirect_gives side options h = made_gives side options options.to h

-- ---- replies

abbrev pub are_replies : Side → ReturnOptions → Bool
are_replies side options = is_spelled_payload side options.payload && list_all (is_spelled_hdr side) options.hdrs

abbrev pub replies_said : Side → ReturnOptions × Words → Bool
replies_said side found = are_replies side found.0

abbrev OfReply : Type 0
OfReply = ValueOf (return_word [])

status_gives : (side : Side) (options : ReturnOptions) (others : Words) → are_replies side options ≡ true → Gives (replies_said side) (status_at options others)
unfolding status_at
status_gives side options others h =
    let with_status : Words → ℕ → Read (ReturnOptions × Words) = λ rest status. Ok (record options { status = Some status }, rest) in
    let of_code : ℕ × Words → Read (ReturnOptions × Words) = λ code. steps.◌>>=◌ (going_with (is_some options.payload) code.0) (with_status code.1) in
    any_then (replies_said side) (once (is_some options.status)) (λ free. steps.◌>>=◌ (written_status others) of_code)
    (λ free. any_then (replies_said side) (written_status others) of_code
    (λ code. any_then (replies_said side) (going_with (is_some options.payload) code.0) (with_status code.1) (λ status. h)))

type_gives : (side : Side) (options : ReturnOptions) (others : Words) → are_replies side options ≡ true → Gives (replies_said side) (content_type_at options others)
unfolding content_type_at
type_gives side options others h =
    let with_type : List ℕ × Words → Read (ReturnOptions × Words) = λ word. Ok (record options { content_type = Some word.0 }, word.1) in
    any_then (replies_said side) (once (is_some options.content_type)) (λ free. steps.◌>>=◌ (argument others) with_type)
    (λ free. any_then (replies_said side) (argument others) with_type (λ word. h))

literal_gives : (side : Side) (options : ReturnOptions) (others : Words) → are_replies side options ≡ true → Gives (replies_said side) (literal_at options others)
unfolding literal_at
literal_gives side options others h =
    let with_text : List ℕ × Words → Read (ReturnOptions × Words) = λ word. Ok (record options { payload = Some (payloads.Literal word.0) }, word.1) in
    let both = and_parts (is_spelled_payload side options.payload) (list_all (is_spelled_hdr side) options.hdrs) h in
    any_then (replies_said side) (may_have_payload options) (λ free. steps.◌>>=◌ (argument others) with_text)
    (λ free. any_then (replies_said side) (argument others) with_text (λ word. both.1))

payload_gives : (side : Side) (options : ReturnOptions) (others : Words) → are_replies side options ≡ true → Gives (replies_said side) (payload_format_at side options others).gives
unfolding payload_format_at
payload_gives side options others h =
    let with_format : Fmt × Words → RuleReading (ReturnOptions × Words) = λ fmt. plain (Ok (record options { payload = Some (payloads.Format fmt.0) }, fmt.1)) in
    let both = and_parts (is_spelled_payload side options.payload) (list_all (is_spelled_hdr side) options.hdrs) h in
    any_behind (replies_said side) (may_have_payload options) (λ free. format_at side others >>= with_format)
    (λ free. gives_behind (fmt_said side) (replies_said side) (format_at side others).gives with_format (format_said side others)
    (λ fmt is. and_from (is_spelled_format side fmt.0) (list_all (is_spelled_hdr side) options.hdrs) is both.1))

abbrev hdr_said : Side → Hdr × Words → Bool
hdr_said side found = is_spelled_hdr side found.0

written_gives : (side : Side) (others : Words) → Gives (hdr_said side) (written_hdr side others).gives
unfolding written_hdr
written_gives side others =
    let with_format : List ℕ → Fmt × Words → RuleReading (Hdr × Words) = λ name fmt. plain (Ok (record { name = name; value = fmt.0 }, fmt.1)) in
    any_behind (hdr_said side) (made_name_at others) (λ name. format_at side name.1 >>= with_format name.0)
    (λ name. gives_behind (fmt_said side) (hdr_said side) (format_at side name.1).gives (with_format name.0) (format_said side name.1) (λ fmt is. is))

hdr_more : (side : Side) (hdrs : List Hdr) (hdr : Hdr) → list_all (is_spelled_hdr side) hdrs ≡ true → is_spelled_hdr side hdr ≡ true → list_all (is_spelled_hdr side) (hdrs ++ hdr ∷ []) ≡ true
hdr_more side hdrs hdr h is =
    list_all-append (is_spelled_hdr side) hdrs (hdr ∷ []) ∙ and_from (list_all (is_spelled_hdr side) hdrs) (is_spelled_hdr side hdr && true) h (and_from (is_spelled_hdr side hdr) true is refl)

hdr_gives : (side : Side) (options : ReturnOptions) (others : Words) → are_replies side options ≡ true → Gives (replies_said side) (hdr_at side options others).gives
unfolding hdr_at
hdr_gives side options others h =
    let with_hdr : Hdr × Words → RuleReading (ReturnOptions × Words) = λ hdr. plain (Ok (record options { hdrs = options.hdrs ++ hdr.0 ∷ [] }, hdr.1)) in
    let both = and_parts (is_spelled_payload side options.payload) (list_all (is_spelled_hdr side) options.hdrs) h in
    gives_behind (hdr_said side) (replies_said side) (written_hdr side others).gives with_hdr (written_gives side others)
    (λ hdr is. and_from (is_spelled_payload side options.payload) (list_all (is_spelled_hdr side) (options.hdrs ++ hdr.0 ∷ [])) both.0 (hdr_more side options.hdrs hdr.0 both.1 is))

abbrev ReplyGives : Side → ReturnOptions → Words → OfReply → Type 0
ReplyGives side options others which = Gives (replies_said side) (return_option side options which others).gives

reply_list : List ℕ → List (Bool × Option OfReply)
reply_list word =
    (bytes_eq word (codes "status"), return_word (codes "status")) ∷ (bytes_eq word (codes "content-type"), return_word (codes "content-type")) ∷ (bytes_eq word (codes "string"), return_word (codes "string"))
    ∷ (bytes_eq word (codes "lf-string"), return_word (codes "lf-string")) ∷ (bytes_eq word (codes "hdr"), return_word (codes "hdr")) ∷ []

reply_fits : (side : Side) (options : ReturnOptions) (others : Words) (word : List ℕ) → are_replies side options ≡ true → HasSo (ReplyGives side options others) (return_word word)
unfolding return_word return_option reply_list
reply_fits side options others word h =
    first_so (ReplyGives side options others) (reply_list word)
    (status_gives side options others h, (type_gives side options others h, (literal_gives side options others h, (payload_gives side options others h, (hdr_gives side options others h, tt)))))

pub replies_give : (side : Side) (most : ℕ) (options : ReturnOptions) (words : Words) → are_replies side options ≡ true → Gives (replies_said side) (return_options side most options words).gives
unfolding return_options
replies_give side most options [] h = h
replies_give side zero options (word ∷ others) h = h
replies_give side (suc most) options (word ∷ others) h =
    let next : ReturnOptions × Words → RuleReading (ReturnOptions × Words) = λ found. return_options side most found.0 found.1 in
    unless_gives (ReplyGives side options others) (replies_said side) (return_word word) (plain (Ok (options, word ∷ others))) (λ which. return_option side options which others >>= next) (reply_fits side options others word h) h
    (λ which gives. gives_behind (replies_said side) (replies_said side) (return_option side options which others).gives next gives (λ found is. replies_give side most found.0 found.1 is))

pub return_gives : (side : Side) (options : ReturnOptions) → are_replies side options ≡ true → Gives (is_spelled_action side) (return_of options)
unfolding is_spelled_action
return_gives side options h = gives_unless (is_spelled_action side) (is_some options.payload && not (is_some options.content_type)) _ Argument (λ typed. h)
