-- The options of `return`, but for those with formats (Configuration Manual, section 4.2).
use Rattle.std.specs.Prelude.{ℕ, List, [], Bool, false, not, ◌||◌, ◌&&◌, if◌then◌else◌, Option, Some, None, is_some, unwrap_or, Ok, Err, codes}
use Rattle.std.specs.Str.{bytes_eq}
use Rattle.http_rules.specs.declared.rule.reply.Payload.{Payload}
use Rattle.http_rules.specs.declared.rule.reply.Payload.TheVariants as payloads
use Rattle.http_rules.specs.declared.rule.action.Action.{Action}
use Rattle.http_rules.specs.declared.rule.action.Action.TheVariants.{Return}
use Rattle.http_rules.specs.Rule.Valid.{is_bodiless}
use Rattle.cfg_expr.specs.Steps.{◌>>=◌}
use Rattle.cfg_parse.specs.declared.action.fault.RuleKind.TheVariants.{Argument}
use Rattle.cfg_parse.specs.declared.action.returns.ReturnOptions.{ReturnOptions}
use Rattle.cfg_parse.specs.declared.action.returns.ReturnWord.{ReturnWord}
use Rattle.cfg_parse.specs.declared.action.returns.ReturnWord.TheVariants as words
use Rattle.cfg_parse.specs.Action.Faults.{Read, argument}
use Rattle.cfg_parse.specs.Action.Arguments.{Words, code_of}

abbrev pub no_options : ReturnOptions
no_options = record { status = None; content_type = None; payload = None; hdrs = [] }

-- the option of a word
unfoldable pub return_word : List ℕ → Option ReturnWord
return_word word =
    if bytes_eq word (codes "status") then Some words.Status
    else (if bytes_eq word (codes "content-type") then Some words.ContentType
    else (if bytes_eq word (codes "string") then Some words.Literal
    else (if bytes_eq word (codes "lf-string") then Some words.Format
    else (if bytes_eq word (codes "hdr") then Some words.Hdr
    else None))))

-- ---- what may stand behind what

-- it doesn't stand there yet
abbrev pub once : (stands : Bool) → Read (Unit {0})
once stands = if stands then Err Argument else Ok tt

-- a status with which no body is sent
abbrev pub has_no_body : Option ℕ → Bool
has_no_body None = false
has_no_body (Some status) = is_bodiless status

-- a payload may still come
abbrev pub may_have_payload : ReturnOptions → Read (Unit {0})
may_have_payload options = once (is_some options.payload || has_no_body options.status)

-- the status goes with the payload, where that stands there
abbrev pub going_with : (has_payload : Bool) → ℕ → Read ℕ
going_with has_payload status = if has_payload && is_bodiless status then Err Argument else Ok status

-- ---- one option

-- the code behind `status`, and the words behind it
unfoldable pub written_status : Words → Read (ℕ × Words)
written_status others = do
  word ← argument others
  code ← code_of 200 599 word.0
  Ok (code, word.1)

-- `status` and its code
unfoldable pub status_at : ReturnOptions → Words → Read (ReturnOptions × Words)
status_at options others = do
  free ← once (is_some options.status)
  code ← written_status others
  status ← going_with (is_some options.payload) code.0
  Ok (record options { status = Some status }, code.1)

-- `content-type` and the type
unfoldable pub content_type_at : ReturnOptions → Words → Read (ReturnOptions × Words)
content_type_at options others = do
  free ← once (is_some options.content_type)
  word ← argument others
  Ok (record options { content_type = Some word.0 }, word.1)

-- `string` and the payload
unfoldable pub literal_at : ReturnOptions → Words → Read (ReturnOptions × Words)
literal_at options others = do
  free ← may_have_payload options
  word ← argument others
  Ok (record options { payload = Some (payloads.Literal word.0) }, word.1)

-- the reply, in which a payload needs a type
abbrev pub return_of : ReturnOptions → Read Action
return_of options =
    if is_some options.payload && not (is_some options.content_type) then Err Argument
    else Ok (Return (unwrap_or options.status 200) options.content_type options.payload options.hdrs)
