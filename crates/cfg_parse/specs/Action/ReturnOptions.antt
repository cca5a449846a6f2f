-- The options of `return`, in any order, up to a word that is none.
use Rattle.std.specs.Prelude.{ℕ, zero, suc, List, [], ◌∷◌, ◌++◌, Option, Some, None, Ok, Err}
use Rattle.http_rules.specs.declared.rule.reply.Hdr.{Hdr}
use Rattle.http_rules.specs.declared.rule.reply.Payload.TheVariants as payloads
use Rattle.cfg_expr.specs.declared.side.Side.{Side}
use Rattle.cfg_expr.specs.Reading.{Reading, plain, ◌>>=◌}
use Rattle.cfg_parse.specs.declared.action.returns.ReturnOptions.{ReturnOptions}
use Rattle.cfg_parse.specs.declared.action.returns.ReturnWord.{ReturnWord}
use Rattle.cfg_parse.specs.declared.action.returns.ReturnWord.TheVariants as words
use Rattle.cfg_parse.specs.Action.Faults.{RuleReading, unless_none}
use Rattle.cfg_parse.specs.Action.Arguments.{Words, made_name_at}
use Rattle.cfg_parse.specs.Action.Asked.{format_at}
use Rattle.cfg_parse.specs.Action.Returns.{return_word, may_have_payload, status_at, content_type_at, literal_at}

-- `lf-string` and the payload's format
unfoldable pub payload_format_at : Side → ReturnOptions → Words → RuleReading (ReturnOptions × Words)
payload_format_at side options others = do
  free ← plain (may_have_payload options)
  fmt ← format_at side others
  plain (Ok (record options { payload = Some (payloads.Format fmt.0) }, fmt.1))

-- the field behind `hdr`, and the words behind it
unfoldable pub written_hdr : Side → Words → RuleReading (Hdr × Words)
written_hdr side others = do
  name ← plain (made_name_at others)
  fmt ← format_at side name.1
  plain (Ok (record { name = name.0; value = fmt.0 }, fmt.1))

-- `hdr`: one more field
unfoldable pub hdr_at : Side → ReturnOptions → Words → RuleReading (ReturnOptions × Words)
hdr_at side options others = do
  hdr ← written_hdr side others
  plain (Ok (record options { hdrs = options.hdrs ++ hdr.0 ∷ [] }, hdr.1))

-- an option and the words behind it
unfoldable pub return_option : Side → ReturnOptions → ReturnWord → Words → RuleReading (ReturnOptions × Words)
return_option side options words.Status others = plain (status_at options others)
return_option side options words.ContentType others = plain (content_type_at options others)
return_option side options words.Literal others = plain (literal_at options others)
return_option side options words.Format others = payload_format_at side options others
return_option side options words.Hdr others = hdr_at side options others

-- options up to a word that is none, of which so many more may come
unfoldable pub return_options : Side → (most : ℕ) → ReturnOptions → Words → RuleReading (ReturnOptions × Words)
return_options side most options [] = plain (Ok (options, []))
return_options side zero options (word ∷ others) = plain (Ok (options, word ∷ others))
return_options side (suc most) options (word ∷ others) =
    unless_none (return_word word) (plain (Ok (options, word ∷ others)))
    (λ which. return_option side options which others >>= λ next. return_options side most next.0 next.1)
