-- What is wrong where a line is refused, and what stands there instead, in a sentence for each kind.
use Rattle.std.specs.Prelude.{ℕ, List, codes}
use Rattle.cfg_parse.specs.declared.fault.CfgKind.{CfgKind}
use Rattle.cfg_parse.specs.declared.fault.CfgKind.TheVariants.{Word, Section, Keyword, Argument, Expr, Acl, Pattern, FramingName, Limit, Missing, Mode}

unfoldable pub word_meaning : List ℕ
word_meaning = codes "A word is malformed. Quotes are closed, \\x has two hexadecimal digits behind it, $ in double quotes is \\$, no backslash ends the line, and there is no NUL."

unfoldable pub section_meaning : List ℕ
section_meaning = codes "No such section begins here, or none has begun. A file has global, defaults and one listen NAME, and each other line stands in one of them."

unfoldable pub keyword_meaning : List ℕ
keyword_meaning = codes "The section has no such setting, or the list no such action or filter. One that it has stands here."

unfoldable pub argument_meaning : List ℕ
argument_meaning = codes "An argument is missing, malformed or one too many, a line stands twice that stands once, or http-request allow stands beside fcgi-param. What the line takes stands here, and nothing behind it."

unfoldable pub expr_meaning : List ℕ
expr_meaning = codes "An expression or a format is malformed, or the list has no such fetch. A fetch of the list, with converters behind commas, stands here; a format holds it in %[ and ]."

unfoldable pub acl_meaning : List ℕ
acl_meaning = codes "A condition or a test is malformed, or names nothing. Behind if or unless stand names of acl lines above, predefined ones, or tests in braces."

unfoldable pub pattern_meaning : List ℕ
pattern_meaning = codes "The pattern cannot be built. A regular expression in UTF-8 that is well-formed and not too large stands here."

unfoldable pub framing_name_meaning : List ℕ
framing_name_meaning = codes "The field frames a message or speaks of its connection, and no rule makes it. The name of another field stands here."

unfoldable pub limit_meaning : List ℕ
limit_meaning = codes "A number, a length or a count is beyond its limit. A smaller one stands here, or fewer lines; tune.maxrewrite is at most tune.bufsize less 512."

unfoldable pub missing_meaning : List ℕ
missing_meaning = codes "The file has no listen, bind or server, or a line lacks for proto fcgi. It has one listen NAME, with bind HOST:PORT and server NAME HOST:PORT in it; fcgi-docroot DIR stands beside proto fcgi, and proto fcgi beside fcgi-index, fcgi-script and fcgi-param."

unfoldable pub mode_meaning : List ℕ
mode_meaning = codes "The command does not take a configuration with this option. server NAME HOST:PORT stands without proto fcgi; for explain and weave, bind HOST:PORT without accept-proxy; for weave, server NAME HOST:PORT without send-proxy or send-proxy-v2."

-- the sentence of a kind
abbrev pub meaning_of : CfgKind → List ℕ
meaning_of Word = word_meaning
meaning_of Section = section_meaning
meaning_of Keyword = keyword_meaning
meaning_of Argument = argument_meaning
meaning_of Expr = expr_meaning
meaning_of Acl = acl_meaning
meaning_of Pattern = pattern_meaning
meaning_of FramingName = framing_name_meaning
meaning_of Limit = limit_meaning
meaning_of Missing = missing_meaning
meaning_of Mode = mode_meaning
