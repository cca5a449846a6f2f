-- What a line makes of the configuration so far.
use Rattle.std.specs.Prelude.{ℕ, List, [], ◌∷◌, not, if◌then◌else◌, Result, Ok, Err}
use Rattle.http_rules.specs.declared.rule.action.Direction.TheVariants.{Request, Response, After}
use Rattle.cfg_lex.specs.declared.fault.LineFault.{LineFault}
use Rattle.cfg_lex.specs.declared.fault.LineFault.TheVariants as faults
use Rattle.cfg_lex.specs.Words.{words_of}
use Rattle.cfg_expr.specs.Reading.{plain}
use Rattle.cfg_parse.specs.declared.fault.CfgKind.TheVariants.{Word, Section, Keyword, Limit}
use Rattle.cfg_parse.specs.declared.keywords.FirstWord.{FirstWord}
use Rattle.cfg_parse.specs.declared.keywords.FirstWord.TheVariants.{Begins, Sets, Unknown}
use Rattle.cfg_parse.specs.declared.keywords.Setting.{Setting}
use Rattle.cfg_parse.specs.declared.keywords.Setting.TheVariants.{Bufsize, Maxrewrite, Mode, Timeout, Options, Bind, Server, Acl, HttpRequest, HttpResponse, HttpAfterResponse, Filter, Docroot, Index, Script, Param}
use Rattle.cfg_parse.specs.declared.keywords.Places.{Places}
use Rattle.cfg_parse.specs.declared.draft.Draft.{Draft}
use Rattle.cfg_parse.specs.Asking.{LineReading}
use Rattle.cfg_parse.specs.Keywords.{first_word_of}
use Rattle.cfg_parse.specs.Draft.{is_before, belongs}
use Rattle.cfg_parse.specs.Settings.{section_line, bufsize_line, maxrewrite_line, mode_line, timeout_line, bind_line, server_line}
use Rattle.cfg_parse.specs.Filters.{filter_setting}
use Rattle.cfg_parse.specs.Rules.{rule_line, acl_setting, option_line}
use Rattle.cfg_parse.specs.Applications.{docroot_line, index_line, script_line}
use Rattle.cfg_parse.specs.Pairs.{param_line}

-- the line of a setting that the section knows
unfoldable pub setting_line : Draft → Setting → List (List ℕ) → LineReading Draft
setting_line draft Bufsize arguments = plain (bufsize_line draft arguments)
setting_line draft Maxrewrite arguments = plain (maxrewrite_line draft arguments)
setting_line draft Mode arguments = plain (mode_line draft arguments)
setting_line draft Timeout arguments = plain (timeout_line draft arguments)
setting_line draft Options arguments = option_line draft arguments
setting_line draft Bind arguments = plain (bind_line draft arguments)
setting_line draft Server arguments = plain (server_line draft arguments)
setting_line draft Acl arguments = acl_setting draft arguments
setting_line draft HttpRequest arguments = rule_line draft Request arguments
setting_line draft HttpResponse arguments = rule_line draft Response arguments
setting_line draft HttpAfterResponse arguments = rule_line draft After arguments
setting_line draft Filter arguments = plain (filter_setting draft arguments)
setting_line draft Docroot arguments = plain (docroot_line draft arguments)
setting_line draft Index arguments = plain (index_line draft arguments)
setting_line draft Script arguments = plain (script_line draft arguments)
setting_line draft Param arguments = param_line draft arguments

-- a line of a section: first whether a section has begun, then whether it knows the word
unfoldable pub known_line : Draft → Setting → Places → List (List ℕ) → LineReading Draft
known_line draft setting places arguments =
    if is_before draft.section then plain (Err Section)
    else (if not (belongs places draft.section) then plain (Err Keyword)
    else setting_line draft setting arguments)

-- a line with this first word
abbrev pub line_by : Draft → FirstWord → List (List ℕ) → LineReading Draft
line_by draft (Begins word) arguments = plain (section_line draft word arguments)
line_by draft (Sets setting places) arguments = known_line draft setting places arguments
line_by draft Unknown arguments = plain (if is_before draft.section then Err Section else Err Keyword)

-- a line with these words; one without words changes nothing
unfoldable pub words_line : Draft → List (List ℕ) → LineReading Draft
words_line draft [] = plain (Ok draft)
words_line draft (first ∷ arguments) = line_by draft (first_word_of first) arguments

-- by the words of a line, or the fault in them; the definition of words gives no want of memory
abbrev pub line_by_words : Draft → Result (List (List ℕ)) LineFault → LineReading Draft
line_by_words draft (Ok words) = words_line draft words
line_by_words draft (Err faults.Word) = plain (Err Word)
line_by_words draft (Err faults.Limit) = plain (Err Limit)
line_by_words draft (Err faults.OutOfMemory) = plain (Err Limit)

-- a line of the text
unfoldable pub line_of : Draft → List ℕ → LineReading Draft
line_of draft line = line_by_words draft (words_of line)
