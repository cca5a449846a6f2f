-- The lines that the program writes itself.
use Rattle.std.specs.Prelude.{ℕ, List, ◌++◌, codes, decimal}
use Rattle.cfg_parse.specs.declared.fault.CfgKind.{CfgKind}
use Rattle.cfg_parse.specs.declared.fault.CfgKind.TheVariants.{Word, Section, Keyword, Argument, Expr, Acl, Pattern, FramingName, Limit, Missing, Mode}
use Rattle.rec_format.specs.declared.record.RecKind.{RecKind}
use Rattle.rec_format.specs.declared.record.RecKind.TheVariants as kinds

abbrev pub kind_name : CfgKind → List ℕ
kind_name Word = codes "Word"
kind_name Section = codes "Section"
kind_name Keyword = codes "Keyword"
kind_name Argument = codes "Argument"
kind_name Expr = codes "Expr"
kind_name Acl = codes "Acl"
kind_name Pattern = codes "Pattern"
kind_name FramingName = codes "FramingName"
kind_name Limit = codes "Limit"
kind_name Missing = codes "Missing"
kind_name Mode = codes "Mode"

-- what must stand where a record is refused
abbrev pub record_kind_name : RecKind → List ℕ
record_kind_name kinds.Header = codes "Header"
record_kind_name kinds.Length = codes "Length"
record_kind_name kinds.Turn = codes "Turn"
record_kind_name kinds.Rest = codes "Rest"
record_kind_name kinds.Limit = codes "Limit"
record_kind_name kinds.Count = codes "Count"

-- a configuration with so many request rules, rules on what the client is sent, and filters of both directions is accepted
unfoldable pub accepted_line : (rules answers filters : ℕ) → List ℕ
accepted_line rules answers filters =
    codes "config ok: request rules " ++ decimal rules ++ codes ", response rules " ++ decimal answers ++ codes ", filters " ++ decimal filters ++ codes "\n"

-- a configuration is refused at this line
unfoldable pub refused_line : ℕ → CfgKind → List ℕ
refused_line line kind = codes "config: line " ++ decimal line ++ codes ": " ++ kind_name kind ++ codes "\n"

-- a record is refused at this byte
unfoldable pub record_line : ℕ → RecKind → List ℕ
record_line place kind = codes "record: byte " ++ decimal place ++ codes ": " ++ record_kind_name kind ++ codes "\n"

-- the file of this name could not be read
unfoldable pub file_line : List ℕ → List ℕ
file_line name = codes "file: " ++ name ++ codes "\n"
