-- What words ask for.
use Rattle.std.specs.Prelude.{ℕ, List}
use Rattle.px_command.specs.Command.{IsCheck, IsCheckAll, IsCheckPrint, IsCheckRecord, IsReplay, IsExplain, IsExplainBlocks, IsWeave, IsServe, IsRun, IsDrill, IsHelp, IsHelpOf, IsVersion, IsUsage}
use Rattle.px_command.specs.Texts.{EndsLine}
use Rattle.px_command.specs.declared.ask.Asked.{Asked}
use Rattle.px_command.specs.declared.ask.Asked.TheVariants.{Check, CheckAll, CheckPrint, CheckRecord, Replay, Explain, ExplainBlocks, Weave, Serve, Run, Drill, Help, HelpOf, Version, Usage}

-- the words are the list that was told; where they are none, a text of lines goes with that
abbrev pub IsAsked : List (List ℕ) → Asked → Type 0
IsAsked words (Check cfg) = IsCheck words cfg.now
IsAsked words (CheckAll cfg) = IsCheckAll words cfg.now
IsAsked words (CheckPrint cfg) = IsCheckPrint words cfg.now
IsAsked words (CheckRecord rec) = IsCheckRecord words rec.now
IsAsked words (Replay cfg rec) = IsReplay words cfg.now rec.now
IsAsked words (Explain cfg rec) = IsExplain words cfg.now rec.now
IsAsked words (ExplainBlocks cfg rec) = IsExplainBlocks words cfg.now rec.now
IsAsked words (Weave cfg rec cores) = IsWeave words cfg.now rec.now cores
IsAsked words (Serve cfg connections) = IsServe words cfg.now connections
IsAsked words (Run cfg options) = IsRun words cfg.now options
IsAsked words (Drill seed exchanges) = IsDrill words seed exchanges
IsAsked words Help = IsHelp words
IsAsked words (HelpOf command) = IsHelpOf words command
IsAsked words Version = IsVersion words
IsAsked words (Usage text) = IsUsage words × EndsLine text
