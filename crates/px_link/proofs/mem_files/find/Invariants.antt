use Rattle.std.proofs.Common.{◌≡◌, drop}
use Rattle.px_link.specs.Told.{content_of}
use Rattle.px_link.specs.NamedFiles.{named_bytes}
use Rattle.px_link.proofs.mem_files.find.Given as goal

abbrev pub invariant-loop-file : goal.invariant-loop-file
invariant-loop-file l = content_of (named_bytes (drop l.file-index l.files)) l.name ≡ content_of (named_bytes l.files) l.name
