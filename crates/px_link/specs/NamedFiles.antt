-- How files in memory are kept.
use Rattle.std.specs.Prelude.{List, map}
use Rattle.px_link.specs.Told.{NamedBytes}
use Rattle.px_link.specs.declared.mem_files.NamedFile.{NamedFile}

-- each with its name
abbrev pub named_bytes : List NamedFile → List NamedBytes
named_bytes files = map (λ file. (file.name, file.bytes)) files
