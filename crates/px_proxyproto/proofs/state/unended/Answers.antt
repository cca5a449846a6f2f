use Rattle.std.proofs.Common.{arith}
use Rattle.px_proxyproto.proofs.Lines.{goes_on, no_header, never_ends}
use Rattle.px_proxyproto.proofs.state.unended.Goals as goal

pub returns-then-bytes-lt-LINE : goal.returns-then-bytes-lt-LINE
returns-then-bytes-lt-LINE c = goes_on c.args.bytes.now c.requires.unsigned c.requires.inside (omega arith)

pub returns : goal.returns
returns c = no_header c.args.bytes.now c.requires.unsigned (never_ends c.args.bytes.now c.requires.inside (omega arith))
