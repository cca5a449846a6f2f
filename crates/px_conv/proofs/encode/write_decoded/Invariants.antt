use Rattle.std.proofs.Common.{◌≡◌, ◌≤◌, ◌++◌, length}
use Rattle.percent_encoding.specs.Iter.{decoded_bytes}
use Rattle.px_conv.specs.Encode.{url_decoded}
use Rattle.px_conv.proofs.encode.write_decoded.Given as goal

-- what was written, with what is left, is the whole
abbrev pub invariant-loop-byte : goal.invariant-loop-byte
invariant-loop-byte l = record {
  cap : l.into.cap ≡ l.initial.into.cap;
  within : length l.into.bytes ≤ l.into.cap;
  whole : l.into.bytes ++ decoded_bytes l.byte-iterator ≡ url_decoded l.bytes;
}
