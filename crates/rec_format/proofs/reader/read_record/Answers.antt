use Rattle.std.proofs.Common.{◌≡◌, ◌≤◌, length, sym, ap, ◌∙◌, arith}
use Rattle.std.specs.Prelude.{Some, None, option_map}
use Rattle.rec_format.specs.declared.record.RecKind.TheVariants as kinds
use Rattle.rec_format.specs.Recorded.{record_of, in_format, format_of, refusal_at}
use Rattle.rec_format.specs.Parts.{count_behind}
use Rattle.rec_format.proofs.Joining.{too_long, no_format, by_format, refuses_fault, gives_read, gives_refused}
use Rattle.rec_format.proofs.reader.read_record.Goals as goal

pub returns-then-bytes-clause-refused : goal.returns-then-bytes-clause-refused
returns-then-bytes-clause-refused c = too_long c.args.bytes.now (omega (arith, c.if-bytes.true))

pub returns-in-None-clause-refused : goal.returns-in-None-clause-refused
returns-in-None-clause-refused c =
    let text = c.args.bytes.now in
    let short : length text ≤ 67108864 = omega (arith, c.if-bytes.false) in
    let none : format_of text ≡ None = sym c.format.ensures ∙ ap (option_map count_behind) c.in-None.is in
    refuses_fault (record_of text) c.refusal.result (refusal_at (length text) text kinds.Header) c.refusal.ensures (no_format text short none)

pub returns-in-Some-clause-read : goal.returns-in-Some-clause-read
returns-in-Some-clause-read c =
    let text = c.args.bytes.now in
    let short : length text ≤ 67108864 = omega (arith, c.if-bytes.false) in
    let some : format_of text ≡ Some (c.in-Some.version, c.in-Some.rest.now) = sym c.format.ensures ∙ ap (option_map count_behind) c.in-Some.is in
    gives_read (record_of text) (in_format (length text) (c.in-Some.version, c.in-Some.rest.now)) c.in_format.result c.in_format.ensures (by_format text c.in-Some.version c.in-Some.rest.now short some)

pub returns-in-Some-clause-refused : goal.returns-in-Some-clause-refused
returns-in-Some-clause-refused c =
    let text = c.args.bytes.now in
    let short : length text ≤ 67108864 = omega (arith, c.if-bytes.false) in
    let some : format_of text ≡ Some (c.in-Some.version, c.in-Some.rest.now) = sym c.format.ensures ∙ ap (option_map count_behind) c.in-Some.is in
    gives_refused (record_of text) (in_format (length text) (c.in-Some.version, c.in-Some.rest.now)) c.in_format.result c.in_format.ensures (by_format text c.in-Some.version c.in-Some.rest.now short some)
