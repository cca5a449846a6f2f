use Rattle.std.proofs.Common.{List, ℕ, inl, inr, sym, subst}
use Rattle.std.specs.Prelude.{Option, Ok}
use Rattle.px_link.specs.Told.{NamedBytes, Reads}
use Rattle.rec_format.specs.Read.{meaning_of}
use Rattle.rec_format.specs.declared.record.RecFault.{RecFault}
use Rattle.proxy_commands.specs.Stops.{Input, given, stop_of_record}
use Rattle.proxy_commands.proofs.Causes.{answers_err, record_stops}
use Rattle.proxy_commands.proofs.Told.{recorded}
use Rattle.proxy_commands.proofs.answer.check_record.Goals as goal

pub returns-in_err-record : goal.returns-in_err-record
returns-in_err-record g c =
    let told : Option (List NamedBytes) = g.F.Files.files c.args.files.now in
    let text : List ℕ = c.as_slice.result.now in
    let read : Reads told c.args.name.now 67108865 text = subst (λ (t : List ℕ). Reads told c.args.name.now 67108865 t) (sym c.as_slice.ensures) c.in_ok-text.ensures.bytes in
    let fault : RecFault = c.in_err-record.field-0.0 in
    λ words builder check built.
    let input : Input = given words told builder (g.F.Files.last_failed c.read.new.files) (g.F.Files.faults c.args.files.now) (g.F.Files.faults c.read.new.files) in
    answers_err input c.from_residual-in_err-record.result (stop_of_record fault) c.from_residual-in_err-record.ensures.1
    (record_stops input c.args.name.now text fault (inl check) read c.in_err-record.ensures.refused)

pub returns : goal.returns
returns g c =
    let told : Option (List NamedBytes) = g.F.Files.files c.args.files.now in
    let text : List ℕ = c.as_slice.result.now in
    let read : Reads told c.args.name.now 67108865 text = subst (λ (t : List ℕ). Reads told c.args.name.now 67108865 t) (sym c.as_slice.ensures) c.in_ok-text.ensures.bytes in
    λ words builder check built. (
      inr (inl (
        c.args.name.now,
        check,
        (
          meaning_of c.in_ok-record.record,
          recorded told c.args.name.now text (Ok (meaning_of c.in_ok-record.record)) read c.in_ok-record.ensures.read,
          c.in_ok-write_record.ensures,
        ),
      )),
      built,
    )
