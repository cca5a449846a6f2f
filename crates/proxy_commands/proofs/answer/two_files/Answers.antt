use Rattle.std.proofs.Common.{ℕ, List, ◌≡◌, ◌<◌, inl, inr, sym, subst, length, map, arith, vec_len}
use Rattle.std.specs.Prelude.{Option}
use Rattle.std.proofs.lemmas.List.{length-map}
use Rattle.px_link.specs.Told.{NamedBytes, Reads}
use Rattle.rec_format.specs.Read.{meaning_of, visit}
use Rattle.rec_format.specs.Reports.{Reportable}
use Rattle.rec_format.specs.declared.record.RecFault.{RecFault}
use Rattle.proxy_commands.specs.Files.{Builder, told_by}
use Rattle.proxy_commands.specs.Stops.{Input, StopsBy, given, stop_of_record}
use Rattle.proxy_commands.specs.Answers.{IsAccepted}
use Rattle.proxy_commands.specs.Modes.{RunsSo}
use Rattle.proxy_commands.proofs.Causes.{accepted, passed_on, read_stops, record_stops, runs_record}
use Rattle.proxy_commands.proofs.Told.{said}
use Rattle.proxy_commands.proofs.Connections.{some_connection}
use Rattle.proxy_commands.proofs.answer.two_files.Goals as goal

pub returns-in_err-config-clause-stop : goal.returns-in_err-config-clause-stop
returns-in_err-config-clause-stop g c =
    let builder : Builder = told_by (g.P.Patterns.refusals c.args.pats.now) (g.P.Patterns.refusals c.taken_configuration.new.pats) (g.P.Patterns.last_refused c.taken_configuration.new.pats) in
    λ words so.
    let input : Input = given words (g.F.Files.files c.args.files.now) builder (g.F.Files.last_failed c.taken_configuration.new.files) (g.F.Files.faults c.args.files.now) (g.F.Files.faults c.taken_configuration.new.files) in
    passed_on c.from_residual.result c.in_err-config.field-0.0 (StopsBy input) c.from_residual.ensures.1 (c.in_err-config.ensures.stop words c.args.rec_name.now so)

pub returns-in_err-text-clause-stop : goal.returns-in_err-text-clause-stop
returns-in_err-text-clause-stop g c =
    let told : Option (List NamedBytes) = g.F.Files.files c.args.files.now in
    let builder : Builder = told_by (g.P.Patterns.refusals c.args.pats.now) (g.P.Patterns.refusals c.taken_configuration.new.pats) (g.P.Patterns.last_refused c.taken_configuration.new.pats) in
    let taken : (words : List (List ℕ)) → RunsSo c.args.command words c.args.cfg_name.now c.args.rec_name.now → IsAccepted words told c.args.cfg_name.now c.args.rec_name.now =
    λ words so. accepted words told c.args.cfg_name.now c.args.rec_name.now c.in_ok-config.config
    (c.args.command, so, c.in_ok-config.ensures.taken) c.in_ok-config.ensures.accepted in
    λ words so.
    let input : Input = given words told builder (g.F.Files.last_failed c.read.new.files) (g.F.Files.faults c.args.files.now) (g.F.Files.faults c.read.new.files) in
    passed_on c.from_residual-in_err-text.result c.in_err-text.field-0.0 (StopsBy input) c.from_residual-in_err-text.ensures.1
    (read_stops input c.args.rec_name.now (g.F.Files.faults c.taken_configuration.new.files) c.in_err-text.field-0.0
    (inr (inr (c.args.cfg_name.now, runs_record c.args.command words c.args.cfg_name.now c.args.rec_name.now so, taken words so, c.in_ok-config.ensures.built))) c.in_ok-config.ensures.grows c.in_err-text.ensures.stop)

pub returns-in_err-record-clause-stop : goal.returns-in_err-record-clause-stop
returns-in_err-record-clause-stop g c =
    let told : Option (List NamedBytes) = g.F.Files.files c.args.files.now in
    let text : List ℕ = c.as_slice.result.now in
    let read : Reads told c.args.rec_name.now 67108865 text =
    subst (λ (o : Option (List NamedBytes)). Reads o c.args.rec_name.now 67108865 text) c.in_ok-config.ensures.files
    (subst (λ (t : List ℕ). Reads (g.F.Files.files c.taken_configuration.new.files) c.args.rec_name.now 67108865 t) (sym c.as_slice.ensures) c.in_ok-text.ensures.bytes) in
    let builder : Builder = told_by (g.P.Patterns.refusals c.args.pats.now) (g.P.Patterns.refusals c.taken_configuration.new.pats) (g.P.Patterns.last_refused c.taken_configuration.new.pats) in
    let fault : RecFault = c.in_err-record.field-0.0 in
    let taken : (words : List (List ℕ)) → RunsSo c.args.command words c.args.cfg_name.now c.args.rec_name.now → IsAccepted words told c.args.cfg_name.now c.args.rec_name.now =
    λ words so. accepted words told c.args.cfg_name.now c.args.rec_name.now c.in_ok-config.config
    (c.args.command, so, c.in_ok-config.ensures.taken) c.in_ok-config.ensures.accepted in
    λ words so.
    let input : Input = given words told builder (g.F.Files.last_failed c.read.new.files) (g.F.Files.faults c.args.files.now) (g.F.Files.faults c.read.new.files) in
    passed_on c.from_residual-in_err-record.result (stop_of_record fault) (StopsBy input) c.from_residual-in_err-record.ensures.1
    (record_stops input c.args.rec_name.now text fault (inr (c.args.cfg_name.now, runs_record c.args.command words c.args.cfg_name.now c.args.rec_name.now so, taken words so, c.in_ok-config.ensures.built)) read c.in_err-record.ensures.refused)

pub returns-clause-say : goal.returns-clause-say
returns-clause-say g c =
    let told : Option (List NamedBytes) = g.F.Files.files c.args.files.now in
    let text : List ℕ = c.as_slice.result.now in
    let read : Reads told c.args.rec_name.now 67108865 text =
    subst (λ (o : Option (List NamedBytes)). Reads o c.args.rec_name.now 67108865 text) c.in_ok-config.ensures.files
    (subst (λ (t : List ℕ). Reads (g.F.Files.files c.taken_configuration.new.files) c.args.rec_name.now 67108865 t) (sym c.as_slice.ensures) c.in_ok-text.ensures.bytes) in
    said told c.args.cfg_name.now c.args.rec_name.now text c.in_ok-config.config (meaning_of c.in_ok-record.record) c.in_ok-config.ensures.accepted read c.in_ok-record.ensures.read

pub returns-clause-reportable : goal.returns-clause-reportable
returns-clause-reportable g c =
    let conns = c.in_ok-record.record.conns in
    let count : length (map visit conns.items) ≡ vec_len conns = omega (arith, length-map conns.items visit, conns.ok.0) in
    subst (λ (n : ℕ). Reportable c.in_ok-record.record.version n) count
    (c.reportable.ensures c.as_slice.result.now (meaning_of c.in_ok-record.record) c.in_ok-record.ensures.read)

pub returns-clause-numbered : goal.returns-clause-numbered
returns-clause-numbered g c = c.numbered.ensures c.as_slice.result.now (meaning_of c.in_ok-record.record) c.in_ok-record.ensures.read

pub returns-clause-some : goal.returns-clause-some
returns-clause-some g c =
    let conns = c.in_ok-record.record.conns in
    let count : length (map visit conns.items) ≡ vec_len conns = omega (arith, length-map conns.items visit, conns.ok.0) in
    subst (λ (n : ℕ). 0 < n) count (some_connection c.as_slice.result.now (meaning_of c.in_ok-record.record) c.in_ok-record.ensures.read)
