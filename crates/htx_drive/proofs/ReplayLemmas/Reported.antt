-- The reports of connections that were run one after another, and what is written of them.
use Rattle.std.proofs.Common.{◌≡◌, ℕ, suc, ◌+◌, List, [], ◌∷◌, ◌++◌, length, map, refl, sym, ap, subst, ◌∙◌}
use Rattle.std.specs.Prelude.{Result, Ok, Err, IfOk}
use Rattle.std.proofs.lemmas.List.{append-nil, length-map}
use Rattle.session_model.specs.Meaning.{Meaning}
use Rattle.session_model.specs.Session.{Out}
use Rattle.session_core.specs.History.{Past}
use Rattle.px_link.specs.declared.turns.Turn.{Turn}
use Rattle.htx_drive.specs.Machine.{CoreSeen}
use Rattle.rec_format.specs.declared.record.Connection.{Connection}
use Rattle.rec_format.specs.declared.report.Report.{Report}
use Rattle.rec_format.specs.Read.{visit, visits}
use Rattle.rec_format.specs.ReportParts.{out_of}
use Rattle.rec_format.specs.Recorded.{Visit, Recorded}
use Rattle.rec_format.specs.Reports.{Reportable, report_of_all}
use Rattle.htx_drive.specs.Drill.Drill.{drill_of}
use Rattle.htx_drive.specs.Drill.Lines.{drill_text}
use Rattle.htx_drive.specs.Replay.Replayed.{Replays, EachFrom}
use Rattle.htx_drive.specs.Replay.Written.{IsReportOf, IsDrillOf}

-- all connections were run
pub reports_done : (one : List Turn → Visit → Out → Type 0) (turns : List (ℕ × Turn)) (owner : ℕ) (all left : List Visit) (front : List Out) → left ≡ []
    → ((others : List Out) → EachFrom one turns owner left others → EachFrom one turns 1 all (front ++ others)) → EachFrom one turns 1 all front
reports_done one turns owner all left front none so =
    let P : List Out → Type 0 = λ l. EachFrom one turns 1 all l in
    let Q : List Visit → Type 0 = λ l. EachFrom one turns owner l [] in
    subst P (append-nil front) (so [] (subst Q (sym none) tt))

as_many : (one : List Turn → Visit → Out → Type 0) (turns : List (ℕ × Turn)) (owner : ℕ) (visits : List Visit) (outs : List Out) → EachFrom one turns owner visits outs → length outs ≡ length visits
as_many one turns owner [] [] all = refl
as_many one turns owner (visit ∷ visits) (out ∷ outs) all = ap (λ (n : ℕ). suc n) (as_many one turns (owner + 1) visits outs all.1)
as_many one turns owner [] (out ∷ outs) all = absurd all
as_many one turns owner (visit ∷ visits) [] all = absurd all

-- there are as many reports as connections
pub reportable : (one : List Turn → Visit → Out → Type 0) (turns : List (ℕ × Turn)) (version count : ℕ) (conns : List Connection) (reports slice : List Report) → Reportable version count → count ≡ length conns → slice ≡ reports
    → EachFrom one turns 1 (visits conns) (map out_of reports) → Reportable version (length slice)
reportable one turns version count conns reports slice can counted same all =
    let P : ℕ → Type 0 = λ n. Reportable version n in
    let long : length (map out_of reports) ≡ length (visits conns) = as_many one turns 1 (visits conns) (map out_of reports) all in
    subst P (counted ∙ sym (length-map conns visit) ∙ sym long ∙ length-map reports out_of ∙ ap (λ (l : List Report). length l) (sym same)) can

-- ---- what is written

pub report_by : {E : Type 0} (one : List Turn → Visit → Out → Type 0) (rec : Recorded) (reports slice : List Report) (r : Result (List ℕ) E) → EachFrom one rec.turns 1 rec.connections (map out_of reports) → slice ≡ reports
    → IfOk r (λ (text : List ℕ). text ≡ report_of_all rec.version (map out_of slice)) → IfOk r (IsReportOf one rec)
report_by one rec reports slice (Ok text) all same is = (map out_of reports, all, is ∙ ap (λ (l : List Report). report_of_all rec.version (map out_of l)) same)
report_by one rec reports slice (Err fault) all same is = tt

pub drilled : {C E : Type 0} (M : Meaning) (stands : C → Past → Type 0) (seen : C → CoreSeen) (seed exchanges : ℕ) (conn : Connection) (report : Report) (r : Result (List ℕ) E) → visit conn ≡ drill_of seed exchanges → Replays M stands seen [] (visit conn) (out_of report)
    → IfOk r (λ (text : List ℕ). text ≡ drill_text (out_of report)) → IfOk r (IsDrillOf M stands seen seed exchanges)
drilled M stands seen seed exchanges conn report (Ok text) same ran is = let P : Visit → Type 0 = λ v. Replays M stands seen [] v (out_of report) in (out_of report, subst P same ran, is)
drilled M stands seen seed exchanges conn report (Err fault) same ran is = tt
