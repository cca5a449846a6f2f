-- What the end of a call says, clause by clause, where `run` is among the commands.
use Rattle.std.proofs.Common.{◌≡◌, ℕ, List, ◌⊎◌, inl, inr, refl, sym, ap, ◌∙◌, subst}
use Rattle.std.specs.Prelude.{Option, Some, Result, Ok, Err}
use Rattle.px_link.specs.Told.{NamedBytes, Gains, Rose}
use Rattle.px_link.specs.Link.{Seen}
use Rattle.px_peer.specs.declared.Pair.{Pair}
use Rattle.px_link.specs.Net.{Coming, Kept, NetSeen, address_of, with_address}
use Rattle.http_rules.specs.declared.config.Config.{Config}
use Rattle.px_command.specs.Command.{IsServe, IsUsage}
use Rattle.px_command.specs.Texts.{EndsLine}
use Rattle.px_command.specs.declared.options.RunOptions.{RunOptions}
use Rattle.px_run.specs.declared.plan.RunFault.{RunFault}
use Rattle.px_run.specs.declared.plan.RunFault.TheVariants as running
use Rattle.serve_run.specs.Lines.{net_line}
use Rattle.serve_run.specs.Served.{Breaks, NetFails, ServedAll}
use Rattle.serve_run.specs.Told.{Visited}
use Rattle.serve_run.specs.declared.outcome.ServeFault.{ServeFault}
use Rattle.proxy_commands.specs.Answers.{DecidesBy, DecidesRecord, IsGood, IsRecordRefusedOf, IsRefusal, IsRefusedBy, NamesServe}
use Rattle.proxy_call.specs.Due.{IsDue}
use Rattle.proxy_commands.specs.Ends.{Output, PutsFront, RanAny, Tells, put, ran_as}
use Rattle.proxy_call.specs.Ends.{EndedAny, RunsTo, status_of_run}
use Rattle.proxy_commands.specs.Files.{IsBuilt}
use Rattle.proxy_commands.specs.Lines.{file_line}
use Rattle.proxy_commands.specs.Running.{NamesRun}
use Rattle.proxy_commands.specs.Serving.{Serving}
use Rattle.proxy_sessions.specs.Serving.{GainsBind, LostBy, ServedBy, Serves}
use Rattle.proxy_commands.specs.Stops.{Input, IsSilent, StopsBy, status_of, stop_of_running}
use Rattle.proxy_commands.specs.declared.status.Status.{Status}
use Rattle.proxy_commands.specs.declared.status.Status.TheVariants as ended
use Rattle.proxy_commands.specs.declared.stop.Stop.{Stop}
use Rattle.proxy_call.proofs.Due.{of_told, run_not_due}
use Rattle.proxy_call.proofs.Endings as clause
use Rattle.proxy_call.proofs.Endings.{EndedBy}
use Rattle.proxy_call.proofs.Stopped.{ended_err, ended_ok}
use Rattle.proxy_call.proofs.Words.{good_or_run, run_or_serve}

-- ---- from a command to the end of the call

silent_running : (fault : RunFault) → IsSilent (stop_of_running fault)
silent_running running.Net = tt
silent_running running.OutOfMemory = tt
silent_running running.Spent = tt

ran_err_is : (answer : Result (Unit {0}) RunFault) (s : Stop) → Err s ≡ ran_as answer → (fault : RunFault) × (answer ≡ Err fault) × (s ≡ stop_of_running fault)
ran_err_is (Ok done) s is = absurd cc
ran_err_is (Err fault) s is = (fault, refl, cc)

ran_ok_is : (answer : Result (Unit {0}) RunFault) → Ok tt ≡ ran_as answer → ended.Good ≡ status_of_run answer
ran_ok_is (Ok done) is = refl
ran_ok_is (Err fault) is = absurd cc

after_run : (answer : Result (Unit {0}) RunFault) (s : Stop) (status : Status) (fault : RunFault) → answer ≡ Err fault → s ≡ stop_of_running fault → status ≡ status_of s → status ≡ status_of_run answer
after_run answer s status fault which stop is = is ∙ ap status_of stop ∙ ap status_of_run (sym which)

still_ran : (F : ℕ → Option (List ℕ) → Type 0) (now later : ℕ) (new last : Option (List ℕ)) → later ≡ now → last ≡ new → F now new → F later last
still_ran F now later new last quiet same f = subst (λ (w : ℕ). F w last) (sym quiet) (subst (λ (o : Option (List ℕ)). F now o) (sym same) f)

pub any_ok : (input : Input) (output : Output) (quiet idle : Type 0) (Does : Config → ℕ → Result (Unit {0}) ServeFault → Type 0) (Runs : Config → RunOptions → Result (Unit {0}) RunFault → Type 0)
    → RanAny input output quiet idle Does Runs (Ok tt) → EndedAny input output quiet idle Does Runs ended.Good
any_ok input output quiet idle Does Runs (inl (ran, i)) = inl (ended_ok input output quiet Does ran, i)
any_ok input output quiet idle Does Runs (inr ((built, (name, options, is, cfg, told, (answer, runs, result))), q)) =
    inr (built, (name, options, is, cfg, told, (answer, runs, ran_ok_is answer result)), q)

pub any_err : (input : Input) (writes now later : ℕ) (old new last : Option (List ℕ)) (quiet idle : Type 0) (F : ℕ → Option (List ℕ) → Config → ℕ → Result (Unit {0}) ServeFault → Type 0)
    (G : ℕ → Option (List ℕ) → Config → RunOptions → Result (Unit {0}) RunFault → Type 0) (s : Stop) (status : Status)
    → RanAny input (put writes now old new) quiet idle (F now new) (G now new) (Err s)
    → (StopsBy input s → Tells input (put now later new last) status) → (IsSilent s → (status ≡ status_of s) × (later ≡ now) × (last ≡ new))
    → EndedAny input (put writes later old last) quiet idle (F later last) (G later last) status
any_err input writes now later old new last quiet idle F G s status (inl (ran, i)) told silent =
    inl (ended_err input writes now later old new last quiet F s status ran told silent, i)
any_err input writes now later old new last quiet idle F G s status (inr ((built, (name, options, is, cfg, accepted, (answer, runs, result))), q)) told silent =
    let f = ran_err_is answer s result in
    let end = silent (subst IsSilent (sym f.2) (silent_running f.0)) in
    inr (built, (name, options, is, cfg, accepted, (answer, still_ran (λ w o. G w o cfg options answer) now later new last end.1 end.2 runs, after_run answer s status f.0 f.1 f.2 end.0)), q)

-- ---- statuses that `run` itself does not end with

no_refusal : (answer : Result (Unit {0}) RunFault) → IsRefusal (status_of_run answer) → ⊥
no_refusal (Ok done) refusal = refusal
no_refusal (Err running.Net) refusal = refusal
no_refusal (Err running.OutOfMemory) refusal = refusal
no_refusal (Err running.Spent) refusal = refusal

no_output : (answer : Result (Unit {0}) RunFault) → ended.OutFault ≡ status_of_run answer → ⊥
no_output (Ok done) is = absurd cc
no_output (Err running.Net) is = absurd cc
no_output (Err running.OutOfMemory) is = absurd cc
no_output (Err running.Spent) is = absurd cc

module _ (words : List (List ℕ)) (files : Option (List NamedBytes)) (Runs : Config → RunOptions → Result (Unit {0}) RunFault → Type 0) where
  never_refuses : (status wanted : Status) → IsRefusal wanted → RunsTo words files Runs status → status ≡ wanted → ⊥
  never_refuses status wanted refusal (name, options, is, cfg, accepted, (answer, runs, same)) which = no_refusal answer (subst IsRefusal (sym which ∙ same) refusal)

  never_output : (status : Status) → RunsTo words files Runs status → status ≡ ended.OutFault → ⊥
  never_output status (name, options, is, cfg, accepted, (answer, runs, same)) which = no_output answer (sym which ∙ same)

  names : (status : Status) → RunsTo words files Runs status → NamesRun words
  names status (name, options, is, cfg, accepted, (answer, runs, same)) = (name, options, is)

or_ran : {A B C : Type 0} → A ⊎ B → A ⊎ (B ⊎ C)
or_ran (inl a) = inl a
or_ran (inr b) = inr (inl b)

-- ---- clauses
module _ {L N : Type 0} (seen : L → Seen) (wrote : L → List ℕ → Type 0) (tells : L → Option Pair → Type 0) (net_seen : N → NetSeen) (first now : N) (idle : Type 0) (Runs : Config → RunOptions → Result (Unit {0}) RunFault → Type 0)
    (input : Input) (output : Output) where
  abbrev pub End : Status → Type 0
  End status = EndedAny input output (now ≡ first) idle (Serves seen wrote tells net_seen first now output.writes output.writes_now output.old output.new) Runs status

  pub usage : (status : Status) → End status → status ≡ ended.Usage → IsUsage input.words × (text : List ℕ) × EndsLine text × Gains output.old output.new text
  usage status (inl (end, i)) is = clause.usage seen wrote tells net_seen first now input output status end is
  usage status (inr (built, runs, q)) is = absurd (never_refuses input.words input.files Runs status ended.Usage tt runs is)

  pub config : (status : Status) → End status → status ≡ ended.Config → (text : List ℕ) × IsRefusedBy input.words input.files input.builder text × Gains output.old output.new text
  config status (inl (end, i)) is = clause.config seen wrote tells net_seen first now input output status end is
  config status (inr (built, runs, q)) is = absurd (never_refuses input.words input.files Runs status ended.Config tt runs is)

  pub record_refused : (status : Status) → End status → status ≡ ended.Record
      → (name : List ℕ) × DecidesRecord input.words input.files input.builder name × (text : List ℕ) × IsRecordRefusedOf input.files name text × Gains output.old output.new text
  record_refused status (inl (end, i)) is = clause.record_refused seen wrote tells net_seen first now input output status end is
  record_refused status (inr (built, runs, q)) is = absurd (never_refuses input.words input.files Runs status ended.Record tt runs is)

  pub file_fault : (status : Status) → End status → status ≡ ended.FileFault → Rose input.reads input.reads_now
  file_fault status (inl (end, i)) is = clause.file_fault seen wrote tells net_seen first now input output status end is
  file_fault status (inr (built, runs, q)) is = absurd (never_refuses input.words input.files Runs status ended.FileFault tt runs is)

  pub file_name : (status : Status) → End status → status ≡ ended.FileFault → DecidesBy input.words input.files input.builder input.last
  file_name status (inl (end, i)) is = clause.file_name seen wrote tells net_seen first now input output status end is
  file_name status (inr (built, runs, q)) is = absurd (never_refuses input.words input.files Runs status ended.FileFault tt runs is)

  pub file_told : (status : Status) → End status → status ≡ ended.FileFault → Gains output.old output.new (file_line input.last)
  file_told status (inl (end, i)) is = clause.file_told seen wrote tells net_seen first now input output status end is
  file_told status (inr (built, runs, q)) is = absurd (never_refuses input.words input.files Runs status ended.FileFault tt runs is)

  -- ---- good

  or_run : {A B : Type 0} → A ⊎ B → A ⊎ (NamesRun input.words ⊎ B)
  or_run (inl a) = inl a
  or_run (inr b) = inr (inr b)

  pub good : (status : Status) → End status → status ≡ ended.Good
      → NamesServe input.words ⊎ (NamesRun input.words ⊎ ((text : List ℕ) × IsGood input.words input.files text × Gains output.old output.new text))
  good status (inl (end, i)) is = or_run (clause.good seen wrote tells net_seen first now input output status end is)
  good status (inr (built, runs, q)) is = inr (inl (names input.words input.files Runs status runs))

  pub served : (status : Status) → End status → status ≡ ended.Good → NamesServe input.words
      → Serving input.words input.files (λ cfg count. ServedAll net_seen (ServedBy seen wrote tells net_seen cfg) (address_of cfg.bind) count first now output.old output.new)
  served status (inl (end, i)) is named = clause.served seen wrote tells net_seen first now input output status end is named
  served status (inr (built, runs, q)) is named = absurd (run_or_serve input.words (names input.words input.files Runs status runs) named)

  pub binds : (status : Status) → End status → status ≡ ended.Good → NamesServe input.words → Serving input.words input.files (λ cfg count. GainsBind (net_seen first) (net_seen now) cfg)
  binds status (inl (end, i)) is named = clause.binds seen wrote tells net_seen first now input output status end is named
  binds status (inr (built, runs, q)) is named = absurd (run_or_serve input.words (names input.words input.files Runs status runs) named)

  pub told : (status : Status) → End status → (cfg_name : List ℕ) (count : ℕ) → IsServe input.words cfg_name count → status ≡ ended.Good
      → (coming : List Coming) (answers : List (Option Coming)) (kept : List Kept)
      → (net_seen first).accepts ≡ Some coming → (net_seen first).answers ≡ Some answers → (net_seen first).kept ≡ Some kept → Visited (net_seen now) coming kept count
  told status (inl (end, i)) cfg_name count serve is = clause.told seen wrote tells net_seen first now input output status end cfg_name count serve is
  told status (inr (built, runs, q)) cfg_name count serve is = absurd (run_or_serve input.words (names input.words input.files Runs status runs) (cfg_name, count, serve))

  -- ---- `run`

  ran_end : EndedBy seen wrote tells net_seen first now input output ended.Good → NamesRun input.words → ⊥
  ran_end end named = elim (clause.good seen wrote tells net_seen first now input output ended.Good end refl) [
    | inl serve ↦ run_or_serve input.words named serve
    | inr text ↦ good_or_run input.words text.0 input.files text.1 named
  ]

  pub ran : (status : Status) → End status → status ≡ ended.Good → NamesRun input.words → RunsTo input.words input.files Runs status
  ran status (inl (end, i)) is named = absurd (ran_end (subst (λ (s : Status). EndedBy seen wrote tells net_seen first now input output s) is end) named)
  ran status (inr (built, runs, q)) is named = runs

  pub left_idle : (status : Status) → End status → idle ⊎ RunsTo input.words input.files Runs status
  left_idle status (inl (end, i)) = inl i
  left_idle status (inr (built, runs, q)) = inr runs

  pub never_ran : (status : Status) → End status → (NamesRun input.words → ⊥) → idle
  never_ran status (inl (end, i)) never = i
  never_ran status (inr (built, runs, q)) never = absurd (never (names input.words input.files Runs status runs))

  pub refused_idle : (status : Status) → End status → IsRefusal status → idle
  refused_idle status (inl (end, i)) refusal = i
  refused_idle status (inr (built, runs, q)) refusal = absurd (never_refuses input.words input.files Runs status status refusal runs refl)

  -- ---- faults

  pub out_fault : (status : Status) → End status → status ≡ ended.OutFault → Rose output.writes output.writes_now
  out_fault status (inl (end, i)) is = clause.out_fault seen wrote tells net_seen first now input output status end is
  out_fault status (inr (built, runs, q)) is = absurd (never_output input.words input.files Runs status runs is)

  pub front : (status : Status) → End status → status ≡ ended.OutFault
      → (PutsFront input output × (now ≡ first)) ⊎ (IsBuilt input.builder × Serving input.words input.files (λ cfg count. Breaks net_seen (ServedBy seen wrote tells net_seen cfg) (LostBy seen wrote tells net_seen cfg) (address_of cfg.bind) count first now output.old output.new))
  front status (inl (end, i)) is = clause.front seen wrote tells net_seen first now input output status end is
  front status (inr (built, runs, q)) is = absurd (never_output input.words input.files Runs status runs is)

  pub memory : (status : Status) → End status → status ≡ ended.OutOfMemory
      → (((output.new ≡ output.old) ⊎ PutsFront input output) × (now ≡ first))
      ⊎ ((IsBuilt input.builder × Serving input.words input.files (λ cfg count. Breaks net_seen (ServedBy seen wrote tells net_seen cfg) (LostBy seen wrote tells net_seen cfg) (address_of cfg.bind) count first now output.old output.new))
      ⊎ (IsBuilt input.builder × RunsTo input.words input.files Runs status))
  memory status (inl (end, i)) is = or_ran (clause.memory seen wrote tells net_seen first now input output status end is)
  memory status (inr (built, runs, q)) is = inr (inr (built, runs))

  pub net_fault : (status : Status) → End status → status ≡ ended.NetFault
      → Serving input.words input.files (λ cfg count. NetFails net_seen (ServedBy seen wrote tells net_seen cfg) (address_of cfg.bind) count net_line first now output.old output.new)
      ⊎ RunsTo input.words input.files Runs status
  net_fault status (inl (end, i)) is = inl (clause.net_fault seen wrote tells net_seen first now input output status end is)
  net_fault status (inr (built, runs, q)) is = inr runs

  -- ---- the builder

  pub built : (status : Status) → End status → status ≡ ended.Good → IsBuilt input.builder
  built status (inl (end, i)) is = clause.built seen wrote tells net_seen first now input output status end is
  built status (inr (b, runs, q)) is = b

  pub net_built : (status : Status) → End status → status ≡ ended.NetFault → IsBuilt input.builder
  net_built status (inl (end, i)) is = clause.net_built seen wrote tells net_seen first now input output status end is
  net_built status (inr (b, runs, q)) is = b

  -- ---- the net

  pub bound : (status : Status) → End status → ((net_seen now).bound ≡ (net_seen first).bound) ⊎ Serving input.words input.files (λ cfg count. GainsBind (net_seen first) (net_seen now) cfg)
  bound status (inl (end, i)) = clause.bound seen wrote tells net_seen first now input output status end
  bound status (inr (built, runs, q)) = inl (ap (λ (n : N). (net_seen n).bound) q)

  pub dialled : (status : Status) → End status
      → ((net_seen now).dialled ≡ (net_seen first).dialled) ⊎ Serving input.words input.files (λ cfg count. (net_seen now).dialled ≡ with_address (net_seen first).dialled (address_of cfg.server))
  dialled status (inl (end, i)) = clause.dialled seen wrote tells net_seen first now input output status end
  dialled status (inr (built, runs, q)) = inl (ap (λ (n : N). (net_seen n).dialled) q)

  pub lent : (status : Status) → End status → (net_seen now).lent ≡ (net_seen first).lent
  lent status (inl (end, i)) = clause.lent seen wrote tells net_seen first now input output status end
  lent status (inr (built, runs, q)) = ap (λ (n : N). (net_seen n).lent) q

  pub refused : (status : Status) → End status → IsRefusal status → now ≡ first
  refused status (inl (end, i)) refusal = clause.refused seen wrote tells net_seen first now input output status end refusal
  refused status (inr (built, runs, q)) refusal = q

  pub untouched : (status : Status) → End status → (NamesServe input.words → ⊥) → now ≡ first
  untouched status (inl (end, i)) never = clause.untouched seen wrote tells net_seen first now input output status end never
  untouched status (inr (built, runs, q)) never = q

  -- ---- completeness

  never_due : (fs : List NamedBytes) (status wanted : Status) → input.files ≡ Some fs → RunsTo input.words input.files Runs status → IsDue input.words fs wanted → ⊥
  never_due fs status wanted files (name, options, is, cfg, accepted, (answer, runs, same)) due =
      run_not_due input.words fs name options cfg wanted is (of_told input.files fs _ files accepted) due

  pub complete : (status : Status) → End status → (fs : List NamedBytes) → input.files ≡ Some fs → (wanted : Status) → IsDue input.words fs wanted
      → (Rose input.reads input.reads_now → ⊥) → (Rose output.writes output.writes_now → ⊥) → (Rose input.builder.before input.builder.now → ⊥)
      → (NamesServe input.words → Rose (net_seen first).bind_faults (net_seen now).bind_faults → ⊥) → (status ≡ wanted) ⊎ (status ≡ ended.OutOfMemory)
  complete status (inl (end, i)) fs files wanted due reads writes builds binds = clause.complete seen wrote tells net_seen first now input output status end fs files wanted due reads writes builds binds
  complete status (inr (built, runs, q)) fs files wanted due reads writes builds binds = absurd (never_due fs status wanted files runs due)
