-- What the end of a call says, clause by clause.
use Rattle.std.proofs.Common.{◌≡◌, ℕ, List, ◌⊎◌, inl, inr, refl, sym, ap, subst}
use Rattle.std.specs.Prelude.{Option, Some, Result, Ok, Err}
use Rattle.px_link.specs.Told.{NamedBytes, Gains, Rose}
use Rattle.px_link.specs.Link.{Seen}
use Rattle.px_peer.specs.declared.Pair.{Pair}
use Rattle.px_link.specs.Net.{Coming, Kept, NetSeen, address_of, with_address}
use Rattle.px_command.specs.Command.{IsServe, IsUsage}
use Rattle.px_command.specs.Texts.{EndsLine}
use Rattle.serve_run.specs.Lines.{net_line}
use Rattle.serve_run.specs.Served.{Breaks, NetFails, ServedAll}
use Rattle.serve_run.specs.Told.{Visited}
use Rattle.serve_run.specs.declared.outcome.ServeFault.{ServeFault}
use Rattle.serve_run.specs.declared.outcome.ServeFault.TheVariants as serving
use Rattle.proxy_commands.specs.Answers.{DecidesBy, DecidesRecord, IsGood, IsRecordRefusedOf, IsRefusal, IsRefusedBy, NamesServe}
use Rattle.proxy_call.specs.Due.{IsDue}
use Rattle.proxy_commands.specs.Ends.{Output, PutsFront, Tells}
use Rattle.proxy_call.specs.Ends.{Ended, status_after}
use Rattle.proxy_commands.specs.Files.{IsBuilt}
use Rattle.proxy_commands.specs.Lines.{file_line}
use Rattle.proxy_commands.specs.Serving.{Serving}
use Rattle.proxy_sessions.specs.Serving.{GainsBind, LostBy, ServedBy, Serves}
use Rattle.proxy_commands.specs.Stops.{Input}
use Rattle.proxy_commands.specs.declared.status.Status.{Status}
use Rattle.proxy_commands.specs.declared.status.Status.TheVariants as ended
use Rattle.proxy_call.proofs.Due.{due_once, good_due, of_told, record_due, refused_by_due}
use Rattle.proxy_call.proofs.Words.{good_or_serve, same_count}

-- how a call ended whose net went from one state to another
abbrev pub EndedBy : {L N : Type 0} (seen : L → Seen) (wrote : L → List ℕ → Type 0) (tells : L → Option Pair → Type 0) (net_seen : N → NetSeen) (first now : N) → Input → Output → Status → Type 0
EndedBy seen wrote tells net_seen first now input output status =
    Ended input output (now ≡ first) (Serves seen wrote tells net_seen first now output.writes output.writes_now output.old output.new) status

-- ---- statuses that `serve` itself does not end with

after_serving : (answer : Result (Unit {0}) ServeFault) → IsRefusal (status_after answer) → ⊥
after_serving (Ok done) refusal = refusal
after_serving (Err serving.Net) refusal = refusal
after_serving (Err serving.Output) refusal = refusal
after_serving (Err serving.OutOfMemory) refusal = refusal

not_serving : (answer : Result (Unit {0}) ServeFault) (status : Status) → IsRefusal status → status ≡ status_after answer → ⊥
not_serving answer status refusal is = after_serving answer (subst IsRefusal is refusal)

-- ---- clauses
module _ {L N : Type 0} (seen : L → Seen) (wrote : L → List ℕ → Type 0) (tells : L → Option Pair → Type 0) (net_seen : N → NetSeen) (first now : N) (input : Input) (output : Output) where
  only_told : (status : Status) → IsRefusal status → EndedBy seen wrote tells net_seen first now input output status → Tells input output status
  only_told status refusal (inl (told, quiet)) = told
  only_told status refusal (inr (built, (name, count, is, cfg, accepted, (answer, serves, same)))) = absurd (not_serving answer status refusal same)

  at : (status wanted : Status) → EndedBy seen wrote tells net_seen first now input output status → status ≡ wanted → EndedBy seen wrote tells net_seen first now input output wanted
  at status wanted end is = subst (λ (s : Status). EndedBy seen wrote tells net_seen first now input output s) is end

  pub usage : (status : Status) → EndedBy seen wrote tells net_seen first now input output status → status ≡ ended.Usage → IsUsage input.words × (text : List ℕ) × EndsLine text × Gains output.old output.new text
  usage status end is = let a = only_told ended.Usage tt (at status ended.Usage end is) in (a.answer.0, a.text, a.answer.1, a.gains)

  pub config : (status : Status) → EndedBy seen wrote tells net_seen first now input output status → status ≡ ended.Config
      → (text : List ℕ) × IsRefusedBy input.words input.files input.builder text × Gains output.old output.new text
  config status end is =
      let a = only_told ended.Config tt (at status ended.Config end is) in
      (a.text, a.answer, a.gains)

  pub record_refused : (status : Status) → EndedBy seen wrote tells net_seen first now input output status → status ≡ ended.Record
      → (name : List ℕ) × DecidesRecord input.words input.files input.builder name × (text : List ℕ) × IsRecordRefusedOf input.files name text × Gains output.old output.new text
  record_refused status end is =
      let a = only_told ended.Record tt (at status ended.Record end is) in
      (a.answer.0, a.answer.1, a.text, a.answer.2, a.gains)

  pub file_fault : (status : Status) → EndedBy seen wrote tells net_seen first now input output status → status ≡ ended.FileFault → Rose input.reads input.reads_now
  file_fault status end is = (only_told ended.FileFault tt (at status ended.FileFault end is)).cause refl

  pub file_name : (status : Status) → EndedBy seen wrote tells net_seen first now input output status → status ≡ ended.FileFault → DecidesBy input.words input.files input.builder input.last
  file_name status end is = (only_told ended.FileFault tt (at status ended.FileFault end is)).answer.0

  pub file_told : (status : Status) → EndedBy seen wrote tells net_seen first now input output status → status ≡ ended.FileFault → Gains output.old output.new (file_line input.last)
  file_told status end is =
      let a = only_told ended.FileFault tt (at status ended.FileFault end is) in
      subst (λ (t : List ℕ). Gains output.old output.new t) a.answer.1 a.gains

  -- ---- good

  good_of : EndedBy seen wrote tells net_seen first now input output ended.Good → NamesServe input.words ⊎ ((text : List ℕ) × IsGood input.words input.files text × Gains output.old output.new text)
  good_of (inl (a, quiet)) = inr (a.text, a.answer, a.gains)
  good_of (inr (built, (name, count, is, cfg, accepted, (answer, serves, same)))) = inl (name, count, is)

  pub good : (status : Status) → EndedBy seen wrote tells net_seen first now input output status → status ≡ ended.Good
      → NamesServe input.words ⊎ ((text : List ℕ) × IsGood input.words input.files text × Gains output.old output.new text)
  good status end is = good_of (at status ended.Good end is)

  served_of : EndedBy seen wrote tells net_seen first now input output ended.Good → NamesServe input.words
      → Serving input.words input.files (λ cfg count. Serves seen wrote tells net_seen first now output.writes output.writes_now output.old output.new cfg count (Ok tt))
  served_of (inl (a, quiet)) named = absurd (good_or_serve input.words a.text input.files a.answer named)
  served_of (inr (built, (name, count, is, cfg, accepted, (Ok done, serves, same)))) named = (name, count, is, cfg, accepted, serves)
  served_of (inr (built, (name, count, is, cfg, accepted, (Err serving.Net, serves, same)))) named = absurd cc
  served_of (inr (built, (name, count, is, cfg, accepted, (Err serving.Output, serves, same)))) named = absurd cc
  served_of (inr (built, (name, count, is, cfg, accepted, (Err serving.OutOfMemory, serves, same)))) named = absurd cc

  pub served : (status : Status) → EndedBy seen wrote tells net_seen first now input output status → status ≡ ended.Good → NamesServe input.words
      → Serving input.words input.files (λ cfg count. ServedAll net_seen (ServedBy seen wrote tells net_seen cfg) (address_of cfg.bind) count first now output.old output.new)
  served status end is named =
      let s = served_of (at status ended.Good end is) named in (s.0, s.1, s.2, s.3, s.4, s.5.good)

  pub binds : (status : Status) → EndedBy seen wrote tells net_seen first now input output status → status ≡ ended.Good → NamesServe input.words
      → Serving input.words input.files (λ cfg count. GainsBind (net_seen first) (net_seen now) cfg)
  binds status end is named =
      let s = served_of (at status ended.Good end is) named in (s.0, s.1, s.2, s.3, s.4, s.5.binds)

  pub told : (status : Status) → EndedBy seen wrote tells net_seen first now input output status → (cfg_name : List ℕ) (count : ℕ) → IsServe input.words cfg_name count → status ≡ ended.Good
      → (coming : List Coming) (answers : List (Option Coming)) (kept : List Kept)
      → (net_seen first).accepts ≡ Some coming → (net_seen first).answers ≡ Some answers → (net_seen first).kept ≡ Some kept → Visited (net_seen now) coming kept count
  told status end cfg_name count serve is coming answers kept accepts connects keeps =
      let s = served_of (at status ended.Good end is) (cfg_name, count, serve) in
      subst (λ (k : ℕ). Visited (net_seen now) coming kept k) (same_count input.words s.0 cfg_name s.1 count s.2 serve)
      (s.5.told coming answers kept accepts connects keeps)

  -- ---- faults

  out_of : EndedBy seen wrote tells net_seen first now input output ended.OutFault → Rose output.writes output.writes_now
  out_of (inl (told, quiet)) = told.0
  out_of (inr (built, (name, count, is, cfg, accepted, (Ok done, serves, same)))) = absurd cc
  out_of (inr (built, (name, count, is, cfg, accepted, (Err serving.Net, serves, same)))) = absurd cc
  out_of (inr (built, (name, count, is, cfg, accepted, (Err serving.Output, serves, same)))) = serves.output refl
  out_of (inr (built, (name, count, is, cfg, accepted, (Err serving.OutOfMemory, serves, same)))) = absurd cc

  pub out_fault : (status : Status) → EndedBy seen wrote tells net_seen first now input output status → status ≡ ended.OutFault → Rose output.writes output.writes_now
  out_fault status end is = out_of (at status ended.OutFault end is)

  front_of : EndedBy seen wrote tells net_seen first now input output ended.OutFault
      → (PutsFront input output × (now ≡ first)) ⊎ (IsBuilt input.builder × Serving input.words input.files (λ cfg count. Breaks net_seen (ServedBy seen wrote tells net_seen cfg) (LostBy seen wrote tells net_seen cfg) (address_of cfg.bind) count first now output.old output.new))
  front_of (inl (told, quiet)) = inl (told.1, quiet)
  front_of (inr (built, (name, count, is, cfg, accepted, (Ok done, serves, same)))) = absurd cc
  front_of (inr (built, (name, count, is, cfg, accepted, (Err fault, serves, same)))) = inr (built, (name, count, is, cfg, accepted, serves.front))

  pub front : (status : Status) → EndedBy seen wrote tells net_seen first now input output status → status ≡ ended.OutFault
      → (PutsFront input output × (now ≡ first)) ⊎ (IsBuilt input.builder × Serving input.words input.files (λ cfg count. Breaks net_seen (ServedBy seen wrote tells net_seen cfg) (LostBy seen wrote tells net_seen cfg) (address_of cfg.bind) count first now output.old output.new))
  front status end is = front_of (at status ended.OutFault end is)

  memory_of : EndedBy seen wrote tells net_seen first now input output ended.OutOfMemory
      → (((output.new ≡ output.old) ⊎ PutsFront input output) × (now ≡ first))
      ⊎ (IsBuilt input.builder × Serving input.words input.files (λ cfg count. Breaks net_seen (ServedBy seen wrote tells net_seen cfg) (LostBy seen wrote tells net_seen cfg) (address_of cfg.bind) count first now output.old output.new))
  memory_of (inl (told, quiet)) = inl (told, quiet)
  memory_of (inr (built, (name, count, is, cfg, accepted, (Ok done, serves, same)))) = absurd cc
  memory_of (inr (built, (name, count, is, cfg, accepted, (Err fault, serves, same)))) = inr (built, (name, count, is, cfg, accepted, serves.front))

  pub memory : (status : Status) → EndedBy seen wrote tells net_seen first now input output status → status ≡ ended.OutOfMemory
      → (((output.new ≡ output.old) ⊎ PutsFront input output) × (now ≡ first))
      ⊎ (IsBuilt input.builder × Serving input.words input.files (λ cfg count. Breaks net_seen (ServedBy seen wrote tells net_seen cfg) (LostBy seen wrote tells net_seen cfg) (address_of cfg.bind) count first now output.old output.new))
  memory status end is = memory_of (at status ended.OutOfMemory end is)

  net_of : EndedBy seen wrote tells net_seen first now input output ended.NetFault
      → Serving input.words input.files (λ cfg count. NetFails net_seen (ServedBy seen wrote tells net_seen cfg) (address_of cfg.bind) count net_line first now output.old output.new)
  net_of (inl (told, quiet)) = absurd told
  net_of (inr (built, (name, count, is, cfg, accepted, (Ok done, serves, same)))) = absurd cc
  net_of (inr (built, (name, count, is, cfg, accepted, (Err serving.Net, serves, same)))) = (name, count, is, cfg, accepted, serves.net refl)
  net_of (inr (built, (name, count, is, cfg, accepted, (Err serving.Output, serves, same)))) = absurd cc
  net_of (inr (built, (name, count, is, cfg, accepted, (Err serving.OutOfMemory, serves, same)))) = absurd cc

  pub net_fault : (status : Status) → EndedBy seen wrote tells net_seen first now input output status → status ≡ ended.NetFault
      → Serving input.words input.files (λ cfg count. NetFails net_seen (ServedBy seen wrote tells net_seen cfg) (address_of cfg.bind) count net_line first now output.old output.new)
  net_fault status end is = net_of (at status ended.NetFault end is)

  -- ---- the builder

  built_of : EndedBy seen wrote tells net_seen first now input output ended.Good → IsBuilt input.builder
  built_of (inl (a, quiet)) = a.built refl
  built_of (inr (built, serves)) = built

  pub built : (status : Status) → EndedBy seen wrote tells net_seen first now input output status → status ≡ ended.Good → IsBuilt input.builder
  built status end is = built_of (at status ended.Good end is)

  net_built_of : EndedBy seen wrote tells net_seen first now input output ended.NetFault → IsBuilt input.builder
  net_built_of (inl (told, quiet)) = absurd told
  net_built_of (inr (built, serves)) = built

  pub net_built : (status : Status) → EndedBy seen wrote tells net_seen first now input output status → status ≡ ended.NetFault → IsBuilt input.builder
  net_built status end is = net_built_of (at status ended.NetFault end is)

  -- ---- the net

  pub bound : (status : Status) → EndedBy seen wrote tells net_seen first now input output status
      → ((net_seen now).bound ≡ (net_seen first).bound) ⊎ Serving input.words input.files (λ cfg count. GainsBind (net_seen first) (net_seen now) cfg)
  bound status (inl (told, quiet)) = inl (ap (λ (n : N). (net_seen n).bound) quiet)
  bound status (inr (built, (name, count, is, cfg, accepted, (answer, serves, same)))) = by_case serves.bound
    where
      by_case : ((net_seen now).bound ≡ (net_seen first).bound) ⊎ GainsBind (net_seen first) (net_seen now) cfg
          → ((net_seen now).bound ≡ (net_seen first).bound) ⊎ Serving input.words input.files (λ cfg count. GainsBind (net_seen first) (net_seen now) cfg)
      by_case (inl none) = inl none
      by_case (inr gains) = inr (name, count, is, cfg, accepted, gains)

  pub dialled : (status : Status) → EndedBy seen wrote tells net_seen first now input output status
      → ((net_seen now).dialled ≡ (net_seen first).dialled) ⊎ Serving input.words input.files (λ cfg count. (net_seen now).dialled ≡ with_address (net_seen first).dialled (address_of cfg.server))
  dialled status (inl (told, quiet)) = inl (ap (λ (n : N). (net_seen n).dialled) quiet)
  dialled status (inr (built, (name, count, is, cfg, accepted, (answer, serves, same)))) = by_case serves.dialled
    where
      by_case : ((net_seen now).dialled ≡ (net_seen first).dialled) ⊎ ((net_seen now).dialled ≡ with_address (net_seen first).dialled (address_of cfg.server))
          → ((net_seen now).dialled ≡ (net_seen first).dialled) ⊎ Serving input.words input.files (λ cfg count. (net_seen now).dialled ≡ with_address (net_seen first).dialled (address_of cfg.server))
      by_case (inl none) = inl none
      by_case (inr gains) = inr (name, count, is, cfg, accepted, gains)

  pub lent : (status : Status) → EndedBy seen wrote tells net_seen first now input output status → (net_seen now).lent ≡ (net_seen first).lent
  lent status (inl (told, quiet)) = ap (λ (n : N). (net_seen n).lent) quiet
  lent status (inr (built, (name, count, is, cfg, accepted, (answer, serves, same)))) = serves.lent

  pub refused : (status : Status) → EndedBy seen wrote tells net_seen first now input output status → IsRefusal status → now ≡ first
  refused status (inl (told, quiet)) refusal = quiet
  refused status (inr (built, (name, count, is, cfg, accepted, (answer, serves, same)))) refusal = absurd (not_serving answer status refusal same)

  pub untouched : (status : Status) → EndedBy seen wrote tells net_seen first now input output status → (NamesServe input.words → ⊥) → now ≡ first
  untouched status (inl (told, quiet)) never = quiet
  untouched status (inr (built, (name, count, is, cfg, accepted, (answer, serves, same)))) never = absurd (never (name, count, is))

  -- ---- completeness

  told_due : (fs : List NamedBytes) (status : Status) → input.files ≡ Some fs → (Rose input.reads input.reads_now → ⊥) → (Rose output.writes output.writes_now → ⊥) → (Rose input.builder.before input.builder.now → ⊥)
      → Tells input output status → IsDue input.words fs status ⊎ (status ≡ ended.OutOfMemory)
  told_due fs ended.Good files reads writes builds a = inl (good_due input.words input.files fs a.text files a.answer)
  told_due fs ended.Usage files reads writes builds a = inl a.answer.0
  told_due fs ended.Config files reads writes builds a =
      inl (refused_by_due input.words input.files fs input.builder a.text files builds a.answer)
  told_due fs ended.Record files reads writes builds a =
      inl (record_due input.words input.files input.builder fs a.answer.0 (record { place = a.answer.2.0; kind = a.answer.2.1 }) files a.answer.1 a.answer.2.2)
  told_due fs ended.FileFault files reads writes builds a = absurd (reads (a.cause refl))
  told_due fs ended.OutFault files reads writes builds told = absurd (writes told.0)
  told_due fs ended.NetFault files reads writes builds told = absurd told
  told_due fs ended.OutOfMemory files reads writes builds told = inr refl

  serving_due : (fs : List NamedBytes) (status : Status) → input.files ≡ Some fs → (Rose output.writes output.writes_now → ⊥) → (NamesServe input.words → Rose (net_seen first).bind_faults (net_seen now).bind_faults → ⊥)
      → Serving input.words input.files (λ cfg count. (answer : Result (Unit {0}) ServeFault) × Serves seen wrote tells net_seen first now output.writes output.writes_now output.old output.new cfg count answer × (status ≡ status_after answer))
      → IsDue input.words fs status ⊎ (status ≡ ended.OutOfMemory)
  serving_due fs status files writes binds (name, count, is, cfg, accepted, (Ok done, serves, same)) =
      inl (subst (IsDue input.words fs) (sym same) (inl (name, inr (count, is), cfg, of_told input.files fs _ files accepted)))
  serving_due fs status files writes binds (name, count, is, cfg, accepted, (Err serving.Net, serves, same)) = absurd (binds (name, count, is) (serves.net refl).rose)
  serving_due fs status files writes binds (name, count, is, cfg, accepted, (Err serving.Output, serves, same)) = absurd (writes (serves.output refl))
  serving_due fs status files writes binds (name, count, is, cfg, accepted, (Err serving.OutOfMemory, serves, same)) = inr same

  ended_due : (fs : List NamedBytes) (status : Status) → input.files ≡ Some fs → (Rose input.reads input.reads_now → ⊥) → (Rose output.writes output.writes_now → ⊥) → (Rose input.builder.before input.builder.now → ⊥)
      → (NamesServe input.words → Rose (net_seen first).bind_faults (net_seen now).bind_faults → ⊥)
      → EndedBy seen wrote tells net_seen first now input output status → IsDue input.words fs status ⊎ (status ≡ ended.OutOfMemory)
  ended_due fs status files reads writes builds binds (inl (told, quiet)) = told_due fs status files reads writes builds told
  ended_due fs status files reads writes builds binds (inr (built, serves)) = serving_due fs status files writes binds serves

  due_or_memory : (fs : List NamedBytes) (status wanted : Status) → IsDue input.words fs wanted → IsDue input.words fs status ⊎ (status ≡ ended.OutOfMemory) → (status ≡ wanted) ⊎ (status ≡ ended.OutOfMemory)
  due_or_memory fs status wanted due (inl is) = inl (due_once input.words fs status wanted is due)
  due_or_memory fs status wanted due (inr memory) = inr memory

  pub complete : (status : Status) → EndedBy seen wrote tells net_seen first now input output status → (fs : List NamedBytes) → input.files ≡ Some fs → (wanted : Status) → IsDue input.words fs wanted
      → (Rose input.reads input.reads_now → ⊥) → (Rose output.writes output.writes_now → ⊥) → (Rose input.builder.before input.builder.now → ⊥)
      → (NamesServe input.words → Rose (net_seen first).bind_faults (net_seen now).bind_faults → ⊥) → (status ≡ wanted) ⊎ (status ≡ ended.OutOfMemory)
  complete status end fs files wanted due reads writes builds binds = due_or_memory fs status wanted due (ended_due fs status files reads writes builds binds end)
