-- From a command that ran, or stopped, to the end of the call.
use Rattle.std.proofs.Common.{◌≡◌, ℕ, List, inl, inr, refl, sym, ap, ◌∙◌, subst}
use Rattle.std.specs.Prelude.{Option, Result, Ok, Err}
use Rattle.http_rules.specs.declared.config.Config.{Config}
use Rattle.serve_run.specs.declared.outcome.ServeFault.{ServeFault}
use Rattle.serve_run.specs.declared.outcome.ServeFault.TheVariants as serving
use Rattle.proxy_commands.specs.Ends.{Output, Ran, Tells, Writes, put, served_as}
use Rattle.proxy_call.specs.Ends.{Ended, status_after}
use Rattle.proxy_commands.specs.Stops.{Input, IsSilent, StopsBy, status_of, stop_of_serving}
use Rattle.proxy_commands.specs.declared.status.Status.{Status}
use Rattle.proxy_commands.specs.declared.status.Status.TheVariants as ended
use Rattle.proxy_commands.specs.declared.stop.Stop.{Stop}
use Rattle.proxy_commands.specs.declared.stop.Stop.TheVariants as stops

-- what was told since nothing was written yet is told since the start
from_start : (input : Input) (writes later now : ℕ) (old middle new : Option (List ℕ)) (status : Status) → middle ≡ old → later ≡ writes → Tells input (put later now middle new) status → Tells input (put writes now old new) status
from_start input writes later now old middle new status same quiet told =
    subst (λ (w : ℕ). Tells input (put w now old new) status) quiet (subst (λ (o : Option (List ℕ)). Tells input (put later now o new) status) same told)

-- where nothing more was written, what was told stays
to_end : (input : Input) (writes now later : ℕ) (old new last : Option (List ℕ)) (s status : Status) → status ≡ s → later ≡ now → last ≡ new → Tells input (put writes now old new) s → Tells input (put writes later old last) status
to_end input writes now later old new last s status is quiet same told =
    subst (λ (t : Status). Tells input (put writes later old last) t) (sym is)
    (subst (λ (w : ℕ). Tells input (put writes w old last) s) (sym quiet) (subst (λ (o : Option (List ℕ)). Tells input (put writes now old o) s) (sym same) told))

-- the text of a stop, behind what the command wrote before
stopped : (input : Input) (writes now later : ℕ) (old new last : Option (List ℕ)) (s : Stop) (status : Status) → Writes input (put writes now old new) (Err s)
    → (StopsBy input s → Tells input (put now later new last) status) → (IsSilent s → (status ≡ status_of s) × (later ≡ now) × (last ≡ new)) → Tells input (put writes later old last) status
stopped input writes now later old new last (stops.Usage text) status wrote told silent = from_start input writes now later old new last status wrote.1.written wrote.1.writes (told wrote.0)
stopped input writes now later old new last (stops.Refused line kind) status wrote told silent = from_start input writes now later old new last status wrote.1.written wrote.1.writes (told wrote.0)
stopped input writes now later old new last (stops.RefusedAll text) status wrote told silent = from_start input writes now later old new last status wrote.1.written wrote.1.writes (told wrote.0)
stopped input writes now later old new last (stops.Record place kind) status wrote told silent = from_start input writes now later old new last status wrote.1.written wrote.1.writes (told wrote.0)
stopped input writes now later old new last (stops.File name) status wrote told silent = from_start input writes now later old new last status wrote.1.written wrote.1.writes (told wrote.0)
stopped input writes now later old new last stops.Output status wrote told silent =
    let end = silent tt in to_end input writes now later old new last ended.OutFault status end.0 end.1 end.2 wrote
stopped input writes now later old new last stops.Net status wrote told silent = absurd wrote
stopped input writes now later old new last stops.OutOfMemory status wrote told silent =
    let end = silent tt in to_end input writes now later old new last ended.OutOfMemory status end.0 end.1 end.2 wrote

-- ---- serving

silent_serving : (fault : ServeFault) → IsSilent (stop_of_serving fault)
silent_serving serving.Net = tt
silent_serving serving.Output = tt
silent_serving serving.OutOfMemory = tt

served_err : (answer : Result (Unit {0}) ServeFault) (s : Stop) → Err s ≡ served_as answer → (fault : ServeFault) × (answer ≡ Err fault) × (s ≡ stop_of_serving fault)
served_err (Ok done) s is = absurd cc
served_err (Err fault) s is = (fault, refl, cc)

served_ok : (answer : Result (Unit {0}) ServeFault) → Ok tt ≡ served_as answer → ended.Good ≡ status_after answer
served_ok (Ok done) is = refl
served_ok (Err fault) is = absurd cc

after : (answer : Result (Unit {0}) ServeFault) (s : Stop) (status : Status) (fault : ServeFault) → answer ≡ Err fault → s ≡ stop_of_serving fault → status ≡ status_of s → status ≡ status_after answer
after answer s status fault which stop is = is ∙ ap status_of stop ∙ ap status_after (sym which)

-- where nothing more was written, what serving did stays
still : (F : ℕ → Option (List ℕ) → Type 0) (now later : ℕ) (new last : Option (List ℕ)) → later ≡ now → last ≡ new → F now new → F later last
still F now later new last quiet same f = subst (λ (w : ℕ). F w last) (sym quiet) (subst (λ (o : Option (List ℕ)). F now o) (sym same) f)

-- ---- the end

pub ended_ok : (input : Input) (output : Output) (quiet : Type 0) (Serves : Config → ℕ → Result (Unit {0}) ServeFault → Type 0)
    → Ran input output quiet Serves (Ok tt) → Ended input output quiet Serves ended.Good
ended_ok input output quiet Serves (inl ((text, good, gains, built), q)) = inl (record { text = text; answer = good; gains = gains; cause = λ is. absurd cc; built = λ is. built }, q)
ended_ok input output quiet Serves (inr (built, (name, count, is, cfg, told, (answer, serves, result)))) = inr (built, (name, count, is, cfg, told, (answer, serves, served_ok answer result)))

pub ended_err : (input : Input) (writes now later : ℕ) (old new last : Option (List ℕ)) (quiet : Type 0) (F : ℕ → Option (List ℕ) → Config → ℕ → Result (Unit {0}) ServeFault → Type 0) (s : Stop) (status : Status)
    → Ran input (put writes now old new) quiet (F now new) (Err s)
    → (StopsBy input s → Tells input (put now later new last) status) → (IsSilent s → (status ≡ status_of s) × (later ≡ now) × (last ≡ new))
    → Ended input (put writes later old last) quiet (F later last) status
ended_err input writes now later old new last quiet F s status (inl (wrote, q)) told silent =
    inl (stopped input writes now later old new last s status wrote told silent, q)
ended_err input writes now later old new last quiet F s status (inr (built, (name, count, is, cfg, accepted, (answer, serves, result)))) told silent =
    let f = served_err answer s result in
    let end = silent (subst IsSilent (sym f.2) (silent_serving f.0)) in
    inr (built, (name, count, is, cfg, accepted, (answer, still (λ w o. F w o cfg count answer) now later new last end.1 end.2 serves, after answer s status f.0 f.1 f.2 end.0)))
