-- What writing a text comes to, and what a step that stops says of what was written.
use Rattle.std.proofs.Common.{◌≡◌, ℕ, List, inl, inr, refl, sym, subst}
use Rattle.std.specs.Prelude.{Option, Result, Ok, Err, IsErrAnd}
use Rattle.px_link.specs.Told.{Counts, Gains, GainsFront}
use Rattle.px_link.specs.declared.fault.Fault.{Fault}
use Rattle.px_link.specs.declared.fault.Fault.TheVariants as faults
use Rattle.http_rules.specs.declared.config.Config.{Config}
use Rattle.px_command.specs.declared.options.RunOptions.{RunOptions}
use Rattle.px_run.specs.declared.plan.RunFault.{RunFault}
use Rattle.serve_run.specs.declared.outcome.ServeFault.{ServeFault}
use Rattle.proxy_commands.specs.Answers.{IsAnswer, IsGood, IsRefusal}
use Rattle.proxy_commands.specs.Ends.{Answered, Output, PutsFront, Ran, RanAny, RanRun, Says, Tells, Writes, put}
use Rattle.proxy_commands.specs.Stops.{Answers, Input, Replies, StopsBy, status_of, stop_of_output}
use Rattle.proxy_commands.specs.declared.reply.Reply.{Reply}
use Rattle.proxy_commands.specs.declared.status.Status.{Status}
use Rattle.proxy_commands.specs.declared.status.Status.TheVariants as ended
use Rattle.proxy_commands.specs.declared.stop.Stop.{Stop}
use Rattle.proxy_commands.specs.declared.stop.Stop.TheVariants as stops

-- ---- what a `?` passes on

pub writes_err : (input : Input) (output : Output) (r : Result (Unit {0}) Stop) (s : Stop) → IsErrAnd r (λ (y : Stop). y ≡ s) → Writes input output (Err s) → Writes input output r
writes_err input output (Ok done) s is p = absurd is
writes_err input output (Err y) s is p = subst (λ (t : Stop). Writes input output (Err t)) (sym is) p

pub says_err : (input : Input) (output : Output) (r : Result Status Stop) (s : Stop) → IsErrAnd r (λ (y : Stop). y ≡ s) → Says input output (Err s) → Says input output r
says_err input output (Ok status) s is p = absurd is
says_err input output (Err y) s is p = subst (λ (t : Stop). Says input output (Err t)) (sym is) p

pub ran_err : (input : Input) (output : Output) (quiet : Type 0) (Serves : Config → ℕ → Result (Unit {0}) ServeFault → Type 0) (r : Result (Unit {0}) Stop) (s : Stop) → IsErrAnd r (λ (y : Stop). y ≡ s)
    → Ran input output quiet Serves (Err s) → Ran input output quiet Serves r
ran_err input output quiet Serves (Ok done) s is p = absurd is
ran_err input output quiet Serves (Err y) s is p = subst (λ (t : Stop). Ran input output quiet Serves (Err t)) (sym is) p

pub run_err : (input : Input) (output : Output) (idle : Type 0) (Runs : Config → RunOptions → Result (Unit {0}) RunFault → Type 0) (r : Result (Unit {0}) Stop) (s : Stop) → IsErrAnd r (λ (y : Stop). y ≡ s)
    → RanRun input output idle Runs (Err s) → RanRun input output idle Runs r
run_err input output idle Runs (Ok done) s is p = absurd is
run_err input output idle Runs (Err y) s is p = subst (λ (t : Stop). RanRun input output idle Runs (Err t)) (sym is) p

-- ---- a text

-- the text that the words ask for was written
pub write_ok : (input : Input) (output : Output) (text piece : List ℕ) → piece ≡ text → Answers input (Ok text) → Gains output.old output.new piece → Writes input output (Ok tt)
write_ok input output text piece same made gains = (text, made.0, subst (λ (t : List ℕ). Gains output.old output.new t) same gains, made.1)

-- a front of it was
text_front : (input : Input) (writes now : ℕ) (old new : Option (List ℕ)) (text piece : List ℕ) → piece ≡ text → Answers input (Ok text) → GainsFront old new piece → PutsFront input (put writes now old new)
text_front input writes now old new text piece same made front =
    (ended.Good, piece, subst (λ (t : List ℕ). IsGood input.words input.files t) (sym same) made.0, (λ is. absurd cc, λ is. made.1), front)

-- it couldn't be
pub write_stops : (input : Input) (writes now : ℕ) (old new : Option (List ℕ)) (text piece : List ℕ) (fault : Fault) → piece ≡ text → Answers input (Ok text)
    → GainsFront old new piece → Counts {T = Unit {0}} writes now (Err fault) → Writes input (put writes now old new) (Err (stop_of_output fault))
write_stops input writes now old new text piece faults.Failed same made front count = (count.failed refl, text_front input writes now old new text piece same made front)
write_stops input writes now old new text piece faults.OutOfMemory same made front count = inr (text_front input writes now old new text piece same made front)

-- the text of a stop was written
pub say_ok : (input : Input) (output : Output) (reply : Reply) (piece : List ℕ) → piece ≡ reply.text → Replies input (Ok reply) → Gains output.old output.new piece → Answered input output reply.status
say_ok input output reply piece same replies gains =
    record {
      text = reply.text;
      answer = replies.0;
      gains = subst (λ (t : List ℕ). Gains output.old output.new t) same gains;
      cause = replies.1;
      built = λ good. absurd (subst IsRefusal good replies.2);
    }

-- a front of it was
reply_front : (input : Input) (writes now : ℕ) (old new : Option (List ℕ)) (reply : Reply) (piece : List ℕ) → piece ≡ reply.text → Replies input (Ok reply) → GainsFront old new piece → PutsFront input (put writes now old new)
reply_front input writes now old new reply piece same replies front =
    let answer : IsAnswer input.words input.files input.builder input.last reply.status piece = subst (λ (t : List ℕ). IsAnswer input.words input.files input.builder input.last reply.status t) (sym same) replies.0 in
    (reply.status, piece, answer, (replies.1, λ good. absurd (subst IsRefusal good replies.2)), front)

-- it couldn't be
pub say_stops : (input : Input) (writes now : ℕ) (old new : Option (List ℕ)) (reply : Reply) (piece : List ℕ) (fault : Fault) → piece ≡ reply.text → Replies input (Ok reply)
    → GainsFront old new piece → Counts {T = Unit {0}} writes now (Err fault) → Says input (put writes now old new) (Err (stop_of_output fault))
say_stops input writes now old new reply piece faults.Failed same replies front count = (count.failed refl, reply_front input writes now old new reply piece same replies front)
say_stops input writes now old new reply piece faults.OutOfMemory same replies front count = inr (reply_front input writes now old new reply piece same replies front)

-- there was no memory for it
pub say_nothing : (input : Input) (writes : ℕ) (old : Option (List ℕ)) (s : Stop) → s ≡ stops.OutOfMemory → Says input (put writes writes old old) (Err s)
say_nothing input writes old s is = subst (λ (t : Stop). Says input (put writes writes old old) (Err t)) (sym is) (inl refl)

-- ---- a stop before anything is written

pub stops_early : (input : Input) (writes : ℕ) (old : Option (List ℕ)) (s : Stop) → StopsBy input s → Writes input (put writes writes old old) (Err s)
stops_early input writes old (stops.Usage text) given = (given, record { written = refl; writes = refl })
stops_early input writes old (stops.Refused line kind) given = (given, record { written = refl; writes = refl })
stops_early input writes old (stops.RefusedAll text) given = (given, record { written = refl; writes = refl })
stops_early input writes old (stops.Record place kind) given = (given, record { written = refl; writes = refl })
stops_early input writes old (stops.File name) given = (given, record { written = refl; writes = refl })
stops_early input writes old stops.Output given = absurd given
stops_early input writes old stops.Net given = absurd given
stops_early input writes old stops.OutOfMemory given = inl refl

-- ---- what is told

-- an answer that was written is what is told with its status
pub tells : (input : Input) (output : Output) (status : Status) → Answered input output status → Tells input output status
tells input output ended.Good a = a
tells input output ended.Usage a = a
tells input output ended.Config a = a
tells input output ended.Record a = a
tells input output ended.FileFault a = a
tells input output ended.OutFault a = absurd a.answer
tells input output ended.NetFault a = absurd a.answer
tells input output ended.OutOfMemory a = absurd a.answer

-- so is what was written where writing stopped
pub tells_stop : (input : Input) (output : Output) (s : Stop) → Says input output (Err s) → Tells input output (status_of s)
tells_stop input output (stops.Usage text) said = absurd said
tells_stop input output (stops.Refused line kind) said = absurd said
tells_stop input output (stops.RefusedAll text) said = absurd said
tells_stop input output (stops.Record place kind) said = absurd said
tells_stop input output (stops.File name) said = absurd said
tells_stop input output stops.Output said = said
tells_stop input output stops.Net said = absurd said
tells_stop input output stops.OutOfMemory said = said

-- ---- `run` among the commands

-- what `run` came to is what a command came to
pub any_of_run : (input : Input) (output : Output) (quiet idle : Type 0) (Does : Config → ℕ → Result (Unit {0}) ServeFault → Type 0) (Runs : Config → RunOptions → Result (Unit {0}) RunFault → Type 0)
    (result : Result (Unit {0}) Stop) → quiet → RanRun input output idle Runs result → RanAny input output quiet idle Does Runs result
any_of_run input output quiet idle Does Runs result q (inl (wrote, i)) = inl (inl (wrote, q), i)
any_of_run input output quiet idle Does Runs result q (inr ran) = inr (ran, q)
