use Rattle.std.proofs.Common.{◌≡◌, ◌≤◌, ◌<◌, ◌+◌, ◌-◌, true, take, drop, length}
use Rattle.fcgi_lane.specs.Answer.Flow.{Passes, is_going, patience}
use Rattle.fcgi_lane.proofs.answer.squeezing.squeeze.Given as goal

abbrev pub invariant-loop-used : goal.invariant-loop-used
invariant-loop-used l = record {
  found : l.found ≤ l.used;
  used : l.used ≤ length l.fn.bytes;
  len : length l.bytes ≡ length l.fn.bytes;
  behind : drop l.used l.bytes ≡ drop l.used l.fn.bytes;
  patient : 0 < l.used → is_going l.records.place ≡ true → l.records.idle < patience;
  idle : l.found ≡ 0 → l.records.idle ≡ l.fn.records.idle + l.used;
  passes : Passes l.fn.records (take l.used l.fn.bytes) l.records (take l.found l.bytes);
}

abbrev pub decreases-loop-used : goal.decreases-loop-used
decreases-loop-used l = length l.fn.bytes - l.used
