-- Links and nets before their first call.
use Rattle.std.proofs.Common.{◌≡◌, ℕ, ◌+◌, ◌<◌, List, [], Bool, true, false, ◌&&◌, ◌==◌, Option, Some, None, length, map, sym, ap, ◌∙◌, refl, arith}
use Rattle.std.specs.Prelude.{Result, Ok, Err, IfOk}
use Rattle.std.proofs.lemmas.Bool.{false≢true, eqb-true}
use Rattle.std.proofs.lemmas.List.{nil_from_length}
use Rattle.http_model.specs.declared.Close.{Close}
use Rattle.http_model.specs.declared.Ending.{Ending}
use Rattle.px_link.specs.Link.{Seen, AsItIs}
use Rattle.px_link.specs.Net.{Coming, NetSeen, new_link}
use Rattle.px_link.specs.Calls.{fails_none}
use Rattle.px_link.specs.MemLink.{MemLinkSeen, link_of, limit_of, is_open, is_unused}
use Rattle.px_link.specs.MemNet.{MemNetSeen, keeping}
use Rattle.rec_format.specs.Entries.{ServerEntry}
use Rattle.session_model.specs.Stream.{Stream}
use Rattle.htx_drive.specs.Dialled.{IsPlain}
use Rattle.htx_drive.specs.Replay.Memory.{answer_of}
use Rattle.htx_drive.specs.Replay.Nets.{seen_by}
use Rattle.htx_drive.specs.Replay.Seen.{IsFresh, IsFreshNet, IsUntouched, IsUntouchedNet, wrote_by}

first_true : (a b : Bool) → (a && b) ≡ true → a ≡ true
first_true true b e = refl
first_true false b e = e

second_true : (a b : Bool) → (a && b) ≡ true → b ≡ true
second_true true b e = e
second_true false b e = absurd (false≢true e)

open_is : (o : Option Close) → is_open o ≡ true → o ≡ None
open_is None e = refl
open_is (Some how) e = absurd (false≢true e)

-- what is seen of a link with these parts
seen_with : (to_come : List ℕ) (ending : Ending) (closed : Option Close) (reads writes : List ℕ) (takes : Option ℕ) (taken read_faults write_faults : ℕ) → Seen
seen_with to_come ending closed reads writes takes taken read_faults write_faults =
    link_of (record {
      to_come = to_come;
      ending = ending;
      taken = taken;
      written = [];
      takes = takes;
      closed = closed;
      failing_reads = reads;
      failing_writes = writes;
      reads = 0;
      writes = 0;
      read_faults = read_faults;
      write_faults = write_faults;
    })

same_parts : (a x : List ℕ) (b y : Ending) (closed : Option Close) (reads writes : List ℕ) (t u : Option ℕ) (taken read_faults write_faults : ℕ)
    → a ≡ x → b ≡ y → closed ≡ None → reads ≡ [] → writes ≡ [] → t ≡ u → taken ≡ 0 → read_faults ≡ 0 → write_faults ≡ 0
    → seen_with a b closed reads writes t taken read_faults write_faults ≡ seen_with x y None [] [] u 0 0 0
same_parts a x b y closed reads writes t u taken read_faults write_faults p q r s v w z f g = cc

seen_new : (x : List ℕ) (y : Ending) (u : Option ℕ) → seen_with x y None [] [] u 0 0 0 ≡ new_link AsItIs (record { bytes = x; ending = y; plain = true; takes = limit_of u })
unfolding seen_with
seen_new x y u = refl

seen_parts : (l : MemLinkSeen) → link_of l ≡ seen_with l.to_come l.ending l.closed l.failing_reads l.failing_writes l.takes l.taken l.read_faults l.write_faults
unfolding seen_with
seen_parts l = refl

record Unused (l : MemLinkSeen) : Type 0 where
  closed : l.closed ≡ None
  taken : l.taken ≡ 0
  written : l.written ≡ []
  read_faults : l.read_faults ≡ 0
  write_faults : l.write_faults ≡ 0

unused_parts : (l : MemLinkSeen) → is_unused l ≡ true → Unused l
unused_parts l e =
    let a = second_true (l.reads == 0) _ e in
    let b = second_true (l.writes == 0) _ a in
    let c = second_true (is_open l.closed) _ b in
    let d = second_true (l.taken == 0) _ c in
    let f = second_true (length l.written == 0) _ d in
    record {
      closed = open_is l.closed (first_true (is_open l.closed) _ b);
      taken = eqb-true l.taken 0 (first_true (l.taken == 0) _ c);
      written = nil_from_length l.written (eqb-true (length l.written) 0 (first_true (length l.written == 0) _ d));
      read_faults = eqb-true l.read_faults 0 (first_true (l.read_faults == 0) _ f);
      write_faults = eqb-true l.write_faults 0 (second_true (l.read_faults == 0) _ f);
    }

pub fresh : (s : Stream) (takes : Option ℕ) (l : MemLinkSeen) → l.to_come ≡ s.bytes → l.ending ≡ s.ending → l.takes ≡ takes → (l.failing_reads ≡ []) × (l.failing_writes ≡ []) → is_unused l ≡ true → IsFresh s takes l
fresh s takes l to_come ending limit failing unused =
    let u = unused_parts l unused in
    record {
      seen = seen_parts l
          ∙ same_parts l.to_come s.bytes l.ending s.ending l.closed l.failing_reads l.failing_writes l.takes takes l.taken l.read_faults l.write_faults to_come ending u.closed failing.0 failing.1 limit u.taken u.read_faults u.write_faults
          ∙ seen_new s.bytes s.ending takes;
      written = u.written;
      unused = unused;
    }

pub fresh_made : {E : Type 0} (s : Stream) (takes : Option ℕ) (bytes : List ℕ) (r : Result MemLinkSeen E) → bytes ≡ s.bytes → IfOk r (λ (l : MemLinkSeen). l.to_come ≡ bytes) → IfOk r (λ (l : MemLinkSeen). l.ending ≡ s.ending)
    → IfOk r (λ (l : MemLinkSeen). l.takes ≡ takes) → IfOk r (λ (l : MemLinkSeen). (l.failing_reads ≡ []) × (l.failing_writes ≡ [])) → IfOk r (λ (l : MemLinkSeen). is_unused l ≡ true) → IfOk r (λ (l : MemLinkSeen). IsFresh s takes l)
fresh_made s takes bytes (Ok l) own to_come ending limit failing unused = fresh s takes l (to_come ∙ own) ending limit failing unused
fresh_made s takes bytes (Err e) own to_come ending limit failing unused = tt

-- ---- what is told of them

pub untouched : (s : Stream) (l : MemLinkSeen) → IsFresh s None l → IsUntouched link_of wrote_by s l
untouched s l f = record { is = f.seen; unwritten = sym f.written }

pub untouched_net : (entries : List (Option ServerEntry)) (net : MemNetSeen) (none : ℕ) → IsFreshNet entries net none → IsUntouchedNet entries (seen_by net none)
untouched_net entries net none f =
    record {
      answers = ap (λ (l : List (Option Coming)). Some l) f.answers;
      kept = ap (λ (l : List MemLinkSeen). Some (map keeping l)) f.kept;
      plain = ap fails_none f.failing;
      lent = f.lent;
      none = f.none;
    }

pub told_bytes : {L : Type 0} (seen : L → Seen) (wrote : L → List ℕ → Type 0) (s : Stream) (l : L) → IsUntouched seen wrote s l → (seen l).to_come ≡ Some s.bytes
told_bytes seen wrote s l f = ap (λ (s : Seen). s.to_come) f.is

pub told_ending : {L : Type 0} (seen : L → Seen) (wrote : L → List ℕ → Type 0) (s : Stream) (l : L) → IsUntouched seen wrote s l → (seen l).ending ≡ Some s.ending
told_ending seen wrote s l f = ap (λ (s : Seen). s.ending) f.is

pub is_plain : (entries : List (Option ServerEntry)) (net : NetSeen) → IsUntouchedNet entries net → IsPlain net
is_plain entries net f = let e : net.lent ≡ 0 = f.lent in (f.plain, omega arith)
