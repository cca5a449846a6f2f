-- Data of a server goes to the client at once: it is as if it had come and had been put out.
use Rattle.std.proofs.Common.{◌≡◌, ◌<◌, ◌≤◌, ◌+◌, ◌⊎◌, inl, inr, ℕ, zero, suc, List, [], ◌++◌, length, true, false, refl, sym, ap, ◌∙◌, subst, append_assoc, arith, take, drop}
use Rattle.std.proofs.lemmas.List.{append-nil, take-append-le}
use Rattle.std.proofs.Math.Seq.{take-add}
use Rattle.httparse.proofs.RunLemmas.{drop_split}
use Rattle.std.specs.Prelude.{None, slice_range}
use Rattle.px_sample.specs.Variables.{Variables}
use Rattle.http_rules.specs.declared.config.Config.{Config}
use Rattle.http_rules.specs.Lives.{answering}
use Rattle.session_core.specs.History.{Coming, gains}
use Rattle.session_core.specs.Sided.{Asking, asker_in, Saying}
use Rattle.lane.specs.Answering.{PushedSo, PassedSo, ended_of}
use Rattle.lane.specs.declared.response_lane.ResponseLane.{ResponseLane}
use Rattle.wire_buf.specs.Buffer.{Buffer}
use Rattle.forward_core.specs.Answer.Seen.{is_last, seen}
use Rattle.forward_core.specs.Answer.Said.{PutsSome, AnswerPuts}
use Rattle.forward_core.specs.Answer.Stands.{AnswerStands}
use Rattle.forward_core.specs.declared.answer.side.AnswerSide.{AnswerSide}
use Rattle.forward_core.proofs.AnswerLemmas.Events.{Takes, takes_at, for_new}
use Rattle.forward_core.proofs.AnswerLemmas.HeardLemmas.{heard_takes, heard_puts}
use Rattle.forward_core.proofs.AnswerLemmas.Putting.{Puts, puts_at}

-- a count is none, or some
pub none_or_some : {P : Type 0} (count : ℕ) → (count ≡ 0 → P) → (0 < count → P) → P
none_or_some zero none some = none refl
none_or_some (suc n) none some = some (omega arith)

-- the side with this lane, where something came
abbrev pub passed : AnswerSide → ResponseLane → AnswerSide
passed old lane = record old { lane = lane; at_rest = false }

takes_of : (old mid : ResponseLane) (bytes : List ℕ) → ended_of old ≡ None → PushedSo old bytes mid → Takes old mid bytes
takes_of old mid bytes open_ p = record { answers = p.answers; is_open = open_; ended = p.ended; phase = p.phase; begun = p.begun }

-- what it stands for
pub passes : (cfg : Config) (old : AnswerSide) (lane : ResponseLane) (bytes : List ℕ) → is_last old.place ≡ true → ended_of old.lane ≡ None → PassedSo old.lane bytes lane
    → (asking : Asking Variables) (server : Coming) (put : List ℕ) (now : Variables) (saying : Saying) → AnswerStands cfg old asking server put now saying
    → PutsSome cfg old (passed old lane) asking (gains server bytes) put now saying
passes cfg old lane bytes last open_ (mid, pushed, out) asking server put now saying s =
    let t : Takes old.lane mid bytes = takes_of old.lane mid bytes open_ pushed in
    let p : Puts mid lane out.answers.put = record { answers = out.answers.answers; ended = out.ended; last = out.last } in
    record {
      put = out.answers.put;
      stands = record {
        asks = s.asks;
        for_it = for_new cfg mid lane out.limits out.filters (for_new cfg old.lane mid pushed.limits pushed.filters s.for_it);
        at = puts_at old.place old.status cfg (asker_in asking) (answering asking.vars) mid lane (gains server bytes) put now saying out.answers.put last p
            (takes_at old.place old.status cfg (asker_in asking) (answering asking.vars) old.lane mid server put now saying bytes t s.at);
        heard = heard_puts old.heard old.place cfg (asker_in asking) mid lane (gains server bytes) out.answers.put p
            (heard_takes old.heard old.place cfg (asker_in asking) old.lane mid server bytes t s.heard);
        rests = λ rest. absurd (let both : false ≡ true = rest in cc both);
      };
      window = out.answers.window ∙ ap (λ (b : Buffer ℕ). b.items ++ out.answers.put) pushed.window;
    }

-- ---- in parts

-- nothing came, and nothing was put out
pub puts_none : (side : AnswerSide) → AnswerPuts side side []
puts_none side cfg asking server put now saying s =
    record {
      put = [];
      stands = subst (λ (c : Coming). AnswerStands cfg side asking c (put ++ []) now saying) (ap (λ (xs : List ℕ). let c : Coming = record server { bytes = xs } in c) (sym (append-nil server.bytes)))
          (subst (λ (xs : List ℕ). AnswerStands cfg side asking server xs now saying) (sym (append-nil put)) s);
      window = sym (append-nil (seen side).window);
    }

-- bytes that come one part behind another
pub puts_both : (old mid new : AnswerSide) (first second : List ℕ) → AnswerPuts old mid first → AnswerPuts mid new second → AnswerPuts old new (first ++ second)
puts_both old mid new first second f g cfg asking server put now saying s =
    let x = f cfg asking server put now saying s in
    let y = g cfg asking (gains server first) (put ++ x.put) now saying x.stands in
    record {
      put = x.put ++ y.put;
      stands = subst (λ (c : Coming). AnswerStands cfg new asking c (put ++ (x.put ++ y.put)) now saying)
          (ap (λ (xs : List ℕ). let c : Coming = record server { bytes = xs } in c) (append_assoc server.bytes first second))
          (subst (λ (xs : List ℕ). AnswerStands cfg new asking (gains (gains server first) second) xs now saying) (append_assoc put x.put y.put) y.stands);
      window = y.window ∙ ap (λ (xs : List ℕ). xs ++ y.put) x.window ∙ append_assoc (seen old).window x.put y.put;
    }

-- a part behind those that went
pub puts_then : (old mid new : AnswerSide) (m n : ℕ) (bytes : List ℕ) → AnswerPuts old mid (take m bytes) → AnswerPuts mid new (take n (drop m bytes)) → AnswerPuts old new (take (m + n) bytes)
puts_then old mid new m n bytes f g =
    subst (AnswerPuts old new) (sym (take-add m n bytes)) (puts_both old mid new (take m bytes) (take n (drop m bytes)) f g)

-- the front of a part of the bytes
pub front_of : (n from to : ℕ) (bytes : List ℕ) → from ≤ to → n ≤ length (slice_range bytes from to) → take n (slice_range bytes from to) ≡ take n (drop from bytes)
front_of n from to bytes order within = sym (ap (take n) (drop_split bytes from to order) ∙ take-append-le n (slice_range bytes from to) (drop to bytes) within)

-- more than there is room for
pub but_for_room : (n room : ℕ) (T : Type 0) → (n ≤ room) ⊎ T → room < n → T
but_for_room n room T (inl fits) more = absurd (omega arith)
but_for_room n room T (inr goes) more = goes
