-- What reading a head makes of a lane.
use Rattle.std.proofs.Common.{◌≡◌, ℕ, ◌-◌, ◌<◌, ◌≤◌, List, [], ◌++◌, Bool, false, refl, sym, ap, ◌∙◌, subst, length, drop, arith}
use Rattle.std.proofs.lemmas.List.{length-drop, append-nil}
use Rattle.h1_head.specs.declared.answer.Side.{Side}
use Rattle.h1_head.specs.Sides.{kind_of}
use Rattle.h1_head.specs.Stream.{behind, HeadOf}
use Rattle.h1_head.specs.Decides.{MayWait, OnEachStream}
use Rattle.h1_head.specs.Scanned.{IsScanned}
use Rattle.std.specs.Prelude.{Option, None, is_some}
use Rattle.wire_buf.specs.Buffer.{Buffer}
use Rattle.htx_arena.specs.Layout.Contents.{Contents}
use Rattle.http_model.specs.declared.Framing.{Framing}
use Rattle.http_model.specs.declared.Limits.{Limits}
use Rattle.http_model.specs.Sizes.{least_size}
use Rattle.http_model.specs.Reading.{Received, Begins}
use Rattle.h1_head.specs.Answers.{Keeps}
use Rattle.lane.specs.Direction.Sends.{IsSound, IsReading}
use Rattle.lane.specs.Direction.Heads.{Waits, HasHead}
use Rattle.lane.specs.declared.direction.stage.Stage.TheVariants as stage
use Rattle.lane.specs.Direction.State.{LaneState}

-- ---- the lane

-- nothing was looked at yet
pub reads_anew : (side : Side) (l : LaneState) → ((side : Side) (limits : Limits) (window : List ℕ) → least_size ≤ limits.bufsize → IsScanned (kind_of side) limits window 0)
    → IsSound l → l.out.blocks ≡ [] → l.dropped ≡ false → l.scanned ≡ 0 → l.stage ≡ stage.Reading → l.msg.blocks ≡ [] → IsReading side l
reads_anew side l none sound out kept at reading empty = record {
  scanned = subst (IsScanned (kind_of side) l.limits l.input.items) (sym at) (none side l.limits l.input.items sound.sized.least);
  ready = record { sound = sound; out = out; kept = kept };
  stage = reading;
  empty = empty;
}

-- the bytes that were looked at, without the empty lines in front
pub looked : (side : Side) (l : LaneState) (skip n : ℕ) (input : Buffer ℕ) (msg : Contents) → IsReading side l → l.ended ≡ None → skip ≤ length l.input.items → input.items ≡ drop skip l.input.items → input.capacity ≡ l.input.capacity
    → drop skip l.input.items ≡ behind l.input.items → MayWait (kind_of side) l.limits false l.input.items → IsScanned (kind_of side) l.limits (drop skip l.input.items) (length l.input.items - skip)
    → ((window more : List ℕ) → behind (behind window ++ more) ≡ behind (window ++ more)) → msg.blocks ≡ [] → msg.size ≡ l.msg.size → n ≡ length input.items
    → Waits side l (record l { input = input; scanned = n; msg = msg })
looked side l skip n input msg r open_ fits items capacity lines waits scanned drops empty size count =
    let left : input.items ≡ behind l.input.items = items ∙ lines in
    let sized = r.ready.sound.sized in
    let short : length (behind l.input.items) < l.limits.bufsize = waits.short in
    let len : length input.items ≡ length (behind l.input.items) = ap length left in
    let cap : input.capacity ≡ l.limits.bufsize = capacity ∙ sized.input in
    let small : length input.items < input.capacity = omega arith in
    let front : (more : List ℕ) → behind (l.input.items ++ more) ≡ behind (input.items ++ more) = λ more. sym (drops l.input.items more) ∙ ap (λ (b : List ℕ). behind (b ++ more)) (sym left) in
    let looked_at : n ≡ length l.input.items - skip = count ∙ ap length items ∙ length-drop skip l.input.items in
    record {
      reading = record {
        scanned = subst (λ (xs : List ℕ). IsScanned (kind_of side) l.limits xs n) (sym items) (subst (λ (k : ℕ). IsScanned (kind_of side) l.limits (drop skip l.input.items) k) (sym looked_at) scanned);
        ready = record {
          sound = record {
            sized = record { least = sized.least; msg = size ∙ sized.msg; out = sized.out; input = cap; output = sized.output; sieve = sized.sieve; filters = sized.filters };
            most = r.ready.sound.most;
            reserve = r.ready.sound.reserve;
            held = omega arith;
          };
          out = r.ready.out;
          kept = r.ready.kept;
        };
        stage = r.stage;
        empty = empty;
      };
      ended = open_;
      waits = waits;
      same = ap behind (sym (append-nil input.items)) ∙ sym (front []) ∙ ap behind (append-nil l.input.items);
      front = front;
      output = refl;
      room = small;
    }

-- a head was received
pub received : (side : Side) (l : LaneState) (used : ℕ) (input : Buffer ℕ) (msg : Contents) (framing : Framing) (declared : Option ℕ) (close whole : Bool) → IsReading side l → whole ≡ is_some l.ended
    → input.items ≡ drop used l.input.items → input.capacity ≡ l.input.capacity → Keeps (kind_of side) l.limits whole l.input.items msg.blocks used framing declared close → msg.size ≡ l.msg.size
    → HasHead side l (record l { input = input; msg = msg; framing = framing; declared = declared; close = close; stage = stage.Head })
received side l used input msg framing declared close whole r is items capacity keeps size =
    let sized = r.ready.sound.sized in
    let len : length input.items ≡ length l.input.items - used = ap length items ∙ length-drop used l.input.items in
    let held : length l.input.items ≤ l.input.capacity = r.ready.sound.held in
    record {
      ready = record {
        sound = record {
          sized = record { least = sized.least; msg = size ∙ sized.msg; out = sized.out; input = capacity ∙ sized.input; output = sized.output; sieve = sized.sieve; filters = sized.filters };
          most = r.ready.sound.most;
          reserve = r.ready.sound.reserve;
          held = omega arith;
        };
        out = r.ready.out;
        kept = r.ready.kept;
      };
      stage = refl;
      output = refl;
      head = keeps.head;
      blocks = keeps.blocks_are;
      begins = subst (λ (ended : Bool). OnEachStream ended (λ more. HeadOf (kind_of side) l.limits (l.input.items ++ more)
          (Begins (record { head = keeps.head; framing = framing; declared = declared; close = close }) (input.items ++ more)))) is
          (subst (λ (left : List ℕ). OnEachStream whole (λ more. HeadOf (kind_of side) l.limits (l.input.items ++ more)
          (Begins (record { head = keeps.head; framing = framing; declared = declared; close = close }) (left ++ more)))) (sym items) keeps.begins);
      received = keeps.received;
    }

-- what follows a head is shorter than the bytes that begin with it
pub head_takes : (side : Side) (limits : Limits) (window left : List ℕ) (whole : Bool) (got : Received) → ((limits : Limits) (stream : List ℕ) (got : Received) (rest : List ℕ) → HeadOf (kind_of side) limits stream (Begins got rest) → length rest < length stream)
    → OnEachStream whole (λ more. HeadOf (kind_of side) limits (window ++ more) (Begins got (left ++ more))) → length left < length window
head_takes side limits window left whole got bytes begins =
    let less = bytes limits (window ++ []) got (left ++ []) (begins [] (λ _. refl)) in
    let a : length (left ++ []) ≡ length left = ap length (append-nil left) in
    let b : length (window ++ []) ≡ length window = ap length (append-nil window) in
    omega arith
