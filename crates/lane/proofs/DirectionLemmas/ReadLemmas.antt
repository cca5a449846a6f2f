-- What a step of the reader makes of a message that is sent.
use Rattle.std.proofs.Common.{◌≡◌, ◌≢◌, ℕ, ◌+◌, ◌≤◌, ◌⊎◌, inl, inr, List, [], ◌∷◌, ◌++◌, true, false, refl, sym, ap, ◌∙◌, subst, length, arith, append_assoc}
use Rattle.std.specs.Prelude.{Option, None, map}
use Rattle.std.proofs.lemmas.List.{append-nil, length-append}
use Rattle.wire_buf.specs.Buffer.{Buffer}
use Rattle.htx_model.specs.Block.{Block}
use Rattle.htx_arena.specs.Layout.Contents.{Contents}
use Rattle.http_model.specs.Head.{Field, front_blocks, message_blocks, ended_trailers, trailer_block}
use Rattle.std.specs.List.{flat_map}
use Rattle.httparse.specs.Grammar as grammar
use Rattle.httparse.specs.Grammar.{print_section, print_field, print_end}
use Rattle.h1_body.specs.Body.{BodyAt}
use Rattle.h1_body.specs.declared.stages.Stage.{Stage}
use Rattle.h1_body.specs.declared.stages.Stage.TheVariants as stage
use Rattle.h1_body.specs.declared.reader.BodyReader.{BodyReader}
use Rattle.h1_body.specs.declared.reader.BodyState.{BodyState}
use Rattle.h1_body.specs.declared.reader.BodyState.TheVariants as state
use Rattle.h1_body.specs.BodyOf.{StateTells}
use Rattle.h1_body.specs.Section.{HasTrailers, BeginsFields}
use Rattle.h1_body.specs.Trailers.{trailer_blocks}
use Rattle.h1_body.specs.Stands.{HasRead, state_at, section_in}
use Rattle.h1_body.proofs.PublicLaws.{told}
use Rattle.htx_model.specs.Blocks.{flow, append_data}
use Rattle.h1_write.specs.declared.writer.Writer.{Writer}
use Rattle.lane.specs.Direction.Sent.{Sent, message_of}
use Rattle.lane.specs.Direction.Carried.{Carried, CarriesFront, Carries}
use Rattle.htx_model.proofs.PublicLaws.{flow-front}
use Rattle.lane.proofs.DirectionLemmas.FlowLemmas.{front_flow, front_more, front_ended, same_trailers}
use Rattle.lane.specs.Direction.Pulled.{Pulls, IsWaiting}
use Rattle.lane.specs.Direction.Sends.{Past, Sends, SourceIs, put_out}
use Rattle.http_model.specs.declared.Source.{Source}
use Rattle.http_model.specs.declared.Source.TheVariants as source
use Rattle.lane.specs.Direction.State.{LaneState}
use Rattle.lane.proofs.DirectionLemmas.RoomLemmas.{some_end}
use Rattle.lane.specs.declared.sieve.sieve.Sieve.{Sieve}
use Rattle.lane.specs.Direction.Filtering.{HasPassed, GoesOnBy, Broken}
use Rattle.lane.proofs.DirectionLemmas.SendLemmas.{sends_going, sends_section, none_rests, no_filters, plain_over}

-- no section was read while the body still comes, or where it is none
pub more_section : (st : Stage) (at : BodyAt) → state_at st ≡ state.More → section_in st at ≡ []
more_section stage.Over at e = absurd (cc)
more_section stage.UntilClose at e = refl
more_section stage.Dead at e = absurd (cc)
more_section (stage.Left left) at e = refl
more_section stage.Line at e = refl
more_section (stage.Data left) at e = refl
more_section stage.LineEnd at e = refl
more_section stage.Section at e = refl

bad_section : (st : Stage) (at : BodyAt) → state_at st ≡ state.Bad → section_in st at ≡ []
bad_section stage.Over at e = absurd (cc)
bad_section stage.UntilClose at e = refl
bad_section stage.Dead at e = refl
bad_section (stage.Left left) at e = refl
bad_section stage.Line at e = refl
bad_section (stage.Data left) at e = refl
bad_section stage.LineEnd at e = refl
bad_section stage.Section at e = refl

-- a section has a byte
pub no_section : (read : List ℕ) (fields : List grammar.Field) → BeginsFields read fields [] → read ≡ [] → ⊥
no_section read fields begins none =
    let text : [] ≡ print_section fields begins.last = sym none ∙ begins.reads.1 ∙ append-nil (print_section fields begins.last) in
    let len : 0 ≡ length (print_section fields begins.last) = ap length text in
    let two : length (print_section fields begins.last) ≡ length (flat_map print_field fields) + length (print_end begins.last) = length-append (flat_map print_field fields) (print_end begins.last) in
    let some = some_end begins.last in
    absurd (omega arith)

-- no section has no trailers
pub no_trailers : (section : List ℕ) (trailers : List Field) → section ≡ [] → HasTrailers section trailers → trailers ≡ []
no_trailers section trailers none (inl h) = h.1
no_trailers section trailers none (inr (fields, begins, are)) = absurd (no_section section fields begins none)

-- a part of the body went into the empty array
pub read_on : (w : Writer) (s : Sent) (found piece put : List ℕ) (left msg : List Block) → CarriesFront w s found put left [] → msg ≡ append_data [] piece
    → CarriesFront w s (found ++ piece) put left msg
read_on w s found piece put left msg c is =
    let before : flow (c.1.taken ++ left) ≡ front_blocks s.head found = ap (λ (bs : List Block). flow (c.1.taken ++ bs)) (sym (append-nil left)) ∙ c.1.flows in (
      c.0,
      record {
        taken = c.1.taken;
        text = c.1.text;
        put_is = c.1.put_is;
        has = c.1.has;
        flows = ap (λ (bs : List Block). flow (c.1.taken ++ (left ++ bs))) is ∙ ap flow (sym (append_assoc c.1.taken left (append_data [] piece)))
            ∙ flow-front (c.1.taken ++ left) (front_blocks s.head found) (append_data [] piece) (before ∙ sym (front_flow s.head found)) ∙ front_more s.head found piece;
      },
    )

-- the last part, with its trailers
pub read_last : (w : Writer) (s : Sent) (found piece put : List ℕ) (left msg : List Block) (trailers : List Field) → CarriesFront w s found put left []
    → ((msg ≡ append_data [] piece) × (trailers ≡ [])) ⊎ ((msg ≡ trailer_blocks trailers) × (piece ≡ []))
    → Carried w s put left msg (message_blocks (message_of s (found ++ piece) trailers))
read_last w s found piece put left msg trailers c (inl is) =
    let d = read_on w s found piece put left msg c is.0 in
    record {
      taken = d.1.taken;
      text = d.1.text;
      put_is = d.1.put_is;
      has = d.1.has;
      flows = d.1.flows ∙ sym (append-nil (front_blocks s.head (found ++ piece))) ∙ ap (λ (ts : List Field). front_blocks s.head (found ++ piece) ++ ended_trailers (map trailer_block ts)) (sym is.1);
    }
read_last w s found piece put left msg trailers c (inr is) =
    let before : flow (c.1.taken ++ left) ≡ front_blocks s.head found = ap (λ (bs : List Block). flow (c.1.taken ++ bs)) (sym (append-nil left)) ∙ c.1.flows in
    let ended : List Block = ended_trailers (map trailer_block trailers) in
    record {
      taken = c.1.taken;
      text = c.1.text;
      put_is = c.1.put_is;
      has = c.1.has;
      flows = ap (λ (bs : List Block). flow (c.1.taken ++ (left ++ bs))) (is.0 ∙ same_trailers trailers) ∙ ap flow (sym (append_assoc c.1.taken left ended))
          ∙ flow-front (c.1.taken ++ left) (front_blocks s.head found) ended (before ∙ sym (front_flow s.head found)) ∙ front_ended s.head found trailers
          ∙ ap (λ (b : List ℕ). front_blocks s.head b ++ ended) (sym (append-nil found) ∙ ap (λ (q : List ℕ). found ++ q) (sym is.1));
    }

-- the array in which a whole body's last part stands
whole_part : (section piece : List ℕ) (trailers : List Field) (blocks : List Block) → (section ≡ [] → blocks ≡ append_data [] piece)
    → (section ≢ [] → (blocks ≡ trailer_blocks trailers) × (piece ≡ [])) → HasTrailers section trailers
    → ((blocks ≡ append_data [] piece) × (trailers ≡ [])) ⊎ ((blocks ≡ trailer_blocks trailers) × (piece ≡ []))
whole_part [] piece trailers blocks plain ended has = inl (plain refl, no_trailers [] trailers refl has)
whole_part (x ∷ section) piece trailers blocks plain ended has = inr (ended (λ e. cc))

-- ---- the lane

-- what a read leaves
abbrev pub after_read : LaneState → Buffer ℕ → BodyReader → Contents → LaneState
after_read l input reader msg = record l { input = input; reader = reader; msg = msg }

pub record Reads (l : LaneState) (input : Buffer ℕ) (reader : BodyReader) (msg : Contents) (used : ℕ) (st : BodyState) : Type 0 where
  pub pulls : Pulls l.reader reader l.input.items input.items l.msg.size msg.blocks used st
  pub capacity : input.capacity ≡ l.input.capacity
  pub size : msg.size ≡ l.msg.size
  pub empty : l.msg.blocks ≡ []
  pub going : l.source ≡ source.Going
  pub none : l.sieve ≡ None

-- what was carried before, with the empty array
pub carried : (l : LaneState) (p : Past) (s : Sends l p) → l.source ≡ source.Going → l.msg.blocks ≡ [] → l.dropped ≡ false
    → CarriesFront l.writer p.sent (p.sent.given ++ s.passed) (put_out l p) l.out.blocks []
carried l p s is none d =
    subst (λ (bs : List Block). CarriesFront l.writer p.sent (p.sent.given ++ s.passed) (put_out l p) l.out.blocks bs) none
    (sends_going l p s is d)

pub further : (l : LaneState) (p : Past) (passed piece : List ℕ) (msg : List Block) → CarriesFront l.writer p.sent ((p.sent.given ++ passed) ++ piece) (put_out l p) l.out.blocks msg
    → CarriesFront l.writer p.sent (p.sent.given ++ (passed ++ piece)) (put_out l p) l.out.blocks msg
further l p passed piece msg c = subst (λ (b : List ℕ). CarriesFront l.writer p.sent b (put_out l p) l.out.blocks msg) (append_assoc p.sent.given passed piece) c

open_section : (l : LaneState) (p : Past) (s : Sends l p) → l.source ≡ source.Going → l.sieve ≡ None → s.section ≡ []
open_section l p s going none = sends_section l p s going (none_rests l.sieve none)

has_read_on : (l : LaneState) (p : Past) (input : Buffer ℕ) (reader : BodyReader) (msg : Contents) (used : ℕ) (st : BodyState) (r : Reads l input reader msg used st) (s : Sends l p)
    → HasRead l.limits p.reads (s.used ++ r.pulls.used) (s.found ++ r.pulls.piece) r.pulls.section reader
has_read_on l p input reader msg used st r s =
    subst (λ (xs : List ℕ). HasRead l.limits p.reads (s.used ++ r.pulls.used) (s.found ++ r.pulls.piece) (xs ++ r.pulls.section) reader) (open_section l p s r.going r.none)
    (r.pulls.reads l.limits p.reads s.used s.found s.section s.has_read)

passed_on : (l : LaneState) (p : Past) (s : Sends l p) → l.sieve ≡ None → (piece : List ℕ) → HasPassed l.sieve p.filters (s.found ++ piece) (s.passed ++ piece)
passed_on l p s none piece =
    let is = no_filters l.sieve none p.filters s.found s.passed s.has_passed in
    subst (λ (o : Option Sieve). HasPassed o p.filters (s.found ++ piece) (s.passed ++ piece)) (sym none) (is.0, ap (λ (b : List ℕ). b ++ piece) is.1)

wide : (l : LaneState) (p : Past) → Sends l p → 8 ≤ l.msg.size
wide l p s = let a = s.sized.least in let b : l.msg.size ≡ l.limits.bufsize = s.sized.msg in omega arith

-- the body still comes
pub sends_more : (l : LaneState) (p : Past) (input : Buffer ℕ) (reader : BodyReader) (msg : Contents) (used : ℕ) (st : BodyState) → Reads l input reader msg used st → st ≡ state.More
    → Sends l p → Sends (after_read l input reader msg) p
sends_more l p input reader msg used st r is s =
    let x = r.pulls in
    let read = has_read_on l p input reader msg used st r s in
    let none : x.section ≡ [] = sym read.sections ∙ more_section reader.stage read.at (sym x.told ∙ is) in
    let goes : GoesOnBy None reader l.ended input.items x.section = none in
    record {
      used = s.used ++ x.used;
      found = s.found ++ x.piece;
      section = x.section;
      passed = s.passed ++ x.piece;
      sized = record { least = s.sized.least; msg = r.size ∙ s.sized.msg; out = s.sized.out; input = r.capacity ∙ s.sized.input; output = s.sized.output; sieve = s.sized.sieve; filters = s.sized.filters };
      has_read = read;
      bytes = s.bytes ∙ ap (λ xs. s.used ++ xs) x.window ∙ sym (append_assoc s.used x.used input.items);
      has_passed = passed_on l p s r.none x.piece;
      source = subst (λ (src : Source). SourceIs src l.sieve p.filters reader l.ended input.items x.section (s.found ++ x.piece) (s.passed ++ x.piece)) (sym r.going)
          (subst (λ (o : Option Sieve). GoesOnBy o reader l.ended input.items x.section) (sym r.none) goes);
      text = λ d. subst (λ (src : Source). Carries src l.writer p.sent (p.sent.given ++ (s.passed ++ x.piece)) x.section (put_out l p) l.out.blocks msg.blocks) (sym r.going)
          (further l p s.passed x.piece msg.blocks (read_on l.writer p.sent (p.sent.given ++ s.passed) x.piece (put_out l p) l.out.blocks msg.blocks (carried l p s r.going r.empty d) (x.plain (wide l p s) none)));
    }

-- the body was whole
pub sends_whole : (l : LaneState) (p : Past) (input : Buffer ℕ) (reader : BodyReader) (msg : Contents) (used : ℕ) (st : BodyState) → Reads l input reader msg used st → st ≡ state.Whole
    → Sends l p → Sends (record (after_read l input reader msg) { source = source.Whole }) p
sends_whole l p input reader msg used st r is s =
    let x = r.pulls in
    let read = has_read_on l p input reader msg used st r s in
    let says : StateTells l.limits p.reads (s.used ++ x.used) (s.found ++ x.piece) x.section state.Whole =
    subst (λ (t : BodyState). StateTells l.limits p.reads (s.used ++ x.used) (s.found ++ x.piece) x.section t) (sym x.told ∙ is)
    (told l.limits p.reads (s.used ++ x.used) (s.found ++ x.piece) x.section reader read) in
    let before : HasRead l.limits p.reads s.used s.found [] l.reader = subst (λ (xs : List ℕ). HasRead l.limits p.reads s.used s.found xs l.reader) (open_section l p s r.going r.none) s.has_read in
    let part = whole_part x.section x.piece says.0 msg.blocks (x.plain (wide l p s)) (λ some. x.ended l.limits p.reads s.used s.found says.0 before s.sized.msg some says.1) says.1 in
    let passes = passed_on l p s r.none x.piece in
    record {
      used = s.used ++ x.used;
      found = s.found ++ x.piece;
      section = x.section;
      passed = s.passed ++ x.piece;
      sized = record { least = s.sized.least; msg = r.size ∙ s.sized.msg; out = s.sized.out; input = r.capacity ∙ s.sized.input; output = s.sized.output; sieve = s.sized.sieve; filters = s.sized.filters };
      has_read = read;
      bytes = s.bytes ∙ ap (λ xs. s.used ++ xs) x.window ∙ sym (append_assoc s.used x.used input.items);
      has_passed = passes;
      source = (inl (sym x.told ∙ is), plain_over l.sieve r.none p.filters (s.found ++ x.piece) (s.passed ++ x.piece) passes);
      text = λ d. (let c = carried l p s r.going r.empty d in
          (says.0, says.1, subst (λ (b : List ℕ). Carried l.writer p.sent (put_out l p) l.out.blocks msg.blocks (message_blocks (message_of p.sent b says.0))) (append_assoc p.sent.given s.passed x.piece) (read_last l.writer p.sent (p.sent.given ++ s.passed) x.piece (put_out l p) l.out.blocks msg.blocks says.0 c part), λ e. let both : true ≡ false = sym e ∙ c.0 in absurd (cc both)));
    }

-- the bytes were none
pub sends_bad : (l : LaneState) (p : Past) (input : Buffer ℕ) (reader : BodyReader) (msg : Contents) (used : ℕ) (st : BodyState) → Reads l input reader msg used st → st ≡ state.Bad
    → Sends l p → Sends (record (after_read l input reader msg) { source = source.Cut 400 }) p
sends_bad l p input reader msg used st r is s =
    let x = r.pulls in
    let read = has_read_on l p input reader msg used st r s in
    let none : x.section ≡ [] = sym read.sections ∙ bad_section reader.stage read.at (sym x.told ∙ is) in
    let passes = passed_on l p s r.none x.piece in
    record {
      used = s.used ++ x.used;
      found = s.found ++ x.piece;
      section = x.section;
      passed = s.passed ++ x.piece;
      sized = record { least = s.sized.least; msg = r.size ∙ s.sized.msg; out = s.sized.out; input = r.capacity ∙ s.sized.input; output = s.sized.output; sieve = s.sized.sieve; filters = s.sized.filters };
      has_read = read;
      bytes = s.bytes ∙ ap (λ xs. s.used ++ xs) x.window ∙ sym (append_assoc s.used x.used input.items);
      has_passed = passes;
      source = Broken refl (inl (sym x.told ∙ is)) (plain_over l.sieve r.none p.filters (s.found ++ x.piece) (s.passed ++ x.piece) passes);
      text = λ d. further l p s.passed x.piece msg.blocks (read_on l.writer p.sent (p.sent.given ++ s.passed) x.piece (put_out l p) l.out.blocks msg.blocks (carried l p s r.going r.empty d) (x.plain (wide l p s) none));
    }

-- a read that used nothing waits
pub read_waits : (l : LaneState) (p : Past) (input : Buffer ℕ) (reader : BodyReader) (msg : Contents) (used : ℕ) (st : BodyState) → Reads l input reader msg used st → used ≡ 0
    → Sends l p → IsWaiting reader input.items
read_waits l p input reader msg used st r none s = r.pulls.waits l.limits p.reads s.used s.found s.section s.has_read s.sized.msg none

-- a read that used something is nearer
pub read_nearer : (old new : BodyReader) (before after : List ℕ) (size used : ℕ) (blocks : List Block) (st : BodyState) → Pulls old new before after size blocks used st → length before ≡ used + length after
read_nearer old new before after size used blocks st x = ap length x.window ∙ length-append x.used after ∙ ap (λ n. n + length after) x.count
