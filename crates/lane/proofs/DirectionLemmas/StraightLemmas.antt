-- Data that goes from the stream to the text at once.
use Rattle.std.proofs.Common.{◌∷◌, ◌<◌, ◌+◌, ◌-◌, inr, Bool, length, arith, ◌≡◌, ℕ, ◌≤◌, inl, List, [], ◌++◌, false, refl, sym, ap, ◌∙◌, subst, take, true}
use Rattle.std.specs.Prelude.{Option, None, Some, IfSome, is_some, nat_le, if◌then◌else◌}
use Rattle.std.specs.List.{fold}
use Rattle.std.proofs.lemmas.List.Sums.{fold-append}
use Rattle.http_model.specs.declared.Framing.{Framing}
use Rattle.http_model.specs.declared.Limits.{Limits}
use Rattle.h1_body.specs.declared.stages.Stage.{Stage}
use Rattle.h1_body.specs.declared.stages.Stage.TheVariants as st_
use Rattle.h1_body.specs.Body.{BodyAt, Left, UntilClose, InLine, InData, AtReturn, AtFeed, InSection, Over, Hopeless, step}
use Rattle.h1_body.specs.BodyOf.{place_of}
use Rattle.h1_body.specs.Section.{section_limit}
use Rattle.std.proofs.lemmas.List.{append-nil, length-take-le}
use Rattle.wire_buf.specs.Buffer.{Buffer}
use Rattle.htx_model.specs.Block.{Block}
use Rattle.htx_model.specs.Blocks.{flow, append_data}
use Rattle.htx_arena.specs.Layout.Contents.{Contents}
use Rattle.h1_body.specs.declared.reader.BodyReader.{BodyReader}
use Rattle.h1_body.specs.declared.reader.BodyState.{BodyState}
use Rattle.h1_body.specs.declared.reader.BodyState.TheVariants as state
use Rattle.h1_body.specs.declared.reader.Span.{Span}
use Rattle.h1_body.specs.Stands.{HasRead, Waits, WaitsAt, bytes_of, start_of, section_at, section_in}
use Rattle.h1_body.specs.Stands as reads
use Rattle.h1_write.specs.declared.writer.Writer.{Writer}
use Rattle.h1_write.specs.Spelled.{Writes}
use Rattle.http_model.specs.declared.Source.{Source}
use Rattle.lane.specs.declared.direction.stage.Stage.TheVariants as stage
use Rattle.lane.specs.Direction.State.{LaneState}
use Rattle.lane.specs.Direction.Sent.{Sent}
use Rattle.lane.specs.Direction.Carried.{Carries}
use Rattle.lane.specs.Direction.Pulled.{Pulls}
use Rattle.lane.specs.Direction.Sends.{Past, Sends, Stands, SourceIs, IsStraight, IsAtData, MayPass, source_told, with_more}
use Rattle.lane.proofs.DirectionLemmas.CarryLemmas.{carries_put, carries_over}
use Rattle.lane.proofs.DirectionLemmas.PullLemmas.{Feeds, piece_length}
use Rattle.lane.proofs.DirectionLemmas.ReadLemmas.{Reads, after_read, sends_more, sends_whole, sends_bad}

-- a part of the body was read, whatever the reader says then
sends_told : (l : LaneState) (p : Past) (input : Buffer ℕ) (reader : BodyReader) (msg : Contents) (used : ℕ) (st : BodyState) → Reads l input reader msg used st → Sends l p
    → Sends (record (after_read l input reader msg) { source = source_told st }) p
sends_told l p input reader msg used state.More r s =
    subst (λ (src : Source). Sends (record (after_read l input reader msg) { source = src }) p) r.going (sends_more l p input reader msg used state.More r refl s)
sends_told l p input reader msg used state.Whole r s = sends_whole l p input reader msg used state.Whole r refl s
sends_told l p input reader msg used state.Bad r s = sends_bad l p input reader msg used state.Bad r refl s

-- the data that was read is moved to the second array, and written
goes_through : (src : Source) (w : Writer) (s : Sent) (found section into out took data_ : List ℕ) (left msg : List Block) → left ≡ [] → msg ≡ append_data [] data_ → Writes w (append_data [] data_) into w [] out
    → Carries src w s found section (took ++ into) left msg → Carries src w s found section (took ++ out) [] []
goes_through src w s found section into out took data_ left msg none is puts c =
    let bs : List Block = append_data [] data_ in
    let same : flow (bs ++ []) ≡ flow (left ++ msg) = ap flow (append-nil bs) ∙ ap flow (sym is) ∙ ap (λ (ls : List Block). flow (ls ++ msg)) (sym none) in
    carries_put src w w bs [] [] false into out puts (λ e. inl e) (λ e. absurd (cc)) s found section took
    (carries_over src w s found section (took ++ into) left bs msg [] none same c)

-- what a step of the reader came to, and the text that was put out
pub record Passes (l : LaneState) (reader : BodyReader) (output : Buffer ℕ) (src : Source) (w : List ℕ) (room used : ℕ) (piece : Span) (st : BodyState) : Type 0 where
  pub straight : IsStraight l
  pub writes : (data_ window : List ℕ) → Writes l.writer (append_data [] data_) window l.writer [] (window ++ data_)
  pub feeds : Feeds l.reader reader w room used piece [] st
  pub some : used ≡ 0 → ⊥
  pub items : output.items ≡ l.output.items ++ bytes_of w (Some piece)
  pub capacity : output.capacity ≡ l.output.capacity
  pub told : src ≡ source_told st

sends_passed : (l : LaneState) (p : Past) (reader : BodyReader) (output : Buffer ℕ) (src : Source) (w : List ℕ) (room used : ℕ) (piece : Span) (st : BodyState) → Passes l reader output src w room used piece st
    → Sends (with_more l (take used w)) p → Sends (record l { reader = reader; output = output; source = src }) p
sends_passed l p reader output src w room used piece st x s =
    let f = x.feeds in
    let bytes : List ℕ = take used w in
    let data_ : List ℕ = bytes_of w (Some piece) in
    let m : LaneState = with_more l bytes in
    let input : Buffer ℕ = record l.input { items = [] } in
    let msg : Contents = record l.msg { blocks = append_data [] data_ } in
    let pulls : Pulls l.reader reader (l.input.items ++ bytes) [] l.msg.size (append_data [] data_) used st = record {
      used = bytes;
      piece = data_;
      section = [];
      window = ap (λ (t : List ℕ). t ++ bytes) x.straight.input ∙ sym (append-nil bytes);
      count = length-take-le used w f.within;
      nothing = λ e. absurd (x.some e);
      reads = f.leads;
      told = f.told;
      plain = λ _ _. refl;
      ended = λ limits framing found_ body trailers read size other has. absurd (other refl);
      waits = λ limits framing found_ body before read size e. absurd (x.some e);
    } in
    let r : Reads m input reader msg used st = record { pulls = pulls; capacity = refl; size = refl; empty = x.straight.msg; going = x.straight.going; none = x.straight.sieve } in
    let a = sends_told m p input reader msg used st r s in
    let puts : Writes l.writer (append_data [] data_) l.output.items l.writer [] output.items =
    subst (λ (t : List ℕ). Writes l.writer (append_data [] data_) l.output.items l.writer [] t) (sym x.items) (x.writes data_ l.output.items) in
    let after : Source = source_told st in
    subst (λ (to : Source). Sends (record l { reader = reader; output = output; source = to }) p) (sym x.told) (record {
      used = a.used;
      found = a.found;
      section = a.section;
      passed = a.passed;
      sized = record { least = a.sized.least; msg = a.sized.msg; out = a.sized.out; input = a.sized.input; output = subst (λ (n : ℕ). 64 ≤ n) (sym x.capacity) a.sized.output; sieve = a.sized.sieve; filters = a.sized.filters };
      has_read = a.has_read;
      bytes = a.bytes ∙ ap (λ (t : List ℕ). a.used ++ t) (sym x.straight.input);
      has_passed = a.has_passed;
      source = subst (λ (t : List ℕ). SourceIs after l.sieve p.filters reader l.ended t a.section a.found a.passed) (sym x.straight.input) a.source;
      text = λ d.
          let c = goes_through after l.writer p.sent (p.sent.given ++ a.passed) a.section l.output.items output.items p.took data_ l.out.blocks (append_data [] data_) x.straight.out refl puts (a.text d) in
          subst (λ (bs : List Block). Carries after l.writer p.sent (p.sent.given ++ a.passed) a.section (p.took ++ output.items) bs l.msg.blocks) (sym x.straight.out)
          (subst (λ (bs : List Block). Carries after l.writer p.sent (p.sent.given ++ a.passed) a.section (p.took ++ output.items) [] bs) (sym x.straight.msg) c);
    })

pub stands_passed : (l : LaneState) (p : Past) (reader : BodyReader) (output : Buffer ℕ) (src : Source) (w : List ℕ) (room used : ℕ) (piece : Span) (st : BodyState) → Passes l reader output src w room used piece st
    → Stands (with_more l (take used w)) p → Stands (record l { reader = reader; output = output; source = src }) p
stands_passed l p reader output src w room used piece st x s =
    record {
      sends = sends_passed l p reader output src w room used piece st x s.sends;
      over = λ e d. absurd (let both : stage.Done ≡ stage.Sending = sym e ∙ x.straight.stage in cc both);
      done = λ e. absurd (let both : stage.Done ≡ stage.Sending = sym e ∙ x.straight.stage in cc both);
    }

-- no bytes more
pub stands_none : (l : LaneState) (p : Past) → Stands (with_more l []) p → Stands l p
stands_none l p s = subst (λ (t : List ℕ). Stands (record l { input = record l.input { items = t } }) p) (append-nil l.input.items) s

-- ---- where data comes next, some goes

if_both : (P : BodyAt → Type 0) (t : Bool) (x y : BodyAt) → P x → P y → P (if t then x else y)
if_both P true x y a b = a
if_both P false x y a b = b

over_on : (rest more : List ℕ) → section_at (fold step (Over rest) more) ≡ []
over_on rest [] = refl
over_on rest (b ∷ more) = over_on (rest ++ b ∷ []) more

left_on : (left : ℕ) (more : List ℕ) → section_at (fold step (Left left) more) ≡ []
left_on left [] = refl
left_on left (b ∷ more) = if_both (λ (at : BodyAt). section_at (fold step at more) ≡ []) (nat_le left 1) (Over []) (Left (left - 1)) (over_on [] more) (left_on (left - 1) more)

close_on : (more : List ℕ) → section_at (fold step UntilClose more) ≡ []
close_on [] = refl
close_on (b ∷ more) = close_on more

-- no trailer section follows
no_section_on : (at : BodyAt) (more : List ℕ) → IsAtData at → section_at (fold step at more) ≡ []
no_section_on (Left left) more d = left_on left more
no_section_on UntilClose more d = close_on more
no_section_on (InLine place behind) more d = absurd d
no_section_on (InData left) more d = absurd d
no_section_on AtReturn more d = absurd d
no_section_on AtFeed more d = absurd d
no_section_on (InSection section) more d = absurd d
no_section_on (Over rest) more d = absurd d
no_section_on Hopeless more d = absurd d

section_none : (st : Stage) (at : BodyAt) → section_at at ≡ [] → section_in st at ≡ []
section_none st_.Over at e = e
section_none st_.UntilClose at e = refl
section_none st_.Dead at e = refl
section_none (st_.Left left) at e = refl
section_none st_.Line at e = refl
section_none (st_.Data left) at e = refl
section_none st_.LineEnd at e = refl
section_none st_.Section at e = refl

behind_none : (xs ys : List ℕ) → xs ++ ys ≡ [] → ys ≡ []
behind_none [] ys e = e
behind_none (x ∷ xs) ys e = absurd (cc)

given_none : (limits : Limits) (framing : Framing) (bytes more found section given : List ℕ) (reader : BodyReader) → HasRead limits framing (bytes ++ more) found (section ++ given) reader → IsAtData (place_of framing bytes) → given ≡ []
given_none limits framing bytes more found section given reader h d =
    let at : h.at ≡ fold step (fold step (start_of framing) bytes) more = sym h.goes.place ∙ fold-append step (start_of framing) bytes more in
    let none : section_at h.at ≡ [] = ap section_at at ∙ no_section_on (fold step (start_of framing) bytes) more d in
    behind_none section given (sym h.sections ∙ section_none reader.stage h.at none)

-- a section that was read has a byte
trailers_none : (o : Option Span) (w : List ℕ) (used : ℕ) → IfSome o (λ span. 0 < span.len) → IfSome o (λ span. span.from + span.len ≤ used) → used ≤ length w → bytes_of w o ≡ [] → is_some o ≡ true → ⊥
trailers_none None w used some within long none is = absurd (cc)
trailers_none (Some span) w used some within long none is =
    let len : length (bytes_of w (Some span)) ≡ span.len = piece_length w used span long within in
    let zero_ : length (bytes_of w (Some span)) ≡ 0 = ap length none in
    let more : 0 < span.len = some in
    absurd (omega arith)

-- where data comes next, nothing but a byte or room is waited for
waits_data : (st : Stage) (most most' : ℕ) (at : BodyAt) (w : List ℕ) (room : ℕ) → IsAtData at → reads.Stands most st at → WaitsAt most' st w room → 0 < room → 0 < length w → ⊥
waits_data (st_.Left left) most most' at w room d s (inl e) some any = absurd (omega arith)
waits_data (st_.Left left) most most' at w room d s (inr e) some any = absurd (omega arith)
waits_data st_.UntilClose most most' at w room d s (inl e) some any = absurd (omega arith)
waits_data st_.UntilClose most most' at w room d s (inr e) some any = absurd (omega arith)
waits_data st_.Line most most' at w room d s waits some any = subst IsAtData s d
waits_data (st_.Data left) most most' at w room d s waits some any = subst IsAtData s.1 d
waits_data st_.LineEnd most most' at w room d s waits some any = subst IsAtData s d
waits_data st_.Section most most' at w room d s waits some any = subst IsAtData s d
waits_data st_.Over most most' at w room d (inl e) waits some any = subst IsAtData e d
waits_data st_.Over most most' at w room d (inr (section, e, is)) waits some any = subst IsAtData e d
waits_data st_.Dead most most' at w room d (inl e) waits some any = subst IsAtData e d
waits_data st_.Dead most most' at w room d (inr (section, e, is)) waits some any = subst IsAtData e d

used_some : (limits : Limits) (framing : Framing) (bytes found section : List ℕ) (reader : BodyReader) (w : List ℕ) (room : ℕ) → HasRead limits framing bytes found section reader → IsAtData (place_of framing bytes)
    → Waits reader w room → 0 < room → 0 < length w → ⊥
used_some limits framing bytes found section reader w room h d waits some any =
    waits_data reader.stage (section_limit limits) reader.section_limit h.at w room (subst IsAtData h.goes.place d) h.stands waits some any

-- what `feed` says where nothing was used, or a section was read
pub record Refuses (old new : BodyReader) (w : List ℕ) (room used : ℕ) (piece : Span) (trailers : Option Span) : Type 0 where
  pub within : used ≤ length w
  pub leads : (limits : Limits) (framing : Framing) (bytes found section : List ℕ) → HasRead limits framing bytes found section old
      → HasRead limits framing (bytes ++ take used w) (found ++ bytes_of w (Some piece)) (section ++ bytes_of w trailers) new
  pub waits : (limits : Limits) (framing : Framing) (bytes found section : List ℕ) → HasRead limits framing bytes found section old → used ≡ 0 → Waits new w room
  pub some : IfSome trailers (λ span. 0 < span.len)
  pub section_within : IfSome trailers (λ span. span.from + span.len ≤ used)

at_data : (l : LaneState) (w : List ℕ) (m : MayPass l w) → IsAtData (place_of m.past.reads m.stands.sends.used)
at_data l w m =
    let all : m.past.bytes ≡ m.stands.sends.used = m.stands.sends.bytes ∙ ap (λ (t : List ℕ). m.stands.sends.used ++ t) m.straight.input ∙ append-nil m.stands.sends.used in
    subst (λ (t : List ℕ). IsAtData (place_of m.past.reads t)) all m.at

take_no : (n : ℕ) (w : List ℕ) → n ≡ 0 → take n w ≡ []
take_no n w e = ap (λ (k : ℕ). take k w) e

pub passes_some : (l : LaneState) (new : BodyReader) (w : List ℕ) (room used : ℕ) (piece : Span) (trailers : Option Span) → Refuses l.reader new w room used piece trailers → 0 < room → used ≡ 0 → MayPass l w → ⊥
passes_some l new w room used piece trailers f some none m =
    let s = m.stands.sends in
    let read = f.leads l.limits m.past.reads s.used s.found s.section s.has_read in
    let same : s.used ++ take used w ≡ s.used = ap (λ (t : List ℕ). s.used ++ t) (take_no used w none) ∙ append-nil s.used in
    let here : HasRead l.limits m.past.reads s.used (s.found ++ bytes_of w (Some piece)) (s.section ++ bytes_of w trailers) new =
    subst (λ (t : List ℕ). HasRead l.limits m.past.reads t (s.found ++ bytes_of w (Some piece)) (s.section ++ bytes_of w trailers) new) same read in
    used_some l.limits m.past.reads s.used (s.found ++ bytes_of w (Some piece)) (s.section ++ bytes_of w trailers) new w room here (at_data l w m)
    (f.waits l.limits m.past.reads s.used s.found s.section s.has_read none) some m.any

pub passes_plain : (l : LaneState) (new : BodyReader) (w : List ℕ) (room used : ℕ) (piece : Span) (trailers : Option Span) → Refuses l.reader new w room used piece trailers → is_some trailers ≡ true → MayPass l w → ⊥
passes_plain l new w room used piece trailers f is m =
    let s = m.stands.sends in
    let read = f.leads l.limits m.past.reads s.used s.found s.section s.has_read in
    let none = given_none l.limits m.past.reads s.used (take used w) (s.found ++ bytes_of w (Some piece)) s.section (bytes_of w trailers) new read (at_data l w m) in
    trailers_none trailers w used f.some f.section_within f.within none is
