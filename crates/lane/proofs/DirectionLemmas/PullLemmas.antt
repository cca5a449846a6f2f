-- A step of the reader, into an empty array.
use Rattle.std.proofs.Common.{◌≡◌, ℕ, zero, suc, ◌+◌, ◌-◌, ◌<◌, ◌≤◌, List, [], ◌++◌, refl, sym, ap, ◌∙◌, subst, length, take, drop, arith}
use Rattle.std.specs.Prelude.{Some, IsOk, OnOk, ◌↔◌, Result, Ok, Err}
use Rattle.std.proofs.lemmas.List.{take-append-drop, take_all, nil_from_length, length-take-le}
use Rattle.httparse.proofs.RunLemmas.{length-slice_range}
use Rattle.http_model.specs.declared.Framing.{Framing}
use Rattle.http_model.specs.declared.Limits.{Limits}
use Rattle.http_model.specs.Head.{Field}
use Rattle.htx_model.specs.Block.{Block}
use Rattle.htx_model.specs.Blocks.{load, Fits, append_data, taken}
use Rattle.htx_arena.specs.declared.arena.Full.{Full}
use Rattle.h1_body.specs.declared.reader.BodyReader.{BodyReader}
use Rattle.h1_body.specs.declared.reader.BodyState.{BodyState}
use Rattle.h1_body.specs.declared.reader.Span.{Span}
use Rattle.h1_body.specs.Stands.{HasRead, Waits, state_of, bytes_of}
use Rattle.h1_body.specs.Section.{section_limit, HasTrailers}
use Rattle.h1_body.specs.Trailers.{trailer_blocks}
use Rattle.lane.specs.Direction.Pulled.{Pulls, IsWaiting}
use Rattle.lane.proofs.DirectionLemmas.SendLemmas.{waits_at}
use Rattle.lane.proofs.SieveLemmas.Taking.{takes_all}
use Rattle.lane.proofs.DirectionLemmas.RoomLemmas.{trailers_fit}

-- what `feed` says of a step
pub record Feeds (old new : BodyReader) (w : List ℕ) (room used : ℕ) (piece : Span) (given : List ℕ) (state : BodyState) : Type 0 where
  pub within : used ≤ length w
  pub span : (piece.len ≤ room) × (piece.from + piece.len ≤ used)
  pub leads : (limits : Limits) (framing : Framing) (bytes found section : List ℕ) → HasRead limits framing bytes found section old
      → HasRead limits framing (bytes ++ take used w) (found ++ bytes_of w (Some piece)) (section ++ given) new
  pub told : state ≡ state_of new
  pub waits : (limits : Limits) (framing : Framing) (bytes found section : List ℕ) → HasRead limits framing bytes found section old → used ≡ 0 → Waits new w room

take_none : (n : ℕ) → take {A = ℕ} n [] ≡ []
take_none zero = refl
take_none (suc n) = refl

pub piece_length : (w : List ℕ) (used : ℕ) (piece : Span) → used ≤ length w → piece.from + piece.len ≤ used → length (bytes_of w (Some piece)) ≡ piece.len
piece_length w used piece within span =
    let len : length (bytes_of w (Some piece)) ≡ piece.from + piece.len - piece.from = length-slice_range w piece.from (piece.from + piece.len) (omega arith) (omega arith) in
    omega arith

-- data went into the empty array
data_in_array : (w : List ℕ) (room used size n : ℕ) (piece : Span) (blocks : List Block) → used ≤ length w → (piece.len ≤ room) × (piece.from + piece.len ≤ used) → room ≡ size - 8 → 8 ≤ size
    → n ≡ taken [] size (bytes_of w (Some piece)) → blocks ≡ append_data [] (take n (bytes_of w (Some piece))) → blocks ≡ append_data [] (bytes_of w (Some piece))
data_in_array w room used size n piece blocks within span free some count is =
    let p : List ℕ = bytes_of w (Some piece) in
    let len : length p ≡ piece.len = piece_length w used piece within span.1 in
    let all : n ≡ length p = count ∙ takes_all p size (omega arith) in
    is ∙ ap (append_data []) (take_all n p (omega arith))

pub waits_here : (new : BodyReader) (w : List ℕ) (room used : ℕ) → 0 < room → used ≡ 0 → Waits new w room → IsWaiting new (drop used w)
waits_here new w room used some none waits =
    subst (λ (k : ℕ). IsWaiting new (drop k w)) (sym none) (waits_at new.stage new.section_limit w room some waits)

-- no section was read
pub pulled_plain : (old new : BodyReader) (w : List ℕ) (room used size n : ℕ) (piece : Span) (given : List ℕ) (state : BodyState) (blocks : List Block) → given ≡ [] → Feeds old new w room used piece given state → room ≡ size - 8
    → n ≡ taken [] size (bytes_of w (Some piece)) → blocks ≡ append_data [] (take n (bytes_of w (Some piece)))
    → Pulls old new w (drop used w) size blocks used state
pulled_plain old new w room used size n piece given state blocks none f free count is = record {
  used = take used w;
  piece = bytes_of w (Some piece);
  section = given;
  window = sym (take-append-drop used w);
  count = length-take-le used w f.within;
  nothing = λ e. (let span = f.span in
      let no_data : bytes_of w (Some piece) ≡ [] = nil_from_length (bytes_of w (Some piece)) (piece_length w used piece f.within f.span.1 ∙ omega arith) in
      is ∙ ap (λ (q : List ℕ). append_data [] (take n q)) no_data ∙ ap (append_data []) (take_none n));
  reads = f.leads;
  told = f.told;
  plain = λ some e. data_in_array w room used size n piece blocks f.within f.span free some count is;
  ended = λ limits framing bytes found trailers read sized other has. absurd (other none);
  waits = λ limits framing bytes found before read sized e.
      let least : 1024 ≤ limits.bufsize = read.sized in
      waits_here new w room used (omega arith) e (f.waits limits framing bytes found before read e);
}

on_ok : (r : Result (Unit {0}) Full) (P : Type 0) → IsOk r → OnOk r P → P
on_ok (Ok x) P is h = h
on_ok (Err e) P is h = absurd (cc)

-- a section was read, and added
pub pulled_ended : (old new : BodyReader) (w : List ℕ) (room used size n : ℕ) (piece span : Span) (state : BodyState) (first blocks : List Block) (added : Result (Unit {0}) Full)
    → Feeds old new w room used piece (bytes_of w (Some span)) state → room ≡ size - 8
    → (0 < span.len) × (span.from + span.len ≤ used) → piece.len ≡ 0 → span.len ≤ old.section_limit
    → n ≡ taken [] size (bytes_of w (Some piece)) → first ≡ append_data [] (take n (bytes_of w (Some piece)))
    → ((trailers : List Field) → HasTrailers (bytes_of w (Some span)) trailers → OnOk added (blocks ≡ first ++ trailer_blocks trailers))
    → ((trailers : List Field) → HasTrailers (bytes_of w (Some span)) trailers → IsOk added ↔ Fits (first ++ trailer_blocks trailers) size)
    → Pulls old new w (drop used w) size blocks used state
pulled_ended old new w room used size n piece span state first blocks added f free within alone short count is ok fits =
    let len : length (bytes_of w (Some span)) ≡ span.len = piece_length w used span f.within within.1 in
    let no_data : bytes_of w (Some piece) ≡ [] = nil_from_length (bytes_of w (Some piece)) (piece_length w used piece f.within f.span.1 ∙ alone) in
    let empty : first ≡ [] = is ∙ ap (λ (q : List ℕ). append_data [] (take n q)) no_data ∙ ap (append_data []) (take_none n) in
    record {
      used = take used w;
      piece = bytes_of w (Some piece);
      section = bytes_of w (Some span);
      window = sym (take-append-drop used w);
      count = length-take-le used w f.within;
      nothing = λ e. absurd (omega arith);
      reads = f.leads;
      told = f.told;
      plain = λ some e. absurd (let none : length (bytes_of w (Some span)) ≡ 0 = ap length e in omega arith);
      ended = λ limits framing bytes found trailers read sized some has.
          let light : load (trailer_blocks trailers) ≤ limits.bufsize = trailers_fit limits (bytes_of w (Some span)) trailers read.sized (let at : old.section_limit ≡ section_limit limits = read.limit in omega arith) has in
          let fit : load (first ++ trailer_blocks trailers) ≤ size = subst (λ (bs : List Block). load (bs ++ trailer_blocks trailers) ≤ size) (sym empty) (subst (λ (k : ℕ). load (trailer_blocks trailers) ≤ k) (sym sized) light) in
          let are : blocks ≡ first ++ trailer_blocks trailers = on_ok added (blocks ≡ first ++ trailer_blocks trailers) ((fits trailers has).1 fit) (ok trailers has) in
          (are ∙ ap (λ (bs : List Block). bs ++ trailer_blocks trailers) empty, no_data);
      waits = λ limits framing bytes found before read sized e. absurd (omega arith);
    }
