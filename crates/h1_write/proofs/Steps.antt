-- The steps of a call.
use Rattle.std.proofs.Common.{◌≡◌, ℕ, zero, suc, ◌+◌, ◌<◌, ◌≤◌, List, [], ◌∷◌, ◌++◌, Bool, true, false, length, take, drop, refl, ap, sym, ◌∙◌, subst, arith}
use Rattle.std.proofs.lemmas.List.{append-nil, take_all, drop_all, drop_more}
use Rattle.std.specs.Prelude.{if◌then◌else◌}
use Rattle.std.proofs.lemmas.Bool.{lt-ltb}
use Rattle.wire_buf.specs.Buffer.{Buffer}
use Rattle.htx_model.specs.Block.{Block, RequestLine, ResponseLine, Header, EndHeaders, Data, Trailer, EndTrailers, kind_of, value_of, payload_len}
use Rattle.htx_model.specs.declared.Kind.TheVariants as kinds
use Rattle.htx_model.proofs.PublicLaws.{data_is}
use Rattle.htx_model.specs.Blocks.{block_at, cut_front, append_data}
use Rattle.http_model.specs.declared.Framing.{Framing}
use Rattle.h1_write.specs.declared.text.Put.{Put}
use Rattle.h1_write.specs.declared.units.Coding.{Coding}
use Rattle.h1_write.specs.declared.units.Coding.TheVariants.{Silent, Plain, Chunks}
use Rattle.h1_write.specs.declared.units.Place.{Place}
use Rattle.h1_write.specs.declared.units.Place.TheVariants.{Open}
use Rattle.h1_write.specs.declared.writer.Stage.{Stage}
use Rattle.h1_write.specs.declared.writer.Stage.TheVariants as stage
use Rattle.h1_write.specs.declared.writer.Writer.{Writer}
use Rattle.h1_write.specs.Put.{IsPut}
use Rattle.h1_write.specs.Units.{coding_of, behind, end_text, unit_text, data_text, IsPart}
use Rattle.h1_write.specs.Spelled.{SpellsData, SpellsBlocks, BeginsBlock, Begins, HasWritten, Writes, EvenAt, EndAt, ended_at}
use Rattle.h1_write.proofs.Leading.{not_true, spells-push, begun_text, begun_within, begun_part, text_on, IsAll, writer, Goes, cut, whole, parted}

-- ---- the steps of a call

-- the block at the front, which is begun, is written further
pub resumes_cut : (old : Writer) (pos size : ℕ) (bs : List Block) (put : Put) (w w' : Buffer ℕ) → old.stage ≡ stage.Block pos size → 0 < pos → 0 < length bs → IsPut (unit_text old.coding old.place size (block_at bs 0)) pos w w' put → put.whole ≡ false
    → Writes old bs w.items (writer old.coding old.place (stage.Block put.pos size)) bs w'.items
resumes_cut old pos size [] put w w' at some any p e = absurd (omega arith)
resumes_cut old pos size (b ∷ bs) put w w' at some any p e = record {
  more = drop pos (take put.pos (unit_text old.coding old.place size b));
  items = p.items;
  leads = λ framing no_body taken text h.
      let begins = subst (λ (s : Stage). Begins old.coding old.place s (b ∷ bs) h.front text) at h.begins in
      cut framing no_body taken old.coding old.place pos put.pos size b bs h.front text h.coding h.spells (begun_part old.coding old.place pos size b bs h.front text begins some)
      (begun_text old.coding old.place pos size b bs h.front text begins) p.from (p.to (begun_within old.coding old.place pos size b bs h.front text begins));
}

-- it is written to its end
pub resumes_whole : (old : Writer) (pos size : ℕ) (bs : List Block) (put : Put) (w w' : Buffer ℕ) → old.stage ≡ stage.Block pos size → 0 < pos → 0 < length bs → IsPut (unit_text old.coding old.place size (block_at bs 0)) pos w w' put → put.whole ≡ true
    → (IsPart size (block_at bs 0) → IsAll old.coding size (block_at bs 0))
    → Writes old bs w.items (writer old.coding (behind old.place (kind_of (block_at bs 0))) (stage.Block 0 0)) (drop 1 bs) w'.items
resumes_whole old pos size [] put w w' at some any p e all = absurd (omega arith)
resumes_whole old pos size (b ∷ bs) put w w' at some any p e all = record {
  more = drop pos (take put.pos (unit_text old.coding old.place size b));
  items = p.items;
  leads = λ framing no_body taken text h.
      let begins = subst (λ (s : Stage). Begins old.coding old.place s (b ∷ bs) h.front text) at h.begins in
      let part = begun_part old.coding old.place pos size b bs h.front text begins some in
      whole framing no_body taken old.coding old.place pos put.pos size 0 b bs h.front text h.coding h.spells part (all part)
      (begun_text old.coding old.place pos size b bs h.front text begins) p.from (p.whole e);
}

-- its chunk is written to its end, and more data stands behind it
pub resumes_parted : (old : Writer) (pos size : ℕ) (bs cs : List Block) (p : List ℕ) (put : Put) (w w' : Buffer ℕ) → old.stage ≡ stage.Block pos size → old.coding ≡ Chunks → 0 < pos → bs ≡ Data p ∷ cs → IsPut (unit_text old.coding old.place size (Data p)) pos w w' put → put.whole ≡ true
    → Writes old bs w.items (writer old.coding old.place (stage.Block 0 0)) (Data (drop size p) ∷ cs) w'.items
resumes_parted old pos size bs cs p put w w' at chunks some is put_is e =
    let P : List Block → Type 0 = λ ls. Writes old ls w.items (writer old.coding old.place (stage.Block 0 0)) (Data (drop size p) ∷ cs) w'.items in
    let Q : Coding → Type 0 = λ c. Writes old (Data p ∷ cs) w.items (writer c old.place (stage.Block 0 0)) (Data (drop size p) ∷ cs) w'.items in
    subst P (sym is) (subst Q (sym chunks) (record {
      more = drop pos (take put.pos (data_text Chunks size p));
      items = put_is.items ∙ ap (λ (c : Coding). w.items ++ drop pos (take put.pos (unit_text c old.place size (Data p)))) chunks;
      leads = λ framing no_body taken text h.
          let begins : BeginsBlock Chunks old.place pos size (Data p ∷ cs) h.front text =
          (let R : Coding → Type 0 = λ c. BeginsBlock c old.place pos size (Data p ∷ cs) h.front text in subst R chunks (subst (λ (s : Stage). Begins old.coding old.place s (Data p ∷ cs) h.front text) at h.begins)) in
          let part = begun_part Chunks old.place pos size (Data p) cs h.front text begins some in
          let spells : SpellsBlocks Chunks Open taken h.front old.place = (let R : Coding → Type 0 = λ c. SpellsBlocks c Open taken h.front old.place in subst R chunks h.spells) in
          let end : length (data_text Chunks size p) ≤ put.pos = (let R : Coding → Type 0 = λ c. length (unit_text c old.place size (Data p)) ≤ put.pos in subst R chunks (put_is.whole e)) in
          parted framing no_body taken old.place pos put.pos size 0 p cs h.front text (sym chunks ∙ h.coding) spells part.0 part.1
          (begun_text Chunks old.place pos size (Data p) cs h.front text begins) put_is.from end;
    }))

-- a writer that may begin a block
pub start_of : (s : Stage) → EvenAt s → ended_at s ≡ false → (size : ℕ) × (s ≡ stage.Block 0 size)
start_of (stage.Block pos size) even going = (size, ap (λ (n : ℕ). stage.Block n size) even)
start_of (stage.End pos) even going = absurd even
start_of stage.Done even going = absurd (not_true (sym going))

-- a block of which nothing is written is begun
pub fresh_cut : (old : Writer) (size at : ℕ) (bs : List Block) (put : Put) (w w' : Buffer ℕ) → EvenAt old.stage → ended_at old.stage ≡ false → at < length bs → IsPart size (block_at bs at) → IsPut (unit_text old.coding old.place size (block_at bs at)) 0 w w' put → put.whole ≡ false
    → Writes old (drop at bs) w.items (writer old.coding old.place (stage.Block put.pos size)) (drop at bs) w'.items
fresh_cut old size at bs put w w' even going within part p e =
    let b = block_at bs at in
    let cs = drop (at + 1) bs in
    let start = start_of old.stage even going in
    let there : drop at bs ≡ b ∷ cs = drop_more bs at EndHeaders within in
    let P : List Block → Type 0 = λ ls. Writes old ls w.items (writer old.coding old.place (stage.Block put.pos size)) ls w'.items in
    subst P (sym there) (record {
      more = drop 0 (take put.pos (unit_text old.coding old.place size b));
      items = p.items;
      leads = λ framing no_body taken text h.
          let begins : text ≡ h.front = subst (λ (s : Stage). Begins old.coding old.place s (b ∷ cs) h.front text) start.1 h.begins in
          cut framing no_body taken old.coding old.place 0 put.pos size b cs h.front text h.coding h.spells part
          (begins ∙ sym (append-nil h.front)) (omega arith) (p.to (omega arith));
    })

-- and written to its end
pub fresh_whole : (old : Writer) (size at : ℕ) (bs : List Block) (put : Put) (w w' : Buffer ℕ) → EvenAt old.stage → ended_at old.stage ≡ false → at < length bs → IsPart size (block_at bs at) → IsAll old.coding size (block_at bs at) → IsPut (unit_text old.coding old.place size (block_at bs at)) 0 w w' put → put.whole ≡ true
    → Writes old (drop at bs) w.items (writer old.coding (behind old.place (kind_of (block_at bs at))) old.stage) (drop (at + 1) bs) w'.items
fresh_whole old size at bs put w w' even going within part all p e =
    let b = block_at bs at in
    let cs = drop (at + 1) bs in
    let start = start_of old.stage even going in
    let there : drop at bs ≡ b ∷ cs = drop_more bs at EndHeaders within in
    let P : List Block → Type 0 = λ ls. Writes old ls w.items (writer old.coding (behind old.place (kind_of b)) old.stage) cs w'.items in
    let Q : Stage → Type 0 = λ s. Writes old (b ∷ cs) w.items (writer old.coding (behind old.place (kind_of b)) s) cs w'.items in
    subst P (sym there) (subst Q (sym start.1) (record {
      more = drop 0 (take put.pos (unit_text old.coding old.place size b));
      items = p.items;
      leads = λ framing no_body taken text h.
          let begins : text ≡ h.front = subst (λ (s : Stage). Begins old.coding old.place s (b ∷ cs) h.front text) start.1 h.begins in
          whole framing no_body taken old.coding old.place 0 put.pos size start.0 b cs h.front text h.coding h.spells part all
          (begins ∙ sym (append-nil h.front)) (omega arith) (p.whole e);
    }))

-- data that is written as it is stands behind the text once it is put there
pub plain_data : (w : Writer) → w.coding ≡ Plain → EvenAt w.stage → ended_at w.stage ≡ false → (piece window : List ℕ) → Writes w (append_data [] piece) window w [] (window ++ piece)
plain_data w plain even going [] window = record {
  more = [];
  items = refl;
  leads = λ framing no_body taken text h.
      let P : List Block → Type 0 = λ ts. HasWritten framing no_body ts [] (text ++ []) w in
      let Q : List ℕ → Type 0 = λ t. HasWritten framing no_body taken [] t w in
      ([], refl, subst P (sym (append-nil taken)) (subst Q (sym (append-nil text)) h));
}
plain_data w plain even going (x ∷ piece) window =
    let start = start_of w.stage even going in
    record {
      more = x ∷ piece;
      items = refl;
      leads = λ framing no_body taken text h.
          let begins : text ≡ h.front = subst (λ (s : Stage). Begins w.coding w.place s (Data (x ∷ piece) ∷ []) h.front text) start.1 h.begins in
          let spelled : SpellsData w.coding (x ∷ piece) (x ∷ piece) = subst (λ (c : Coding). SpellsData c (x ∷ piece) (x ∷ piece)) (sym plain) refl in (
            Data (x ∷ piece) ∷ [],
            refl,
            record {
              front = h.front ++ (x ∷ piece);
              coding = h.coding;
              spells = spells-push w.coding Open w.place taken h.front (Data (x ∷ piece)) (x ∷ piece) h.spells spelled;
              begins = subst (λ (s : Stage). Begins w.coding w.place s [] (h.front ++ (x ∷ piece)) (text ++ (x ∷ piece))) (sym start.1) (ap (λ (t : List ℕ). t ++ (x ∷ piece)) begins);
            },
          );
    }

-- the whole of a block of data is a part of it
part_by : (size : ℕ) (b : Block) → 0 < size → size ≤ payload_len b → IsPart size b
part_by size (Data p) some e = (some, e)
part_by size (RequestLine x y z) some e = tt
part_by size (ResponseLine x y z) some e = tt
part_by size (Header n v) some e = tt
part_by size EndHeaders some e = tt
part_by size (Trailer n v) some e = tt
part_by size EndTrailers some e = tt

pub whole_part : (size : ℕ) (b : Block) → 0 < size → size ≡ payload_len b → IsPart size b
whole_part size b some e = part_by size b some (omega arith)

-- where a part is no shorter than the block, it is all
data_all : (c : Coding) (size : ℕ) (p : List ℕ) → length p ≤ size → size ≤ length p → IsAll c size (Data p)
data_all Silent size p long part = tt
data_all Plain size p long part = tt
data_all Chunks size p long part = omega arith

pub part_all : (c : Coding) (size : ℕ) (b : Block) → payload_len b ≤ size → IsPart size b → IsAll c size b
part_all c size (Data p) long part = data_all c size p long part.1
part_all Silent size b long part = tt
part_all Plain size b long part = tt
part_all Chunks size (RequestLine x y z) long part = tt
part_all Chunks size (ResponseLine x y z) long part = tt
part_all Chunks size (Header n v) long part = tt
part_all Chunks size EndHeaders long part = tt
part_all Chunks size (Trailer n v) long part = tt
part_all Chunks size EndTrailers long part = tt

-- what isn't data in chunks is written as a whole
pub other_all : (c : Coding) (size : ℕ) (b : Block) → (kind_of b ≡ kinds.Data → ⊥) → IsAll c size b
other_all Silent size b other = tt
other_all Plain size b other = tt
other_all Chunks size (Data p) other = absurd (other refl)
other_all Chunks size (RequestLine x y z) other = tt
other_all Chunks size (ResponseLine x y z) other = tt
other_all Chunks size (Header n v) other = tt
other_all Chunks size EndHeaders other = tt
other_all Chunks size (Trailer n v) other = tt
other_all Chunks size EndTrailers other = tt

pub plain_all : (c : Coding) (size : ℕ) (b : Block) → (c ≡ Chunks → ⊥) → IsAll c size b
plain_all Silent size b other = tt
plain_all Plain size b other = tt
plain_all Chunks size b other = absurd (other refl)

-- data at the front
pub front_is : (bs : List Block) → 0 < length bs → kind_of (block_at bs 0) ≡ kinds.Data → bs ≡ Data (value_of (block_at bs 0)) ∷ drop 1 bs
front_is [] any e = absurd (omega arith)
front_is (b ∷ bs) any e = ap (λ (x : Block). x ∷ bs) (data_is b e)

pub cut_first : (bs cs : List Block) (p : List ℕ) (size : ℕ) → bs ≡ Data p ∷ cs → size < length p → cut_front bs 0 size ≡ Data (drop size p) ∷ cs
cut_first bs cs p size e less =
    ap (λ (ls : List Block). cut_front ls 0 size) e ∙ ap (λ (t : Bool). (if t then Data (drop size p) ∷ [] else []) ++ cs) (lt-ltb size (length p) less)

-- ---- the end

ends : (framing : Framing) (no_body : Bool) (taken : List Block) (c : Coding) (at : Place) (pos to : ℕ) (front text : List ℕ)
    → c ≡ coding_of framing no_body → SpellsBlocks c Open taken front at → text ≡ front ++ take pos (end_text c at) → pos ≤ to → to ≤ length (end_text c at)
    → Goes framing no_body taken [] (text ++ drop pos (take to (end_text c at))) (writer c at (stage.End to)) []
ends framing no_body taken c at pos to front text coding spells e le within =
    let t = text ++ drop pos (take to (end_text c at)) in
    let P : List Block → Type 0 = λ ts. HasWritten framing no_body ts [] t (writer c at (stage.End to)) in (
      [],
      refl,
      subst P (sym (append-nil taken)) (record {
        front = front;
        coding = coding;
        spells = spells;
        begins = (refl, within, text_on front text (end_text c at) pos to e le);
      }),
    )

ended : (framing : Framing) (no_body : Bool) (taken : List Block) (c : Coding) (at : Place) (pos to : ℕ) (front text : List ℕ)
    → c ≡ coding_of framing no_body → SpellsBlocks c Open taken front at → text ≡ front ++ take pos (end_text c at) → pos ≤ to → length (end_text c at) ≤ to
    → Goes framing no_body taken [] (text ++ drop pos (take to (end_text c at))) (writer c at stage.Done) []
ended framing no_body taken c at pos to front text coding spells e le end =
    let u = end_text c at in
    let t = text ++ drop pos (take to u) in
    let P : List Block → Type 0 = λ ts. HasWritten framing no_body ts [] t (writer c at stage.Done) in (
      [],
      refl,
      subst P (sym (append-nil taken)) (record {
        front = front;
        coding = coding;
        spells = spells;
        begins = (refl, text_on front text u pos to e le ∙ ap (λ (l : List ℕ). front ++ l) (take_all to u end));
      }),
    )

abbrev EndBegun : Coding → Place → ℕ → (front text : List ℕ) → Type 0
EndBegun c at pos front text = (text ≡ front ++ take pos (end_text c at)) × (pos ≤ length (end_text c at))

end_begun : (c : Coding) (at : Place) (s : Stage) (pos : ℕ) (front text : List ℕ) → EndAt s pos → Begins c at s [] front text → EndBegun c at pos front text
end_begun c at (stage.Block zero s) pos front text e h = subst (λ (n : ℕ). EndBegun c at n front text) (sym e) (h ∙ sym (append-nil front), omega arith)
end_begun c at (stage.Block (suc p) s) pos front text e h = absurd h
end_begun c at (stage.End p) pos front text e h = subst (λ (n : ℕ). EndBegun c at n front text) (sym e) (h.2, h.1)
end_begun c at stage.Done pos front text e h = absurd e

none_left : (old : Writer) (left : List Block) (front text : List ℕ) → Begins old.coding old.place old.stage left front text → (ended_at old.stage ≡ false → left ≡ []) → left ≡ []
none_left old left front text begins none = none_by old.coding old.place old.stage begins none
  where
    none_by : (c : Coding) (at : Place) (s : Stage) → Begins c at s left front text → (ended_at s ≡ false → left ≡ []) → left ≡ []
    none_by c at (stage.Block pos size) h none = none refl
    none_by c at (stage.End pos) h none = h.0
    none_by c at stage.Done h none = h.0

pub end_cut : (old : Writer) (pos : ℕ) (put : Put) (w w' : Buffer ℕ) (left : List Block) → EndAt old.stage pos → (ended_at old.stage ≡ false → left ≡ []) → IsPut (end_text old.coding old.place) pos w w' put → put.whole ≡ false
    → Writes old left w.items (writer old.coding old.place (stage.End put.pos)) left w'.items
end_cut old pos put w w' left at none p e = record {
  more = drop pos (take put.pos (end_text old.coding old.place));
  items = p.items;
  leads = λ framing no_body taken text h.
      let empty = none_left old left h.front text h.begins none in
      let b = end_begun old.coding old.place old.stage pos h.front text at (subst (λ (ls : List Block). Begins old.coding old.place old.stage ls h.front text) empty h.begins) in
      let P : List Block → Type 0 = λ ls. Goes framing no_body taken ls (text ++ drop pos (take put.pos (end_text old.coding old.place))) (writer old.coding old.place (stage.End put.pos)) ls in
      subst P (sym empty) (ends framing no_body taken old.coding old.place pos put.pos h.front text h.coding h.spells b.0 p.from (p.to b.1));
}

pub end_whole : (old : Writer) (pos : ℕ) (put : Put) (w w' : Buffer ℕ) (left : List Block) → EndAt old.stage pos → (ended_at old.stage ≡ false → left ≡ []) → IsPut (end_text old.coding old.place) pos w w' put → put.whole ≡ true
    → Writes old left w.items (writer old.coding old.place stage.Done) left w'.items
end_whole old pos put w w' left at none p e = record {
  more = drop pos (take put.pos (end_text old.coding old.place));
  items = p.items;
  leads = λ framing no_body taken text h.
      let empty = none_left old left h.front text h.begins none in
      let b = end_begun old.coding old.place old.stage pos h.front text at (subst (λ (ls : List Block). Begins old.coding old.place old.stage ls h.front text) empty h.begins) in
      let P : List Block → Type 0 = λ ls. Goes framing no_body taken ls (text ++ drop pos (take put.pos (end_text old.coding old.place))) (writer old.coding old.place stage.Done) ls in
      subst P (sym empty) (ended framing no_body taken old.coding old.place pos put.pos h.front text h.coding h.spells b.0 p.from (p.whole e));
}

-- where all blocks are written, none is left
pub all_left : (old new : List Block) (count : ℕ) → count ≡ length old → new ≡ [] → new ≡ drop count old
all_left old new count all none = none ∙ sym (drop_all count old (omega arith))

pub ruleset leaves = (all_left)
