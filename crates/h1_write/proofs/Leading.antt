-- How the text of a writer goes on.
use Rattle.std.proofs.Common.{◌≡◌, ◌≢◌, ℕ, zero, suc, ◌<◌, ◌≤◌, List, [], ◌∷◌, ◌++◌, Bool, true, false, length, take, drop, refl, ap, sym, ◌∙◌, subst, arith, append_assoc}
use Rattle.std.proofs.lemmas.List.{append-nil, take-take, take-append-drop, take_all, length-take-le}
use Rattle.std.proofs.lemmas.List.Elements.{All-cons, All-nil}
use Rattle.htx_model.specs.Block.{Block, RequestLine, ResponseLine, Header, EndHeaders, Data, Trailer, EndTrailers, kind_of}
use Rattle.htx_model.specs.Blocks.{flow}
use Rattle.htx_model.proofs.PublicLaws.{flow-parted, flow-append}
use Rattle.http_model.specs.declared.Framing.{Framing}
use Rattle.http_model.specs.Spelling.{SpellsChunks, chunk_line, chunk_text, line_end}
use Rattle.h1_write.specs.declared.units.Coding.{Coding}
use Rattle.h1_write.specs.declared.units.Coding.TheVariants.{Silent, Plain, Chunks}
use Rattle.h1_write.specs.declared.units.Place.{Place}
use Rattle.h1_write.specs.declared.units.Place.TheVariants.{Open}
use Rattle.h1_write.specs.declared.writer.Stage.{Stage}
use Rattle.h1_write.specs.declared.writer.Stage.TheVariants as stage
use Rattle.h1_write.specs.declared.writer.Writer.{Writer}
use Rattle.h1_write.specs.Units.{coding_of, behind, unit_text, data_text, IsPart}
use Rattle.h1_write.specs.Spelled.{SpellsData, SpellsBlock, SpellsBlocks, BeginsBlock, HasWritten, Writes}

-- ---- truth

IsT : Bool → Type 0
IsT true = Unit {0}
IsT false = ⊥

pub not_true : false ≡ true → ⊥
unfolding IsT
not_true e = subst IsT (sym e) tt

-- ---- steps join

pub writes_on : (u v w : Writer) (ls bs cs : List Block) (x y z : List ℕ) → Writes u ls x v bs y → Writes v bs y w cs z → Writes u ls x w cs z
writes_on u v w ls bs cs x y z f g = record {
  more = f.more ++ g.more;
  items = g.items ∙ ap (λ (l : List ℕ). l ++ g.more) f.items ∙ append_assoc x f.more g.more;
  leads = λ framing no_body taken text h.
      let first = f.leads framing no_body taken text h in
      let next = g.leads framing no_body (taken ++ first.0) (text ++ f.more) first.2 in
      let P : List Block → Type 0 = λ ts. HasWritten framing no_body ts cs (text ++ (f.more ++ g.more)) w in
      let Q : List ℕ → Type 0 = λ t. HasWritten framing no_body ((taken ++ first.0) ++ next.0) cs t w in (
        first.0 ++ next.0,
        ap flow (append_assoc first.0 next.0 cs) ∙ flow-append first.0 (next.0 ++ cs) bs next.1 ∙ first.1,
        subst P (append_assoc taken first.0 next.0) (subst Q (append_assoc text f.more g.more) next.2),
      );
}

-- ---- what is begun

pub begun_text : (c : Coding) (at : Place) (pos size : ℕ) (b : Block) (bs : List Block) (front text : List ℕ) → BeginsBlock c at pos size (b ∷ bs) front text → text ≡ front ++ take pos (unit_text c at size b)
begun_text c at zero size b bs front text h = h ∙ sym (append-nil front)
begun_text c at (suc pos) size b bs front text h = h.2

pub begun_within : (c : Coding) (at : Place) (pos size : ℕ) (b : Block) (bs : List Block) (front text : List ℕ) → BeginsBlock c at pos size (b ∷ bs) front text → pos ≤ length (unit_text c at size b)
begun_within c at zero size b bs front text h = omega arith
begun_within c at (suc pos) size b bs front text h = h.1

pub begun_part : (c : Coding) (at : Place) (pos size : ℕ) (b : Block) (bs : List Block) (front text : List ℕ) → BeginsBlock c at pos size (b ∷ bs) front text → 0 < pos → IsPart size b
begun_part c at zero size b bs front text h some = absurd (omega arith)
begun_part c at (suc pos) size b bs front text h some = h.0

to_begun : (c : Coding) (at : Place) (pos size : ℕ) (b : Block) (bs : List Block) (front text : List ℕ) → IsPart size b → pos ≤ length (unit_text c at size b) → text ≡ front ++ take pos (unit_text c at size b)
    → BeginsBlock c at pos size (b ∷ bs) front text
to_begun c at zero size b bs front text part within e = e ∙ append-nil front
to_begun c at (suc pos) size b bs front text part within e = (part, within, e)

pub text_on : (front text u : List ℕ) (pos to : ℕ) → text ≡ front ++ take pos u → pos ≤ to → text ++ drop pos (take to u) ≡ front ++ take to u
text_on front text u pos to e le =
    let rest = drop pos (take to u) in
    ap (λ (l : List ℕ). l ++ rest) e ∙ append_assoc front (take pos u) rest
    ∙ ap (λ (l : List ℕ). front ++ l) (ap (λ (l : List ℕ). l ++ rest) (sym (take-take pos to u le)) ∙ take-append-drop pos (take to u))

-- ---- the text of blocks

pub spells-push : (c : Coding) (at to : Place) (bs : List Block) (front : List ℕ) (b : Block) (u : List ℕ) → SpellsBlocks c at bs front to → SpellsBlock c to b u → SpellsBlocks c at (bs ++ b ∷ []) (front ++ u) (behind to (kind_of b))
spells-push c at to [] front b u h s =
    let P : Place → Type 0 = λ p. SpellsBlock c p b u in (
      u,
      [],
      ap (λ (l : List ℕ). l ++ u) h.0 ∙ sym (append-nil u),
      subst P (sym h.1) s,
      (refl, ap (λ (p : Place). behind p (kind_of b)) h.1),
    )
spells-push c at to (x ∷ bs) front b u h s =
    (h.0, h.1 ++ u, ap (λ (l : List ℕ). l ++ u) h.2 ∙ append_assoc h.0 h.1 u, h.3, spells-push c (behind at (kind_of x)) to bs h.1 b u h.4 s)

pub chunk_spelled : (size : ℕ) (p : List ℕ) → 0 < size → size ≤ length p → SpellsChunks (take size p) (data_text Chunks size p)
chunk_spelled size p some part =
    let x = take size p in
    let n : length x ≡ size = length-take-le size p part in
    record {
      chunks = x ∷ [];
      nonempty = All-cons (λ (chunk : List ℕ). chunk ≢ []) x [] (λ e. let none : length x ≡ 0 = ap length e in omega arith) (All-nil (λ (chunk : List ℕ). chunk ≢ []));
      joined = append-nil x;
      spelled = ap (λ (m : ℕ). chunk_line m ++ x ++ line_end) (sym n) ∙ sym (append-nil (chunk_text x));
    }

-- data in chunks is written to its end
abbrev pub IsAll : Coding → ℕ → Block → Type 0
IsAll Chunks size (Data p) = size ≡ length p
IsAll c size b = Unit {0}

data_spelled : (c : Coding) (size : ℕ) (p : List ℕ) → 0 < size → IsAll c size (Data p) → SpellsData c p (data_text c size p)
data_spelled Silent size p some all = refl
data_spelled Plain size p some all = refl
data_spelled Chunks size p some all =
    let P : List ℕ → Type 0 = λ q. SpellsChunks q (data_text Chunks size p) in
    subst P (take_all size p (omega arith)) (chunk_spelled size p some (omega arith))

pub block_spelled : (c : Coding) (at : Place) (size : ℕ) (b : Block) → IsPart size b → IsAll c size b → SpellsBlock c at b (unit_text c at size b)
block_spelled c at size (Data p) part all = data_spelled c size p part.0 all
block_spelled c at size (RequestLine x y z) part all = refl
block_spelled c at size (ResponseLine x y z) part all = refl
block_spelled c at size (Header n v) part all = refl
block_spelled c at size EndHeaders part all = refl
block_spelled c at size (Trailer n v) part all = refl
block_spelled c at size EndTrailers part all = refl

-- ---- one block

abbrev pub writer : Coding → Place → Stage → Writer
writer c at s = record { coding = c; place = at; stage = s }

-- what a step makes of what was written before
abbrev pub Goes : Framing → Bool → List Block → List Block → List ℕ → Writer → List Block → Type 0
Goes framing no_body taken left text new left' = (gone : List Block) × (flow (gone ++ left') ≡ flow left) × HasWritten framing no_body (taken ++ gone) left' text new

-- a block is written further, and not to its end
pub cut : (framing : Framing) (no_body : Bool) (taken : List Block) (c : Coding) (at : Place) (pos to size : ℕ) (b : Block) (bs : List Block) (front text : List ℕ)
    → c ≡ coding_of framing no_body → SpellsBlocks c Open taken front at → IsPart size b → text ≡ front ++ take pos (unit_text c at size b) → pos ≤ to → to ≤ length (unit_text c at size b)
    → Goes framing no_body taken (b ∷ bs) (text ++ drop pos (take to (unit_text c at size b))) (writer c at (stage.Block to size)) (b ∷ bs)
cut framing no_body taken c at pos to size b bs front text coding spells part e le within =
    let u = unit_text c at size b in
    let t = text ++ drop pos (take to u) in
    let P : List Block → Type 0 = λ ts. HasWritten framing no_body ts (b ∷ bs) t (writer c at (stage.Block to size)) in (
      [],
      refl,
      subst P (sym (append-nil taken)) (record {
        front = front;
        coding = coding;
        spells = spells;
        begins = to_begun c at to size b bs front t part within (text_on front text u pos to e le);
      }),
    )

-- a block is written to its end
pub whole : (framing : Framing) (no_body : Bool) (taken : List Block) (c : Coding) (at : Place) (pos to size next : ℕ) (b : Block) (bs : List Block) (front text : List ℕ)
    → c ≡ coding_of framing no_body → SpellsBlocks c Open taken front at → IsPart size b → IsAll c size b → text ≡ front ++ take pos (unit_text c at size b) → pos ≤ to → length (unit_text c at size b) ≤ to
    → Goes framing no_body taken (b ∷ bs) (text ++ drop pos (take to (unit_text c at size b))) (writer c (behind at (kind_of b)) (stage.Block 0 next)) bs
whole framing no_body taken c at pos to size next b bs front text coding spells part all e le end =
    let u = unit_text c at size b in (
      b ∷ [],
      refl,
      record {
        front = front ++ u;
        coding = coding;
        spells = spells-push c Open at taken front b u spells (block_spelled c at size b part all);
        begins = text_on front text u pos to e le ∙ ap (λ (l : List ℕ). front ++ l) (take_all to u end);
      },
    )

-- a chunk is written to its end, and more data stands behind it
pub parted : (framing : Framing) (no_body : Bool) (taken : List Block) (at : Place) (pos to size next : ℕ) (p : List ℕ) (bs : List Block) (front text : List ℕ)
    → Chunks ≡ coding_of framing no_body → SpellsBlocks Chunks Open taken front at → 0 < size → size ≤ length p → text ≡ front ++ take pos (data_text Chunks size p) → pos ≤ to → length (data_text Chunks size p) ≤ to
    → Goes framing no_body taken (Data p ∷ bs) (text ++ drop pos (take to (data_text Chunks size p))) (writer Chunks at (stage.Block 0 next)) (Data (drop size p) ∷ bs)
parted framing no_body taken at pos to size next p bs front text coding spells some part e le end =
    let u = data_text Chunks size p in (
      Data (take size p) ∷ [],
      flow-parted size p bs,
      record {
        front = front ++ u;
        coding = coding;
        spells = spells-push Chunks Open at taken front (Data (take size p)) u spells (chunk_spelled size p some part);
        begins = text_on front text u pos to e le ∙ ap (λ (l : List ℕ). front ++ l) (take_all to u end);
      },
    )
