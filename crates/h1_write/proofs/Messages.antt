-- What the text of the blocks of a message spells.
use Rattle.std.proofs.Common.{◌≡◌, ◌≢◌, ℕ, List, [], ◌∷◌, ◌++◌, Bool, true, false, length, map, refl, ap, sym, ◌∙◌, subst, arith, append_assoc}
use Rattle.std.proofs.lemmas.List.{append-nil}
use Rattle.std.proofs.lemmas.List.Elements.{All-cons, All-nil, All-append}
use Rattle.std.proofs.lemmas.Grind.{flat_map-append}
use Rattle.htx_model.specs.Block.{Block, RequestLine, ResponseLine, Header, EndHeaders, Data, Trailer, EndTrailers, kind_of}
use Rattle.htx_model.specs.Blocks.{flow, joined, append_data}
use Rattle.http_model.specs.declared.Framing.{Framing}
use Rattle.http_model.specs.declared.Framing.TheVariants as framing
use Rattle.http_model.specs.Head as head
use Rattle.http_model.specs.Head.{Field, StartLine, Head, Message, line_block, header_block, head_blocks, trailer_block, ended_trailers, front_blocks, message_blocks}
use Rattle.http_model.specs.Spelling.{line_end, line_text, field_text, fields_text, head_text, chunk_line, chunk_text, chunks_end, SpellsChunks, SpellsBody, SpellsBodyUnless, Spells}
use Rattle.h1_write.specs.declared.units.Coding.{Coding}
use Rattle.h1_write.specs.declared.units.Coding.TheVariants.{Silent, Plain, Chunks}
use Rattle.h1_write.specs.declared.units.Place.{Place}
use Rattle.h1_write.specs.declared.units.Place.TheVariants.{Open, Last, Over}
use Rattle.h1_write.specs.Units.{coding_of, behind, end_text}
use Rattle.h1_write.specs.Spelled.{SpellsData, SpellsBlock, SpellsBlocks}

-- ---- data in one is spelled as its parts are

chunks-append : (p q x y : List ℕ) → SpellsChunks p x → SpellsChunks q y → SpellsChunks (p ++ q) (x ++ y)
chunks-append p q x y a b = record {
  chunks = a.chunks ++ b.chunks;
  nonempty = All-append (λ (chunk : List ℕ). chunk ≢ []) a.chunks b.chunks a.nonempty b.nonempty;
  joined = flat_map-append (λ (chunk : List ℕ). chunk) a.chunks b.chunks ∙ (λ i. a.joined i ++ b.joined i);
  spelled = (λ i. a.spelled i ++ b.spelled i) ∙ sym (flat_map-append chunk_text a.chunks b.chunks);
}

pub no_chunks : SpellsChunks [] []
no_chunks = record { chunks = []; nonempty = All-nil (λ (chunk : List ℕ). chunk ≢ []); joined = refl; spelled = refl }

data-append : (c : Coding) (p q x y : List ℕ) → SpellsData c p x → SpellsData c q y → SpellsData c (p ++ q) (x ++ y)
data-append Silent p q x y a b = λ i. a i ++ b i
data-append Plain p q x y a b = λ i. a i ++ b i
data-append Chunks p q x y a b = chunks-append p q x y a b

-- a text is another
as_text : (c : Coding) (at to : Place) (bs : List Block) (x y : List ℕ) → x ≡ y → SpellsBlocks c at bs x to → SpellsBlocks c at bs y to
as_text c at to bs x y e h = subst (λ (t : List ℕ). SpellsBlocks c at bs t to) e h

spells-joined_data : (c : Coding) (at to : Place) (p : List ℕ) (fs : List Block) (x y : List ℕ) → SpellsData c p x → SpellsBlocks c at fs y to → SpellsBlocks c at (joined (Data p) fs) (x ++ y) to
spells-joined_data c at to p [] x y s h = (x, y, refl, s, h)
spells-joined_data c at to p (Data q ∷ fs) x y s h =
    (x ++ h.0, h.1, ap (λ (l : List ℕ). x ++ l) h.2 ∙ sym (append_assoc x h.0 h.1), data-append c p q x h.0 s h.3, h.4)
spells-joined_data c at to p (RequestLine a b d ∷ fs) x y s h = (x, y, refl, s, h)
spells-joined_data c at to p (ResponseLine a b d ∷ fs) x y s h = (x, y, refl, s, h)
spells-joined_data c at to p (Header n v ∷ fs) x y s h = (x, y, refl, s, h)
spells-joined_data c at to p (EndHeaders ∷ fs) x y s h = (x, y, refl, s, h)
spells-joined_data c at to p (Trailer n v ∷ fs) x y s h = (x, y, refl, s, h)
spells-joined_data c at to p (EndTrailers ∷ fs) x y s h = (x, y, refl, s, h)

spells-joined : (c : Coding) (at to : Place) (b : Block) (fs : List Block) (x y : List ℕ) → SpellsBlock c at b x → SpellsBlocks c (behind at (kind_of b)) fs y to → SpellsBlocks c at (joined b fs) (x ++ y) to
spells-joined c at to (Data p) fs x y s h = spells-joined_data c at to p fs x y s h
spells-joined c at to (RequestLine a b d) fs x y s h = (x, y, refl, s, h)
spells-joined c at to (ResponseLine a b d) fs x y s h = (x, y, refl, s, h)
spells-joined c at to (Header n v) fs x y s h = (x, y, refl, s, h)
spells-joined c at to EndHeaders fs x y s h = (x, y, refl, s, h)
spells-joined c at to (Trailer n v) fs x y s h = (x, y, refl, s, h)
spells-joined c at to EndTrailers fs x y s h = (x, y, refl, s, h)

pub spells-flow : (c : Coding) (at to : Place) (bs : List Block) (text : List ℕ) → SpellsBlocks c at bs text to → SpellsBlocks c at (flow bs) text to
spells-flow c at to [] text h = h
spells-flow c at to (b ∷ bs) text h =
    as_text c at to (joined b (flow bs)) (h.0 ++ h.1) text (sym h.2) (spells-joined c at to b (flow bs) h.0 h.1 h.3 (spells-flow c (behind at (kind_of b)) to bs h.1 h.4))

-- ---- parts of a list

pub record Parts (c : Coding) (at to : Place) (xs ys : List Block) (text : List ℕ) : Type 0 where
  pub mid : Place
  pub first : List ℕ
  pub second : List ℕ
  pub text_is : text ≡ first ++ second
  pub first_spells : SpellsBlocks c at xs first mid
  pub second_spells : SpellsBlocks c mid ys second to

pub spells-parts : (c : Coding) (at to : Place) (xs ys : List Block) (text : List ℕ) → SpellsBlocks c at (xs ++ ys) text to → Parts c at to xs ys text
spells-parts c at to [] ys text h = record { mid = at; first = []; second = text; text_is = refl; first_spells = (refl, refl); second_spells = h }
spells-parts c at to (x ∷ xs) ys text h =
    let p = spells-parts c (behind at (kind_of x)) to xs ys h.1 h.4 in
    record {
      mid = p.mid;
      first = h.0 ++ p.first;
      second = p.second;
      text_is = h.2 ∙ ap (λ (l : List ℕ). h.0 ++ l) p.text_is ∙ sym (append_assoc h.0 p.first p.second);
      first_spells = (h.0, p.first, refl, h.3, p.first_spells);
      second_spells = p.second_spells;
    }

pub spells-append : (c : Coding) (at mid to : Place) (xs ys : List Block) (x y : List ℕ) → SpellsBlocks c at xs x mid → SpellsBlocks c mid ys y to → SpellsBlocks c at (xs ++ ys) (x ++ y) to
spells-append c at mid to [] ys x y a b =
    as_text c at to ys y (x ++ y) (ap (λ (l : List ℕ). l ++ y) (sym a.0)) (subst (λ (p : Place). SpellsBlocks c p ys y to) (sym a.1) b)
spells-append c at mid to (z ∷ xs) ys x y a b =
    (a.0, a.1 ++ y, ap (λ (l : List ℕ). l ++ y) a.2 ∙ append_assoc a.0 a.1 y, a.3, spells-append c (behind at (kind_of z)) mid to xs ys a.1 y a.4 b)

-- ---- the head

fields_spelled : (c : Coding) (at to : Place) (fields : List Field) (text : List ℕ) → SpellsBlocks c at (map header_block fields ++ EndHeaders ∷ []) text to → (text ≡ fields_text fields ++ line_end) × (at ≡ to)
fields_spelled c at to [] text h = (h.2 ∙ (λ i. h.3 i ++ h.4.0 i), h.4.1)
fields_spelled c at to (f ∷ fields) text h =
    let rest = fields_spelled c at to fields h.1 h.4 in
    (h.2 ∙ (λ i. h.3 i ++ rest.0 i) ∙ sym (append_assoc (field_text f) (fields_text fields) line_end), rest.1)

line_spelled : (c : Coding) (at to : Place) (line : StartLine) (bs : List Block) (text : List ℕ) → SpellsBlocks c at (line_block line ∷ bs) text to → (rest : List ℕ) × (text ≡ line_text line ++ rest) × SpellsBlocks c at bs rest to
line_spelled c at to (head.RequestLine m t v) bs text h = (h.1, h.2 ∙ ap (λ (l : List ℕ). l ++ h.1) h.3, h.4)
line_spelled c at to (head.StatusLine v s r) bs text h = (h.1, h.2 ∙ ap (λ (l : List ℕ). l ++ h.1) h.3, h.4)

pub head_spelled : (c : Coding) (at to : Place) (h : Head) (text : List ℕ) → SpellsBlocks c at (head_blocks h) text to → (text ≡ head_text h) × (at ≡ to)
head_spelled c at to h text s =
    let line = line_spelled c at to h.line (map header_block h.fields ++ EndHeaders ∷ []) text s in
    let fields = fields_spelled c at to h.fields line.0 line.2 in
    (line.1 ∙ ap (λ (l : List ℕ). line_text h.line ++ l) fields.0 ∙ sym (append_assoc (line_text h.line) (fields_text h.fields) line_end), fields.1)

-- ---- the body

no_data : (c : Coding) (text : List ℕ) → text ≡ [] → SpellsData c [] text
no_data Silent text e = e
no_data Plain text e = e
no_data Chunks text e = subst (λ (t : List ℕ). SpellsChunks [] t) (sym e) no_chunks

pub data_spelled : (c : Coding) (at to : Place) (body text : List ℕ) → SpellsBlocks c at (append_data [] body) text to → SpellsData c body text × (at ≡ to)
data_spelled c at to [] text h = (no_data c text h.0, h.1)
data_spelled c at to (x ∷ p) text h =
    (subst (λ (t : List ℕ). SpellsData c (x ∷ p) t) (sym (h.2 ∙ ap (λ (l : List ℕ). h.0 ++ l) h.4.0 ∙ append-nil h.0)) h.3, h.4.1)

pub front_spelled : (c : Coding) (at to : Place) (h : Head) (body text : List ℕ) → SpellsBlocks c at (front_blocks h body) text to → (rest : List ℕ) × (text ≡ head_text h ++ rest) × SpellsData c body rest × (at ≡ to)
front_spelled c at to h body text s =
    let p = spells-parts c at to (head_blocks h) (append_data [] body) text s in
    let a = head_spelled c at p.mid h p.first p.first_spells in
    let b = data_spelled c p.mid to body p.second p.second_spells in
    (p.second, p.text_is ∙ ap (λ (l : List ℕ). l ++ p.second) a.0, b.0, a.1 ∙ b.1)

-- ---- the trailers

last_trailers : (to : Place) (ts : List Field) (text : List ℕ) → SpellsBlocks Chunks Last (map trailer_block ts ++ EndTrailers ∷ []) text to → (text ≡ fields_text ts ++ line_end) × (Over ≡ to)
last_trailers to [] text h = (h.2 ∙ (λ i. h.3 i ++ h.4.0 i), h.4.1)
last_trailers to (t ∷ ts) text h =
    let rest = last_trailers to ts h.1 h.4 in
    (h.2 ∙ (λ i. h.3 i ++ rest.0 i) ∙ sym (append_assoc (field_text t) (fields_text ts) line_end), rest.1)

pub trailers_spelled : (to : Place) (ts : List Field) (text : List ℕ) → SpellsBlocks Chunks Open (ended_trailers (map trailer_block ts)) text to → text ++ end_text Chunks to ≡ chunks_end ts
trailers_spelled to [] text h =
    (λ i. h.0 i ++ end_text Chunks (sym h.1 i)) ∙ ap (λ (l : List ℕ). l ++ line_end) (sym (append-nil (chunk_line 0)))
trailers_spelled to (t ∷ ts) text h =
    let rest = last_trailers to ts h.1 h.4 in
    let all : text ≡ (chunk_line 0 ++ field_text t) ++ (fields_text ts ++ line_end) = h.2 ∙ (λ i. h.3 i ++ rest.0 i) in
    (λ i. all i ++ end_text Chunks (sym rest.1 i)) ∙ append-nil ((chunk_line 0 ++ field_text t) ++ (fields_text ts ++ line_end))
    ∙ append_assoc (chunk_line 0) (field_text t) (fields_text ts ++ line_end)
    ∙ ap (λ (l : List ℕ). chunk_line 0 ++ l) (sym (append_assoc (field_text t) (fields_text ts) line_end))
    ∙ sym (append_assoc (chunk_line 0) (field_text t ++ fields_text ts) line_end)

trailers_silent_by : (at to : Place) (ts : List Field) (text : List ℕ) → SpellsBlocks Silent at (map trailer_block ts ++ EndTrailers ∷ []) text to → text ≡ []
trailers_silent_by at to [] text h = h.2 ∙ (λ i. h.3 i ++ h.4.0 i)
trailers_silent_by at to (t ∷ ts) text h = h.2 ∙ (λ i. h.3 i ++ trailers_silent_by (behind at (kind_of (trailer_block t))) to ts h.1 h.4 i)

trailers_plain_by : (at to : Place) (ts : List Field) (text : List ℕ) → SpellsBlocks Plain at (map trailer_block ts ++ EndTrailers ∷ []) text to → text ≡ []
trailers_plain_by at to [] text h = h.2 ∙ (λ i. h.3 i ++ h.4.0 i)
trailers_plain_by at to (t ∷ ts) text h = h.2 ∙ (λ i. h.3 i ++ trailers_plain_by (behind at (kind_of (trailer_block t))) to ts h.1 h.4 i)

trailers_silent : (at to : Place) (ts : List Field) (text : List ℕ) → SpellsBlocks Silent at (ended_trailers (map trailer_block ts)) text to → text ≡ []
trailers_silent at to [] text h = h.0
trailers_silent at to (t ∷ ts) text h = trailers_silent_by at to (t ∷ ts) text h

trailers_plain : (at to : Place) (ts : List Field) (text : List ℕ) → SpellsBlocks Plain at (ended_trailers (map trailer_block ts)) text to → text ≡ []
trailers_plain at to [] text h = h.0
trailers_plain at to (t ∷ ts) text h = trailers_plain_by at to (t ∷ ts) text h

-- ---- the message

body_spelled : (fr : Framing) (no_body : Bool) (to : Place) (m : Message) (body tail : List ℕ) → m.framing ≡ fr → SpellsData (coding_of fr no_body) m.body body
    → SpellsBlocks (coding_of fr no_body) Open (ended_trailers (map trailer_block m.trailers)) tail to → SpellsBodyUnless no_body true m (body ++ (tail ++ end_text (coding_of fr no_body) to))
body_spelled fr true to m body tail e b t = (λ i. b i ++ (trailers_silent Open to m.trailers tail t i ++ []))
body_spelled framing.Absent false to m body tail e b t =
    subst (λ (f : Framing). SpellsBody true f m.body m.trailers (body ++ (tail ++ []))) (sym e) (λ i. b i ++ (trailers_silent Open to m.trailers tail t i ++ []))
body_spelled (framing.Length n) false to m body tail e b t =
    subst (λ (f : Framing). SpellsBody true f m.body m.trailers (body ++ (tail ++ []))) (sym e) ((λ i. b i ++ (trailers_plain Open to m.trailers tail t i ++ [])) ∙ append-nil m.body)
body_spelled framing.ToClose false to m body tail e b t =
    subst (λ (f : Framing). SpellsBody true f m.body m.trailers (body ++ (tail ++ []))) (sym e) ((λ i. b i ++ (trailers_plain Open to m.trailers tail t i ++ [])) ∙ append-nil m.body)
body_spelled framing.Chunked false to m body tail e b t =
    subst (λ (f : Framing). SpellsBody true f m.body m.trailers (body ++ (tail ++ end_text Chunks to))) (sym e) (body, b, ap (λ (l : List ℕ). body ++ l) (trailers_spelled to m.trailers tail t))

-- the blocks of a message and the end behind them spell it
pub message_spelled : (fr : Framing) (no_body : Bool) (to : Place) (m : Message) (bs : List Block) (front : List ℕ) → m.framing ≡ fr → SpellsBlocks (coding_of fr no_body) Open bs front to → flow bs ≡ message_blocks m
    → Spells true no_body m (front ++ end_text (coding_of fr no_body) to)
message_spelled fr no_body to m bs front e s is =
    let c = coding_of fr no_body in
    let flowed = subst (λ (ls : List Block). SpellsBlocks c Open ls front to) is (spells-flow c Open to bs front s) in
    let p = spells-parts c Open to (front_blocks m.head m.body) (ended_trailers (map trailer_block m.trailers)) front flowed in
    let a = front_spelled c Open p.mid m.head m.body p.first p.first_spells in
    let tail = subst (λ (q : Place). SpellsBlocks c q (ended_trailers (map trailer_block m.trailers)) p.second to) (sym a.3) p.second_spells in
    let end = end_text c to in
    record {
      body = a.0 ++ (p.second ++ end);
      spelled = ap (λ (l : List ℕ). l ++ end) (p.text_is ∙ ap (λ (l : List ℕ). l ++ p.second) a.1) ∙ append_assoc (head_text m.head ++ a.0) p.second end ∙ append_assoc (head_text m.head) a.0 (p.second ++ end);
      spells_body = body_spelled fr no_body to m a.0 p.second e a.2 tail;
    }

cut_body : (fr : Framing) (no_body : Bool) (m : Message) (body : List ℕ) → m.framing ≡ fr → SpellsData (coding_of fr no_body) m.body body → SpellsBodyUnless no_body false m body
cut_body fr true m body e b = b
cut_body framing.Absent false m body e b = subst (λ (f : Framing). SpellsBody false f m.body m.trailers body) (sym e) b
cut_body (framing.Length n) false m body e b = subst (λ (f : Framing). SpellsBody false f m.body m.trailers body) (sym e) b
cut_body framing.ToClose false m body e b = subst (λ (f : Framing). SpellsBody false f m.body m.trailers body) (sym e) b
cut_body framing.Chunked false m body e b = subst (λ (f : Framing). SpellsBody false f m.body m.trailers body) (sym e) b

-- the blocks of a head and of the data that came spell the message that is cut there
pub cut_spelled : (fr : Framing) (no_body : Bool) (to : Place) (m : Message) (bs : List Block) (front : List ℕ) → m.framing ≡ fr → SpellsBlocks (coding_of fr no_body) Open bs front to → flow bs ≡ front_blocks m.head m.body
    → Spells false no_body m front
cut_spelled fr no_body to m bs front e s is =
    let c = coding_of fr no_body in
    let flowed = subst (λ (ls : List Block). SpellsBlocks c Open ls front to) is (spells-flow c Open to bs front s) in
    let a = front_spelled c Open to m.head m.body front flowed in
    record { body = a.0; spelled = a.1; spells_body = cut_body fr no_body m a.0 e a.2 }

-- ---- there is always a spelling

some_data : (c : Coding) (p : List ℕ) → (text : List ℕ) × SpellsData c p text
some_data Silent p = ([], refl)
some_data Plain p = (p, refl)
some_data Chunks [] = ([], no_chunks)
some_data Chunks (x ∷ p) = (
  chunk_text (x ∷ p),
  record {
    chunks = (x ∷ p) ∷ [];
    nonempty = All-cons (λ (chunk : List ℕ). chunk ≢ []) (x ∷ p) [] (λ e. let none : length (x ∷ p) ≡ 0 = ap length e in omega arith) (All-nil (λ (chunk : List ℕ). chunk ≢ []));
    joined = append-nil (x ∷ p);
    spelled = sym (append-nil (chunk_text (x ∷ p)));
  },
)

some_block : (c : Coding) (at : Place) (b : Block) → (text : List ℕ) × SpellsBlock c at b text
some_block c at (Data p) = some_data c p
some_block c at (RequestLine x y z) = (_, refl)
some_block c at (ResponseLine x y z) = (_, refl)
some_block c at (Header n v) = (_, refl)
some_block c at EndHeaders = (_, refl)
some_block c at (Trailer n v) = (_, refl)
some_block c at EndTrailers = (_, refl)

pub some_blocks : (c : Coding) (at : Place) (bs : List Block) → (text : List ℕ) × (to : Place) × SpellsBlocks c at bs text to
some_blocks c at [] = ([], at, (refl, refl))
some_blocks c at (b ∷ bs) =
    let first = some_block c at b in
    let rest = some_blocks c (behind at (kind_of b)) bs in
    (first.0 ++ rest.0, rest.1, (first.0, rest.0, refl, first.1, rest.2))
