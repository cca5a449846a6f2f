-- The body of a finished message, and the message, read back.
use Rattle.std.proofs.Common.{◌≡◌, ◌≢◌, ℕ, ◌<◌, ◌^◌, Bool, true, false, cond, List, [], ◌∷◌, ◌++◌, length, map, refl, sym, ap, ◌∙◌, subst, arith, append_assoc, length-append}
use Rattle.std.specs.Prelude.{All, None, filter}
use Rattle.std.specs.List.{flat_map}
use Rattle.std.specs.Fmt.{digits}
use Rattle.std.proofs.lemmas.Fmt.{digits_is_IsNumeral}
use Rattle.std.proofs.lemmas.List.{append-nil}
use Rattle.std.proofs.lemmas.List.Elements.{All-cons, All-nil, All-head, All-tail, All-weaker}
use Rattle.httparse.specs.Grammar.{crlf, ReadsSection}
use Rattle.http_model.specs.declared.Framing.{Framing}
use Rattle.http_model.specs.declared.Framing.TheVariants.{Absent, Length, Chunked, ToClose}
use Rattle.http_model.specs.Head.{Field, Message}
use Rattle.http_model.specs.Spelling.{line_end, fields_text, head_text, chunk_line, chunk_text, SpellsBody, Spells}
use Rattle.h1_body.specs.Chunked.{Chunk, print_chunk}
use Rattle.h1_body.specs.Section.{is_kept, folded, kept, trailers_of}
use Rattle.h1_write.specs.ReadBack.{IsFinishedField, IsFinishedTrailer, IsFramed, IsFinished, IsSizeLine, IsSizedChunk, ReadsHead, ReadsChunked, ReadsBody, ReadsMessage}
use Rattle.h1_write.proofs.ReadHeads.{line_of, lines_are, fields_printed, fields_back, head_parts, head_back}

-- ---- chunks

size_line : (n : ℕ) → n < 16 ^ 64 → IsSizeLine (chunk_line n) n
size_line n small =
    let is = digits_is_IsNumeral 16 false (omega arith) (omega arith) n small in
    record { digits = digits 16 false n; pad = []; extension = None; spelled = refl; some = is.0.0; hex = is.0.1; size = sym is.1; blanks = tt; text = tt }

abbrev pub chunk_of : List ℕ → Chunk
chunk_of bytes = record { line = chunk_line (length bytes); bytes = bytes }

chunks_printed : (chunks : List (List ℕ)) → flat_map chunk_text chunks ≡ flat_map print_chunk (map chunk_of chunks)
chunks_printed [] = refl
chunks_printed (c ∷ cs) = λ i. append_assoc (chunk_line (length c)) c line_end i ++ chunks_printed cs i

chunks_joined : (chunks : List (List ℕ)) → flat_map (λ chunk. chunk) chunks ≡ flat_map (λ (chunk : Chunk). chunk.bytes) (map chunk_of chunks)
chunks_joined [] = refl
chunks_joined (c ∷ cs) = ap (λ (l : List ℕ). c ++ l) (chunks_joined cs)

pub some_bytes : (bytes : List ℕ) → bytes ≢ [] → 0 < length bytes
some_bytes [] some = absurd (some refl)
some_bytes (b ∷ bytes) some = omega arith

chunks_sized : (chunks : List (List ℕ)) → length (flat_map (λ chunk. chunk) chunks) < 16 ^ 64 → All (λ chunk. chunk ≢ []) chunks → All IsSizedChunk (map chunk_of chunks)
chunks_sized [] small some = All-nil IsSizedChunk
chunks_sized (c ∷ cs) small some =
    let all = length-append c (flat_map (λ (chunk : List ℕ). chunk) cs) in
    All-cons IsSizedChunk (chunk_of c) (map chunk_of cs)
    (record { some = some_bytes c (All-head (λ (chunk : List ℕ). chunk ≢ []) c cs some); line = size_line (length c) (omega arith) })
    (chunks_sized cs (omega arith) (All-tail (λ (chunk : List ℕ). chunk ≢ []) c cs some))

-- ---- trailers

kept_back : (trailers : List Field) → All IsFinishedTrailer trailers → kept trailers ≡ trailers
kept_back [] all = refl
kept_back (t ∷ ts) all =
    let is = All-head IsFinishedTrailer t ts all in
    let lower = is.finished.lower in
    let rest = kept_back ts (All-tail IsFinishedTrailer t ts all) in
    ap (λ (b : Bool). map folded (cond b (t ∷ filter is_kept ts) (filter is_kept ts))) is.kept ∙ (λ i. (lower i, t.1) ∷ rest i)

-- ---- bodies

-- the text of a chunked body in its parts, and what stands behind it
pub chunked_text : (body : List ℕ) (trailers : List Field) (text more : List ℕ) (s : SpellsBody true Chunked body trailers text) → text ++ more ≡ flat_map print_chunk (map chunk_of s.1.chunks) ++ (chunk_line 0 ++ ((fields_text trailers ++ line_end) ++ more))
chunked_text body trailers text more s =
    let front : s.0 ≡ flat_map print_chunk (map chunk_of s.1.chunks) = s.1.spelled ∙ chunks_printed s.1.chunks in
    ap (λ (l : List ℕ). l ++ more) s.2 ∙ append_assoc s.0 ((chunk_line 0 ++ fields_text trailers) ++ line_end) more
    ∙ (λ i. front i ++ head_parts (chunk_line 0) (fields_text trailers) more i)

pub chunked_joins : (body : List ℕ) (trailers : List Field) (text : List ℕ) (s : SpellsBody true Chunked body trailers text) → body ≡ flat_map (λ (chunk : Chunk). chunk.bytes) (map chunk_of s.1.chunks)
chunked_joins body trailers text s = sym s.1.joined ∙ chunks_joined s.1.chunks

pub trailers_finished : (trailers : List Field) → All IsFinishedTrailer trailers → All IsFinishedField trailers
trailers_finished trailers all = All-weaker IsFinishedTrailer IsFinishedField (λ t k. k.finished) trailers all

pub section_reads : (trailers : List Field) (more : List ℕ) → All IsFinishedTrailer trailers → ReadsSection ((fields_text trailers ++ line_end) ++ more) (map line_of trailers) crlf more
section_reads trailers more all = (lines_are trailers (trailers_finished trailers all), ap (λ (l : List ℕ). (l ++ line_end) ++ more) (fields_printed trailers))

pub trailers_back : (trailers : List Field) → All IsFinishedTrailer trailers → trailers ≡ trailers_of (map line_of trailers)
trailers_back trailers all = sym (ap kept (fields_back trailers (trailers_finished trailers all)) ∙ kept_back trailers all)

chunked_back : (body : List ℕ) (trailers : List Field) (text more : List ℕ) → IsFramed Chunked body trailers → SpellsBody true Chunked body trailers text → ReadsChunked body trailers (text ++ more) more
chunked_back body trailers text more is s =
    let size : length (flat_map (λ (chunk : List ℕ). chunk) s.1.chunks) ≡ length body = ap length s.1.joined in
    let small = is.0 in
    record {
      chunks = map chunk_of s.1.chunks;
      last = chunk_line 0;
      section = (fields_text trailers ++ line_end) ++ more;
      fields = map line_of trailers;
      end = crlf;
      each = chunks_sized s.1.chunks (omega arith) s.1.nonempty;
      zero = size_line 0 (omega arith);
      spelled = chunked_text body trailers text more s;
      joined = chunked_joins body trailers text s;
      reads = section_reads trailers more is.1;
      kept = trailers_back trailers is.1;
    }

body_back : (framing : Framing) (body : List ℕ) (trailers : List Field) (text more : List ℕ) → IsFramed framing body trailers → SpellsBody true framing body trailers text → (framing ≡ ToClose → more ≡ [])
    → ReadsBody framing body trailers (text ++ more) more
body_back Absent body trailers text more is s none = (is.0, is.1, ap (λ (l : List ℕ). l ++ more) s)
body_back (Length n) body trailers text more is s none = (is.0, is.1, ap (λ (l : List ℕ). l ++ more) s)
body_back Chunked body trailers text more is s none = chunked_back body trailers text more is s
body_back ToClose body trailers text more is s none = (is, ap (λ (l : List ℕ). text ++ l) (none refl) ∙ append-nil text ∙ s, none refl)

-- ---- messages

-- what is behind a head where it is read is the body and what follows
pub head_behind : (whole no_body : Bool) (m : Message) (text more : List ℕ) → IsFinished m → (s : Spells whole no_body m text) → ReadsHead m.head.line m.head.fields (text ++ more) (s.body ++ more)
head_behind whole no_body m text more is s =
    let there : head_text m.head ++ (s.body ++ more) ≡ text ++ more = sym (append_assoc (head_text m.head) s.body more) ∙ ap (λ (l : List ℕ). l ++ more) (sym s.spelled) in
    subst (λ (l : List ℕ). ReadsHead m.head.line m.head.fields l (s.body ++ more)) there (head_back m.head (s.body ++ more) is.head)

pub message_back : (m : Message) (text more : List ℕ) → IsFinished m → Spells true false m text → (m.framing ≡ ToClose → more ≡ []) → ReadsMessage m (text ++ more) more
message_back m text more is s none =
    record { behind = s.body ++ more; head = head_behind true false m text more is s; body = body_back m.framing m.body m.trailers s.body more is.framed s.spells_body none }

pub alone_back : (m : Message) (text more : List ℕ) → IsFinished m → Spells true true m text → ReadsHead m.head.line m.head.fields (text ++ more) more
alone_back m text more is s =
    subst (λ (l : List ℕ). ReadsHead m.head.line m.head.fields (text ++ more) (l ++ more)) s.spells_body (head_behind true true m text more is s)
