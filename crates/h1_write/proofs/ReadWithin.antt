-- A finished message within the limits, read by the readers here.
use Rattle.std.proofs.Common.{◌≡◌, ◌≢◌, ℕ, zero, suc, ◌+◌, ◌<◌, ◌≤◌, ◌^◌, true, false, List, [], ◌∷◌, ◌++◌, length, map, refl, sym, ap, ◌∙◌, subst, arith, append_assoc, length-append}
use Rattle.std.specs.Prelude.{All, Some, None}
use Rattle.std.specs.List.{flat_map, AllByRecursion}
use Rattle.std.specs.Fmt.{digits}
use Rattle.std.proofs.lemmas.Fmt.{digits_is_IsNumeral}
use Rattle.std.proofs.lemmas.List.{append-nil, length-map}
use Rattle.std.proofs.lemmas.List.Elements.{All-cons, All-nil, All-head, All-tail}
use Rattle.httparse.specs.Grammar.{crlf}
use Rattle.px_bytes.proofs.PublicLaws.{length-hex-le}
use Rattle.http_model.specs.declared.Framing.{Framing}
use Rattle.http_model.specs.declared.Framing.TheVariants.{Absent, Length, Chunked, ToClose}
use Rattle.http_model.specs.declared.Ending.TheVariants.{Closed}
use Rattle.http_model.specs.declared.Limits.{Limits}
use Rattle.http_model.specs.Head.{Field, Message}
use Rattle.http_model.specs.Reading.{Whole}
use Rattle.http_model.specs.Sizes.{most_name}
use Rattle.http_model.specs.Spelling.{line_end, fields_text, chunk_line, SpellsBody, Spells}
use Rattle.h1_body.specs.Body.{BodyAt, Left, UntilClose, Over, Goes}
use Rattle.h1_body.specs.BodyOf.{Reads, BodyOf, IsChunkedBody}
use Rattle.h1_body.specs.Chunked.{IsChunk, IsChunkLine, print_chunk}
use Rattle.h1_body.specs.Section.{HasShortName}
use Rattle.h1_body.proofs.PublicLaws.{chunks_whole, goes_both, left_ends, close_goes}
use Rattle.h1_write.specs.ReadBack.{IsFramed, IsFinished, IsChunkedWithin, IsWithin, IsRead}
use Rattle.h1_write.proofs.ReadHeads.{line_of}
use Rattle.h1_body.specs.Stands.{start_of}
use Rattle.h1_write.proofs.ReadBodies.{chunk_of, some_bytes, chunked_text, chunked_joins, section_reads, trailers_back, head_behind}

-- ---- bodies that are no chunks

over_goes : (bytes front : List ℕ) → Goes (Over front) bytes (Over (front ++ bytes)) []
over_goes [] front = record { place = ap Over (sym (append-nil front)); piece = refl }
over_goes (b ∷ bytes) front =
    let g = over_goes bytes (front ++ b ∷ []) in
    record { place = g.place ∙ ap Over (append_assoc front (b ∷ []) bytes); piece = g.piece }

begins_at : (n : ℕ) → 0 < n → start_of (Length n) ≡ Left n
begins_at n some = grind (arith, some)

-- so many bytes, and what follows
length_read : (limits : Limits) (n : ℕ) (body more : List ℕ) → length body ≡ n → BodyOf limits (Length n) (body ++ more) Closed (Whole body [] more)
length_read limits zero [] more e = record { at = Over more; found = []; goes = over_goes more []; tells = refl }
length_read limits zero (b ∷ body) more e = absurd (omega arith)
length_read limits (suc n) body more e =
    let start : start_of (Length (suc n)) ≡ Left (suc n) = begins_at (suc n) (omega arith) in
    let goes = goes_both (Left (suc n)) (Over []) (Over more) body more body [] (left_ends (suc n) body (omega arith) e) (over_goes more []) in
    record {
      at = Over more;
      found = body ++ [];
      goes = subst (λ (from : BodyAt). Goes from (body ++ more) (Over more) (body ++ [])) (sym start) goes;
      tells = ap (λ (d : List ℕ). Reads (Whole d [] more)) (sym (append-nil body));
    }

-- ---- chunks

line_within : (n : ℕ) → n < 2 ^ 32 → IsChunkLine (chunk_line n) n
line_within n small =
    let is = digits_is_IsNumeral 16 false (omega arith) (omega arith) n (omega arith) in
    let few : length (digits 16 false n) ≤ 8 = length-hex-le 8 n (omega arith) (omega arith) (omega arith) in
    record { digits = digits 16 false n; pad = []; extension = None; spelled = refl; some = is.0.0; few = few; hex = is.0.1; size = sym is.1; blanks = tt; text = tt; short = omega (arith, length-append (digits 16 false n) line_end) }

chunks_within : (chunks : List (List ℕ)) → length (flat_map (λ chunk. chunk) chunks) < 2 ^ 32 → All (λ chunk. chunk ≢ []) chunks → AllByRecursion IsChunk (map chunk_of chunks)
chunks_within [] small some = tt
chunks_within (c ∷ cs) small some =
    let all = length-append c (flat_map (λ (chunk : List ℕ). chunk) cs) in (
      record { some = some_bytes c (All-head (λ (chunk : List ℕ). chunk ≢ []) c cs some); line = line_within (length c) (omega arith) },
      chunks_within cs (omega arith) (All-tail (λ (chunk : List ℕ). chunk ≢ []) c cs some),
    )

named_within : (trailers : List Field) → All (λ (trailer : Field). length trailer.0 ≤ most_name) trailers → All HasShortName (map line_of trailers)
named_within [] all = All-nil HasShortName
named_within (t ∷ ts) all =
    All-cons HasShortName (line_of t) (map line_of ts) (All-head (λ (trailer : Field). length trailer.0 ≤ most_name) t ts all) (named_within ts (All-tail (λ (trailer : Field). length trailer.0 ≤ most_name) t ts all))

chunked_read : (limits : Limits) (body : List ℕ) (trailers : List Field) (text more : List ℕ) → IsFramed Chunked body trailers → IsChunkedWithin limits body trailers → SpellsBody true Chunked body trailers text
    → BodyOf limits Chunked (text ++ more) Closed (Whole body trailers more)
chunked_read limits body trailers text more is within s =
    let cs = s.1.chunks in
    let front = flat_map print_chunk (map chunk_of cs) in
    let section = (fields_text trailers ++ line_end) ++ more in
    let size : length (flat_map (λ (chunk : List ℕ). chunk) cs) ≡ length body = ap length s.1.joined in
    let small = within.small in
    let long : length section ≡ length (fields_text trailers) + 2 + length more
    = length-append (fields_text trailers ++ line_end) more ∙ ap (λ (n : ℕ). n + length more) (length-append (fields_text trailers) line_end) in
    let count = length-map trailers line_of in
    let c : IsChunkedBody limits (text ++ more) body trailers more = record {
      text = front ++ chunk_line 0;
      behind = section;
      fields = map line_of trailers;
      spelled = chunked_text body trailers text more s ∙ sym (append_assoc front (chunk_line 0) section);
      chunks = record { chunks = map chunk_of cs; last = chunk_line 0; each = chunks_within cs (omega arith) s.1.nonempty; zero = line_within 0 (omega arith); spelled = refl; body = chunked_joins body trailers text s };
      section = record {
        begins = record { last = crlf; reads = section_reads trailers more is.1; few = omega (arith, within.few); named = named_within trailers within.named };
        short = omega (arith, within.short);
      };
      kept = trailers_back trailers is.1;
    } in
    chunks_whole limits (text ++ more) (Some Closed) body trailers more c

body_read : (limits : Limits) (framing : Framing) (body : List ℕ) (trailers : List Field) (text more : List ℕ) → IsFramed framing body trailers → IsWithin limits framing body trailers → SpellsBody true framing body trailers text
    → (framing ≡ ToClose → more ≡ []) → BodyOf limits framing (text ++ more) Closed (Whole body trailers more)
body_read limits Absent body trailers text more is within s none =
    let bytes : more ≡ text ++ more = ap (λ (l : List ℕ). l ++ more) (sym s) in
    subst (λ (l : List ℕ). BodyOf limits Absent l Closed (Whole body trailers more)) bytes
    (record { at = Over more; found = []; goes = over_goes more []; tells = λ i. Reads (Whole (is.0 i) (is.1 i) more) })
body_read limits (Length n) body trailers text more is within s none =
    subst (λ (l : List ℕ). BodyOf limits (Length n) (l ++ more) Closed (Whole body trailers more)) (sym s)
    (subst (λ (ts : List Field). BodyOf limits (Length n) (body ++ more) Closed (Whole body ts more)) (sym is.1) (length_read limits n body more is.0))
body_read limits Chunked body trailers text more is within s none = chunked_read limits body trailers text more is within s
body_read limits ToClose body trailers text more is within s none =
    let bytes : body ≡ text ++ more = sym s ∙ sym (append-nil text) ∙ ap (λ (l : List ℕ). text ++ l) (sym (none refl)) in
    subst (λ (l : List ℕ). BodyOf limits ToClose l Closed (Whole body trailers more)) bytes
    (record { at = UntilClose; found = body; goes = close_goes body; tells = λ i. Reads (Whole body (is i) (none refl i)) })

-- ---- messages

pub message_read : (limits : Limits) (m : Message) (text more : List ℕ) → IsFinished m → IsWithin limits m.framing m.body m.trailers → Spells true false m text → (m.framing ≡ ToClose → more ≡ []) → IsRead limits m (text ++ more) more
message_read limits m text more is within s none =
    record { behind = s.body ++ more; head = head_behind true false m text more is s; body = body_read limits m.framing m.body m.trailers s.body more is.framed within s.spells_body none }
