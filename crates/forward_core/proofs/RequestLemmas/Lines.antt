-- The request line that is told.
use Rattle.std.proofs.Common.{◌≡◌, ℕ, ◌+◌, ◌≤◌, List, [], ◌∷◌, ◌++◌, ◌↔◌, Bool, length, length-append, refl, sym, ap, ◌∙◌, subst, arith}
use Rattle.std.specs.Prelude.{Option, Some, None}
use Rattle.std.proofs.lemmas.List.Sums.{sum_by-cons}
use Rattle.std.specs.Bool.{IsTrue, OnTrue}
use Rattle.std.proofs.lemmas.Bool.{OnTrue_at}
use Rattle.htx_model.specs.Block.{Block, RequestLine, weight}
use Rattle.htx_model.specs.Blocks.{load}
use Rattle.htx_view.specs.Lines.{request_in}
use Rattle.http_model.specs.declared.Ending.{Ending}
use Rattle.http_model.specs.Head.{Head, Field, StartLine, head_blocks}
use Rattle.http_model.specs.Head as line
use Rattle.http_rules.specs.declared.config.Config.{Config}
use Rattle.session_core.specs.History.{Coming, gains, ends}
use Rattle.session_core.specs.Lines.{ShowsLine, request_words}
use Rattle.session_core.proofs.PublicLaws.{line_gains, line_ends, shown_gains, shown_ends}
use Rattle.forward_core.specs.Meaning.Product.{meaning_of}
use Rattle.forward_core.specs.Request.Stands.{TellsLine}
use Rattle.forward_core.specs.Request.Words.{words_at, words_by}
use Rattle.forward_core.specs.declared.request.place.Place.{Place}
use Rattle.forward_core.specs.declared.request.place.Place.TheVariants as place

-- ---- by the place

pub none_reading : (at : Place) (cfg : Config) (came : Coming) (line : List ℕ) → at ≡ place.Reading → TellsLine at cfg came line → line ≡ []
none_reading at cfg came line e h = subst (λ (x : Place). TellsLine x cfg came line) e h

pub shown_idle : (at : Place) (cfg : Config) (came : Coming) (line : List ℕ) → at ≡ place.Idle → TellsLine at cfg came line → ShowsLine (meaning_of cfg) came line
shown_idle at cfg came line e h = subst (λ (x : Place). TellsLine x cfg came line) e h

-- bytes come
pub line_takes : (at : Place) (cfg : Config) (came : Coming) (bytes line : List ℕ) → came.ending ≡ None → TellsLine at cfg came line → TellsLine at cfg (gains came bytes) line
line_takes place.Reading cfg came bytes line goes_on h = h
line_takes place.Sending cfg came bytes line goes_on h = line_gains (meaning_of cfg) came bytes line goes_on h
line_takes place.Idle cfg came bytes line goes_on h = shown_gains (meaning_of cfg) came bytes line goes_on h
line_takes place.Replied cfg came bytes line goes_on h = line_gains (meaning_of cfg) came bytes line goes_on h

-- the stream ends
pub line_stays : (at : Place) (cfg : Config) (came : Coming) (how : Ending) (line : List ℕ) → came.ending ≡ None → TellsLine at cfg came line → TellsLine at cfg (ends came how) line
line_stays place.Reading cfg came how line goes_on h = h
line_stays place.Sending cfg came how line goes_on h = line_ends (meaning_of cfg) came how line goes_on h
line_stays place.Idle cfg came how line goes_on h = shown_ends (meaning_of cfg) came how line goes_on h
line_stays place.Replied cfg came how line goes_on h = line_ends (meaning_of cfg) came how line goes_on h

-- ---- a head that stands in an array

-- its words are no longer than the array
words_fit : (blocks : List Block) (room size most : ℕ) → room + load blocks ≡ size → size ≤ most → length (words_at blocks) ≤ most
words_fit [] room size most e h = omega arith
words_fit (RequestLine a b d ∷ rest) room size most e h =
    let all : length (words_at (RequestLine a b d ∷ rest)) ≡ length (a ++ 32 ∷ []) + length b = length-append (a ++ 32 ∷ []) b in
    let front : length (a ++ 32 ∷ []) ≡ length a + 1 = length-append a (32 ∷ []) in
    omega (arith, sum_by-cons weight (RequestLine a b d) rest, all, front)
words_fit (x ∷ rest) room size most e h = omega arith

-- they are kept in a buffer of that size
pub words_pushed : (blocks : List Block) (a b d : List ℕ) (room size most first_cap second_cap : ℕ) (held first second third : List ℕ) (method space target : Bool)
    → Some (a, b, d) ≡ request_in blocks → room + load blocks ≡ size → size ≤ most → held ≡ []
    → (IsTrue method ↔ (length held + length a ≤ most)) → OnTrue method (first ≡ held ++ a) → first_cap ≡ most
    → (IsTrue space ↔ (length first + 1 ≤ first_cap)) → OnTrue space (second ≡ first ++ 32 ∷ []) → second_cap ≡ first_cap
    → (IsTrue target ↔ (length second + length b ≤ second_cap)) → OnTrue target (third ≡ second ++ b) → third ≡ words_at blocks
words_pushed blocks a b d room size most first_cap second_cap held first second third method space target line e h none fits_a pushed_a cap_a fits_s pushed_s cap_s fits_b pushed_b =
    let is : (a ++ 32 ∷ []) ++ b ≡ words_at blocks = ap (λ (x : Option (List ℕ × List ℕ × List ℕ)). words_by x) line in
    let within : length (words_at blocks) ≤ most = words_fit blocks room size most e h in
    let all : length (a ++ 32 ∷ []) + length b ≡ length (words_at blocks) = sym (length-append (a ++ 32 ∷ []) b) ∙ ap length is in
    let front : length (a ++ 32 ∷ []) ≡ length a + 1 = length-append a (32 ∷ []) in
    let empty : length held ≡ 0 = ap length none in
    let first_is : first ≡ a = OnTrue_at (fits_a.1 (omega (arith, empty, all, front, within))) pushed_a ∙ ap (λ (xs : List ℕ). xs ++ a) none in
    let first_long : length first ≡ length a = ap length first_is in
    let second_is : second ≡ a ++ 32 ∷ [] = OnTrue_at (fits_s.1 (omega (arith, first_long, all, front, within, cap_a))) pushed_s ∙ ap (λ (xs : List ℕ). xs ++ 32 ∷ []) first_is in
    let second_long : length second ≡ length (a ++ 32 ∷ []) = ap length second_is in
    OnTrue_at (fits_b.1 (omega (arith, second_long, all, front, within, cap_a, cap_s))) pushed_b ∙ ap (λ (xs : List ℕ). xs ++ b) second_is ∙ is

-- nothing is kept where no line stands there
pub words_none : (blocks : List Block) (held : List ℕ) → None ≡ request_in blocks → held ≡ [] → held ≡ words_at blocks
words_none blocks held line none = none ∙ ap (λ (x : Option (List ℕ × List ℕ × List ℕ)). words_by x) line

-- they are those of the head that stands there
words_of : (start : StartLine) (fields : List Field) → words_at (head_blocks (record { line = start; fields = fields })) ≡ request_words start
words_of (line.RequestLine method target version) fields = refl
words_of (line.StatusLine version status reason) fields = refl

pub words_head : (blocks : List Block) (head : Head) (kept : List ℕ) → kept ≡ words_at blocks → blocks ≡ head_blocks head → kept ≡ request_words head.line
words_head blocks head kept is stands = is ∙ ap (λ (xs : List Block). words_at xs) stands ∙ words_of head.line head.fields

-- the array of a lane is no larger than the buffer
pub line_room : (size most cap : ℕ) → size ≡ most → cap ≡ most → size ≤ cap
line_room size most cap e f = omega arith
