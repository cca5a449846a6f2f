-- The front of a trailer section goes on byte by byte, and may become one.
use Rattle.std.proofs.Common.{◌≡◌, ℕ, ◌+◌, ◌<◌, Bool, true, false, List, [], ◌∷◌, ◌++◌, length, take, refl, sym, ap, ◌∙◌, subst, arith, append_assoc, length-append, get_or, if◌then◌else◌}
use Rattle.std.specs.Prelude.{IsTrue, ◌&&◌, count_by, Some, None}
use Rattle.std.specs.List.{flat_map}
use Rattle.std.proofs.lemmas.Grind.{flat_map-append}
use Rattle.std.proofs.lemmas.List.{append-nil, take-append-le, take_all, take_more}
use Rattle.std.proofs.lemmas.List.Sums.{sum_by-cons}
use Rattle.std.proofs.lemmas.List.Elements.{All-cons, All-nil, All-push}
use Rattle.httparse.specs.Grammar as grammar
use Rattle.httparse.specs.Grammar.{IsField, IsToken, is_token_byte, is_value_byte, print_field, print_section, LineEnd, crlf, lf, ReadsSection, HasNoSection}
use Rattle.httparse.proofs.GrammarLemmas.{section_unique, ReadsSection-append}
use Rattle.px_bytes.specs.Tokens as tokens
use Rattle.http_model.specs.declared.Framing.{Framing}
use Rattle.http_model.specs.declared.Limits.{Limits}
use Rattle.h1_head.specs.Decides.{is_line_feed}
use Rattle.h1_head.specs.Feeds.{feeds}
use Rattle.h1_head.proofs.PublicLaws.{feeds-append}
use Rattle.h1_body.specs.Numbers.{most_lines}
use Rattle.h1_body.specs.declared.reader.BodyReader.{BodyReader}
use Rattle.h1_body.specs.Stands.{HasRead, bytes_of}
use Rattle.h1_body.proofs.Feeding.{front_is}
use Rattle.h1_body.specs.Section.{MayComeSection}
use Rattle.h1_body.specs.declared.scan.SectionPlace.{SectionPlace}
use Rattle.h1_body.specs.declared.scan.SectionPlace.TheVariants as place
use Rattle.h1_body.specs.declared.scan.SectionScan.{SectionScan}
use Rattle.h1_body.specs.Scan.{EndsAt, IsFront, IsScanned}

-- ---- one byte more

both_true : (x : Bool) → (x && true) ≡ true → IsTrue x
both_true true e = refl
both_true false e = e

-- a token of one byte
pub token_is : (b : ℕ) → tokens.is_token (b ∷ []) ≡ true → IsTrue (is_token_byte b)
unfolding tokens.is_token_byte is_token_byte
token_is b e = both_true _ e

one_token : (b : ℕ) → IsTrue (is_token_byte b) → IsToken (b ∷ [])
one_token b is = (omega arith, All-cons (λ (x : ℕ). IsTrue (is_token_byte x)) b [] is (All-nil (λ (x : ℕ). IsTrue (is_token_byte x))))

token_more : (name : List ℕ) (b : ℕ) → IsToken name → IsTrue (is_token_byte b) → IsToken (name ++ b ∷ [])
token_more name b is more = (omega (arith, is.0, length-append name (b ∷ [])), All-push (λ (x : ℕ). IsTrue (is_token_byte x)) name b is.1 more)

-- the front of a field goes on
further : (at next : SectionPlace) (bytes : List ℕ) (b : ℕ) → (f : IsFront at bytes) → EndsAt next (f.tail ++ b ∷ []) → IsFront next (bytes ++ b ∷ [])
further at next bytes b f ends =
    record { fields = f.fields; tail = f.tail ++ b ∷ []; valid = f.valid; is = ap (λ (l : List ℕ). l ++ b ∷ []) f.is ∙ append_assoc (flat_map print_field f.fields) f.tail (b ∷ []); ends = ends }

-- a field ends
field_ends : (at : SectionPlace) (bytes : List ℕ) (b : ℕ) (f : IsFront at bytes) (g : grammar.Field) → IsField g → f.tail ++ b ∷ [] ≡ print_field g → IsFront place.LineStart (bytes ++ b ∷ [])
field_ends at bytes b f g valid same =
    let fields : List grammar.Field = f.fields ++ g ∷ [] in
    let printed : flat_map print_field fields ≡ flat_map print_field f.fields ++ print_field g = flat_map-append print_field f.fields (g ∷ []) ∙ ap (λ (l : List ℕ). flat_map print_field f.fields ++ l) (append-nil (print_field g)) in
    record {
      fields = fields;
      tail = [];
      valid = All-push IsField f.fields g f.valid valid;
      is = ap (λ (l : List ℕ). l ++ b ∷ []) f.is ∙ append_assoc (flat_map print_field f.fields) f.tail (b ∷ []) ∙ ap (λ (l : List ℕ). flat_map print_field f.fields ++ l) same ∙ sym printed ∙ sym (append-nil (flat_map print_field fields));
      ends = refl;
    }

pub begins_name : (bytes : List ℕ) (b : ℕ) → IsTrue (is_token_byte b) → IsFront place.LineStart bytes → IsFront place.Name (bytes ++ b ∷ [])
begins_name bytes b is f = further place.LineStart place.Name bytes b f (subst (λ (l : List ℕ). IsToken (l ++ b ∷ [])) (sym f.ends) (one_token b is))

pub goes_on_name : (bytes : List ℕ) (b : ℕ) → IsTrue (is_token_byte b) → IsFront place.Name bytes → IsFront place.Name (bytes ++ b ∷ [])
goes_on_name bytes b is f = further place.Name place.Name bytes b f (token_more f.tail b f.ends is)

pub ends_value : (bytes : List ℕ) (b : ℕ) → b ≡ 10 → IsFront place.Value bytes → IsFront place.LineStart (bytes ++ b ∷ [])
ends_value bytes b is f =
    let e = f.ends in
    field_ends place.Value bytes b f (record { name = e.0; raw = e.1; end = lf }) (record { name = e.2.token; raw = e.2.clean }) (λ i. e.3 i ++ is i ∷ [])

pub ends_return : (bytes : List ℕ) (b : ℕ) → b ≡ 10 → IsFront place.Return bytes → IsFront place.LineStart (bytes ++ b ∷ [])
ends_return bytes b is f =
    let e = f.ends in
    field_ends place.Return bytes b f (record { name = e.0; raw = e.1; end = crlf }) (record { name = e.2.token; raw = e.2.clean })
    ((λ i. e.3 i ++ is i ∷ []) ∙ append_assoc e.0 (58 ∷ (e.1 ++ 13 ∷ [])) (10 ∷ [])
    ∙ ap (λ (l : List ℕ). e.0 ++ 58 ∷ l) (append_assoc e.1 (13 ∷ []) (10 ∷ [])) ∙ sym (append_assoc e.0 (58 ∷ e.1) (13 ∷ 10 ∷ [])))

-- ---- a section may still come

-- some bytes more make it a section
record Completes (bytes : List ℕ) : Type 0 where
  pub more : List ℕ
  pub some : 0 < length more
  pub fields : List grammar.Field
  pub last : LineEnd
  pub reads : ReadsSection (bytes ++ more) fields last []

-- the front of a field is completed, and the empty line follows
completes_field : (at : SectionPlace) (bytes rest : List ℕ) (f : IsFront at bytes) (g : grammar.Field) → IsField g → f.tail ++ rest ≡ print_field g → Completes bytes
completes_field at bytes rest f g valid same =
    let fields : List grammar.Field = f.fields ++ g ∷ [] in
    let front = flat_map print_field f.fields in
    let printed : flat_map print_field fields ≡ front ++ print_field g = flat_map-append print_field f.fields (g ∷ []) ∙ ap (λ (l : List ℕ). front ++ l) (append-nil (print_field g)) in
    let here : bytes ++ rest ≡ front ++ print_field g = ap (λ (l : List ℕ). l ++ rest) f.is ∙ append_assoc front f.tail rest ∙ ap (λ (l : List ℕ). front ++ l) same in
    record {
      more = rest ++ 10 ∷ [];
      some = omega (arith, length-append rest (10 ∷ []));
      fields = fields;
      last = lf;
      reads = (
        All-push IsField f.fields g f.valid valid,
        sym (append_assoc bytes rest (10 ∷ [])) ∙ ap (λ (l : List ℕ). l ++ 10 ∷ []) (here ∙ sym printed) ∙ sym (append-nil (print_section fields lf)),
      );
    }

completes : (at : SectionPlace) (bytes : List ℕ) → IsFront at bytes → Completes bytes
completes place.LineStart bytes f = record {
  more = 10 ∷ [];
  some = omega arith;
  fields = f.fields;
  last = lf;
  reads = (f.valid, ap (λ (l : List ℕ). l ++ 10 ∷ []) (f.is ∙ ap (λ (l : List ℕ). flat_map print_field f.fields ++ l) f.ends ∙ append-nil (flat_map print_field f.fields)) ∙ sym (append-nil (print_section f.fields lf)));
}
completes place.Name bytes f =
    completes_field place.Name bytes (58 ∷ 10 ∷ []) f (record { name = f.tail; raw = []; end = lf }) (record { name = f.ends; raw = All-nil (λ (x : ℕ). IsTrue (is_value_byte x)) })
    (sym (append_assoc f.tail (58 ∷ []) (10 ∷ [])))
completes place.Value bytes f =
    let e = f.ends in
    completes_field place.Value bytes (10 ∷ []) f (record { name = e.0; raw = e.1; end = lf }) (record { name = e.2.token; raw = e.2.clean }) (ap (λ (l : List ℕ). l ++ 10 ∷ []) e.3)
completes place.Return bytes f =
    let e = f.ends in
    completes_field place.Return bytes (10 ∷ []) f (record { name = e.0; raw = e.1; end = crlf }) (record { name = e.2.token; raw = e.2.clean })
    (ap (λ (l : List ℕ). l ++ 10 ∷ []) e.3 ∙ append_assoc e.0 (58 ∷ (e.1 ++ 13 ∷ [])) (10 ∷ [])
    ∙ ap (λ (l : List ℕ). e.0 ++ 58 ∷ l) (append_assoc e.1 (13 ∷ []) (10 ∷ [])) ∙ sym (append_assoc e.0 (58 ∷ e.1) (13 ∷ 10 ∷ [])))

none_stands : (bytes : List ℕ) → Completes bytes → HasNoSection bytes
none_stands bytes c gs last rest reads =
    let on = ReadsSection-append bytes gs last rest c.more reads in
    let same = section_unique (bytes ++ c.more) gs c.fields last c.last (rest ++ c.more) [] on c.reads in
    let len : length (rest ++ c.more) ≡ 0 = ap length same.2 in
    absurd (omega (arith, length-append rest c.more, c.some))

-- a window that is such a front to its end waits
pub scanned_waits : (most : ℕ) (w : List ℕ) (scan : SectionScan) → IsScanned w scan → scan.len ≡ length w → length w < most → MayComeSection most w
scanned_waits most w scan s all short =
    let whole : take scan.len w ≡ w = take_all scan.len w (omega arith) in
    let c = completes scan.place w (subst (IsFront scan.place) whole s.front) in
    let lines : scan.lines ≡ count_by is_line_feed w = s.lines ∙ ap (count_by is_line_feed) whole in
    record { none = none_stands w c; begun = (c.more, c.fields, c.last, c.reads); short = short; few = omega (arith, s.few) }

-- bytes that come change nothing of it
pub scanned_more : (window more : List ℕ) (scan : SectionScan) → IsScanned window scan → IsScanned (window ++ more) scan
scanned_more window more scan s =
    let same : take scan.len window ≡ take scan.len (window ++ more) = sym (take-append-le scan.len window more s.within) in
    record {
      within = omega (arith, s.within, length-append window more);
      lines = s.lines ∙ ap (count_by is_line_feed) same;
      few = s.few;
      front = subst (IsFront scan.place) same s.front;
    }

-- one byte more was looked at
pub scanned_next : (w : List ℕ) (at lines behind : ℕ) (here next : SectionPlace) → at < length w → IsScanned w (record { len = at; lines = lines; place = here })
    → (IsFront here (take at w) → IsFront next (take at w ++ get_or w at 0 ∷ [])) → behind ≡ lines + (if is_line_feed (get_or w at 0) then 1 else 0) → behind < most_lines
    → IsScanned w (record { len = at + 1; lines = behind; place = next })
scanned_next w at lines behind here next less s step count few =
    let b : ℕ = get_or w at 0 in
    let more : take (at + 1) w ≡ take at w ++ b ∷ [] = take_more w at 0 less in
    let one : feeds (b ∷ []) ≡ (if is_line_feed b then 1 else 0) + feeds [] = sum_by-cons (λ (x : ℕ). if is_line_feed x then 1 else 0) b [] in
    let both = feeds-append (take at w) (b ∷ []) in
    let sum : feeds (take (at + 1) w) ≡ feeds (take at w ++ b ∷ []) = ap feeds more in
    record {
      within = omega arith;
      lines = omega (arith, s.lines);
      few = few;
      front = subst (IsFront next) (sym more) (step s.front);
    }

-- ---- a step that uses nothing

pub reads_nothing : (w : List ℕ) (limits : Limits) (framing : Framing) (bytes found section : List ℕ) (reader : BodyReader) → HasRead limits framing bytes found section reader
    → HasRead limits framing (bytes ++ take 0 w) (found ++ bytes_of w (Some (record { from = 0; len = 0 }))) (section ++ bytes_of w None) reader
reads_nothing w limits framing bytes found section reader read =
    let P : List ℕ → List ℕ → List ℕ → Type 0 = λ xs ys zs. HasRead limits framing xs ys zs reader in
    let none : found ++ bytes_of w (Some (record { from = 0; len = 0 })) ≡ found = ap (λ (l : List ℕ). found ++ l) (front_is w 0) ∙ append-nil found in
    subst (λ (xs : List ℕ). P xs (found ++ bytes_of w (Some (record { from = 0; len = 0 }))) (section ++ [])) (sym (append-nil bytes))
    (subst (λ (ys : List ℕ). P bytes ys (section ++ [])) (sym none) (subst (λ (zs : List ℕ). P bytes found zs) (sym (append-nil section)) read))
