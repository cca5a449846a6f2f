-- What the spans of fields cover.
use Rattle.std.proofs.Common.{◌≡◌, ℕ, ◌≤◌, ◌<◌, List, length, take, ap, arith, get_or, length-take}
use Rattle.std.specs.Prelude.{All, map}
use Rattle.std.proofs.lemmas.List.Elements.{All-map, All-same}
use Rattle.std.proofs.lemmas.List.{length-map}
use Rattle.httparse.specs.declared.spans.HeaderSpan.{HeaderSpan}
use Rattle.httparse.specs.Grammar as grammar
use Rattle.httparse.specs.Grammar.{IsField}
use Rattle.httparse.specs.Spans.{IsSectionWithin, IsHeaderWithin, header_bytes, name_and_value, AreFieldsAt}
use Rattle.h1_head.specs.Numbers.{most_fields}
use Rattle.h1_head.specs.Spans.{AreFieldsGood, IsNamed}

named_fields : (fs : List grammar.Field) → All IsField fs → All IsNamed (map name_and_value fs)
named_fields fs are = All-map IsNamed name_and_value fs (λ k d lt. let is : IsField (get_or fs k d) = are k d lt in let some : 0 < length (get_or fs k d).name = is.name.0 in omega arith)

-- as many fields as spans
pub few_fields : (text : List ℕ) (spans : List HeaderSpan) (count : ℕ) (fs : List grammar.Field) → length spans ≤ most_fields → count ≤ length spans → AreFieldsAt text spans count fs → length fs ≤ most_fields
few_fields text spans count fs room fits are =
    let same : length (map (header_bytes text) (take count spans)) ≡ length (map name_and_value fs) = ap length are in
    omega (arith, length-map (take count spans) (header_bytes text), length-map fs name_and_value, length-take count spans, same)

pub fields_good : (text : List ℕ) (spans : List HeaderSpan) (len count : ℕ) (fs : List grammar.Field) → length spans ≤ most_fields
    → IsSectionWithin text spans len count → AreFieldsAt text spans count fs → All IsField fs → AreFieldsGood text (take count spans)
fields_good text spans len count fs room within are each =
    let fits : len ≤ length text = within.len_fits in
    let few : count ≤ length spans = within.count_fits in
    record {
      fields_in = λ k d lt.
          let one : IsHeaderWithin len (get_or (take count spans) k d) = within.headers_fit k d lt in
          ((one.0.0, omega (arith, one.0.1)), (one.1.0, omega (arith, one.1.1)));
      named = All-same IsNamed (map (header_bytes text) (take count spans)) (map name_and_value fs) are (named_fields fs each);
      few = omega (arith, length-take count spans);
    }
