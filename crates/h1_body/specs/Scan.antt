-- How far a window is known to be the front of a trailer section.
use Rattle.std.specs.Prelude.{◌≡◌, ℕ, ◌≤◌, ◌<◌, List, [], ◌∷◌, ◌++◌, length, take, count_by, All}
use Rattle.std.specs.List.{flat_map}
use Rattle.httparse.specs.Grammar as grammar
use Rattle.httparse.specs.Grammar.{IsField, IsToken, AllPass, is_value_byte, print_field}
use Rattle.h1_head.specs.Decides.{is_line_feed}
use Rattle.h1_body.specs.Numbers.{most_lines}
use Rattle.h1_body.specs.declared.scan.SectionPlace.{SectionPlace}
use Rattle.h1_body.specs.declared.scan.SectionPlace.TheVariants as place
use Rattle.h1_body.specs.declared.scan.SectionScan.{SectionScan}

-- a name, and what of its value came
pub record IsBegunField (name raw : List ℕ) : Type 0 where
  pub token : IsToken name
  pub clean : AllPass is_value_byte raw

-- the front of a field that ends at this place
abbrev pub EndsAt : SectionPlace → List ℕ → Type 0
EndsAt place.LineStart tail = tail ≡ []
EndsAt place.Name tail = IsToken tail
EndsAt place.Value tail = (name : List ℕ) × (raw : List ℕ) × IsBegunField name raw × (tail ≡ name ++ 58 ∷ raw)
EndsAt place.Return tail = (name : List ℕ) × (raw : List ℕ) × IsBegunField name raw × (tail ≡ name ++ 58 ∷ (raw ++ 13 ∷ []))

-- whole fields, and then the front of one more
pub record IsFront (at : SectionPlace) (bytes : List ℕ) : Type 0 where
  pub fields : List grammar.Field
  pub tail : List ℕ
  pub valid : All IsField fields
  pub is : bytes ≡ flat_map print_field fields ++ tail
  pub ends : EndsAt at tail

-- so many bytes at the front of the window are such, with so many lines
pub record IsScanned (window : List ℕ) (scan : SectionScan) : Type 0 where
  pub within : scan.len ≤ length window
  pub lines : scan.lines ≡ count_by is_line_feed (take scan.len window)
  pub few : scan.lines < most_lines
  pub front : IsFront scan.place (take scan.len window)
