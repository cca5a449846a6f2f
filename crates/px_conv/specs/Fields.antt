-- The fields of a text between separators, and its words (Configuration Manual, section 7.3.1, "field" and "word").
use Rattle.std.specs.Prelude.{◌≡◌, ℕ, zero, suc, ℤ, pos, negsuc, ◌+◌, ◌-◌, ◌<◌, ◌≤◌, ◌==◌, Bool, true, List, [], ◌∷◌, length, take, drop, reverse, nat_lt, Option, Some, None, option_map, if◌then◌else◌}
use Rattle.std.specs.List.{filter, list_any}
use Rattle.px_conv.specs.declared.fields.Extent.{Extent}
use Rattle.px_conv.specs.declared.fields.Kind.{Kind}
use Rattle.px_conv.specs.declared.fields.Kind.TheVariants as kinds
use Rattle.px_conv.specs.declared.fields.Row.{Row}

-- a byte separates where it is one of the separators
abbrev pub separates : List ℕ → ℕ → Bool
separates separators b = list_any (λ separator. separator == b) separators

-- the fields from the byte at `at` on, the first of which began at `from`
abbrev pub fields_from : List ℕ → ℕ → ℕ → List ℕ → List Extent
fields_from separators from at [] = record { from = from; to = at } ∷ []
fields_from separators from at (b ∷ text) =
    if separates separators b then record { from = from; to = at } ∷ fields_from separators (at + 1) (at + 1) text
    else fields_from separators from (at + 1) text

-- every field counts as a field, and those that have bytes count as words
abbrev pub counts : Kind → Extent → Bool
counts kinds.Field e = true
counts kinds.Word e = nat_lt e.from e.to

-- the fields of a text, or its words, in the text's order
abbrev pub parts : Kind → List ℕ → List ℕ → List Extent
parts kind separators text = filter (counts kind) (fields_from separators 0 0 text)

-- so many of them, or all for 0
abbrev pub at_most : ℕ → List Extent → List Extent
at_most n parts = if n == 0 then parts else take n parts

-- so many at an index and behind it; counted from the back, so many at it and in front of it
abbrev pub chosen : ℤ → ℕ → List Extent → List Extent
chosen (pos zero) n parts = []
chosen (pos (suc skipped)) n parts = at_most n (drop skipped parts)
chosen (negsuc skipped) n parts = reverse (at_most n (drop skipped (reverse parts)))

-- where the last of them ends
abbrev pub end_of : Extent → List Extent → ℕ
end_of e [] = e.to
end_of e (next ∷ rest) = end_of next rest

-- from where the first begins to where the last ends
abbrev pub whole : List Extent → Option Extent
whole [] = None
whole (e ∷ rest) = Some (record { from = e.from; to = end_of e rest })

-- the bytes there
abbrev pub bytes_at : List ℕ → Extent → List ℕ
bytes_at text e = take (e.to - e.from) (drop e.from text)

-- the bytes of the parts that are chosen, with what separates them; none where there is no such part
abbrev pub part : Kind → ℤ → List ℕ → ℕ → List ℕ → Option (List ℕ)
part kind index separators n text = option_map (bytes_at text) (whole (chosen index n (parts kind separators text)))

-- the converter `field`
unfoldable pub field : ℤ → List ℕ → ℕ → List ℕ → Option (List ℕ)
field index separators n text = part kinds.Field index separators n text

-- the converter `word`
unfoldable pub word : ℤ → List ℕ → ℕ → List ℕ → Option (List ℕ)
word index separators n text = part kinds.Word index separators n text

-- a row of parts is these of all of them; no row is none
abbrev pub IsRow : List Extent → List Extent → Option Row → Type 0
IsRow all these None = these ≡ []
IsRow all these (Some row) = (0 < row.len) × (row.first + row.len ≤ length all) × (these ≡ take row.len (drop row.first all))
