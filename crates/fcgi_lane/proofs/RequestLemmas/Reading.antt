-- The lines of a head, read one after the other.
use Rattle.std.proofs.Common.{◌≡◌, ℕ, suc, ◌+◌, ◌-◌, ◌<◌, ◌≤◌, Bool, true, false, nat_eq, List, [], ◌∷◌, ◌++◌, length, drop, take, cond, codes, Option, Some, None, refl, sym, ap, ◌∙◌, arith, append_assoc}
use Rattle.std.specs.List.{prefix_len}
use Rattle.std.specs.Str.{bytes_eq}
use Rattle.std.proofs.lemmas.Bool.{eqb-true}
use Rattle.std.proofs.lemmas.List.{append-nil}
use Rattle.http_model.specs.Head.{Field}
use Rattle.fcgi_model.specs.Head.{is_word_byte, target_at, line_at, field_of, fields_within, fields_from, more_fields, in_front}

-- fields that were read in front of others
abbrev pub prepended : List Field → Option (List Field) → Option (List Field)
prepended done None = None
prepended done (Some more) = Some (done ++ more)

-- so many lines are left at least
one_line : (n i : ℕ) (left : List ℕ) → i < n → fields_within (n - i) left ≡ fields_from (fields_within (n - (i + 1))) (line_at left)
one_line n i left h =
    let e : n - i ≡ suc (n - (i + 1)) = omega (arith, h) in
    ap (λ (m : ℕ). fields_within m left) e

pub ends_without : (done : List Field) (n i : ℕ) (left : List ℕ) (all : Option (List Field)) → i < n → prepended done (fields_within (n - i) left) ≡ all
    → line_at left ≡ None → None ≡ all
ends_without done n i left all h is none =
    sym (ap (λ (r : Option (List ℕ × List ℕ)). prepended done (fields_from (fields_within (n - (i + 1))) r)) none) ∙ sym (ap (prepended done) (one_line n i left h)) ∙ is

pub ends_whole : (done : List Field) (n i : ℕ) (left line rest : List ℕ) (all : Option (List Field)) → i < n → prepended done (fields_within (n - i) left) ≡ all
    → line_at left ≡ Some (line, rest) → nat_eq (length line) 0 ≡ true → Some done ≡ all
ends_whole done n i left [] rest all h is some empty =
    ap Some (sym (append-nil done))
    ∙ sym (ap (λ (r : Option (List ℕ × List ℕ)). prepended done (fields_from (fields_within (n - (i + 1))) r)) some)
    ∙ sym (ap (prepended done) (one_line n i left h)) ∙ is
ends_whole done n i left (b ∷ line) rest all h is some empty =
    let none : length (b ∷ line) ≡ 0 = eqb-true (length (b ∷ line)) 0 empty in
    absurd (omega (arith, none))

-- a line that isn't empty
pub full_line : (read : List ℕ → Option (List Field)) (line rest : List ℕ) → nat_eq (length line) 0 ≡ false → fields_from read (Some (line, rest)) ≡ more_fields (read rest) (field_of line)
full_line read [] rest full = absurd cc
full_line read (b ∷ line) rest full = refl

a_line : (done : List Field) (n i : ℕ) (left line rest : List ℕ) (all : Option (List Field)) → i < n → prepended done (fields_within (n - i) left) ≡ all
    → line_at left ≡ Some (line, rest) → nat_eq (length line) 0 ≡ false → prepended done (more_fields (fields_within (n - (i + 1)) rest) (field_of line)) ≡ all
a_line done n i left line rest all h is some full =
    sym (ap (prepended done) (full_line (fields_within (n - (i + 1))) line rest full))
    ∙ sym (ap (λ (r : Option (List ℕ × List ℕ)). prepended done (fields_from (fields_within (n - (i + 1))) r)) some)
    ∙ sym (ap (prepended done) (one_line n i left h)) ∙ is

pub ends_bad : (done : List Field) (n i : ℕ) (left line rest : List ℕ) (all : Option (List Field)) → i < n → prepended done (fields_within (n - i) left) ≡ all
    → line_at left ≡ Some (line, rest) → nat_eq (length line) 0 ≡ false → field_of line ≡ None → None ≡ all
ends_bad done n i left line rest all h is some full none =
    sym (ap (λ (f : Option Field). prepended done (more_fields (fields_within (n - (i + 1)) rest) f)) none) ∙ a_line done n i left line rest all h is some full

one_more : (done : List Field) (field : Field) (read : Option (List Field)) → prepended (done ++ field ∷ []) read ≡ prepended done (in_front field read)
one_more done field None = refl
one_more done field (Some more) = ap Some (append_assoc done (field ∷ []) more)

pub goes_on : (done : List Field) (n i : ℕ) (left line rest : List ℕ) (field : Field) (all : Option (List Field)) → i < n → prepended done (fields_within (n - i) left) ≡ all
    → line_at left ≡ Some (line, rest) → nat_eq (length line) 0 ≡ false → field_of line ≡ Some field → prepended (done ++ field ∷ []) (fields_within (n - (i + 1)) rest) ≡ all
goes_on done n i left line rest field all h is some full found =
    one_more done field (fields_within (n - (i + 1)) rest)
    ∙ sym (ap (λ (f : Option Field). prepended done (more_fields (fields_within (n - (i + 1)) rest) f)) found)
    ∙ a_line done n i left line rest all h is some full

pub ends_long : (done : List Field) (n i : ℕ) (left : List ℕ) (all : Option (List Field)) → n ≤ i → prepended done (fields_within (n - i) left) ≡ all → None ≡ all
ends_long done n i left all h is =
    let e : n - i ≡ 0 = omega (arith, h) in
    sym (ap (λ (m : ℕ). prepended done (fields_within m left)) e) ∙ is

-- no version behind the target
pub target_none : (method bytes version : List ℕ) → 1 ≤ length bytes → version ≡ drop (prefix_len is_word_byte (drop 1 bytes)) (drop 1 bytes) → bytes_eq version (codes " HTTP/1.1") ≡ false
    → None ≡ target_at method bytes
target_none method [] version some is off = absurd (omega (arith, some))
target_none method (b ∷ bytes) version some is off =
    sym (ap (λ (t : Bool). cond t (Some (method, take (prefix_len is_word_byte bytes) bytes)) None) (sym (ap (λ (v : List ℕ). bytes_eq v (codes " HTTP/1.1")) is) ∙ off))
