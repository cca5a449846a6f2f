-- The records that carry the bytes of a body.
use Rattle.std.proofs.Common.{◌≡◌, ◌≢◌, ℕ, ◌+◌, ◌-◌, ◌<◌, ◌≤◌, Bool, true, false, cond, List, [], ◌∷◌, ◌++◌, length, take, drop, take-add, refl, sym, ap, subst, ◌∙◌, arith, append_assoc}
use Rattle.std.specs.List.{flat_map}
use Rattle.std.proofs.lemmas.List.{append-nil, length-take-le, take_rest}
use Rattle.std.proofs.lemmas.Grind.{flat_map-append}
use Rattle.std.proofs.lemmas.List.Elements.{All-nil, All-cons, All-append}
use Rattle.fcgi_record.specs.declared.record_kind.RecordKind.TheVariants.{Stdin}
use Rattle.fcgi_model.specs.Records.{record_bytes, IsContent, CarriesBody}
use Rattle.fcgi_model.specs.Body.{Place, Goes, is_whole, InLength, InSize, BehindSize, InChunk, BehindChunk, BehindReturn, AtTrailer, InTrailer, BehindTrailer, AtLast, Whole, Broken}
use Rattle.fcgi_model.specs.Flow.{body_end}
use Rattle.fcgi_lane.specs.Request.Sending.{Sends, Continues}
use Rattle.fcgi_lane.proofs.RequestLemmas.Places.{goes_on, goes_nowhere}

-- ---- records

pub carries_none : CarriesBody [] []
carries_none = record { contents = []; each = All-nil IsContent; joined = refl; spelled = refl }

pub carries_one : (content : List ℕ) → content ≢ [] → length content ≤ 8192 → CarriesBody content (record_bytes Stdin content)
carries_one content some short = record {
  contents = content ∷ [];
  each = All-cons IsContent content [] (some, short) (All-nil IsContent);
  joined = append-nil content;
  spelled = sym (append-nil (record_bytes Stdin content));
}

pub carries_both : (a b s t : List ℕ) → CarriesBody a s → CarriesBody b t → CarriesBody (a ++ b) (s ++ t)
carries_both a b s t one two = record {
  contents = one.contents ++ two.contents;
  each = All-append IsContent one.contents two.contents one.each two.each;
  joined = flat_map-append (λ (c : List ℕ). c) one.contents two.contents ∙ ap (λ (x : List ℕ). x ++ flat_map (λ (c : List ℕ). c) two.contents) one.joined ∙ ap (λ (x : List ℕ). a ++ x) two.joined;
  spelled = ap (λ (x : List ℕ). x ++ t) one.spelled ∙ ap (λ (x : List ℕ). flat_map (record_bytes Stdin) one.contents ++ x) two.spelled
      ∙ sym (flat_map-append (record_bytes Stdin) one.contents two.contents);
}

-- ---- records of runs

pub sends_nothing : (a : Place) (made : List ℕ) → Sends a [] a made made
sends_nothing a made = record { found = []; text = []; goes = goes_nowhere a; carries = carries_none; is = sym (append-nil made) }

pub sends_on : (a b c : Place) (xs ys old mid new : List ℕ) → Sends a xs b old mid → Sends b ys c mid new → Sends a (xs ++ ys) c old new
sends_on a b c xs ys old mid new one two = record {
  found = one.found ++ two.found;
  text = one.text ++ two.text;
  goes = goes_on a b c xs ys one.found two.found one.goes two.goes;
  carries = carries_both one.found two.found one.text two.text one.carries two.carries;
  is = two.is ∙ ap (λ (t : List ℕ). t ++ two.text) one.is ∙ append_assoc old one.text two.text;
}

filled : (n : ℕ) (bytes : List ℕ) → 0 < n → n ≤ length bytes → take n bytes ≢ []
filled n bytes some fits none =
    let size : length (take n bytes) ≡ n = length-take-le n bytes fits in
    let empty : length (take n bytes) ≡ 0 = ap length none in
    omega (arith, some, size, empty)

-- a run of the body is one record
pub sends_run : (from to : Place) (bytes old new : List ℕ) (n : ℕ) → Goes from (take n bytes) to (take n bytes) → 0 < n → n ≤ length bytes → n ≤ 8192
    → new ≡ old ++ record_bytes Stdin (take n bytes) → Sends from (take n bytes) to old new
sends_run from to bytes old new n goes some fits short is =
    let size : length (take n bytes) ≡ n = length-take-le n bytes fits in
    record {
      found = take n bytes;
      text = record_bytes Stdin (take n bytes);
      goes = goes;
      carries = carries_one (take n bytes) (filled n bytes some fits) (omega (arith, size, short));
      is = is;
    }

-- runs one after the other
pub sends_more : (from via to : Place) (bytes old mid new : List ℕ) (used n : ℕ) → Sends from (take used bytes) via old mid → Sends via (take n (take (length bytes - used) (drop used bytes))) to mid new
    → Sends from (take (used + n) bytes) to old new
sends_more from via to bytes old mid new used n one two =
    subst (λ (t : List ℕ). Sends from t to old new) (sym (take-add used n bytes))
    (sends_on from via to (take used bytes) (take n (drop used bytes)) old mid new one
    (subst (λ (r : List ℕ). Sends via (take n r) to mid new) (take_rest bytes used) two))

-- ---- the end of a body

whole_place : (at : Place) → is_whole at ≡ true → at ≡ Whole
whole_place Whole h = refl
whole_place (InLength left) h = absurd cc
whole_place (InSize some size) h = absurd cc
whole_place (BehindSize size) h = absurd cc
whole_place (InChunk left) h = absurd cc
whole_place BehindChunk h = absurd cc
whole_place BehindReturn h = absurd cc
whole_place AtTrailer h = absurd cc
whole_place InTrailer h = absurd cc
whole_place BehindTrailer h = absurd cc
whole_place AtLast h = absurd cc
whole_place Broken h = absurd cc

stays_whole : (bytes : List ℕ) → Goes Whole bytes Whole []
stays_whole [] = record { place = refl; found = refl }
stays_whole (b ∷ bytes) = let rest = stays_whole bytes in record { place = rest.place; found = rest.found }

pub continues_whole : (at : Place) (bytes made : List ℕ) → is_whole at ≡ true → made ≡ [] → Continues at bytes at made
continues_whole at bytes made whole none = record {
  found = [];
  text = [];
  goes = subst (λ (p : Place). Goes p bytes p []) (sym (whole_place at whole)) (stays_whole bytes);
  carries = carries_none;
  is = ap (λ (m : List ℕ). body_end at ++ m) none ∙ append-nil (body_end at);
}

pub continues_on : (from to : Place) (bytes start mid made : List ℕ) → is_whole from ≡ false → start ≡ [] → Sends from bytes to start mid → made ≡ mid ++ body_end to → Continues from bytes to made
continues_on from to bytes start mid made going none sends is = record {
  found = sends.found;
  text = sends.text;
  goes = sends.goes;
  carries = sends.carries;
  is = ap (λ (t : Bool). cond t (record_bytes Stdin []) [] ++ made) going ∙ is
      ∙ ap (λ (m : List ℕ). m ++ body_end to) (sends.is ∙ ap (λ (s : List ℕ). s ++ sends.text) none);
}
