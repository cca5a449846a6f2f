-- What the stages make of a window.
use Rattle.std.proofs.Common.{rules, ◌≡◌, ℕ, ◌+◌, ◌-◌, ◌<◌, ◌≤◌, ◌⊎◌, inl, inr, List, [], ◌++◌, refl, sym, ap, ◌∙◌, arith, length, take, subst}
use Rattle.std.specs.Prelude.{IfSome, slice_range}
use Rattle.std.proofs.lemmas.List.{length-take-le}
use Rattle.std.proofs.Math.Seq.{take-length}
use Rattle.httparse.specs.Grammar as grammar
use Rattle.http_model.specs.declared.Framing.{Framing}
use Rattle.http_model.specs.declared.Limits.{Limits}
use Rattle.h1_body.specs.declared.stages.Stage.TheVariants as stage
use Rattle.h1_body.specs.declared.stages.Found.{Found}
use Rattle.h1_body.specs.declared.stages.Found.TheVariants as found
use Rattle.h1_body.specs.declared.stages.Fed.{Fed}
use Rattle.h1_body.specs.declared.reader.Span.{Span}
use Rattle.h1_body.specs.declared.reader.BodyReader.{BodyReader}
use Rattle.h1_body.specs.Body.{BodyAt, Left, UntilClose, InData, AtReturn, InSection, Over, Goes}
use Rattle.h1_body.specs.Section.{section_limit, BeginsSection, IsHopelessSection, MayComeSection}
use Rattle.h1_body.specs.Stands.{Feeds, HasRead, start_of, data_len, section_len, span_of, bytes_of, OnSection}
use Rattle.h1_body.proofs.Runs.{goes_both, left_goes, left_ends, data_goes, data_ends, close_goes}
use Rattle.h1_body.proofs.Lines.{section_goes}

taken : (n : ℕ) (w : List ℕ) → n ≤ length w → length (take n w) ≡ n
taken n w fits = length-take-le n w fits

idle : (n left len room : ℕ) → n < left → (n ≡ left) ⊎ ((n ≡ len) ⊎ (n ≡ room)) → n ≡ 0 → (room ≡ 0) ⊎ (len ≡ 0)
idle n left len room less (inl e) none = absurd (omega arith)
idle n left len room less (inr (inl e)) none = inr (sym e ∙ none)
idle n left len room less (inr (inr e)) none = inl (sym e ∙ none)

pub left_over : (most left n room : ℕ) (w : List ℕ) → n ≤ length w → n ≤ room → n ≡ left → Feeds most (stage.Left left) w room (record { stage = stage.Over; used = n; found = found.Data n })
left_over most left n room w fits free all = record {
  used = fits;
  piece = (free, omega arith);
  section = tt;
  leads = λ at s. (Over [], subst (λ (p : BodyAt). Goes p (take n w) (Over []) (take n w)) (sym s.1) (left_ends left (take n w) s.0 (taken n w fits ∙ all)), inl refl, refl);
  waits = λ at s none. tt;
}

pub left_more : (most left n room : ℕ) (w : List ℕ) → n ≤ length w → n ≤ room → n < left → (n ≡ left) ⊎ ((n ≡ length w) ⊎ (n ≡ room))
    → Feeds most (stage.Left left) w room (record { stage = stage.Left (left - n); used = n; found = found.Data n })
left_more cap left n room w fits free less most =
    let size : length (take n w) ≡ n = taken n w fits in
    record {
      used = fits;
      piece = (free, omega arith);
      section = tt;
      leads = λ at s. (
        Left (left - n),
        subst (λ (p : BodyAt). Goes p (take n w) (Left (left - n)) (take n w)) (sym s.1)
            (subst (λ (k : ℕ). Goes (Left left) (take n w) (Left (left - k)) (take n w)) size (left_goes left (take n w) (omega arith))),
        (omega arith, refl),
        refl,
      );
      waits = λ at s none. idle n left (length w) room less most none;
    }

pub data_over : (most left n room : ℕ) (w : List ℕ) → n ≤ length w → n ≤ room → n ≡ left → Feeds most (stage.Data left) w room (record { stage = stage.LineEnd; used = n; found = found.Data n })
data_over most left n room w fits free all = record {
  used = fits;
  piece = (free, omega arith);
  section = tt;
  leads = λ at s. (AtReturn, subst (λ (p : BodyAt). Goes p (take n w) AtReturn (take n w)) (sym s.1) (data_ends left (take n w) s.0 (taken n w fits ∙ all)), refl, refl);
  waits = λ at s none. absurd (omega arith);
}

pub data_more : (most left n room : ℕ) (w : List ℕ) → n ≤ length w → n ≤ room → n < left → (n ≡ left) ⊎ ((n ≡ length w) ⊎ (n ≡ room))
    → Feeds most (stage.Data left) w room (record { stage = stage.Data (left - n); used = n; found = found.Data n })
data_more cap left n room w fits free less most =
    let size : length (take n w) ≡ n = taken n w fits in
    record {
      used = fits;
      piece = (free, omega arith);
      section = tt;
      leads = λ at s. (
        InData (left - n),
        subst (λ (p : BodyAt). Goes p (take n w) (InData (left - n)) (take n w)) (sym s.1)
            (subst (λ (k : ℕ). Goes (InData left) (take n w) (InData (left - k)) (take n w)) size (data_goes left (take n w) (omega arith))),
        (omega arith, refl),
        refl,
      );
      waits = λ at s none. idle n left (length w) room less most none;
    }

pub close_more : (most n room : ℕ) (w : List ℕ) → n ≤ length w → n ≤ room → (n ≡ length w) ⊎ (n ≡ room) → Feeds most stage.UntilClose w room (record { stage = stage.UntilClose; used = n; found = found.Data n })
close_more cap n room w fits free most = record {
  used = fits;
  piece = (free, omega arith);
  section = tt;
  leads = λ at s. (UntilClose, subst (λ (p : BodyAt). Goes p (take n w) UntilClose (take n w)) (sym s) (close_goes (take n w)), refl, refl);
  waits = λ at s none. idle n (n + 1) (length w) room (omega arith) (inr most) none;
}

-- a step goes on from what was read
pub reads_on : (old new : BodyReader) (w : List ℕ) (room : ℕ) (fed : Fed) (piece given : List ℕ) → Feeds old.section_limit old.stage w room fed
    → new ≡ record { stage = fed.stage; section_limit = old.section_limit } → piece ≡ take (data_len fed.found) w → given ≡ take (section_len fed.found) w
    → (limits : Limits) (framing : Framing) (bytes found section : List ℕ) → HasRead limits framing bytes found section old
    → HasRead limits framing (bytes ++ take fed.used w) (found ++ piece) (section ++ given) new
reads_on old new w room fed piece given feeds is part span limits framing bytes found section read =
    let same : old.section_limit ≡ section_limit limits = read.limit in
    let here : Feeds (section_limit limits) old.stage w room fed = subst (λ (k : ℕ). Feeds k old.stage w room fed) same feeds in
    let next = here.leads read.at read.stands in
    let reads : HasRead limits framing (bytes ++ take fed.used w) (found ++ take (data_len fed.found) w) (section ++ take (section_len fed.found) w) (record { stage = fed.stage; section_limit = old.section_limit })
    = record {
      at = next.0;
      sized = read.sized;
      limit = same;
      goes = goes_both (start_of framing) read.at next.0 bytes (take fed.used w) found (take (data_len fed.found) w) read.goes next.1;
      stands = next.2;
      sections = next.3 ∙ ap (λ s. s ++ take (section_len fed.found) w) read.sections;
    } in
    subst (λ (r : BodyReader). HasRead limits framing (bytes ++ take fed.used w) (found ++ piece) (section ++ given) r) (sym is)
    (subst (λ (p : List ℕ). HasRead limits framing (bytes ++ take fed.used w) (found ++ p) (section ++ given) (record { stage = fed.stage; section_limit = old.section_limit })) (sym part)
    (subst (λ (s : List ℕ). HasRead limits framing (bytes ++ take fed.used w) (found ++ take (data_len fed.found) w) (section ++ s) (record { stage = fed.stage; section_limit = old.section_limit })) (sym span) reads))

-- a whole section
pub section_over : (most n room : ℕ) (w : List ℕ) → 0 < n → n ≤ length w → (fields : List grammar.Field) → BeginsSection most (take n w) fields []
    → Feeds most stage.Section w room (record { stage = stage.Over; used = n; found = found.Section n })
section_over most n room w some fits fields is = record {
  used = fits;
  piece = (omega arith, omega arith);
  section = record {
    some = some;
    inside = omega arith;
    short = let size : length (take n w) ≡ n = taken n w fits in let most_of : length (take n w) ≤ most + 0 = is.short in omega arith;
    fields = (fields, is.begins);
  };
  leads = λ p s. (
    InSection (take n w),
    subst (λ (q : BodyAt). Goes q (take n w) (InSection (take n w)) []) (sym s) (section_goes (take n w) []),
    inr (take n w, refl, (fields, is)),
    refl,
  );
  waits = λ p s e. tt;
}

pub section_more : (most room : ℕ) (w : List ℕ) → MayComeSection most w
    → Feeds most stage.Section w room (record { stage = stage.Section; used = 0; found = found.Nothing })
section_more most room w may = record {
  used = omega arith;
  piece = (omega arith, omega arith);
  section = tt;
  leads = λ p s. (p, record { place = refl; piece = refl }, s, refl);
  waits = λ p s e. may;
}

pub section_dead : (most room : ℕ) (w : List ℕ) → IsHopelessSection most w → Feeds most stage.Section w room (record { stage = stage.Dead; used = length w; found = found.Nothing })
section_dead most room w over = record {
  used = omega arith;
  piece = (omega arith, omega arith);
  section = tt;
  leads = λ p s. (
    InSection w,
    subst (λ (q : BodyAt). Goes q (take (length w) w) (InSection w) []) (sym s) (subst (λ (xs : List ℕ). Goes (InSection []) xs (InSection w) []) (sym (take-length w)) (section_goes w [])),
    inr (w, refl, over),
    refl,
  );
  waits = λ p s e. tt;
}

-- ---- what a step gives to its caller

pub front_is : (w : List ℕ) (n : ℕ) → slice_range w 0 (0 + n) ≡ take n w
front_is w n = search rules

pub bytes_given : (w : List ℕ) (f : Found) → bytes_of w (span_of f) ≡ take (section_len f) w
bytes_given w found.Nothing = refl
bytes_given w (found.Data n) = refl
bytes_given w (found.Section n) = front_is w n

pub given_as : (P : ℕ → Type 0) (Q : Span → Type 0) (f : Found) → OnSection f P → ((n : ℕ) → P n → f ≡ found.Section n → Q (record { from = 0; len = n })) → IfSome (span_of f) Q
given_as P Q found.Nothing on q = tt
given_as P Q (found.Data n) on q = tt
given_as P Q (found.Section n) on q = q n on refl
