-- What is read of files that are told.
use Rattle.std.proofs.Common.{◌≡◌, ℕ, ◌<◌, ◌≤◌, List, [], ◌⊎◌, inl, inr, refl, sym, ap, ◌∙◌, subst, length, take, Bool, cond, arith}
use Rattle.std.specs.Prelude.{Option, Some, None, IsSomeAnd, slice_get, Result, Ok, Err}
use Rattle.std.proofs.lemmas.List.{take_all, length-take-le}
use Rattle.std.proofs.lemmas.Bool.{cases_lt, lt-leb, lt-ltb}
use Rattle.px_link.specs.Told.{NamedBytes, Reads}
use Rattle.http_rules.specs.declared.config.Config.{Config}
use Rattle.px_pattern.specs.Pattern.{Pattern}
use Rattle.px_pattern.specs.Refusals.{Kept}
use Rattle.cfg_parse.specs.Whole.{Placed, Refusal, read_whole, refused_at, decided, config_of, pattern_at, Builds, Loads}
use Rattle.cfg_parse.specs.Judged.{Answer, Counted, IsNamed, Judges, StandsIn, refused_by, refused_of, refused_whole, unbuilt_of, walk_of}
use Rattle.cfg_parse.specs.declared.refused.RefusedLine.{RefusedLine}
use Rattle.cfg_parse.specs.declared.refused.Verdict.{Verdict}
use Rattle.cfg_parse.specs.declared.fault.CfgFault.TheVariants as faults
use Rattle.cfg_parse.specs.declared.fault.CfgKind.{CfgKind}
use Rattle.cfg_parse.specs.declared.fault.CfgKind.TheVariants.{Limit}
use Rattle.rec_format.specs.Recorded as records
use Rattle.rec_format.specs.Recorded.{Recorded, record_of, in_format, and_then, or_refuse, format_of}
use Rattle.rec_format.specs.declared.record.RecKind.TheVariants as kinds
use Rattle.proxy_commands.specs.Answers.{IsRefused}
use Rattle.proxy_commands.specs.Files.{IfTold, Builder, Configured, RecordIs, RefusesAll, Say}

-- a text that is too long, and what of it decides
too_long : Placed Config
too_long = record { asks = []; gives = Err (0, Limit) }

long_read : (t : List ℕ) → 1048576 < length t → read_whole t ≡ too_long
unfolding read_whole too_long
long_read t many = rw (lt-ltb 1048576 (length t) many) refl

-- two properties of what files tell hold together
pub both : (files : Option (List NamedBytes)) (P Q : List NamedBytes → Type 0) → IfTold files P → IfTold files Q → IfTold files (λ fs. P fs × Q fs)
both None P Q p q = tt
both (Some fs) P Q p q = (p, q)

pub weaker : (files : Option (List NamedBytes)) (P Q : List NamedBytes → Type 0) → ((fs : List NamedBytes) → P fs → Q fs) → IfTold files P → IfTold files Q
weaker None P Q f p = tt
weaker (Some fs) P Q f p = f fs p

-- ---- the configuration

-- a text that is longer than the most is refused as such, as is what was read of it
same_read : (t : List ℕ) → read_whole (take 1048577 t) ≡ read_whole t
same_read t = by_size (cases_lt 1048576 (length t))
  where
    by_size : (1048576 < length t) ⊎ (length t ≤ 1048576) → read_whole (take 1048577 t) ≡ read_whole t
    by_size (inr few) = ap read_whole (take_all 1048577 t (omega arith))
    by_size (inl many) =
        let full : length (take 1048577 t) ≡ 1048577 = length-take-le 1048577 t (omega arith) in
        long_read (take 1048577 t) (omega arith) ∙ sym (long_read t many)

same_config : (t : List ℕ) (r : Option ℕ) → config_of (take 1048577 t) r ≡ config_of t r
unfolding config_of
same_config t r = ap (λ (read : Placed Config). decided read r) (same_read t)

same_pattern : (t : List ℕ) (number : ℕ) → pattern_at (take 1048577 t) number ≡ pattern_at t number
unfolding pattern_at
same_pattern t number = ap (λ (read : Placed Config). slice_get read.asks number) (same_read t)

same_builds : (t : List ℕ) (r : Option ℕ) (before now : ℕ) (kept : Kept) → Builds (take 1048577 t) r before now kept → Builds t r before now kept
same_builds t None before now kept builds = builds
same_builds t (Some number) before now kept builds =
    let Told : Option (ℕ × Pattern) → Type 0 = λ o. IsSomeAnd o (λ (line, p). kept ≡ Some (p.text, p.icase)) in
    (builds.0, subst Told (same_pattern t number) builds.1)

-- what the bytes that were read come to, the file does
pub configured : (files : Option (List NamedBytes)) (name bytes : List ℕ) (result : Result Config Refusal) → Reads files name 1048577 bytes → config_of bytes None ≡ result
    → IfTold files (λ fs. Configured fs name result)
configured None name bytes result r is = tt
configured (Some fs) name bytes result r is = (r.0, r.1, sym (same_config r.0 None) ∙ ap (λ t. config_of t None) (sym r.2) ∙ is)

-- where they are refused, the file is
pub refused : (files : Option (List NamedBytes)) (builder : Builder) (name bytes : List ℕ) (line : ℕ) (kind : CfgKind) → Reads files name 1048577 bytes
    → Loads bytes builder.before builder.now builder.kept (Err (faults.Refused line kind)) → IsRefused files builder name line kind
refused None builder name bytes line kind r loads = tt
refused (Some fs) builder name bytes line kind r loads =
    let builds : Builds (take 1048577 r.0) loads.r builder.before builder.now builder.kept =
    subst (λ t. Builds t loads.r builder.before builder.now builder.kept) r.2 loads.builds in (
      loads.r,
      (
        r.0,
        r.1,
        (
          sym (same_config r.0 loads.r) ∙ ap (λ t. config_of t loads.r) (sym r.2) ∙ loads.configures,
          same_builds r.0 loads.r builder.before builder.now builder.kept builds,
        ),
      ),
    )

-- so are all of its refused lines
same_refused : (t : List ℕ) (answers : List Answer) → (refused_of (take 1048577 t) answers ≡ refused_of t answers) × (unbuilt_of (take 1048577 t) answers ≡ unbuilt_of t answers)
unfolding refused_of unbuilt_of
same_refused t answers = by_size (cases_lt 1048576 (length t))
  where
    long_is : (text : List ℕ) → 1048576 < length text → (refused_of text answers ≡ refused_whole Limit) × (unbuilt_of text answers ≡ [])
    long_is text many =
        let is = lt-ltb 1048576 (length text) many in
        (ap (λ b. cond b (refused_whole Limit) (refused_by (walk_of text answers))) is, ap (λ b. cond b [] (walk_of text answers).unbuilt) is)

    by_size : (1048576 < length t) ⊎ (length t ≤ 1048576) → (refused_of (take 1048577 t) answers ≡ refused_of t answers) × (unbuilt_of (take 1048577 t) answers ≡ unbuilt_of t answers)
    by_size (inr few) =
        let is : take 1048577 t ≡ t = take_all 1048577 t (omega arith) in
        (ap (λ x. refused_of x answers) is, ap (λ x. unbuilt_of x answers) is)
    by_size (inl many) =
        let full : length (take 1048577 t) ≡ 1048577 = length-take-le 1048577 t (omega arith) in
        let front = long_is (take 1048577 t) (omega arith) in
        let whole = long_is t many in
        (front.0 ∙ sym whole.0, front.1 ∙ sym whole.1)

same_stands : (t : List ℕ) (line before now : ℕ) (r : Option ℕ) → StandsIn (take 1048577 t) line r before now → StandsIn t line r before now
same_stands t line before now None stands = tt
same_stands t line before now (Some place) stands =
    let There : Option (ℕ × Pattern) → Type 0 = λ o. IsSomeAnd o (λ (number, pattern). number ≡ line) in
    (stands.0, subst There (same_pattern t place) stands.1)

same_named : (t : List ℕ) (before now : ℕ) (line : RefusedLine) → IsNamed (take 1048577 t) before now line → IsNamed t before now line
same_named t before now line named = record {
  r = named.r;
  names = sym (same_config t named.r) ∙ named.names;
  builds = same_stands t line.line before now named.r named.builds;
}

-- the refused lines of the bytes that were read are those of the file
pub refused_all : (files : Option (List NamedBytes)) (builder : Builder) (name bytes : List ℕ) (verdict : Verdict) (judges : Judges bytes builder.before builder.now verdict) → Reads files name 1048577 bytes
    → 0 < length (refused_of bytes judges.answers) → IfTold files (λ fs. RefusesAll fs builder name (refused_of bytes judges.answers))
refused_all None builder name bytes verdict judges r some = tt
refused_all (Some fs) builder name bytes verdict judges r some =
    let same = same_refused r.0 judges.answers in (
      r.0,
      r.1,
      record {
        answers = judges.answers;
        lines = sym same.0 ∙ ap (λ t. refused_of t judges.answers) (sym r.2);
        some = some;
        counted = subst (λ (u : List (ℕ × Pattern)). Counted (length u) builder.before builder.now) (ap (λ t. unbuilt_of t judges.answers) r.2 ∙ same.1) judges.builds;
        first = λ line others e. same_named r.0 builder.before builder.now line (subst (λ (t : List ℕ). IsNamed t builder.before builder.now line) r.2 (judges.first line others e));
      },
    )

-- where the build of a pattern was refused, there is no configuration
never_refused : (read : Placed Config) (cfg : Config) (kept : Kept) (q : Option (ℕ × Pattern)) → refused_at read q ≡ Ok cfg → IsSomeAnd q (λ (line, p). kept ≡ Some (p.text, p.icase)) → ⊥
never_refused read cfg kept None is told = told
never_refused read cfg kept (Some (number, p)) is told = absurd cc

accepts_by : (text : List ℕ) (before now : ℕ) (kept : Kept) (cfg : Config) (r : Option ℕ) → config_of text r ≡ Ok cfg → Builds text r before now kept → config_of text None ≡ Ok cfg
unfolding config_of pattern_at
accepts_by text before now kept cfg None is builds = is
accepts_by text before now kept cfg (Some number) is builds = absurd (never_refused (read_whole text) cfg kept (slice_get (read_whole text).asks number) is builds.1)

built_by : (text : List ℕ) (before now : ℕ) (kept : Kept) (cfg : Config) (r : Option ℕ) → config_of text r ≡ Ok cfg → Builds text r before now kept → now ≡ before
unfolding config_of pattern_at
built_by text before now kept cfg None is builds = builds
built_by text before now kept cfg (Some number) is builds = absurd (never_refused (read_whole text) cfg kept (slice_get (read_whole text).asks number) is builds.1)

-- so a configuration is that of all patterns built, and the builder refused none
pub accepted_text : (text : List ℕ) (before now : ℕ) (kept : Kept) (cfg : Config) → Loads text before now kept (Ok cfg) → config_of text None ≡ Ok cfg
accepted_text text before now kept cfg loads = accepts_by text before now kept cfg loads.r loads.configures loads.builds

pub built_text : (text : List ℕ) (before now : ℕ) (kept : Kept) (cfg : Config) → Loads text before now kept (Ok cfg) → now ≡ before
built_text text before now kept cfg loads = built_by text before now kept cfg loads.r loads.configures loads.builds

-- ---- the record

too_many : Result Recorded records.Refusal
too_many = Err (record { place = 67108864; kind = kinds.Limit })

long_record : (t : List ℕ) → 67108864 < length t → record_of t ≡ too_many
unfolding record_of too_many
long_record t over =
    ap (λ (b : Bool). cond b (and_then (in_format (length t)) (or_refuse (length t) t kinds.Header (format_of t))) (Err (record { place = 67108864; kind = kinds.Limit })))
    (lt-leb (length t) 67108864 over)

-- a text that is longer than the most is refused as such, as is what was read of it
same_record : (t : List ℕ) → record_of (take 67108865 t) ≡ record_of t
same_record t = by_size (cases_lt 67108864 (length t))
  where
    by_size : (67108864 < length t) ⊎ (length t ≤ 67108864) → record_of (take 67108865 t) ≡ record_of t
    by_size (inr few) = ap record_of (take_all 67108865 t (omega arith))
    by_size (inl many) =
        let full : length (take 67108865 t) ≡ 67108865 = length-take-le 67108865 t (omega arith) in
        long_record (take 67108865 t) (omega arith) ∙ sym (long_record t many)

-- what the bytes that were read come to, the file does
pub recorded : (files : Option (List NamedBytes)) (name bytes : List ℕ) (result : Result Recorded records.Refusal) → Reads files name 67108865 bytes → record_of bytes ≡ result
    → IfTold files (λ fs. RecordIs fs name result)
recorded None name bytes result r is = tt
recorded (Some fs) name bytes result r is = (r.0, r.1, sym (same_record r.0) ∙ ap record_of (sym r.2) ∙ is)

-- a configuration and a record that are accepted are what the two files say
pub said : (files : Option (List NamedBytes)) (cfg_name rec_name bytes : List ℕ) (cfg : Config) (r : Recorded) → IfTold files (λ fs. Configured fs cfg_name (Ok cfg)) → Reads files rec_name 67108865 bytes
    → record_of bytes ≡ Ok r → IfTold files (λ fs. Say fs cfg_name rec_name cfg r)
said files cfg_name rec_name bytes cfg r is read accepts =
    weaker files (λ fs. Configured fs cfg_name (Ok cfg) × RecordIs fs rec_name (Ok r)) (λ fs. Say fs cfg_name rec_name cfg r)
    (λ fs h. record { configuration = h.0; accepted = h.1 })
    (both files (λ fs. Configured fs cfg_name (Ok cfg)) (λ fs. RecordIs fs rec_name (Ok r)) is (recorded files rec_name bytes (Ok r) read accepts))
