-- Interim heads in front of a final one.
use Rattle.std.proofs.Common.{◌≡◌, ℕ, ◌+◌, ◌-◌, ◌<◌, ◌≤◌, List, [], ◌∷◌, ◌++◌, Bool, true, false, refl, sym, ap, subst, ◌∙◌, length, drop, arith}
use Rattle.std.proofs.lemmas.List.{drop-drop, length-drop}
use Rattle.http_model.specs.Block.{Block}
use Rattle.http_model.specs.declared.Limits.{Limits}
use Rattle.http_model.specs.Head.{Head}
use Rattle.http_model.specs.Reading.{HeadReading, Received}
use Rattle.http_model.specs.Reading as reading
use Rattle.h1_head.specs.declared.answer.Side.TheVariants as readers
use Rattle.h1_head.specs.Sides.{kind_of}
use Rattle.h1_head.specs.Stream.{HeadOf}
use Rattle.h1_head.specs.Response.{ResponseOf}
use Rattle.session_model.specs.Asking.{Asker}
use Rattle.session_model.specs.Answering.{BeginsWithInterim}
use Rattle.session_model.specs.Meaning.{Meaning, is_interim}
use Rattle.http_rules.specs.declared.config.Config.{Config}
use Rattle.forward_core.specs.Meaning.Product.{meaning_of}
use Rattle.px_explain.specs.declared.heads.Head.{Head as FoundHead}
use Rattle.px_explain.specs.declared.heads.Found.TheVariants as found
use Rattle.px_explain.specs.Found.{BeginsAt, IsLast, IsFoundFinal}

-- what holds of the bytes behind interim heads
then_last : (M : Meaning) (asker : Asker) (heads : List Head) (stream mid : List ℕ) (P : List ℕ → Type 0) → BeginsWithInterim M asker heads stream (λ rest. rest ≡ mid) → P mid → BeginsWithInterim M asker heads stream P
then_last M asker [] stream mid P is p = subst P (sym is) p
then_last M asker (head ∷ heads) stream mid P h p = (h.0, h.1, h.2, h.3, h.4, then_last M asker heads h.1 mid P h.5 p)

-- one interim head more
then_more : (M : Meaning) (asker : Asker) (heads : List Head) (stream mid : List ℕ) (received : Received) (behind : List ℕ) → BeginsWithInterim M asker heads stream (λ rest. rest ≡ mid)
    → M.reads_response asker.head_asked mid (reading.Begins received behind) → is_interim received.head ≡ true → BeginsWithInterim M asker (heads ++ received.head ∷ []) stream (λ rest. rest ≡ behind)
then_more M asker [] stream mid received behind is reads on = (received, behind, subst (λ (s : List ℕ). M.reads_response asker.head_asked s (reading.Begins received behind)) (sym is) reads, on, refl, refl)
then_more M asker (head ∷ heads) stream mid received behind h reads on = (h.0, h.1, h.2, h.3, h.4, then_more M asker heads h.1 mid received behind h.5 reads on)

-- interim heads alone stand in front of a place
abbrev pub Passed : Config → Asker → (stream : List ℕ) → (from : ℕ) → Type 0
Passed cfg asker stream from = (heads : List Head) × BeginsWithInterim (meaning_of cfg) asker heads stream (λ rest. rest ≡ drop from stream)

module _ (cfg : Config) (asker : Asker) (limits : Limits) (asked : Bool) (stream rest : List ℕ) (from : ℕ) (limits_are : cfg.limits ≡ limits) (asked_is : asker.head_asked ≡ asked) (same : rest ≡ drop from stream) where
  reads : (head : HeadReading) → HeadOf (kind_of (readers.Response asked)) limits rest head → ResponseOf asker.head_asked cfg.limits (drop from stream) head
  reads head h =
      subst (λ (s : List ℕ). ResponseOf asker.head_asked cfg.limits s head) same
      (subst (λ (l : Limits). ResponseOf asker.head_asked l rest head) (sym limits_are)
      (subst (λ (b : Bool). ResponseOf b limits rest head) (sym asked_is) h))

  pub nothing : (blocks : List Block) → Passed cfg asker stream from → HeadOf (kind_of (readers.Response asked)) limits rest reading.Nothing → IsFoundFinal cfg asker stream found.Nothing blocks
  nothing blocks p h = (p.0, then_last (meaning_of cfg) asker p.0 stream (drop from stream) (IsLast cfg asker found.Nothing blocks) p.1 (reads reading.Nothing h))

  pub refused : (blocks : List Block) (code : ℕ) → Passed cfg asker stream from → HeadOf (kind_of (readers.Response asked)) limits rest (reading.Refused code) → IsFoundFinal cfg asker stream (found.Refused code) blocks
  refused blocks code p h = (p.0, then_last (meaning_of cfg) asker p.0 stream (drop from stream) (IsLast cfg asker (found.Refused code) blocks) p.1 (reads (reading.Refused code) h))

  pub final : (blocks : List Block) (head : FoundHead) → Passed cfg asker stream from → (b : BeginsAt (kind_of (readers.Response asked)) limits rest head blocks) → is_interim b.received.head ≡ false
      → IsFoundFinal cfg asker stream (found.Head head) blocks
  final blocks head p b off = (
    p.0,
    then_last (meaning_of cfg) asker p.0 stream (drop from stream) (IsLast cfg asker (found.Head head) blocks) p.1
        (b.received, b.stands, off, drop head.used rest, reads (reading.Begins b.received (drop head.used rest)) b.reads),
  )

  pub more : (blocks : List Block) (head : FoundHead) → Passed cfg asker stream from → (b : BeginsAt (kind_of (readers.Response asked)) limits rest head blocks) → is_interim b.received.head ≡ true
      → Passed cfg asker stream (from + head.used)
  more blocks head p b on =
      let cut : drop head.used rest ≡ drop (from + head.used) stream = ap (λ (s : List ℕ). drop head.used s) same ∙ drop-drop head.used from stream in (
        p.0 ++ b.received.head ∷ [],
        subst (λ (t : List ℕ). BeginsWithInterim (meaning_of cfg) asker (p.0 ++ b.received.head ∷ []) stream (λ r. r ≡ t)) cut
            (then_more (meaning_of cfg) asker p.0 stream (drop from stream) b.received (drop head.used rest) p.1 (reads (reading.Begins b.received (drop head.used rest)) b.reads) on),
      )

-- a place behind a head is within, and further on
pub within : (stream rest : List ℕ) (from used : ℕ) → from ≤ length stream → rest ≡ drop from stream → used ≤ length rest → from + used ≤ length stream
within stream rest from used inside same short = omega (arith, length-drop from stream, ap (λ (s : List ℕ). length s) same)

pub further : (stream rest : List ℕ) (from used : ℕ) → from ≤ length stream → rest ≡ drop from stream → length (drop used rest) < length rest → length stream - (from + used) < length stream - from
further stream rest from used inside same less = omega (arith, length-drop from stream, length-drop used rest, ap (λ (s : List ℕ). length s) same)
