-- What a reader knows of the bytes that it was fed, from one piece to the next.
use Rattle.std.proofs.Common.{◌≡◌, ℕ, ◌+◌, ◌-◌, ◌≤◌, ◌<◌, Bool, true, false, cond, not, ◌||◌, List, [], ◌∷◌, ◌++◌, length, take, inl, inr, ◌⊎◌, refl, sym, ap, subst, ◌∙◌, arith, lt-ltb, length-append}
use Rattle.std.specs.Prelude.{Option, Some, None, codes, nat_lt}
use Rattle.std.specs.Str.{bytes_eq}
use Rattle.std.proofs.lemmas.Bool.{ltb-true, ltb-false, cases_lt}
use Rattle.std.proofs.lemmas.List.{append-nil, nil_from_length, take_all, take-take, take-append-le, length-take-le}
use Rattle.px_peer.specs.declared.Pair.{Pair}
use Rattle.px_proxyproto.specs.declared.state.ProxyState.{ProxyState}
use Rattle.px_proxyproto.specs.declared.state.ProxyState.TheVariants.{More, Got, Bad}
use Rattle.px_proxyproto.specs.Binary.{signature, is_signed, block_len}
use Rattle.px_proxyproto.specs.Lines.{IsLineOf, Words, spelled, family_word, line_end}
use Rattle.px_proxyproto.specs.Headers.{IsHeader, NoHeader, NoneYet, Lacks, MayStill}
use Rattle.px_proxyproto.specs.Reading.{Read, IsOf, IsWithin, HasRead, wants_of, Tells, Told}
use Rattle.px_proxyproto.proofs.Fronts.{signed_is, signed_agrees, text_apart}
use Rattle.px_proxyproto.proofs.Lengths.{more_len}
use Rattle.px_proxyproto.proofs.Blocks.{kept_len}

-- ---- the least length of a header

words_len : (w : Words) → 3 ≤ length (spelled w)
words_len w =
    let ports : List ℕ = w.src_port ++ (32 ∷ w.dst_port) in
    omega (arith, length-append w.src (32 ∷ (w.dst ++ (32 ∷ ports))), length-append w.dst (32 ∷ ports), length-append w.src_port (32 ∷ w.dst_port))

line_len : (line : List ℕ) (told : Option Pair) → IsLineOf line told → 13 ≤ length line
line_len line None is = omega (arith, ap length is.1, length-append (codes "PROXY UNKNOWN") is.0)
line_len line (Some pair) (inl h) = omega (arith, ap length h.1, length-append (family_word false) h.0, ap length h.2.1.whole, words_len h.2.0)
line_len line (Some pair) (inr h) = omega (arith, ap length h.1, length-append (family_word true) h.0, ap length h.2.1.whole, words_len h.2.0)

header_len : (bytes : List ℕ) (pair : Option Pair) → IsHeader bytes pair → 15 ≤ length bytes
header_len bytes pair (inl is) = omega (arith, ap length is.ends, length-append is.line line_end, line_len is.line pair is.tells)
header_len bytes pair (inr is) = omega (arith, is.len)

-- ---- the signature and the length of the bytes that are kept, and of more bytes

signed_more : (bytes rest : List ℕ) → 12 ≤ length bytes → is_signed (bytes ++ rest) ≡ is_signed bytes
signed_more bytes rest long = ap (bytes_eq signature) (take-append-le 12 bytes rest long)

signed_kept : (bytes : List ℕ) → is_signed (take 107 bytes) ≡ is_signed bytes
signed_kept bytes = ap (bytes_eq signature) (take-take 12 107 bytes (omega arith))

signed_total : (bytes rest : List ℕ) (pair : Option Pair) → is_signed bytes ≡ true → 16 ≤ length bytes → IsHeader (bytes ++ rest) pair → length bytes + length rest ≡ 16 + block_len bytes
signed_total bytes rest pair signed long (inl is) = absurd (text_apart bytes rest pair (omega (arith, long)) (signed_agrees bytes (signed_is bytes signed)) is)
signed_total bytes rest pair signed long (inr is) = omega (arith, is.len, length-append bytes rest, more_len bytes rest long)

more_comes : (bytes rest : List ℕ) (pair : Option Pair) → NoneYet bytes → IsHeader (bytes ++ rest) pair → 1 ≤ length rest
more_comes bytes [] pair none is = absurd (none (bytes ++ []) [] pair (sym (append-nil (bytes ++ []) ∙ append-nil bytes)) is)
more_comes bytes (x ∷ rest) pair none is = omega arith

-- ---- how many bytes are wanted

pub data Wants (read : Read) : Type 0 where
  in_front : read.count < 15 → wants_of read ≡ 15 - read.count → Wants read
  by_byte : 15 ≤ read.count → (read.count < 16) ⊎ (is_signed read.front ≡ false) → wants_of read ≡ cond (nat_lt read.count 107) 1 0 → Wants read
  in_block : 16 ≤ read.count → is_signed read.front ≡ true → wants_of read ≡ 16 + block_len read.front - read.count → Wants read

wants_by : (a b s : Bool) (x y z : ℕ)
    → ((a ≡ true) × (cond a x (cond (b || not s) y z) ≡ x))
    ⊎ (((a ≡ false) × ((b ≡ true) ⊎ (s ≡ false)) × (cond a x (cond (b || not s) y z) ≡ y))
    ⊎ ((a ≡ false) × (b ≡ false) × (s ≡ true) × (cond a x (cond (b || not s) y z) ≡ z)))
wants_by true b s x y z = inl (refl, refl)
wants_by false true s x y z = inr (inl (refl, inl refl, refl))
wants_by false false false x y z = inr (inl (refl, inr refl, refl))
wants_by false false true x y z = inr (inr (refl, refl, refl, refl))

byte_by : (count : ℕ) (s : Bool) → (nat_lt count 16 ≡ true) ⊎ (s ≡ false) → (count < 16) ⊎ (s ≡ false)
byte_by count s (inl e) = inl (ltb-true count 16 e)
byte_by count s (inr e) = inr e

wants_is : (read : Read) → Wants read
wants_is read =
    elim (wants_by (nat_lt read.count 15) (nat_lt read.count 16) (is_signed read.front) (15 - read.count) (cond (nat_lt read.count 107) 1 0) (16 + block_len read.front - read.count)) [
      | inl h ↦ in_front (ltb-true read.count 15 h.0) h.1
      | inr t ↦ elim t [
        | inl h ↦ by_byte (ltb-false read.count 15 h.0) (byte_by read.count (is_signed read.front) h.1) h.2
        | inr h ↦ in_block (ltb-false read.count 16 h.1) h.2 h.3
      ]
    ]

one_at_most : (b : Bool) → cond b 1 0 ≤ 1
one_at_most true = omega arith
one_at_most false = omega arith

unsigned_front : (read : Read) (bytes : List ℕ) → IsOf read bytes → is_signed read.front ≡ is_signed bytes
unsigned_front read bytes is = ap is_signed is.front ∙ signed_kept bytes

front_len : (read : Read) (bytes : List ℕ) → IsOf read bytes → block_len read.front ≡ block_len bytes
front_len read bytes is = ap block_len is.front ∙ kept_len bytes

below_line : (read : Read) (bytes : List ℕ) → HasRead read bytes → (read.count < 16) ⊎ (is_signed read.front ≡ false) → read.count < 107
below_line read bytes has (inl short) = omega (arith, short)
below_line read bytes has (inr unsigned) = omega (arith, has.is.count, has.may.text (sym (unsigned_front read bytes has.is) ∙ unsigned))

-- a block isn't there yet, and so far there is room
block_room : (bytes : List ℕ) → MayStill bytes → is_signed bytes ≡ true → 16 ≤ length bytes → length bytes < 16 + block_len bytes
block_room bytes may signed long =
    let h = may.binary signed long in
    omega (arith, signed_total bytes h.0 h.1 signed long h.2, more_comes bytes h.0 h.1 may.none_yet h.2)

lacks_by : (read : Read) (bytes : List ℕ) → HasRead read bytes → Wants read → (1 ≤ wants_of read) × Lacks bytes (wants_of read)
lacks_by read bytes has (in_front short e) = (
  omega (arith, e, short),
  λ rest pair is. omega (arith, e, has.is.count, header_len (bytes ++ rest) pair is, length-append bytes rest),
)
lacks_by read bytes has (by_byte long at e) =
    let one : wants_of read ≡ 1 = e ∙ ap (λ (b : Bool). cond b 1 0) (lt-ltb read.count 107 (below_line read bytes has at)) in (
      omega (arith, one),
      λ rest pair is. omega (arith, one, more_comes bytes rest pair has.may.none_yet is),
    )
lacks_by read bytes has (in_block long signed e) =
    let is_it : is_signed bytes ≡ true = sym (unsigned_front read bytes has.is) ∙ signed in
    let fits : 16 ≤ length bytes = omega (arith, long, has.is.count) in
    let len = front_len read bytes has.is in (
      omega (arith, e, len, has.is.count, block_room bytes has.may is_it fits),
      λ rest pair is. omega (arith, e, len, has.is.count, signed_total bytes rest pair is_it fits is),
    )

pub lacks : (read : Read) (bytes : List ℕ) → HasRead read bytes → (1 ≤ wants_of read) × Lacks bytes (wants_of read)
lacks read bytes has = lacks_by read bytes has (wants_is read)

no_both : (b : Bool) → b ≡ true → b ≡ false → ⊥
no_both b e f = let both : true ≡ false = sym e ∙ f in absurd cc

within_byte : (read : Read) (before bytes : List ℕ) → HasRead read before → 15 ≤ read.count → length bytes ≤ 1 → (read.count < 16) ⊎ (is_signed read.front ≡ false) → IsWithin (before ++ bytes)
within_byte read before bytes has long one (inl short) = record {
  text = λ _. omega (arith, short, one, has.is.count, length-append before bytes);
  binary = λ _ _. omega (arith, short, one, has.is.count, length-append before bytes);
}
within_byte read before bytes has long one (inr unsigned) =
    let same : is_signed (before ++ bytes) ≡ is_signed before = signed_more before bytes (omega (arith, long, has.is.count)) in
    let is_not : is_signed before ≡ false = sym (unsigned_front read before has.is) ∙ unsigned in
    record {
      text = λ _. omega (arith, has.may.text is_not, one, length-append before bytes);
      binary = λ signed _. absurd (no_both (is_signed before) (sym same ∙ signed) is_not);
    }

within_by : (read : Read) (before bytes : List ℕ) → HasRead read before → length bytes ≤ wants_of read → Wants read → IsWithin (before ++ bytes)
within_by read before bytes has fits (in_front short e) = record {
  text = λ _. omega (arith, fits, short, e, has.is.count, length-append before bytes);
  binary = λ _ _. omega (arith, fits, short, e, has.is.count, length-append before bytes);
}
within_by read before bytes has fits (by_byte long at e) =
    within_byte read before bytes has long (omega (arith, fits, e, one_at_most (nat_lt read.count 107))) at
within_by read before bytes has fits (in_block long signed e) =
    let enough : 16 ≤ length before = omega (arith, long, has.is.count) in
    let same : is_signed (before ++ bytes) ≡ is_signed before = signed_more before bytes (omega (arith, enough)) in
    let is_it : is_signed before ≡ true = sym (unsigned_front read before has.is) ∙ signed in
    let len = front_len read before has.is in
    let all = more_len before bytes enough in
    record {
      text = λ not_it. absurd (no_both (is_signed before) is_it (sym same ∙ not_it));
      binary = λ _ _. omega (arith, fits, e, len, all, has.is.count, block_room before has.may is_it enough, length-append before bytes);
    }

pub within : (read : Read) (before bytes : List ℕ) → HasRead read before → length bytes ≤ wants_of read → IsWithin (before ++ bytes)
within read before bytes has fits = within_by read before bytes has fits (wants_is read)

-- ---- what is told behind one more piece

pub heads : (x y : ℕ) (xs ys : List ℕ) → x ∷ xs ≡ y ∷ ys → (x ≡ y) × (xs ≡ ys)
heads x y xs ys e = (cc, cc)

-- of two fronts of one text, one is a front of the other
pub splits : (a b c d : List ℕ) → a ++ b ≡ c ++ d → ((x : List ℕ) × (a ≡ c ++ x)) ⊎ ((x : List ℕ) × (c ≡ a ++ x) × (b ≡ x ++ d))
splits [] b c d e = inr (c, refl, e)
splits (x ∷ a) b [] d e = inl (x ∷ a, refl)
splits (x ∷ a) b (y ∷ c) d e =
    let h = heads x y (a ++ b) (c ++ d) e in
    elim (splits a b c d h.1) [
      | inl t ↦ inl (t.0, λ i. h.0 i ∷ t.1 i)
      | inr t ↦ inr (t.0, (λ i. sym h.0 i ∷ t.1 i), t.2)
    ]

none_before : (read : Read) (before bytes : List ℕ) → HasRead read before → length bytes ≤ wants_of read → NoHeader (before ++ bytes) → NoneYet (before ++ bytes)
none_before read before bytes has fits never front rest pair e is =
    elim (splits before bytes front rest e) [
      | inl t ↦ has.may.none_yet front t.0 pair t.1 is
      | inr t ↦
          let least = (lacks read before has).1 t.0 pair (subst (λ (x : List ℕ). IsHeader x pair) t.1 is) in
          let none : length rest ≡ 0 = omega (arith, least, fits, ap length t.2, length-append t.0 rest) in
          let same : front ≡ (before ++ bytes) ++ [] = sym (append-nil front) ∙ (ap (λ (x : List ℕ). front ++ x) (sym (nil_from_length rest none)) ∙ (sym e ∙ sym (append-nil (before ++ bytes)))) in
          never [] pair (subst (λ (x : List ℕ). IsHeader x pair) same is)
    ]

pub told : (state : ProxyState) (old new : Read) (before bytes : List ℕ) → HasRead old before → length bytes ≤ wants_of old → IsOf new (before ++ bytes) → Tells state (before ++ bytes) → Told state new (before ++ bytes)
told More old new before bytes has fits is tells = record { is = is; may = tells }
told (Got pair) old new before bytes has fits is tells = tells
told Bad old new before bytes has fits is tells = (tells, none_before old before bytes has fits tells)

kept_more : (a b : List ℕ) → take 107 (take 107 a ++ b) ≡ take 107 (a ++ b)
kept_more a b =
    elim (cases_lt 107 (length a)) [
      | inl long ↦
          let len : length (take 107 a) ≡ 107 = length-take-le 107 a (omega (arith, long)) in
          take-append-le 107 (take 107 a) b (omega (arith, len)) ∙ (take-take 107 107 a (omega arith) ∙ sym (take-append-le 107 a b (omega (arith, long))))
      | inr short ↦ ap (λ (t : List ℕ). take 107 (t ++ b)) (take_all 107 a short)
    ]

pub of_more : (old new : Read) (before bytes : List ℕ) → IsOf old before → new.count ≡ old.count + length bytes → new.front ≡ take 107 (old.front ++ bytes) → IsOf new (before ++ bytes)
of_more old new before bytes is count front = record {
  front = front ∙ (ap (λ (t : List ℕ). take 107 (t ++ bytes)) is.front ∙ kept_more before bytes);
  count = omega (arith, count, is.count, length-append before bytes);
}
