-- Words between spaces, which are determined by the text.
use Rattle.std.proofs.Common.{◌≡◌, ◌≢◌, ℕ, zero, suc, ◌-◌, List, [], ◌∷◌, ◌++◌, length, take, drop, All, Bool, true, false, inl, inr, refl, sym, ap, subst, ◌∙◌, arith}
use Rattle.std.specs.Prelude.{Option, Some, None, codes}
use Rattle.px_peer.specs.declared.Pair.{Pair}
use Rattle.px_proxyproto.specs.Lines.{IsInWord, Words, four_words, AreWords, AreOf, IsPairText, IsFamilyLine, IsLineOf, family_word}

abbrev NoSpace : List ℕ → Type 0
NoSpace xs = All IsInWord xs

tail_of : (x : ℕ) (xs : List ℕ) → NoSpace (x ∷ xs) → NoSpace xs
tail_of x xs h = λ k d lt. h (suc k) d (omega (arith, lt))

pub no_space : (a b : List ℕ) → NoSpace (a ++ (32 ∷ b)) → ⊥
no_space [] b h = h 0 0 (omega arith) refl
no_space (x ∷ a) b h = no_space a b (tail_of x (a ++ (32 ∷ b)) h)

heads : (x y : ℕ) (xs ys : List ℕ) → x ∷ xs ≡ y ∷ ys → (x ≡ y) × (xs ≡ ys)
heads x y xs ys e = (cc, cc)

pub cut_same : (a c b d : List ℕ) → NoSpace a → NoSpace c → a ++ (32 ∷ b) ≡ c ++ (32 ∷ d) → (a ≡ c) × (b ≡ d)
cut_same [] [] b d ha hc e = (refl, (heads 32 32 b d e).1)
cut_same [] (y ∷ c) b d ha hc e = absurd (hc 0 0 (omega arith) (sym (heads 32 y b (c ++ (32 ∷ d)) e).0))
cut_same (x ∷ a) [] b d ha hc e = absurd (ha 0 0 (omega arith) (heads x 32 (a ++ (32 ∷ b)) d e).0)
cut_same (x ∷ a) (y ∷ c) b d ha hc e =
    let parts = heads x y (a ++ (32 ∷ b)) (c ++ (32 ∷ d)) e in
    let rest = cut_same a c b d (tail_of x a ha) (tail_of y c hc) parts.1 in
    let first = parts.0 in
    let same = rest.0 in
    (cc, rest.1)

-- a mark that stands in no text before it is where the text ends
pub no_cut : (P : ℕ → Type 0) (x : ℕ) → ¬ (P x) → (a b : List ℕ) → All P (a ++ (x ∷ b)) → ⊥
no_cut P x never [] b h = never (h 0 0 (omega arith))
no_cut P x never (y ∷ a) b h = no_cut P x never a b (λ k d lt. h (suc k) d (omega (arith, lt)))

pub cut_at : (P : ℕ → Type 0) (x y : ℕ) → ¬ (P x) → ¬ (P y) → (a c b d : List ℕ) → All P a → All P c → a ++ (x ∷ b) ≡ c ++ (y ∷ d) → (a ≡ c) × (x ≡ y) × (b ≡ d)
cut_at P x y nx ny [] [] b d ha hc e = let h = heads x y b d e in (refl, h.0, h.1)
cut_at P x y nx ny [] (z ∷ c) b d ha hc e = absurd (nx (subst P (sym (heads x z b (c ++ (y ∷ d)) e).0) (hc 0 0 (omega arith))))
cut_at P x y nx ny (z ∷ a) [] b d ha hc e = absurd (ny (subst P (heads z y (a ++ (x ∷ b)) d e).0 (ha 0 0 (omega arith))))
cut_at P x y nx ny (z ∷ a) (w ∷ c) b d ha hc e =
    let parts = heads z w (a ++ (x ∷ b)) (c ++ (y ∷ d)) e in
    let rest = cut_at P x y nx ny a c b d (λ k n lt. ha (suc k) n (omega (arith, lt))) (λ k n lt. hc (suc k) n (omega (arith, lt))) parts.1 in
    (λ i. parts.0 i ∷ rest.0 i, rest.1, rest.2)

pub none_1 : (v6 : Bool) (text : List ℕ) → NoSpace text → (pair : Pair) → ¬ (IsPairText v6 text pair)
none_1 v6 text h pair is = let w = is.0 in no_space w.src (w.dst ++ (32 ∷ (w.src_port ++ (32 ∷ w.dst_port)))) (subst NoSpace is.1.whole h)

behind_1 : (text a t : List ℕ) (w : Words) → text ≡ a ++ (32 ∷ t) → NoSpace a → AreWords text w → (a ≡ w.src) × (t ≡ w.dst ++ (32 ∷ (w.src_port ++ (32 ∷ w.dst_port))))
behind_1 text a t w e ha is = cut_same a w.src t (w.dst ++ (32 ∷ (w.src_port ++ (32 ∷ w.dst_port)))) ha is.src (sym e ∙ is.whole)

pub none_2 : (v6 : Bool) (text a t : List ℕ) → text ≡ a ++ (32 ∷ t) → NoSpace a → NoSpace t → (pair : Pair) → ¬ (IsPairText v6 text pair)
none_2 v6 text a t e ha ht pair is =
    let w = is.0 in
    no_space w.dst (w.src_port ++ (32 ∷ w.dst_port)) (subst NoSpace (behind_1 text a t w e ha is.1).1 ht)

behind_2 : (text a t b u : List ℕ) (w : Words) → text ≡ a ++ (32 ∷ t) → t ≡ b ++ (32 ∷ u) → NoSpace a → NoSpace b → AreWords text w → (b ≡ w.dst) × (u ≡ w.src_port ++ (32 ∷ w.dst_port))
behind_2 text a t b u w e f ha hb is = cut_same b w.dst u (w.src_port ++ (32 ∷ w.dst_port)) hb is.dst (sym f ∙ (behind_1 text a t w e ha is).1)

pub none_3 : (v6 : Bool) (text a t b u : List ℕ) → text ≡ a ++ (32 ∷ t) → t ≡ b ++ (32 ∷ u) → NoSpace a → NoSpace b → NoSpace u → (pair : Pair) → ¬ (IsPairText v6 text pair)
none_3 v6 text a t b u e f ha hb hu pair is =
    let w = is.0 in
    no_space w.src_port w.dst_port (subst NoSpace (behind_2 text a t b u w e f ha hb is.1).1 hu)

pub words_only : (text a t b u c d : List ℕ) (w : Words) → text ≡ a ++ (32 ∷ t) → t ≡ b ++ (32 ∷ u) → u ≡ c ++ (32 ∷ d) → NoSpace a → NoSpace b → NoSpace c → AreWords text w → w ≡ four_words a b c d
words_only text a t b u c d w e f g ha hb hc is =
    let one = behind_1 text a t w e ha is in
    let two = behind_2 text a t b u w e f ha hb is in
    let three = cut_same c w.src_port d w.dst_port hc is.src_port (sym g ∙ two.1) in
    λ i. record { src = sym one.0 i; dst = sym two.0 i; src_port = sym three.0 i; dst_port = sym three.1 i }

pub words_given : (v6 : Bool) (text a t b u c d : List ℕ) (pair : Pair) → text ≡ a ++ (32 ∷ t) → t ≡ b ++ (32 ∷ u) → u ≡ c ++ (32 ∷ d) → NoSpace a → NoSpace b → NoSpace c → AreOf v6 (four_words a b c d) pair → IsPairText v6 text pair
words_given v6 text a t b u c d pair e f g ha hb hc of = (
  four_words a b c d,
  record {
    whole = e ∙ ap (λ (x : List ℕ). a ++ (32 ∷ x)) (f ∙ ap (λ (x : List ℕ). b ++ (32 ∷ x)) g);
    src = ha;
    dst = hb;
    src_port = hc;
  },
  of,
)

pub none_4 : (v6 : Bool) (text a t b u c d : List ℕ) → text ≡ a ++ (32 ∷ t) → t ≡ b ++ (32 ∷ u) → u ≡ c ++ (32 ∷ d) → NoSpace a → NoSpace b → NoSpace c
    → ((pair : Pair) → ¬ (AreOf v6 (four_words a b c d) pair)) → (pair : Pair) → ¬ (IsPairText v6 text pair)
none_4 v6 text a t b u c d e f g ha hb hc never pair is =
    never pair (subst (λ (w : Words). AreOf v6 w pair) (words_only text a t b u c d is.0 e f g ha hb hc is.1) is.2)

take_front : (w text : List ℕ) → take (length w) (w ++ text) ≡ w
take_front [] text = refl
take_front (x ∷ w) text = ap (λ (t : List ℕ). x ∷ t) (take_front w text)

drop_front : (w text : List ℕ) → drop (length w) (w ++ text) ≡ text
drop_front [] text = refl
drop_front (x ∷ w) text = drop_front w text

again : (n : ℕ) (xs : List ℕ) → xs ≡ take n xs ++ drop n xs
again zero xs = refl
again (suc n) [] = refl
again (suc n) (x ∷ xs) = ap (λ (t : List ℕ). x ∷ t) (again n xs)

-- a line that begins with a word is the word and what is behind it
pub given_word : (w line : List ℕ) → take (length w) line ≡ w → line ≡ w ++ drop (length w) line
given_word w line e = again (length w) line ∙ ap (λ (t : List ℕ). t ++ drop (length w) line) e

pub no_word : (w line : List ℕ) → take (length w) line ≢ w → (rest : List ℕ) → line ≢ w ++ rest
no_word w line never rest e = never (subst (λ (t : List ℕ). take (length w) t ≡ w) (sym e) (take_front w rest))

pub no_family : (v6 : Bool) (w line : List ℕ) → w ≡ family_word v6 → take (length w) line ≢ w → (pair : Pair) → ¬ (IsFamilyLine v6 line pair)
no_family v6 w line f never pair is = no_word w line never is.0 (is.1 ∙ ap (λ (t : List ℕ). t ++ is.0) (sym f))

pub no_pair : (v6 : Bool) (w line : List ℕ) → w ≡ family_word v6 → ((pair : Pair) → ¬ (IsPairText v6 (drop (length w) line) pair)) → (pair : Pair) → ¬ (IsFamilyLine v6 line pair)
no_pair v6 w line f never pair is =
    let whole = is.1 ∙ ap (λ (t : List ℕ). t ++ is.0) (sym f) in
    let same = ap (drop (length w)) whole ∙ drop_front w is.0 in
    never pair (subst (λ (t : List ℕ). IsPairText v6 t pair) (sym same) is.2)

pub is_family : (v6 : Bool) (w line : List ℕ) (pair : Pair) → w ≡ family_word v6 → take (length w) line ≡ w → IsPairText v6 (drop (length w) line) pair → IsFamilyLine v6 line pair
is_family v6 w line pair f e is = (drop (length w) line, given_word w line e ∙ ap (λ (t : List ℕ). t ++ drop (length w) line) f, is)

pub no_line : (line : List ℕ) → take 13 line ≢ codes "PROXY UNKNOWN" → ((pair : Pair) → ¬ (IsFamilyLine false line pair)) → ((pair : Pair) → ¬ (IsFamilyLine true line pair)) → (told : Option Pair) → ¬ (IsLineOf line told)
no_line line never four six None is = no_word (codes "PROXY UNKNOWN") line never is.0 is.1
no_line line never four six (Some pair) (inl h) = four pair h
no_line line never four six (Some pair) (inr h) = six pair h

len_drop : (n : ℕ) (xs : List ℕ) → length xs - n ≡ length (drop n xs)
len_drop zero xs = omega arith
len_drop (suc n) [] = omega arith
len_drop (suc n) (x ∷ xs) = omega (arith, len_drop n xs)

whole : (n : ℕ) (ys : List ℕ) → n ≡ length ys → take n ys ≡ ys
whole zero [] e = refl
whole zero (y ∷ ys) e = absurd (omega (arith, e))
whole (suc n) [] e = absurd (omega (arith, e))
whole (suc n) (y ∷ ys) e = ap (λ (t : List ℕ). y ∷ t) (whole n ys (omega (arith, e)))

pub no_pair_behind : (v6 : Bool) (line : List ℕ) → ((pair : Pair) → ¬ (IsPairText v6 (take (length line - 11) (drop 11 line)) pair)) → (pair : Pair) → ¬ (IsFamilyLine v6 line pair)
no_pair_behind true line never = no_pair true (codes "PROXY TCP6 ") line refl (subst (λ (t : List ℕ). (pair : Pair) → ¬ (IsPairText true t pair)) (whole (length line - 11) (drop 11 line) (len_drop 11 line)) never)
no_pair_behind false line never = no_pair false (codes "PROXY TCP4 ") line refl (subst (λ (t : List ℕ). (pair : Pair) → ¬ (IsPairText false t pair)) (whole (length line - 11) (drop 11 line) (len_drop 11 line)) never)
