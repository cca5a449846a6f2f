-- A part of a slice is lent on under a name of its own, and the slice follows that name. Assumes `Logic`.
use Rattle.std.proofs.Common.{◌≡◌, ◌≤◌, ◌+◌, ◌-◌, ℕ, List, [], ◌∷◌, ◌++◌, length, take, drop as drop_list, slice_range, refl, sym, ap, ◌∙◌, arith, length-append, length-drop}
use Rattle.std.proofs.lemmas.List.{take_at, length-take-le, drop-drop, take-append-drop}
use Rattle.std.specs.List.{refill}
use seplogic.Ra.Ura.{Ura}
use mir.Syntax.{named}
use mir.Val.{Val}
use base.Logic.{SProp, ent, sep, ex}
use base.Stored.{coded_list}
use base.Fml.{Lft, GName, Share, flft, fobs, fbor}
use types.Logic.{Logic, sem}
use types.Kit.{Item, ‵, ◌⊛◌, ◌$◌, ◌∵◌, !, qed, move, drop, fsplit, fsplit3, fjoin, updating, await, later, some, use1, use2, group, pick, now, show, done, split3, split, join, rewrite, feq_l, feq_i}
use types.SemTy.{SemTy, cells, Arr, Body}
use types.Follow.{takes_part}
use types.Mut.{open_ref}
use denote.Builtin.{u8}
use denote.Memory.{mem}
use denote.Array.{Array}
use denote.Slice.{MutSlice, Room, slice_val}
use denote.Follow.{follows}
use denote.FollowSlice.{heres_id, slice_of}
use borrow.Table.Elements.{at, cut_app, join_app}

-- a list of the same length takes the whole place
pub refilled : (xs ws : List ℕ) → length ws ≡ length xs → ws ≡ refill (length xs) xs ws
refilled xs ws e = sym (take_at ws (drop_list (length ws) xs) (length xs) e)

pub length_run : (xs : List ℕ) (begin end : ℕ) → begin ≤ end → end ≤ length xs → length (slice_range xs begin end) ≡ end - begin
length_run xs begin end order within = length-take-le (end - begin) (drop_list begin xs) (omega (arith, length-drop begin xs))

-- a list is what stands before a run, the run, and what stands behind it
pub cut_at : (xs : List ℕ) (begin end : ℕ) → begin ≤ end → xs ≡ take begin xs ++ (slice_range xs begin end ++ drop_list end xs)
cut_at xs begin end order =
    let far : begin + (end - begin) ≡ end = omega arith in
    let behind : drop_list (end - begin) (drop_list begin xs) ≡ drop_list end xs = drop-drop (end - begin) begin xs ∙ ap (λ (k : ℕ). drop_list k xs) far in
    sym (take-append-drop begin xs)
    ∙ ap (λ (ys : List ℕ). take begin xs ++ ys) (sym (take-append-drop (end - begin) (drop_list begin xs)))
    ∙ ap (λ (ys : List ℕ). take begin xs ++ (slice_range xs begin end ++ ys)) behind

abbrev Row : ℕ → SemTy
Row n = Arr (mem u8) n

module _ {M : Type 1} {𝓤 : Ura M} (𝓛 : Logic 𝓤) (κ : Lft) (q : Share) (b o : ℕ) (γ : GName) (xs front mid back : List ℕ) (cut : xs ≡ front ++ (mid ++ back)) (p : ℕ) (on : at o (mem u8).size (length front) ≡ p) where
  open 𝓛 use {H, A}

  abbrev around : List ℕ → List ℕ
  around ws = front ++ (refill (length mid) mid ws ++ back)

  -- the part under a new name, the token, and what the slice ends as
  abbrev pub part_lent : ℕ → GName → Item 𝓤
  part_lent n δ = ‵ ((MutSlice (named 0) κ u8).own_val (record { ref_ptr = (b, p); ghost_name = δ; now = mid }) (slice_val (b, p) n ∷ [])) ⊛ ‵ (flft κ q) ⊛ ‵ (follows (Array u8 0) (Array u8 0) γ δ around)

  abbrev pub PartLent : GName → SProp 𝓤
  PartLent δ = sep 𝓤 (sem 𝓛 ((MutSlice (named 0) κ u8).own_val (record { ref_ptr = (b, p); ghost_name = δ; now = mid }) (slice_val (b, p) (length mid) ∷ []))) (sep 𝓤 (A.lft κ q) (sem 𝓛 (follows (Array u8 0) (Array u8 0) γ δ around)))

  abbrev Others : SProp 𝓤
  Others = sep 𝓤 (sem 𝓛 (cells (mem u8) front b o)) (sem 𝓛 (cells (mem u8) back b (at p (mem u8).size (length mid))))

  put_part : (ws : List ℕ) → ent 𝓤 (sep 𝓤 (sem 𝓛 ((Row (length mid)).own_at ws b p)) Others) (sem 𝓛 ((Row (length xs)).own_at (around ws) b o))
  put_part ws = qed 𝓛 (‵ ((Row (length mid)).own_at ws b p) ∷ ‵ (cells (mem u8) front b o) ∷ ‵ (cells (mem u8) back b (at p (mem u8).size (length mid))) ∷ []) ∵
      fsplit ! $ feq_l ! (λ e.
      let same : ws ≡ refill (length mid) mid ws = refilled mid ws e in
      let size : length (refill (length mid) mid ws) ≡ length mid = sym (ap length same) ∙ e in
      let whole : length xs ≡ length front + length (mid ++ back) = ap length cut ∙ length-append front (mid ++ back) in
      let inner : length (mid ++ back) ≡ length mid + length back = length-append mid back in
      let now_whole : length (around ws) ≡ length front + length (refill (length mid) mid ws ++ back) = length-append front (refill (length mid) mid ws ++ back) in
      let now_inner : length (refill (length mid) mid ws ++ back) ≡ length (refill (length mid) mid ws) + length back = length-append (refill (length mid) mid ws) back in
      rewrite ! 2 (λ (k : ℕ). ‵ (cells (mem u8) back b (at p (mem u8).size k))) (sym e) refl $ move ! (0 ∷ 2 ∷ []) $
      use2 𝓛 (‵ (cells (mem u8) (ws ++ back) b p)) (join_app 𝓛 (mem u8) ws back b p) $
      rewrite ! 0 (λ (k : ℕ). ‵ (cells (mem u8) (ws ++ back) b k)) (sym on) refl $ move ! (1 ∷ 0 ∷ []) $
      use2 𝓛 (‵ (cells (mem u8) (front ++ (ws ++ back)) b o)) (join_app 𝓛 (mem u8) front (ws ++ back) b o) $
      rewrite ! 0 (λ (l : List ℕ). ‵ (cells (mem u8) (front ++ (l ++ back)) b o)) same refl $
      feq_i ! ℕ (length (around ws)) (length xs) (omega (arith, size, whole, inner, now_whole, now_inner)) $ fjoin ! $ done !)

  pub lends_part : Room u8 (length mid) → (vs : List Val)
      → ent 𝓤 (sep 𝓤 (sem 𝓛 ((MutSlice (named 0) κ u8).own_val (record { ref_ptr = (b, o); ghost_name = γ; now = xs }) vs)) (A.lft κ q)) (H.⇛ (ex 𝓤 PartLent))
  lends_part rm vs = qed 𝓛 (‵ ((MutSlice (named 0) κ u8).own_val (record { ref_ptr = (b, o); ghost_name = γ; now = xs }) vs) ∷ ‵ (flft κ q) ∷ []) ∵ updating ! $ fsplit3 ! $ drop ! $
      rewrite ! 0 (λ (l : List ℕ). ‵ (fobs γ ((coded_list u8.coded).code l))) (heres_id u8 xs) refl $ open_ref ! tt (Row (length xs)) {b = b} {o = o} $ fsplit ! $ drop ! $
      rewrite ! 0 (λ (l : List ℕ). ‵ (cells (mem u8) l b o)) cut refl $
      use1 𝓛 (‵ (cells (mem u8) front b o) ⊛ ‵ (cells (mem u8) (mid ++ back) b (at o (mem u8).size (length front)))) (cut_app 𝓛 (mem u8) front (mid ++ back) b o) $ split ! $ move ! (1 ∷ []) $
      rewrite ! 0 (λ (k : ℕ). ‵ (cells (mem u8) (mid ++ back) b k)) on refl $
      use1 𝓛 (‵ (cells (mem u8) mid b p) ⊛ ‵ (cells (mem u8) back b (at p (mem u8).size (length mid)))) (cut_app 𝓛 (mem u8) mid back b p) $ split ! $
      feq_i ! ℕ (length mid) (length mid) refl $ fjoin ! $ move ! (2 ∷ 1 ∷ []) $ join ! $ move ! (2 ∷ 3 ∷ 4 ∷ 1 ∷ 0 ∷ []) $ group ! 5 $
      use1 𝓛 (later (some (λ (δ : GName). ‵ (fobs δ ((coded_list u8.coded).code mid)) ⊛ ‵ (fbor κ (Body (Row (length mid)) b p δ)) ⊛ ‵ (flft κ q) ⊛ ‵ (follows (Array u8 0) (Array u8 0) γ δ around))))
      (takes_part 𝓛 (Row (length xs)) (Row (length mid)) around κ q b o b p γ Others put_part ((coded_list u8.coded).code xs) ((coded_list u8.coded).code xs) mid) $ await ! tt $ pick ! (λ δ. split3 ! $
      use2 𝓛 (‵ ((MutSlice (named 0) κ u8).own_val (record { ref_ptr = (b, p); ghost_name = δ; now = mid }) (slice_val (b, p) (length mid) ∷ []))) (slice_of 𝓛 u8 (named 0) κ b p δ mid rm) $ now ! $ show ! PartLent δ $ done !)
