-- An array between two calls holds its blocks at their addresses.
use Rattle.std.proofs.Common.{◌≡◌, ◌≢◌, ℕ, zero, suc, ◌+◌, ◌*◌, ◌/◌, ◌^◌, ◌<◌, ◌≤◌, Bool, ◌∷◌, map, refl, inl, inr, List, get_or, length, ap, sym, ◌∙◌, arith}
use Rattle.std.specs.Prelude.{if◌then◌else◌}
use Rattle.std.specs.List.{range_with_len}
use Rattle.std.proofs.lemmas.Bool.{ne_eqb}
use Rattle.htx_model.specs.Block.{Block, RequestLine, EndHeaders, payload_len}
use Rattle.htx_model.specs.Blocks.{block_at}
use Rattle.htx_arena.specs.declared.space.space.Desc.{Desc}
use Rattle.htx_arena.specs.Space.Windows.{window, desc_at}
use Rattle.htx_arena.specs.Layout.Raw.{addr_in, len_in, block_in, info_of, payload_of, blocks_of, addrs_of}
use Rattle.htx_arena.specs.Layout.Sound.{IsLaid}
use Rattle.htx_arena.specs.Layout.Held.{held, told_from, blocks_of as told_blocks}
use Rattle.htx_arena.proofs.LayoutLemmas.RawLemmas.{length-listed, get_or-listed}

desc_of : (d : Desc) (a i : ℕ) → d.addr ≡ a → d.info ≡ i → d ≡ record { addr = a; info = i }
desc_of d a i e f = let F : ℕ → ℕ → Desc = λ x y. record { addr = x; info = y } in λ j. F (e j) (f j)

pub laid_held : (raw : List ℕ) (n front : ℕ) → IsLaid raw n front → held raw (blocks_of raw n) (addrs_of raw n)
laid_held raw n front laid =
    let bs = blocks_of raw n in
    let xs = addrs_of raw n in
    let count : length bs ≡ n = length-listed (block_in raw) n in
    let addr : (i : ℕ) → i < n → get_or xs i 0 ≡ addr_in raw i = λ i h. get_or-listed (addr_in raw) n i 0 h in
    let at : (i : ℕ) → i < n → block_at bs i ≡ block_in raw i = λ i h. get_or-listed (block_in raw) n i EndHeaders h in
    let len : (i : ℕ) → i < n → payload_len (block_at bs i) ≡ len_in raw i = λ i h. ap payload_len (at i h) ∙ (laid.told.told i h).len in
    record {
      same_length = length-listed (addr_in raw) n ∙ sym count;
      descriptor = λ i small.
          let h : i < n = omega arith in
          desc_of (desc_at raw i) (get_or xs i 0) (info_of (block_at bs i)) (sym (addr i h)) ((laid.told.told i h).code ∙ sym (ap info_of (at i h)));
      payload = λ i small.
          let h : i < n = omega arith in
          (λ j. window raw (addr i h j) (len i h j)) ∙ (laid.told.told i h).bytes ∙ sym (ap payload_of (at i h));
      within = λ i small.
          let h : i < n = omega arith in
          let ends = laid.sound.within i h in
          omega (arith, addr i h, len i h);
      apart = λ i k lt small.
          let h : i < n = omega arith in
          let g : k < n = omega arith in
          elim (laid.sound.apart i k lt g) [
            | inl d ↦ inl (omega (arith, addr i h, len i h, addr k g, len k g))
            | inr d ↦ inr (omega (arith, addr i h, len i h, addr k g, len k g))
          ];
    }

-- ---- the blocks that the bytes tell

-- the type of a block in an array is none of those from 7 on
code_small : (b : Block) → payload_len b ≤ 262144 → info_of b < 2 ^ 28 * 7
code_small (RequestLine x y z) h = omega arith
code_small b h = omega arith

is_used : (raw : List ℕ) (n front i : ℕ) → IsLaid raw n front → i < n → (desc_at raw i).info / 2 ^ 28 ≢ 15
is_used raw n front i laid h =
    let t = laid.told.told i h in
    let len = t.len in
    let ends = laid.sound.within i h in
    let most = laid.most in
    let small = code_small (block_in raw i) (omega arith) in
    let code = t.code in
    omega arith

told-used : (raw : List ℕ) (n front descriptors i k : ℕ) → IsLaid raw n front → i + k ≤ n → k ≤ descriptors → told_from descriptors raw i k ≡ map (block_in raw) (range_with_len i k)
told-used raw n front zero i zero laid h g = refl
told-used raw n front zero i (suc k) laid h g = absurd (omega arith)
told-used raw n front (suc d) i zero laid h g = refl
told-used raw n front (suc d) i (suc k) laid h g =
    let used = ne_eqb ((desc_at raw i).info / 2 ^ 28) 15 (is_used raw n front i laid (omega arith)) in
    ap (λ (t : Bool). if t then told_from d raw (i + 1) (suc k) else block_in raw i ∷ told_from d raw (i + 1) k) used
    ∙ ap (λ (bs : List Block). block_in raw i ∷ bs) (told-used raw n front d (i + 1) k laid (omega arith) (omega arith))

pub laid_told : (raw : List ℕ) (n front : ℕ) → IsLaid raw n front → told_blocks raw n ≡ blocks_of raw n
laid_told raw n front laid =
    let room = laid.sound.room in
    told-used raw n front (length raw / 8) 0 n laid (omega arith) (omega arith)
