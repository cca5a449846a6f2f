-- A block is put back with more bytes behind its first.
use Rattle.std.proofs.Common.{refl, ◌≡◌, ℕ, zero, suc, ◌+◌, ◌*◌, ◌-◌, ◌^◌, ◌<◌, ◌≤◌, inl, inr, List, [], ◌∷◌, ◌++◌, length, ap, sym, ◌∙◌, arith, set, subst}
use Rattle.std.specs.Prelude.{insert, remove}
use Rattle.std.proofs.lemmas.Bool.{cases_lt}
use Rattle.htx_arena.specs.declared.space.space.Desc.{Desc}
use Rattle.htx_arena.specs.Space.Windows.{window, desc_at}
use Rattle.htx_arena.proofs.SpaceLemmas.PublicLaws.{length-window, window-overwritten_below}
use Rattle.htx_arena.specs.Layout.Raw.{Tells, addr_in, len_in, block_in, block_of, info_len, blocks_of, addrs_of, payload_in}
use Rattle.htx_arena.specs.Layout.Steps.{unlisted, placed}
use Rattle.htx_arena.specs.Layout.Sound.{IsSound, end_of, IsTold, IsFilled, IsLaid}
use Rattle.htx_arena.specs.Layout.Moves.{CanPlace, IsKept, IsOpen, IsSite}
use Rattle.htx_arena.specs.Layout.Longer.{IsLonger, kept_bytes}
use Rattle.htx_arena.specs.declared.layout.longer.Longer.{Longer}
use Rattle.htx_arena.specs.declared.layout.scan.Spot.{Spot}
use Rattle.htx_arena.proofs.LayoutLemmas.RawLemmas.{had, length-unlisted, desc_at-placed_here, blocks_of-placed, addrs_of-placed, length-placed}
use Rattle.htx_arena.proofs.LayoutLemmas.EachLemmas.{payload_in-placed_here, can_place, IsLaid-placed, IsLaid-unlisted}
use Rattle.htx_arena.proofs.LayoutLemmas.MoveLemmas.{listed-same, Tells-same}
use Rattle.htx_arena.proofs.LayoutLemmas.GrowLemmas.{kept_open, kept_sound}

pub set-insert : {X : Type 0} (xs : List X) (i : ℕ) (x y : X) → i ≤ length xs → set (insert xs i x) i y ≡ insert xs i y
set-insert xs zero x y h = refl
set-insert [] (suc i) x y h = absurd (omega arith)
set-insert {X} (z ∷ zs) (suc i) x y h = let f : List X → List X = λ ws. z ∷ ws in ap f (set-insert zs i x y (omega arith))

pub remove-insert : {X : Type 0} (xs : List X) (i : ℕ) (x : X) → i ≤ length xs → remove (insert xs i x) i ≡ xs
remove-insert xs zero x h = refl
remove-insert [] (suc i) x h = absurd (omega arith)
remove-insert {X} (z ∷ zs) (suc i) x h = let f : List X → List X = λ ws. z ∷ ws in ap f (remove-insert zs i x (omega arith))

pub kept_block : (raw new : List ℕ) (n : ℕ) → IsKept raw new n → (j : ℕ) → j < n → block_in new j ≡ block_in raw j
kept_block raw new n is j small = ap (λ (d : Desc). block_of d.info (payload_in new j)) (is.desc j small) ∙ ap (block_of (desc_at raw j).info) (is.payload j small)

pub kept_blocks : (raw new : List ℕ) (n : ℕ) → IsKept raw new n → blocks_of new n ≡ blocks_of raw n
kept_blocks raw new n is = listed-same (block_in raw) (block_in new) n (kept_block raw new n is)

pub kept_addrs : (raw new : List ℕ) (n : ℕ) → IsKept raw new n → addrs_of new n ≡ addrs_of raw n
kept_addrs raw new n is = listed-same (addr_in raw) (addr_in new) n (λ j small. ap (λ (d : Desc). d.addr) (is.desc j small))

pub kept_told : (raw new : List ℕ) (n : ℕ) → IsKept raw new n → IsTold raw n → IsTold new n
kept_told raw new n is told = record { told = λ j small. Tells-same _ _ _ _ (ap (λ (d : Desc). d.info) (is.desc j small)) (is.payload j small) (told.told j small) }

pub kept_filled : (raw new : List ℕ) (n : ℕ) → IsKept raw new n → IsFilled raw n → IsFilled new n
kept_filled raw new n is filled = record { filled = λ j small. let e = ap (λ (d : Desc). info_len d.info) (is.desc j small) in let h = filled.filled j small in omega arith }

pub kept_site : (raw new : List ℕ) (n len : ℕ) (s : Spot) → IsKept raw new n → IsSite raw n len s → IsSite new n len s
kept_site raw new n len s is site =
    let size = is.size in
    let small = site.small in
    record {
      opens = kept_open raw new n s.addr len is site.opens;
      parted = record { parted = λ j within. let e = ap end_of (is.desc j within) in let a = ap (λ (d : Desc). d.addr) (is.desc j within) in elim (site.parted.parted j within) [ inl h ↦ inl (omega arith) | inr h ↦ inr (omega arith) ] };
      beside = site.beside;
      small = omega arith;
    }

pub own_site : (raw : List ℕ) (n from len : ℕ) → IsOpen raw n from len → IsSite raw n len (record { addr = from; front = 0 })
own_site raw n from len opens = record { opens = opens; parted = record { parted = λ j within. inr (omega arith) }; beside = inr (omega arith); small = omega arith }

pub free_can : (raw new : List ℕ) (n i len info : ℕ) (s : Spot) → IsSound raw n → IsKept raw new n → IsSite raw n len s → i ≤ n → info_len info ≡ len → s.addr < 2 ^ 32 → info < 2 ^ 32 → CanPlace new n i (record { addr = s.addr; info = info }) (window new s.addr (info_len info))
free_can raw new n i len info s sound is site within e addr_fits info_fits =
    let size = is.size in
    let room = site.opens.room in
    let long : length (window new s.addr (info_len info)) ≡ info_len info = length-window new s.addr (info_len info) (omega arith) in
    can_place new n i len info (window new s.addr (info_len info)) s (kept_sound raw new n is sound) (kept_site raw new n len s is site) within (sym long) (omega arith) addr_fits info_fits

pub kept_self : (raw : List ℕ) (n : ℕ) → IsKept raw raw n
kept_self raw n = record { size = refl; desc = λ j small. refl; payload = λ j small. refl }

-- what holds once a block is put back whose bytes stand there
pub record IsRelisted (raw new : List ℕ) (n i : ℕ) (l : Longer) : Type 0 where
  pub laid : IsLaid new (n + 1) 0
  pub blocks : blocks_of new (n + 1) ≡ insert (blocks_of raw n) i (block_of l.kept.0 (kept_bytes raw l))
  pub addrs : addrs_of new (n + 1) ≡ insert (addrs_of raw n) i l.from
  pub len : len_in new i ≡ info_len l.kept.0
  pub payload : payload_in new i ≡ kept_bytes raw l
  pub size : length new ≡ length raw

pub can_relist : (raw : List ℕ) (n i : ℕ) (l : Longer) → IsLaid raw n 0 → IsOpen raw n l.from (info_len l.kept.0) → i ≤ n → l.from < 2 ^ 32 → l.kept.0 < 2 ^ 32 → CanPlace raw n i (record { addr = l.from; info = l.kept.0 }) (kept_bytes raw l)
can_relist raw n i l laid opens within addr_fits info_fits = free_can raw raw n i (info_len l.kept.0) l.kept.0 (record { addr = l.from; front = 0 }) laid.sound (kept_self raw n) (own_site raw n l.from (info_len l.kept.0) opens) within refl addr_fits info_fits

pub relisted : (raw new : List ℕ) (n i : ℕ) (l : Longer) → IsLaid raw n 0 → IsLonger raw l → IsOpen raw n l.from (info_len l.kept.0) → i ≤ n → l.from < 2 ^ 32 → l.kept.0 < 2 ^ 32 → new ≡ placed raw n i (record { addr = l.from; info = l.kept.0 }) (kept_bytes raw l) → IsRelisted raw new n i l
relisted raw new n i l laid is opens within addr_fits info_fits now =
    let d : Desc = record { addr = l.from; info = l.kept.0 } in
    let s : Spot = record { addr = l.from; front = 0 } in
    let piece = kept_bytes raw l in
    let some = is.some in
    let long : length piece ≡ info_len l.kept.0 = length-window raw l.from (info_len l.kept.0) is.source in
    let can = can_relist raw n i l laid opens within addr_fits info_fits in
    subst (λ (x : List ℕ). IsRelisted raw x n i l) (sym now) (record {
      laid = IsLaid-placed raw n i (info_len l.kept.0) l.kept.0 0 piece s (own_site raw n l.from (info_len l.kept.0) opens) can laid.told laid.filled laid.most (sym long) (omega arith) is.kept_tells;
      blocks = blocks_of-placed raw n i d piece can;
      addrs = addrs_of-placed raw n i d piece can;
      len = ap (λ (e : Desc). info_len e.info) (desc_at-placed_here raw n i d piece can);
      payload = payload_in-placed_here raw n i i d piece can (desc_at-placed_here raw n i d piece can);
      size = length-placed raw n i d piece can;
    })

-- no payload lies across the beginning
pub laid_zero : (raw : List ℕ) (n front : ℕ) → IsLaid raw n front → IsLaid raw n 0
laid_zero raw n front laid = record { sound = laid.sound; told = laid.told; filled = laid.filled; parted = record { parted = λ j within. inr (omega arith) }; small = omega arith; most = laid.most }

-- ---- a block that was taken out

pub record IsGone (raw new : List ℕ) (n i front : ℕ) (l : Longer) : Type 0 where
  pub laid : IsLaid new (n - 1) front
  pub opens : IsOpen new (n - 1) l.from (info_len l.kept.0)
  pub longer : IsLonger new l
  pub own : kept_bytes new l ≡ kept_bytes raw l
  pub size : length new ≡ length raw

gone_is : (raw : List ℕ) (n i front : ℕ) (l : Longer) → IsLaid raw n front → i < n → IsLonger raw l → l.from ≡ addr_in raw i → info_len l.kept.0 ≤ len_in raw i → IsGone raw (unlisted raw n i 1) n i front l
gone_is raw n i front l laid small is here part =
    let room = laid.sound.room in
    let long = length-unlisted raw n i 1 room (omega arith) in
    let ends = laid.sound.within i small in
    let piece = window raw (length raw - 8 * n) (8 * (n - i - 1)) in
    let own : kept_bytes (unlisted raw n i 1) l ≡ kept_bytes raw l = window-overwritten_below raw (length raw - 8 * n + 8 * 1) piece l.from (info_len l.kept.0) (omega arith) (omega arith) in
    let source = is.source in
    record {
      laid = IsLaid-unlisted raw n i 1 front laid (omega arith);
      opens = record {
        room = omega arith;
        below = λ j within.
            let old = had raw n i 1 j room (omega arith) within in
            let e = ap end_of old.same in
            let h = laid.sound.within old.number old.small in
            omega arith;
        free = λ j within.
            let old = had raw n i 1 j room (omega arith) within in
            let e = ap end_of old.same in
            let a = ap (λ (d : Desc). d.addr) old.same in
            elim (cases_lt j i) [
              | inl lt ↦ let less = old.below lt in elim (laid.sound.apart old.number i (omega arith) small) [ inl h ↦ inr (omega arith) | inr h ↦ inl (omega arith) ]
              | inr ge ↦ let less = old.above ge in elim (laid.sound.apart i old.number (omega arith) old.small) [ inl h ↦ inl (omega arith) | inr h ↦ inr (omega arith) ]
            ];
      };
      longer = record {
        source = omega arith;
        some = is.some;
        kept_tells = subst (Tells l.kept.0) (sym own) is.kept_tells;
        len = is.len;
        tells = subst (λ (p : List ℕ). Tells l.info.0 (p ++ l.more.now)) (sym own) is.tells;
      };
      own = own;
      size = long;
    }

pub gone : (raw new : List ℕ) (n i front : ℕ) (l : Longer) → IsLaid raw n front → i < n → IsLonger raw l → l.from ≡ addr_in raw i → info_len l.kept.0 ≤ len_in raw i → new ≡ unlisted raw n i 1 → IsGone raw new n i front l
gone raw new n i front l laid small is here part now = subst (λ (x : List ℕ). IsGone raw x n i front l) (sym now) (gone_is raw n i front l laid small is here part)
