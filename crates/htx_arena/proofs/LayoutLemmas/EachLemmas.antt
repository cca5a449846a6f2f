-- What holds of each payload's descriptor and block holds after an edit.
use Rattle.std.proofs.Common.{subst, ◌≡◌, ℕ, ◌+◌, ◌-◌, ◌^◌, ◌<◌, ◌≤◌, ◌⊎◌, inl, inr, List, length, ap, sym, ◌∙◌, arith}
use Rattle.std.proofs.lemmas.List.{take_all}
use Rattle.htx_arena.specs.declared.space.space.Desc.{Desc}
use Rattle.htx_arena.specs.Space.Windows.{desc_at, window}
use Rattle.htx_arena.proofs.SpaceLemmas.PublicLaws.{window-overwritten_within}
use Rattle.htx_arena.specs.Layout.Raw.{info_len, payload_in, Tells}
use Rattle.htx_arena.specs.Layout.Steps.{unlisted, placed, listed_at}
use Rattle.htx_arena.specs.Layout.Sound.{IsSound, end_of, IsTold, IsFilled, IsLaid}
use Rattle.htx_arena.specs.Layout.Moves.{CanPlace, IsSite}
use Rattle.htx_arena.specs.declared.layout.scan.Spot.{Spot}
use Rattle.htx_arena.proofs.LayoutLemmas.RawLemmas.{had, stands, Stands, payload_in-same, payload-unlisted, payload-placed, IsSound-unlisted, IsSound-placed, length-unlisted, length-placed, length-listed_at}
use Rattle.htx_arena.proofs.LayoutLemmas.RawLemmas.Stands.{New, Below, Above}

pub each_unlisted : (P : Desc → List ℕ → Type 0) (raw : List ℕ) (n i k : ℕ) → IsSound raw n → i + k ≤ n → ((j : ℕ) → j < n → P (desc_at raw j) (payload_in raw j)) → (j : ℕ) → j < n - k → P (desc_at (unlisted raw n i k) j) (payload_in (unlisted raw n i k) j)
each_unlisted P raw n i k sound h each j small =
    let new = unlisted raw n i k in
    let old = had raw n i k j sound.room h small in
    let payload = payload_in-same raw new j old.number old.same (payload-unlisted raw n i k old.number sound h old.small) in
    subst (λ (d : Desc). P d (payload_in new j)) (sym old.same) (subst (λ (p : List ℕ). P (desc_at raw old.number) p) (sym payload) (each old.number old.small))

pub payload_in-placed_here : (raw : List ℕ) (n i j : ℕ) (d : Desc) (piece : List ℕ) → CanPlace raw n i d piece → desc_at (placed raw n i d piece) j ≡ d → payload_in (placed raw n i d piece) j ≡ piece
payload_in-placed_here raw n i j d piece can here =
    let new = placed raw n i d piece in
    let room = can.room in
    let long = length-listed_at raw n i d (omega arith) can.within in
    let zero_more : d.addr + 0 ≡ d.addr = omega arith in
    let whole : window new d.addr (length piece) ≡ piece =
    ap (λ (k : ℕ). window new k (length piece)) (sym zero_more) ∙ window-overwritten_within (listed_at raw n i d) d.addr piece 0 (length piece) (omega arith) (omega arith) ∙ take_all (length piece) piece (omega arith) in
    ap (λ (e : Desc). window new e.addr (info_len e.info)) here
    ∙ ap (λ (m : ℕ). window new d.addr m) can.len ∙ whole

each_stands : (P : Desc → List ℕ → Type 0) (raw : List ℕ) (n i : ℕ) (d : Desc) (piece : List ℕ) → CanPlace raw n i d piece → ((j : ℕ) → j < n → P (desc_at raw j) (payload_in raw j)) → P d piece → (j : ℕ) → Stands raw (placed raw n i d piece) n i d j →
    P (desc_at (placed raw n i d piece) j) (payload_in (placed raw n i d piece) j)
each_stands P raw n i d piece can each here j (New a e) =
    let new = placed raw n i d piece in
    subst (λ (x : Desc). P x (payload_in new j)) (sym e) (subst (λ (p : List ℕ). P d p) (sym (payload_in-placed_here raw n i j d piece can e)) here)
each_stands P raw n i d piece can each here j (Below a e) =
    let new = placed raw n i d piece in
    let small : j < n = omega (arith, can.within) in
    let payload = payload_in-same raw new j j e (payload-placed raw n i d piece j can small) in
    subst (λ (x : Desc). P x (payload_in new j)) (sym e) (subst (λ (p : List ℕ). P (desc_at raw j) p) (sym payload) (each j small))
each_stands P raw n i d piece can each here j (Above m b c g e) =
    let new = placed raw n i d piece in
    let payload = payload_in-same raw new j m e (payload-placed raw n i d piece m can c) in
    subst (λ (x : Desc). P x (payload_in new j)) (sym e) (subst (λ (p : List ℕ). P (desc_at raw m) p) (sym payload) (each m c))

pub each_placed : (P : Desc → List ℕ → Type 0) (raw : List ℕ) (n i : ℕ) (d : Desc) (piece : List ℕ) → CanPlace raw n i d piece → ((j : ℕ) → j < n → P (desc_at raw j) (payload_in raw j)) → P d piece → (j : ℕ) → j < n + 1 →
    P (desc_at (placed raw n i d piece) j) (payload_in (placed raw n i d piece) j)
each_placed P raw n i d piece can each here j small = each_stands P raw n i d piece can each here j (stands raw n i d piece j can small)

-- ---- the three facts of each payload

pub IsLaid-unlisted : (raw : List ℕ) (n i k front : ℕ) → IsLaid raw n front → i + k ≤ n → IsLaid (unlisted raw n i k) (n - k) front
IsLaid-unlisted raw n i k front laid h =
    let long = length-unlisted raw n i k laid.sound.room h in
    let small = laid.small in
    let most = laid.most in
    record {
      sound = IsSound-unlisted raw n i k laid.sound h;
      told = record { told = each_unlisted (λ (d : Desc) (p : List ℕ). Tells d.info p) raw n i k laid.sound h laid.told.told };
      filled = record { filled = each_unlisted (λ (d : Desc) (p : List ℕ). 0 < info_len d.info) raw n i k laid.sound h laid.filled.filled };
      parted = record { parted = each_unlisted (λ (d : Desc) (p : List ℕ). (end_of d ≤ front) ⊎ (front ≤ d.addr)) raw n i k laid.sound h laid.parted.parted };
      small = omega arith;
      most = omega arith;
    }

pub can_place : (raw : List ℕ) (n i len info : ℕ) (piece : List ℕ) (s : Spot) → IsSound raw n → IsSite raw n len s → i ≤ n → info_len info ≡ length piece → len ≡ length piece → s.addr < 2 ^ 32 → info < 2 ^ 32 → CanPlace raw n i (record { addr = s.addr; info = info }) piece
can_place raw n i len info piece s sound site within told e addr_fits info_fits =
    let room = site.opens.room in
    record {
      sound = sound;
      within = within;
      room = omega arith;
      below = site.opens.below;
      len = told;
      addr_fits = addr_fits;
      info_fits = info_fits;
      free = λ j small. elim (site.opens.free j small) [ inl h ↦ inl (omega arith) | inr h ↦ inr h ];
    }

pub IsLaid-placed : (raw : List ℕ) (n i len info front : ℕ) (piece : List ℕ) (s : Spot) → IsSite raw n len s → CanPlace raw n i (record { addr = s.addr; info = info }) piece → IsTold raw n → IsFilled raw n → length raw ≤ 262144 → len ≡ length piece → 0 < length piece →
    Tells info piece → IsLaid (placed raw n i (record { addr = s.addr; info = info }) piece) (n + 1) s.front
IsLaid-placed raw n i len info front piece s site can told filled most e some tells =
    let d : Desc = record { addr = s.addr; info = info } in
    let long = length-placed raw n i d piece can in
    let small = site.small in
    let len_is = can.len in
    record {
      sound = IsSound-placed raw n i d piece can;
      told = record { told = each_placed (λ (d : Desc) (p : List ℕ). Tells d.info p) raw n i d piece can told.told tells };
      filled = record { filled = each_placed (λ (d : Desc) (p : List ℕ). 0 < info_len d.info) raw n i d piece can filled.filled (omega arith) };
      parted = record {
        parted = each_placed (λ (d : Desc) (p : List ℕ). (end_of d ≤ s.front) ⊎ (s.front ≤ d.addr)) raw n i d piece can site.parted.parted
            (elim site.beside [ inl h ↦ inl (omega arith) | inr h ↦ inr h ]);
      };
      small = omega arith;
      most = omega arith;
    }
