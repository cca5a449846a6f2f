-- A payload is brought behind all others: its bytes by one rotation, and then the descriptors.
use Rattle.std.proofs.Common.{subst, refl, ◌≡◌, ◌≢◌, ℕ, ◌+◌, ◌*◌, ◌-◌, ◌^◌, ◌<◌, ◌≤◌, inl, inr, List, ◌++◌, length, ap, sym, ◌∙◌, arith, length-append}
use Rattle.std.proofs.lemmas.Bool.{cases_lt, cases_eq, le-leb, lt-leb, eq-eqb, ne_eqb}
use Rattle.htx_arena.specs.declared.space.space.Desc.{Desc}
use Rattle.htx_arena.specs.Space.Windows.{desc_at, desc_place, desc_bytes, window, overwritten, rotated}
use Rattle.htx_arena.proofs.SpaceLemmas.PublicLaws.{length-overwritten, length-window, window-overwritten_below, window-overwritten_within, desc_at-overwritten, desc_at-overwritten_below, desc_at-written, length-desc_bytes, window_back, window_front, window-window}
use Rattle.htx_arena.specs.Layout.Raw.{addr_in, len_in, info_len}
use Rattle.htx_arena.specs.Layout.Sound.{IsSound, AreApart, end_of}
use Rattle.htx_arena.specs.Layout.Moves.{IsShifted, IsSunk, CanSink, sunk}
use Rattle.htx_arena.proofs.LayoutLemmas.RawLemmas.{AreApart-same}
use Rattle.htx_arena.proofs.LayoutLemmas.PackLemmas.{behind_other}

-- ---- the three cases of an address

pub sunk_here : (raw : List ℕ) (i end : ℕ) → (sunk raw i end i).addr ≡ end - len_in raw i
sunk_here raw i end = rw (eq-eqb i i refl) refl

pub sunk_above : (raw : List ℕ) (i end j : ℕ) → j ≢ i → addr_in raw i ≤ addr_in raw j → (sunk raw i end j).addr ≡ addr_in raw j - len_in raw i
sunk_above raw i end j ne le = rw (ne_eqb j i ne) (rw (le-leb (addr_in raw i) (addr_in raw j) le) refl)

pub sunk_below : (raw : List ℕ) (i end j : ℕ) → j ≢ i → addr_in raw j < addr_in raw i → (sunk raw i end j).addr ≡ addr_in raw j
sunk_below raw i end j ne lt = rw (ne_eqb j i ne) (rw (lt-leb (addr_in raw i) (addr_in raw j) lt) refl)

-- ---- the bytes

abbrev pub turned : List ℕ → ℕ → ℕ → List ℕ
turned raw i end = rotated raw (addr_in raw i) (addr_in raw i + len_in raw i) end

-- the two parts that change places
pub record Parts (raw : List ℕ) (i end : ℕ) : Type 0 where
  pub behind : length (window raw (addr_in raw i + len_in raw i) (end - (addr_in raw i + len_in raw i))) ≡ end - (addr_in raw i + len_in raw i)
  pub own : length (window raw (addr_in raw i) (addr_in raw i + len_in raw i - addr_in raw i)) ≡ len_in raw i
  pub both : length (window raw (addr_in raw i + len_in raw i) (end - (addr_in raw i + len_in raw i)) ++ window raw (addr_in raw i) (addr_in raw i + len_in raw i - addr_in raw i)) ≡ end - addr_in raw i

parts : (raw : List ℕ) (n i end : ℕ) → CanSink raw n i end → Parts raw i end
parts raw n i end can =
    let room = can.room in
    let up = can.up_to.up_to i can.within in
    let behind = length-window raw (addr_in raw i + len_in raw i) (end - (addr_in raw i + len_in raw i)) (omega arith) in
    let own = length-window raw (addr_in raw i) (addr_in raw i + len_in raw i - addr_in raw i) (omega arith) in
    record {
      behind = behind;
      own = omega arith;
      both = omega (arith, length-append (window raw (addr_in raw i + len_in raw i) (end - (addr_in raw i + len_in raw i))) (window raw (addr_in raw i) (addr_in raw i + len_in raw i - addr_in raw i)));
    }

length-turned : (raw : List ℕ) (n i end : ℕ) → CanSink raw n i end → length (turned raw i end) ≡ length raw
length-turned raw n i end can =
    let room = can.room in
    let up = can.up_to.up_to i can.within in
    let p = parts raw n i end can in
    let both = p.both in
    length-overwritten raw (addr_in raw i) (window raw (addr_in raw i + len_in raw i) (end - (addr_in raw i + len_in raw i)) ++ window raw (addr_in raw i) (addr_in raw i + len_in raw i - addr_in raw i)) (omega arith)

desc_at-turned : (raw : List ℕ) (n i end j : ℕ) → CanSink raw n i end → j < n → desc_at (turned raw i end) j ≡ desc_at raw j
desc_at-turned raw n i end j can small =
    let room = can.room in
    let up = can.up_to.up_to i can.within in
    let p = parts raw n i end can in
    let both = p.both in
    desc_at-overwritten raw (addr_in raw i) (window raw (addr_in raw i + len_in raw i) (end - (addr_in raw i + len_in raw i)) ++ window raw (addr_in raw i) (addr_in raw i + len_in raw i - addr_in raw i)) j (omega arith) (omega arith)

-- each payload's bytes stand at its new address
pub turned_payload : (raw : List ℕ) (n i end j : ℕ) → CanSink raw n i end → j < n → window (turned raw i end) (sunk raw i end j).addr (len_in raw j) ≡ window raw (addr_in raw j) (len_in raw j)
turned_payload raw n i end j can small =
    let a = addr_in raw i in
    let len = len_in raw i in
    let behind = window raw (a + len) (end - (a + len)) in
    let own = window raw a (a + len - a) in
    let piece = behind ++ own in
    let room = can.room in
    let up = can.up_to.up_to i can.within in
    let up_j = can.up_to.up_to j small in
    let p = parts raw n i end can in
    let both : length piece ≡ end - a = p.both in
    let own_long : length own ≡ len = p.own in
    let behind_long : length behind ≡ end - (a + len) = p.behind in
    elim (cases_eq j i) [
      | inl e ↦
          let at : (sunk raw i end i).addr ≡ a + (end - (a + len)) = let h = sunk_here raw i end in omega arith in
          let exact : a + len - a ≡ len = omega arith in
          let here : window (turned raw i end) (sunk raw i end i).addr len ≡ window raw a len =
          ap (λ (k : ℕ). window (turned raw i end) k len) at
          ∙ window-overwritten_within raw a piece (end - (a + len)) len (omega arith) (omega arith)
          ∙ window_back behind own (end - (a + len)) len behind_long own_long
          ∙ ap (window raw a) exact in
          let same : ℕ → Type 0 = λ k. window (turned raw i end) (sunk raw i end k).addr (len_in raw k) ≡ window raw (addr_in raw k) (len_in raw k) in
          subst same (sym e) here
      | inr ne ↦ elim (cases_lt (addr_in raw j) a) [
        | inl lt ↦
            let some = can.filled.filled j small in
            let apart = behind_other raw n j i can.sound can.filled small can.within (λ (e : i ≡ j). ne (sym e)) (omega arith) in
            ap (λ (k : ℕ). window (turned raw i end) k (len_in raw j)) (sunk_below raw i end j ne lt)
            ∙ window-overwritten_below raw a piece (addr_in raw j) (len_in raw j) (omega arith) apart
        | inr ge ↦
            let apart = behind_other raw n i j can.sound can.filled can.within small ne ge in
            let off = addr_in raw j - (a + len) in
            let at : (sunk raw i end j).addr ≡ a + off = let h = sunk_above raw i end j ne ge in omega arith in
            let back : a + len + off ≡ addr_in raw j = omega arith in
            ap (λ (k : ℕ). window (turned raw i end) k (len_in raw j)) at
            ∙ window-overwritten_within raw a piece off (len_in raw j) (omega arith) (omega arith)
            ∙ window_front behind own off (len_in raw j) (omega arith)
            ∙ window-window raw (a + len) (end - (a + len)) off (len_in raw j) (omega arith)
            ∙ ap (λ (k : ℕ). window raw k (len_in raw j)) back
      ]
    ]

-- ---- the descriptors, one after another

pub record Sinking (raw cur : List ℕ) (n i end k : ℕ) : Type 0 where
  pub size : length cur ≡ length raw
  pub done : (j : ℕ) → j < k → j < n → desc_at cur j ≡ sunk raw i end j
  pub rest : (j : ℕ) → k ≤ j → j < n → desc_at cur j ≡ desc_at raw j
  pub bytes : (at len : ℕ) → at + len + 8 * n ≤ length raw → window cur at len ≡ window (turned raw i end) at len

pub sinking_begins : (raw : List ℕ) (n i end : ℕ) → CanSink raw n i end → Sinking raw (turned raw i end) n i end 0
sinking_begins raw n i end can = record {
  size = length-turned raw n i end can;
  done = λ j (lt : j < 0) small. absurd (omega arith);
  rest = λ j ge small. desc_at-turned raw n i end j can small;
  bytes = λ at len inside. refl;
}

abbrev pub redescribed : List ℕ → ℕ → Desc → List ℕ
redescribed cur k d = overwritten cur (desc_place cur k) (desc_bytes d)

pub sinking_goes_on : (raw cur : List ℕ) (n i end k : ℕ) (d : Desc) → Sinking raw cur n i end k → 8 * n ≤ length raw → k < n → d ≡ sunk raw i end k → d.addr < 2 ^ 32 → d.info < 2 ^ 32 → Sinking raw (redescribed cur k d) n i end (k + 1)
sinking_goes_on raw cur n i end k d s room small is addr_fits info_fits =
    let size = s.size in
    let eight = length-desc_bytes d in
    record {
      size = length-overwritten cur (desc_place cur k) (desc_bytes d) (omega arith) ∙ size;
      done = λ j lt within. elim (cases_eq j k) [
        | inl e ↦ ap (desc_at (redescribed cur k d)) e ∙ desc_at-written cur k d (omega arith) addr_fits info_fits ∙ is ∙ ap (sunk raw i end) (sym e)
        | inr ne ↦ desc_at-overwritten cur (desc_place cur k) (desc_bytes d) j (omega arith) (omega arith) ∙ s.done j (omega arith) within
      ];
      rest = λ j ge within. desc_at-overwritten_below cur (desc_place cur k) (desc_bytes d) j (omega arith) (omega arith) ∙ s.rest j (omega arith) within;
      bytes = λ at len inside. window-overwritten_below cur (desc_place cur k) (desc_bytes d) at len (omega arith) (omega arith) ∙ s.bytes at len inside;
    }

-- where each payload ends then
pub sunk_ends : (raw : List ℕ) (n i end j : ℕ) → CanSink raw n i end → j < n → end_of (sunk raw i end j) ≤ end
sunk_ends raw n i end j can small =
    let up = can.up_to.up_to i can.within in
    let up_j = can.up_to.up_to j small in
    elim (cases_eq j i) [
      | inl e ↦ let h = sunk_here raw i end in let same = ap (λ (k : ℕ). end_of (sunk raw i end k)) e in omega arith
      | inr ne ↦ elim (cases_lt (addr_in raw j) (addr_in raw i)) [
        | inl lt ↦ let h = sunk_below raw i end j ne lt in omega arith
        | inr ge ↦ let h = sunk_above raw i end j ne ge in let apart = behind_other raw n i j can.sound can.filled can.within small ne ge in omega arith
      ]
    ]

-- the others end in front of it
pub sunk_front : (raw : List ℕ) (n i end j : ℕ) → CanSink raw n i end → j < n → j ≢ i → end_of (sunk raw i end j) ≤ end - len_in raw i
sunk_front raw n i end j can small ne =
    let up = can.up_to.up_to i can.within in
    let up_j = can.up_to.up_to j small in
    elim (cases_lt (addr_in raw j) (addr_in raw i)) [
      | inl lt ↦ let h = sunk_below raw i end j ne lt in let apart = behind_other raw n j i can.sound can.filled small can.within (λ (e : i ≡ j). ne (sym e)) (omega arith) in omega arith
      | inr ge ↦ let h = sunk_above raw i end j ne ge in let apart = behind_other raw n i j can.sound can.filled can.within small ne ge in omega arith
    ]

sunk_apart : (raw : List ℕ) (n i end j k : ℕ) → CanSink raw n i end → j < k → k < n → AreApart (sunk raw i end j) (sunk raw i end k)
sunk_apart raw n i end j k can lt small =
    let here = sunk_here raw i end in
    let j_small : j < n = omega arith in
    elim (cases_eq j i) [
      | inl e ↦ let ne : k ≢ i = omega arith in let h = sunk_front raw n i end k can small ne in let same = ap (λ (m : ℕ). (sunk raw i end m).addr) e in inr (omega arith)
      | inr nj ↦ elim (cases_eq k i) [
        | inl e ↦ let h = sunk_front raw n i end j can j_small nj in let same = ap (λ (m : ℕ). (sunk raw i end m).addr) e in inl (omega arith)
        | inr nk ↦ elim (cases_lt (addr_in raw j) (addr_in raw i)) [
          | inl lj ↦ elim (cases_lt (addr_in raw k) (addr_in raw i)) [
            | inl lk ↦ let hj = sunk_below raw i end j nj lj in let hk = sunk_below raw i end k nk lk in elim (can.sound.apart j k lt small) [ inl h ↦ inl (omega arith) | inr h ↦ inr (omega arith) ]
            | inr gk ↦
                let hj = sunk_below raw i end j nj lj in
                let hk = sunk_above raw i end k nk gk in
                let aj = behind_other raw n j i can.sound can.filled j_small can.within (λ (e : i ≡ j). nj (sym e)) (omega arith) in
                let ak = behind_other raw n i k can.sound can.filled can.within small nk gk in
                inl (omega arith)
          ]
          | inr gj ↦ elim (cases_lt (addr_in raw k) (addr_in raw i)) [
            | inl lk ↦
                let hj = sunk_above raw i end j nj gj in
                let hk = sunk_below raw i end k nk lk in
                let ak = behind_other raw n k i can.sound can.filled small can.within (λ (e : i ≡ k). nk (sym e)) (omega arith) in
                let aj = behind_other raw n i j can.sound can.filled can.within j_small nj gj in
                inr (omega arith)
            | inr gk ↦
                let hj = sunk_above raw i end j nj gj in
                let hk = sunk_above raw i end k nk gk in
                let aj = behind_other raw n i j can.sound can.filled can.within j_small nj gj in
                let ak = behind_other raw n i k can.sound can.filled can.within small nk gk in
                elim (can.sound.apart j k lt small) [ inl h ↦ inl (omega arith) | inr h ↦ inr (omega arith) ]
          ]
        ]
      ]
    ]

pub sinking_ends : (raw cur : List ℕ) (n i end k : ℕ) → CanSink raw n i end → Sinking raw cur n i end k → n ≤ k → IsSunk raw cur n i end
sinking_ends raw cur n i end k can s all = record {
  size = s.size;
  desc = λ j small. s.done j (omega arith) small;
  payload = λ j small.
      let inside = sunk_ends raw n i end j can small in
      let room = can.room in
      ap (λ (d : Desc). window cur d.addr (info_len d.info)) (s.done j (omega arith) small)
      ∙ s.bytes (sunk raw i end j).addr (len_in raw j) (omega arith) ∙ turned_payload raw n i end j can small;
}

pub sunk_shifts : (raw new : List ℕ) (n i end : ℕ) → IsSunk raw new n i end → IsShifted raw new n
sunk_shifts raw new n i end is = record { size = is.size; info = λ j small. ap (λ (d : Desc). d.info) (is.desc j small); payload = is.payload }

pub IsSound-sunk : (raw new : List ℕ) (n i end : ℕ) → CanSink raw n i end → IsSunk raw new n i end → IsSound new n
IsSound-sunk raw new n i end can is =
    let room = can.room in
    let size = is.size in
    record {
      room = omega arith;
      within = λ j small. let ends = sunk_ends raw n i end j can small in let same = ap end_of (is.desc j small) in omega arith;
      apart = λ j k lt small. AreApart-same _ _ _ _ (is.desc j (omega arith)) (is.desc k small) (sunk_apart raw n i end j k can lt small);
    }
