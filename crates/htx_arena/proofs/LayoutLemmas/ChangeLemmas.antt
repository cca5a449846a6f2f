-- A payload is rewritten behind its first bytes, or loses them.
use Rattle.std.proofs.Common.{◌≡◌, ℕ, ◌+◌, ◌^◌, ◌<◌, ◌≤◌, List, ◌++◌, length, take, drop, subst, ap, sym, ◌∙◌, arith}
use Rattle.std.proofs.lemmas.List.{take-take, drop-take, drop-drop}
use Rattle.htx_arena.specs.declared.space.space.Desc.{Desc}
use Rattle.htx_arena.specs.Space.Windows.{window, overwritten}
use Rattle.htx_arena.specs.Layout.Raw.{addr_in, len_in, payload_in, info_len}
use Rattle.htx_arena.specs.Layout.Sound.{IsSound}
use Rattle.htx_arena.specs.Layout.Moves.{CanRenew, IsRenewed}
use Rattle.htx_arena.proofs.LayoutLemmas.GrowLemmas.{redescribed, redescribed_is, overwritten_is, overwritten_none, window_extended}
use Rattle.htx_arena.proofs.LayoutLemmas.RoomLemmas.{within_own}

abbrev pub rewritten : List ℕ → ℕ → ℕ → ℕ → List ℕ → List ℕ
rewritten raw i keep info piece = redescribed (overwritten raw (addr_in raw i + keep) piece) i (record { addr = addr_in raw i; info = info })

pub rewritten_is : (raw : List ℕ) (n i keep info : ℕ) (piece : List ℕ) → CanRenew raw n i (record { addr = addr_in raw i; info = info }) → keep ≤ len_in raw i → info_len info ≡ keep + length piece → addr_in raw i < 2 ^ 32 → info < 2 ^ 32 →
    IsRenewed raw (rewritten raw i keep info piece) n i (record { addr = addr_in raw i; info = info }) (take keep (payload_in raw i) ++ piece)
rewritten_is raw n i keep info piece can part len addr_fits info_fits =
    let d : Desc = record { addr = addr_in raw i; info = info } in
    let a = addr_in raw i in
    let mid = overwritten raw (a + keep) piece in
    let room = can.room in
    let is = redescribed_is raw mid n i d can (overwritten_is raw n i (a + keep) piece d can (omega arith) (omega arith)) addr_fits info_fits in
    let bytes : window mid a (info_len info) ≡ take keep (payload_in raw i) ++ piece =
    ap (window mid a) len ∙ window_extended raw a keep piece (omega arith) ∙ ap (λ (w : List ℕ). w ++ piece) (sym (take-take keep (len_in raw i) (drop a raw) part)) in
    subst (IsRenewed raw (rewritten raw i keep info piece) n i d) bytes is

abbrev pub trimmed : List ℕ → ℕ → ℕ → ℕ → List ℕ
trimmed raw i cut info = redescribed raw i (record { addr = addr_in raw i + cut; info = info })

pub trimmed_is : (raw : List ℕ) (n i cut info : ℕ) → IsSound raw n → length raw ≤ 262144 → i < n → info_len info + cut ≡ len_in raw i → addr_in raw i + cut < 2 ^ 32 → info < 2 ^ 32 →
    IsRenewed raw (trimmed raw i cut info) n i (record { addr = addr_in raw i + cut; info = info }) (drop cut (payload_in raw i))
trimmed_is raw n i cut info sound most small len addr_fits info_fits =
    let d : Desc = record { addr = addr_in raw i + cut; info = info } in
    let a = addr_in raw i in
    let can = within_own raw n i d sound most small (omega arith) (omega arith) in
    let is = redescribed_is raw raw n i d can (overwritten_none raw n i) addr_fits info_fits in
    let all : len_in raw i ≡ cut + info_len info = omega arith in
    let bytes : window raw (a + cut) (info_len info) ≡ drop cut (payload_in raw i) =
    sym (ap (λ (m : ℕ). drop cut (take m (drop a raw))) all ∙ drop-take cut (info_len info) (drop a raw) ∙ ap (take (info_len info)) (drop-drop cut a raw)) in
    subst (IsRenewed raw (trimmed raw i cut info) n i d) bytes is
