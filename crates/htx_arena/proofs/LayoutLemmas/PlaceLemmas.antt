-- A payload that changes where it stands: with more bytes behind it, or with others and no more.
use Rattle.std.proofs.Common.{◌≡◌, ℕ, ◌+◌, ◌-◌, ◌*◌, ◌++◌, ◌<◌, ◌≤◌, ◌⊎◌, inl, inr, List, length, length-drop, get_or, set, take, drop, sum_by, max, Some, None, ap, sym, ◌∙◌, subst, arith}
use Rattle.std.specs.Prelude.{remove, IfSome}
use Rattle.std.proofs.lemmas.List.{take_all, take-take}
use Rattle.std.proofs.lemmas.List.Sums.{sum_by-remove}
use Rattle.htx_model.specs.Block.{Data, EndHeaders, kind_of, value_of, payload_len}
use Rattle.htx_model.specs.declared.Kind.TheVariants as kinds
use Rattle.htx_model.proofs.PublicLaws.{data_is}
use Rattle.htx_model.specs.Blocks.{load, block_at}
use Rattle.htx_arena.specs.declared.space.space.Desc.{Desc}
use Rattle.htx_arena.specs.Space.Windows.{desc_at, window}
use Rattle.htx_arena.specs.Layout.Raw.{Tells, Describes, info_len, addr_in, len_in, block_in, block_of, payload_in, payload_of, blocks_of, addrs_of}
use Rattle.htx_arena.specs.Layout.Sound.{IsLaid, IsTop, IsKnown, StaysLow, end_of}
use Rattle.htx_arena.specs.declared.layout.scan.Ends.{Ends}
use Rattle.htx_arena.specs.Layout.Place.{stays}
use Rattle.htx_arena.specs.Layout.Moves.{IsRenewed}
use Rattle.htx_arena.specs.Layout.Longer.{IsLonger, kept_bytes}
use Rattle.htx_arena.specs.declared.layout.longer.Longer.{Longer}
use Rattle.htx_arena.proofs.LayoutLemmas.RawLemmas.{length-listed}
use Rattle.htx_arena.proofs.LayoutLemmas.TellLemmas.{length-payload_in, len_told}
use Rattle.htx_arena.proofs.LayoutLemmas.CodeLemmas.{IsMade}
use Rattle.htx_arena.proofs.LayoutLemmas.ReplaceLemmas.{data_less}
use Rattle.htx_arena.proofs.LayoutLemmas.StayLemmas.{MayGrow, stays_grows}
use Rattle.htx_arena.proofs.LayoutLemmas.RoomLemmas.{within_own}
use Rattle.htx_arena.proofs.LayoutLemmas.GrowLemmas.{renewed_blocks, renewed_addrs, stayed_addrs, renewed_laid}
use Rattle.htx_arena.proofs.LayoutLemmas.TopLemmas.{top_longer, top_shorter, top_cut}
use Rattle.htx_arena.proofs.LayoutLemmas.KnownLemmas.{unknown, known_same, known_with}
use Rattle.htx_arena.specs.Layout.Contents.{Contents}
use Rattle.htx_arena.specs.Layout.Whole.{IsWhole}
use Rattle.htx_arena.specs.declared.layout.array.Array.TheInside.{Inside}
use Rattle.htx_arena.proofs.LayoutLemmas.WholeLemmas.{seen_of, numbers, at, whole_set}

-- ---- more bytes

pub more_small : (a : Inside) (s : Contents) (i k : ℕ) → IsWhole a → seen_of a ≡ s → i < length s.blocks → load s.blocks + k ≤ s.size → payload_len (block_at s.blocks i) + k ≤ 262144
more_small a s i k whole view h fits =
    let num = numbers a s whole view in
    let most = num.most in
    let size = num.size in
    let loaded = num.loaded in
    let weighs = (at a s i whole view h).weighs in
    omega arith

-- where they may stay is asked of the array's bytes
pub stays_seen : (a : Inside) (s : Contents) (i k : ℕ) → IsWhole a → seen_of a ≡ s → i < length s.blocks →
    stays (length a.space) (blocks_of a.space a.count) (addrs_of a.space a.count) a.ends.front (addr_in a.space i + payload_len (block_in a.space i)) k ≡ stays s.size s.blocks s.addrs s.front (get_or s.addrs i 0 + payload_len (block_at s.blocks i)) k
stays_seen a s i k whole view h =
    let t = at a s i whole view h in
    ap (λ (x : Contents). stays x.size x.blocks x.addrs x.front (addr_in a.space i + payload_len (block_in a.space i)) k) view ∙ (λ j. stays s.size s.blocks s.addrs s.front (sym t.addr j + payload_len (sym t.block j)) k)

pub may_extend : (a : Inside) (s : Contents) (i info k f : ℕ) → IsWhole a → seen_of a ≡ s → i < length s.blocks → info_len info ≡ payload_len (block_at s.blocks i) + k →
    stays s.size s.blocks s.addrs s.front (get_or s.addrs i 0 + payload_len (block_at s.blocks i)) k ≡ Some f → MayGrow a.space a.count i info f
may_extend a s i info k f whole view h sum stay =
    let t = at a s i whole view h in
    let raw = a.space in
    let n = a.count in
    let len = t.len in
    let end_is : get_or s.addrs i 0 + payload_len (block_at s.blocks i) ≡ end_of (desc_at raw i) = λ j. t.addr j + t.len j in
    let seen : stays (length raw) (blocks_of raw n) (addrs_of raw n) a.ends.front (end_of (desc_at raw i)) k ≡ Some f =
    ap (λ (x : Contents). stays x.size x.blocks x.addrs x.front (end_of (desc_at raw i)) k) view ∙ ap (λ (e : ℕ). stays s.size s.blocks s.addrs s.front e k) (sym end_is) ∙ stay in
    stays_grows raw n a.ends.front i info k f whole.laid t.small (omega arith) seen

-- all bytes of a payload were kept
kept_all : (a : Inside) (s : Contents) (i keep : ℕ) (more piece : List ℕ) → IsWhole a → seen_of a ≡ s → i < length s.blocks → keep ≡ len_in a.space i → more ≡ piece → take keep (payload_in a.space i) ++ more ≡ payload_in a.space i ++ piece
kept_all a s i keep more piece whole view h e f =
    let t = at a s i whole view h in
    let long = length-payload_in a.space a.count i whole.laid.sound t.small in
    (λ j. take (e j) (payload_in a.space i) ++ f j) ∙ ap (λ (p : List ℕ). p ++ piece) (take_all (len_in a.space i) (payload_in a.space i) (omega arith))

pub record IsExtended (a : Inside) (s : Contents) (i info f : ℕ) (piece new : List ℕ) : Type 0 where
  pub whole : (l : ℕ) (e : Ends) → l ≡ a.load + length piece → e.front ≡ f → e.top ≡ max a.ends.top (addr_in a.space i + info_len info) → IfSome e.low (StaysLow a.ends (record { addr = addr_in a.space i; front = f })) → IsWhole (record { space = new; count = a.count; load = l; ends = e })
  pub blocks : blocks_of new a.count ≡ set s.blocks i (block_of info (payload_of (block_at s.blocks i) ++ piece))
  pub size : length new ≡ s.size
  pub addrs : addrs_of new a.count ≡ s.addrs

pub extended : (a : Inside) (s : Contents) (i info f keep : ℕ) (more piece new : List ℕ) → IsWhole a → seen_of a ≡ s → i < length s.blocks → info_len info ≡ payload_len (block_at s.blocks i) + length piece →
    stays s.size s.blocks s.addrs s.front (get_or s.addrs i 0 + payload_len (block_at s.blocks i)) (length piece) ≡ Some f → Tells info (payload_of (block_at s.blocks i) ++ piece) → load s.blocks + length piece ≤ s.size → keep ≡ payload_len (block_at s.blocks i) → more ≡ piece →
    IsRenewed a.space new a.count i (record { addr = addr_in a.space i; info = info }) (take keep (payload_in a.space i) ++ more) → IsExtended a s i info f piece new
extended a s i info f keep more piece new whole view h sum stay told fits keeps same was =
    let t = at a s i whole view h in
    let num = numbers a s whole view in
    let raw = a.space in
    let n = a.count in
    let laid = whole.laid in
    let g = may_extend a s i info (length piece) f whole view h sum stay in
    let is = subst (IsRenewed raw new n i (record { addr = addr_in raw i; info = info })) (kept_all a s i keep more piece whole view h (keeps ∙ t.len) same) was in
    let d : Desc = record { addr = addr_in raw i; info = info } in
    let payload = payload_in raw i ++ piece in
    let tells : Tells info payload = subst (λ (p : List ℕ). Tells info (p ++ piece)) t.bytes told in
    let len = t.len in
    let some = laid.filled.filled i t.small in
    let laid1 = renewed_laid raw new n i f a.ends.front d payload g.can is tells (omega arith) laid g.others g.own g.small in
    let blocks = renewed_blocks raw new n i d payload t.small is in
    let addrs = stayed_addrs raw new n i info payload is in
    let made = tells.len in
    let topped : IsTop new n (max a.ends.top (addr_in raw i + info_len info)) = subst (λ (k : ℕ). IsTop new n (max a.ends.top (addr_in raw i + k))) made (top_longer raw new n i a.ends.top f (block_of info payload) laid.told whole.topped t.small blocks addrs (omega arith) laid1) in
    let size = is.size in
    let loaded = num.loaded in
    let whole_size = num.size in
    record {
      whole = λ l e more e_front e_top e_low. whole_set raw new n i a.load l e (info_len info) (block_of info payload) laid.told whole.loaded t.small blocks made (subst (IsLaid new n) (sym e_front) laid1) (omega arith) (subst (IsTop new n) (sym e_top) topped) (subst (λ (x : ℕ). IsKnown new n x e.low) (sym e_front) (known_with raw new n a.ends (record { addr = addr_in raw i; front = f }) e.low whole.known addrs e_low)) (omega arith);
      blocks = blocks ∙ (λ j. set ((ap (λ (x : Contents). x.blocks) view) j) i (block_of info (sym t.bytes j ++ piece)));
      size = size ∙ ap (λ (x : Contents). x.size) view;
      addrs = addrs ∙ ap (λ (x : Contents). x.addrs) view;
    }

-- ---- no more bytes

pub record IsRewritten (a : Inside) (s : Contents) (i keep info : ℕ) (more new : List ℕ) : Type 0 where
  pub laid : IsLaid new a.count a.ends.front
  pub stayed : end_of (desc_at a.space i) < a.ends.top → IsTop new a.count a.ends.top
  pub known : IsKnown new a.count a.ends.front a.ends.low
  pub whole : (l : ℕ) (e : Ends) → l + len_in a.space i ≡ a.load + info_len info → IsLaid new a.count e.front → IsTop new a.count e.top → IsKnown new a.count e.front e.low → IsWhole (record { space = new; count = a.count; load = l; ends = e })
  pub blocks : blocks_of new a.count ≡ set s.blocks i (block_of info (take keep (payload_of (block_at s.blocks i)) ++ more))
  pub size : length new ≡ s.size
  pub addrs : addrs_of new a.count ≡ s.addrs

pub rewritten : (a : Inside) (s : Contents) (i keep info : ℕ) (more new : List ℕ) → IsWhole a → seen_of a ≡ s → i < length s.blocks → info_len info ≤ payload_len (block_at s.blocks i) → 0 < info_len info →
    Tells info (take keep (payload_of (block_at s.blocks i)) ++ more) → IsRenewed a.space new a.count i (record { addr = addr_in a.space i; info = info }) (take keep (payload_in a.space i) ++ more) → IsRewritten a s i keep info more new
rewritten a s i keep info more new whole view h shorter some told is =
    let t = at a s i whole view h in
    let raw = a.space in
    let n = a.count in
    let laid = whole.laid in
    let len = t.len in
    let d : Desc = record { addr = addr_in raw i; info = info } in
    let payload = take keep (payload_in raw i) ++ more in
    let tells : Tells info payload = subst (λ (p : List ℕ). Tells info (take keep p ++ more)) t.bytes told in
    let can = within_own raw n i d laid.sound laid.most t.small (omega arith) (omega arith) in
    let own : (end_of d ≤ a.ends.front) ⊎ (a.ends.front ≤ d.addr) = elim (laid.parted.parted i t.small) [ inl h ↦ inl (omega arith) | inr h ↦ inr (omega arith) ] in
    let laid1 = renewed_laid raw new n i a.ends.front a.ends.front d payload can is tells some laid (λ j small ne. laid.parted.parted j small) own laid.small in
    let blocks = renewed_blocks raw new n i d payload t.small is in
    let addrs = stayed_addrs raw new n i info payload is in
    let made = tells.len in
    let size = is.size in
    let fits = whole.fits in
    let weighs = t.weighs in
    record {
      laid = laid1;
      stayed = λ below. top_shorter raw new n i a.ends.top a.ends.front (block_of info payload) laid.told whole.topped t.small blocks addrs (omega arith) laid1 below;
      known = known_same raw new n a.ends.front a.ends.low addrs whole.known;
      whole = λ l e sum now topped known. whole_set raw new n i a.load l e (info_len info) (block_of info payload) laid.told whole.loaded t.small blocks made now sum topped known (omega arith);
      blocks = blocks ∙ (λ j. set ((ap (λ (x : Contents). x.blocks) view) j) i (block_of info (take keep (sym t.bytes j) ++ more)));
      size = size ∙ ap (λ (x : Contents). x.size) view;
      addrs = addrs ∙ ap (λ (x : Contents). x.addrs) view;
    }

-- ---- without the first bytes

pub record IsTrimmed (a : Inside) (s : Contents) (i k info : ℕ) (new : List ℕ) : Type 0 where
  pub whole : (l : ℕ) → l + k ≡ a.load → IsWhole (record { space = new; count = a.count; load = l; ends = record { front = a.ends.front; top = a.ends.top; low = None } })
  pub blocks : blocks_of new a.count ≡ set s.blocks i (block_of info (drop k (payload_of (block_at s.blocks i))))
  pub size : length new ≡ s.size
  pub addrs : addrs_of new a.count ≡ set s.addrs i (get_or s.addrs i 0 + k)

pub trimmed : (a : Inside) (s : Contents) (i k info : ℕ) (new : List ℕ) → IsWhole a → seen_of a ≡ s → i < length s.blocks → 0 < info_len info → info_len info + k ≡ payload_len (block_at s.blocks i) →
    Tells info (drop k (payload_of (block_at s.blocks i))) → IsRenewed a.space new a.count i (record { addr = addr_in a.space i + k; info = info }) (drop k (payload_in a.space i)) → IsTrimmed a s i k info new
trimmed a s i k info new whole view h some sum told is =
    let t = at a s i whole view h in
    let raw = a.space in
    let n = a.count in
    let laid = whole.laid in
    let len = t.len in
    let d : Desc = record { addr = addr_in raw i + k; info = info } in
    let payload = drop k (payload_in raw i) in
    let tells : Tells info payload = subst (λ (p : List ℕ). Tells info (drop k p)) t.bytes told in
    let can = within_own raw n i d laid.sound laid.most t.small (omega arith) (omega arith) in
    let own : (end_of d ≤ a.ends.front) ⊎ (a.ends.front ≤ d.addr) = elim (laid.parted.parted i t.small) [ inl h ↦ inl (omega arith) | inr h ↦ inr (omega arith) ] in
    let laid1 = renewed_laid raw new n i a.ends.front a.ends.front d payload can is tells some laid (λ j small ne. laid.parted.parted j small) own laid.small in
    let blocks = renewed_blocks raw new n i d payload t.small is in
    let addrs = renewed_addrs raw new n i d payload t.small is in
    let made = tells.len in
    let size = is.size in
    let fits = whole.fits in
    let weighs = t.weighs in
    let topped = top_cut raw new n i (addr_in raw i + k) a.ends.top a.ends.front (block_of info payload) laid.told whole.topped t.small blocks addrs (omega arith) laid1 in
    record {
      whole = λ l e. whole_set raw new n i a.load l _ (info_len info) (block_of info payload) laid.told whole.loaded t.small blocks made laid1 (omega arith) topped (unknown new n a.ends.front) (omega arith);
      blocks = blocks ∙ (λ j. set ((ap (λ (x : Contents). x.blocks) view) j) i (block_of info (drop k (sym t.bytes j))));
      size = size ∙ ap (λ (x : Contents). x.size) view;
      addrs = addrs ∙ (λ j. set ((ap (λ (x : Contents). x.addrs) view) j) i (sym t.addr j + k));
    }

-- data without its first bytes
pub record CutOf (s : Contents) (i k info : ℕ) : Type 0 where
  pub made : IsMade (Data (drop k (value_of (block_at s.blocks i)))) (info - k) (drop k (payload_of (block_at s.blocks i)))
  pub sum : info_len (info - k) + k ≡ payload_len (block_at s.blocks i)
  pub some : 0 < info_len (info - k)

pub cut_of : (a : Inside) (s : Contents) (i k info : ℕ) → IsWhole a → seen_of a ≡ s → i < length s.blocks → Describes info (block_at s.blocks i) → kind_of (block_at s.blocks i) ≡ kinds.Data → k < length (value_of (block_at s.blocks i)) → CutOf s i k info
cut_of a s i k info whole view h d kind part =
    let num = numbers a s whole view in
    let most = num.most in
    let fits = num.fits in
    let weighs = (at a s i whole view h).weighs in
    let m = data_less (block_at s.blocks i) info k d kind (omega arith) part in
    let len = m.len in
    let long = ap payload_len (data_is (block_at s.blocks i) kind) in
    let rest = length-drop k (value_of (block_at s.blocks i)) in
    record { made = m; sum = omega arith; some = omega arith }

-- ---- a longer payload, placed anew

pub record IsAnew (a : Inside) (s : Contents) (i : ℕ) (l : Longer) : Type 0 where
  pub part : info_len l.kept.0 ≤ len_in a.space i
  pub bytes : take (info_len l.kept.0) (payload_of (block_at s.blocks i)) ≡ kept_bytes a.space l
  pub longer : IsLonger a.space l
  pub fits : sum_by payload_len (remove (blocks_of a.space a.count) i) + info_len l.info.0 + 8 * a.count ≤ length a.space

pub anew : (a : Inside) (s : Contents) (i : ℕ) (l : Longer) → IsWhole a → seen_of a ≡ s → i < length s.blocks → l.from ≡ addr_in a.space i → 0 < info_len l.kept.0 → info_len l.kept.0 ≤ payload_len (block_at s.blocks i) → Tells l.kept.0 (take (info_len l.kept.0) (payload_of (block_at s.blocks i))) →
    info_len l.info.0 ≡ info_len l.kept.0 + length l.more.now → Tells l.info.0 (take (info_len l.kept.0) (payload_of (block_at s.blocks i)) ++ l.more.now) → load s.blocks + info_len l.info.0 ≤ s.size + payload_len (block_at s.blocks i) → IsAnew a s i l
anew a s i l whole view h own some less kept_tells sum tells fits =
    let t = at a s i whole view h in
    let num = numbers a s whole view in
    let raw = a.space in
    let len = t.len in
    let small = t.small in
    let keep = info_len l.kept.0 in
    let part : keep ≤ len_in raw i = omega arith in
    let within = whole.laid.sound.within i small in
    let count = length-listed (block_in raw) a.count in
    let without = sum_by-remove payload_len (blocks_of raw a.count) i EndHeaders (omega arith) in
    let old = len_told raw a.count i whole.laid.told small in
    let payloads = num.payloads in
    let size = num.size in
    let bytes = ap (take keep) t.bytes ∙ take-take keep (len_in raw i) (drop (addr_in raw i) raw) part ∙ ap (λ (x : ℕ). window raw x keep) (sym own) in
    record {
      part = part;
      bytes = bytes;
      longer = record { source = omega arith; some = some; kept_tells = subst (Tells l.kept.0) bytes kept_tells; len = sum; tells = subst (λ (p : List ℕ). Tells l.info.0 (p ++ l.more.now)) bytes tells };
      fits = omega arith;
    }
