-- `run` lends a part of the slice that `all` gives. The borrow checker shows no write-back clause for a part of a
-- `&mut [T]`, so this proof walks the code by hand.
use Rattle.std.proofs.Common.{◌≡◌, ◌<◌, ◌≤◌, ◌+◌, ◌-◌, ◌^◌, ℕ, List, [], ◌∷◌, length, take, drop as drop_list, slice_range, refl, ap, ◌∙◌, arith, MutBor, w64}
use Rattle.std.proofs.lemmas.List.{length-take-le}
use Rattle.std.proofs.raw_atomic.Walks.{proved}
use mir.Syntax.{named}
use mir.Val.{Val}
use base.Logic.{id⊢}
use base.Stored.{coded_list}
use base.Fml.{ftrue, flft, fobs}
use contract.Monad.{fact}
use contract.Running.{tables}
use types.Kit.{‵, ◌⊛◌, raw, given, some, later, ◌$◌, ◌∵◌, !, qed, move, keep, drop, use1, use2, split, split3, learn, join, await, pick, rewrite, fsplit, fjoin, feq_l, suffices, frame, done}
use types.Part.{whole, sub, agg}
use types.Run.{stop, fld, addr, bin, and_then, no_more, returns, enter}
use types.ByLocal.{alloc_all, pass_all, free_all, look_at, get, get_in, through, sets, lands_as}
use denote.Array.{Array}
use denote.Builtin.{u8, usize}
use denote.Exit.{no, yes}
use denote.Follow.{follows, follows_then}
use denote.FollowSlice.{heres_id, slice_of}
use denote.Memory.{mem}
use denote.Plain.{uint_vals, uint_Tells}
use denote.RattleType.{owns}
use denote.Ref.{MutRef, mut_vals, mut_Tells}
use denote.Shadow.{pure_l}
use denote.Signature.{plain, mut_ref_to}
use denote.Slice.{MutSlice, Room, room, slice_val}
use denote.Steps.{nothing, heard, only}
use denote.Triple.Call.{calls_at}
use denote.Triple.Clauses.{Lasts, lasts}
use denote.Triple.Spec.{triple_of}
use denote.Triple.Table.{framed}
use denote.Triple.Walked.{says, Stays, stay_dropped, ends_at, Goes-dropped, Goes-spent_ref}
use borrow.Table.Elements.{at, at_mul}
use Rattle.wire_buf.specs.ItemsLends.{ring_row, with_items, with_run}
use Rattle.wire_buf.proofs.Parts.{cut_at, length_run, part_lent, lends_part}
use Rattle.wire_buf.specs.contracts.lent.run as f
use Rattle.wire_buf.proofs.lent.run.Statement.{statement}
use Rattle.wire_buf.proofs.lent.run.Code as code
use Rattle.wire_buf.specs.contracts.lent.all as g
use Rattle.wire_buf.proofs.lent.all.Met.{met}

abbrev stayed : Stays f.ended.signature.params f.ended.kept
stayed = (stay_dropped (mut_ref_to (0 ∷ []) tt (plain (λ _. ring_row))) no, (stay_dropped (plain (λ _. usize)) yes, (stay_dropped (plain (λ _. usize)) yes, tt)))

pub run_spec : {M : Type 1} → statement M
run_spec 𝓤 𝓛 𝓜 𝓡 wired =
    let c = f.clauses 𝓛 𝓜.mem 𝓡.returns in
    proved 𝓛 f.ended stayed c 𝓜 𝓡 (Goes-spent_ref 𝓛 1 (0 ∷ []) tt (plain (λ _. ring_row)), (Goes-dropped 𝓛 1 (plain (λ _. usize)) yes (λ κs x w. refl), (Goes-dropped 𝓛 1 (plain (λ _. usize)) yes (λ κs x w. refl), tt)))
    f.Key.name code.function (code.unfolded 𝓤 𝓛.H 𝓜 𝓡 wired)
    (λ κs. (mut_vals, (uint_vals w64, (uint_vals w64, tt)))) (λ κs. (mut_Tells (named 0) κs.0 ring_row, (uint_Tells w64, (uint_Tells w64, tt)))) (λ κs qs bounds a none are.
    let κ = κs.0 in let q = qs.0 in let x = a.0 in let γ = x.ghost_name in let i = a.1.0 in let j = a.1.1.0 in
    let vs : List Val × (List Val × (List Val × Unit {0})) = (mut_vals x, (uint_vals w64 i, (uint_vals w64 j, tt))) in
    let G = triple_of 𝓛 g.signature (g.spec 𝓛 𝓜.mem 𝓡.returns) in
    let z : G.Ghost = ((κs, qs, bounds, (x, tt), (mut_vals x, tt)), tt) in
    qed 𝓛 (((‵ (flft κ q) ⊛ ‵ ftrue) ⊛ ‵ (owns (MutRef (named 0) κ ring_row ∷ usize ∷ usize ∷ []) (x, (i, (j, tt))) vs)) ∷ (given (i ≤ j) (‵ ftrue) ⊛ given (j ≤ length x.now.items) (‵ ftrue)) ∷ []) ∵
    move ! (1 ∷ []) $ split ! $ learn ! (λ order. drop ! $ learn ! (λ within. drop ! $
    split ! $ split ! $ move ! (2 ∷ []) $ fsplit ! $ keep ! (0 ∷ 2 ∷ []) $
    -- [the reference; the token]
    enter ! _ _ _ _ _ $
    alloc_all ! (λ l. pass_all ! refl ((tt, tt), ((tt, record { fits = are.1.0.1 }), ((tt, record { fits = are.1.1.0.1 }), tt))) $
    sets ! (addr ! (through ! refl (stop !))) refl (tt, tt) $
    nothing ! $ move ! (1 ∷ 0 ∷ []) $ join ! $ nothing ! $ move ! (2 ∷ 0 ∷ []) $ join ! $ join ! $ nothing ! $ move ! (1 ∷ 0 ∷ []) $ use2 𝓛 (raw (G.pre z)) (id⊢ 𝓤 _) $
    calls_at ! (framed 𝓤 𝓛.H 𝓜 (tables 𝓤 𝓛.H 𝓜 𝓡 𝓡.env)) G (met 𝓤 𝓛 𝓜 𝓡 (code.calls-wire_buf::lent::all 𝓡.env wired)) z
    (and_then ! (get ! refl) (no_more !)) (λ v.
    use1 𝓛 (later (some (λ (r : MutBor (List ℕ)). ((‵ (flft κ q) ⊛ ‵ ftrue) ⊛ ‵ ((MutSlice (named 0) κ u8).own_val r (v ∷ []))) ⊛
    some (λ (ws : Lasts g.ended κs (x, tt)). ‵ (lasts g.ended κs (x, tt) ws) ⊛ ‵ (follows ring_row (Array u8 0) γ r.ghost_name (with_items x.now)) ⊛ raw (fact 𝓤 (r.now ≡ x.now.items)))))) (id⊢ 𝓤 _) $
    await ! tt $ pick ! (λ r. split ! $ split ! $ split ! $ move ! (2 ∷ []) $ fsplit ! $ fsplit ! $ feq_l ! (λ is_r. pure_l ! (room u8 (length r.now)) (λ rm.
    lands_as ! (ap only is_r) refl (tt, (tt, (record { fits = rm.0 }, tt))) $
    -- [the slice's two parts; the token; nothing; what was ensured]
    move ! (3 ∷ []) $ pick ! (λ ws. split3 ! $ drop ! $ move ! (1 ∷ []) $ heard ! _ (λ is.
    let xs = r.now in let b = r.ref_ptr.0 in let o = r.ref_ptr.1 in
    let front = take i xs in let mid = slice_range xs i j in let back = drop_list j xs in
    let inside : j ≤ length xs = omega (arith, within, ap length is) in
    let count : length mid ≡ j - i = length_run xs i j order inside in
    let before : length front ≡ i = length-take-le i xs (omega (arith, order, inside)) in
    let p : ℕ = i + o in
    let on : at o (mem u8).size (length front) ≡ p = at_mul o (mem u8).size (length front) ∙ omega (arith, before) in
    let fr : j - i < 2 ^ 64 = omega (arith, rm.0, inside) in
    let roomy : Room u8 (length mid) = (omega (arith, rm.0, count, inside), omega (arith, rm.1, count, inside)) in
    move ! (1 ∷ 2 ∷ []) $ fsplit ! $
    rewrite ! 0 (λ (l : List ℕ). ‵ (fobs r.ghost_name ((coded_list (u8).coded).code l))) (heres_id u8 xs) refl $
    use2 𝓛 (‵ ((MutSlice (named 0) κ u8).own_val r (slice_val (b, o) (length xs) ∷ []))) (slice_of 𝓛 u8 (named 0) κ b o r.ghost_name xs rm) $
    -- [the slice; the token; what the ring follows; nothing]
    sets ! (bin ! (get_in ! (fld ! refl (stop !)) (sub ! 0 refl (whole !))) (get ! refl) tt) refl (tt, tt) $
    sets ! (bin ! (get ! refl) (get ! refl) order) refl (tt, record { fits = fr }) $
    sets ! (addr ! (through ! refl (stop !))) refl (tt, tt) $
    sets ! (agg ! (and_then ! (get ! refl) (and_then ! (get ! refl) (no_more !)))) refl (tt, (tt, (record { fits = fr }, tt))) $
    use2 𝓛 (later (some (part_lent 𝓛 κ q b o r.ghost_name xs front mid back (cut_at xs i j order) p on (length mid)))) (lends_part 𝓛 κ q b o r.ghost_name xs front mid back (cut_at xs i j order) p on roomy (slice_val (b, o) (length xs) ∷ [])) $
    await ! tt $ pick ! (λ δ.
    rewrite ! 0 (λ (k : ℕ). part_lent 𝓛 κ q b o r.ghost_name xs front mid back (cut_at xs i j order) p on k δ) count refl $ split3 ! $
    -- [the part; the token; what the slice follows; what the ring follows; nothing]
    move ! (3 ∷ 2 ∷ []) $ use2 𝓛 (‵ (follows ring_row (Array u8 0) γ δ (λ us. with_items x.now (with_run xs i j us)))) (follows_then 𝓛 ring_row (Array u8 0) (Array u8 0) (with_items x.now) (with_run xs i j) γ r.ghost_name δ) $
    rewrite ! 0 (λ (l : List ℕ). ‵ (follows ring_row (Array u8 0) γ δ (λ us. with_items x.now (with_run l i j us)))) is refl $
    returns ! (look_at ! 0 refl) $ free_all ! refl $ keep ! (1 ∷ 2 ∷ 0 ∷ []) $
    suffices ! _ (ends_at 𝓛 f.ended stayed c ((κs, qs, bounds, a, vs), tt) (slice_val (b, p) (j - i)) (record { ref_ptr = (b, p); ghost_name = δ; now = mid }) (tt, (tt, (tt, tt))) (tt, (tt, (tt, tt)))) $
    nothing ! $ nothing ! $ fjoin ! $ nothing ! $ fjoin ! $ nothing ! $ fjoin ! $ join ! $ nothing ! $ move ! (2 ∷ 0 ∷ []) $ join ! $ join ! $ frame ! $ says ! (ap (λ (l : List ℕ). slice_range l i j) is) $ done !)))))))))))
