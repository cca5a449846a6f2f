-- The variables of four scopes that lie behind one another: where those of a scope are, and what an edit of them leaves of the others.
use Rattle.std.proofs.Common.{◌≡◌, ◌+◌, List, [], ◌++◌, length, take, drop, refl, sym, arith, length-append, length-drop}
use Rattle.std.proofs.lemmas.List.{take-append-drop, append_assoc, append-nil, drop-drop, take_at, drop_at, take_all}
use Rattle.std.proofs.lemmas.List.Sums.{sum_by-append}
use Rattle.px_sample.specs.declared.scope.Scope.{Scope}
use Rattle.px_sample.specs.declared.scope.Scope.TheVariants.{Sess, Txn, Req, Res}
use Rattle.px_sample.specs.declared.share.Share.{Share}
use Rattle.px_sample.specs.declared.share.Shares.{Shares}
use Rattle.px_sample.specs.Entry.{Entry, load, weight}
use Rattle.px_sample.specs.Variables.{Variables, entries_in, with_entries}
use Rattle.px_sample.specs.Shares.{share_of, with_share, slots_before, bytes_before, part, parted}
use Rattle.px_sample.specs.Held.{IsShare}

-- all of them, one scope behind another
abbrev pub joined : Variables → List Entry
joined v = v.sess ++ (v.txn ++ (v.req ++ v.res))

-- those of the scopes before one, and of those behind it
abbrev pub before : Variables → Scope → List Entry
before v Sess = []
before v Txn = v.sess
before v Req = v.sess ++ v.txn
before v Res = v.sess ++ (v.txn ++ v.req)

abbrev pub behind : Variables → Scope → List Entry
behind v Sess = v.txn ++ (v.req ++ v.res)
behind v Txn = v.req ++ v.res
behind v Req = v.res
behind v Res = []

-- each scope's share counts its variables
abbrev pub Counted : Shares → Variables → Type 0
Counted s v = (scope : Scope) → IsShare (share_of s scope) (entries_in v scope)

-- ---- all of them around one scope

pub joined-with : (v : Variables) (k : Scope) (xs : List Entry) → joined (with_entries v k xs) ≡ before v k ++ (xs ++ behind v k)
joined-with v Sess xs = refl
joined-with v Txn xs = refl
joined-with v Req xs = sym (append_assoc v.sess v.txn (xs ++ v.res))
joined-with v Res xs =
    let end = append-nil xs in
    let outer = append_assoc v.sess (v.txn ++ v.req) xs in
    let inner = append_assoc v.txn v.req xs in
    cc

pub joined-scope : (v : Variables) (k : Scope) → joined v ≡ before v k ++ (entries_in v k ++ behind v k)
joined-scope v Sess = joined-with v Sess v.sess
joined-scope v Txn = joined-with v Txn v.txn
joined-scope v Req = joined-with v Req v.req
joined-scope v Res = joined-with v Res v.res

pub entries_in-parted : (s : Shares) (k : Scope) (es : List Entry) → entries_in (parted s es) k ≡ part s k es
entries_in-parted s Sess es = refl
entries_in-parted s Txn es = refl
entries_in-parted s Req es = refl
entries_in-parted s Res es = refl

-- ---- cut where the shares say

pub joined-parted : (s : Shares) (es : List Entry) → s.sess.slots + (s.txn.slots + (s.req.slots + s.res.slots)) ≡ length es → joined (parted s es) ≡ es
joined-parted s es h =
    let first = take-append-drop s.sess.slots es in
    let second = take-append-drop s.txn.slots (drop s.sess.slots es) in
    let skip = drop-drop s.txn.slots s.sess.slots es in
    let third = take-append-drop s.req.slots (drop (s.sess.slots + s.txn.slots) es) in
    let skip_more = drop-drop s.req.slots (s.sess.slots + s.txn.slots) es in
    let last : take s.res.slots (drop (s.sess.slots + s.txn.slots + s.req.slots) es) ≡ drop (s.sess.slots + s.txn.slots + s.req.slots) es =
    take_all s.res.slots (drop (s.sess.slots + s.txn.slots + s.req.slots) es) (simp length-drop (omega arith)) in
    cc

pub parted-joined : (s : Shares) (v : Variables) → Counted s v → parted s (joined v) ≡ v
parted-joined s v h =
    let sess = (h Sess).count in
    let txn = (h Txn).count in
    let req = (h Req).count in
    let res = (h Res).count in
    let rest = v.txn ++ (v.req ++ v.res) in
    let take_sess = take_at v.sess rest s.sess.slots sess in
    let drop_sess = drop_at v.sess rest s.sess.slots sess in
    let take_txn = take_at v.txn (v.req ++ v.res) s.txn.slots txn in
    let drop_txn = drop_at v.txn (v.req ++ v.res) s.txn.slots txn in
    let take_req = take_at v.req v.res s.req.slots req in
    let drop_req = drop_at v.req v.res s.req.slots req in
    let take_res : take s.res.slots v.res ≡ v.res = take_all s.res.slots v.res (omega arith) in
    let skip_txn = drop-drop s.txn.slots s.sess.slots (joined v) in
    let skip_req = drop-drop s.req.slots (s.sess.slots + s.txn.slots) (joined v) in
    let is_txn : take s.txn.slots (drop s.sess.slots (joined v)) ≡ v.txn = cc in
    let is_req : take s.req.slots (drop (s.sess.slots + s.txn.slots) (joined v)) ≡ v.req = cc in
    let is_res : take s.res.slots (drop (s.sess.slots + s.txn.slots + s.req.slots) (joined v)) ≡ v.res = cc in
    rw (take_sess, is_txn, is_req, is_res) refl

-- ---- counts

pub length-before : (s : Shares) (v : Variables) (k : Scope) → Counted s v → length (before v k) ≡ slots_before s k
length-before s v Sess h = refl
length-before s v Txn h = (h Sess).count
length-before s v Req h = omega (arith, length-append v.sess v.txn, (h Sess).count, (h Txn).count)
length-before s v Res h = omega (arith, length-append v.sess (v.txn ++ v.req), length-append v.txn v.req, (h Sess).count, (h Txn).count, (h Req).count)

pub load-before : (s : Shares) (v : Variables) (k : Scope) → Counted s v → load (before v k) ≡ bytes_before s k
load-before s v Sess h = refl
load-before s v Txn h = (h Sess).counts
load-before s v Req h = omega (arith, sum_by-append weight v.sess v.txn, (h Sess).counts, (h Txn).counts)
load-before s v Res h =
    omega (arith, sum_by-append weight v.sess (v.txn ++ v.req), sum_by-append weight v.txn v.req, (h Sess).counts, (h Txn).counts, (h Req).counts)

pub length-joined : (s : Shares) (v : Variables) → Counted s v → s.sess.slots + (s.txn.slots + (s.req.slots + s.res.slots)) ≡ length (joined v)
length-joined s v h =
    omega (arith, length-append v.sess (v.txn ++ (v.req ++ v.res)), length-append v.txn (v.req ++ v.res), length-append v.req v.res, (h Sess).count, (h Txn).count, (h Req).count, (h Res).count)

pub load-joined : (s : Shares) (v : Variables) → Counted s v → load (joined v) ≡ s.sess.bytes + (s.txn.bytes + (s.req.bytes + s.res.bytes))
load-joined s v h =
    omega (
      arith,
      sum_by-append weight v.sess (v.txn ++ (v.req ++ v.res)),
      sum_by-append weight v.txn (v.req ++ v.res),
      sum_by-append weight v.req v.res,
      (h Sess).counts,
      (h Txn).counts,
      (h Req).counts,
      (h Res).counts,
    )

-- ---- an edit of one scope

pub counted-with : (s : Shares) (v : Variables) (k : Scope) (share : Share) (xs : List Entry) → Counted s v → IsShare share xs → Counted (with_share s k share) (with_entries v k xs)
counted-with s v Sess share xs h is Sess = is
counted-with s v Sess share xs h is Txn = h Txn
counted-with s v Sess share xs h is Req = h Req
counted-with s v Sess share xs h is Res = h Res
counted-with s v Txn share xs h is Sess = h Sess
counted-with s v Txn share xs h is Txn = is
counted-with s v Txn share xs h is Req = h Req
counted-with s v Txn share xs h is Res = h Res
counted-with s v Req share xs h is Sess = h Sess
counted-with s v Req share xs h is Txn = h Txn
counted-with s v Req share xs h is Req = is
counted-with s v Req share xs h is Res = h Res
counted-with s v Res share xs h is Sess = h Sess
counted-with s v Res share xs h is Txn = h Txn
counted-with s v Res share xs h is Req = h Req
counted-with s v Res share xs h is Res = is

pub share_of-with : (s : Shares) (k : Scope) (share : Share) → share_of (with_share s k share) k ≡ share
share_of-with s Sess share = refl
share_of-with s Txn share = refl
share_of-with s Req share = refl
share_of-with s Res share = refl

pub entries_in-with : (v : Variables) (k : Scope) (xs : List Entry) → entries_in (with_entries v k xs) k ≡ xs
entries_in-with v Sess xs = refl
entries_in-with v Txn xs = refl
entries_in-with v Req xs = refl
entries_in-with v Res xs = refl

-- the same variables set in a scope leave all as it was
pub with_entries-same : (v : Variables) (k : Scope) → with_entries v k (entries_in v k) ≡ v
with_entries-same v Sess = refl
with_entries-same v Txn = refl
with_entries-same v Req = refl
with_entries-same v Res = refl

-- of two edits of a scope the later one stays
pub with_entries-twice : (v : Variables) (k : Scope) (xs ys : List Entry) → with_entries (with_entries v k xs) k ys ≡ with_entries v k ys
with_entries-twice v Sess xs ys = refl
with_entries-twice v Txn xs ys = refl
with_entries-twice v Req xs ys = refl
with_entries-twice v Res xs ys = refl
