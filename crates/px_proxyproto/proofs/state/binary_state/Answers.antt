use Rattle.std.proofs.Common.{◌≡◌, ℕ, ◌≤◌, true, List, length, take, drop, get_or, sym, ap, subst, ◌∙◌, arith}
use Rattle.std.specs.Prelude.{Option}
use Rattle.px_peer.specs.declared.Pair.{Pair}
use Rattle.px_proxyproto.specs.Binary.{may_stand, pair_in, block_len}
use Rattle.px_proxyproto.specs.Headers.{IsHeader}
use Rattle.px_proxyproto.proofs.Blocks.{goes_on, got, kept_stands, kept_len}
use Rattle.px_proxyproto.proofs.Fronts.{signed_by, agrees_signed}
use Rattle.px_proxyproto.proofs.state.binary_state.Goals as goal

stands_whole : (front bytes : List ℕ) → front ≡ take 107 bytes → may_stand (get_or front 12 0) (get_or front 13 0) (block_len front) ≡ true
    → may_stand (get_or bytes 12 0) (get_or bytes 13 0) (block_len bytes) ≡ true
stands_whole front bytes e h = sym (kept_stands bytes) ∙ subst (λ (f : List ℕ). may_stand (get_or f 12 0) (get_or f 13 0) (block_len f) ≡ true) e h

len_whole : (front bytes : List ℕ) → front ≡ take 107 bytes → block_len front ≡ block_len bytes
len_whole front bytes e = ap block_len e ∙ kept_len bytes

got_whole : (front bytes block : List ℕ) (pair : Option Pair) → front ≡ take 107 bytes → block ≡ drop 16 front → pair ≡ pair_in (get_or front 12 0) (get_or front 13 0) block
    → IsHeader bytes (pair_in (get_or (take 107 bytes) 12 0) (get_or (take 107 bytes) 13 0) (drop 16 (take 107 bytes))) → IsHeader bytes pair
got_whole front bytes block pair e f g h =
    let at_front : pair ≡ pair_in (get_or front 12 0) (get_or front 13 0) (drop 16 front) = g ∙ ap (pair_in (get_or front 12 0) (get_or front 13 0)) f in
    let at_bytes = at_front ∙ ap (λ (t : List ℕ). pair_in (get_or t 12 0) (get_or t 13 0) (drop 16 t)) e in
    subst (IsHeader bytes) (sym at_bytes) h

pub returns-then-count-len : goal.returns-then-count-len
returns-then-count-len c = λ bytes is agrees within.
    let stands : may_stand (get_or c.args.front.now 12 0) (get_or c.args.front.now 13 0) (block_len c.args.front.now) ≡ true = cc in
    let len = len_whole c.args.front.now bytes is.front in
    let count = is.count in
    let kept = c.requires in
    let told = c.block_len-len.ensures in
    goes_on bytes agrees (omega arith) (stands_whole c.args.front.now bytes is.front stands) (omega arith)

pub returns : goal.returns
returns c = λ bytes is agrees within.
    let stands : may_stand (get_or c.args.front.now 12 0) (get_or c.args.front.now 13 0) (block_len c.args.front.now) ≡ true = cc in
    let len = len_whole c.args.front.now bytes is.front in
    let count = is.count in
    let kept = c.requires in
    let told = c.block_len-len.ensures in
    let long : 16 ≤ length bytes = omega arith in
    let whole = stands_whole c.args.front.now bytes is.front stands in
    let signed = signed_by bytes (agrees_signed bytes agrees (omega arith)) in
    let most = within.binary signed long in
    got_whole c.args.front.now bytes c.behind.result.now c.pair_in.result is.front c.behind.ensures.bytes c.pair_in.ensures (got bytes agrees long whole (omega arith))
