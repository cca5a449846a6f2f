use Rattle.std.proofs.Common.{◌∙◌, ap, arith}
use Rattle.htx_arena.specs.Layout.Raw.{addr_in}
use Rattle.htx_arena.specs.Layout.Contents.{Contents}
use Rattle.htx_arena.proofs.LayoutLemmas.RoomLemmas.{within_own}
use Rattle.htx_arena.proofs.LayoutLemmas.WholeLemmas.{at}
use Rattle.htx_arena.proofs.LayoutLemmas.PlaceLemmas.{rewritten}
use Rattle.htx_arena.proofs.layout.array.Array.rewrite.Goals as goal

pub overflow_sub-self : goal.overflow_sub-self
overflow_sub-self c =
    let is = c.payload_len-len.ensures.len in
    let weighs = (at c.self.inside c.args.self.now c.args.at c.self.invariant c.self.view_is c.requires.within).weighs in
    omega arith

pub rewrite-requires : goal.rewrite-requires
rewrite-requires c =
    let a = c.self.inside in
    let t = at c.self.inside c.args.self.now c.args.at c.self.invariant c.self.view_is c.requires.within in
    let len = t.len in
    let shorter = c.requires.shorter in
    let now = c.requires.len in
    let laid = c.self.invariant.laid in
    record {
      can = within_own a.space a.count c.args.at (record { addr = addr_in a.space c.args.at; info = c.args.info.0 }) laid.sound laid.most t.small (omega arith) (omega arith);
      part = omega arith;
      len = c.requires.len;
    }

pub ends_behind-self-inside-requires : goal.ends_behind-self-inside-requires
ends_behind-self-inside-requires c =
    let shorter = c.requires.shorter in
    let some = c.requires.some in
    let sum = c.requires.len in
    let r = rewritten c.self.inside c.args.self.now c.args.at c.args.keep c.args.info.0 c.args.more.now c.rewrite.new.space c.self.invariant c.self.view_is c.requires.within (omega arith) (omega arith) c.requires.tells c.rewrite.ensures in
    let end = c.end_at-end.ensures.value in
    let told = (c.self.invariant.laid.told.told c.args.at (at c.self.inside c.args.self.now c.args.at c.self.invariant c.self.view_is c.requires.within).small).len in
    record { laid = r.laid; stayed = λ below. r.stayed (omega arith); known = r.known }

pub invariant_of-self : goal.invariant_of-self
invariant_of-self c =
    let t = at c.self.inside c.args.self.now c.args.at c.self.invariant c.self.view_is c.requires.within in
    let shorter = c.requires.shorter in
    let some = c.requires.some in
    let sum = c.requires.len in
    let r = rewritten c.self.inside c.args.self.now c.args.at c.args.keep c.args.info.0 c.args.more.now c.rewrite.new.space c.self.invariant c.self.view_is c.requires.within (omega arith) (omega arith) c.requires.tells c.rewrite.ensures in
    let is = c.payload_len-len.ensures.len in
    let len = t.len in
    let more = c.len.ensures in
    let weighs = t.weighs in
    let e = c.ends_behind-self-inside.ensures in
    r.whole _ _ (omega arith) e.laid e.topped e.known

pub returns : goal.returns
returns c =
    let shorter = c.requires.shorter in
    let some = c.requires.some in
    let sum = c.requires.len in
    let r = rewritten c.self.inside c.args.self.now c.args.at c.args.keep c.args.info.0 c.args.more.now c.rewrite.new.space c.self.invariant c.self.view_is c.requires.within (omega arith) (omega arith) c.requires.tells c.rewrite.ensures in
    record { blocks = r.blocks; size = r.size; addrs = r.addrs; front = c.ends_behind-self-inside.ensures.front ∙ ap (λ (s : Contents). s.front) c.self.view_is }
