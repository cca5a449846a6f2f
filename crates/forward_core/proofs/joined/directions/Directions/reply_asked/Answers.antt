use Rattle.std.proofs.Common.{List, ℕ, subst}
use Rattle.forward_core.proofs.JoinedLemmas.Replying.{SaysEach, replies_on}
use Rattle.forward_core.proofs.joined.directions.Directions.reply_asked.Goals as goal

pub returns-clause-asks : goal.returns-clause-asks
returns-clause-asks c =
    let d = c.args.self.now in
    let a = c.reply.new.answer in
    let rules = c.reply.new.rules in
    let e = c.in_ok-going.ensures in
    let f = c.reply-2.ensures in
    let kept = c.args.kept in
    let laws = c.replies_are_plain.ensures in
    let keep = c.may_keep-keep.result in
    let going = c.in_ok-going.going in
    let says : SaysEach d a rules d.method.bytes kept.head_asked keep going = subst (λ (x : List ℕ). SaysEach d a rules x kept.head_asked keep going) c.bytes.ensures.bytes e.says in
    replies_on d a rules c.reply-2.new.self kept keep going (record { trailers = laws.trailers; framing = laws.framing; body = laws.body }) c.requires.read
    (record { place = e.place; starts = e.starts; heard = e.heard; window = e.window; sound = e.sound; size = e.size; window_size = e.window_size; ready = e.ready; config = e.config })
    c.may_keep-keep.ensures says f.sound f.limits f.window_size f.place f.open f.window f.input f.leads
