use Rattle.std.proofs.Common.{List, ℕ, subst, drop}
use Rattle.std.specs.Prelude.{Option}
use Rattle.http_model.specs.Reading as reading
use Rattle.h1_head.specs.Request.{RequestOf}
use Rattle.h1_head.specs.declared.answer.Side.TheVariants as readers
use Rattle.rec_format.specs.declared.record.ServerSpec.{ServerSpec}
use Rattle.rec_format.specs.Read.{servers as entries, visit}
use Rattle.session_model.specs.Stream.{Stream}
use Rattle.px_explain.specs.declared.walk.Walk.{Walk}
use Rattle.px_explain.specs.Walked.{IsToldBehind}
use Rattle.px_explain.proofs.Begun.{refused_head, head_came, nothing_came}
use Rattle.px_explain.proofs.asking.ask.Goals as goal

pub returns-in-Nothing : goal.returns-in-Nothing
returns-in-Nothing c =
    let cfg = c.args.config.now in
    let reads = subst (λ (bytes : List ℕ). RequestOf cfg.limits bytes reading.Nothing) c.as_slice.ensures c.in-Nothing.ensures.found in
    nothing_came cfg c.args.walk.now.teller.trail (visit c.args.conn.now) reads

pub returns-in_ok-refuse_asked-in-Refused : goal.returns-in_ok-refuse_asked-in-Refused
returns-in_ok-refuse_asked-in-Refused c =
    let cfg = c.args.config.now in
    let reads = subst (λ (bytes : List ℕ). RequestOf cfg.limits bytes (reading.Refused c.in-Refused.code)) c.as_slice.ensures c.in-Refused.ensures.found in
    refused_head cfg _ _ _ (visit c.args.conn.now) c.requires.vars c.in-Refused.code c.requires.none reads c.in_ok-refuse_asked-in-Refused.ensures

pub returns-in_ok-ask_behind-in-Head : goal.returns-in_ok-ask_behind-in-Head
returns-in_ok-ask_behind-in-Head c =
    let cfg = c.args.config.now in
    let walk = c.args.walk.now in
    let there = c.in-Head.ensures.found in
    let rest : List ℕ = drop c.in-Head.head.used c.as_slice.result.now in
    let stream : Stream = record { bytes = rest; ending = c.args.conn.now.client.ending } in
    let at : Walk = record { teller = walk.teller; msg = c.find_head.new.to; said = walk.said; method = walk.method } in
    let line = (c.is_received.ensures readers.Request cfg.limits c.as_slice.result.now there.received rest there.reads).line in
    let told = subst (λ (servers : List (Option ServerSpec)). IsToldBehind cfg at c.ask_behind.new.walk c.in_ok-ask_behind-in-Head.field-0 there.received stream (entries servers)) c.as_slice-in-Head.ensures.value
    (c.in_ok-ask_behind-in-Head.ensures there.received stream line there.stands) in
    let reads = subst (λ (bytes : List ℕ). RequestOf cfg.limits bytes (reading.Begins there.received rest)) c.as_slice.ensures there.reads in
    head_came cfg at c.ask_behind.new.walk _ (visit c.args.conn.now) c.requires.vars there.received rest reads told
