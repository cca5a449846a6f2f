use Rattle.std.proofs.Common.{sym, ◌∙◌}
use Rattle.h1_head.specs.declared.answer.Side.TheVariants as readers
use Rattle.px_explain.proofs.Interim.{nothing, refused, final, more, within, further}
use Rattle.px_explain.proofs.heads.find_final.Goals as goal

pub returns-in-Nothing-clause-found : goal.returns-in-Nothing-clause-found
returns-in-Nothing-clause-found c = λ cfg asker limits asked.
    nothing cfg asker c.args.limits c.args.head_asked c.args.stream.now c.bytes_from-rest.result.now c.heads.from limits asked c.bytes_from-rest.ensures c.find_head.new.to.blocks (c.heads.invariant.interim cfg asker limits asked) c.in-Nothing.ensures.found

pub returns-in-Refused-clause-found : goal.returns-in-Refused-clause-found
returns-in-Refused-clause-found c = λ cfg asker limits asked.
    refused cfg asker c.args.limits c.args.head_asked c.args.stream.now c.bytes_from-rest.result.now c.heads.from limits asked c.bytes_from-rest.ensures c.find_head.new.to.blocks c.in-Refused.code (c.heads.invariant.interim cfg asker limits asked) c.in-Refused.ensures.found

pub returns-then-not-is_interim-clause-found : goal.returns-then-not-is_interim-clause-found
returns-then-not-is_interim-clause-found c = λ cfg asker limits asked.
    let b = c.in-Head.ensures.found in
    final cfg asker c.args.limits c.args.head_asked c.args.stream.now c.bytes_from-rest.result.now c.heads.from limits asked c.bytes_from-rest.ensures c.find_head.new.to.blocks c.in-Head.head (c.heads.invariant.interim cfg asker limits asked) b
    (sym (c.is_interim.ensures b.received.head b.stands.blocks_are) ∙ c.if-not-is_interim.true)

pub heads-preserved : goal.heads-preserved
heads-preserved c =
    let b = c.in-Head.ensures.found in
    record {
      within = within c.args.stream.now c.bytes_from-rest.result.now c.heads.from c.in-Head.head.used c.heads.invariant.within c.bytes_from-rest.ensures b.within;
      interim = λ cfg asker limits asked.
          more cfg asker c.args.limits c.args.head_asked c.args.stream.now c.bytes_from-rest.result.now c.heads.from limits asked c.bytes_from-rest.ensures c.find_head.new.to.blocks c.in-Head.head (c.heads.invariant.interim cfg asker limits asked) b
          (sym (c.is_interim.ensures b.received.head b.stands.blocks_are) ∙ c.if-not-is_interim.false);
      size = c.in-Head.ensures.size ∙ c.heads.invariant.size;
    }

pub heads-smaller : goal.heads-smaller
heads-smaller c =
    let b = c.in-Head.ensures.found in
    further c.args.stream.now c.bytes_from-rest.result.now c.heads.from c.in-Head.head.used c.heads.invariant.within c.bytes_from-rest.ensures (c.has_bytes.ensures (readers.Response c.args.head_asked) c.args.limits c.bytes_from-rest.result.now b.received _ b.reads)
