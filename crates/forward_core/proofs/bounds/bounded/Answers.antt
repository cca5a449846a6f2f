use Rattle.std.proofs.Common.{true, arith}
use Rattle.h1_head.specs.declared.answer.Side.TheVariants as sides
use Rattle.forward_core.proofs.BoundsLemmas.Filters.{chain_short, chain_refuses}
use Rattle.forward_core.proofs.BoundsLemmas.Heads.{head_short}
use Rattle.forward_core.proofs.BoundsLemmas.Bodies.{whole_short, broke_short, bad_short}
use Rattle.forward_core.proofs.BoundsLemmas.Refusals.{malformed_short, plain_short, filtered_short}
use Rattle.forward_core.proofs.bounds.bounded.Goals as goal

pub returns : goal.returns
returns c = λ cfg valid. record {
  request_heads = λ bytes received rest begins. let h = c.has_bytes.ensures sides.Request cfg.limits bytes received rest begins in omega (arith, h);
  response_heads = λ head_asked bytes received rest begins. head_short head_asked cfg.limits bytes received rest begins;
  whole_bodies = λ framed bytes how body trailers rest read. whole_short cfg.limits framed bytes how body trailers rest read;
  broken_bodies = λ framed bytes how body read. broke_short cfg.limits framed bytes how body read;
  bad_bodies = λ framed bytes how body read. bad_short cfg.limits framed bytes how body read;
  request_filters = λ body. chain_short cfg.req_filters true body valid.req_filters.filters valid.req_filters.one;
  response_filters = λ body. chain_short cfg.res_filters true body valid.res_filters.filters valid.res_filters.one;
  filtered_requests = λ body code refused. filtered_short cfg.limits.bufsize code valid.limits.least (chain_refuses cfg.req_filters true body code refused);
  malformed = malformed_short cfg.limits.bufsize valid.limits.least;
  plain = plain_short cfg.limits.bufsize valid.limits.least;
  request_replies = λ env after m e. c.replies_are_plain.ensures.framing cfg.limits.bufsize cfg.request env after m e;
  response_replies = λ env after m e. c.replies_are_plain.ensures.framing cfg.limits.bufsize cfg.response env after m e;
}
