use Rattle.std.proofs.Common.{◌∙◌, ap, sym}
use Rattle.header_ops.specs.Lists.{values_named, fulls_named}
use Rattle.http_fetch.specs.Fetches.{ResponseAt, header_samples, response_samples}
use Rattle.http_fetch.specs.Walk.{field_of, response_field}
use Rattle.http_fetch.specs.declared.headers.Reading.TheVariants as readings
use Rattle.http_fetch.proofs.env.of_response.Goals as goal

pub returns-in-ResHdr-clause-all : goal.returns-in-ResHdr-clause-all
returns-in-ResHdr-clause-all c =
    let at : ResponseAt = record { blocks = c.args.msg.now.blocks; method = c.args.asked.now; vars = c.args.vars.now } in
    c.of_header.ensures.all
    ∙ ap (λ n. header_samples (values_named n c.args.msg.now.blocks) c.in-ResHdr.at) c.as_slice.ensures
    ∙ sym (ap (λ f. response_samples at f) c.in-ResHdr.is)

pub returns-in-ResHdr-clause-field : goal.returns-in-ResHdr-clause-field
returns-in-ResHdr-clause-field c =
    c.of_header.ensures.field ∙ ap (λ n. field_of readings.Values n c.in-ResHdr.at) c.as_slice.ensures ∙ sym (ap response_field c.in-ResHdr.is)

pub returns-in-ResFhdr-clause-all : goal.returns-in-ResFhdr-clause-all
returns-in-ResFhdr-clause-all c =
    let at : ResponseAt = record { blocks = c.args.msg.now.blocks; method = c.args.asked.now; vars = c.args.vars.now } in
    c.of_header-in-ResFhdr.ensures.all
    ∙ ap (λ n. header_samples (fulls_named n c.args.msg.now.blocks) c.in-ResFhdr.at) c.as_slice-in-ResFhdr.ensures
    ∙ sym (ap (λ f. response_samples at f) c.in-ResFhdr.is)

pub returns-in-ResFhdr-clause-field : goal.returns-in-ResFhdr-clause-field
returns-in-ResFhdr-clause-field c =
    c.of_header-in-ResFhdr.ensures.field ∙ ap (λ n. field_of readings.Wholes n c.in-ResFhdr.at) c.as_slice-in-ResFhdr.ensures ∙ sym (ap response_field c.in-ResFhdr.is)
