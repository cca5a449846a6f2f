use Rattle.std.proofs.Common.{◌∙◌, ap, sym}
use Rattle.header_ops.specs.Lists.{values_named, fulls_named}
use Rattle.http_fetch.specs.Fetches.{RequestAt, header_samples, count_sample, one, request_samples}
use Rattle.http_fetch.specs.Walk.{field_of, request_field}
use Rattle.http_fetch.specs.declared.headers.Reading.TheVariants as readings
use Rattle.http_fetch.proofs.env.of_request.Goals as goal

pub returns-in-ReqHdr-clause-all : goal.returns-in-ReqHdr-clause-all
returns-in-ReqHdr-clause-all c =
    let at : RequestAt = record { blocks = c.args.msg.now.blocks; vars = c.args.vars.now } in
    c.of_header.ensures.all
    ∙ ap (λ n. header_samples (values_named n c.args.msg.now.blocks) c.in-ReqHdr.at) c.as_slice.ensures
    ∙ sym (ap (λ f. request_samples at f) c.in-ReqHdr.is)

pub returns-in-ReqHdr-clause-field : goal.returns-in-ReqHdr-clause-field
returns-in-ReqHdr-clause-field c =
    c.of_header.ensures.field ∙ ap (λ n. field_of readings.Values n c.in-ReqHdr.at) c.as_slice.ensures ∙ sym (ap request_field c.in-ReqHdr.is)

pub returns-in-ReqFhdr-clause-all : goal.returns-in-ReqFhdr-clause-all
returns-in-ReqFhdr-clause-all c =
    let at : RequestAt = record { blocks = c.args.msg.now.blocks; vars = c.args.vars.now } in
    c.of_header-in-ReqFhdr.ensures.all
    ∙ ap (λ n. header_samples (fulls_named n c.args.msg.now.blocks) c.in-ReqFhdr.at) c.as_slice-in-ReqFhdr.ensures
    ∙ sym (ap (λ f. request_samples at f) c.in-ReqFhdr.is)

pub returns-in-ReqFhdr-clause-field : goal.returns-in-ReqFhdr-clause-field
returns-in-ReqFhdr-clause-field c =
    c.of_header-in-ReqFhdr.ensures.field ∙ ap (λ n. field_of readings.Wholes n c.in-ReqFhdr.at) c.as_slice-in-ReqFhdr.ensures ∙ sym (ap request_field c.in-ReqFhdr.is)

pub returns-in-ReqHdrCnt-clause-all : goal.returns-in-ReqHdrCnt-clause-all
returns-in-ReqHdrCnt-clause-all c =
    let at : RequestAt = record { blocks = c.args.msg.now.blocks; vars = c.args.vars.now } in
    ap one (c.header_count.ensures ∙ ap (λ n. count_sample (values_named n c.args.msg.now.blocks)) c.as_slice-in-ReqHdrCnt.ensures)
    ∙ sym (ap (λ f. request_samples at f) c.in-ReqHdrCnt.is)
