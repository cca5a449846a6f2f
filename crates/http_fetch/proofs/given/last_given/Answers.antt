use Rattle.std.proofs.Common.{◌∙◌, option_map, ap, sym}
use Rattle.px_sample.specs.Sample.{Bytes}
use Rattle.px_sample.specs.Fetched.{last_of}
use Rattle.http_fetch.specs.Found.{read_named}
use Rattle.http_fetch.specs.Walk.{given_samples}
use Rattle.http_fetch.specs.declared.given.Given.{Given}
use Rattle.http_fetch.proofs.Lasts.{last_in_field, shown}
use Rattle.http_fetch.proofs.given.last_given.Goals as goal

pub returns-in-Field : goal.returns-in-Field
returns-in-Field c =
    c.bytes_or_absent.ensures
    ∙ (shown c.from_last.result
    ∙ (ap (option_map Bytes) c.from_last.ensures
    ∙ (last_in_field (read_named c.in-Field.reading c.in-Field.name.now c.args.msg.now.blocks)
    ∙ sym (ap (λ (given : Given). last_of (given_samples c.args.msg.now.blocks given)) c.in-Field.is))))
