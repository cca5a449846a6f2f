use Rattle.std.proofs.Common.{ℕ, Option, sym, subst, ap, ◌∙◌}
use Rattle.px_run.specs.Deadline.{due, sooner, head_due, bytes_due, rows_of, IsLeast}
use Rattle.px_run.proofs.Deadlines.{is_least}
use Rattle.px_run.proofs.deadline.deadline_of.Goals as goal

pub returns : goal.returns
returns c =
    let wants = c.args.wants.now in
    let times = c.args.times.now in
    let marks = c.args.marks.now in
    let P : Option ℕ → Type 0 = λ at. IsLeast at (rows_of wants c.args.phase times marks) in
    let bytes = c.sooner.ensures ∙ ap (λ o. sooner o c.bytes_due-bytes.result) c.head_due-head.ensures ∙ ap (λ o. sooner (head_due wants c.args.phase times marks) o) c.bytes_due-bytes.ensures in
    let client = c.sooner-client.ensures ∙ ap (λ o. sooner o c.sooner.result) c.due-client_write.ensures ∙ ap (λ o. sooner (due wants.client_write marks.client_write times.client) o) bytes in
    let writes = c.sooner-2.ensures ∙ ap (λ o. sooner o c.sooner-client.result) c.due-server_write.ensures ∙ ap (λ o. sooner (due wants.server_write marks.server times.server) o) client in
    let server = c.sooner-server.ensures ∙ ap (λ o. sooner o c.sooner-2.result) c.due-server_read.ensures ∙ ap (λ o. sooner (due wants.server_read marks.server times.server) o) writes in
    let all = c.sooner-3.ensures ∙ ap (λ o. sooner o c.sooner-server.result) c.due-connect.ensures ∙ ap (λ o. sooner (due wants.server_open marks.connect times.connect) o) server in
    subst P (sym all) (is_least (due wants.server_open marks.connect times.connect) (due wants.server_read marks.server times.server) (due wants.server_write marks.server times.server)
    (due wants.client_write marks.client_write times.client) (head_due wants c.args.phase times marks) (bytes_due wants c.args.phase times marks))
