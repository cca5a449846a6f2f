use Rattle.std.proofs.Common.{sym, subst, take, drop}
use Rattle.std.proofs.lemmas.List.{take_rest}
use Rattle.session_core.specs.History.{Past, FromServer, after}
use Rattle.session_core.specs.Leads.{Stands}
use Rattle.session_core.proofs.Gaining.{gives_parts, some_or_none}
use Rattle.session_core.proofs.machine.Core.from_server.Goals as goal

pub returns-clause-leads : goal.returns-clause-leads
returns-clause-leads g c = λ cfg past s.
    let old = c.args.self.now in
    let mid = c.pass_data-passed.new.self in
    let new = c.take_in.new.self in
    let n = c.pass_data-passed.result in
    let bytes = c.args.bytes.now in
    let Ends : Past → Type 0 = λ p. Stands (g.S.Works.meaning cfg) g.S.Works.request g.S.Works.answer (g.S.Works.stands cfg) new.sides new.at p in
    some_or_none n (Ends (after past (FromServer bytes)))
    (λ none.
    let begun : Stands (g.S.Works.meaning cfg) g.S.Works.request g.S.Works.answer (g.S.Works.stands cfg) mid.sides mid.at past =
    subst (λ core. Stands (g.S.Works.meaning cfg) g.S.Works.request g.S.Works.answer (g.S.Works.stands cfg) core.sides core.at past) (sym (c.pass_data-passed.ensures.none none)) s in
    subst (λ k. Ends (after past (FromServer (drop k bytes)))) none (subst (λ xs. Ends (after past (FromServer xs))) (take_rest bytes n) (c.take_in.ensures.leads cfg past begun)))
    (λ some.
    let first : Past = after past (FromServer (take n bytes)) in
    subst Ends (gives_parts past n bytes) (subst (λ xs. Ends (after first (FromServer xs))) (take_rest bytes n) (c.take_in.ensures.leads cfg first (c.pass_data-passed.ensures.leads some cfg past s))))
