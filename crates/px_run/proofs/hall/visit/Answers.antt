use Rattle.std.proofs.Common.{rules, ◌≡◌, ℕ, List, [], ◌++◌, true, false, sym, subst}
use Rattle.std.specs.Prelude.{is_ok}
use Rattle.std.proofs.lemmas.Bool.{false≢true}
use Rattle.px_run.specs.History.{IsLogged}
use Rattle.px_run.specs.Log.{MoreLines}
use Rattle.px_link.specs.Net.{address_of}
use Rattle.px_proxyproto.specs.Meeting.{source_in}
use Rattle.px_run.proofs.Texts.{on_ok_then, writes_open, front_short}
use Rattle.px_run.proofs.Stories.{goes_looked}
use Rattle.px_run.specs.Connection.{◌∘◌}
use Rattle.px_run.proofs.hall.visit.Goals as goal

pub look_here-looked-requires : goal.look_here-looked-requires
look_here-looked-requires g c = record { stands = c.requires.stands }

-- what was told in the look
pub returns-in-Ok-clause-goes : goal.returns-in-Ok-clause-goes
returns-in-Ok-clause-goes g c = λ cfg begun now writes before h.
    let none : c.truncate.new.self.items ≡ [] = search rules in
    let P : List ℕ → Type 0 = λ l. MoreLines (IsLogged (g.C.Machine.meaning ∘ g.C.ResetsFor.for_peer cfg ∘ source_in) (g.C.Machine.stands ∘ g.C.ResetsFor.for_peer cfg ∘ source_in) g.C.Machine.seen g.L.Link.seen g.L.Link.wrote g.L.HasPair.tells c.args.plan.now.accepts_header c.args.plan.now.logs c.args.plan.now.opening g.N.Net.seen (address_of c.args.plan.now.to.now) h.visits) l c.look_here-looked.new.hall.tools.log.text.items in
    goes_looked (g.C.Machine.meaning ∘ g.C.ResetsFor.for_peer cfg ∘ source_in) (g.C.Machine.stands ∘ g.C.ResetsFor.for_peer cfg ∘ source_in) g.C.Machine.seen g.C.Machine.sound g.C.Machine.rested g.L.Link.seen g.L.Link.wrote g.L.HasPair.tells c.args.plan.now.accepts_header c.args.plan.now.logs c.args.plan.now.opening g.N.Net.seen (address_of c.args.plan.now.to.now) begun writes before (is_ok c.say.result) now _ _ _ _ c.args.hall.now _ c.look_here-looked.result h (c.look_here-looked.ensures.stands cfg h.visits h.all) c.look_here-looked.ensures.accepted
    (λ e. on_ok_then c.say.result _ c.say.ensures.kept_on e)
    c.look_here-looked.new.hall.tools.log.text.items (subst P none (c.look_here-looked.ensures.logs cfg h.visits h.all))
    (λ text w. c.say.ensures.writes writes before (text ++ c.look_here-looked.new.hall.tools.log.text.items) (c.in-Ok.ensures.writes writes before text (writes_open true _ _ writes _ before _ text (sym c.look_here-looked.ensures.output) w)))

pub returns-in-Err-clause-goes : goal.returns-in-Err-clause-goes
returns-in-Err-clause-goes g c = λ cfg begun now writes before h.
    let none : c.truncate.new.self.items ≡ [] = search rules in
    let P : List ℕ → Type 0 = λ l. MoreLines (IsLogged (g.C.Machine.meaning ∘ g.C.ResetsFor.for_peer cfg ∘ source_in) (g.C.Machine.stands ∘ g.C.ResetsFor.for_peer cfg ∘ source_in) g.C.Machine.seen g.L.Link.seen g.L.Link.wrote g.L.HasPair.tells c.args.plan.now.accepts_header c.args.plan.now.logs c.args.plan.now.opening g.N.Net.seen (address_of c.args.plan.now.to.now) h.visits) l c.look_here-looked.new.hall.tools.log.text.items in
    goes_looked (g.C.Machine.meaning ∘ g.C.ResetsFor.for_peer cfg ∘ source_in) (g.C.Machine.stands ∘ g.C.ResetsFor.for_peer cfg ∘ source_in) g.C.Machine.seen g.C.Machine.sound g.C.Machine.rested g.L.Link.seen g.L.Link.wrote g.L.HasPair.tells c.args.plan.now.accepts_header c.args.plan.now.logs c.args.plan.now.opening g.N.Net.seen (address_of c.args.plan.now.to.now) begun writes before false now _ _ _ _ c.args.hall.now _ c.look_here-looked.result h (c.look_here-looked.ensures.stands cfg h.visits h.all) c.look_here-looked.ensures.accepted
    (λ e. absurd (false≢true e))
    c.look_here-looked.new.hall.tools.log.text.items (subst P none (c.look_here-looked.ensures.logs cfg h.visits h.all))
    (λ text w. front_short _ _ (text ++ c.look_here-looked.new.hall.tools.log.text.items) _ (c.in-Err.ensures.writes writes before text (writes_open true _ _ writes _ before _ text (sym c.look_here-looked.ensures.output) w)))
