use Rattle.std.proofs.Common.{rules, ◌≡◌, List, Option, true, refl, subst, ◌∙◌, arith}
use Rattle.px_link.specs.Net.{address_of}
use Rattle.px_proxyproto.specs.Meeting.{source_in}
use Rattle.px_run.specs.Hall.{count_taken}
use Rattle.px_run.specs.declared.connection.Connection.{Connection}
use Rattle.px_run.proofs.Halls.{same_net_then}
use Rattle.px_run.proofs.Texts.{within_then, within_same}
use Rattle.px_run.proofs.AskedAll.{asked_as}
use Rattle.px_run.proofs.Stories.{goes_asked, goes_weaker}
use Rattle.px_run.specs.Connection.{◌∘◌}
use Rattle.px_run.proofs.running.rounds.Goals as goal

pub returns-in_err-wait-clause-goes : goal.returns-in_err-wait-clause-goes
returns-in_err-wait-clause-goes g c = λ cfg begun writes before h.
    goes_weaker (g.C.Machine.meaning ∘ g.C.ResetsFor.for_peer cfg ∘ source_in) (g.C.Machine.stands ∘ g.C.ResetsFor.for_peer cfg ∘ source_in) g.C.Machine.seen g.C.Machine.sound g.C.Machine.rested g.L.Link.seen g.L.Link.wrote g.L.HasPair.tells c.args.plan.now.accepts_header c.args.plan.now.logs c.args.plan.now.opening g.N.Net.seen (address_of c.args.plan.now.to.now) begun writes before _ _ (g.N.Net.seen c.loop.net) _ _ c.wait.new.hall (goes_asked (g.C.Machine.meaning ∘ g.C.ResetsFor.for_peer cfg ∘ source_in) (g.C.Machine.stands ∘ g.C.ResetsFor.for_peer cfg ∘ source_in) g.C.Machine.seen g.C.Machine.sound g.C.Machine.rested g.L.Link.seen g.L.Link.wrote g.L.HasPair.tells c.args.plan.now.accepts_header c.args.plan.now.logs c.args.plan.now.opening g.N.Net.seen (address_of c.args.plan.now.to.now) begun writes before _ _ (g.N.Net.seen c.loop.net) _ _ c.loop.hall c.wait.new.hall c.wait.ensures.asked (c.loop.invariant.goes cfg begun writes before h))

pub looks-requires-clause-goes : goal.looks-requires-clause-goes
looks-requires-clause-goes g c =
    let q = c.requires.goes in
    let cfg = q.0 in
    let begun = q.1 in
    let writes = q.2 in
    let before = q.3 in
    let h = q.4 in
    (cfg, begun, writes, before, (goes_asked (g.C.Machine.meaning ∘ g.C.ResetsFor.for_peer cfg ∘ source_in) (g.C.Machine.stands ∘ g.C.ResetsFor.for_peer cfg ∘ source_in) g.C.Machine.seen g.C.Machine.sound g.C.Machine.rested g.L.Link.seen g.L.Link.wrote g.L.HasPair.tells c.args.plan.now.accepts_header c.args.plan.now.logs c.args.plan.now.opening g.N.Net.seen (address_of c.args.plan.now.to.now) begun writes before _ _ (g.N.Net.seen c.loop.net) _ _ c.loop.hall _ (asked_as g.L.Link.seen g.L.Link.wrote g.N.Net.seen c.loop.hall c.wait.new.hall _ refl refl refl refl c.wait.ensures.asked) (c.loop.invariant.goes cfg begun writes before h)))

pub returns-in-Err-looks-clause-goes : goal.returns-in-Err-looks-clause-goes
returns-in-Err-looks-clause-goes g c = λ cfg begun writes before h. c.in-Err-looks.ensures.goes cfg begun writes before (goes_asked (g.C.Machine.meaning ∘ g.C.ResetsFor.for_peer cfg ∘ source_in) (g.C.Machine.stands ∘ g.C.ResetsFor.for_peer cfg ∘ source_in) g.C.Machine.seen g.C.Machine.sound g.C.Machine.rested g.L.Link.seen g.L.Link.wrote g.L.HasPair.tells c.args.plan.now.accepts_header c.args.plan.now.logs c.args.plan.now.opening g.N.Net.seen (address_of c.args.plan.now.to.now) begun writes before _ _ (g.N.Net.seen c.loop.net) _ _ c.loop.hall _ (asked_as g.L.Link.seen g.L.Link.wrote g.N.Net.seen c.loop.hall c.wait.new.hall _ refl refl refl refl c.wait.ensures.asked) (c.loop.invariant.goes cfg begun writes before h))

pub returns-in-Err-looks-clause-balanced : goal.returns-in-Err-looks-clause-balanced
returns-in-Err-looks-clause-balanced g c = let a = c.loop.invariant.balanced in let b = c.wait.ensures.asked.taken in let d = c.looks.ensures.balanced in omega (arith, a, b, d)

pub returns-in_err-accepts-clause-goes : goal.returns-in_err-accepts-clause-goes
returns-in_err-accepts-clause-goes g c = λ cfg begun writes before h.
    goes_weaker (g.C.Machine.meaning ∘ g.C.ResetsFor.for_peer cfg ∘ source_in) (g.C.Machine.stands ∘ g.C.ResetsFor.for_peer cfg ∘ source_in) g.C.Machine.seen g.C.Machine.sound g.C.Machine.rested g.L.Link.seen g.L.Link.wrote g.L.HasPair.tells c.args.plan.now.accepts_header c.args.plan.now.logs c.args.plan.now.opening g.N.Net.seen (address_of c.args.plan.now.to.now) begun writes before _ _ (g.N.Net.seen c.accepts.new.net) _ _ c.accepts.new.hall (c.accepts.ensures.goes cfg (address_of c.args.plan.now.to.now) begun writes _ before _ (c.in-Ok-looks.ensures.goes cfg begun writes before (goes_asked (g.C.Machine.meaning ∘ g.C.ResetsFor.for_peer cfg ∘ source_in) (g.C.Machine.stands ∘ g.C.ResetsFor.for_peer cfg ∘ source_in) g.C.Machine.seen g.C.Machine.sound g.C.Machine.rested g.L.Link.seen g.L.Link.wrote g.L.HasPair.tells c.args.plan.now.accepts_header c.args.plan.now.logs c.args.plan.now.opening g.N.Net.seen (address_of c.args.plan.now.to.now) begun writes before _ _ (g.N.Net.seen c.loop.net) _ _ c.loop.hall _ (asked_as g.L.Link.seen g.L.Link.wrote g.N.Net.seen c.loop.hall c.wait.new.hall _ refl refl refl refl c.wait.ensures.asked) (c.loop.invariant.goes cfg begun writes before h))))

pub returns-in_err-accepts-clause-balanced : goal.returns-in_err-accepts-clause-balanced
returns-in_err-accepts-clause-balanced g c = let a = c.loop.invariant.balanced in let b = c.wait.ensures.asked.taken in let d = c.looks.ensures.balanced in let e = c.accepts.ensures.balanced in omega (arith, a, b, d, e)

pub returns-then-is_empty-2-clause-goes : goal.returns-then-is_empty-2-clause-goes
returns-then-is_empty-2-clause-goes g c = λ cfg begun writes before h.
    c.accepts.ensures.goes cfg (address_of c.args.plan.now.to.now) begun writes _ before _ (c.in-Ok-looks.ensures.goes cfg begun writes before (goes_asked (g.C.Machine.meaning ∘ g.C.ResetsFor.for_peer cfg ∘ source_in) (g.C.Machine.stands ∘ g.C.ResetsFor.for_peer cfg ∘ source_in) g.C.Machine.seen g.C.Machine.sound g.C.Machine.rested g.L.Link.seen g.L.Link.wrote g.L.HasPair.tells c.args.plan.now.accepts_header c.args.plan.now.logs c.args.plan.now.opening g.N.Net.seen (address_of c.args.plan.now.to.now) begun writes before _ _ (g.N.Net.seen c.loop.net) _ _ c.loop.hall _ (asked_as g.L.Link.seen g.L.Link.wrote g.N.Net.seen c.loop.hall c.wait.new.hall _ refl refl refl refl c.wait.ensures.asked) (c.loop.invariant.goes cfg begun writes before h)))

pub returns-then-is_empty-2-clause-balanced : goal.returns-then-is_empty-2-clause-balanced
returns-then-is_empty-2-clause-balanced g c = let a = c.loop.invariant.balanced in let b = c.wait.ensures.asked.taken in let d = c.looks.ensures.balanced in let e = c.accepts.ensures.balanced in omega (arith, a, b, d, e)

pub loop-preserved : goal.loop-preserved
loop-preserved g c =
    record {
      goes = λ cfg begun writes before h. c.accepts.ensures.goes cfg (address_of c.args.plan.now.to.now) begun writes _ before _ (c.in-Ok-looks.ensures.goes cfg begun writes before (goes_asked (g.C.Machine.meaning ∘ g.C.ResetsFor.for_peer cfg ∘ source_in) (g.C.Machine.stands ∘ g.C.ResetsFor.for_peer cfg ∘ source_in) g.C.Machine.seen g.C.Machine.sound g.C.Machine.rested g.L.Link.seen g.L.Link.wrote g.L.HasPair.tells c.args.plan.now.accepts_header c.args.plan.now.logs c.args.plan.now.opening g.N.Net.seen (address_of c.args.plan.now.to.now) begun writes before _ _ (g.N.Net.seen c.loop.net) _ _ c.loop.hall _ (asked_as g.L.Link.seen g.L.Link.wrote g.N.Net.seen c.loop.hall c.wait.new.hall _ refl refl refl refl c.wait.ensures.asked) (c.loop.invariant.goes cfg begun writes before h)));
      within = within_then c.args.plan.now.connections c.args.hall.now.accepted c.loop.hall.accepted c.looks.new.hall.accepted c.accepts.new.hall.accepted c.loop.invariant.within (c.looks.ensures.accepted ∙ c.wait.ensures.asked.accepted) c.accepts.ensures.within;
      balanced = let a = c.loop.invariant.balanced in let b = c.wait.ensures.asked.taken in let d = c.looks.ensures.balanced in let e = c.accepts.ensures.balanced in omega (arith, a, b, d, e);
      net = same_net_then (g.N.Net.seen c.args.net.now) (g.N.Net.seen c.looks.new.net) (g.N.Net.seen c.accepts.new.net) (same_net_then (g.N.Net.seen c.args.net.now) (g.N.Net.seen c.loop.net) (g.N.Net.seen c.looks.new.net) c.loop.invariant.net c.looks.ensures.net) c.accepts.ensures.net;
    }

pub returns-then-is_empty-clause-empty : goal.returns-then-is_empty-clause-empty
returns-then-is_empty-clause-empty g c =
    let all : c.is_empty.result ≡ true = search rules in
    let same : c.deref.result.now ≡ c.loop.hall.places.items = search rules in
    let P : List (Option (Connection g.row.C.Denot g.row.L.Denot g.row.N.Denot)) → Type 0 = λ l. count_taken l ≡ 0 in
    subst P same (c.is_empty.ensures all)

pub returns-in-Err-clause-goes : goal.returns-in-Err-clause-goes
returns-in-Err-clause-goes g c = λ cfg begun writes before h. goes_weaker (g.C.Machine.meaning ∘ g.C.ResetsFor.for_peer cfg ∘ source_in) (g.C.Machine.stands ∘ g.C.ResetsFor.for_peer cfg ∘ source_in) g.C.Machine.seen g.C.Machine.sound g.C.Machine.rested g.L.Link.seen g.L.Link.wrote g.L.HasPair.tells c.args.plan.now.accepts_header c.args.plan.now.logs c.args.plan.now.opening g.N.Net.seen (address_of c.args.plan.now.to.now) begun writes before _ _ (g.N.Net.seen c.args.net.now) _ _ c.args.hall.now h

pub returns-in-Err-clause-within : goal.returns-in-Err-clause-within
returns-in-Err-clause-within g c = within_same c.args.plan.now.connections c.args.hall.now.accepted c.args.hall.now.accepted refl

pub returns-in_err-wait-clause-within : goal.returns-in_err-wait-clause-within
returns-in_err-wait-clause-within g c =
    within_then c.args.plan.now.connections c.args.hall.now.accepted c.loop.hall.accepted c.wait.new.hall.accepted c.wait.new.hall.accepted c.loop.invariant.within c.wait.ensures.asked.accepted (within_same c.args.plan.now.connections c.wait.new.hall.accepted c.wait.new.hall.accepted refl)

pub returns-in-Err-looks-clause-within : goal.returns-in-Err-looks-clause-within
returns-in-Err-looks-clause-within g c =
    within_then c.args.plan.now.connections c.args.hall.now.accepted c.loop.hall.accepted c.looks.new.hall.accepted c.looks.new.hall.accepted c.loop.invariant.within (c.looks.ensures.accepted ∙ c.wait.ensures.asked.accepted) (within_same c.args.plan.now.connections c.looks.new.hall.accepted c.looks.new.hall.accepted refl)

pub returns-in_err-accepts-clause-within : goal.returns-in_err-accepts-clause-within
returns-in_err-accepts-clause-within g c =
    within_then c.args.plan.now.connections c.args.hall.now.accepted c.loop.hall.accepted c.looks.new.hall.accepted c.accepts.new.hall.accepted c.loop.invariant.within (c.looks.ensures.accepted ∙ c.wait.ensures.asked.accepted) c.accepts.ensures.within

pub returns-then-is_empty-2-clause-within : goal.returns-then-is_empty-2-clause-within
returns-then-is_empty-2-clause-within g c =
    within_then c.args.plan.now.connections c.args.hall.now.accepted c.loop.hall.accepted c.looks.new.hall.accepted c.accepts.new.hall.accepted c.loop.invariant.within (c.looks.ensures.accepted ∙ c.wait.ensures.asked.accepted) c.accepts.ensures.within
