use Rattle.std.proofs.Common.{subst, inl, inr}
use Rattle.std.specs.Prelude.{Err}
use Rattle.px_link.specs.declared.fault.Fault.{Fault}
use Rattle.px_link.specs.Net.{Accepts}
use Rattle.px_proxyproto.specs.Meeting.{source_in}
use Rattle.px_run.proofs.Stories.{goes_accepts, goes_fails}
use Rattle.px_run.specs.Connection.{◌∘◌}
use Rattle.px_run.proofs.accepts.accept.Goals as goal

pub returns-in-Ok-accept-clause-goes : goal.returns-in-Ok-accept-clause-goes
returns-in-Ok-accept-clause-goes g c = λ cfg to begun writes writes_now before after h.
    goes_accepts (g.C.Machine.meaning ∘ g.C.ResetsFor.for_peer cfg ∘ source_in) (g.C.Machine.stands ∘ g.C.ResetsFor.for_peer cfg ∘ source_in) g.C.Machine.seen g.C.Machine.sound g.C.Machine.rested g.L.Link.seen g.L.Link.wrote g.L.HasPair.tells c.args.plan.now.accepts_header c.args.plan.now.logs c.args.plan.now.opening g.N.Net.seen to begun writes before (g.N.Net.seen c.args.net.now) (g.N.Net.seen c.accept.new.self) writes_now after c.args.hall.now c.take_in.new.hall _ _ c.in-Ok-accept.ensures.accepts c.take_in.ensures.accepted c.take_in.ensures.output (c.take_in.ensures.stands cfg to) h

pub returns-in-Err-Failed-clause-goes : goal.returns-in-Err-Failed-clause-goes
returns-in-Err-Failed-clause-goes g c = λ cfg to begun writes writes_now before after h.
    let P : Fault → Type 0 = λ f. Accepts g.L.Link.seen g.L.Link.wrote (g.N.Net.seen c.args.net.now) (g.N.Net.seen c.accept.new.self) (Err f) in
    goes_fails (g.C.Machine.meaning ∘ g.C.ResetsFor.for_peer cfg ∘ source_in) (g.C.Machine.stands ∘ g.C.ResetsFor.for_peer cfg ∘ source_in) g.C.Machine.seen g.C.Machine.sound g.C.Machine.rested g.L.Link.seen g.L.Link.wrote g.L.HasPair.tells c.args.plan.now.accepts_header c.args.plan.now.logs c.args.plan.now.opening g.N.Net.seen to begun writes before (g.N.Net.seen c.args.net.now) (g.N.Net.seen c.accept.new.self) writes_now after c.args.hall.now (inl (subst P c.in-Err-Failed.field-0-is c.in-Err-Failed.ensures.accepts)) h

pub returns-clause-goes : goal.returns-clause-goes
returns-clause-goes g c = λ cfg to begun writes writes_now before after h.
    let P : Fault → Type 0 = λ f. Accepts g.L.Link.seen g.L.Link.wrote (g.N.Net.seen c.args.net.now) (g.N.Net.seen c.accept.new.self) (Err f) in
    goes_fails (g.C.Machine.meaning ∘ g.C.ResetsFor.for_peer cfg ∘ source_in) (g.C.Machine.stands ∘ g.C.ResetsFor.for_peer cfg ∘ source_in) g.C.Machine.seen g.C.Machine.sound g.C.Machine.rested g.L.Link.seen g.L.Link.wrote g.L.HasPair.tells c.args.plan.now.accepts_header c.args.plan.now.logs c.args.plan.now.opening g.N.Net.seen to begun writes before (g.N.Net.seen c.args.net.now) (g.N.Net.seen c.accept.new.self) writes_now after c.args.hall.now (inr (subst P c.in-Err-OutOfMemory.field-0-is c.in-Err-OutOfMemory.ensures.accepts)) h
