use Rattle.std.proofs.Common.{Bool, refl, sym, ap, ◌∙◌}
use Rattle.std.specs.Prelude.{Option}
use Rattle.std.proofs.Common.{ℕ}
use Rattle.std.proofs.lemmas.Result.{IfOk-weaker}
use Rattle.http_model.specs.declared.Framing.{Framing}
use Rattle.http_model.specs.Finish.{request_framing}
use Rattle.session_model.specs.Meaning.{declares_too_much}
use Rattle.forward_core.specs.Meaning.Product.{filters_of, replaces}
use Rattle.rec_format.specs.Read.{servers as entries}
use Rattle.px_explain.proofs.Asked.{asker_kept, too_long, sends, fits, fits_not}
use Rattle.px_explain.proofs.asking.forward.Goals as goal

pub returns-in-Ok : goal.returns-in-Ok
returns-in-Ok c =
    let cfg = c.args.config.now in
    let walk = c.args.walk.now in
    IfOk-weaker c.serve.result _ _
    (λ answer t. λ received left rest kept meant blocks method.
    let within = ap (λ (d : Option ℕ). declares_too_much (filters_of cfg.req_filters) d) (sym meant.declared) ∙ (sym c.declares_too_much.ensures ∙ c.if-declares_too_much.false) in
    let framing = c.request_framing-framing.ensures ∙ (ap (λ (r : Bool). request_framing r c.args.head.framing) c.replaces.ensures ∙ ap (λ (f : Framing). request_framing (replaces cfg.req_filters) f) meant.framing) in
    let told = t (record { received = received; head = left; vars = walk.teller.vars; rest = rest }) (asker_kept received left c.args.kept kept) method refl in
    sends cfg received left rest walk _ answer (entries c.args.servers.now) method within
    (fits cfg received left c.request_framing-framing.result walk.msg.size framing c.requires.ready.msg (c.in-Ok.ensures.fits left blocks))
    (record { traced = told.traced; tells = record { lines = told.tells.lines; status = told.tells.status }; is = told.is })) c.serve.ensures

pub returns-in-Err : goal.returns-in-Err
returns-in-Err c =
    let cfg = c.args.config.now in
    let walk = c.args.walk.now in
    IfOk-weaker c.refuse_asked-in-Err.result _ _
    (λ answer t. λ received left rest kept meant blocks method.
    let within = ap (λ (d : Option ℕ). declares_too_much (filters_of cfg.req_filters) d) (sym meant.declared) ∙ (sym c.declares_too_much.ensures ∙ c.if-declares_too_much.false) in
    let framing = c.request_framing-framing.ensures ∙ (ap (λ (r : Bool). request_framing r c.args.head.framing) c.replaces.ensures ∙ ap (λ (f : Framing). request_framing (replaces cfg.req_filters) f) meant.framing) in
    too_long cfg received left rest walk _ answer (entries c.args.servers.now) method within
    (fits_not cfg received left c.request_framing-framing.result walk.msg.size framing c.requires.ready.msg (c.in-Err.ensures.fits left blocks))
    (record { lines = t.lines; status = t.status })) c.refuse_asked-in-Err.ensures
