use Rattle.std.proofs.Common.{rules, ◌≡◌, refl}
use Rattle.px_link.specs.Net.{address_of}
use Rattle.px_run.specs.Course.{MayStep, GoesOn}
use Rattle.px_run.specs.declared.held.Held.TheVariants as helds
use Rattle.px_run.proofs.Looks.{has_it}
use Rattle.px_run.proofs.connection.go.Goals as goal

pub moves-requires : goal.moves-requires
moves-requires g c =
    let e : c.args.connection.now.core ≡ helds.Core c.core.result.now = search rules in
    record { may = has_it (λ core. MayStep g.C.Machine.seen g.C.Machine.sound core c.args.connection.now.conn.server (g.N.Net.seen c.args.connection.now.conn.net) c.args.connection.now.conn.ran) c.args.connection.now.core c.core.result.now e c.requires.may }

pub returns-clause-goes : goal.returns-clause-goes
returns-clause-goes g c = λ cfg first first_net h.
    let e : c.args.connection.now.core ≡ helds.Core c.core.result.now = search rules in (
      c.moves.new.core,
      refl,
      c.moves.ensures.goes cfg first first_net
          (has_it (λ core. GoesOn (g.C.Machine.stands cfg) g.C.Machine.seen core g.L.Link.seen g.L.Link.wrote first c.args.connection.now.conn.client c.args.connection.now.conn.server (address_of c.args.to.now) (g.N.Net.seen first_net) (g.N.Net.seen c.args.connection.now.conn.net)) c.args.connection.now.core c.core.result.now e h),
    )

pub returns-clause-may : goal.returns-clause-may
returns-clause-may g c = (c.moves.new.core, refl, c.moves.ensures.may)

pub returns-clause-logs : goal.returns-clause-logs
returns-clause-logs g c = λ cfg first first_net h.
    let e : c.args.connection.now.core ≡ helds.Core c.core.result.now = search rules in
    c.moves.ensures.logs cfg first first_net
    (has_it (λ core. GoesOn (g.C.Machine.stands cfg) g.C.Machine.seen core g.L.Link.seen g.L.Link.wrote first c.args.connection.now.conn.client c.args.connection.now.conn.server (address_of c.args.to.now) (g.N.Net.seen first_net) (g.N.Net.seen c.args.connection.now.conn.net)) c.args.connection.now.core c.core.result.now e h)
