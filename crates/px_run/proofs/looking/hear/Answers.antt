use Rattle.std.proofs.Common.{rules, ◌≡◌, true, false, refl}
use Rattle.px_proxyproto.specs.Meeting.{source_in}
use Rattle.px_run.specs.Callers.{is_refused}
use Rattle.px_run.proofs.Asked.{same_server}
use Rattle.px_run.proofs.Callers.{for_asked, heard, turned_away}
use Rattle.px_run.specs.Connection.{◌∘◌}
use Rattle.px_run.proofs.looking.hear.Goals as goal

pub returns-then-not-can_read-clause-at : goal.returns-then-not-can_read-clause-at
returns-then-not-can_read-clause-at g c = λ cfg accepts_header first to first_net h.
    for_asked (g.C.Machine.meaning ∘ g.C.ResetsFor.for_peer cfg ∘ source_in) (g.C.Machine.stands ∘ g.C.ResetsFor.for_peer cfg ∘ source_in) g.C.Machine.seen g.C.Machine.sound g.C.Machine.rested g.L.Link.seen g.L.Link.wrote g.L.HasPair.tells accepts_header c.args.opening.now g.N.Net.seen first to (g.N.Net.seen first_net) c.args.connection.now.caller c.args.connection.now.conn.client c.can_read.new.self _ _ _ _ _ _ (record { told = c.can_read.ensures.seen; written = c.can_read.ensures.wrote }) (same_server g.L.Link.seen g.L.Link.wrote c.args.connection.now.conn.server) refl h

pub returns-then-not-is_refused-clause-at : goal.returns-then-not-is_refused-clause-at
returns-then-not-is_refused-clause-at g c = λ cfg accepts_header first to first_net h.
    let goes : is_refused c.greet_on.new.caller ≡ false = search rules in
    heard (g.C.Machine.meaning ∘ g.C.ResetsFor.for_peer cfg ∘ source_in) (g.C.Machine.stands ∘ g.C.ResetsFor.for_peer cfg ∘ source_in) g.C.Machine.seen g.C.Machine.sound g.C.Machine.rested g.L.Link.seen g.L.Link.wrote g.L.HasPair.tells accepts_header c.args.opening.now g.N.Net.seen first to (g.N.Net.seen first_net) c.args.connection.now.caller c.greet_on.new.caller c.can_read.new.self c.greet_on.new.client _ _ c.introduce.new.net _ _ c.requires.greeted goes c.greet_on.ensures.reads c.greet_on.ensures.wrote c.introduce.ensures
    (for_asked (g.C.Machine.meaning ∘ g.C.ResetsFor.for_peer cfg ∘ source_in) (g.C.Machine.stands ∘ g.C.ResetsFor.for_peer cfg ∘ source_in) g.C.Machine.seen g.C.Machine.sound g.C.Machine.rested g.L.Link.seen g.L.Link.wrote g.L.HasPair.tells accepts_header c.args.opening.now g.N.Net.seen first to (g.N.Net.seen first_net) c.args.connection.now.caller c.args.connection.now.conn.client c.can_read.new.self _ _ _ _ _ _ (record { told = c.can_read.ensures.seen; written = c.can_read.ensures.wrote }) (same_server g.L.Link.seen g.L.Link.wrote c.args.connection.now.conn.server) refl h)

pub returns-clause-at : goal.returns-clause-at
returns-clause-at g c = λ cfg accepts_header first to first_net h.
    let none : is_refused c.greet_on.new.caller ≡ true = search rules in
    turned_away (g.C.Machine.meaning ∘ g.C.ResetsFor.for_peer cfg ∘ source_in) (g.C.Machine.stands ∘ g.C.ResetsFor.for_peer cfg ∘ source_in) g.C.Machine.seen g.C.Machine.sound g.C.Machine.rested g.L.Link.seen g.L.Link.wrote g.L.HasPair.tells accepts_header c.args.opening.now g.N.Net.seen first to (g.N.Net.seen first_net) c.args.connection.now.caller c.greet_on.new.caller c.can_read.new.self c.greet_on.new.client c.turn_away.new.conn.client _ _ _ _ _ _ _ c.requires.greeted none c.greet_on.ensures.reads c.greet_on.ensures.wrote c.turn_away.ensures.away c.turn_away.ensures.server c.turn_away.ensures.over
    (for_asked (g.C.Machine.meaning ∘ g.C.ResetsFor.for_peer cfg ∘ source_in) (g.C.Machine.stands ∘ g.C.ResetsFor.for_peer cfg ∘ source_in) g.C.Machine.seen g.C.Machine.sound g.C.Machine.rested g.L.Link.seen g.L.Link.wrote g.L.HasPair.tells accepts_header c.args.opening.now g.N.Net.seen first to (g.N.Net.seen first_net) c.args.connection.now.caller c.args.connection.now.conn.client c.can_read.new.self _ _ _ _ _ _ (record { told = c.can_read.ensures.seen; written = c.can_read.ensures.wrote }) (same_server g.L.Link.seen g.L.Link.wrote c.args.connection.now.conn.server) refl h)

pub returns-clause-further : goal.returns-clause-further
returns-clause-further g c = λ e. c.greet_on.ensures.further
