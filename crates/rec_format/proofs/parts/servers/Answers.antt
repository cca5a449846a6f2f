use Rattle.std.proofs.Common.{◌≡◌, ℕ, ◌-◌, ◌<◌, List, [], ◌∷◌, ◌++◌, true, false, rules, sym, ap, ◌∙◌, arith}
use Rattle.std.specs.Prelude.{Option, option_map}
use Rattle.std.proofs.lemmas.List.{map_push}
use Rattle.rec_format.specs.declared.record.RecKind.TheVariants as kinds
use Rattle.rec_format.specs.declared.record.ServerSpec.{ServerSpec}
use Rattle.rec_format.specs.Entries.{ServerEntry}
use Rattle.rec_format.specs.Read.{servers, server, server_behind}
use Rattle.rec_format.specs.Recorded.{is_server, servers_of, refusal_at}
use Rattle.rec_format.specs.Parts.{behind_servers, servers_read}
use Rattle.rec_format.proofs.Joining.{faults_alike, gives_fault, no_servers, one_server, full_servers, bad_server, last_server}
use Rattle.rec_format.proofs.parts.servers.Goals as goal

pub loop-alloc-init : goal.loop-alloc-init
loop-alloc-init c =
    let said = servers_of c.args.total c.args.most c.args.text.now in
    no_servers said ∙ ap (λ (l : List (Option ServerSpec)). behind_servers (servers l) said) (sym c.new-servers.ensures.items)

pub returns-then-room-eq0 : goal.returns-then-room-eq0
returns-then-room-eq0 c =
    let l = c.loop-alloc in
    let is : is_server l.rest.now ≡ true = sym c.is_server.ensures ∙ c.loop-alloc-test.true in
    gives_fault servers_read c.refusal.result (refusal_at c.args.total l.rest.now kinds.Limit) c.refusal.ensures
    (l.invariant ∙ ap (λ (n : ℕ). behind_servers (servers l.servers.items) (servers_of c.args.total n l.rest.now)) c.if-room-eq0.true ∙ full_servers c.args.total l.rest.now (servers l.servers.items) is)

pub returns-in-Err : goal.returns-in-Err
returns-in-Err c =
    let l = c.loop-alloc in
    let is : is_server l.rest.now ≡ true = sym c.is_server.ensures ∙ c.loop-alloc-test.true in
    let some : 0 < l.room = omega (arith, c.if-room-eq0.false) in
    faults_alike server_behind servers_read c.in-Err.fault c.in-Err.ensures (λ r e. l.invariant ∙ bad_server c.args.total l.room l.rest.now (servers l.servers.items) r some is e)

pub loop-alloc-smaller : goal.loop-alloc-smaller
loop-alloc-smaller c = omega (arith, c.if-room-eq0.false)

pub loop-alloc-preserved : goal.loop-alloc-preserved
loop-alloc-preserved c =
    let l = c.loop-alloc in
    let is : is_server l.rest.now ≡ true = sym c.is_server.ensures ∙ c.loop-alloc-test.true in
    let some : 0 < l.room = omega (arith, c.if-room-eq0.false) in
    let pushed : c.push.new.self.items ≡ l.servers.items ++ c.in-Ok.entry ∷ [] = search rules in
    let seen : servers c.push.new.self.items ≡ servers l.servers.items ++ option_map server c.in-Ok.entry ∷ [] = ap servers pushed ∙ map_push (option_map server) l.servers.items c.in-Ok.entry in
    l.invariant ∙ one_server c.args.total l.room l.rest.now (servers l.servers.items) (option_map server c.in-Ok.entry) c.in-Ok.behind.now some is c.in-Ok.ensures
    ∙ ap (λ (front : List (Option ServerEntry)). behind_servers front (servers_of c.args.total (l.room - 1) c.in-Ok.behind.now)) (sym seen)

pub returns : goal.returns
returns c =
    let l = c.loop-alloc in
    let is : is_server l.rest.now ≡ false = sym c.is_server.ensures ∙ c.loop-alloc-test.false in
    l.invariant ∙ last_server c.args.total l.room l.rest.now (servers l.servers.items) is
