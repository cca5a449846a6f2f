use Rattle.std.proofs.Common.{◌≡◌, ℕ, suc, ◌+◌, ◌-◌, List, [], ◌∷◌, ◌++◌, rules, sym, ap, ◌∙◌, arith}
use Rattle.std.specs.Prelude.{Ok}
use Rattle.std.proofs.lemmas.List.{map_push}
use Rattle.rec_format.specs.declared.record.Connection.{Connection}
use Rattle.rec_format.specs.Read.{visit, visits}
use Rattle.rec_format.specs.Recorded.{Visit, visits_of}
use Rattle.rec_format.specs.Parts.{behind_visits, visit_read, visits_read}
use Rattle.rec_format.proofs.Joining.{faults_alike, no_visits, one_visit, bad_visit, last_one, bad_last}
use Rattle.rec_format.proofs.parts.visits.Goals as goal

pub loop-left-init : goal.loop-left-init
loop-left-init c =
    let said = visits_of c.args.total c.args.numbered c.args.more 65536 c.args.text.now in
    let all : c.args.more ≡ c.args.more - 0 = omega arith in
    no_visits said ∙ ap (λ (l : List Connection). behind_visits (visits l) said) (sym c.new-conns.ensures.items)
    ∙ ap (λ (n : ℕ). behind_visits (visits c.new-conns.result.items) (visits_of c.args.total c.args.numbered n 65536 c.args.text.now)) all

pub returns-in-Err : goal.returns-in-Err
returns-in-Err c =
    let l = c.loop-left in
    let next : c.args.more - l._left ≡ suc (c.args.more - (l._left + 1)) = omega (arith, c.loop-left-test.true) in
    faults_alike visit_read visits_read c.in-Err.fault c.in-Err.ensures
    (λ r e. l.invariant ∙ ap (λ (n : ℕ). behind_visits (visits l.conns.items) (visits_of c.args.total c.args.numbered n l.room l.rest.now)) next
    ∙ bad_visit c.args.total c.args.numbered (c.args.more - (l._left + 1)) l.room l.rest.now (visits l.conns.items) r e)

pub loop-left-preserved : goal.loop-left-preserved
loop-left-preserved c =
    let l = c.loop-left in
    let next : c.args.more - l._left ≡ suc (c.args.more - (l._left + 1)) = omega (arith, c.loop-left-test.true) in
    let one = c.in-Ok.read in
    let pushed : c.push.new.self.items ≡ l.conns.items ++ one.conn ∷ [] = search rules in
    let seen : visits c.push.new.self.items ≡ visits l.conns.items ++ visit one.conn ∷ [] = ap visits pushed ∙ map_push visit l.conns.items one.conn in
    l.invariant ∙ ap (λ (n : ℕ). behind_visits (visits l.conns.items) (visits_of c.args.total c.args.numbered n l.room l.rest.now)) next
    ∙ one_visit c.args.total c.args.numbered (c.args.more - (l._left + 1)) l.room l.rest.now (visits l.conns.items) (visit_read one) c.in-Ok.ensures
    ∙ ap (λ (front : List Visit). behind_visits front (visits_of c.args.total c.args.numbered (c.args.more - (l._left + 1)) one.room one.rest.now)) (sym seen)

pub returns-in-Err-visit_last : goal.returns-in-Err-visit_last
returns-in-Err-visit_last c =
    let l = c.loop-left in
    let none : c.args.more - l._left ≡ 0 = omega (arith, c.loop-left-test.false) in
    faults_alike visit_read visits_read c.in-Err-visit_last.fault c.in-Err-visit_last.ensures
    (λ r e. l.invariant ∙ ap (λ (n : ℕ). behind_visits (visits l.conns.items) (visits_of c.args.total c.args.numbered n l.room l.rest.now)) none
    ∙ bad_last c.args.total c.args.numbered l.room l.rest.now (visits l.conns.items) r e)

pub returns : goal.returns
returns c =
    let l = c.loop-left in
    let none : c.args.more - l._left ≡ 0 = omega (arith, c.loop-left-test.false) in
    let one = c.in-Ok-visit_last.read in
    let pushed : c.push-in-Ok-visit_last.new.self.items ≡ l.conns.items ++ one.conn ∷ [] = search rules in
    let seen : visits c.push-in-Ok-visit_last.new.self.items ≡ visits l.conns.items ++ visit one.conn ∷ [] = ap visits pushed ∙ map_push visit l.conns.items one.conn in
    l.invariant ∙ ap (λ (n : ℕ). behind_visits (visits l.conns.items) (visits_of c.args.total c.args.numbered n l.room l.rest.now)) none
    ∙ last_one c.args.total c.args.numbered l.room l.rest.now (visits l.conns.items) (visit_read one) c.in-Ok-visit_last.ensures
    ∙ ap (λ (front : List Visit). Ok (front, one.rest.now)) (sym seen)
