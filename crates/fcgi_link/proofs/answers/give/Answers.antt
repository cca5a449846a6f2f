use Rattle.std.proofs.Common.{rules, ◌≡◌, ◌≤◌, ℕ, List, length, take, ◌∙◌, ap}
use Rattle.std.proofs.lemmas.List.{take_at, length-take-le}
use Rattle.fcgi_lane.specs.Answer.Stands.{ready_in}
use Rattle.fcgi_link.proofs.Streams.{given_left}
use Rattle.fcgi_link.proofs.answers.give.Goals as goal

pub returns-clause-gives : goal.returns-clause-gives
returns-clause-gives c =
    let count : ℕ = c.min-count.result in
    let ready : List ℕ = ready_in c.args.translator.now.head in
    let some : count ≤ length ready = search rules in
    let copied : c.copy_from_slice.new.self ≡ take count ready = search rules in
    let len : length c.copy_from_slice.new.self ≡ count = ap length copied ∙ length-take-le count ready some in
    record {
      within = search rules;
      given = take_at c.copy_from_slice.new.self _ count len ∙ copied;
      some = some;
      left = λ rest. given_left c.args.translator.now c.drop_front.new.self c.requires.given c.requires.taken (take count ready) rest c.drop_front.ensures.limit c.requires.stands
          (c.drop_front.ensures.given c.requires.given c.requires.taken c.requires.stands);
    }
