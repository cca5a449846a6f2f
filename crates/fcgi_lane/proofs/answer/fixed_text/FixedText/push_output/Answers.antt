use Rattle.std.proofs.Common.{rules, ◌≡◌, ◌+◌, ◌≤◌, ◌++◌, List, ℕ, length, ap, ◌∙◌, arith}
use Rattle.std.proofs.lemmas.List.{length-append, length-drop, take_rest}
use Rattle.fcgi_lane.proofs.AnswerLemmas.Feeding.{took}
use Rattle.fcgi_lane.proofs.answer.fixed_text.FixedText.push_output.Goals as goal

pub returns-clause-fed : goal.returns-clause-fed
returns-clause-fed c =
    let text : List ℕ = c.args.self.now.bytes in
    let bytes : List ℕ = c.args.bytes.now in
    let lent : List ℕ = c.deref_mut.result.now in
    let before : ℕ = c.len-before.result in
    let begins : before ≡ length text = search rules in
    let pushed : c.extend_from_slice.new.self.items ≡ text ++ bytes = search rules in
    let all : lent ≡ text ++ bytes = c.deref_mut.ensures.value ∙ pushed in
    let some : c.squeeze-found.result ≤ length c.squeeze-found.new.bytes = omega (arith, c.squeeze-found.ensures.within, c.squeeze-found.ensures.len) in
    let full : length lent ≡ c.extend_from_slice.new.self.len = search rules in
    let fits : before + c.squeeze-found.result ≤ c.extend_from_slice.new.self.len =
    omega (arith, c.squeeze-found.ensures.within, ap length (take_rest lent before), length-drop before lent, full, begins, ap length all, length-append text bytes) in
    took c.args.records.now c.squeeze-found.new.records text bytes lent c.truncate.new.self.items c.squeeze-found.new.bytes _ _
    before c.squeeze-found.result c.extend_from_slice.new.self.len begins all c.squeeze-found.ensures.passes some fits c.truncate.ensures.items
