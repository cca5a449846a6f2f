use Rattle.std.proofs.Common.{rules, ◌≡◌, ◌<◌, ◌≤◌, ◌+◌, ◌-◌, ℕ, List, [], ◌++◌, length, take, drop, true, Some, refl, sym, ap, subst, ◌∙◌, arith}
use Rattle.std.specs.List.{fold}
use Rattle.std.proofs.lemmas.List.{take_rest}
use Rattle.fcgi_model.specs.Application.{Application}
use Rattle.fcgi_lane.specs.declared.request.opening.Opened.{Opened}
use Rattle.fcgi_model.specs.Head.{NoEnd, ends_head}
use Rattle.fcgi_model.specs.Flow.{Asked, InHead, next}
use Rattle.fcgi_lane.specs.Request.Stands.{AtHead, IsNow}
use Rattle.fcgi_lane.specs.Request.Opening.{IsOpened, IsHeadFed}
use Rattle.fcgi_lane.proofs.RequestLemmas.Feeding.{head_grows, head_cut, opened_fed}
use Rattle.fcgi_lane.proofs.request.translator.feed_head.Goals as goal

-- what a test of a longer text says of the text that it is
none_in : (old bytes text : List ℕ) (before : ℕ) → before ≡ length old → text ≡ old ++ bytes → NoEnd before (length text + 1) text → NoEnd (length old) (length (old ++ bytes) + 1) (old ++ bytes)
none_in old bytes text before begins is none = subst (λ (t : List ℕ). NoEnd (length old) (length t + 1) t) is (subst (λ (n : ℕ). NoEnd n (length text + 1) text) begins none)

pub returns-in_default-clause-fed : goal.returns-in_default-clause-fed
returns-in_default-clause-fed c =
    let application : Application = c.args.application.now in
    let old : List ℕ = c.args.head.now.items in
    let bytes : List ℕ = c.args.bytes.now in
    let grown : c.extend_from_slice.new.self.items ≡ old ++ bytes = c.in_ok-extend_from_slice.ensures.items in
    let text : c.as_slice-text.result.now ≡ old ++ bytes = c.as_slice-text.ensures.value ∙ grown in
    let begins : c.len-before.result ≡ length old = search rules in
    let none : NoEnd c.len-before.result (length c.as_slice-text.result.now + 1) c.as_slice-text.result.now = search rules in
    subst (λ (a : Asked). IsNow a (AtHead c.extend_from_slice.new.self.items) []) (sym (head_grows application old bytes (none_in old bytes c.as_slice-text.result.now c.len-before.result begins text none)))
    (ap AtHead (sym grown), refl)

-- what was opened of a longer text
opened_in : (application : Application) (old bytes text new : List ℕ) (before end : ℕ) (o : Opened) → before ≡ length old → text ≡ old ++ bytes → before < end → end ≤ length text → ends_head (take end text) ≡ true
    → NoEnd before end text → IsOpened application (take end text) (take (length text - end) (drop end text)) o → IsHeadFed (fold (next application) (InHead old) bytes) new (Some o)
opened_in application old bytes text new before end o begins is past fits ends none opened =
    let all : List ℕ = old ++ bytes in
    let first : NoEnd (length old) end all = subst (λ (t : List ℕ). NoEnd (length old) end t) is (subst (λ (n : ℕ). NoEnd n end text) begins none) in
    let here : IsOpened application (take end all) (drop end all) o =
    subst (λ (t : List ℕ). IsOpened application (take end t) (drop end t) o) is (subst (λ (r : List ℕ). IsOpened application (take end text) r o) (take_rest text end) opened) in
    let cut = head_cut application old bytes end (omega (arith, begins, past)) (omega (arith, fits, ap length is)) (ap (λ (t : List ℕ). ends_head (take end t)) (sym is) ∙ ends) first in
    subst (λ (a : Asked). IsHeadFed a new (Some o)) (sym cut) (opened_fed application (take end all) (drop end all) new o here)

pub returns-in-Ok-clause-fed : goal.returns-in-Ok-clause-fed
returns-in-Ok-clause-fed c =
    let old : List ℕ = c.args.head.now.items in
    let bytes : List ℕ = c.args.bytes.now in
    let text : c.as_slice-text.result.now ≡ old ++ bytes = c.as_slice-text.ensures.value ∙ c.in_ok-extend_from_slice.ensures.items in
    let begins : c.len-before.result ≡ length old = search rules in
    let found = c.in-Some.ensures in
    opened_in c.args.application.now old bytes c.as_slice-text.result.now c.extend_from_slice.new.self.items c.len-before.result c.in-Some.end c.in-Ok.opened begins text found.within.0 found.within.1 found.ends
    found.first c.in-Ok.ensures
