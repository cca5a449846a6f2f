use Rattle.std.proofs.Common.{ℕ, List, subst, ◌∙◌}
use Rattle.std.proofs.lemmas.List.{take_all}
use Rattle.px_proxyproto.specs.Binary.{signature}
use Rattle.px_proxyproto.specs.Lines.{Agrees}
use Rattle.px_proxyproto.specs.Reading.{Tells}
use Rattle.px_proxyproto.proofs.Fronts.{agrees_whole, unsigned_whole}
use Rattle.px_proxyproto.proofs.state.state_of.Goals as goal

pub returns-then-agrees : goal.returns-then-agrees
returns-then-agrees c = λ bytes is within.
    c.binary_state.ensures bytes is (agrees_whole bytes (subst (λ (t : List ℕ). Agrees t signature) is.front (c.agrees.ensures.yes c.if-agrees.true))) within

pub returns : goal.returns
returns c = λ bytes is within.
    let never = subst (λ (t : List ℕ). ¬ (Agrees t signature)) is.front (c.agrees.ensures.no c.if-agrees.false) in
    let short = within.text (unsigned_whole bytes never) in
    subst (Tells c.text_state.result) (is.front ∙ take_all 107 bytes short) c.text_state.ensures
