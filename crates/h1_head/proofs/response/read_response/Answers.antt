use Rattle.std.proofs.Common.{◌≡◌, ◌≢◌, ◌-◌, ◌++◌, ℕ, List, [], ◌∷◌, sym, ◌∙◌, ap, subst, rules, arith, take, drop, length, false, refl}
use Rattle.std.specs.Prelude.{Bool, ◌==◌}
use Rattle.std.proofs.lemmas.Bool.{eq-eqb, both_ways}
use Rattle.std.proofs.lemmas.List.{nil_from_length}
use Rattle.http_model.specs.declared.Limits.{Limits}
use Rattle.http_model.specs.Reading.{Refused}
use Rattle.h1_head.specs.declared.answer.HeadWhy.{HeadWhy}
use Rattle.h1_head.specs.declared.answer.HeadWhy.TheVariants.{Grammar}
use Rattle.h1_head.specs.Answers.{Keeps}
use Rattle.h1_head.specs.declared.answer.Side.TheVariants as side
use Rattle.h1_head.specs.Kind.{HeadKind}
use Rattle.h1_head.specs.Sides.{kind_of}
use Rattle.h1_head.specs.Stream.{behind, HeadOf}
use Rattle.h1_head.proofs.EachSide.{each_is_lawful}
use Rattle.h1_head.proofs.Lawful.{IsLawful}
use Rattle.h1_head.specs.Rows.{response_code}
use Rattle.h1_head.specs.Decides.{MayWait, IsHopeless, RefusesFor, WhereLong, IsTooLong, OnEachStream}
use Rattle.h1_head.proofs.Fronts.{rest_is}
use Rattle.h1_head.proofs.Parsed.{keeps_window}
use Rattle.h1_head.proofs.Streams.{waits_short, lone_cr, waits_window, refuses_window, refuses_each, long_window}
use Rattle.h1_head.proofs.Told.{on_refusal}
use Rattle.h1_head.proofs.response.read_response.Goals as goal

some_of : (b : Bool) (xs : List ℕ) → b ≡ (length xs == 0) → b ≡ false → xs ≢ []
some_of b xs is full e = both_ways b full (is ∙ eq-eqb (length xs) 0 (ap length e))

-- the refusal of each stream, by its code
each_refused : (K : HeadKind) → IsLawful K → (limits : Limits) (whole : Bool) (window : List ℕ) (code : ℕ) (why : HeadWhy) → code ≡ K.code why → RefusesFor K limits whole window why
    → OnEachStream whole (λ more. HeadOf K limits (window ++ more) (Refused code))
each_refused K laws limits whole window code why is for more ends =
    subst (λ (n : ℕ). HeadOf K limits (window ++ more) (Refused n)) (sym is) (refuses_each K laws limits whole window why for more ends)

pub returns-then-is_empty-clause-waits : goal.returns-then-is_empty-clause-waits
returns-then-is_empty-clause-waits c =
    let w = c.args.window.now in
    let skip = c.empty_lines-skip.result in
    let none : drop skip w ≡ [] = nil_from_length (drop skip w) (sym (ap length (rest_is skip w)) ∙ search rules) in
    let is : [] ≡ behind w = sym none ∙ c.empty_lines-skip.ensures.behind in
    waits_short (kind_of (side.Response c.args.head_asked)) (each_is_lawful (side.Response c.args.head_asked)) c.args.limits c.args.whole w [] c.requires.least is (omega arith) (omega arith) (λ _. refl)

pub returns-then-whole-clause-why : goal.returns-then-whole-clause-why
returns-then-whole-clause-why c =
    let w = c.args.window.now in
    let skip = c.empty_lines-skip.result in
    let cr : 13 ∷ [] ≡ behind w = sym (c.is_lone_cr.ensures.0 c.if-is_lone_cr.true) ∙ rest_is skip w ∙ c.empty_lines-skip.ensures.behind in
    on_refusal c.refuse.result 502 Grammar (λ _ why. RefusesFor (kind_of (side.Response c.args.head_asked)) c.args.limits c.args.whole w why) c.refuse.ensures
    (subst (λ (b : Bool). IsHopeless (kind_of (side.Response c.args.head_asked)) c.args.limits b w) (sym c.if-whole.true) (lone_cr (kind_of (side.Response c.args.head_asked)) (each_is_lawful (side.Response c.args.head_asked)) c.args.limits w cr))

pub returns-then-whole-clause-refused : goal.returns-then-whole-clause-refused
returns-then-whole-clause-refused c =
    let w = c.args.window.now in
    let skip = c.empty_lines-skip.result in
    let cr : 13 ∷ [] ≡ behind w = sym (c.is_lone_cr.ensures.0 c.if-is_lone_cr.true) ∙ rest_is skip w ∙ c.empty_lines-skip.ensures.behind in
    let hopeless : IsHopeless (kind_of (side.Response c.args.head_asked)) c.args.limits c.args.whole w = subst (λ (b : Bool). IsHopeless (kind_of (side.Response c.args.head_asked)) c.args.limits b w) (sym c.if-whole.true) (lone_cr (kind_of (side.Response c.args.head_asked)) (each_is_lawful (side.Response c.args.head_asked)) c.args.limits w cr) in
    on_refusal c.refuse.result 502 Grammar (λ code _. OnEachStream c.args.whole (λ more. HeadOf (kind_of (side.Response c.args.head_asked)) c.args.limits (w ++ more) (Refused code))) c.refuse.ensures
    (refuses_each (kind_of (side.Response c.args.head_asked)) (each_is_lawful (side.Response c.args.head_asked)) c.args.limits c.args.whole w Grammar hopeless)

pub returns-then-is_lone_cr-clause-waits : goal.returns-then-is_lone_cr-clause-waits
returns-then-is_lone_cr-clause-waits c =
    let w = c.args.window.now in
    let skip = c.empty_lines-skip.result in
    let cr : 13 ∷ [] ≡ behind w = sym (c.is_lone_cr.ensures.0 c.if-is_lone_cr.true) ∙ rest_is skip w ∙ c.empty_lines-skip.ensures.behind in
    waits_short (kind_of (side.Response c.args.head_asked)) (each_is_lawful (side.Response c.args.head_asked)) c.args.limits c.args.whole w (13 ∷ []) c.requires.least cr (omega arith) (omega arith) (λ e. absurd (both_ways c.args.whole c.if-whole.false e))

pub returns-in-More-clause-waits : goal.returns-in-More-clause-waits
returns-in-More-clause-waits c =
    let w = c.args.window.now in
    let skip = c.empty_lines-skip.result in
    let text : List ℕ = take (length w - skip) (drop skip w) in
    let at : text ≡ drop skip w = rest_is skip w in
    let waits : MayWait (kind_of (side.Response c.args.head_asked)) c.args.limits c.args.whole text = rw c.in-More.is at c.read_text.ensures.waits in
    waits_window (kind_of (side.Response c.args.head_asked)) (each_is_lawful (side.Response c.args.head_asked)) c.args.limits c.args.whole w text (at ∙ c.empty_lines-skip.ensures.behind) (ap behind at ∙ c.empty_lines-skip.ensures.alone ∙ sym at) waits

pub returns-in-Head-clause-head : goal.returns-in-Head-clause-head
returns-in-Head-clause-head c =
    let w = c.args.window.now in
    let skip = c.empty_lines-skip.result in
    let text : List ℕ = take (length w - skip) (drop skip w) in
    let at : text ≡ drop skip w = rest_is skip w in
    let kept : Keeps (kind_of (side.Response c.args.head_asked)) c.args.limits c.args.whole text c.read_text.new.to.blocks c.in-Head.used c.in-Head.framing c.in-Head.declared c.in-Head.close
    = rw c.in-Head.is at c.read_text.ensures.head in
    let some : text ≢ [] = some_of c.is_empty.result text c.is_empty.ensures c.if-is_empty.false in
    keeps_window (kind_of (side.Response c.args.head_asked)) (each_is_lawful (side.Response c.args.head_asked)) c.args.limits c.args.whole w text c.read_text.new.to.blocks skip c.in-Head.used c.in-Head.framing c.in-Head.declared c.in-Head.close
    at c.empty_lines-skip.ensures.behind (ap behind at ∙ c.empty_lines-skip.ensures.alone ∙ sym at) c.empty_lines-skip.ensures.within some
    (λ e. both_ways c.is_lone_cr.result c.if-is_lone_cr.false (c.is_lone_cr.ensures.1 e)) kept

pub returns-in-Refuse-clause-why : goal.returns-in-Refuse-clause-why
returns-in-Refuse-clause-why c =
    let w = c.args.window.now in
    let skip = c.empty_lines-skip.result in
    let text : List ℕ = take (length w - skip) (drop skip w) in
    let at : text ≡ drop skip w = rest_is skip w in
    let for : RefusesFor (kind_of (side.Response c.args.head_asked)) c.args.limits c.args.whole text c.in-Refuse.why = rw c.in-Refuse.is at c.read_text.ensures.why in
    let some : text ≢ [] = some_of c.is_empty.result text c.is_empty.ensures c.if-is_empty.false in
    refuses_window (kind_of (side.Response c.args.head_asked)) (each_is_lawful (side.Response c.args.head_asked)) c.args.limits c.args.whole w text c.in-Refuse.why (at ∙ c.empty_lines-skip.ensures.behind) (ap behind at ∙ c.empty_lines-skip.ensures.alone ∙ sym at) some
    (λ e. both_ways c.is_lone_cr.result c.if-is_lone_cr.false (c.is_lone_cr.ensures.1 e)) for

pub returns-in-Refuse-clause-long : goal.returns-in-Refuse-clause-long
returns-in-Refuse-clause-long c =
    let w = c.args.window.now in
    let skip = c.empty_lines-skip.result in
    let text : List ℕ = take (length w - skip) (drop skip w) in
    let at : text ≡ drop skip w = rest_is skip w in
    let long : WhereLong c.in-Refuse.why (IsTooLong (kind_of (side.Response c.args.head_asked)) c.args.limits c.args.whole text) = rw c.in-Refuse.is at c.read_text.ensures.long in
    long_window (kind_of (side.Response c.args.head_asked)) c.args.limits c.args.whole w text c.in-Refuse.why (at ∙ c.empty_lines-skip.ensures.behind) (ap behind at ∙ c.empty_lines-skip.ensures.alone ∙ sym at) long

pub returns-in-Refuse-clause-refused : goal.returns-in-Refuse-clause-refused
returns-in-Refuse-clause-refused c =
    let w = c.args.window.now in
    let skip = c.empty_lines-skip.result in
    let text : List ℕ = take (length w - skip) (drop skip w) in
    let at : text ≡ drop skip w = rest_is skip w in
    let for : RefusesFor (kind_of (side.Response c.args.head_asked)) c.args.limits c.args.whole text c.in-Refuse.why = rw c.in-Refuse.is at c.read_text.ensures.why in
    let code : c.in-Refuse.code ≡ response_code c.in-Refuse.why = rw c.in-Refuse.is at c.read_text.ensures.code in
    let some : text ≢ [] = some_of c.is_empty.result text c.is_empty.ensures c.if-is_empty.false in
    each_refused (kind_of (side.Response c.args.head_asked)) (each_is_lawful (side.Response c.args.head_asked)) c.args.limits c.args.whole w c.in-Refuse.code c.in-Refuse.why code
    (refuses_window (kind_of (side.Response c.args.head_asked)) (each_is_lawful (side.Response c.args.head_asked)) c.args.limits c.args.whole w text c.in-Refuse.why (at ∙ c.empty_lines-skip.ensures.behind) (ap behind at ∙ c.empty_lines-skip.ensures.alone ∙ sym at) some
    (λ e. both_ways c.is_lone_cr.result c.if-is_lone_cr.false (c.is_lone_cr.ensures.1 e)) for)
