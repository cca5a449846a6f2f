use Rattle.std.proofs.Common.{◌≡◌, ℕ, ◌≤◌, List, ◌++◌, Bool, nat_le, take, drop, length, sym, ap, subst, ◌∙◌}
use Rattle.std.proofs.lemmas.List.{drop-drop}
use Rattle.http_model.specs.Reading.{Refused}
use Rattle.h1_head.specs.Answers.{Keeps}
use Rattle.h1_head.specs.Decides.{OnEachStream}
use Rattle.h1_head.specs.Sides.{kind_of}
use Rattle.h1_head.specs.Stream.{behind, HeadOf}
use Rattle.px_explain.proofs.Reading.{refused, skips, within, begins}
use Rattle.px_explain.proofs.heads.find_head.Goals as goal

pub windows-preserved : goal.windows-preserved
windows-preserved c =
    let stream : List ℕ = c.args.stream.now in
    let from : ℕ = c.windows.from in
    let most : ℕ = c.args.limits.bufsize in
    let rest : List ℕ = drop from stream in
    let skip : ℕ = c.in-More.skip in
    let whole : Bool = nat_le (length c.bytes_from-rest.result.now) most in
    let is : whole ≡ nat_le (length rest) most = ap (λ (s : List ℕ). nat_le (length s) most) c.bytes_from-rest.ensures in
    let window : c.front.result.now ≡ take most rest = c.front.ensures ∙ ap (λ (s : List ℕ). take most s) c.bytes_from-rest.ensures in
    let short : skip ≤ length (take most rest) = subst (λ (s : List ℕ). skip ≤ length s) window c.in-More.ensures.skip in
    let lines : drop skip (take most rest) ≡ behind (take most rest) = subst (λ (s : List ℕ). drop skip s ≡ behind s) window c.in-More.ensures.lines in
    record {
      within = within stream from most skip c.windows.invariant.within short;
      same = sym (ap (λ (s : List ℕ). behind s) (drop-drop skip from stream)) ∙ skips (kind_of c.args.side) c.args.limits stream rest most whole c.windows.invariant.same is c.drops_lines.ensures skip short lines;
      size = c.in-More.ensures.size ∙ (c.clear.ensures.size ∙ c.windows.invariant.size);
    }

pub returns-in-Refuse-clause-found : goal.returns-in-Refuse-clause-found
returns-in-Refuse-clause-found c =
    let most : ℕ = c.args.limits.bufsize in
    let rest : List ℕ = drop c.windows.from c.args.stream.now in
    let whole : Bool = nat_le (length c.bytes_from-rest.result.now) most in
    let is : whole ≡ nat_le (length rest) most = ap (λ (s : List ℕ). nat_le (length s) most) c.bytes_from-rest.ensures in
    let window : c.front.result.now ≡ take most rest = c.front.ensures ∙ ap (λ (s : List ℕ). take most s) c.bytes_from-rest.ensures in
    refused (kind_of c.args.side) c.args.limits c.args.stream.now rest most whole c.windows.invariant.same is c.in-Refuse.code
    (subst (λ (s : List ℕ). OnEachStream whole (λ more. HeadOf (kind_of c.args.side) c.args.limits (s ++ more) (Refused c.in-Refuse.code))) window c.in-Refuse.ensures.refused)

pub returns-in-Head-clause-found : goal.returns-in-Head-clause-found
returns-in-Head-clause-found c =
    let h = c.in-Head in
    let most : ℕ = c.args.limits.bufsize in
    let rest : List ℕ = drop c.windows.from c.args.stream.now in
    let whole : Bool = nat_le (length c.bytes_from-rest.result.now) most in
    let is : whole ≡ nat_le (length rest) most = ap (λ (s : List ℕ). nat_le (length s) most) c.bytes_from-rest.ensures in
    let window : c.front.result.now ≡ take most rest = c.front.ensures ∙ ap (λ (s : List ℕ). take most s) c.bytes_from-rest.ensures in
    begins (kind_of c.args.side) c.args.limits c.args.stream.now c.windows.from most whole c.windows.invariant.within c.windows.invariant.same is c.read_head.new.to.blocks h.used h.framing h.declared h.close
    (subst (λ (s : List ℕ). Keeps (kind_of c.args.side) c.args.limits whole s c.read_head.new.to.blocks h.used h.framing h.declared h.close) window h.ensures.head)
