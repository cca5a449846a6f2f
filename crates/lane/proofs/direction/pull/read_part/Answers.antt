use Rattle.std.proofs.Common.{◌≡◌, ℕ, ◌+◌, ◌-◌, ◌<◌, ◌≤◌, List, [], ◌++◌, ap, ◌∙◌, subst, take, arith, Option, Some}
use Rattle.std.specs.Prelude.{IfSome, IsOk, ◌↔◌}
use Rattle.http_model.specs.Head.{Field}
use Rattle.h1_body.specs.Section.{HasTrailers}
use Rattle.h1_body.specs.Trailers.{trailer_blocks}
use Rattle.htx_model.specs.Block.{Block}
use Rattle.htx_model.specs.Blocks.{load, Fits, taken, append_data}
use Rattle.h1_body.specs.declared.reader.Span.{Span}
use Rattle.lane.proofs.DirectionLemmas.PullLemmas.{pulled_plain, pulled_ended}
use Rattle.h1_body.specs.Stands.{HasRead, bytes_of}
use Rattle.lane.proofs.direction.pull.read_part.Goals as goal

room_is : (blocks : List Block) (size room less : ℕ) → blocks ≡ [] → room + load blocks ≡ size → less ≡ room - 8 → less ≡ size - 8
room_is blocks size room less none full is = let zero : load blocks ≡ 0 = ap load none in omega arith

if_some : (o : Option Span) (span : Span) (P : Span → Type 0) → o ≡ Some span → IfSome o P → P span
if_some o span P is h = subst (λ (x : Option Span). IfSome x P) is h

pub returns-in-Some-clause-pulls : goal.returns-in-Some-clause-pulls
returns-in-Some-clause-pulls c =
    let w = c.args.text.now in
    let step = c.feed_grown-step.result in
    let section : bytes_of w step.trailers ≡ bytes_of w (Some c.in-Some.span) = ap (bytes_of w) c.in-Some.is in
    pulled_ended c.args.reader.now c.feed_grown-step.new.self w c.saturating_sub.result step.used c.args.to.now.size c.add_data.result step.piece c.in-Some.span step.state
    c.add_data.new.self.blocks c.add_trailers-added.new.to.blocks c.add_trailers-added.result
    (record { within = c.feed_grown-step.ensures.used; span = (c.feed_grown-step.ensures.small, c.feed_grown-step.ensures.piece_within); leads = λ limits framing bytes found before read. subst (λ (xs : List ℕ). HasRead limits framing (bytes ++ take step.used w) (found ++ bytes_of w (Some step.piece)) (before ++ xs) c.feed_grown-step.new.self) section (c.feed_grown-step.ensures.leads limits framing bytes found before read); told = c.feed_grown-step.ensures.state; waits = c.feed_grown-step.ensures.waits })
    (room_is c.args.to.now.blocks c.args.to.now.size c.room.result c.saturating_sub.result c.requires.empty c.room.ensures c.saturating_sub.ensures)
    (if_some step.trailers c.in-Some.span (λ span. 0 < span.len) c.in-Some.is c.feed_grown-step.ensures.some, if_some step.trailers c.in-Some.span (λ span. span.from + span.len ≤ step.used) c.in-Some.is c.feed_grown-step.ensures.section_within)
    (if_some step.trailers c.in-Some.span (λ _. step.piece.len ≡ 0) c.in-Some.is c.feed_grown-step.ensures.alone)
    (if_some step.trailers c.in-Some.span (λ span. span.len ≤ c.args.reader.now.section_limit) c.in-Some.is c.feed_grown-step.ensures.short)
    (c.add_data.ensures.taken ∙ ap (λ (bs : List Block). taken bs c.args.to.now.size (bytes_of c.args.text.now (Some c.feed_grown-step.result.piece))) c.requires.empty)
    (c.add_data.ensures.blocks ∙ ap (λ (bs : List Block). append_data bs (take c.add_data.result (bytes_of c.args.text.now (Some c.feed_grown-step.result.piece)))) c.requires.empty)
    c.add_trailers-added.ensures.ok
    (subst (λ (k : ℕ). (trailers : List Field) → HasTrailers (bytes_of w (Some c.in-Some.span)) trailers → IsOk c.add_trailers-added.result ↔ Fits (c.add_data.new.self.blocks ++ trailer_blocks trailers) k) c.add_data.ensures.size c.add_trailers-added.ensures.fits)

pub returns-in_default-clause-pulls : goal.returns-in_default-clause-pulls
returns-in_default-clause-pulls c =
    pulled_plain c.args.reader.now c.feed_grown-step.new.self c.args.text.now c.saturating_sub.result c.feed_grown-step.result.used c.args.to.now.size c.add_data.result c.feed_grown-step.result.piece
    (bytes_of c.args.text.now c.feed_grown-step.result.trailers) c.feed_grown-step.result.state c.add_data.new.self.blocks
    (ap (bytes_of c.args.text.now) c.in_default.is)
    (record { within = c.feed_grown-step.ensures.used; span = (c.feed_grown-step.ensures.small, c.feed_grown-step.ensures.piece_within); leads = c.feed_grown-step.ensures.leads; told = c.feed_grown-step.ensures.state; waits = c.feed_grown-step.ensures.waits })
    (room_is c.args.to.now.blocks c.args.to.now.size c.room.result c.saturating_sub.result c.requires.empty c.room.ensures c.saturating_sub.ensures)
    (c.add_data.ensures.taken ∙ ap (λ (bs : List Block). taken bs c.args.to.now.size (bytes_of c.args.text.now (Some c.feed_grown-step.result.piece))) c.requires.empty)
    (c.add_data.ensures.blocks ∙ ap (λ (bs : List Block). append_data bs (take c.add_data.result (bytes_of c.args.text.now (Some c.feed_grown-step.result.piece)))) c.requires.empty)
