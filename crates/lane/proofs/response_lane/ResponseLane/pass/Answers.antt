use Rattle.std.proofs.Common.{◌≡◌, ℕ, [], ◌∷◌, ◌++◌, refl, sym, ap, ◌∙◌, subst}
use Rattle.wire_buf.specs.Buffer.{Buffer}
use Rattle.header_ops.specs.Headers.{without_framing}
use Rattle.http_model.specs.Finish.{finish_interim}
use Rattle.http_model.specs.Head.{head_blocks}
use Rattle.lane.specs.Answering.{HeadsCame, passes}
use Rattle.lane.specs.declared.direction.lane.Lane.{Lane}
use Rattle.lane.proofs.AnswerLemmas.{at_head, head_sound, came_behind, shows_first}
use Rattle.lane.proofs.InterimLemmas.{came_same}
use Rattle.lane.proofs.response_lane.ResponseLane.pass.Goals as goal

pub returns-clause-answers : goal.returns-clause-answers
returns-clause-answers c = λ p got a e is blocks.
    let h = at_head c.args.self.now p c.requires.sound c.requires.head a in
    let none = head_sound c.args.self.now c.requires.sound c.requires.head in
    let stripped : c.strip.new.self.msg.blocks ≡ head_blocks (finish_interim got.head) = c.strip.ensures.blocks ∙ ap without_framing blocks ∙ c.edits_of_heads.ensures.strip got.head in
    let limits = c.show.ensures.limits ∙ ap (λ (l : Lane). l.limits) c.strip.ensures.same in
    let ended = c.show.ensures.ended ∙ ap (λ (l : Lane). l.ended) c.strip.ensures.same in
    let input = c.show.ensures.input ∙ ap (λ (l : Lane). l.input) c.strip.ensures.same in (
      shows_first c.show.new.self p (finish_interim got.head) h.put (c.show.ensures.shows (finish_interim got.head) stripped) c.show.ensures.sound c.show.ensures.kept c.show.ensures.stage (passes p got) refl refl,
      none.0,
      c.show.ensures.msg,
      subst (λ (b : Buffer ℕ). HeadsCame p.asked c.show.new.self.limits c.show.new.self.ended (p.read ++ got.head ∷ []) p.bytes b.items) (sym input)
          (came_same c.args.self.now.lane c.show.new.self (record { limits = limits; ended = ended }) p.asked (p.read ++ got.head ∷ []) p.bytes c.args.self.now.lane.input.items
          (came_behind c.args.self.now p h got e is)),
    )

pub returns-clause-came : goal.returns-clause-came
returns-clause-came c = c.show.ensures.input ∙ ap (λ (l : Lane). l.input) c.strip.ensures.same
