-- A message that stands in the array with its body, and a head that is put out alone.
use Rattle.std.proofs.Common.{◌≡◌, ℕ, inl, inr, List, [], ◌++◌, true, false, refl, sym, ap, ◌∙◌, append_assoc}
use Rattle.std.proofs.lemmas.List.{append-nil}
use Rattle.htx_model.specs.Block.{Block}
use Rattle.htx_model.specs.Blocks.{flow}
use Rattle.http_model.specs.declared.Framing.TheVariants as framing
use Rattle.http_model.specs.declared.Limits.{Limits}
use Rattle.http_model.specs.Head.{Head, Message, head_blocks}
use Rattle.http_model.specs.Spelling.{head_text, Spells}
use Rattle.h1_body.specs.Body.{BodyAt, Over}
use Rattle.h1_body.specs.declared.stages.Stage.{Stage}
use Rattle.h1_body.specs.declared.stages.Stage.TheVariants as stage
use Rattle.h1_body.specs.declared.reader.BodyReader.{BodyReader}
use Rattle.h1_body.specs.declared.reader.BodyState.TheVariants as state
use Rattle.h1_body.specs.Stands.{HasRead, Stands, state_at, state_of}
use Rattle.h1_write.specs.declared.writer.Stage.{Stage as WriterStage}
use Rattle.h1_write.specs.declared.writer.Stage.TheVariants as at
use Rattle.h1_write.specs.declared.writer.Writer.{Writer}
use Rattle.h1_write.specs.declared.units.Coding.{Coding}
use Rattle.h1_write.specs.declared.units.Place.{Place}
use Rattle.h1_write.specs.Spelled.{Writes, Begins, is_done, done_at}
use Rattle.http_model.specs.Head.{message_blocks}
use Rattle.h1_write.proofs.PublicLaws.{front_told, whole_told}
use Rattle.htx_model.proofs.PublicLaws.{flow-append}
use Rattle.lane.specs.Direction.Shown.{Shows}

-- a body that is absent is over
over_at : (st : Stage) (most : ℕ) (at : BodyAt) → Over [] ≡ at → Stands most st at → state_at st ≡ state.Whole
over_at (stage.Left left) most at e h = absurd (let is = h.1 in cc)
over_at stage.UntilClose most at e h = absurd (cc)
over_at stage.Line most at e h = absurd (cc)
over_at (stage.Data left) most at e h = absurd (let is = h.1 in cc)
over_at stage.LineEnd most at e h = absurd (cc)
over_at stage.Section most at e h = absurd (cc)
over_at stage.Over most at e h = refl
over_at stage.Dead most at e (inl h) = absurd (cc)
over_at stage.Dead most at e (inr h) = absurd (let is = h.1 in cc)

pub absent_over : (limits : Limits) (reader : BodyReader) → HasRead limits framing.Absent [] [] [] reader → state_of reader ≡ state.Whole
absent_over limits reader h = over_at reader.stage _ h.at h.goes.place h.stands

-- ---- a head alone

abbrev alone : Head → Message
alone head = record { head = head; framing = framing.Absent; body = []; trailers = [] }

alone_blocks : (head : Head) → head_blocks head ≡ message_blocks (alone head)
alone_blocks head = sym (append-nil (head_blocks head)) ∙ sym (append-nil (head_blocks head ++ []))

done_left : (c : Coding) (p : Place) (s : WriterStage) (left : List Block) (front text : List ℕ) → Begins c p s left front text → done_at s ≡ true → left ≡ []
done_left c p (at.Block pos size) left front text h e = absurd (let both : false ≡ true = e in cc both)
done_left c p (at.End pos) left front text h e = h.0
done_left c p at.Done left front text h e = h.0

spelled_alone : (head : Head) (text : List ℕ) → Spells true true (alone head) text → text ≡ head_text head
spelled_alone head text s = s.spelled ∙ ap (λ (b : List ℕ). head_text head ++ b) s.spells_body ∙ append-nil (head_text head)

-- all of it was put out
pub shown_whole : (w : Writer) (head : Head) (text : List ℕ) (left : List Block) → Shows w head text left → is_done w ≡ true → text ≡ head_text head
shown_whole w head text left s done =
    let none : left ≡ [] = done_left w.coding w.place w.stage left s.has.front text s.has.begins done in
    let flows : flow s.taken ≡ message_blocks (alone head) = ap flow (sym (append-nil s.taken)) ∙ ap (λ (bs : List Block). flow (s.taken ++ bs)) (sym none) ∙ s.flows ∙ alone_blocks head in
    spelled_alone head text (whole_told framing.Absent true s.taken left text w (alone head) s.has done refl flows)

-- a front of it was put out
pub shown_front : (w : Writer) (head : Head) (text : List ℕ) (left : List Block) → Shows w head text left → (rest : List ℕ) × (text ++ rest ≡ head_text head)
shown_front w head text left s =
    let told = front_told framing.Absent true s.taken left [] text w (alone head) s.has (λ _. refl) refl
    (ap (λ (bs : List Block). flow (s.taken ++ bs)) (append-nil left) ∙ s.flows ∙ alone_blocks head) in
    (told.0, spelled_alone head (text ++ told.0) told.1)

pub shows_on : (old new : Writer) (left left' : List Block) (into out : List ℕ) (puts : Writes old left into new left' out) (head : Head) (text : List ℕ) → Shows old head text left → Shows new head (text ++ puts.more) left'
shows_on old new left left' into out puts head text s =
    let l = puts.leads framing.Absent true s.taken text s.has in
    record {
      taken = s.taken ++ l.0;
      has = l.2;
      flows = ap flow (append_assoc s.taken l.0 left') ∙ flow-append s.taken (l.0 ++ left') left l.1 ∙ s.flows;
    }
