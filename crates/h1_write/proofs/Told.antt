-- What a writer tells of a message.
use Rattle.std.proofs.Common.{◌≡◌, ℕ, zero, suc, ◌≤◌, List, [], ◌∷◌, ◌++◌, Bool, true, false, length, take, drop, refl, ap, sym, ◌∙◌, subst, arith, append_assoc}
use Rattle.std.proofs.lemmas.List.{append-nil, take-append-drop, take-append-le, length-append}
use Rattle.htx_model.specs.Block.{Block, RequestLine, ResponseLine, Header, EndHeaders, Data, Trailer, EndTrailers, kind_of}
use Rattle.htx_model.specs.Blocks.{flow, append_data, extend_last, followed}
use Rattle.http_model.specs.declared.Framing.{Framing}
use Rattle.http_model.specs.Head.{Message, front_blocks, message_blocks}
use Rattle.http_model.specs.Spelling.{Spells, chunk_line, line_end}
use Rattle.h1_write.specs.declared.units.Coding.{Coding}
use Rattle.h1_write.specs.declared.units.Coding.TheVariants.{Silent, Plain, Chunks}
use Rattle.h1_write.specs.declared.units.Place.{Place}
use Rattle.h1_write.specs.declared.units.Place.TheVariants.{Open}
use Rattle.h1_write.specs.declared.writer.Stage.{Stage}
use Rattle.h1_write.specs.declared.writer.Stage.TheVariants as stage
use Rattle.h1_write.specs.declared.writer.Writer.{Writer}
use Rattle.h1_write.specs.Units.{coding_of, behind, end_text, unit_text, data_text, IsPart}
use Rattle.h1_write.specs.Spelled.{SpellsBlock, SpellsBlocks, BeginsBlock, Begins, HasWritten, EvenAt, done_at, ended_at, IsEven, is_done, has_ended}
use Rattle.h1_write.specs.Kept.{IsKept, KeepsFront}
use Rattle.htx_model.proofs.PublicLaws.{flow-append, flow-parted}
use Rattle.h1_write.proofs.Leading.{not_true, spells-push, chunk_spelled}
use Rattle.h1_write.proofs.Messages.{message_spelled, cut_spelled, some_blocks, spells-append}

-- ---- all was written

done_is : (c : Coding) (at : Place) (s : Stage) (left : List Block) (front text : List ℕ) → Begins c at s left front text → done_at s ≡ true → text ≡ front ++ end_text c at
done_is c at (stage.Block pos size) left front text h e = absurd (not_true e)
done_is c at (stage.End pos) left front text h e = absurd (not_true e)
done_is c at stage.Done left front text h e = h.1

pub whole_told : (framing : Framing) (no_body : Bool) (taken left : List Block) (text : List ℕ) (writer : Writer) (m : Message) → HasWritten framing no_body taken left text writer → is_done writer ≡ true → m.framing ≡ framing → flow taken ≡ message_blocks m → Spells true no_body m text
whole_told framing no_body taken left text writer m h done e is =
    let spells = subst (λ (c : Coding). SpellsBlocks c Open taken h.front writer.place) h.coding h.spells in
    let all = done_is writer.coding writer.place writer.stage left h.front text h.begins done ∙ ap (λ (c : Coding). h.front ++ end_text c writer.place) h.coding in
    subst (λ (t : List ℕ). Spells true no_body m t) (sym all) (message_spelled framing no_body writer.place m taken h.front e spells is)

-- ---- a message that is cut

even_is : (c : Coding) (at : Place) (s : Stage) (left : List Block) (front text : List ℕ) → Begins c at s left front text → EvenAt s → done_at s ≡ false → text ≡ front
even_is c at (stage.Block zero size) left front text h even going = h
even_is c at (stage.Block (suc pos) size) left front text h even going = absurd (omega (arith, even))
even_is c at (stage.End pos) left front text h even going = absurd even
even_is c at stage.Done left front text h even going = absurd (not_true (sym going))

pub cut_told : (framing : Framing) (no_body : Bool) (taken left : List Block) (text : List ℕ) (writer : Writer) (m : Message) → HasWritten framing no_body taken left text writer → IsEven writer → is_done writer ≡ false → m.framing ≡ framing → flow taken ≡ front_blocks m.head m.body → Spells false no_body m text
cut_told framing no_body taken left text writer m h even going e is =
    let spells = subst (λ (c : Coding). SpellsBlocks c Open taken h.front writer.place) h.coding h.spells in
    subst (λ (t : List ℕ). Spells false no_body m t) (sym (even_is writer.coding writer.place writer.stage left h.front text h.begins even going)) (cut_spelled framing no_body writer.place m taken h.front e spells is)

-- ---- a front of a message

-- what is begun can be ended
record Completes (c : Coding) (taken before : List Block) (text : List ℕ) : Type 0 where
  pub gone : List Block
  pub left : List Block
  pub rest : List ℕ
  pub to : Place
  pub flows : (more : List Block) → flow (gone ++ (left ++ more)) ≡ flow (before ++ more)
  pub spells : SpellsBlocks c Open (taken ++ gone) (text ++ rest) to

-- the block whose text is begun, and what stays behind it
record Ends (c : Coding) (at : Place) (size : ℕ) (b : Block) : Type 0 where
  pub block : Block
  pub left : List Block
  pub flows : (bs : List Block) → flow (block ∷ (left ++ bs)) ≡ flow (b ∷ bs)
  pub spells : SpellsBlock c at block (unit_text c at size b)

data_ends : (c : Coding) (at : Place) (size : ℕ) (p : List ℕ) → IsPart size (Data p) → Ends c at size (Data p)
data_ends Silent at size p part = record { block = Data p; left = []; flows = λ bs. refl; spells = refl }
data_ends Plain at size p part = record { block = Data p; left = []; flows = λ bs. refl; spells = refl }
data_ends Chunks at size p part = record { block = Data (take size p); left = Data (drop size p) ∷ []; flows = λ bs. flow-parted size p bs; spells = chunk_spelled size p part.0 part.1 }

ends_of : (c : Coding) (at : Place) (size : ℕ) (b : Block) → IsPart size b → Ends c at size b
ends_of c at size (Data p) part = data_ends c at size p part
ends_of c at size (RequestLine x y z) part = record { block = RequestLine x y z; left = []; flows = λ bs. refl; spells = refl }
ends_of c at size (ResponseLine x y z) part = record { block = ResponseLine x y z; left = []; flows = λ bs. refl; spells = refl }
ends_of c at size (Header n v) part = record { block = Header n v; left = []; flows = λ bs. refl; spells = refl }
ends_of c at size EndHeaders part = record { block = EndHeaders; left = []; flows = λ bs. refl; spells = refl }
ends_of c at size (Trailer n v) part = record { block = Trailer n v; left = []; flows = λ bs. refl; spells = refl }
ends_of c at size EndTrailers part = record { block = EndTrailers; left = []; flows = λ bs. refl; spells = refl }

completes_by : (c : Coding) (at : Place) (taken left : List Block) (front text : List ℕ) (pos size : ℕ) → SpellsBlocks c Open taken front at → BeginsBlock c at pos size left front text → Completes c taken left text
completes_by c at taken left front text zero size s h =
    let P : List Block → List ℕ → Type 0 = λ ts t. SpellsBlocks c Open ts t at in
    record {
      gone = [];
      left = left;
      rest = [];
      to = at;
      flows = λ more. refl;
      spells = subst (λ (ts : List Block). P ts (text ++ [])) (sym (append-nil taken)) (subst (λ (t : List ℕ). P taken t) (sym (append-nil text ∙ h)) s);
    }
completes_by c at taken [] front text (suc pos) size s h = absurd h
completes_by c at taken (b ∷ bs) front text (suc pos) size s h =
    let u = unit_text c at size b in
    let d = ends_of c at size b h.0 in
    let all : front ++ u ≡ text ++ drop (suc pos) u =
    ap (λ (l : List ℕ). front ++ l) (sym (take-append-drop (suc pos) u)) ∙ sym (append_assoc front (take (suc pos) u) (drop (suc pos) u)) ∙ ap (λ (l : List ℕ). l ++ drop (suc pos) u) (sym h.2) in
    record {
      gone = d.block ∷ [];
      left = d.left ++ bs;
      rest = drop (suc pos) u;
      to = behind at (kind_of d.block);
      flows = λ more. ap (λ (l : List Block). flow (d.block ∷ l)) (append_assoc d.left bs more) ∙ d.flows (bs ++ more);
      spells = subst (λ (t : List ℕ). SpellsBlocks c Open (taken ++ d.block ∷ []) t (behind at (kind_of d.block))) all (spells-push c Open at taken front d.block u s d.spells);
    }

-- what is left of the end
record LeavesEnd (c : Coding) (at : Place) (front text : List ℕ) : Type 0 where
  pub rest : List ℕ
  pub is : text ++ rest ≡ front ++ end_text c at

end_left : (c : Coding) (at : Place) (s : Stage) (left : List Block) (front text : List ℕ) → Begins c at s left front text → ended_at s ≡ true → (left ≡ []) × LeavesEnd c at front text
end_left c at (stage.Block pos size) left front text h e = absurd (not_true e)
end_left c at (stage.End pos) left front text h e =
    let u = end_text c at in
    (h.0, record { rest = drop pos u; is = ap (λ (l : List ℕ). l ++ drop pos u) h.2 ∙ append_assoc front (take pos u) (drop pos u) ∙ ap (λ (l : List ℕ). front ++ l) (take-append-drop pos u) })
end_left c at stage.Done left front text h e = (h.0, record { rest = []; is = append-nil text ∙ h.1 })

front_ended : (framing : Framing) (no_body : Bool) (c : Coding) (at : Place) (s : Stage) (taken left more : List Block) (front text : List ℕ) (m : Message)
    → c ≡ coding_of framing no_body → SpellsBlocks c Open taken front at → Begins c at s left front text → m.framing ≡ framing → flow (taken ++ (left ++ more)) ≡ message_blocks m → more ≡ [] → ended_at s ≡ true
    → (rest : List ℕ) × Spells true no_body m (text ++ rest)
front_ended framing no_body c at s taken left more front text m coding spells begins e is none over =
    let d = end_left c at s left front text begins over in
    let flows : flow taken ≡ message_blocks m = ap flow (sym (append-nil taken) ∙ (λ i. taken ++ (sym d.0 i ++ sym none i))) ∙ is in
    let told = message_spelled framing no_body at m taken front e (subst (λ (k : Coding). SpellsBlocks k Open taken front at) coding spells) flows in
    (d.1.rest, subst (λ (t : List ℕ). Spells true no_body m t) (ap (λ (k : Coding). front ++ end_text k at) (sym coding) ∙ sym d.1.is) told)

front_by : (framing : Framing) (no_body : Bool) (c : Coding) (at : Place) (s : Stage) (taken left more : List Block) (front text : List ℕ) (m : Message)
    → c ≡ coding_of framing no_body → SpellsBlocks c Open taken front at → Begins c at s left front text → m.framing ≡ framing → flow (taken ++ (left ++ more)) ≡ message_blocks m → (ended_at s ≡ true → more ≡ [])
    → (rest : List ℕ) × Spells true no_body m (text ++ rest)
front_by framing no_body c at (stage.Block pos size) taken left more front text m coding spells begins e is none =
    let d = completes_by c at taken left front text pos size spells begins in
    let others = some_blocks c d.to (d.left ++ more) in
    let all = spells-append c Open d.to others.1 (taken ++ d.gone) (d.left ++ more) (text ++ d.rest) others.0 d.spells others.2 in
    let flows : flow ((taken ++ d.gone) ++ (d.left ++ more)) ≡ message_blocks m =
    ap flow (append_assoc taken d.gone (d.left ++ more)) ∙ flow-append taken (d.gone ++ (d.left ++ more)) (left ++ more) (d.flows more) ∙ is in
    let told = message_spelled framing no_body others.1 m ((taken ++ d.gone) ++ (d.left ++ more)) ((text ++ d.rest) ++ others.0) e (subst (λ (k : Coding). SpellsBlocks k Open ((taken ++ d.gone) ++ (d.left ++ more)) ((text ++ d.rest) ++ others.0) others.1) coding all) flows in
    let end = end_text (coding_of framing no_body) others.1 in
    (d.rest ++ (others.0 ++ end), subst (λ (t : List ℕ). Spells true no_body m t) (append_assoc (text ++ d.rest) others.0 end ∙ append_assoc text d.rest (others.0 ++ end)) told)
front_by framing no_body c at (stage.End pos) taken left more front text m coding spells begins e is none =
    front_ended framing no_body c at (stage.End pos) taken left more front text m coding spells begins e is (none refl) refl
front_by framing no_body c at stage.Done taken left more front text m coding spells begins e is none =
    front_ended framing no_body c at stage.Done taken left more front text m coding spells begins e is (none refl) refl

pub front_told : (framing : Framing) (no_body : Bool) (taken left more : List Block) (text : List ℕ) (writer : Writer) (m : Message) → HasWritten framing no_body taken left text writer → (has_ended writer ≡ true → more ≡ []) → m.framing ≡ framing → flow (taken ++ (left ++ more)) ≡ message_blocks m
    → (rest : List ℕ) × Spells true no_body m (text ++ rest)
front_told framing no_body taken left more text writer m h none e is =
    front_by framing no_body writer.coding writer.place writer.stage taken left more h.front text m h.coding h.spells h.begins e is none

-- while the end is not begun, a front of the message that is cut behind what came
cut_front_by : (framing : Framing) (no_body : Bool) (c : Coding) (at : Place) (s : Stage) (taken left more : List Block) (front text : List ℕ) (m : Message)
    → c ≡ coding_of framing no_body → SpellsBlocks c Open taken front at → Begins c at s left front text → m.framing ≡ framing → flow (taken ++ (left ++ more)) ≡ front_blocks m.head m.body → ended_at s ≡ false
    → (rest : List ℕ) × Spells false no_body m (text ++ rest)
cut_front_by framing no_body c at (stage.Block pos size) taken left more front text m coding spells begins e is going =
    let d = completes_by c at taken left front text pos size spells begins in
    let others = some_blocks c d.to (d.left ++ more) in
    let all = spells-append c Open d.to others.1 (taken ++ d.gone) (d.left ++ more) (text ++ d.rest) others.0 d.spells others.2 in
    let flows : flow ((taken ++ d.gone) ++ (d.left ++ more)) ≡ front_blocks m.head m.body =
    ap flow (append_assoc taken d.gone (d.left ++ more)) ∙ flow-append taken (d.gone ++ (d.left ++ more)) (left ++ more) (d.flows more) ∙ is in
    let told = cut_spelled framing no_body others.1 m ((taken ++ d.gone) ++ (d.left ++ more)) ((text ++ d.rest) ++ others.0) e (subst (λ (k : Coding). SpellsBlocks k Open ((taken ++ d.gone) ++ (d.left ++ more)) ((text ++ d.rest) ++ others.0) others.1) coding all) flows in
    (d.rest ++ others.0, subst (λ (t : List ℕ). Spells false no_body m t) (append_assoc text d.rest others.0) told)
cut_front_by framing no_body c at (stage.End pos) taken left more front text m coding spells begins e is going = absurd (not_true (sym going))
cut_front_by framing no_body c at stage.Done taken left more front text m coding spells begins e is going = absurd (not_true (sym going))

pub cut_front_told : (framing : Framing) (no_body : Bool) (taken left more : List Block) (text : List ℕ) (writer : Writer) (m : Message) → HasWritten framing no_body taken left text writer → has_ended writer ≡ false → m.framing ≡ framing
    → flow (taken ++ (left ++ more)) ≡ front_blocks m.head m.body → (rest : List ℕ) × Spells false no_body m (text ++ rest)
cut_front_told framing no_body taken left more text writer m h going e is =
    cut_front_by framing no_body writer.coding writer.place writer.stage taken left more h.front text m h.coding h.spells h.begins e is going

-- ---- blocks that come meanwhile

-- what is begun of a block is begun of the block with more bytes
begins_kept : (c : Coding) (at : Place) (size pos : ℕ) (b d : Block) → IsPart size b → pos ≤ length (unit_text c at size b) → IsKept b d → IsPart size d × (pos ≤ length (unit_text c at size d)) × (take pos (unit_text c at size d) ≡ take pos (unit_text c at size b))
begins_kept c at size pos (RequestLine x y z) d part within k = subst (λ (e : Block). IsPart size e × (pos ≤ length (unit_text c at size e)) × (take pos (unit_text c at size e) ≡ take pos (unit_text c at size (RequestLine x y z)))) (sym k) (part, within, refl)
begins_kept c at size pos (ResponseLine x y z) d part within k = subst (λ (e : Block). IsPart size e × (pos ≤ length (unit_text c at size e)) × (take pos (unit_text c at size e) ≡ take pos (unit_text c at size (ResponseLine x y z)))) (sym k) (part, within, refl)
begins_kept c at size pos (Header x y) d part within k = subst (λ (e : Block). IsPart size e × (pos ≤ length (unit_text c at size e)) × (take pos (unit_text c at size e) ≡ take pos (unit_text c at size (Header x y)))) (sym k) (part, within, refl)
begins_kept c at size pos EndHeaders d part within k = subst (λ (e : Block). IsPart size e × (pos ≤ length (unit_text c at size e)) × (take pos (unit_text c at size e) ≡ take pos (unit_text c at size EndHeaders))) (sym k) (part, within, refl)
begins_kept c at size pos (Trailer x y) d part within k = subst (λ (e : Block). IsPart size e × (pos ≤ length (unit_text c at size e)) × (take pos (unit_text c at size e) ≡ take pos (unit_text c at size (Trailer x y)))) (sym k) (part, within, refl)
begins_kept c at size pos EndTrailers d part within k = subst (λ (e : Block). IsPart size e × (pos ≤ length (unit_text c at size e)) × (take pos (unit_text c at size e) ≡ take pos (unit_text c at size EndTrailers))) (sym k) (part, within, refl)
begins_kept c at size pos (Data p) d part within k =
    subst (λ (e : Block). IsPart size e × (pos ≤ length (unit_text c at size e)) × (take pos (unit_text c at size e) ≡ take pos (unit_text c at size (Data p)))) (sym k.1) (data_kept c size pos p k.0 part within)
  where
    data_kept : (c : Coding) (size pos : ℕ) (p q : List ℕ) → IsPart size (Data p) → pos ≤ length (data_text c size p) → IsPart size (Data (p ++ q)) × (pos ≤ length (data_text c size (p ++ q))) × (take pos (data_text c size (p ++ q)) ≡ take pos (data_text c size p))
    data_kept Silent size pos p q part within = ((part.0, omega (arith, length-append p q)), within, refl)
    data_kept Plain size pos p q part within = ((part.0, omega (arith, length-append p q)), omega (arith, length-append p q), take-append-le pos p q within)
    data_kept Chunks size pos p q part within =
        let same : data_text Chunks size (p ++ q) ≡ data_text Chunks size p = ap (λ (l : List ℕ). chunk_line size ++ l ++ line_end) (take-append-le size p q part.1) in
        ((part.0, omega (arith, length-append p q)), subst (λ (t : List ℕ). pos ≤ length t) (sym same) within, ap (take pos) same)

begins_grown : (c : Coding) (at : Place) (pos size : ℕ) (left grown : List Block) (front text : List ℕ) → BeginsBlock c at pos size left front text → KeepsFront left grown → BeginsBlock c at pos size grown front text
begins_grown c at zero size left grown front text h keeps = h
begins_grown c at (suc pos) size [] grown front text h keeps = absurd h
begins_grown c at (suc pos) size (b ∷ bs) [] front text h keeps = absurd keeps
begins_grown c at (suc pos) size (b ∷ bs) (d ∷ ds) front text h keeps =
    let k = begins_kept c at size (suc pos) b d h.0 h.1 keeps in
    (k.0, k.1, h.2 ∙ ap (λ (l : List ℕ). front ++ l) (sym k.2))

stage_grown : (c : Coding) (at : Place) (s : Stage) (left grown : List Block) (front text : List ℕ) → Begins c at s left front text → ended_at s ≡ false → KeepsFront left grown → Begins c at s grown front text
stage_grown c at (stage.Block pos size) left grown front text h going keeps = begins_grown c at pos size left grown front text h keeps
stage_grown c at (stage.End pos) left grown front text h going keeps = absurd (not_true (sym going))
stage_grown c at stage.Done left grown front text h going keeps = absurd (not_true (sym going))

pub grown_told : (framing : Framing) (no_body : Bool) (taken left grown : List Block) (text : List ℕ) (writer : Writer) → HasWritten framing no_body taken left text writer → has_ended writer ≡ false → KeepsFront left grown → HasWritten framing no_body taken grown text writer
grown_told framing no_body taken left grown text writer h going keeps = record {
  front = h.front;
  coding = h.coding;
  spells = h.spells;
  begins = stage_grown writer.coding writer.place writer.stage left grown h.front text h.begins going keeps;
}

-- ---- blocks that keep the front

same_kept : (b : Block) → IsKept b b
same_kept (Data p) = ([], ap Data (sym (append-nil p)))
same_kept (RequestLine x y z) = refl
same_kept (ResponseLine x y z) = refl
same_kept (Header n v) = refl
same_kept EndHeaders = refl
same_kept (Trailer n v) = refl
same_kept EndTrailers = refl

pub keeps-append : (bs cs : List Block) → KeepsFront bs (bs ++ cs)
keeps-append [] cs = tt
keeps-append (b ∷ bs) cs = same_kept b

followed_keeps : (b : Block) (p : List ℕ) → KeepsFront (b ∷ []) (followed b p)
followed_keeps (Data q) p = (p, refl)
followed_keeps (RequestLine x y z) p = refl
followed_keeps (ResponseLine x y z) p = refl
followed_keeps (Header n v) p = refl
followed_keeps EndHeaders p = refl
followed_keeps (Trailer n v) p = refl
followed_keeps EndTrailers p = refl

extended_keeps : (bs : List Block) (p : List ℕ) → KeepsFront bs (extend_last bs p)
extended_keeps [] p = tt
extended_keeps (b ∷ []) p = followed_keeps b p
extended_keeps (b ∷ c ∷ bs) p = same_kept b

pub keeps-data : (bs : List Block) (p : List ℕ) → KeepsFront bs (append_data bs p)
keeps-data [] [] = tt
keeps-data (b ∷ bs) [] = same_kept b
keeps-data bs (x ∷ p) = extended_keeps bs (x ∷ p)
