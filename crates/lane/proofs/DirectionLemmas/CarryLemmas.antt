-- A message on its way through the two arrays.
use Rattle.std.proofs.Common.{◌≡◌, ℕ, ◌⊎◌, inl, inr, List, [], ◌++◌, Bool, true, false, refl, sym, ap, ◌∙◌, subst, append_assoc}
use Rattle.std.proofs.lemmas.List.{append-nil}
use Rattle.htx_model.specs.Block.{Block}
use Rattle.htx_model.specs.Blocks.{flow}
use Rattle.http_model.specs.Head.{Head, head_blocks}
use Rattle.h1_write.specs.declared.writer.Writer.{Writer}
use Rattle.h1_write.specs.Spelled.{HasWritten, Writes, has_ended}
use Rattle.http_model.specs.Head.{front_blocks, message_blocks}
use Rattle.htx_model.proofs.PublicLaws.{flow-append}
use Rattle.h1_write.proofs.PublicLaws.{grown_told}
use Rattle.lane.specs.Direction.Sent.{Sent, message_of}
use Rattle.lane.specs.Direction.Carried.{Carried, CarriesFront, Carries}
use Rattle.http_model.specs.declared.Source.{Source}
use Rattle.http_model.specs.declared.Source.TheVariants as source
use Rattle.lane.proofs.DirectionLemmas.FlowLemmas.{head_flow, flow-middle, flow_none, none_first, none_second}

-- ---- text is put out

carried_put : (old new : Writer) (left left' msg all : List Block) (into out took : List ℕ) (s : Sent) → Writes old left into new left' out
    → Carried old s (took ++ into) left msg all → Carried new s (took ++ out) left' msg all
carried_put old new left left' msg all into out took s puts c =
    let l = puts.leads s.framing s.no_body c.taken c.text c.has in
    record {
      taken = c.taken ++ l.0;
      text = c.text ++ puts.more;
      has = l.2;
      put_is = ap (λ (t : List ℕ). took ++ t) puts.items ∙ sym (append_assoc took into puts.more) ∙ ap (λ (t : List ℕ). t ++ puts.more) c.put_is ∙ append_assoc s.before c.text puts.more;
      flows = ap flow (append_assoc c.taken l.0 (left' ++ msg) ∙ ap (λ (bs : List Block). c.taken ++ bs) (sym (append_assoc l.0 left' msg)))
          ∙ flow-middle c.taken (l.0 ++ left') left msg l.1 ∙ c.flows;
    }

still_open : (b : Bool) → (b ≡ true → ⊥) → b ≡ false
still_open true h = absurd (h refl)
still_open false h = refl

front_put : (old new : Writer) (left left' msg : List Block) (into out : List ℕ) → Writes old left into new left' out → (has_ended new ≡ true → has_ended old ≡ true)
    → (s : Sent) (found took : List ℕ) → CarriesFront old s found (took ++ into) left msg → CarriesFront new s found (took ++ out) left' msg
front_put old new left left' msg into out puts ended s found took c = (
  still_open (has_ended new) (λ e. let both : true ≡ false = sym (ended e) ∙ c.0 in absurd (cc both)),
  carried_put old new left left' msg (front_blocks s.head found) into out took s puts c.1,
)

not_last : (src : Source) (msg : List Block) (last : Bool) (left' : List Block) (old new : Bool) → (new ≡ true → (old ≡ true) ⊎ ((last ≡ true) × (left' ≡ []))) → (last ≡ true → (src ≡ source.Whole) × (msg ≡ []))
    → (src ≡ source.Whole → ⊥) → new ≡ true → old ≡ true
not_last src msg last left' old new ended is other e = by (ended e)
  where
    by : (old ≡ true) ⊎ ((last ≡ true) × (left' ≡ [])) → old ≡ true
    by (inl was) = was
    by (inr h) = absurd (other (is h.0).0)

no_msg : (src : Source) (msg : List Block) (last : Bool) (left' : List Block) (old new : Bool) → (new ≡ true → (old ≡ true) ⊎ ((last ≡ true) × (left' ≡ []))) → (last ≡ true → (src ≡ source.Whole) × (msg ≡ []))
    → (old ≡ true → msg ≡ []) → new ≡ true → msg ≡ []
no_msg src msg last left' old new ended is before e = by (ended e)
  where
    by : (old ≡ true) ⊎ ((last ≡ true) × (left' ≡ [])) → msg ≡ []
    by (inl was) = before was
    by (inr h) = (is h.0).1

pub carries_put : (src : Source) (old new : Writer) (left left' msg : List Block) (last : Bool) (into out : List ℕ) → Writes old left into new left' out
    → (has_ended new ≡ true → (has_ended old ≡ true) ⊎ ((last ≡ true) × (left' ≡ []))) → (last ≡ true → (src ≡ source.Whole) × (msg ≡ []))
    → (s : Sent) (found section took : List ℕ)
    → Carries src old s found section (took ++ into) left msg → Carries src new s found section (took ++ out) left' msg
carries_put source.Going old new left left' msg last into out puts ended is s found section took c =
    front_put old new left left' msg into out puts (not_last source.Going msg last left' (has_ended old) (has_ended new) ended is (λ e. cc)) s found took c
carries_put (source.Cut code) old new left left' msg last into out puts ended is s found section took c =
    front_put old new left left' msg into out puts (not_last (source.Cut code) msg last left' (has_ended old) (has_ended new) ended is (λ e. cc)) s found took c
carries_put source.Whole old new left left' msg last into out puts ended is s found section took c = (
  c.0,
  c.1,
  carried_put old new left left' msg (message_blocks (message_of s found c.0)) into out took s puts c.2,
  no_msg source.Whole msg last left' (has_ended old) (has_ended new) ended is c.3,
)

-- ---- blocks go from one array to the other

carried_over : (w : Writer) (s : Sent) (put : List ℕ) (left left' msg msg' all : List Block) → left ≡ [] → has_ended w ≡ false → flow (left' ++ msg') ≡ flow (left ++ msg)
    → Carried w s put left msg all → Carried w s put left' msg' all
carried_over w s put left left' msg msg' all none going e c = record {
  taken = c.taken;
  text = c.text;
  put_is = c.put_is;
  has = grown_told s.framing s.no_body c.taken [] left' c.text w (subst (λ (bs : List Block). HasWritten s.framing s.no_body c.taken bs c.text w) none c.has) going tt;
  flows = flow-append c.taken (left' ++ msg') (left ++ msg) e ∙ c.flows;
}

-- where nothing is left, nothing moves
none_over : (left left' msg msg' : List Block) → left ≡ [] → msg ≡ [] → flow (left' ++ msg') ≡ flow (left ++ msg) → left' ++ msg' ≡ []
none_over left left' msg msg' none empty e =
    flow_none (left' ++ msg') (e ∙ ap flow ((λ i. none i ++ empty i)))

whole_over : (ended : Bool) (w : Writer) (s : Sent) (put : List ℕ) (left left' msg msg' all : List Block) → ended ≡ has_ended w → left ≡ [] → flow (left' ++ msg') ≡ flow (left ++ msg) → (has_ended w ≡ true → msg ≡ [])
    → Carried w s put left msg all → Carried w s put left' msg' all
whole_over false w s put left left' msg msg' all is none e empty c = carried_over w s put left left' msg msg' all none (sym is) e c
whole_over true w s put left left' msg msg' all is none e empty c =
    let gone = none_over left left' msg msg' none (empty (sym is)) e in
    let left_is : left ≡ left' = none ∙ sym (none_first left' msg' gone) in
    record {
      taken = c.taken;
      text = c.text;
      put_is = c.put_is;
      has = subst (λ (bs : List Block). HasWritten s.framing s.no_body c.taken bs c.text w) left_is c.has;
      flows = flow-append c.taken (left' ++ msg') (left ++ msg) e ∙ c.flows;
    }

pub carries_over : (src : Source) (w : Writer) (s : Sent) (found section put : List ℕ) (left left' msg msg' : List Block) → left ≡ [] → flow (left' ++ msg') ≡ flow (left ++ msg)
    → Carries src w s found section put left msg → Carries src w s found section put left' msg'
carries_over source.Going w s found section put left left' msg msg' none e c = (c.0, carried_over w s put left left' msg msg' (front_blocks s.head found) none c.0 e c.1)
carries_over (source.Cut code) w s found section put left left' msg msg' none e c = (c.0, carried_over w s put left left' msg msg' (front_blocks s.head found) none c.0 e c.1)
carries_over source.Whole w s found section put left left' msg msg' none e c = (
  c.0,
  c.1,
  whole_over (has_ended w) w s put left left' msg msg' (message_blocks (message_of s found c.0)) refl none e c.3 c.2,
  λ ended. none_second left' msg' (none_over left left' msg msg' none (c.3 ended) e),
)

-- ---- the body ends

-- it is whole here, without trailers
pub carries_closed : (w : Writer) (s : Sent) (found put : List ℕ) (left msg : List Block) → CarriesFront w s found put left msg → Carries source.Whole w s found [] put left msg
carries_closed w s found put left msg c = (
  [],
  inl (refl, refl),
  record { taken = c.1.taken; text = c.1.text; put_is = c.1.put_is; has = c.1.has; flows = c.1.flows ∙ sym (append-nil (front_blocks s.head found)) },
  λ e. let both : true ≡ false = sym e ∙ c.0 in absurd (cc both),
)

-- a head that stands in the first array, with the front of its body, is carried
pub carries_head : (w : Writer) (s : Sent) (put : List ℕ) (left msg : List Block) → has_ended w ≡ false → ((bs : List Block) → HasWritten s.framing s.no_body [] bs [] w) → put ≡ s.before → left ≡ [] → flow msg ≡ front_blocks s.head s.given
    → CarriesFront w s s.given put left msg
carries_head w s put left msg going has none empty is = (
  going,
  record {
    taken = [];
    text = [];
    has = has left;
    put_is = none ∙ sym (append-nil s.before);
    flows = ap (λ (bs : List Block). flow (bs ++ msg)) empty ∙ is;
  },
)

-- the blocks of a head are those of a message whose body hasn't come
pub head_front : (msg : List Block) (head : Head) → msg ≡ head_blocks head → flow msg ≡ front_blocks head []
head_front msg head is = ap flow is ∙ ap flow (sym (append-nil (head_blocks head))) ∙ head_flow head []
