-- What bytes make of what is asked so far.
use Rattle.std.proofs.Common.{◌≡◌, ℕ, ◌+◌, ◌-◌, ◌<◌, ◌≤◌, Bool, true, false, cond, Some, List, [], ◌∷◌, ◌++◌, length, take, drop, refl, sym, ap, subst, ◌∙◌, arith, append_assoc}
use Rattle.std.specs.List.{fold}
use Rattle.std.proofs.lemmas.List.{append-nil, length-append, length-take-le, take_at, drop_at, take-append-le, take-append-drop}
use Rattle.std.proofs.lemmas.Grind.{fold-append}
use Rattle.fcgi_model.specs.Application.{Application}
use Rattle.fcgi_model.specs.declared.refusal.Refusal.{Refusal}
use Rattle.fcgi_model.specs.Head.{ends_head, NoEnd}
use Rattle.fcgi_model.specs.Body.{Place, Goes, leads, adds, body_in}
use Rattle.fcgi_model.specs.Flow.{Asked, InHead, Behind, Refused, next, asked_behind, body_end, IsSent}
use Rattle.fcgi_lane.specs.Request.Stages.{place_of}
use Rattle.fcgi_lane.specs.Request.Sending.{Continues}
use Rattle.fcgi_lane.specs.Request.Opening.{IsOpened, IsHeadFed}
use Rattle.fcgi_lane.specs.declared.request.opening.Opened.{Opened}
use Rattle.fcgi_lane.specs.declared.request.opening.Opened.TheVariants as opened
use Rattle.fcgi_lane.specs.Request.Stands.{AtBody, Stopped, reading_of, IsNow}
use Rattle.fcgi_lane.proofs.RequestLemmas.Bodies.{carries_both}

-- ---- behind the head

pub refused_stays : (application : Application) (why : Refusal) (bytes : List ℕ) → fold (next application) (Refused why) bytes ≡ Refused why
refused_stays application why [] = refl
refused_stays application why (b ∷ bytes) = refused_stays application why bytes

body_grows : (application : Application) (front body : List ℕ) (at : Place) (bytes : List ℕ) → fold (next application) (Behind front body at) bytes ≡ Behind front (body ++ body_in at bytes) (fold leads at bytes)
body_grows application front body at [] = ap (λ (t : List ℕ). Behind front t at) (sym (append-nil body))
body_grows application front body at (b ∷ bytes) =
    let one : List ℕ = cond (adds at) (b ∷ []) [] in
    body_grows application front (body ++ one) (leads at b) bytes
    ∙ ap (λ (t : List ℕ). Behind front t (fold leads (leads at b) bytes)) (append_assoc body one (body_in (leads at b) bytes))

pub body_goes : (application : Application) (front body : List ℕ) (at to : Place) (bytes found : List ℕ) → Goes at bytes to found → fold (next application) (Behind front body at) bytes ≡ Behind front (body ++ found) to
body_goes application front body at to bytes found g =
    body_grows application front body at bytes
    ∙ ap (λ (t : List ℕ). Behind front (body ++ t) (fold leads at bytes)) g.found
    ∙ ap (Behind front (body ++ found)) g.place

-- ---- in the head

-- one byte more of a head
one_byte : (application : Application) (text : List ℕ) (b : ℕ) (bytes : List ℕ) (to : ℕ) → NoEnd (length text) to (text ++ b ∷ bytes) → length text + 1 < to → next application (InHead text) b ≡ InHead (text ++ b ∷ [])
one_byte application text b bytes to none fits =
    let size : length (text ++ b ∷ []) ≡ length text + 1 = length-append text (b ∷ []) in
    let same : take (length text + 1) (text ++ b ∷ bytes) ≡ text ++ b ∷ [] =
    ap (take (length text + 1)) (sym (append_assoc text (b ∷ []) bytes)) ∙ take_at (text ++ b ∷ []) bytes (length text + 1) size in
    let off : ends_head (text ++ b ∷ []) ≡ false = ap ends_head (sym same) ∙ none (length text + 1) (omega arith) fits in
    ap (λ (t : Bool). cond t (asked_behind application (text ++ b ∷ [])) (InHead (text ++ b ∷ []))) off

-- the same of the bytes behind it
none_behind : (text : List ℕ) (b : ℕ) (bytes : List ℕ) (to : ℕ) → NoEnd (length text) to (text ++ b ∷ bytes) → NoEnd (length (text ++ b ∷ [])) to ((text ++ b ∷ []) ++ bytes)
none_behind text b bytes to none k more less =
    ap (λ (t : List ℕ). ends_head (take k t)) (append_assoc text (b ∷ []) bytes) ∙ none k (omega (arith, more, length-append text (b ∷ []))) less

pub head_grows : (application : Application) (text bytes : List ℕ) → NoEnd (length text) (length (text ++ bytes) + 1) (text ++ bytes) → fold (next application) (InHead text) bytes ≡ InHead (text ++ bytes)
head_grows application text [] none = ap InHead (sym (append-nil text))
head_grows application text (b ∷ bytes) none =
    let size : length (text ++ b ∷ bytes) ≡ length text + length (b ∷ bytes) = length-append text (b ∷ bytes) in
    let same : (text ++ b ∷ []) ++ bytes ≡ text ++ b ∷ bytes = append_assoc text (b ∷ []) bytes in
    ap (λ (a : Asked). fold (next application) a bytes) (one_byte application text b bytes (length (text ++ b ∷ bytes) + 1) none (omega (arith, size)))
    ∙ head_grows application (text ++ b ∷ []) bytes (subst (λ (n : ℕ). NoEnd (length (text ++ b ∷ [])) (n + 1) ((text ++ b ∷ []) ++ bytes)) (sym (ap length same)) (none_behind text b bytes (length (text ++ b ∷ bytes) + 1) none))
    ∙ ap InHead same

pub head_ends : (application : Application) (text : List ℕ) (b : ℕ) (bytes : List ℕ) → NoEnd (length text) (length (text ++ b ∷ bytes)) (text ++ b ∷ bytes) → ends_head (text ++ b ∷ bytes) ≡ true
    → fold (next application) (InHead text) (b ∷ bytes) ≡ asked_behind application (text ++ b ∷ bytes)
head_ends application text b [] none ends = ap (λ (t : Bool). cond t (asked_behind application (text ++ b ∷ [])) (InHead (text ++ b ∷ []))) ends
head_ends application text b (c ∷ bytes) none ends =
    let size : length (text ++ b ∷ c ∷ bytes) ≡ length text + length (b ∷ c ∷ bytes) = length-append text (b ∷ c ∷ bytes) in
    let same : (text ++ b ∷ []) ++ c ∷ bytes ≡ text ++ b ∷ c ∷ bytes = append_assoc text (b ∷ []) (c ∷ bytes) in
    ap (λ (a : Asked). fold (next application) a (c ∷ bytes)) (one_byte application text b (c ∷ bytes) (length (text ++ b ∷ c ∷ bytes)) none (omega (arith, size)))
    ∙ head_ends application (text ++ b ∷ []) c bytes
    (subst (λ (n : ℕ). NoEnd (length (text ++ b ∷ [])) n ((text ++ b ∷ []) ++ c ∷ bytes)) (sym (ap length same)) (none_behind text b (c ∷ bytes) (length (text ++ b ∷ c ∷ bytes)) none))
    (ap ends_head same ∙ ends)
    ∙ ap (asked_behind application) same

-- ---- records of what is asked

sent_grows : (front stdin text given made : List ℕ) (from to : Place) → given ≡ front ++ (stdin ++ body_end from) → body_end from ++ made ≡ text ++ body_end to
    → given ++ made ≡ front ++ ((stdin ++ text) ++ body_end to)
sent_grows front stdin text given made from to was is =
    ap (λ (t : List ℕ). t ++ made) was
    ∙ append_assoc front (stdin ++ body_end from) made
    ∙ ap (λ (t : List ℕ). front ++ t) (append_assoc stdin (body_end from) made ∙ ap (λ (t : List ℕ). stdin ++ t) is ∙ sym (append_assoc stdin text (body_end to)))

body_place : (front body : List ℕ) (at place : Place) → reading_of (Behind front body at) ≡ AtBody place → at ≡ place
body_place front body at place e = cc

-- records of more of a body stand behind those so far
pub body_sent : (application : Application) (asked : Asked) (place to : Place) (bytes made sent : List ℕ) → Continues place bytes to made → reading_of asked ≡ AtBody place → IsSent asked sent
    → IsNow (fold (next application) asked bytes) (AtBody to) (sent ++ made)
body_sent application (InHead text) place to bytes made sent c at s = absurd cc
body_sent application (Refused why) place to bytes made sent c at s = absurd cc
body_sent application (Behind front body from) place to bytes made sent c at s =
    let same : from ≡ place = body_place front body from place at in
    let going : Goes from bytes to c.found = subst (λ (p : Place). Goes p bytes to c.found) (sym same) c.goes in
    let ends : body_end from ++ made ≡ c.text ++ body_end to = ap (λ (p : Place). body_end p ++ made) same ∙ c.is in
    subst (λ (a : Asked). IsNow a (AtBody to) (sent ++ made)) (sym (body_goes application front body from to bytes c.found going))
    (refl, (s.0 ++ c.text, carries_both body c.found s.0 c.text s.1 c.carries, sent_grows front s.0 c.text sent made from to s.2 ends))

-- ---- a head that is whole

cut_text : (application : Application) (old xs ys : List ℕ) (n : ℕ) → 0 < length xs → n ≡ length (old ++ xs) → ends_head (old ++ xs) ≡ true → NoEnd (length old) n (old ++ (xs ++ ys))
    → fold (next application) (InHead old) (xs ++ ys) ≡ fold (next application) (asked_behind application (old ++ xs)) ys
cut_text application old [] ys n some size ends none = absurd (omega (arith, some))
cut_text application old (x ∷ xs) ys n some size ends none =
    let front : NoEnd (length old) (length (old ++ x ∷ xs)) (old ++ x ∷ xs) = λ k more less.
    let same : take k (old ++ ((x ∷ xs) ++ ys)) ≡ take k (old ++ x ∷ xs) =
    ap (take k) (sym (append_assoc old (x ∷ xs) ys)) ∙ take-append-le k (old ++ x ∷ xs) ys (omega (arith, less)) in
    ap ends_head (sym same) ∙ none k more (omega (arith, less, size)) in
    fold-append (next application) (InHead old) (x ∷ xs) ys
    ∙ ap (λ (a : Asked). fold (next application) a ys) (head_ends application old x xs front ends)

pub head_cut : (application : Application) (old bytes : List ℕ) (end : ℕ) → length old < end → end ≤ length (old ++ bytes) → ends_head (take end (old ++ bytes)) ≡ true → NoEnd (length old) end (old ++ bytes)
    → fold (next application) (InHead old) bytes ≡ fold (next application) (asked_behind application (take end (old ++ bytes))) (drop end (old ++ bytes))
head_cut application old bytes end past fits ends none =
    let m : ℕ = end - length old in
    let sum : length old + m ≡ end = omega (arith, past) in
    let xs : List ℕ = take m bytes in
    let ys : List ℕ = drop m bytes in
    let all : xs ++ ys ≡ bytes = take-append-drop m bytes in
    let full : m ≤ length bytes = omega (arith, fits, length-append old bytes, sum) in
    let size : length xs ≡ m = length-take-le m bytes full in
    let count : length (old ++ xs) ≡ end = length-append old xs ∙ ap (λ (k : ℕ). length old + k) size ∙ sum in
    let text : old ++ bytes ≡ (old ++ xs) ++ ys = ap (λ (t : List ℕ). old ++ t) (sym all) ∙ sym (append_assoc old xs ys) in
    let front : take end (old ++ bytes) ≡ old ++ xs = ap (take end) text ∙ take_at (old ++ xs) ys end count in
    let rest : drop end (old ++ bytes) ≡ ys = ap (drop end) text ∙ drop_at (old ++ xs) ys end count in
    ap (fold (next application) (InHead old)) (sym all)
    ∙ cut_text application old xs ys end (omega (arith, size, past)) (sym count) (ap ends_head (sym front) ∙ ends)
    (subst (λ (t : List ℕ). NoEnd (length old) end (old ++ t)) (sym all) none)
    ∙ ap (λ (t : List ℕ). fold (next application) (asked_behind application t) ys) (sym front)
    ∙ ap (fold (next application) (asked_behind application (take end (old ++ bytes)))) (sym rest)

-- what is open, or refused, is what is asked behind the head and the bytes that follow it
pub opened_fed : (application : Application) (text rest head : List ℕ) (o : Opened) → IsOpened application text rest o → IsHeadFed (fold (next application) (asked_behind application text) rest) head (Some o)
opened_fed application text rest head (opened.Body stage left) (front, from, is, stands, opens) =
    let to : Place = place_of stage in
    let end : fold (next application) (asked_behind application text) rest ≡ Behind front opens.found to =
    ap (λ (a : Asked). fold (next application) a rest) is ∙ body_goes application front [] from to rest opens.found opens.goes in
    (stands, subst (λ (a : Asked). IsNow a (AtBody to) left.items) (sym end) (refl, (opens.text, opens.carries, opens.is)))
opened_fed application text rest head (opened.Refused why) is =
    let end : fold (next application) (asked_behind application text) rest ≡ Refused why = ap (λ (a : Asked). fold (next application) a rest) is ∙ refused_stays application why rest in
    subst (λ (a : Asked). IsNow a (Stopped why) []) (sym end) (refl, refl)
