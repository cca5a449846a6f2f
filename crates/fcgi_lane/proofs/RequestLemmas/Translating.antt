-- What a translator of requests stands for, call by call.
use Rattle.std.proofs.Common.{◌≡◌, ℕ, List, [], ◌∷◌, ◌++◌, take, drop, refl, sym, ap, subst, ◌∙◌, append_assoc}
use Rattle.std.specs.List.{fold}
use Rattle.std.proofs.lemmas.List.{take-append-drop}
use Rattle.std.proofs.lemmas.Grind.{fold-append}
use Rattle.fcgi_model.specs.Application.{Application}
use Rattle.fcgi_model.specs.declared.refusal.Refusal.{Refusal}
use Rattle.fcgi_model.specs.Body.{Place}
use Rattle.fcgi_model.specs.Flow.{Asked, InHead, Behind, Refused, next, asked_of}
use Rattle.fcgi_lane.specs.Request.Sending.{Continues}
use Rattle.fcgi_lane.specs.Request.Stands.{Reading, AtHead, AtBody, Stopped, IsNow, Translating, Stands}
use Rattle.fcgi_lane.proofs.RequestLemmas.Feeding.{refused_stays, body_sent}

abbrev pub at : (application : Application) → Reading → (left : List ℕ) → Translating
at application reading left = record { application = application; at = reading; left = left }

-- more bytes go on from what was asked
pub asked_more : (application : Application) (taken bytes : List ℕ) → asked_of application (taken ++ bytes) ≡ fold (next application) (asked_of application taken) bytes
asked_more application taken bytes = fold-append (next application) (InHead []) taken bytes

-- ---- in the head

same_text : (a b : List ℕ) → AtHead a ≡ AtHead b → a ≡ b
same_text a b e = cc

head_asked : (asked : Asked) (text sent : List ℕ) → IsNow asked (AtHead text) sent → (asked ≡ InHead text) × (sent ≡ [])
head_asked (InHead t) text sent now = (ap InHead (same_text t text now.0), now.1)
head_asked (Behind front body place) text sent now = let e = now.0 in absurd cc
head_asked (Refused why) text sent now = let e = now.0 in absurd cc

nothing : (given left : List ℕ) → given ++ left ≡ [] → (given ≡ []) × (left ≡ [])
nothing [] left e = (refl, e)
nothing (b ∷ given) left e = absurd cc

-- what more bytes of a head ask
head_more : (application : Application) (text left bytes given taken : List ℕ) → Stands (at application (AtHead text) left) given taken
    → (asked_of application (taken ++ bytes) ≡ fold (next application) (InHead text) bytes) × (given ≡ []) × (left ≡ [])
head_more application text left bytes given taken s =
    let h = head_asked (asked_of application taken) text (given ++ left) s.now in
    let none = nothing given left h.1 in
    (asked_more application taken bytes ∙ ap (λ (a : Asked). fold (next application) a bytes) h.0, none.0, none.1)

pub head_fed : (old : Translating) (application : Application) (text left bytes made : List ℕ) (to : Reading) → old ≡ at application (AtHead text) left → IsNow (fold (next application) (InHead text) bytes) to made
    → (given taken : List ℕ) → Stands old given taken → Stands (at application to made) given (taken ++ bytes)
head_fed old application text left bytes made to same now given taken s =
    let h = head_more application text left bytes given taken (subst (λ (t : Translating). Stands t given taken) same s) in
    let all : IsNow (asked_of application (taken ++ bytes)) to made = subst (λ (a : Asked). IsNow a to made) (sym h.0) now in
    record { now = subst (λ (g : List ℕ). IsNow (asked_of application (taken ++ bytes)) to (g ++ made)) (sym h.1) all }

-- nothing is left to give
pub head_still : (old : Translating) (application : Application) (text left bytes : List ℕ) (to : Reading) → old ≡ at application (AtHead text) left → IsNow (fold (next application) (InHead text) bytes) to []
    → (given taken : List ℕ) → Stands old given taken → Stands (at application to left) given (taken ++ bytes)
head_still old application text left bytes to same now given taken s =
    let h = head_more application text left bytes given taken (subst (λ (t : Translating). Stands t given taken) same s) in
    subst (λ (l : List ℕ). Stands (at application to l) given (taken ++ bytes)) (sym h.2) (head_fed old application text left bytes [] to same now given taken s)

-- ---- behind it

pub body_fed : (old : Translating) (application : Application) (left bytes made all : List ℕ) (place to : Place) → old ≡ at application (AtBody place) left → Continues place bytes to made → all ≡ left ++ made
    → (given taken : List ℕ) → Stands old given taken → Stands (at application (AtBody to) all) given (taken ++ bytes)
body_fed old application left bytes made all place to same more is given taken s =
    let was : Stands (at application (AtBody place) left) given taken = subst (λ (t : Translating). Stands t given taken) same s in
    let sent : IsNow (fold (next application) (asked_of application taken) bytes) (AtBody to) ((given ++ left) ++ made) =
    body_sent application (asked_of application taken) place to bytes made (given ++ left) more was.now.0 was.now.1 in
    let joined : (given ++ left) ++ made ≡ given ++ all = append_assoc given left made ∙ ap (λ (t : List ℕ). given ++ t) (sym is) in
    record { now = subst (λ (t : List ℕ). IsNow (asked_of application (taken ++ bytes)) (AtBody to) t) joined (subst (λ (a : Asked). IsNow a (AtBody to) ((given ++ left) ++ made)) (sym (asked_more application taken bytes)) sent) }

stopped_more : (application : Application) (asked : Asked) (why : Refusal) (bytes sent : List ℕ) → IsNow asked (Stopped why) sent → IsNow (fold (next application) asked bytes) (Stopped why) sent
stopped_more application (InHead t) why bytes sent now = let e = now.0 in absurd cc
stopped_more application (Behind front body place) why bytes sent now = let e = now.0 in absurd cc
stopped_more application (Refused because) why bytes sent now = subst (λ (a : Asked). IsNow a (Stopped why) sent) (sym (refused_stays application because bytes)) now

pub stopped_fed : (old : Translating) (application : Application) (left bytes : List ℕ) (why : Refusal) → old ≡ at application (Stopped why) left
    → (given taken : List ℕ) → Stands old given taken → Stands (at application (Stopped why) left) given (taken ++ bytes)
stopped_fed old application left bytes why same given taken s =
    let was : Stands (at application (Stopped why) left) given taken = subst (λ (t : Translating). Stands t given taken) same s in
    record { now = subst (λ (a : Asked). IsNow a (Stopped why) (given ++ left)) (sym (asked_more application taken bytes)) (stopped_more application (asked_of application taken) why bytes (given ++ left) was.now) }

-- ---- what was given

pub front_given : (old : Translating) (application : Application) (left rest : List ℕ) (to : Reading) (n : ℕ) → old ≡ at application to left → rest ≡ drop n left
    → (given taken : List ℕ) → Stands old given taken → Stands (at application to rest) (given ++ take n old.left) taken
front_given old application left rest to n same is given taken s =
    let was : Stands (at application to left) given taken = subst (λ (t : Translating). Stands t given taken) same s in
    let split : given ++ left ≡ (given ++ take n left) ++ drop n left = ap (λ (t : List ℕ). given ++ t) (sym (take-append-drop n left)) ∙ sym (append_assoc given (take n left) (drop n left)) in
    let now : Stands (at application to (drop n left)) (given ++ take n left) taken = record { now = subst (λ (t : List ℕ). IsNow (asked_of application taken) to t) split was.now } in
    subst (λ (l : List ℕ). Stands (at application to l) (given ++ take n old.left) taken) (sym is)
    (subst (λ (l : List ℕ). Stands (at application to (drop n left)) (given ++ take n l) taken) (sym (ap (λ (t : Translating). t.left) same)) now)
