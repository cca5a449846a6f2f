-- What is left of an answer is the same over any cut.
use Rattle.std.proofs.Common.{◌≡◌, ℕ, Bool, List, [], ◌++◌, Option, Some, None, true, false, refl, sym, ap, ◌∙◌, cond, take, drop, append_assoc, subst}
use Rattle.std.specs.List.{fold}
use Rattle.std.proofs.lemmas.List.{append-nil, take-append-drop}
use Rattle.http_model.specs.declared.Ending.TheVariants.{Closed, Broke}
use Rattle.fcgi_lane.specs.Answer.Flow.{Flow, Place, InRecord, InOutput, Skipping, InEnd, Over, Faulty, Passes, fresh, next, output_in, is_going, is_over}
use Rattle.fcgi_lane.specs.Answer.Head.{Headed, head_at}
use Rattle.fcgi_lane.specs.Answer.Cgi.{HttpStream, HeadAt, InHead, Behind, NoHead, left_of, stream_by, no_stream, cgi_of, ending_at}
use Rattle.fcgi_lane.specs.Answer.Stands.{Translating, Stands, left_in, ready_in, behind_given}
use Rattle.fcgi_lane.proofs.AnswerLemmas.Heads.{head_more}
use Rattle.fcgi_lane.proofs.AnswerLemmas.Passing.{stopped_by}

abbrev stream : List ℕ → Place → HttpStream
stream bytes place = record { bytes = bytes; ending = ending_at place }

abbrev pub at : (limit : ℕ) → HeadAt → Flow → Translating
at limit head flow = record { limit = limit; head = head; flow = flow }

-- the head with this output behind what it has
abbrev pub grown : HeadAt → List ℕ → HeadAt
grown (InHead text) out = InHead (text ++ out)
grown (Behind left) out = Behind (left ++ out)
grown NoHead out = NoHead

-- ---- what is left, over any cut

left_in_head : (limit : ℕ) (text xs out rest : List ℕ) (a b : Flow) → Passes a xs b out → left_of limit (InHead text) a (xs ++ rest) ≡ left_of limit (InHead (text ++ out)) b rest
left_in_head limit text xs out rest a b h =
    ap (λ (o : List ℕ). stream_by (head_at limit (text ++ o)) (fold next a (xs ++ rest)).place) (h.output rest)
    ∙ ap (λ (t : List ℕ). stream_by (head_at limit t) (fold next a (xs ++ rest)).place) (sym (append_assoc text out (output_in b rest)))
    ∙ ap (stream_by (head_at limit ((text ++ out) ++ output_in b rest))) (h.place rest)

left_behind : (limit : ℕ) (left xs out rest : List ℕ) (a b : Flow) → Passes a xs b out → left_of limit (Behind left) a (xs ++ rest) ≡ left_of limit (Behind (left ++ out)) b rest
left_behind limit left xs out rest a b h =
    ap (λ (o : List ℕ). stream (left ++ o) (fold next a (xs ++ rest)).place) (h.output rest)
    ∙ ap (λ (t : List ℕ). stream t (fold next a (xs ++ rest)).place) (sym (append_assoc left out (output_in b rest)))
    ∙ ap (stream ((left ++ out) ++ output_in b rest)) (h.place rest)

pub left_grown : (limit : ℕ) (head : HeadAt) (xs out rest : List ℕ) (a b : Flow) → Passes a xs b out → left_of limit head a (xs ++ rest) ≡ left_of limit (grown head out) b rest
left_grown limit (InHead text) xs out rest a b h = left_in_head limit text xs out rest a b h
left_grown limit (Behind left) xs out rest a b h = left_behind limit left xs out rest a b h
left_grown limit NoHead xs out rest a b h = refl

-- once the head is whole, it and the output behind it are what is left
head_begins : (limit : ℕ) (text rest : List ℕ) (flow : Flow) (h : Headed) → head_at limit text ≡ Some h → left_of limit (InHead text) flow rest ≡ left_of limit (Behind (h.0 ++ h.1)) flow rest
head_begins limit text rest flow h e =
    ap (λ (r : Option Headed). stream_by r (fold next flow rest).place) (head_more limit text (output_in flow rest) h e)
    ∙ ap (λ (t : List ℕ). stream t (fold next flow rest).place) (sym (append_assoc h.0 h.1 (output_in flow rest)))

-- ---- what a translator stands for

pub stands_new : (limit : ℕ) → Stands (at limit (InHead []) fresh) [] []
stands_new limit = record { all = λ rest. refl }

pub stands_fed : (limit : ℕ) (head : HeadAt) (xs out given bytes : List ℕ) (a b : Flow) → Passes a xs b out → Stands (at limit head a) given bytes
    → Stands (at limit (grown head out) b) given (bytes ++ xs)
stands_fed limit head xs out given bytes a b h s = record {
  all = λ rest. ap (cgi_of limit) (append_assoc bytes xs rest) ∙ s.all (xs ++ rest) ∙ ap (behind_given given) (left_grown limit head xs out rest a b h);
}

pub stands_begun : (limit : ℕ) (text given bytes : List ℕ) (flow : Flow) (h : Headed) → head_at limit text ≡ Some h → Stands (at limit (InHead text) flow) given bytes
    → Stands (at limit (Behind (h.0 ++ h.1)) flow) given bytes
stands_begun limit text given bytes flow h e s = record { all = λ rest. s.all rest ∙ ap (behind_given given) (head_begins limit text rest flow h e) }

-- no head can come
pub stands_bad : (limit : ℕ) (text given bytes : List ℕ) (flow : Flow) → ((rest : List ℕ) → head_at limit (text ++ rest) ≡ None) → Stands (at limit (InHead text) flow) given bytes
    → Stands (at limit NoHead flow) given bytes
stands_bad limit text given bytes flow none s = record {
  all = λ rest. s.all rest
      ∙ ap (λ (r : Option Headed). behind_given given (stream_by r (fold next flow rest).place)) (none (output_in flow rest));
}

-- the request has ended in front of the end of its head
pub stands_ended : (limit : ℕ) (text given bytes : List ℕ) (flow : Flow) → is_going flow.place ≡ false → head_at limit text ≡ None → Stands (at limit (InHead text) flow) given bytes
    → Stands (at limit NoHead flow) given bytes
stands_ended limit text given bytes flow over none s = record {
  all = λ rest.
      let nothing : output_in flow rest ≡ [] = (stopped_by flow.place flow.shut flow.idle over rest).0 in
      s.all rest
      ∙ ap (λ (o : List ℕ). behind_given given (stream_by (head_at limit (text ++ o)) (fold next flow rest).place)) nothing
      ∙ ap (λ (t : List ℕ). behind_given given (stream_by (head_at limit t) (fold next flow rest).place)) (append-nil text)
      ∙ ap (λ (r : Option Headed). behind_given given (stream_by r (fold next flow rest).place)) none;
}

-- what was given is no longer left
pub stands_given : (limit : ℕ) (front left given bytes : List ℕ) (flow : Flow) → Stands (at limit (Behind (front ++ left)) flow) given bytes
    → Stands (at limit (Behind left) flow) (given ++ front) bytes
stands_given limit front left given bytes flow s = record {
  all = λ rest. s.all rest
      ∙ ap (λ (t : List ℕ). stream (given ++ t) (fold next flow rest).place) (append_assoc front left (output_in flow rest))
      ∙ ap (λ (t : List ℕ). stream t (fold next flow rest).place) (sym (append_assoc given front (left ++ output_in flow rest)));
}

-- ---- what is left at an end

pub left_stopped : (limit : ℕ) (left rest : List ℕ) (flow : Flow) → is_going flow.place ≡ false → left_of limit (Behind left) flow rest ≡ record { bytes = left; ending = ending_at flow.place }
left_stopped limit left rest flow h =
    let s = stopped_by flow.place flow.shut flow.idle h rest in
    ap (λ (o : List ℕ). stream (left ++ o) (fold next flow rest).place) s.0 ∙ ap (λ (t : List ℕ). stream t (fold next flow rest).place) (append-nil left) ∙ ap (stream left) s.1

over_goes_not : (place : Place) → is_going place ≡ true → is_over place ≡ false
over_goes_not Over h = absurd cc
over_goes_not (InRecord head) h = refl
over_goes_not (InOutput left pad) h = refl
over_goes_not (Skipping left) h = refl
over_goes_not (InEnd behind) h = refl
over_goes_not Faulty h = refl

-- the application's bytes end while the request goes on
pub left_cut : (limit : ℕ) (left : List ℕ) (flow : Flow) → is_going flow.place ≡ true → left_of limit (Behind left) flow [] ≡ record { bytes = left; ending = Broke }
left_cut limit left flow h =
    ap (λ (t : List ℕ). stream t flow.place) (append-nil left)
    ∙ ap (λ (t : Bool). record { bytes = left; ending = cond t Closed Broke }) (over_goes_not flow.place h)

pub left_unheaded : (limit : ℕ) (text : List ℕ) (flow : Flow) → head_at limit text ≡ None → left_of limit (InHead text) flow [] ≡ no_stream
left_unheaded limit text flow none =
    ap (λ (t : List ℕ). stream_by (head_at limit t) flow.place) (append-nil text) ∙ ap (λ (r : Option Headed). stream_by r flow.place) none

-- ---- what the calls of a translator do, by what it was

pub made : (old : Translating) (limit : ℕ) (text items http : List ℕ) (flow : Flow) (h : Headed) → old ≡ at limit (InHead items) flow → text ≡ items → head_at limit text ≡ Some h → http ≡ h.0 ++ h.1
    → (given taken : List ℕ) → Stands old given taken → Stands (at limit (Behind http) flow) given taken
made old limit text items http flow h same shown found is given taken s =
    subst (λ (t : List ℕ). Stands (at limit (Behind t) flow) given taken) (sym is)
    (stands_begun limit items given taken flow h (ap (head_at limit) (sym shown) ∙ found) (subst (λ (t : Translating). Stands t given taken) same s))

pub ended : (old : Translating) (limit : ℕ) (text items : List ℕ) (flow : Flow) → old ≡ at limit (InHead items) flow → text ≡ items → head_at limit text ≡ None → is_going flow.place ≡ false
    → (given taken : List ℕ) → Stands old given taken → Stands (at limit NoHead flow) given taken
ended old limit text items flow same shown none over given taken s =
    stands_ended limit items given taken flow over (ap (head_at limit) (sym shown) ∙ none) (subst (λ (t : Translating). Stands t given taken) same s)

pub dropped : (old : Translating) (limit n : ℕ) (items : List ℕ) (flow : Flow) (head : HeadAt) → old ≡ at limit (Behind items) flow → Behind (drop n items) ≡ head
    → (given taken : List ℕ) → Stands old given taken → Stands (at limit head flow) (given ++ take n (ready_in old.head)) taken
dropped old limit n items flow head same is given taken s =
    let was : Stands (at limit (Behind (take n items ++ drop n items)) flow) given taken =
    subst (λ (t : List ℕ). Stands (at limit (Behind t) flow) given taken) (sym (take-append-drop n items)) (subst (λ (t : Translating). Stands t given taken) same s) in
    subst (λ (h : HeadAt). Stands (at limit h flow) (given ++ take n (ready_in old.head)) taken) is
    (subst (λ (t : Translating). Stands (at limit (Behind (drop n items)) flow) (given ++ take n (ready_in t.head)) taken) (sym same)
    (stands_given limit (take n items) (drop n items) given taken flow was))

pub left_at_end : (old : Translating) (limit : ℕ) (items : List ℕ) (flow : Flow) (over : Bool) → old ≡ at limit (Behind items) flow → is_going flow.place ≡ false → is_over flow.place ≡ over
    → (rest : List ℕ) → left_in old rest ≡ record { bytes = ready_in old.head; ending = cond over Closed Broke }
left_at_end old limit items flow over same stopped is rest =
    subst (λ (t : Translating). left_in t rest ≡ record { bytes = ready_in t.head; ending = cond over Closed Broke }) (sym same)
    (left_stopped limit items rest flow stopped ∙ ap (λ (t : Bool). record { bytes = items; ending = cond t Closed Broke }) is)
