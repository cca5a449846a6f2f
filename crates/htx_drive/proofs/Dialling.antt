-- A connect more, and what the net tells of it.
use Rattle.std.proofs.Common.{◌≡◌, ℕ, ◌+◌, ◌≤◌, inl, inr, List, [], ◌∷◌, ◌++◌, Bool, true, false, ◌||◌, ◌&&◌, Option, Some, None, length, map, sum_by, if◌then◌else◌, sym, ap, subst, ◌∙◌, refl, append_assoc, arith, is_some, ◌==◌, eq-eqb, Result, Ok, Err}
use Rattle.std.proofs.lemmas.List.{append-nil, map-append}
use Rattle.std.proofs.lemmas.Grind.{flat_map-append}
use Rattle.std.proofs.lemmas.List.Folds.{list_any-append}
use Rattle.std.specs.Str.{bytes_eq}
use Rattle.std.proofs.lemmas.Slice.Eq.{bytes_eq-Decides}
use Rattle.std.specs.List.{flat_map, AllByRecursion, list_any}
use Rattle.http_model.specs.declared.Close.{Close}
use Rattle.px_link.specs.Link.{Seen, Takes, Untold, UpTo, All, Manner, PassesOn, WithinTakes, closed_by, counted}
use Rattle.px_link.specs.Net.{Place, NetSeen, Coming, Kept, kept_link, has_failed, new_link, KeepsMore, Keeps, IsFirst, LosesRefused, RefusesOnly, Connected, Refused, NoMemory, with_address, is_among, same_address}
use Rattle.session_core.specs.History.{Past, Connect, connected, no_stream}
use Rattle.session_core.specs.History as history
use Rattle.htx_drive.specs.Came.{Came, Put, size_of}
use Rattle.htx_drive.specs.Driven.{Linked, moved, moved_by, Ends, failed_by}
use Rattle.htx_drive.specs.Dialled.{Dial, KeptSo, IsServed, IsDial, IsDialBy, Chain, Told, Dials, Dialled, Returned, SameComing, closed_how, IsPlain, Served, Goes}
use Rattle.htx_drive.specs.declared.SessionFault.{SessionFault}
use Rattle.htx_drive.proofs.Handing.{moved_before}
use Rattle.htx_drive.proofs.Reading.{ends_same}
use Rattle.htx_drive.proofs.Refusals.{counts_found, counts_refused, counts_same}
use Rattle.htx_drive.proofs.Writing.{fails_same}

-- ---- a link that has just come

pub came_fresh : (s : Seen) → Came s s no_stream
came_fresh s =
    record {
      kind = record { ending = refl; plain = refl; takes = refl; manner = refl };
      bytes = λ xs e. record { rest = xs; bytes = refl; to_come = e; closed = λ f. cc; broke = λ p f. cc };
      taken = λ k e. let z : k ≡ counted k 0 = omega arith in e ∙ ap (λ n. Some n) z;
      ended = refl;
    }

none_within : (t : Takes) → WithinTakes t 0
none_within Untold = tt
none_within (UpTo n) = omega arith
none_within All = tt

pub put_fresh : (W : List ℕ → Type 0) (s : Seen) → Put W W s s [] false
put_fresh W s = record { wrote = λ bs x. subst W (sym (append-nil bs)) x; limit = λ x. none_within s.takes; full = λ x e. cc; fails = refl }

pub linked_fresh : {L : Type 0} (seen : L → Seen) (wrote : L → List ℕ → Type 0) (link : L) → Linked seen wrote link link (connected true)
linked_fresh seen wrote link = record { there = refl; unclosed = refl; came = came_fresh (seen link); put = put_fresh (wrote link) (seen link); closed = refl }

-- ---- a link that is closed and kept

pub came_shut : (first s t : Seen) (x : Option (Option Close)) (came : history.Coming) → t ≡ record s { closed = x } → Came first s came → Came first t came
came_shut first s t x came e h =
    let P : Seen → Type 0 = λ t. Came first t came in
    subst P (sym e) (record {
      kind = record { ending = h.kind.ending; plain = h.kind.plain; takes = h.kind.takes; manner = h.kind.manner };
      bytes = λ xs k. let o = h.bytes xs k in record { rest = o.rest; bytes = o.bytes; to_come = o.to_come; closed = o.closed; broke = o.broke };
      taken = h.taken;
      ended = ends_same first s (record s { closed = x }) came.ending refl h.ended;
    })

-- where kept links are told
kept_more : (old new : Option (List Kept)) (wrote : List ℕ → Type 0) (link : Seen) (ks : List Kept) → old ≡ Some ks → KeepsMore old new wrote link → KeepsMore (Some ks) new wrote link
kept_more old new wrote link ks e h = let P : Option (List Kept) → Type 0 = λ o. KeepsMore o new wrote link in subst P e h

pub returned : {L : Type 0} (seen : L → Seen) (wrote : L → List ℕ → Type 0) (link last shut : L) (old new : NetSeen) (c : Connect) (how : Close) (closed : Option Close)
    → Linked seen wrote link last c → seen shut ≡ record (seen last) { closed = closed_by (seen last).closed how } → ((bs : List ℕ) → wrote last bs → wrote shut bs)
    → Keeps (wrote shut) old new (seen shut) → closed_how closed ≡ how → Returned seen wrote link old new (record c { closed = closed })
returned seen wrote link last shut old new c how closed h e w k is =
    record {
      kept = λ ks unwritten open_yet told.
          let m = kept_more old.kept new.kept (wrote shut) (seen shut) ks told k.kept in
          let came : Came (seen link) (seen shut) c.stream = came_shut (seen link) (seen last) (seen shut) _ c.stream e h.came in
          let P : Manner → Type 0 = λ manner. PassesOn manner (has_failed (seen shut)) m.0 c.taken in (
            kept_link (seen shut) m.0,
            m.1,
            record {
              last = seen shut;
              is = refl;
              came = came;
              wrote = subst P came.kind.manner (m.2 c.taken (w c.taken (h.put.wrote [] unwritten)));
              limit = h.put.limit unwritten;
              full = h.put.full unwritten;
              fails = fails_same (seen link) (seen last) (seen shut) c.stopped (ap (λ (s : Seen). s.write_faults) e) h.put.fails;
              closed = ap (λ (s : Seen). s.closed) e ∙ ap (λ o. closed_by o how) (h.closed ∙ open_yet) ∙ ap (λ x. Some (Some x)) (sym is);
            },
          );
      lent = k.lent;
      answers = k.answers;
      manner = k.manner;
      plain = k.plain;
      coming = record { accepts = k.accepts; bound = k.bound; binds = k.binds };
      dialled = k.dialled;
      connects = k.connects;
    }

same_coming : (first old new : NetSeen) → SameComing first old → SameComing old new → SameComing first new
same_coming first old new h k = record { accepts = k.accepts ∙ h.accepts; bound = k.bound ∙ h.bound; binds = k.binds ∙ h.binds }

-- ---- addresses

same_self : (a : Place) → same_address a a ≡ true
same_self a =
    let e : bytes_eq a.0 a.0 ≡ true = (bytes_eq-Decides a.0 a.0).1 refl in
    ap (λ b. b && (a.1 == a.1)) e ∙ eq-eqb a.1 a.1 refl

last_or : (a b : Bool) → b ≡ true → (a || (b || false)) ≡ true
last_or true b e = refl
last_or false true e = refl
last_or false false e = e

among_last : (l : List Place) (to : Place) → is_among to (l ++ to ∷ []) ≡ true
among_last l to =
    let p : Place → Bool = λ b. same_address b to in
    list_any-append p l (to ∷ []) ∙ last_or (list_any p l) (p to) (same_self to)

twice_by : (b : Bool) (l : List Place) (to : Place) → is_among to l ≡ b → with_address (with_address l to) to ≡ with_address l to
twice_by true l to e = let f : with_address l to ≡ l = ap (λ b. if b then l else l ++ to ∷ []) e in ap (λ x. with_address x to) f
twice_by false l to e =
    let f : with_address l to ≡ l ++ to ∷ [] = ap (λ b. if b then l else l ++ to ∷ []) e in
    ap (λ x. with_address x to) f ∙ ap (λ b. if b then l ++ to ∷ [] else (l ++ to ∷ []) ++ to ∷ []) (among_last l to) ∙ sym f

with_twice : (l : List Place) (to : Place) → with_address (with_address l to) to ≡ with_address l to
with_twice l to = twice_by (is_among to l) l to refl

dialled_on : (first old new : List Place) (to : Place) → Dialled first old to → Dialled old new to → Dialled first new to
dialled_on first old new to (inl e) (inl f) = inl (f ∙ e)
dialled_on first old new to (inr e) (inl f) = inr (f ∙ e)
dialled_on first old new to (inl e) (inr f) = inr (f ∙ ap (λ l. with_address l to) e)
dialled_on first old new to (inr e) (inr f) = inr (f ∙ ap (λ l. with_address l to) e ∙ with_twice first to)

-- ---- lists of connects

chain_more : (coming : List (Option Coming)) (ds : List Dial) (left : List (Option Coming)) (d : Dial) → Chain coming ds left → d.answers ≡ left → Chain coming (ds ++ d ∷ []) d.left
chain_more coming [] left d h e = (e ∙ sym h, refl)
chain_more coming (b ∷ ds) left d h e = (h.0, chain_more b.left ds left d h.1 e)

all_more : (P : Dial → Type 0) (ds : List Dial) (d : Dial) → AllByRecursion P ds → P d → AllByRecursion P (ds ++ d ∷ [])
all_more P [] d h p = (p, tt)
all_more P (b ∷ ds) d h p = (h.0, all_more P ds d h.1 p)

connects_more : (ds : List Dial) (cs : List Connect) (d : Dial) → map (λ (d : Dial). d.connect) ds ≡ cs → map (λ (d : Dial). d.connect) (ds ++ d ∷ []) ≡ cs ++ d.connect ∷ []
connects_more ds cs d e = map-append (λ (d : Dial). d.connect) ds (d ∷ []) ∙ ap (λ l. l ++ d.connect ∷ []) e

keeps_more : (ks : List Kept) (ds : List Dial) (d : Dial) → (ks ++ flat_map (λ (d : Dial). d.kept) ds) ++ d.kept ≡ ks ++ flat_map (λ (d : Dial). d.kept) (ds ++ d ∷ [])
keeps_more ks ds d =
    append_assoc ks (flat_map (λ (d : Dial). d.kept) ds) d.kept
    ∙ ap (λ l. ks ++ l) (ap (λ l. flat_map (λ (d : Dial). d.kept) ds ++ l) (sym (append-nil d.kept)) ∙ sym (flat_map-append (λ (d : Dial). d.kept) ds (d ∷ [])))

told_more : (first old new : NetSeen) (coming : List (Option Coming)) (ks : List Kept) (cs : List Connect) (t : Told first old coming ks cs) (d : Dial) → d.answers ≡ t.left → new.answers ≡ Some d.left
    → new.kept ≡ Some ((ks ++ flat_map (λ (d : Dial). d.kept) t.dials) ++ d.kept) → IsDial first.manner (IsPlain first) d → Told first new coming ks (cs ++ d.connect ∷ [])
told_more first old new coming ks cs t d a l k is =
    record {
      dials = t.dials ++ d ∷ [];
      left = d.left;
      connects = connects_more t.dials cs d t.connects;
      chain = chain_more coming t.dials t.left d t.chain a;
      answers = l;
      kept = k ∙ ap (λ l. Some l) (keeps_more ks t.dials d);
      each = all_more (IsDial first.manner (IsPlain first)) t.dials d t.each is;
    }

-- ---- an open server

record Got (left : List (Option Coming)) (new : Option (List (Option Coming))) (P : Coming → Type 0) : Type 0 where
  coming : Coming
  rest : List (Option Coming)
  first : left ≡ Some coming ∷ rest
  answers : new ≡ Some rest
  is : P coming

got : (left : List (Option Coming)) (new : Option (List (Option Coming))) (P : Coming → Type 0) → IsFirst (Some left) new P → Got left new P
got [] new P h = absurd h
got (None ∷ xs) new P h = absurd h
got (Some x ∷ xs) new P h = record { coming = x; rest = xs; first = refl; answers = h.0; is = h.1 }

is_served : (manner : Manner) (plain : Type 0) (d : Dial) → d.connect.there ≡ true → IsServed manner d → IsDial manner plain d
is_served manner plain d e h = let P : Bool → Type 0 = λ b. IsDialBy b manner plain d in subst P (sym e) h

pub dials_served : {L : Type 0} (seen : L → Seen) (wrote : L → List ℕ → Type 0) (link : L) (to : Place) (first old mid new : NetSeen) (cs : List Connect) (c : Connect)
    → Dials to first old cs → Connected old mid to (seen link) (wrote link []) → c.there ≡ true → Returned seen wrote link mid new c → Dials to first new (cs ++ c ∷ [])
dials_served seen wrote link to first old mid new cs c d k is r =
    record {
      lent = omega arith;
      manner = r.manner ∙ k.manner ∙ d.manner;
      plain = r.plain ∙ k.plain ∙ d.plain;
      coming = same_coming first old new d.coming (same_coming old mid new (record { accepts = k.accepts; bound = k.bound; binds = k.binds }) r.coming);
      dialled = dialled_on first.dialled old.dialled new.dialled to d.dialled (inr (r.dialled ∙ k.dialled));
      refused = counts_found cs c first.connect_faults old.connect_faults new.connect_faults d.refused is (r.connects ∙ k.connects);
      told = λ coming ks ea ek.
          let t = d.told coming ks ea ek in
          let M : Manner → Type 0 = λ manner. IsFirst old.answers mid.answers (λ x. (seen link ≡ new_link manner x) × wrote link []) in
          let P : Option (List (Option Coming)) → Type 0 = λ o. IsFirst o mid.answers (λ x. (seen link ≡ new_link first.manner x) × wrote link []) in
          let g = got t.left mid.answers (λ x. (seen link ≡ new_link first.manner x) × wrote link []) (subst P t.answers (subst M d.manner k.first)) in
          let q = r.kept _ g.is.1 (ap (λ (s : Seen). s.closed) g.is.0) (k.kept ∙ t.kept) in
          let Q : Seen → Type 0 = λ s. KeptSo s c q.0 in
          let dial : Dial = record { connect = c; answers = t.left; left = g.rest; kept = q.0 ∷ [] } in
          let so : IsServed first.manner dial = record { coming = g.coming; link = q.0; first = g.first; keeps = refl; so = subst Q g.is.0 q.2 } in
          told_more first old new coming ks cs t dial refl (r.answers ∙ g.answers) q.1 (is_served first.manner (IsPlain first) dial is so);
    }

-- ---- a refused one

record Lost (left : List (Option Coming)) (new : Option (List (Option Coming))) : Type 0 where
  rest : List (Option Coming)
  answers : new ≡ Some rest

lost : (left : List (Option Coming)) (new : Option (List (Option Coming))) → LosesRefused (Some left) new → Lost left new
lost [] new h = record { rest = []; answers = h }
lost (None ∷ xs) new (inl h) = record { rest = xs; answers = h }
lost (None ∷ xs) new (inr h) = record { rest = None ∷ xs; answers = h }
lost (Some x ∷ xs) new h = record { rest = Some x ∷ xs; answers = h }

pub dials_refused : (to : Place) (first old new : NetSeen) (cs : List Connect) → Dials to first old cs → Refused old new to → Dials to first new (cs ++ connected false ∷ [])
dials_refused to first old new cs d r =
    record {
      lent = r.lent ∙ d.lent;
      manner = r.manner ∙ d.manner;
      plain = r.plain ∙ d.plain;
      coming = same_coming first old new d.coming (record { accepts = r.accepts; bound = r.bound; binds = r.binds });
      dialled = dialled_on first.dialled old.dialled new.dialled to d.dialled (inr r.dialled);
      refused = counts_refused cs (connected false) first.connect_faults old.connect_faults new.connect_faults d.refused refl r.never_falls r.rose;
      told = λ coming ks ea ek.
          let t = d.told coming ks ea ek in
          let P : Option (List (Option Coming)) → Type 0 = λ o. LosesRefused o new.answers in
          let Q : Option (List (Option Coming)) → Type 0 = λ o. RefusesOnly o in
          let l = lost t.left new.answers (subst P t.answers r.answers) in
          let R : Option (List (Option Coming)) → Type 0 = λ o. LosesRefused (Some t.left) o in
          let dial : Dial = record { connect = connected false; answers = t.left; left = l.rest; kept = [] } in
          told_more first old new coming ks cs t dial refl l.answers (r.kept ∙ t.kept ∙ ap (λ l. Some l) (sym (append-nil _))) (record {
            loses = subst R l.answers (subst P t.answers r.answers);
            only = λ p. subst Q t.answers (r.fails (d.plain ∙ p.0) (let e = d.lent in let f = p.1 in omega arith));
            so = refl;
            keeps = refl;
          });
    }

pub dials_memory : (to : Place) (first old new : NetSeen) (cs : List Connect) → Dials to first old cs → NoMemory old new to → Dials to first new cs
dials_memory to first old new cs d r =
    record {
      lent = r.lent ∙ d.lent;
      manner = r.manner ∙ d.manner;
      plain = r.plain ∙ d.plain;
      coming = same_coming first old new d.coming (record { accepts = r.accepts; bound = r.bound; binds = r.binds });
      dialled = dialled_on first.dialled old.dialled new.dialled to d.dialled r.dialled;
      refused = counts_same cs first.connect_faults old.connect_faults new.connect_faults d.refused r.connects;
      told = λ coming ks ea ek.
          let t = d.told coming ks ea ek in
          record { dials = t.dials; left = t.left; connects = t.connects; chain = t.chain; answers = r.answers ∙ t.answers; kept = r.kept ∙ t.kept; each = t.each };
    }

-- ---- what an opening and a closing move

pub moved_opened : (past : Past) (opened : Bool) → moved (record past { connects = past.connects ++ connected opened ∷ [] }) ≡ moved past + 1
moved_opened past opened = let e : sum_by moved_by (past.connects ++ connected opened ∷ []) ≡ sum_by moved_by past.connects + moved_by (connected opened) = moved_before past.connects (connected opened) in omega arith

pub moved_closed : (before : List Connect) (now : Past) (c : Connect) (how : Close) → now.connects ≡ before ++ c ∷ [] → c.closed ≡ None → moved now + 1 ≤ moved (record now { connects = before ++ (record c { closed = Some how }) ∷ [] })
moved_closed before now c how e none =
    let old : sum_by moved_by now.connects ≡ sum_by moved_by before + moved_by c = ap (λ l. sum_by moved_by l) e ∙ moved_before before c in
    let new : sum_by moved_by (before ++ (record c { closed = Some how }) ∷ []) ≡ sum_by moved_by before + moved_by (record c { closed = Some how }) = moved_before before (record c { closed = Some how }) in
    let P : Option Close → Type 0 = λ o. 1 + size_of c.stream + length c.taken + (if c.stopped then 1 else 0) + (if is_some o then 1 else 0) + 1 ≤ moved_by (record c { closed = Some how }) in
    let at_none : P None = omega arith in
    let less : moved_by c + 1 ≤ moved_by (record c { closed = Some how }) = subst P (sym none) at_none in
    omega arith

-- ---- what an exchange comes to

pub ends_as : {T : Type 0} (r : Result T SessionFault) (A C : T → Type 0) (B D : Bool → Type 0) → ((x : T) → A x → C x) → ((b : Bool) → B b → D b) → Ends r A B → Ends r C D
ends_as (Ok x) A C B D f h k = f x k
ends_as (Err fault) A C B D f h k = h (failed_by fault) k

pub served_goes : {L : Type 0} (S : Past → Type 0) (seen : L → Seen) (wrote : L → List ℕ → Type 0) (first client : L) (failed : Bool) (link : L) (to : Place) (first_net old mid new : NetSeen) (past : Past) (had has : ℕ)
    → Dials to first_net old past.connects → Connected old mid to (seen link) (wrote link []) → Served S seen wrote first client failed link mid new past had has → Goes S seen wrote first client failed to first_net new past had has
served_goes S seen wrote first client failed link to first_net old mid new past had has d k s =
    let P : List Connect → Type 0 = λ cs. Dials to first_net new cs in
    record { now = s.behind; idle = s.idle; dials = subst P (sym s.connects) (dials_served seen wrote link to first_net old mid new past.connects s.c d k s.there s.returned); more = s.more }
