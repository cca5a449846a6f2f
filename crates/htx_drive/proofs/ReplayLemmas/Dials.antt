-- From the connects of a session to the entries of a record, and to what the net kept, in whatever manner its links pass on what is written to them.
use Rattle.std.proofs.Common.{◌≡◌, ℕ, zero, suc, inl, inr, List, [], ◌∷◌, ◌++◌, Bool, true, false, ◌&&◌, ◌==◌, not, Option, Some, None, is_some, map, if◌then◌else◌, sym, ap, subst, ◌∙◌, refl, arith}
use Rattle.std.specs.Prelude.{unwrap_or}
use Rattle.std.specs.List.{flat_map, AllByRecursion, AllZip}
use Rattle.std.proofs.Math.Dec.{eqb-suc-zero}
use Rattle.std.proofs.lemmas.Bool.{false≢true}
use Rattle.http_model.specs.declared.Close.{Close}
use Rattle.http_model.specs.declared.Close.TheVariants.{Failed}
use Rattle.px_link.specs.Told.{Rose}
use Rattle.px_link.specs.Link.{Seen, Manner, PassesOn}
use Rattle.px_link.specs.Net.{Coming, Kept, RefusesOnly, new_link, has_failed}
use Rattle.px_link.specs.MemLink.{MemLinkSeen}
use Rattle.px_link.specs.MemNet.{keeping}
use Rattle.session_model.specs.Stream.{Stream, Server, NotThere, Open, Sent}
use Rattle.session_core.specs.History.{Connect, sent_of, closed_so}
use Rattle.htx_drive.specs.Came.{FailsSo}
use Rattle.htx_drive.specs.Driven.{IsOver}
use Rattle.htx_drive.specs.Dialled.{Dial, IsServed, IsRefused, IsDial, IsDialBy, KeptSo, Chain, CountsRefused, all_there, closed_how}
use Rattle.htx_drive.specs.Headline.{IsServerOf, stream_of}
use Rattle.rec_format.specs.Entries.{ServerEntry}
use Rattle.htx_drive.specs.Replay.Memory.{coming_of, answer_of}
use Rattle.htx_drive.specs.Replay.Outcome.{sent_on, refused_by}
use Rattle.htx_drive.specs.Replay.Headed.{IsPassedOn, ArePassedOn, has_stopped}
use Rattle.htx_drive.specs.Replay.Replayed.{Serving, IsFoundBy, FindsBy}
use Rattle.htx_drive.proofs.ReplayLemmas.Lasts.{OnlyLast}
use Rattle.htx_drive.proofs.ReplayLemmas.Streams.{Tells}

abbrev pub connects : List Dial → List Connect
connects ds = map (λ (d : Dial). d.connect) ds

abbrev pub sents : List Dial → List (Option Sent)
sents ds = map sent_of (connects ds)

no_sents : (ds : List Dial) → sents ds ≡ [] → ds ≡ []
no_sents [] e = refl
no_sents (d ∷ ds) e = absurd cc

sent_there : (c : Connect) → c.there ≡ true → sent_of c ≡ Some (record { bytes = c.taken; close = closed_so c.closed })
sent_there c e = ap (λ (b : Bool). if b then Some (record { bytes = c.taken; close = closed_so c.closed }) else None) e

sent_refused : (c : Connect) → c.there ≡ false → sent_of c ≡ None
sent_refused c e = ap (λ (b : Bool). if b then Some (record { bytes = c.taken; close = closed_so c.closed }) else None) e

only_more : (s : Option Sent) (sent : Sent) (others : List (Option Sent)) → s ≡ Some sent → OnlyLast (s ∷ others) → OnlyLast others
only_more s sent others e h = let P : Option Sent → Type 0 = λ s. OnlyLast (s ∷ others) in subst P e h

only_one : (s : Option Sent) (others : List (Option Sent)) → s ≡ None → OnlyLast (s ∷ others) → others ≡ []
only_one s others e h = let P : Option Sent → Type 0 = λ s. OnlyLast (s ∷ others) in subst P e h

served : (manner : Manner) (plain : Type 0) (d : Dial) → d.connect.there ≡ true → IsDial manner plain d → IsServed manner d
served manner plain d e h = let P : Bool → Type 0 = λ b. IsDialBy b manner plain d in subst P e h

refused : (manner : Manner) (plain : Type 0) (d : Dial) → d.connect.there ≡ false → IsDial manner plain d → IsRefused plain d
refused manner plain d e h = let P : Bool → Type 0 = λ b. IsDialBy b manner plain d in subst P e h

-- ---- what was kept

abbrev close_in : Option (Option Close) → Close
close_in None = Failed
close_in (Some closed) = unwrap_or closed Failed

abbrev has_failed_by : ℕ → Bool
has_failed_by faults = not (faults == 0)

abbrev pub kept_sent : Kept → Option Sent
kept_sent k = Some (record { bytes = k.wrote; close = close_in k.closed })

abbrev pub refused_if_not : Bool → List (Option Sent)
refused_if_not true = []
refused_if_not false = None ∷ []

same_close : (closed : Option Close) → is_some closed ≡ true → closed_how closed ≡ closed_so closed
same_close None e = absurd (false≢true e)
same_close (Some how) e = refl

rose_some : (n : ℕ) → Rose 0 n → has_failed_by n ≡ true
rose_some zero (inl less) = absurd (omega arith)
rose_some zero (inr full) = absurd (omega arith)
rose_some (suc n) rose = ap not (eqb-suc-zero n)

-- a link that was new has failed where it stopped
failed_so : (first last : Seen) (stopped : Bool) → first.write_faults ≡ 0 → FailsSo first last stopped → has_failed last ≡ stopped
failed_so first last true none h = let R : ℕ → Type 0 = λ n. Rose n last.write_faults in rose_some last.write_faults (subst R none h)
failed_so first last false none h = ap has_failed_by (h ∙ none)

-- what a kept link passed on of what was sent
kept_is : (manner : Manner) (first : Seen) (k : Kept) (c : Connect) (stopped : Bool) → c.there ≡ true → IsOver c → first.manner ≡ manner → first.write_faults ≡ 0 → stopped ≡ c.stopped → KeptSo first c k → IsPassedOn manner stopped (sent_of c) (kept_sent k)
kept_is manner first k c stopped there over in_manner none at h =
    let P : Option Sent → Type 0 = λ s. IsPassedOn manner stopped s (kept_sent k) in
    let Q : Manner → Type 0 = λ m. PassesOn m (has_failed h.last) k.wrote c.taken in
    let S : Bool → Type 0 = λ b. PassesOn manner b k.wrote c.taken in
    let closed : k.closed ≡ Some (Some (closed_how c.closed)) = ap (λ (k : Kept). k.closed) h.is ∙ h.closed in
    let wrote = subst S (failed_so first h.last c.stopped none h.fails ∙ sym at) (subst Q in_manner h.wrote) in
    subst P (sym (sent_there c there)) (wrote, ap close_in closed ∙ same_close c.closed (over there))

there_first : (c : Connect) (cs : List Connect) (b : Bool) → c.there ≡ b → all_there (c ∷ cs) ≡ (b && all_there cs)
there_first c cs b e = ap (λ (x : Bool). x && all_there cs) e

abbrev kept_of : List Dial → List Kept
kept_of ds = flat_map (λ (d : Dial). d.kept) ds

abbrev Sends : Manner → List Dial → List Server → Type 0
Sends manner ds servers = ArePassedOn manner servers (sents ds) (map kept_sent (kept_of ds) ++ refused_if_not (all_there (connects ds)))

sends_served : (manner : Manner) (d : Dial) (ds : List Dial) (server : Server) (servers : List Server) (k : Kept) → d.connect.there ≡ true → d.kept ≡ k ∷ [] → IsPassedOn manner (has_stopped server) (sent_of d.connect) (kept_sent k) → Sends manner ds servers → Sends manner (d ∷ ds) (server ∷ servers)
sends_served manner d ds server servers k there kept is rest =
    let K : List Kept → Type 0 = λ l. ArePassedOn manner (server ∷ servers) (sents (d ∷ ds)) (map kept_sent (l ++ kept_of ds) ++ refused_if_not (all_there (connects ds))) in
    let B : Bool → Type 0 = λ b. ArePassedOn manner (server ∷ servers) (sents (d ∷ ds)) (map kept_sent (kept_of (d ∷ ds)) ++ refused_if_not b) in
    subst B (sym (there_first d.connect (connects ds) true there)) (subst K (sym kept) (is, rest))

no_more : (manner : Manner) (servers : List Server) → AllZip IsServerOf [] servers → ArePassedOn manner servers [] []
no_more manner [] zip = tt
no_more manner (server ∷ servers) zip = absurd zip

sends_refused : (manner : Manner) (d : Dial) (ds : List Dial) (server : Server) (servers : List Server) → d.connect.there ≡ false → d.kept ≡ [] → ds ≡ [] → AllZip IsServerOf ds servers → Sends manner (d ∷ ds) (server ∷ servers)
sends_refused manner d ds server servers there kept none zip =
    let P : List Dial → Type 0 = λ l. Sends manner (d ∷ l) (server ∷ servers) in
    let Z : List Dial → Type 0 = λ l. AllZip IsServerOf l servers in
    let K : List Kept → Type 0 = λ l. ArePassedOn manner (server ∷ servers) (sents (d ∷ [])) (map kept_sent (l ++ []) ++ refused_if_not false) in
    let B : Bool → Type 0 = λ b. ArePassedOn manner (server ∷ servers) (sents (d ∷ [])) (map kept_sent (kept_of (d ∷ [])) ++ refused_if_not b) in
    let S : Option Sent → Type 0 = λ s. IsPassedOn manner (has_stopped server) s None in
    subst P (sym none) (subst B (sym (there_first d.connect [] false there)) (subst K (sym kept) (subst S (sym (sent_refused d.connect there)) tt, no_more manner servers (subst Z none zip))))

stopped_so : (d : Dial) (server : Server) → d.connect.there ≡ true → IsServerOf d server → has_stopped server ≡ d.connect.stopped
stopped_so d NotThere there of = absurd (false≢true (sym of ∙ there))
stopped_so d (Open stream stopped) there of = of.1

sends_more : (manner : Manner) (plain : Type 0) (d : Dial) (ds : List Dial) (server : Server) (servers : List Server) (there : Bool) → d.connect.there ≡ there → IsDial manner plain d → IsServerOf d server → IsOver d.connect → OnlyLast (sents (d ∷ ds)) → AllZip IsServerOf ds servers → (OnlyLast (sents ds) → Sends manner ds servers) → Sends manner (d ∷ ds) (server ∷ servers)
sends_more manner plain d ds server servers true there is of over last zip rest =
    let s = served manner plain d there is in
    sends_served manner d ds server servers s.link there s.keeps (kept_is manner (new_link manner s.coming) s.link d.connect (has_stopped server) there over refl refl (stopped_so d server there of) s.so)
    (rest (only_more (sent_of d.connect) _ (sents ds) (sent_there d.connect there) last))
sends_more manner plain d ds server servers false there is of over last zip rest =
    let r = refused manner plain d there is in
    sends_refused manner d ds server servers there r.keeps (no_sents ds (only_one (sent_of d.connect) (sents ds) (sent_refused d.connect there) last)) zip

-- what was sent to servers was passed on by the kept links, with their closes, and behind them one that was refused, if any was
pub sends : (manner : Manner) (plain : Type 0) (ds : List Dial) (servers : List Server) → AllByRecursion (IsDial manner plain) ds → AllZip IsServerOf ds servers → AllByRecursion IsOver (connects ds) → OnlyLast (sents ds) → Sends manner ds servers
sends manner plain [] servers all zip over last = no_more manner servers zip
sends manner plain (d ∷ ds) [] all zip over last = absurd zip
sends manner plain (d ∷ ds) (server ∷ servers) all zip over last = sends_more manner plain d ds server servers d.connect.there refl all.0 zip.0 over.0 last zip.1 (λ l. sends manner plain ds servers all.1 zip.1 over.1 l)

counts_by : (cs : List Connect) (n : ℕ) (all : Bool) → all_there cs ≡ all → CountsRefused cs 0 n → refused_by n ≡ refused_if_not all
counts_by cs n true e h = ap refused_by (h.found e)
counts_by cs zero false e h = none (h.refused e)
  where
    none : Rose 0 0 → refused_by 0 ≡ refused_if_not false
    none (inl less) = absurd (omega arith)
    none (inr full) = absurd (omega arith)
counts_by cs (suc n) false e h = refl

pub counts : (cs : List Connect) (n : ℕ) → CountsRefused cs 0 n → refused_by n ≡ refused_if_not (all_there cs)
counts cs n h = counts_by cs n (all_there cs) refl h

pub kept_links : (ls : List MemLinkSeen) → map kept_sent (map keeping ls) ≡ map (λ (l : MemLinkSeen). Some (sent_on l)) ls
kept_links [] = refl
kept_links (l ∷ ls) = ap (λ (sent : List (Option Sent)). Some (sent_on l) ∷ sent) (kept_links ls)

-- ---- the entries that the connects found

none_first : (coming : Coming) (left later : List (Option Coming)) → None ∷ later ≡ Some coming ∷ left → ⊥
none_first coming left later e = cc

first_coming : (a b : Coming) (xs ys : List (Option Coming)) → Some a ∷ xs ≡ Some b ∷ ys → a ≡ b
first_coming a b xs ys e = cc

rest_coming : (a b : Coming) (xs ys : List (Option Coming)) → Some a ∷ xs ≡ Some b ∷ ys → xs ≡ ys
rest_coming a b xs ys e = cc

-- the entry of a server that a connect found, and those behind it
record Entry (entries : List (Option ServerEntry)) (left : List (Option Coming)) (coming : Coming) : Type 0 where
  entry : ServerEntry
  others : List (Option ServerEntry)
  first : entries ≡ Some entry ∷ others
  same : coming ≡ coming_of entry
  rest : left ≡ map answer_of others

entry_of : (entries : List (Option ServerEntry)) (coming : Coming) (left : List (Option Coming)) → map answer_of entries ≡ Some coming ∷ left → Entry entries left coming
entry_of [] coming left e = absurd cc
entry_of (None ∷ others) coming left e = absurd (none_first coming left (map answer_of others) e)
entry_of (Some entry ∷ others) coming left e =
    record {
      entry = entry;
      others = others;
      first = refl;
      same = sym (first_coming (coming_of entry) coming (map answer_of others) left e);
      rest = sym (rest_coming (coming_of entry) coming (map answer_of others) left e);
    }

none_found : (serves : Serving) (s : Option Sent) → s ≡ None → IsFoundBy serves None NotThere s
none_found serves s e = let P : Option Sent → Type 0 = λ s. IsFoundBy serves None NotThere s in subst P (sym e) tt

ends_there : (serves : Serving) (entries : List (Option ServerEntry)) (ds : List Dial) (servers : List Server) → ds ≡ [] → AllZip IsServerOf ds servers → FindsBy serves entries servers (sents ds)
ends_there serves entries [] [] none zip = tt
ends_there serves entries [] (server ∷ servers) none zip = absurd zip
ends_there serves entries (d ∷ ds) servers none zip = absurd cc

-- a refused connect is the last: past all entries, or at a refused one
refused_last : (serves : Serving) (entries : List (Option ServerEntry)) (d : Dial) (ds : List Dial) (servers : List Server) → d.connect.there ≡ false → RefusesOnly (Some (map answer_of entries)) → ds ≡ [] → AllZip IsServerOf ds servers
    → FindsBy serves entries (NotThere ∷ servers) (sents (d ∷ ds))
refused_last serves [] d ds servers there only none zip = (none_found serves (sent_of d.connect) (sent_refused d.connect there), ends_there serves [] ds servers none zip)
refused_last serves (None ∷ entries) d ds servers there only none zip = (none_found serves (sent_of d.connect) (sent_refused d.connect there), ends_there serves entries ds servers none zip)
refused_last serves (Some entry ∷ entries) d ds servers there only none zip = absurd only

served_first : (manner : Manner) (serves : Serving) → Tells manner serves → (entries : List (Option ServerEntry)) (d : Dial) (ds : List Dial) (servers : List Server) (stream : Stream) (stopped : Bool) → d.answers ≡ map answer_of entries → IsServerOf d (Open stream stopped) → IsServed manner d
    → ((others : List (Option ServerEntry)) → d.left ≡ map answer_of others → FindsBy serves others servers (sents ds)) → FindsBy serves entries (Open stream stopped ∷ servers) (sents (d ∷ ds))
served_first manner serves tells entries d ds servers stream stopped at is s rest =
    let found = entry_of entries s.coming d.left (sym at ∙ s.first) in
    let coming : is.2 ≡ s.coming = first_coming is.2 s.coming d.left d.left (sym is.3 ∙ s.first) in
    let own : stream ≡ stream_of d.connect.stream (coming_of found.entry).bytes (coming_of found.entry).ending =
    is.4 ∙ ap (λ (c : Coming). stream_of d.connect.stream c.bytes c.ending) (coming ∙ found.same) in
    let K : Coming → Type 0 = λ c. KeptSo (new_link manner c) d.connect s.link in
    let so = tells found.entry d.connect s.link stream (subst K found.same s.so) own in
    let S : Bool → Type 0 = λ b. serves found.entry stream b d.connect.taken in
    let F : Option Sent → Type 0 = λ s. IsFoundBy serves (Some found.entry) (Open stream stopped) s in
    let P : List (Option ServerEntry) → Type 0 = λ l. FindsBy serves l (Open stream stopped ∷ servers) (sents (d ∷ ds)) in
    subst P (sym found.first) (subst F (sym (sent_there d.connect is.0)) (subst S (sym is.1) so), rest found.others found.rest)

finds_more : (manner : Manner) (serves : Serving) → Tells manner serves → (plain : Type 0) → plain → (entries : List (Option ServerEntry)) (d : Dial) (ds : List Dial) (server : Server) (servers : List Server) → d.answers ≡ map answer_of entries → IsDial manner plain d → IsServerOf d server → OnlyLast (sents (d ∷ ds)) → AllZip IsServerOf ds servers
    → ((others : List (Option ServerEntry)) → d.left ≡ map answer_of others → OnlyLast (sents ds) → FindsBy serves others servers (sents ds)) → FindsBy serves entries (server ∷ servers) (sents (d ∷ ds))
finds_more manner serves tells plain proof entries d ds NotThere servers at is of last zip rest =
    let r = refused manner plain d of is in
    let P : List (Option Coming) → Type 0 = λ l. RefusesOnly (Some l) in
    refused_last serves entries d ds servers of (subst P at (r.only proof)) (no_sents ds (only_one (sent_of d.connect) (sents ds) (sent_refused d.connect of) last)) zip
finds_more manner serves tells plain proof entries d ds (Open stream stopped) servers at is of last zip rest =
    let s = served manner plain d of.0 is in
    served_first manner serves tells entries d ds servers stream stopped at of s (λ others e. rest others e (only_more (sent_of d.connect) _ (sents ds) (sent_there d.connect of.0) last))

-- the connects found the entries in their order
pub finds : (manner : Manner) (serves : Serving) → Tells manner serves → (plain : Type 0) → plain → (entries : List (Option ServerEntry)) (answers left : List (Option Coming)) (ds : List Dial) (servers : List Server) → answers ≡ map answer_of entries → Chain answers ds left → AllByRecursion (IsDial manner plain) ds → OnlyLast (sents ds) → AllZip IsServerOf ds servers
    → FindsBy serves entries servers (sents ds)
finds manner serves tells plain proof entries answers left [] [] at chain all last zip = tt
finds manner serves tells plain proof entries answers left [] (server ∷ servers) at chain all last zip = absurd zip
finds manner serves tells plain proof entries answers left (d ∷ ds) [] at chain all last zip = absurd zip
finds manner serves tells plain proof entries answers left (d ∷ ds) (server ∷ servers) at chain all last zip =
    finds_more manner serves tells plain proof entries d ds server servers (chain.0 ∙ at) all.0 zip.0 last zip.1
    (λ others e l. finds manner serves tells plain proof others d.left left ds servers e chain.1 all.1 l zip.1)
