-- Lines of exchanges, one behind the other.
use Rattle.std.proofs.Common.{◌≡◌, ℕ, List, [], ◌∷◌, ◌++◌, Bool, true, Option, refl, sym, ap, subst, ◌∙◌, inl, inr, append_assoc}
use Rattle.std.specs.Prelude.{Result}
use Rattle.std.specs.List.{AllByRecursion}
use Rattle.std.proofs.lemmas.List.{append-nil}
use Rattle.session_model.specs.Meaning.{Meaning}
use Rattle.session_core.specs.History.{Past}
use Rattle.px_link.specs.Link.{Seen}
use Rattle.px_link.specs.Net.{Place, NetSeen}
use Rattle.px_link.specs.declared.turns.Turn.{Turn}
use Rattle.htx_drive.specs.Machine.{CoreSeen, TellsSo}
use Rattle.htx_drive.specs.Turned.{WorkedIn}
use Rattle.htx_drive.specs.Weave.Single.{GivesUp}
use Rattle.htx_drive.specs.declared.Ran.{Ran}
use Rattle.htx_drive.specs.declared.SessionFault.{SessionFault}
use Rattle.px_run.specs.Course.{WorksOn, MayStep}
use Rattle.px_run.specs.Log.{Entry, entry_line, entry_lines, IsMoment, TellsOf, IsTold, IsLine, MoreLines, LinesMore}
use Rattle.px_run.proofs.Asked.{runs_as}

-- ---- lines

pub entries_then : (xs ys : List Entry) → entry_lines (xs ++ ys) ≡ entry_lines xs ++ entry_lines ys
entries_then [] ys = refl
entries_then (x ∷ xs) ys = ap (λ l. entry_line x ++ l) (entries_then xs ys) ∙ sym (append_assoc (entry_line x) (entry_lines xs) (entry_lines ys))

all_then : {A : Type 0} (P : A → Type 0) (xs ys : List A) → AllByRecursion P xs → AllByRecursion P ys → AllByRecursion P (xs ++ ys)
all_then P [] ys h k = k
all_then P (x ∷ xs) ys h k = (h.0, all_then P xs ys h.1 k)

all_as : {A : Type 0} (P Q : A → Type 0) → ((x : A) → P x → Q x) → (xs : List A) → AllByRecursion P xs → AllByRecursion Q xs
all_as P Q f [] h = tt
all_as P Q f (x ∷ xs) h = (f x h.0, all_as P Q f xs h.1)

pub more_none : (so : Entry → Type 0) (old : List ℕ) → MoreLines so old old
more_none so old = record { entries = []; text = sym (append-nil old); each = tt }

pub more_then : (so : Entry → Type 0) (old mid new : List ℕ) → MoreLines so old mid → MoreLines so mid new → MoreLines so old new
more_then so old mid new m n =
    record {
      entries = m.entries ++ n.entries;
      text = n.text ∙ ap (λ l. l ++ entry_lines n.entries) m.text ∙ append_assoc old (entry_lines m.entries) (entry_lines n.entries) ∙ ap (λ l. old ++ l) (sym (entries_then m.entries n.entries));
      each = all_then so m.entries n.entries m.each n.each;
    }

pub more_as : (so how : Entry → Type 0) (old new : List ℕ) → ((entry : Entry) → so entry → how entry) → MoreLines so old new → MoreLines how old new
more_as so how old new f m = record { entries = m.entries; text = m.text; each = all_as so how f m.entries m.each }

-- one more
pub more_one : (so : Entry → Type 0) (old new : List ℕ) (entry : Entry) → so entry → new ≡ old ++ entry_line entry → MoreLines so old new
more_one so old new entry s e = record { entries = entry ∷ []; text = e ∙ ap (λ l. old ++ l) (sym (append-nil (entry_line entry))); each = (s, tt) }

module _ (logs : Bool) (connection : ℕ) where
  line_as : (so how : Entry → Type 0) → ((entry : Entry) → so entry → how entry) → (entry : Entry) → IsLine logs connection so entry → IsLine logs connection how entry
  line_as so how f entry l = record { asked = l.asked; number = l.number; is = f entry l.is }

  pub logs_none : (so : Entry → Type 0) (text : List ℕ) → LinesMore so logs logs connection connection text text
  logs_none so text = record { more = more_none (IsLine logs connection so) text; same_logs = refl; same_connection = refl }

  pub logs_as : (so how : Entry → Type 0) (logs_now : Bool) (connection_now : ℕ) (old new : List ℕ) → ((entry : Entry) → so entry → how entry) → LinesMore so logs logs_now connection connection_now old new → LinesMore how logs logs_now connection connection_now old new
  logs_as so how logs_now connection_now old new f l =
      record { more = more_as (IsLine logs connection so) (IsLine logs connection how) old new (λ entry k. line_as so how f entry k) l.more; same_logs = l.same_logs; same_connection = l.same_connection }

  pub logs_then : (so : Entry → Type 0) (logs_mid logs_now : Bool) (connection_mid connection_now : ℕ) (old mid new : List ℕ) → LinesMore so logs logs_mid connection connection_mid old mid → LinesMore so logs_mid logs_now connection_mid connection_now mid new
      → LinesMore so logs logs_now connection connection_now old new
  logs_then so logs_mid logs_now connection_mid connection_now old mid new l k =
      record {
        more = more_then (IsLine logs connection so) old mid new l.more (more_as (IsLine logs_mid connection_mid so) (IsLine logs connection so) mid new (λ entry i. record { asked = sym l.same_logs ∙ i.asked; number = i.number ∙ l.same_connection; is = i.is }) k.more);
        same_logs = k.same_logs ∙ l.same_logs;
        same_connection = k.same_connection ∙ l.same_connection;
      }

  -- one more
  pub logs_one : (so : Entry → Type 0) (logs_now : Bool) (connection_now : ℕ) (old new : List ℕ) (entry : Entry) → logs ≡ true → entry.connection ≡ connection → so entry → logs_now ≡ logs → connection_now ≡ connection → new ≡ old ++ entry_line entry
      → LinesMore so logs logs_now connection connection_now old new
  logs_one so logs_now connection_now old new entry a n s f g e = record { more = more_one (IsLine logs connection so) old new entry (record { asked = a; number = n; is = s }) e; same_logs = f; same_connection = g }

  -- none more
  pub logs_same : (so : Entry → Type 0) (logs_now : Bool) (connection_now : ℕ) (old new : List ℕ) → logs_now ≡ logs → connection_now ≡ connection → new ≡ old → LinesMore so logs logs_now connection connection_now old new
  logs_same so logs_now connection_now old new f g e =
      let P : List ℕ → Type 0 = λ l. MoreLines (IsLine logs connection so) old l in
      record { more = subst P (sym e) (more_none (IsLine logs connection so) old); same_logs = f; same_connection = g }

-- it was begun for a connection
pub begun_more : (so : Entry → Type 0) (logs logs_begun : Bool) (connection connection_begun : ℕ) (old begun new : List ℕ) → logs_begun ≡ logs → connection_begun ≡ connection → begun ≡ old → MoreLines (IsLine logs_begun connection_begun so) begun new → MoreLines (IsLine logs connection so) old new
begun_more so logs logs_begun connection connection_begun old begun new e f t m =
    let P : List ℕ → Type 0 = λ l. MoreLines (IsLine logs connection so) l new in
    subst P t (more_as (IsLine logs_begun connection_begun so) (IsLine logs connection so) begun new (λ entry i. record { asked = sym e ∙ i.asked; number = i.number ∙ f; is = i.is }) m)

-- ---- exchanges that are told

module _ {C L : Type 0} (M : Meaning) (stands : C → Past → Type 0) (sees : C → CoreSeen) (seen : L → Seen) (wrote : L → List ℕ → Type 0) (first : L) (to : Place) (first_net : NetSeen) (core : C) where
  -- a session whose core has worked is at a moment
  pub moment_works : (client : L) (server : Option L) (net : NetSeen) → WorksOn stands sees core seen wrote first client server to first_net net → IsMoment (stands core) seen wrote first to first_net
  moment_works client server net w =
      let h = w.1 [] in
      inl (client, server, net, h.0, runs_as (WorkedIn stands sees (w.0 ++ []) [] h.0 0 core) (stands core) seen wrote first client server to first_net net h.0 (λ past s. s.stand) h.1)

  -- one whose write to its client failed is at a moment
  pub moment_failed : (client : L) (net : NetSeen) (all : List Turn) (count : ℕ) → GivesUp M stands sees all core seen wrote first client to first_net net count true → IsMoment (stands core) seen wrote first to first_net
  moment_failed client net all count g =
      let s = g.1 in
      let i = s.idle in
      let stand = i.stand in
      inr (client, net, count, record { past = s.past; idle = record { stand = stand.stand refl; came = i.came; put = i.put; closed = i.closed }; dials = s.dials; more = s.more })

  pub told_at : IsMoment (stands core) seen wrote first to first_net → ((past : Past) → stands core past → TellsSo M past (sees core)) → (entry : Entry) → TellsOf (sees core) entry → IsTold M stands sees seen wrote first to first_net entry
  told_at m so entry t = record { core = core; moment = m; tells = t; so = so }

  -- the lines of what its core told then
  pub logs_told : (logs logs_now : Bool) (connection connection_now : ℕ) (old new : List ℕ) → ((past : Past) → stands core past → TellsSo M past (sees core)) → IsMoment (stands core) seen wrote first to first_net
      → LinesMore (TellsOf (sees core)) logs logs_now connection connection_now old new → LinesMore (IsTold M stands sees seen wrote first to first_net) logs logs_now connection connection_now old new
  logs_told logs logs_now connection connection_now old new so m l = logs_as logs connection (TellsOf (sees core)) (IsTold M stands sees seen wrote first to first_net) logs_now connection_now old new (λ entry t. told_at m so entry t) l

  -- the same core works on
  pub works_by : (other : C) (client : L) (server : Option L) (net : NetSeen) → other ≡ core → WorksOn stands sees core seen wrote first client server to first_net net → WorksOn stands sees other seen wrote first client server to first_net net
  works_by other client server net e w = let P : C → Type 0 = λ c. WorksOn stands sees c seen wrote first client server to first_net net in subst P (sym e) w

-- it may go on still
pub may_by : {C L : Type 0} (sees : C → CoreSeen) (sound : C → Type 0) (core other : C) (server : Option L) (net : NetSeen) (ran : Option (Result Ran SessionFault)) → other ≡ core → MayStep sees sound core server net ran → MayStep sees sound other server net ran
may_by sees sound core other server net ran e m = let P : _ → Type 0 = λ c. MayStep sees sound c server net ran in subst P (sym e) m
